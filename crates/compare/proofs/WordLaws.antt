-- Words of two tables compared one by one, and what stands in the data of a row. Assumes nothing.
use mathlib.Core.Path.{◌≡◌, refl, sym, ap, ap₂, ◌∙◌}
use Prim.Native.Nat.{ℕ, zero, suc, ◌+◌, ◌-◌, ◌*◌, ◌≤◌, ◌<◌}
use native.Mathlib.Omega.{arith}
use mathlib.Core.Bool.{Bool, true, false, ◌&&◌}
use mathlib.Core.List.{List, [], ◌∷◌, ◌++◌}
use lib.ListN.{length, take, drop, get_or, length-drop}
use lib.Seq.{take_at, drop-drop, take-suc, get_or-take, get_or-drop}
use lib.Dec.{eqb}
use lib.Bits.{bit_or, bit_xor, xor_self}
use native.Mathlib.Numerals.{add-one}
use Rattle.format.proofs.OrLaws.{or_none, or_zeros, xor_none}
use Rattle.std.specs.Str.{bytes_eq}
use Rattle.std.proofs.lemmas.Slice.Eq.{bytes_eq-Decides}
use Rattle.format.proofs.Choices.{whether, clash, split_eq, eq_true, eq_false, true_eq, both_left, both_right, both_true}
use Rattle.table.specs.Rows.{rows_of, data_of}
use Rattle.compare.specs.Walks.{same_words}

-- ---- one word more: what differs, joined
joined_test : (c x y : ℕ) → eqb (bit_or c (bit_xor x y)) 0 ≡ (eqb c 0 && eqb x y)
joined_test c x y =
    split_eq c 0
    (λ e. split_eq x y
    (λ f. eq_true _ 0 (or_zeros c (bit_xor x y) e (ap (λ z. bit_xor z y) f ∙ xor_self y)) ∙ sym (rw (eq_true c 0 e, eq_true x y f) refl))
    (λ f. eq_false _ 0 (λ z. f (xor_none x y (or_none c (bit_xor x y) z).1)) ∙ sym (rw (eq_true c 0 e, eq_false x y f) refl)))
    (λ e. eq_false _ 0 (λ z. e (or_none c (bit_xor x y) z).0) ∙ sym (rw (eq_false c 0 e) refl))

and_true : (a : Bool) → (a && true) ≡ a
and_true true = refl
and_true false = refl

and_assoc : (a b c : Bool) → (a && (b && c)) ≡ ((a && b) && c)
and_assoc true b c = refl
and_assoc false b c = refl

equal_on : (n : ℕ) (a b : List ℕ) → n < length a → n < length b
    → bytes_eq (take (suc n) a) (take (suc n) b) ≡ (bytes_eq (take n a) (take n b) && eqb (get_or a n 0) (get_or b n 0))
equal_on n [] b h k = absurd (omega arith)
equal_on n (x ∷ a) [] h k = absurd (omega arith)
equal_on zero (x ∷ a) (y ∷ b) h k = and_true (eqb x y)
equal_on (suc n) (x ∷ a) (y ∷ b) h k =
    ap (λ z. eqb x y && z) (equal_on n a b (omega arith) (omega arith)) ∙ and_assoc (eqb x y) (bytes_eq (take n a) (take n b)) (eqb (get_or a n 0) (get_or b n 0))

pub joined_on : (a b : List ℕ) (n c : ℕ) → n < length a → length a ≡ length b → eqb c 0 ≡ bytes_eq (take n a) (take n b)
    → eqb (bit_or c (bit_xor (get_or a n 0) (get_or b n 0))) 0 ≡ bytes_eq (take (n + 1) a) (take (n + 1) b)
joined_on a b n c h e i =
    joined_test c (get_or a n 0) (get_or b n 0) ∙ ap (λ z. z && eqb (get_or a n 0) (get_or b n 0)) i
    ∙ sym (ap (λ m. bytes_eq (take m a) (take m b)) (add-one n) ∙ equal_on n a b h (omega arith))

-- ---- as lists
taken_on : (w : List ℕ) (i n : ℕ) → i + suc n ≤ length w → take (suc n) (drop i w) ≡ take n (drop i w) ++ (get_or w (i + n) 0 ∷ [])
taken_on w i n h = take-suc (drop i w) n 0 (omega (arith, length-drop i w)) ∙ ap (λ z. take n (drop i w) ++ (z ∷ [])) (get_or-drop i w n 0)

pub same_taken : (w v : List ℕ) (i j n : ℕ) → i + n ≤ length w → j + n ≤ length v → same_words w v i j n ≡ true → take n (drop i w) ≡ take n (drop j v)
unfolding same_words
same_taken w v i j zero h k e = refl
same_taken w v i j (suc n) h k e =
    taken_on w i n h
    ∙ ap₂ (λ l z. l ++ (z ∷ [])) (same_taken w v i j n (omega arith) (omega arith) (both_left (same_words w v i j n) _ e))
    (true_eq _ _ (both_right (same_words w v i j n) (eqb (get_or w (i + n) 0) (get_or v (j + n) 0)) e))
    ∙ sym (taken_on v j n k)

word_at : (w : List ℕ) (i n k : ℕ) → k < n → get_or (take n (drop i w)) k 0 ≡ get_or w (i + k) 0
word_at w i n k h = get_or-take n (drop i w) k 0 h ∙ get_or-drop i w k 0

pub taken_same : (w v : List ℕ) (i j n m : ℕ) → n ≤ m → take m (drop i w) ≡ take m (drop j v) → same_words w v i j n ≡ true
unfolding same_words
taken_same w v i j zero m h e = refl
taken_same w v i j (suc n) m h e =
    both_true (same_words w v i j n) _ (taken_same w v i j n m (omega arith) e)
    (eq_true (get_or w (i + n) 0) (get_or v (j + n) 0) (sym (word_at w i m n (omega arith)) ∙ ap (λ l. get_or l n 0) e ∙ word_at v j m n (omega arith)))

-- two parts that are equal, as the code asks
pub parts_equal : (w v : List ℕ) (i j n : ℕ) (r : Bool) → i + n ≤ length w → j + n ≤ length v → r ≡ bytes_eq (take (i + n - i) (drop i w)) (take (j + n - j) (drop j v))
    → r ≡ same_words w v i j n
parts_equal w v i j n r h k e =
    let a : i + n - i ≡ n = omega arith in
    let b : j + n - j ≡ n = omega arith in
    let q : r ≡ bytes_eq (take n (drop i w)) (take n (drop j v)) = rw (a, b) at e in
    let d = bytes_eq-Decides (take n (drop i w)) (take n (drop j v)) in
    whether (same_words w v i j n)
    (λ t. q ∙ d.1 (same_taken w v i j n h k t) ∙ sym t)
    (λ f. whether r (λ t. clash _ (taken_same w v i j n n (omega arith) (d.0 (sym q ∙ t))) f) (λ g. g ∙ sym f))

-- the data words of a row, where the code finds them
pub kept_words : (w : List ℕ) (d i : ℕ) (l m : List ℕ) → drop d (data_of w) ≡ l ++ m → i ≡ 3 * rows_of w + 4 + d → take (length l) (drop i w) ≡ l
kept_words w d i l m h e =
    let n : i ≡ 4 + 3 * rows_of w + d = omega arith in
    ap (λ z. take (length l) (drop z w)) n ∙ ap (take (length l)) (sym (drop-drop d (4 + 3 * rows_of w) w) ∙ h) ∙ take_at l m (length l) refl
