-- Words copied again and again, all the copies so far at a time. Assumes nothing.
use Rattle.std.proofs.Common.{◌≡◌, ℕ, zero, suc, ◌+◌, ◌-◌, ◌*◌, ◌<◌, ◌≤◌, List, [], ◌∷◌, ◌++◌, length, take, sym, refl, ap, ◌∙◌, append_assoc, append-nil, mul-le-mul_right, suc-mul, one-mul, zero-mul, arith, length-append, length-take-le, take_at}
use Rattle.format.specs.Answers.{over}
use Rattle.fill.specs.Copies.{again}
use Rattle.format.specs.Lent.{over_at}
use Rattle.format.proofs.Over.{over_none, over_self, over_length, over_part, over_next}

pub none_in : (l : List ℕ) → length l ≡ 0 → l ≡ []
none_in [] e = refl
none_in (x ∷ l) e = absurd (omega arith)

pub at_least : (k r : ℕ) → 0 < k → r ≤ k * r
at_least zero r h = absurd (omega arith)
at_least (suc k) r h = omega (arith, suc-mul k r)

pub again_length : (l : List ℕ) (r : ℕ) → length l ≡ r → (k : ℕ) → length (again k l) ≡ k * r
unfolding again
again_length l r e zero = sym (zero-mul r)
again_length l r e (suc k) = omega (arith, length-append l (again k l), again_length l r e k, suc-mul k r)

pub again_add : (j k : ℕ) (l : List ℕ) → again (j + k) l ≡ again j l ++ again k l
unfolding again
again_add zero k l = let z : 0 + k ≡ k = omega arith in ap (λ n. again n l) z
again_add (suc j) k l =
    let z : suc j + k ≡ suc (j + k) = omega arith in
    ap (λ n. again n l) z ∙ ap (λ z. l ++ z) (again_add j k l) ∙ sym (append_assoc l (again j l) (again k l))

-- nothing, as many times
pub again_none : (k : ℕ) → again k [] ≡ []
unfolding again
again_none zero = refl
again_none (suc k) = again_none k

pub none_there : (n k : ℕ) (t : List ℕ) → n ≡ 0 → t ≡ over (again k (take n t)) t
none_there n k t e = rw e (sym (ap (λ l. over l t) (again_none k) ∙ over_none t))

-- so many copies are there
pub record Repeated (r k : ℕ) (t₀ t : List ℕ) (j : ℕ) : Type 0 where
  pub some : 0 < j
  pub upto : j ≤ k
  pub long : length t ≡ length t₀
  pub table_is : t ≡ over (again j (take r t₀)) t₀

pub repeated_start : (r k : ℕ) (t : List ℕ) → 0 < k → Repeated r k t t 1
unfolding again
repeated_start r k t p =
    record { some = omega arith; upto = omega arith; long = refl; table_is = sym (ap (λ l. over l t) (append-nil (take r t)) ∙ over_self r t) }

-- what a round asks for
abbrev pub WordsRoom : ℕ → ℕ → ℕ → ℕ → Type 0
WordsRoom r j m len = (m * r ≤ j * r) × (j * r + m * r ≤ len)

pub words_room : (r k j m len : ℕ) → k * r ≤ len → j + m ≤ k → m ≤ j → WordsRoom r j m len
words_room r k j m len h g q =
    let a = mul-le-mul_right r g in
    let b = mul-le-mul_right r q in
    (omega arith, omega arith)

pub repeated_step : (r k : ℕ) (t₀ t t' : List ℕ) (j m : ℕ) → k * r ≤ length t₀ → j + m ≤ k → m ≤ j → Repeated r k t₀ t j
    → t' ≡ over_at (j * r) (take (m * r) t) t → Repeated r k t₀ t' (j + m)
repeated_step r k t₀ t t' j m h g q c e =
    let rr = words_room r k j m (length t₀) h g q in
    let one = mul-le-mul_right r c.some in
    let some = c.some in
    let l : List ℕ = take r t₀ in
    let ll : length l ≡ r = length-take-le r t₀ (omega (arith, one-mul r)) in
    let lj : length (again j l) ≡ j * r = again_length l r ll j in
    let lm : length (again m l) ≡ m * r = again_length l r ll m in
    let ls : length (again (j + m) l) ≡ (j + m) * r = again_length l r ll (j + m) in
    let d : m + (j - m) ≡ j = omega arith in
    let f : take (m * r) t ≡ again m l =
    ap (take (m * r)) c.table_is ∙ over_part (m * r) (again j l) t₀ (omega arith)
    ∙ ap (take (m * r)) (ap (λ n. again n l) (sym d) ∙ again_add m (j - m) l) ∙ take_at (again m l) (again (j - m) l) (m * r) lm in
    let tb : t' ≡ over (again (j + m) l) t₀ =
    e ∙ ap (λ z. over_at (j * r) z t) f ∙ over_next (again j l) (again m l) t₀ t (j * r) c.table_is (sym lj) ∙ ap (λ z. over z t₀) (sym (again_add j m l)) in
    record { some = omega arith; upto = g; long = ap length tb ∙ over_length (again (j + m) l) t₀ (omega arith); table_is = tb }
