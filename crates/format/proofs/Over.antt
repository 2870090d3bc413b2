-- A lent slice, of words or of bytes, with a list written over its front or from a place on: what stands where, one list behind
-- another, single stores, and a part that was lent and comes back. Assumes nothing.
use Prim.Native.Nat.{ℕ, zero, suc, ◌+◌, ◌-◌, ◌≤◌, ◌<◌}
use native.Mathlib.Omega.{arith}
use mathlib.Core.Path.{◌≡◌, refl, sym, ap, ap₂, ◌∙◌}
use mathlib.Core.List.{List, [], ◌∷◌, ◌++◌, append_assoc, append-nil}
use lib.ListN.{length, take, drop, set, get_or, length-append, length-drop, length-set, take-append-drop, drop_of_length-le}
use lib.Seq as Seq
use lib.Seq.{take_at, drop_at, take-append-le, drop-drop, drop-append-add, drop-cons, take-suc, length-take-le, set_split, get_or-set_same, take-set-le, drop-set-lt}
use Rattle.format.specs.Answers.{over}
use Rattle.format.specs.Lent.{over_at}
use Rattle.format.proofs.Parts.{rest_part}

-- ---- over the front
pub over_none : (t : List ℕ) → over [] t ≡ t
unfolding over
over_none t = refl

-- its own front changes nothing
pub over_self : (n : ℕ) (t : List ℕ) → over (take n t) t ≡ t
unfolding over
over_self zero t = refl
over_self (suc n) [] = refl
over_self (suc n) (x ∷ t) = ap (λ l. x ∷ l) (over_self n t)

pub over_length : (l t : List ℕ) → length l ≤ length t → length (over l t) ≡ length t
unfolding over
over_length l t h = simp (length-append, length-drop) (omega arith)

pub over_front : (l t : List ℕ) (n : ℕ) → n ≡ length l → take n (over l t) ≡ l
unfolding over
over_front l t n e = take_at l (drop (length l) t) n (sym e)

pub over_part : (n : ℕ) (l t : List ℕ) → n ≤ length l → take n (over l t) ≡ take n l
unfolding over
over_part n l t h = take-append-le n l (drop (length l) t) h

-- more words hide fewer
pub over_over : (l m t : List ℕ) → length l ≤ length m → over m (over l t) ≡ over m t
unfolding over
over_over l m t h =
    let n : ℕ = length m - length l in
    let e : length m ≡ length l + n = omega arith in
    ap (λ z. m ++ z)
    (ap (λ i. drop i (l ++ drop (length l) t)) e ∙ drop-append-add l (drop (length l) t) n ∙ drop-drop n (length l) t ∙ ap (λ i. drop i t) (sym e))

pub over_append : (a b t : List ℕ) → over (a ++ b) t ≡ a ++ over b (drop (length a) t)
unfolding over
over_append a b t = rw (length-append a b, drop-drop, append_assoc)

-- words in place of as many at the front
pub over_fronted : (f h m t : List ℕ) → length f ≡ length h → over h (over (f ++ m) t) ≡ over (h ++ m) t
unfolding over
over_fronted f h m t e =
    let n : length (f ++ m) ≡ length (h ++ m) = simp length-append (omega arith) in
    ap (λ z. h ++ z) (ap (drop (length h)) (append_assoc f m (drop (length (f ++ m)) t)) ∙ drop_at f (m ++ drop (length (f ++ m)) t) (length h) e ∙ ap (λ i. m ++ drop i t) n)
    ∙ sym (append_assoc h m (drop (length (h ++ m)) t))

-- ---- from a place on
pub at_front : (l t : List ℕ) → over_at 0 l t ≡ over l t
unfolding over_at
at_front l t = refl

pub at_none : (n : ℕ) (t : List ℕ) → over_at n [] t ≡ t
unfolding over_at over
at_none n t = take-append-drop n t

pub at_length : (n : ℕ) (l t : List ℕ) → n + length l ≤ length t → length (over_at n l t) ≡ length t
unfolding over_at
at_length n l t h =
    omega (arith, length-append (take n t) (over l (drop n t)), length-take-le n t (omega arith), over_length l (drop n t) (omega (arith, length-drop n t)), length-drop n t)

-- the same, told from the front: what stands before the place is written again
pub at_as_front : (n : ℕ) (l t : List ℕ) → n ≤ length t → over_at n l t ≡ over (take n t ++ l) t
unfolding over_at
at_as_front n l t h = sym (over_append (take n t) l t ∙ ap (λ i. take n t ++ over l (drop i t)) (length-take-le n t h))

-- one list, and another behind it
pub at_then : (n : ℕ) (l m t : List ℕ) → n ≤ length t → over_at (n + length l) m (over_at n l t) ≡ over_at n (l ++ m) t
unfolding over_at over
at_then n l m t h =
    let a : List ℕ = take n t in
    let b : List ℕ = drop (length l) (drop n t) in
    let q : a ++ (l ++ b) ≡ (a ++ l) ++ b = sym (append_assoc a l b) in
    let k : length (a ++ l) ≡ n + length l = length-append a l ∙ ap (λ z. z + length l) (length-take-le n t h) in
    ap₂ (λ x y. x ++ over m y) (ap (take (n + length l)) q ∙ take_at (a ++ l) b (n + length l) k) (ap (drop (n + length l)) q ∙ drop_at (a ++ l) b (n + length l) k)
    ∙ append_assoc a l (over m b) ∙ ap (λ z. a ++ z) (sym (over_append l m (drop n t)))

-- a list behind what stands there already
pub at_next : (n : ℕ) (l m t u : List ℕ) (e : ℕ) → n ≤ length t → u ≡ over_at n l t → e ≡ n + length l → over_at e m u ≡ over_at n (l ++ m) t
at_next n l m t u e h i j = rw (j, i) (at_then n l m t h)

pub over_next : (l m t u : List ℕ) (e : ℕ) → u ≡ over l t → e ≡ length l → over_at e m u ≡ over (l ++ m) t
unfolding over_at over
over_next l m t u e i j = at_next 0 l m t u e (omega arith) i (omega arith)

-- ---- single stores
pub set_at : (n b : ℕ) (t : List ℕ) → n < length t → set t n b ≡ over_at n (b ∷ []) t
unfolding over_at over
set_at n b t h =
    let z : n + 1 ≡ suc n = omega arith in
    set_split t n b h ∙ ap (λ z. take n t ++ (b ∷ z)) (sym (drop-drop 1 n t ∙ ap (λ z. drop z t) z))

-- one behind a list that stands there
pub set_next : (n b : ℕ) (l t u : List ℕ) → u ≡ over_at n l t → n + length l < length t → set u (n + length l) b ≡ over_at n (l ++ (b ∷ [])) t
set_next n b l t u e h =
    let k : length u ≡ length t = ap length e ∙ at_length n l t (omega arith) in
    set_at (n + length l) b u (omega arith) ∙ at_next n l (b ∷ []) t u (n + length l) (omega arith) e refl

-- one before a list that stands there
pub set_before : (n b : ℕ) (m t u : List ℕ) → u ≡ over_at (n + 1) m t → n < length t → set u n b ≡ over_at n (b ∷ m) t
unfolding over_at over
set_before n b m t u e h =
    let z : n + 1 ≡ suc n = omega arith in
    let c : drop n t ≡ get_or t n 0 ∷ drop (n + 1) t = drop-cons t n 0 h ∙ ap (λ i. get_or t n 0 ∷ drop i t) (sym z) in
    let f : take (n + 1) t ≡ take n t ++ (get_or t n 0 ∷ []) = ap (λ i. take i t) z ∙ take-suc t n 0 h in
    let o : u ≡ take n t ++ (get_or t n 0 ∷ over m (drop (n + 1) t)) = e ∙ ap (λ x. x ++ over m (drop (n + 1) t)) f ∙ append_assoc (take n t) (get_or t n 0 ∷ []) (over m (drop (n + 1) t)) in
    ap (λ x. set x n b) o ∙ Seq.set_at (take n t) (get_or t n 0) (over m (drop (n + 1) t)) b n (length-take-le n t (omega arith))
    ∙ ap (λ x. take n t ++ over (b ∷ m) x) (sym c)

-- a list whose last one stands there already
pub at_last : (n b : ℕ) (l t : List ℕ) → n + length l < length t → over_at n (l ++ (b ∷ [])) t ≡ over_at n l (set t (n + length l) b)
unfolding over_at over
at_last n b l t h =
    let i : ℕ = n + length l in
    let k : n + length (l ++ (b ∷ [])) ≡ suc i = omega (arith, length-append l (b ∷ [])) in
    let d : drop (length l) (drop n (set t i b)) ≡ b ∷ drop (suc i) t =
    drop-drop (length l) n (set t i b) ∙ drop-cons (set t i b) i 0 (rw (length-set t i b) h) ∙ ap₂ ◌∷◌ (get_or-set_same t i b 0 h) (drop-set-lt (suc i) t i b (omega arith)) in
    rw (take-set-le n t i b (omega arith), d, drop-drop (length (l ++ (b ∷ []))) n t, k) (ap (λ z. take n t ++ z) (append_assoc l (b ∷ []) (drop (suc i) t)))

module _ (n : ℕ) (t : List ℕ) (a b : ℕ) where
  pub set_two : n + 2 ≤ length t → set (set t n a) (n + 1) b ≡ over_at n (a ∷ b ∷ []) t
  set_two h = set_next n b (a ∷ []) t (set t n a) (set_at n a t (omega arith)) (omega arith)

  pub set_three : (c : ℕ) → n + 3 ≤ length t → set (set (set t n a) (n + 1) b) (n + 2) c ≡ over_at n (a ∷ b ∷ c ∷ []) t
  set_three c h = set_next n c (a ∷ b ∷ []) t (set (set t n a) (n + 1) b) (set_two (omega arith)) (omega arith)

  pub set_four : (c d : ℕ) → n + 4 ≤ length t → set (set (set (set t n a) (n + 1) b) (n + 2) c) (n + 3) d ≡ over_at n (a ∷ b ∷ c ∷ d ∷ []) t
  set_four c d h = set_next n d (a ∷ b ∷ c ∷ []) t (set (set (set t n a) (n + 1) b) (n + 2) c) (set_three c (omega arith)) (omega arith)

-- ---- a part that was lent, as it comes back: `&mut t[n..]`
pub part_length : (n : ℕ) (t : List ℕ) → length (take (length t - n) (drop n t)) ≡ length t - n
part_length n t = rw (rest_part t n) (length-drop n t)

pub back_is : (n : ℕ) (t ys : List ℕ) → take n t ++ (ys ++ drop (length t - n) (drop n t)) ≡ take n t ++ ys
back_is n t ys = rw (drop_of_length-le (drop n t) {i = length t - n} (omega (arith, length-drop n t)), append-nil) refl

pub back_length : (n : ℕ) (t ys : List ℕ) → n ≤ length t → length ys ≡ length (take (length t - n) (drop n t))
    → length (take n t ++ (ys ++ drop (length t - n) (drop n t))) ≡ length t
back_length n t ys h e = rw (back_is n t ys) (omega (arith, length-append (take n t) ys, length-take-le n t h, part_length n t))

pub lent : (n : ℕ) (l t ys : List ℕ) → ys ≡ over l (take (length t - n) (drop n t)) → take n t ++ (ys ++ drop (length t - n) (drop n t)) ≡ over_at n l t
unfolding over_at
lent n l t ys e = back_is n t ys ∙ ap (λ z. take n t ++ z) (e ∙ ap (over l) (rest_part t n))

-- lent from where a list ends that stands at the front, and comes back with another
pub lent_next : (l m t s ys : List ℕ) (n : ℕ) → n ≡ length l → s ≡ over l t → ys ≡ over m (take (length s - n) (drop n s))
    → take n s ++ (ys ++ drop (length s - n) (drop n s)) ≡ over (l ++ m) t
lent_next l m t s ys n i e j = lent n m s ys j ∙ over_next l m t s n e i
