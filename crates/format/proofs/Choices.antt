-- The laws of choosing by a test. Assumes nothing.
use mathlib.Core.Path.{◌≡◌, refl, sym, subst}
use Prim.Native.Nat.{ℕ, zero, suc, ◌≤◌, ◌<◌}
use native.Mathlib.Decide.{dec_le}
use native.Mathlib.Omega.{arith}
use mathlib.Core.Bool.{Bool, true, false, not, false≢true}
use mathlib.Core.Logic.{◌≢◌}
use lib.Dec.{T, ltb, leb, eqb, ltb→lt, leb→le, le→leb, eqb→eq}
use mir.Facts.{yes_ltb, no_ltb, yes_eqb, no_eqb}
use Rattle.format.specs.Choice.{pick, if_lt, if_eq, both}

pub pick_yes {ℓ} : {X : Type ℓ} (b : Bool) (x y : X) → b ≡ true → pick b x y ≡ x
unfolding pick
pick_yes b x y e = rw e refl

pub pick_no {ℓ} : {X : Type ℓ} (b : Bool) (x y : X) → b ≡ false → pick b x y ≡ y
unfolding pick
pick_no b x y e = rw e refl

-- a test that holds, as an equation
pub is_true : (b : Bool) → T b → b ≡ true
is_true true t = refl
is_true false t = absurd t

-- a test that did not fail
pub held : (b : Bool) → not b ≡ false → b ≡ true
held true e = refl
held false e = absurd (false≢true (sym e))

pub is_false : (b : Bool) → T (not b) → b ≡ false
is_false true t = absurd t
is_false false t = refl

pub lt_true : (a b : ℕ) → a < b → ltb a b ≡ true
lt_true a b h = is_true (ltb a b) (yes_ltb h)

pub lt_false : (a b : ℕ) → b ≤ a → ltb a b ≡ false
lt_false a b h = is_false (ltb a b) (no_ltb h)

pub eq_true : (a b : ℕ) → a ≡ b → eqb a b ≡ true
eq_true a b h = is_true (eqb a b) (yes_eqb h)

pub eq_false : (a b : ℕ) → a ≢ b → eqb a b ≡ false
eq_false a b h = is_false (eqb a b) (no_eqb h)

pub if_lt_yes {ℓ} : {X : Type ℓ} (a b : ℕ) (x y : X) → a < b → if_lt a b x y ≡ x
unfolding if_lt
if_lt_yes a b x y h = pick_yes (ltb a b) x y (lt_true a b h)

pub if_lt_no {ℓ} : {X : Type ℓ} (a b : ℕ) (x y : X) → b ≤ a → if_lt a b x y ≡ y
unfolding if_lt
if_lt_no a b x y h = pick_no (ltb a b) x y (lt_false a b h)

pub if_eq_yes {ℓ} : {X : Type ℓ} (a b : ℕ) (x y : X) → a ≡ b → if_eq a b x y ≡ x
unfolding if_eq
if_eq_yes a b x y h = pick_yes (eqb a b) x y (eq_true a b h)

pub if_eq_no {ℓ} : {X : Type ℓ} (a b : ℕ) (x y : X) → a ≢ b → if_eq a b x y ≡ y
unfolding if_eq
if_eq_no a b x y h = pick_no (eqb a b) x y (eq_false a b h)

-- one order or the other
pub split {ℓ} : {X : Type ℓ} (a b : ℕ) → (a < b → X) → (b ≤ a → X) → X
split a b f g = elim (dec_le (suc a) b) [ yes h ↦ f h | no h ↦ g (omega arith) ]

-- equal or not
pub split_eq {ℓ} : {X : Type ℓ} (a b : ℕ) → (a ≡ b → X) → (a ≢ b → X) → X
split_eq a b f g =
    split a b (λ h. let n : a ≢ b = omega arith in g n)
    (λ h. split b a (λ k. let n : a ≢ b = omega arith in g n) (λ k. let n : a ≡ b = omega arith in f n))

-- a fact of either outcome is a fact of the choice
pub by_lt {ℓ κ} : {X : Type ℓ} (P : X → Type κ) (a b : ℕ) {x y : X} → (a < b → P x) → (b ≤ a → P y) → P (if_lt a b x y)
by_lt P a b f g = split a b (λ h. rw if_lt_yes (f h)) (λ h. rw if_lt_no (g h))

-- the same of two choices by one test
pub by_lt₂ {ℓ κ} : {X Y : Type ℓ} (P : X → Y → Type κ) (a b : ℕ) {x y : X} {u v : Y} → (a < b → P x u) → (b ≤ a → P y v) → P (if_lt a b x y) (if_lt a b u v)
by_lt₂ P a b {x} {y} {u} {v} f g =
    split a b (λ h. subst (P (if_lt a b x y)) (sym (if_lt_yes a b u v h)) (subst (λ z. P z u) (sym (if_lt_yes a b x y h)) (f h)))
    (λ h. subst (P (if_lt a b x y)) (sym (if_lt_no a b u v h)) (subst (λ z. P z v) (sym (if_lt_no a b x y h)) (g h)))

pub by_eq {ℓ κ} : {X : Type ℓ} (P : X → Type κ) (a b : ℕ) {x y : X} → (a ≡ b → P x) → (a ≢ b → P y) → P (if_eq a b x y)
by_eq P a b f g = split_eq a b (λ h. rw if_eq_yes (f h)) (λ h. rw if_eq_no (g h))

pub by_pick {ℓ κ} : {X : Type ℓ} (P : X → Type κ) (t : Bool) {x y : X} → (t ≡ true → P x) → (t ≡ false → P y) → P (pick t x y)
unfolding pick
by_pick P true f g = f refl
by_pick P false f g = g refl

-- a test holds or does not
pub whether {ℓ} : {X : Type ℓ} (t : Bool) → (t ≡ true → X) → (t ≡ false → X) → X
whether true f g = f refl
whether false f g = g refl

-- both tests hold exactly when each does
pub both_left : (a b : Bool) → both a b ≡ true → a ≡ true
unfolding both
both_left true b e = refl
both_left false b e = e

pub both_right : (a b : Bool) → both a b ≡ true → b ≡ true
unfolding both
both_right true b e = e
both_right false b e = let z : ◌≡◌ {A = Bool} true false = sym e in let n : ◌≡◌ {A = ℕ} 0 1 = cc in absurd (omega arith)

pub both_true : (a b : Bool) → a ≡ true → b ≡ true → both a b ≡ true
unfolding both
both_true a b p q = rw p q

-- a first test that decides both
pub both_yes : (a b : Bool) → a ≡ true → both a b ≡ b
unfolding both
both_yes a b e = rw e refl

pub both_no : (a b : Bool) → a ≡ false → both a b ≡ false
unfolding both
both_no a b e = rw e refl

-- a test cannot come out both ways
pub clash : {X : Type 0} (b : Bool) → b ≡ true → b ≡ false → X
clash b t f = let z : ◌≡◌ {A = ℕ} 0 1 = cc in absurd (omega arith)

-- a number test that came out true
pub true_lt : (a b : ℕ) → ltb a b ≡ true → a < b
true_lt a b e = ltb→lt a b (rw e tt)

pub true_le : (a b : ℕ) → leb a b ≡ true → a ≤ b
true_le a b e = leb→le a b (rw e tt)

pub le_true : (a b : ℕ) → a ≤ b → leb a b ≡ true
le_true a b h = is_true (leb a b) (le→leb a b h)

pub true_eq : (a b : ℕ) → eqb a b ≡ true → a ≡ b
true_eq a b e = eqb→eq a b (rw e tt)

-- a fact of each number below n, one by one
abbrev pub Each : (ℕ → Type 0) → ℕ → Type 0
Each P zero = Unit {0}
Each P (suc n) = P n × Each P n

pub each : (P : ℕ → Type 0) (n : ℕ) → Each P n → (k : ℕ) → k < n → P k
each P zero a k h = absurd (omega arith)
each P (suc n) a k h = split k n (λ l. each P n a.1 k l) (λ g. let e : n ≡ k = omega arith in rw e at a.0)

-- a test passes at each number below n
unfoldable pub below : (ℕ → Bool) → ℕ → Bool
unfolding both
below f zero = true
below f (suc n) = both (f n) (below f n)

pub passes : (f : ℕ → Bool) (n : ℕ) → below f n ≡ true → (k : ℕ) → k < n → f k ≡ true
unfolding below
passes f zero t k h = absurd (omega arith)
passes f (suc n) t k h =
    split k n (λ l. passes f n (both_right (f n) (below f n) t) k l)
    (λ g. let e : n ≡ k = omega arith in rw e at (both_left (f n) (below f n) t))
