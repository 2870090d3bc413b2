-- The differences of two lists of items: none exactly when they are the same, in row order, the other way round, and joined lists.
-- Assumes nothing.
use Prim.Native.Nat.{ℕ, suc, ◌+◌, ◌-◌, ◌≤◌, ◌<◌}
use native.Mathlib.Omega.{arith}
use mathlib.Core.Path.{◌≡◌, refl, sym, ap, ap₂, ◌∙◌, subst}
use mathlib.Core.Logic.{◌↔◌}
use mathlib.Core.Bool.{true}
use mathlib.Core.List.{List, [], ◌∷◌, ◌++◌, append_assoc}
use lib.ListN.{length}
use Rattle.format.specs.Items.{Items, end, leaf, group, join}
use Rattle.format.specs.Tables.{count, rows}
use Rattle.format.proofs.Choices.{if_eq_yes, by_eq}
use Rattle.format.proofs.SameLaws.{by_same, if_same_yes}
use Rattle.compare.specs.Differences.{Difference, unequal, differences, changes}
use Rattle.compare.specs.Places.{entered, Rising}
use Rattle.compare.proofs.Pairs.{Item, single, holder, cons, alone, inside, Into, into, between, pair_on, by_pair, by_pairs, rows_on, join_on, plain_rows_lem}

-- ---- none exactly when the items are the same
some_left : (c : Difference) (l : List Difference) → c ∷ l ≡ [] → ⊥
some_left c l e = let z : ◌≡◌ {A = ℕ} 0 1 = cc in omega arith

append_none : (a b : List Difference) → a ++ b ≡ [] → (a ≡ []) × (b ≡ [])
append_none [] b e = (refl, e)
append_none (c ∷ a) b e = absurd (some_left c (a ++ b) e)

pub alone_same : (x y : Item) → alone x ≡ alone y → x ≡ y
alone_same (single l) (single m) e = cc
alone_same (single l) (holder h d) e = let z : ◌≡◌ {A = ℕ} 0 1 = cc in absurd (omega arith)
alone_same (holder g c) (single m) e = let z : ◌≡◌ {A = ℕ} 0 1 = cc in absurd (omega arith)
alone_same (holder g c) (holder h d) e = cc

-- two that are gone into and have the same elements
inside_same : (x y : Item) → entered (alone x) (alone y) ≡ true → inside x ≡ inside y → x ≡ y
inside_same x y t e =
    let i = into x y t in
    let c : i.c ≡ i.d = ap inside (sym i.left) ∙ e ∙ ap inside i.right in
    i.left ∙ ap (holder i.kind) c ∙ sym i.right

none_step : (p q : ℕ) (x y : Item) (xs ys : Items) → count xs ≡ count ys
    → (entered (alone x) (alone y) ≡ true → differences (p + 1) (q + 1) (inside x) (inside y) ≡ [] → inside x ≡ inside y)
    → (differences (p + rows (alone x)) (q + rows (alone y)) xs ys ≡ [] → xs ≡ ys)
    → differences p q (cons x xs) (cons y ys) ≡ [] → cons x xs ≡ cons y ys
unfolding unequal
none_step p q x y xs ys n f g e =
    let k = append_none _ _ (sym (pair_on p q x y xs ys) ∙ e) in
    let i : x ≡ y = by_pair (λ (r : List Difference). r ≡ [] → x ≡ y) p q x y (λ t z. inside_same x y t (f t z))
    (λ t. by_same (λ (r : List Difference). r ≡ [] → x ≡ y) (alone x) (alone y) (λ s z. alone_same x y s) (λ s z. absurd (some_left _ _ z))) k.0 in
    ap₂ cons i (g k.1)

none_same : (p q : ℕ) (xs ys : Items) → count xs ≡ count ys → differences p q xs ys ≡ [] → xs ≡ ys
none_same = by_pairs (λ p q xs ys. differences p q xs ys ≡ [] → xs ≡ ys) (λ p q e. refl) none_step

same_one : (p q : ℕ) (x : Item) (xs : Items) → (entered (alone x) (alone x) ≡ true → differences (p + 1) (q + 1) (inside x) (inside x) ≡ [])
    → differences (p + rows (alone x)) (q + rows (alone x)) xs xs ≡ [] → differences p q (cons x xs) (cons x xs) ≡ []
unfolding unequal
same_one p q x xs f g =
    pair_on p q x x xs xs
    ∙ ap₂ ◌++◌ (by_pair (λ (r : List Difference). r ≡ []) p q x x f (λ t. if_same_yes (alone x) (alone x) [] _ refl)) g

same_none : (p q : ℕ) (xs : Items) → differences p q xs xs ≡ []
same_none p q end = unfold differences in refl
same_none p q (leaf l xs) = same_one p q (single l) xs (λ t. unfold differences in refl) (same_none _ _ xs)
same_none p q (group g c xs) = same_one p q (holder g c) xs (λ t. same_none (p + 1) (q + 1) c) (same_none _ _ xs)

-- "it is empty exactly when the items are the same"
pub changes_none : (xs ys : Items) → (changes xs ys ≡ []) ↔ (xs ≡ ys)
unfolding changes
changes_none xs ys = (
  by_eq (λ (r : List Difference). r ≡ [] → xs ≡ ys) (count xs) (count ys) (λ n e. none_same 0 0 xs ys n e) (λ n e. absurd (some_left _ _ e)),
  λ e. ap (changes xs) (sym e) ∙ if_eq_yes (count xs) (count xs) _ _ refl ∙ same_none 0 0 xs,
)

-- ---- "in row order with each such difference once"
rising_from : (p q i j a b : ℕ) (l : List Difference) → i ≤ p → j ≤ q → Rising p q a b l → Rising i j a b l
rising_from p q i j a b [] h k r = tt
rising_from p q i j a b (c ∷ l) h k r = (omega arith, omega arith, r.2, r.3, r.4)

rising_append : (p q i j a b : ℕ) (l m : List Difference) → p ≤ i → q ≤ j → i ≤ a → j ≤ b → Rising p q i j l → Rising i j a b m → Rising p q a b (l ++ m)
rising_append p q i j a b [] m h k x y r s = rising_from i j p q a b m h k s
rising_append p q i j a b (c ∷ l) m h k x y r s =
    (r.0, r.1, omega arith, omega arith, rising_append (suc c.left) (suc c.right) i j a b l m r.2 r.3 x y r.4 s)

rising_unequal : (p q a b : ℕ) (x y : Items) → p < a → q < b → Rising p q a b (unequal p q x y)
unfolding unequal
rising_unequal p q a b x y h k = by_same (Rising p q a b) x y (λ e. tt) (λ n. (omega arith, omega arith, h, k, tt))

pub alone_rows : (x : Item) → 1 ≤ rows (alone x)
unfolding rows
alone_rows (single l) = omega arith
alone_rows (holder g c) = omega arith

pub into_rows : (x y : Item) → Into x y → (rows (alone x) ≡ 1 + rows (inside x)) × (rows (alone y) ≡ 1 + rows (inside y))
into_rows x y i = (
  subst (λ (z : Item). rows (alone z) ≡ 1 + rows (inside z)) (sym i.left) (plain_rows_lem i.kind i.c i.plain),
  subst (λ (z : Item). rows (alone z) ≡ 1 + rows (inside z)) (sym i.right) (plain_rows_lem i.kind i.d i.plain_too),
)

rising_step : (p q : ℕ) (x y : Item) (xs ys : Items) → count xs ≡ count ys
    → (entered (alone x) (alone y) ≡ true → Rising (p + 1) (q + 1) (p + 1 + rows (inside x)) (q + 1 + rows (inside y)) (differences (p + 1) (q + 1) (inside x) (inside y)))
    → Rising (p + rows (alone x)) (q + rows (alone y)) (p + rows (alone x) + rows xs) (q + rows (alone y) + rows ys) (differences (p + rows (alone x)) (q + rows (alone y)) xs ys)
    → Rising p q (p + rows (cons x xs)) (q + rows (cons y ys)) (differences p q (cons x xs) (cons y ys))
rising_step p q x y xs ys n f g =
    let i : ℕ = p + rows (alone x) in
    let j : ℕ = q + rows (alone y) in
    let a : i + rows xs ≡ p + rows (cons x xs) = omega (arith, rows_on x xs) in
    let b : j + rows ys ≡ q + rows (cons y ys) = omega (arith, rows_on y ys) in
    let h : Rising p q i j (between p q x y) = by_pair (Rising p q i j) p q x y
    (λ t. let r = into_rows x y (into x y t) in
    let u : p + 1 + rows (inside x) ≡ i = omega (arith, r.0) in
    let v : q + 1 + rows (inside y) ≡ j = omega (arith, r.1) in
    rising_from (p + 1) (q + 1) p q i j (differences (p + 1) (q + 1) (inside x) (inside y)) (omega arith) (omega arith) (rw (u, v) at (f t)))
    (λ t. rising_unequal p q i j (alone x) (alone y) (omega (arith, alone_rows x)) (omega (arith, alone_rows y))) in
    rw (pair_on p q x y xs ys, ← a, ← b)
    (rising_append p q i j (i + rows xs) (j + rows ys) (between p q x y) (differences i j xs ys) (omega arith) (omega arith) (omega arith) (omega arith) h g)

rising : (p q : ℕ) (xs ys : Items) → count xs ≡ count ys → Rising p q (p + rows xs) (q + rows ys) (differences p q xs ys)
rising = by_pairs (λ p q xs ys. Rising p q (p + rows xs) (q + rows ys) (differences p q xs ys)) (λ p q. unfold differences in tt) rising_step

wider : (p q i j a b : ℕ) (l : List Difference) → i ≤ a → j ≤ b → Rising p q i j l → Rising p q a b l
wider p q i j a b [] h k r = tt
wider p q i j a b (c ∷ l) h k r = (r.0, r.1, omega arith, omega arith, wider (suc c.left) (suc c.right) i j a b l h k r.4)

pub changes_rising : (xs ys : Items) → Rising 0 0 (suc (rows xs)) (suc (rows ys)) (changes xs ys)
unfolding changes
changes_rising xs ys =
    by_eq (Rising 0 0 (suc (rows xs)) (suc (rows ys))) (count xs) (count ys)
    (λ e. wider 0 0 (0 + rows xs) (0 + rows ys) (suc (rows xs)) (suc (rows ys)) (differences 0 0 xs ys) (omega arith) (omega arith) (rising 0 0 xs ys e))
    (λ n. (omega arith, omega arith, omega arith, omega arith, tt))

-- one difference a row at the most, or one in all
rising_few : (p q a b : ℕ) (l : List Difference) → Rising p q a b l → length l ≤ a - p
rising_few p q a b [] r = omega arith
rising_few p q a b (c ∷ l) r = let h = r.0 in let k = r.2 in omega (arith, rising_few (suc c.left) (suc c.right) a b l r.4)

pub changes_few : (n : ℕ) (xs ys : Items) → 1 ≤ n → rows xs ≤ n → length (changes xs ys) ≤ n
unfolding changes
changes_few n xs ys h k =
    by_eq (λ (l : List Difference). length l ≤ n) (count xs) (count ys)
    (λ e. omega (arith, rising_few 0 0 (0 + rows xs) (0 + rows ys) (differences 0 0 xs ys) (rising 0 0 xs ys e))) (λ e. h)

-- ---- two lists behind two of as many items
join_none : (p q : ℕ) (xs ys : Items) → differences p q (join end xs) (join end ys) ≡ differences p q end end ++ differences (p + rows end) (q + rows end) xs ys
unfolding join rows differences
join_none p q xs ys =
    let i : p + 0 ≡ p = omega arith in
    let j : q + 0 ≡ q = omega arith in
    rw (i, j) refl

join_step : (p q : ℕ) (x y : Item) (c d : Items) → count c ≡ count d
    → (entered (alone x) (alone y) ≡ true → (xs ys : Items) → differences (p + 1) (q + 1) (join (inside x) xs) (join (inside y) ys)
    ≡ differences (p + 1) (q + 1) (inside x) (inside y) ++ differences (p + 1 + rows (inside x)) (q + 1 + rows (inside y)) xs ys)
    → ((xs ys : Items) → differences (p + rows (alone x)) (q + rows (alone y)) (join c xs) (join d ys)
    ≡ differences (p + rows (alone x)) (q + rows (alone y)) c d ++ differences (p + rows (alone x) + rows c) (q + rows (alone y) + rows d) xs ys)
    → (xs ys : Items) → differences p q (join (cons x c) xs) (join (cons y d) ys)
    ≡ differences p q (cons x c) (cons y d) ++ differences (p + rows (cons x c)) (q + rows (cons y d)) xs ys
join_step p q x y c d n f g xs ys =
    let i : p + rows (alone x) + rows c ≡ p + rows (cons x c) = omega (arith, rows_on x c) in
    let j : q + rows (alone y) + rows d ≡ q + rows (cons y d) = omega (arith, rows_on y d) in
    ap₂ (differences p q) (join_on x c xs) (join_on y d ys) ∙ pair_on p q x y (join c xs) (join d ys)
    ∙ ap (λ r. between p q x y ++ r) (g xs ys ∙ ap₂ (λ a b. differences (p + rows (alone x)) (q + rows (alone y)) c d ++ differences a b xs ys) i j)
    ∙ sym (append_assoc (between p q x y) _ _) ∙ ap (λ r. r ++ differences (p + rows (cons x c)) (q + rows (cons y d)) xs ys) (sym (pair_on p q x y c d))

pub differences_join : (p q : ℕ) (c d : Items) → count c ≡ count d → (xs ys : Items)
    → differences p q (join c xs) (join d ys) ≡ differences p q c d ++ differences (p + rows c) (q + rows d) xs ys
differences_join =
    by_pairs (λ p q c d. (xs ys : Items) → differences p q (join c xs) (join d ys) ≡ differences p q c d ++ differences (p + rows c) (q + rows d) xs ys)
    join_none join_step
