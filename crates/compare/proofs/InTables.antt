-- The rows that a difference tells, in the tables: the items that it is about stand there. Assumes nothing.
use Prim.Native.Nat.{ℕ, zero, suc, ◌+◌, ◌≤◌}
use native.Mathlib.Omega.{arith}
use mathlib.Core.Path.{◌≡◌, refl, sym, ap, ◌∙◌, subst}
use mathlib.Core.Bool.{true, false, false≢true}
use mathlib.Core.Option.{some}
use mathlib.Core.List.{List, [], ◌∷◌, ◌++◌}
use Rattle.format.specs.Items.{Group, struc, edt, Items, end, leaf, group, starts_string}
use Rattle.format.specs.Tables.{rows, is_text, items_of}
use Rattle.table.specs.Rows.{rows_of, Stands}
use Rattle.table.proofs.Standing.{group_parts, stands_is}
use Rattle.table.proofs.Whole.{whole}
use Rattle.compare.specs.Places.{item_at, row_at, entered, EnteredAt, DueAt, HoldsAt}
use Rattle.compare.proofs.Pairs.{Item, single, holder, cons, alone, inside, into}
use Rattle.compare.proofs.ItemRows.{parts}
use Rattle.compare.proofs.PlaceLaws.{item_first, item_inside, item_later, item_none, row_first, row_inside, row_later, no_item, some_same}

-- ---- an item inside no string stands in its rows
record Placed (w : List ℕ) (e r : ℕ) (x : Items) : Type 0 where
  before : ℕ
  stands : Stands w before r (r + rows x) x
  within : r + rows x ≤ e

-- no item around a place is a string
abbrev Plain : Items → ℕ → List ℕ → Type 0
Plain xs k i = (a b : List ℕ) (j : ℕ) → a ++ (j ∷ b) ≡ i → (x : Items) → item_at k a xs ≡ some x → starts_string x ≡ false

abbrev AllPlaced : List ℕ → Items → Type 0
AllPlaced w xs = (d p e : ℕ) → Stands w d p e xs → (k : ℕ) (i : List ℕ) (x : Items) → item_at k i xs ≡ some x → Plain xs k i → Placed w e (p + row_at k i xs) x

starts_text : (g : Group) (c xs : Items) → starts_string (group g c xs) ≡ is_text g c
unfolding starts_string is_text
starts_text struc c xs = refl
starts_text edt c xs = refl

placed_first : (w : List ℕ) (d p e : ℕ) (x : Item) (xs z : Items) → Stands w d p e (cons x xs) → item_at zero [] (cons x xs) ≡ some z
    → Placed w e (p + row_at zero [] (cons x xs)) z
placed_first w d p e x xs z s q =
    let t = parts w d p e x xs s in
    let n = t.first.number in
    let o = t.rest.number in
    let r : p ≡ p + row_at zero [] (cons x xs) = omega (arith, row_first x xs) in
    let u : Placed w e p (alone x) = record { before = d; stands = rw (← n) at t.first; within = omega arith } in
    rw (r, some_same (alone x) z (sym (item_first x xs) ∙ q)) at u

placed_inside : (w : List ℕ) (d p e : ℕ) (x : Item) (xs z : Items) → Stands w d p e (cons x xs) → AllPlaced w (inside x)
    → (j : ℕ) (i : List ℕ) → item_at zero (j ∷ i) (cons x xs) ≡ some z → Plain (cons x xs) zero (j ∷ i) → Placed w e (p + row_at zero (j ∷ i) (cons x xs)) z
placed_inside w d p e (single l) xs z s f j i q h = no_item z (sym (item_none j i) ∙ sym (item_inside (single l) xs j i) ∙ q)
placed_inside w d p e (holder g c) xs z s f j i q h =
    let y : is_text g c ≡ false = sym (starts_text g c end) ∙ h [] i j refl (group g c end) (item_first (holder g c) xs) in
    let t = group_parts w d p e g c xs y s in
    let n = t.after.number in
    let r : p + 1 + row_at j i c ≡ p + row_at zero (j ∷ i) (group g c xs) = omega (arith, row_inside g c xs j i) in
    let u = f d (p + 1) (p + 1 + rows c) t.inside j i z (sym (item_inside (holder g c) xs j i) ∙ q)
    (λ a b m v o k. h (j ∷ a) b m (ap (◌∷◌ j) v) o (item_inside (holder g c) xs j a ∙ k)) in
    let k = u.within in
    let v : Placed w e (p + 1 + row_at j i c) z = record { before = u.before; stands = u.stands; within = omega arith } in
    rw r at v

placed_later : (w : List ℕ) (d p e : ℕ) (x : Item) (xs z : Items) → Stands w d p e (cons x xs) → AllPlaced w xs
    → (k : ℕ) (i : List ℕ) → item_at (suc k) i (cons x xs) ≡ some z → Plain (cons x xs) (suc k) i → Placed w e (p + row_at (suc k) i (cons x xs)) z
placed_later w d p e x xs z s f k i q h =
    let t = parts w d p e x xs s in
    let n = t.first.number in
    let r : t.m + row_at k i xs ≡ p + row_at (suc k) i (cons x xs) = omega (arith, row_later x xs k i) in
    subst (λ (o : ℕ). Placed w e o z) r
    (f t.next t.m e t.rest k i z (sym (item_later x xs k i) ∙ q) (λ a b j v o u. h a b j v o (item_later x xs k a ∙ u)))

placed_on : (w : List ℕ) (x : Item) (xs : Items) → AllPlaced w (inside x) → AllPlaced w xs → AllPlaced w (cons x xs)
placed_on w x xs f g d p e s zero [] z q h = placed_first w d p e x xs z s q
placed_on w x xs f g d p e s zero (j ∷ i) z q h = placed_inside w d p e x xs z s f j i q h
placed_on w x xs f g d p e s (suc k) i z q h = placed_later w d p e x xs z s g k i q h

placed_none : (w : List ℕ) → AllPlaced w end
placed_none w d p e s k i x q h = no_item x (sym (item_none k i) ∙ q)

all_placed : (w : List ℕ) (xs : Items) → AllPlaced w xs
all_placed w end = placed_none w
all_placed w (leaf l xs) = placed_on w (single l) xs (placed_none w) (all_placed w xs)
all_placed w (group g c xs) = placed_on w (holder g c) xs (all_placed w c) (all_placed w xs)

-- ---- where a difference is due
holds : (w : List ℕ) (xs x : Items) (k : ℕ) (i : List ℕ) → items_of w ≡ some xs → item_at k i xs ≡ some x → Plain xs k i → HoldsAt w (row_at k i xs) x
holds w xs x k i e q h =
    let u = all_placed w xs 0 0 (rows_of w) (whole w xs e).stands k i x q h in
    let r : 0 + row_at k i xs ≡ row_at k i xs = omega arith in
    let v : Placed w (rows_of w) (row_at k i xs) x = rw r at u in
    record { inside = v.within; is = stands_is w v.before (row_at k i xs) (row_at k i xs + rows x) x v.stands }

-- two that are gone into are no strings
plain_item : (x : Item) (g : Group) (c xs : Items) → x ≡ holder g c → is_text g c ≡ false → starts_string (cons x xs) ≡ false
plain_item x g c xs e t = subst (λ (z : Item). starts_string (cons z xs) ≡ false) (sym e) (starts_text g c xs ∙ t)

plain_pair : (x y : Items) → entered x y ≡ true → (starts_string x ≡ false) × (starts_string y ≡ false)
unfolding entered
plain_pair end y e = absurd (false≢true e)
plain_pair (leaf l xs) y e = absurd (false≢true e)
plain_pair (group g c xs) end e = absurd (false≢true e)
plain_pair (group g c xs) (leaf m ys) e = absurd (false≢true e)
plain_pair (group g c xs) (group h d ys) e =
    let i = into (holder g c) (holder h d) e in
    (plain_item (holder g c) i.kind i.c xs i.left i.plain, plain_item (holder h d) i.kind i.d ys i.right i.plain_too)

plain_left : (xs ys x : Items) (k : ℕ) (i : List ℕ) → EnteredAt xs ys k i → item_at k i xs ≡ some x → starts_string x ≡ false
plain_left xs ys x k i e q = subst (λ (z : Items). starts_string z ≡ false) (some_same e.x x (sym e.left ∙ q)) (plain_pair e.x e.y e.into).0

plain_right : (xs ys y : Items) (k : ℕ) (i : List ℕ) → EnteredAt xs ys k i → item_at k i ys ≡ some y → starts_string y ≡ false
plain_right xs ys y k i e q = subst (λ (z : Items). starts_string z ≡ false) (some_same e.y y (sym e.right ∙ q)) (plain_pair e.x e.y e.into).1

-- the rows told are rows of the tables, and the two items are what stands there
pub row_holds : (w v : List ℕ) (xs ys : Items) → items_of w ≡ some xs → items_of v ≡ some ys → (k : ℕ) (i : List ℕ) (due : DueAt xs ys k i)
    → HoldsAt w (row_at k i xs) due.x × HoldsAt v (row_at k i ys) due.y
row_holds w v xs ys e f k i due = (
  holds w xs due.x k i e due.left (λ a b j q x. plain_left xs ys x k a (due.around a b j q)),
  holds v ys due.y k i f due.right (λ a b j q y. plain_right xs ys y k a (due.around a b j q)),
)
