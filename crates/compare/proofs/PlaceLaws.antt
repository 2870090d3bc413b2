-- The places of items: what stands first in a list, inside its first item, and later; and where a difference is due. Assumes nothing.
use Prim.Native.Nat.{ℕ, zero, suc, ◌+◌}
use native.Mathlib.Omega.{arith}
use mathlib.Core.Path.{◌≡◌, refl, sym, ap, ap₂, ◌∙◌, subst}
use mathlib.Core.Logic.{◌≢◌}
use mathlib.Core.Bool.{true, false}
use mathlib.Core.Option.{Option, none, some}
use mathlib.Core.List.{List, [], ◌∷◌, ◌++◌}
use Rattle.format.specs.Items.{Group, Items, end}
use Rattle.format.specs.Tables.{rows}
use Rattle.format.proofs.Choices.{clash}
use Rattle.compare.specs.Differences.{difference}
use Rattle.compare.specs.Places.{item_at, row_at, entered, EnteredAt, PartAt, DueAt, difference_at}
use Rattle.compare.proofs.Pairs.{Item, single, holder, cons, alone, inside, into}

-- ---- the places of a list that begins with an item
pub item_first : (x : Item) (xs : Items) → item_at zero [] (cons x xs) ≡ some (alone x)
unfolding item_at
item_first (single l) xs = refl
item_first (holder g c) xs = refl

pub item_inside : (x : Item) (xs : Items) (j : ℕ) (i : List ℕ) → item_at zero (j ∷ i) (cons x xs) ≡ item_at j i (inside x)
unfolding item_at
item_inside (single l) xs j i = refl
item_inside (holder g c) xs j i = refl

pub item_later : (x : Item) (xs : Items) (k : ℕ) (i : List ℕ) → item_at (suc k) i (cons x xs) ≡ item_at k i xs
unfolding item_at
item_later (single l) xs k i = refl
item_later (holder g c) xs k i = refl

pub item_none : (k : ℕ) (i : List ℕ) → item_at k i end ≡ none
unfolding item_at
item_none k i = refl

pub row_first : (x : Item) (xs : Items) → row_at zero [] (cons x xs) ≡ 0
unfolding row_at
row_first (single l) xs = refl
row_first (holder g c) xs = refl

pub row_inside : (g : Group) (c xs : Items) (j : ℕ) (i : List ℕ) → row_at zero (j ∷ i) (cons (holder g c) xs) ≡ 1 + row_at j i c
unfolding row_at
row_inside g c xs j i = refl

pub row_later : (x : Item) (xs : Items) (k : ℕ) (i : List ℕ) → row_at (suc k) i (cons x xs) ≡ rows (alone x) + row_at k i xs
unfolding row_at rows
row_later (single l) xs k i = refl
row_later (holder g c) xs k i = refl

-- ---- the rows of a pair, of a place inside it, and later
row_within : (x : Item) (xs : Items) (g : Group) (c : Items) (j : ℕ) (i : List ℕ) → x ≡ holder g c → row_at zero (j ∷ i) (cons x xs) ≡ 1 + row_at j i (inside x)
row_within x xs g c j i e = subst (λ (z : Item). row_at zero (j ∷ i) (cons z xs) ≡ 1 + row_at j i (inside z)) (sym e) (row_inside g c xs j i)

module _ (p q : ℕ) (x y : Item) (xs ys : Items) where
  pub tell_first : difference_at p q (cons x xs) (cons y ys) zero [] ≡ difference p q
  tell_first =
      let e : p + row_at zero [] (cons x xs) ≡ p = omega (arith, row_first x xs) in
      let f : q + row_at zero [] (cons y ys) ≡ q = omega (arith, row_first y ys) in
      ap₂ difference e f

  pub tell_inside : (j : ℕ) (i : List ℕ) → entered (alone x) (alone y) ≡ true
      → difference_at p q (cons x xs) (cons y ys) zero (j ∷ i) ≡ difference_at (p + 1) (q + 1) (inside x) (inside y) j i
  tell_inside j i t =
      let r = into x y t in
      let e : p + row_at zero (j ∷ i) (cons x xs) ≡ p + 1 + row_at j i (inside x) = omega (arith, row_within x xs r.kind r.c j i r.left) in
      let f : q + row_at zero (j ∷ i) (cons y ys) ≡ q + 1 + row_at j i (inside y) = omega (arith, row_within y ys r.kind r.d j i r.right) in
      ap₂ difference e f

  pub tell_later : (k : ℕ) (i : List ℕ)
      → difference_at p q (cons x xs) (cons y ys) (suc k) i ≡ difference_at (p + rows (alone x)) (q + rows (alone y)) xs ys k i
  tell_later k i =
      let e : p + row_at (suc k) i (cons x xs) ≡ p + rows (alone x) + row_at k i xs = omega (arith, row_later x xs k i) in
      let f : q + row_at (suc k) i (cons y ys) ≡ q + rows (alone y) + row_at k i ys = omega (arith, row_later y ys k i) in
      ap₂ difference e f

-- ---- what holds at a place holds at another that has the same items
entered_moved : (xs ys us vs : Items) (k l : ℕ) (i j : List ℕ) → item_at k i xs ≡ item_at l j us → item_at k i ys ≡ item_at l j vs
    → EnteredAt xs ys k i → EnteredAt us vs l j
entered_moved xs ys us vs k l i j e f a = record { x = a.x; y = a.y; left = sym e ∙ a.left; right = sym f ∙ a.right; into = a.into }

pub part_moved : (xs ys us vs : Items) (k l : ℕ) (i j : List ℕ) → item_at k i xs ≡ item_at l j us → item_at k i ys ≡ item_at l j vs
    → PartAt xs ys k i → PartAt us vs l j
part_moved xs ys us vs k l i j e f a =
    record { unlike = λ q. a.unlike (e ∙ q ∙ sym f); shut = λ t. a.shut (entered_moved us vs xs ys l k j i (sym e) (sym f) t) }

due_moved : (xs ys us vs : Items) (k l : ℕ) → ((i : List ℕ) → item_at k i xs ≡ item_at l i us) → ((i : List ℕ) → item_at k i ys ≡ item_at l i vs)
    → (i : List ℕ) → DueAt xs ys k i → DueAt us vs l i
due_moved xs ys us vs k l e f i a =
    record {
      x = a.x;
      y = a.y;
      left = sym (e i) ∙ a.left;
      right = sym (f i) ∙ a.right;
      part = part_moved xs ys us vs k l i i (e i) (f i) a.part;
      around = λ b c j q. entered_moved xs ys us vs k l b b (e b) (f b) (a.around b c j q);
    }

-- ---- no item, and no place around
pub no_item : {X : Type 0} (x : Items) → ◌≡◌ {A = Option Items} none (some x) → X
no_item x e = let z : ◌≡◌ {A = ℕ} 0 1 = cc in absurd (omega arith)

pub some_same : (x y : Items) → some x ≡ some y → x ≡ y
some_same x y e = cc

no_beginning : {X : Type 0} (a b : List ℕ) (j : ℕ) → a ++ (j ∷ b) ≡ [] → X
no_beginning [] b j e = let z : ◌≡◌ {A = ℕ} 0 1 = cc in absurd (omega arith)
no_beginning (m ∷ a) b j e = let z : ◌≡◌ {A = ℕ} 0 1 = cc in absurd (omega arith)

-- ---- where a difference is due in two lists that begin with a pair: at the pair, inside it, later
module _ (x y : Item) (xs ys : Items) where
  pub enter_first : entered (alone x) (alone y) ≡ true → EnteredAt (cons x xs) (cons y ys) zero []
  enter_first t = record { x = alone x; y = alone y; left = item_first x xs; right = item_first y ys; into = t }

  pub entered_first : EnteredAt (cons x xs) (cons y ys) zero [] → entered (alone x) (alone y) ≡ true
  entered_first e =
      ap₂ entered (some_same (alone x) e.x (sym (item_first x xs) ∙ e.left)) (some_same (alone y) e.y (sym (item_first y ys) ∙ e.right)) ∙ e.into

  pub due_first : alone x ≢ alone y → entered (alone x) (alone y) ≡ false → DueAt (cons x xs) (cons y ys) zero []
  due_first n t =
      record {
        x = alone x;
        y = alone y;
        left = item_first x xs;
        right = item_first y ys;
        part = record {
          unlike = λ e. n (some_same (alone x) (alone y) (sym (item_first x xs) ∙ e ∙ item_first y ys));
          shut = λ e. clash (entered (alone x) (alone y)) (entered_first e) t;
        };
        around = λ a b j e. no_beginning a b j e;
      }

  -- the pair, and all around a place inside it
  around_inside : (j : ℕ) (i : List ℕ) → entered (alone x) (alone y) ≡ true
      → ((a b : List ℕ) (m : ℕ) → a ++ (m ∷ b) ≡ i → EnteredAt (inside x) (inside y) j a)
      → (a b : List ℕ) (m : ℕ) → a ++ (m ∷ b) ≡ j ∷ i → EnteredAt (cons x xs) (cons y ys) zero a
  around_inside j i t f [] b m e = enter_first t
  around_inside j i t f (n ∷ a) b m e =
      let u : j ≡ n = cc in
      let v : a ++ (m ∷ b) ≡ i = cc in
      entered_moved (inside x) (inside y) (cons x xs) (cons y ys) j zero a (n ∷ a)
      (ap (λ z. item_at z a (inside x)) u ∙ sym (item_inside x xs n a)) (ap (λ z. item_at z a (inside y)) u ∙ sym (item_inside y ys n a)) (f a b m v)

  pub due_inside : (j : ℕ) (i : List ℕ) → entered (alone x) (alone y) ≡ true → DueAt (inside x) (inside y) j i → DueAt (cons x xs) (cons y ys) zero (j ∷ i)
  due_inside j i t d =
      let e = item_inside x xs j i in
      let f = item_inside y ys j i in
      record {
        x = d.x;
        y = d.y;
        left = e ∙ d.left;
        right = f ∙ d.right;
        part = part_moved (inside x) (inside y) (cons x xs) (cons y ys) j zero i (j ∷ i) (sym e) (sym f) d.part;
        around = around_inside j i t d.around;
      }

  pub inside_due : (j : ℕ) (i : List ℕ) → DueAt (cons x xs) (cons y ys) zero (j ∷ i) → DueAt (inside x) (inside y) j i
  inside_due j i d =
      let e = item_inside x xs j in
      let f = item_inside y ys j in
      record {
        x = d.x;
        y = d.y;
        left = sym (e i) ∙ d.left;
        right = sym (f i) ∙ d.right;
        part = part_moved (cons x xs) (cons y ys) (inside x) (inside y) zero j (j ∷ i) i (e i) (f i) d.part;
        around = λ a b m q. entered_moved (cons x xs) (cons y ys) (inside x) (inside y) zero j (j ∷ a) a (e a) (f a) (d.around (j ∷ a) b m (ap (◌∷◌ j) q));
      }

  pub due_later : (k : ℕ) (i : List ℕ) → DueAt xs ys k i → DueAt (cons x xs) (cons y ys) (suc k) i
  due_later k = due_moved xs ys (cons x xs) (cons y ys) k (suc k) (λ i. sym (item_later x xs k i)) (λ i. sym (item_later y ys k i))

  pub later_due : (k : ℕ) (i : List ℕ) → DueAt (cons x xs) (cons y ys) (suc k) i → DueAt xs ys k i
  later_due k = due_moved (cons x xs) (cons y ys) xs ys (suc k) k (item_later x xs k) (item_later y ys k)
