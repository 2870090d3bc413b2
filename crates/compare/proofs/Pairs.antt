-- Two lists of as many items, pair by pair: what a pair adds to their differences, and a fact proved of each pair and what is inside
-- it. Assumes nothing.
use Prim.Native.Nat.{ℕ, suc, ◌+◌}
use native.Mathlib.Omega.{arith}
use mathlib.Core.Path.{◌≡◌, refl, sym, ap, ◌∙◌, subst}
use mathlib.Core.Logic.{◌↔◌}
use mathlib.Core.Bool.{Bool, true, false, not, false≢true}
use mathlib.Core.List.{List, ◌++◌}
use lib.Dec.{eqb}
use Rattle.format.specs.Choice.{pick}
use Rattle.format.specs.Items.{Leaf, Group, struc, edt, Items, end, leaf, group, join}
use Rattle.format.specs.Tables.{count, rows, is_text, container_kind}
use Rattle.format.proofs.Choices.{pick_no, by_pick, both_left, both_right, both_true, true_eq, eq_true}
use Rattle.compare.specs.Differences.{Difference, gone_into, unequal, differences}
use Rattle.compare.specs.Places.{entered}

-- an item, and a list that begins with it
pub data Item : Type 0 where
  single : Leaf → Item
  holder : Group → Items → Item

abbrev pub cons : Item → Items → Items
cons (single l) xs = leaf l xs
cons (holder g c) xs = group g c xs

abbrev pub alone : Item → Items
alone x = cons x end

abbrev pub inside : Item → Items
inside (single l) = end
inside (holder g c) = c

-- ---- two containers that are gone into
pub record Into (x y : Item) : Type 0 where
  pub kind : Group
  pub c : Items
  pub d : Items
  pub left : x ≡ holder kind c
  pub right : y ≡ holder kind d
  pub plain : is_text kind c ≡ false
  pub plain_too : is_text kind d ≡ false
  pub number : count c ≡ count d

not-true : (b : Bool) → not b ≡ true → b ≡ false
not-true true e = sym e
not-true false e = refl

pub same_kind : (g h : Group) → container_kind g ≡ container_kind h → g ≡ h
unfolding container_kind
same_kind struc struc e = refl
same_kind struc edt e = absurd (omega arith)
same_kind edt struc e = absurd (omega arith)
same_kind edt edt e = refl

record Tests (g h : Group) (c d : Items) : Type 0 where
  kind : g ≡ h
  plain : is_text g c ≡ false
  plain_too : is_text h d ≡ false
  number : count c ≡ count d

tests : (g h : Group) (c d : Items) → gone_into g c h d ≡ true → Tests g h c d
unfolding gone_into
tests g h c d e =
    let t = both_right (not (is_text g c)) _ e in
    let u = both_right (not (is_text h d)) _ t in
    record {
      kind = same_kind g h (true_eq _ _ (both_left (eqb (container_kind g) (container_kind h)) _ u));
      plain = not-true (is_text g c) (both_left (not (is_text g c)) _ e);
      plain_too = not-true (is_text h d) (both_left (not (is_text h d)) _ t);
      number = true_eq _ _ (both_right (eqb (container_kind g) (container_kind h)) _ u);
    }

pub into : (x y : Item) → entered (alone x) (alone y) ≡ true → Into x y
unfolding entered
into (single l) y e = absurd (false≢true e)
into (holder g c) (single m) e = absurd (false≢true e)
into (holder g c) (holder h d) e =
    let t = tests g h c d e in
    record {
      kind = h;
      c = c;
      d = d;
      left = ap (λ z. holder z c) t.kind;
      right = refl;
      plain = subst (λ (z : Group). is_text z c ≡ false) t.kind t.plain;
      plain_too = t.plain_too;
      number = t.number;
    }

-- two STRUCs or two EDTs, no strings, with as many elements
pub gone_into_lem : (g : Group) (c d : Items) → is_text g c ≡ false → is_text g d ≡ false → count c ≡ count d → gone_into g c g d ≡ true
unfolding gone_into
gone_into_lem g c d s t n =
    both_true (not (is_text g c)) _ (rw s refl) (both_true (not (is_text g d)) _ (rw t refl)
    (both_true (eqb (container_kind g) (container_kind g)) _ (eq_true (container_kind g) (container_kind g) refl) (eq_true (count c) (count d) n)))

-- "Two STRUCs, or two EDTs, with the same number of direct elements are gone into", strings aside: exactly these
pub into_exactly : (g h : Group) (c d : Items) → (gone_into g c h d ≡ true) ↔ ((g ≡ h) × (is_text g c ≡ false) × (is_text h d ≡ false) × (count c ≡ count d))
into_exactly g h c d = (
  λ e. let t = tests g h c d e in (t.kind, t.plain, t.plain_too, t.number),
  λ t. ap (λ z. gone_into z c h d) t.0 ∙ gone_into_lem h c d (subst (λ (z : Group). is_text z c ≡ false) t.0 t.1) t.2 t.3,
)

-- ---- one pair, and then the rest
unfoldable pub between : ℕ → ℕ → Item → Item → List Difference
unfolding pick entered differences unequal
between p q x y = pick (entered (alone x) (alone y)) (differences (p + 1) (q + 1) (inside x) (inside y)) (unequal p q (alone x) (alone y))

pub pair_on : (p q : ℕ) (x y : Item) (xs ys : Items)
    → differences p q (cons x xs) (cons y ys) ≡ between p q x y ++ differences (p + rows (alone x)) (q + rows (alone y)) xs ys
unfolding differences between
pair_on p q (single l) (single m) xs ys = refl
pair_on p q (single l) (holder h d) xs ys = refl
pair_on p q (holder g c) (single m) xs ys = refl
pair_on p q (holder g c) (holder h d) xs ys = refl

-- a fact of what a pair adds: the two are gone into, or not
pub by_pair : (P : List Difference → Type 0) (p q : ℕ) (x y : Item)
    → (entered (alone x) (alone y) ≡ true → P (differences (p + 1) (q + 1) (inside x) (inside y)))
    → (entered (alone x) (alone y) ≡ false → P (unequal p q (alone x) (alone y))) → P (between p q x y)
unfolding between
by_pair P p q x y f g = by_pick P (entered (alone x) (alone y)) f g

-- a fact of all lists of as many items, from that of each pair, of the elements of a pair that is gone into, and of what is behind it
pub by_pairs : (P : ℕ → ℕ → Items → Items → Type 0)
    → ((p q : ℕ) → P p q end end)
    → ((p q : ℕ) (x y : Item) (xs ys : Items) → count xs ≡ count ys
    → (entered (alone x) (alone y) ≡ true → P (p + 1) (q + 1) (inside x) (inside y))
    → P (p + rows (alone x)) (q + rows (alone y)) xs ys → P p q (cons x xs) (cons y ys))
    → (p q : ℕ) (xs ys : Items) → count xs ≡ count ys → P p q xs ys
unfolding count entered
by_pairs P f g p q end end n = f p q
by_pairs P f g p q end (leaf m ys) n = absurd (omega arith)
by_pairs P f g p q end (group h d ys) n = absurd (omega arith)
by_pairs P f g p q (leaf l xs) end n = absurd (omega arith)
by_pairs P f g p q (leaf l xs) (leaf m ys) n =
    g p q (single l) (single m) xs ys (omega arith) (λ e. absurd (false≢true e)) (by_pairs P f g _ _ xs ys (omega arith))
by_pairs P f g p q (leaf l xs) (group h d ys) n =
    g p q (single l) (holder h d) xs ys (omega arith) (λ e. absurd (false≢true e)) (by_pairs P f g _ _ xs ys (omega arith))
by_pairs P f g p q (group i c xs) end n = absurd (omega arith)
by_pairs P f g p q (group i c xs) (leaf m ys) n =
    g p q (holder i c) (single m) xs ys (omega arith) (λ e. absurd (false≢true e)) (by_pairs P f g _ _ xs ys (omega arith))
by_pairs P f g p q (group i c xs) (group h d ys) n =
    g p q (holder i c) (holder h d) xs ys (omega arith)
    (λ e. by_pairs P f g (p + 1) (q + 1) c d (tests i h c d e).number) (by_pairs P f g _ _ xs ys (omega arith))

-- ---- rows
pub rows_on : (x : Item) (xs : Items) → rows (cons x xs) ≡ rows (alone x) + rows xs
unfolding rows
rows_on (single l) xs = omega arith
rows_on (holder g c) xs = omega arith

pub count_on : (x : Item) (xs : Items) → count (cons x xs) ≡ suc (count xs)
unfolding count
count_on (single l) xs = refl
count_on (holder g c) xs = refl

pub join_on : (x : Item) (xs ys : Items) → join (cons x xs) ys ≡ cons x (join xs ys)
unfolding join
join_on (single l) xs ys = refl
join_on (holder g c) xs ys = refl

pub plain_rows_lem : (g : Group) (c : Items) → is_text g c ≡ false → rows (group g c end) ≡ 1 + rows c
unfolding rows
plain_rows_lem g c t = ap (λ z. suc (z + 0)) (pick_no (is_text g c) 0 (rows c) t) ∙ omega arith
