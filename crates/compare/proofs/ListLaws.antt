-- Differences in a lent list, and the walk that lists them. Assumes nothing.
use mathlib.Core.Path.{◌≡◌, refl, sym, ap, ap₂, subst, ◌∙◌}
use Prim.Native.Nat.{ℕ, ◌+◌, ◌*◌, ◌≤◌, ◌<◌}
use native.Mathlib.Omega.{arith}
use mathlib.Core.Bool.{true, false}
use mathlib.Core.List.{List, [], ◌∷◌, ◌++◌, append_assoc}
use lib.ListN.{length, take, drop, length-append, length-map, length-drop, take-append-drop}
use lib.Seq.{take_at, drop_at, take_all, length-take-le}
use Rattle.format.specs.Answers.{over}
use Rattle.format.specs.Items.{Items, end, leaf, group}
use Rattle.format.specs.Tables.{rows}
use Rattle.format.specs.Lent.{over_at}
use Rattle.format.proofs.Over.{over_next}
use Rattle.table.specs.Rows.{rows_of, next_row}
use Rattle.table.proofs.Standing.{stands_is}
use Rattle.compare.specs.Differences.{Difference, difference, differences, entries}
use Rattle.std.specs.Prelude.{map, Some}
use Rattle.std.specs.Iterator.{MakesProgress, item_count, YieldsFirst, Drains}
use Rattle.compare.specs.declared.walk.Pair.{Pair}
use Rattle.compare.specs.declared.walk.Apart.{Apart}
use Rattle.compare.specs.Walks.{rows_alike, changes_left, Walk, Going, InRows, pair_of, pairs_left, Walking, Skipped}
use Rattle.compare.proofs.Walking.{walk_on, walk_past, in_rows}

-- ---- entries
pub no_length : (l : List Difference) → length l ≡ 0 → l ≡ []
no_length [] e = refl
no_length (c ∷ l) e = absurd (omega arith)

pub entries_append : (l m : List Difference) → entries (l ++ m) ≡ entries l ++ entries m
unfolding entries
entries_append [] m = refl
entries_append (c ∷ l) m = ap (λ z. c.left ∷ c.right ∷ z) (entries_append l m)

pub entries_length : (l : List Difference) → length (entries l) ≡ 2 * length l
unfolding entries
entries_length [] = refl
entries_length (c ∷ l) = omega (arith, entries_length l)

-- nothing is left behind the last row
walk_end : (w v : List ℕ) (p q : ℕ) (rest : List Difference) → Walk w v p q rest → rows_of w ≤ p → rest ≡ []
walk_end w v p q rest k h = k.told ∙ ended k.xs (omega (arith, k.left.number))
  where
    ended : (xs : Items) → rows xs ≡ 0 → differences p q xs k.ys ≡ []
    ended end z = unfold differences in refl
    ended (leaf l xs) z = absurd (unfold rows in omega arith)
    ended (group g d xs) z = absurd (unfold rows in omega arith)

-- ---- the walk from the rows p and q on
pub rest_is : (w v : List ℕ) (p q : ℕ) {rest : List Difference} → Walk w v p q rest → rest ≡ changes_left w v p q
rest_is w v p q k = k.told ∙ sym (ap₂ (differences p q) (stands_is w k.d p (rows_of w) k.xs k.left) (stands_is v k.e q (rows_of v) k.ys k.right))

module _ (w v : List ℕ) (p q : ℕ) where
  walk_here : Going w v p q → Walk w v p q (changes_left w v p q)
  walk_here g = subst (Walk w v p q) (rest_is w v p q g.walk) g.walk

  pub none_left : Going w v p q → rows_of w ≤ p → changes_left w v p q ≡ []
  none_left g h = walk_end w v p q _ (walk_here g) h

  module _ (g : Going w v p q) (h : p < rows_of w) where
    pub rows_here : InRows w v p q
    rows_here = in_rows w v p q _ (walk_here g) h

    -- past two rows that are alike
    pub going_on : rows_alike w v p q ≡ true → Going w v (p + 1) (q + 1)
    going_on a = record { rest = _; walk = walk_on w v p q _ (walk_here g) h a }

    pub rest_on : rows_alike w v p q ≡ true → changes_left w v (p + 1) (q + 1) ≡ changes_left w v p q
    rest_on a = sym (rest_is w v (p + 1) (q + 1) (walk_on w v p q _ (walk_here g) h a))

    -- past two items that differ
    pub going_past : rows_alike w v p q ≡ false → Going w v (next_row w p) (next_row v q)
    going_past a = record { rest = _; walk = (walk_past w v p q _ (walk_here g) h a).walk }

    pub rest_past : rows_alike w v p q ≡ false → changes_left w v p q ≡ difference p q ∷ changes_left w v (next_row w p) (next_row v q)
    rest_past a =
        let k = walk_past w v p q _ (walk_here g) h a in
        k.told ∙ ap (λ l. difference p q ∷ l) (rest_is w v (next_row w p) (next_row v q) k.walk)

-- ---- as the iterator asks: where b is a, with what is alike left behind
module _ {a b : Apart} (s : Skipped a b) where
  pub left_none : rows_of b.left.now ≤ b.at.left → (pairs_left a ≡ []) × (pairs_left b ≡ [])
  left_none h =
      let e = none_left _ _ _ _ s.onward.going h in
      (ap (map pair_of) (sym s.onward.rest ∙ e), ap (map pair_of) e)

  module _ (h : b.at.left < rows_of b.left.now) (m n : ℕ) (i : m ≡ next_row b.left.now b.at.left) (j : n ≡ next_row b.right.now b.at.right) where
    pub going_behind : Going b.left.now b.right.now m n
    going_behind = rw (i, j) (going_past _ _ _ _ s.onward.going h (s.apart h))

    pub left_some : pairs_left a ≡ b.at ∷ map pair_of (changes_left b.left.now b.right.now m n)
    left_some = ap (map pair_of) (sym s.onward.rest) ∙ rw (i, j) (ap (map pair_of) (rest_past _ _ _ _ s.onward.going h (s.apart h)))

pub one_less : {a b : Apart} {c : Pair} → Walking b → pairs_left a ≡ c ∷ pairs_left b → MakesProgress Walking (item_count pairs_left) a (Some c) b
one_less g e = let n = ap length e in record { on = λ f. (g, tt, omega arith); keeps = g; rests = λ f. tt }

-- as many pairs come as are left
pub all_come : (ps : List Pair) (s : Apart) → Drains (YieldsFirst pairs_left) s ps → length ps ≡ length (pairs_left s)
all_come [] s d = sym (ap length (ap pairs_left d.1.1 ∙ d.1.2.0))
all_come (c ∷ ps) s d = omega (arith, all_come ps d.1.1.0 (d.0, (d.1.0, d.1.1.2, d.1.2)), ap length d.1.1.1)

-- ---- the first n of the differences l are listed
-- one more, behind those that stand there
entry_next : (l : List Difference) (c : Difference) (n : ℕ) (o t : List ℕ) → length l ≡ n → t ≡ over (entries l) o
    → over_at (2 * n) (c.left ∷ c.right ∷ []) t ≡ over (entries (l ++ (c ∷ []))) o
unfolding entries
entry_next l c n o t e h =
    over_next (entries l) (c.left ∷ c.right ∷ []) o t (2 * n) h (omega (arith, entries_length l)) ∙ ap (λ z. over z o) (sym (entries_append l (c ∷ [])))

pub record Listed (l : List Difference) (n : ℕ) (ps : List Pair) (o t : List ℕ) : Type 0 where
  pub within : n ≤ length l
  pub rest : ps ≡ map pair_of (drop n l)
  pub list : t ≡ over (entries (take n l)) o

pub listed_none : (l : List Difference) (ps : List Pair) (t : List ℕ) → ps ≡ map pair_of l → Listed l 0 ps t t
unfolding entries over
listed_none l ps t e = record { within = omega arith; rest = e; list = refl }

module _ {l : List Difference} {n : ℕ} {ps : List Pair} {o t : List ℕ} (h : Listed l n ps o t) where
  pub listed_on : {c : Pair} {qs : List Pair} {u : List ℕ} → ps ≡ c ∷ qs → u ≡ over_at (2 * n) (c.left ∷ c.right ∷ []) t
      → (n < length l) × Listed l (n + 1) qs o u
  listed_on {c} {qs} {u} e f = go (drop n l) refl (sym h.rest ∙ e)
    where
      go : (d : List Difference) → drop n l ≡ d → map pair_of d ≡ c ∷ qs → (n < length l) × Listed l (n + 1) qs o u
      go [] i k = absurd (cc)
      go (x ∷ d) i k =
          let w = h.within in
          let m : n < length l = omega (arith, ap length i, length-drop n l) in
          let z : length (take n l) ≡ n = length-take-le n l w in
          let a : length (take n l ++ (x ∷ [])) ≡ n + 1 = length-append (take n l) (x ∷ []) ∙ omega arith in
          let s : l ≡ (take n l ++ (x ∷ [])) ++ d = sym (take-append-drop n l) ∙ ap (λ y. take n l ++ y) i ∙ sym (append_assoc (take n l) (x ∷ []) d) in
          let y : pair_of x ≡ c = cc in
          let v : map pair_of d ≡ qs = cc in (
            m,
            record {
              within = omega arith;
              rest = sym v ∙ ap (map pair_of) (sym (drop_at (take n l ++ (x ∷ [])) d (n + 1) a) ∙ ap (drop (n + 1)) (sym s));
              list = f ∙ ap (λ r. over_at (2 * n) (r.left ∷ r.right ∷ []) t) (sym y) ∙ entry_next (take n l) x n o t z h.list
                  ∙ ap (λ r. over (entries r) o) (sym (take_at (take n l ++ (x ∷ [])) d (n + 1) a) ∙ ap (take (n + 1)) (sym s));
            },
          )

  -- nothing is left
  pub listed_all : length l ≤ n → t ≡ over (entries l) o
  listed_all k = h.list ∙ ap (λ r. over (entries r) o) (take_all n l k)

  pub listed_empty : ps ≡ [] → length l ≤ n
  listed_empty e = omega (arith, ap length (sym h.rest ∙ e), length-map (drop n l) pair_of, length-drop n l)
