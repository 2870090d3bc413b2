-- From two tables to comparing's answer: not a table, as many outermost items or not, a list that is too short. Assumes nothing.
use mathlib.Core.Path.{◌≡◌, refl, sym, ap, ap₂, ◌∙◌}
use mathlib.Core.Logic.{◌≢◌}
use Prim.Native.Nat.{ℕ, ◌+◌, ◌*◌, ◌/◌, ◌≤◌, ◌<◌}
use native.Mathlib.Omega.{arith}
use mathlib.Core.Bool.{true, false, false≢true}
use mathlib.Core.Option.{Option, none, some}
use mathlib.Core.List.{List, [], ◌∷◌}
use lib.ListN.{length, length-map, get_or}
use Rattle.std.specs.Prelude.{map}
use Rattle.compare.specs.declared.walk.Pair.{Pair}
use Rattle.format.specs.Refusals.{not_a_table, list_short}
use Rattle.format.specs.Answers.{over}
use Rattle.format.specs.Lent.{over_at}
use Rattle.format.specs.Items.{Items}
use Rattle.format.specs.Tables.{count, items_of}
use Rattle.format.proofs.Choices.{if_eq_yes, if_eq_no, if_lt_yes, if_lt_no}
use Rattle.format.proofs.Over.{at_front}
use Rattle.table.specs.Rows.{rows_of}
use Rattle.table.specs.InOrder.{is_some}
use Rattle.table.proofs.Whole.{whole}
use Rattle.compare.specs.Differences.{difference, changes, entries, answered, differing, comparing_of, comparing}
use Rattle.compare.specs.Walks.{changes_for, changes_of, changes_left, pair_of, Walk, BothTables}
use Rattle.compare.proofs.ListLaws.{no_length, rest_is}
use Rattle.compare.proofs.DifferenceLaws.{changes_few}

-- ---- both are tables, or one is none
its_items : (w : List ℕ) → true ≡ is_some (items_of w) → (xs : Items) × (items_of w ≡ some xs)
its_items w = go (items_of w) refl
  where
    go : (x : Option Items) → items_of w ≡ x → true ≡ is_some x → (xs : Items) × (items_of w ≡ some xs)
    go none i = unfold is_some in λ (e : true ≡ false). absurd (false≢true (sym e))
    go (some xs) i = λ e. (xs, i)

pub both_tables : (w v : List ℕ) → true ≡ is_some (items_of w) → true ≡ is_some (items_of v) → BothTables w v
both_tables w v a b =
    let i = its_items w a in
    let j = its_items v b in
    record { xs = i.0; ys = j.0; left = i.1; right = j.1 }

pub not_left : (w v t : List ℕ) → false ≡ is_some (items_of w) → answered not_a_table 0 t ≡ comparing w v t
unfolding comparing
not_left w v t = go (items_of w)
  where
    go : (x : Option Items) → false ≡ is_some x → answered not_a_table 0 t ≡ comparing_of x (items_of v) t
    go none = λ e. unfold comparing_of in refl
    go (some xs) = unfold is_some in λ (e : false ≡ true). absurd (false≢true e)

pub not_right : (w v t : List ℕ) → false ≡ is_some (items_of v) → answered not_a_table 0 t ≡ comparing w v t
unfolding comparing
not_right w v t = go (items_of w) (items_of v)
  where
    go : (x y : Option Items) → false ≡ is_some y → answered not_a_table 0 t ≡ comparing_of x y t
    go none y = λ e. unfold comparing_of in refl
    go (some xs) none = λ e. unfold comparing_of in refl
    go (some xs) (some ys) = unfold is_some in λ (e : false ≡ true). absurd (false≢true e)

-- ---- of two tables
module _ (w v : List ℕ) (s : BothTables w v) where
  pub long : (4 ≤ length w) × (4 ≤ length v)
  long = ((whole w s.xs s.left).formed.long, (whole v s.ys s.right).formed.long)

  pub changes_are : changes_of w v ≡ changes s.xs s.ys
  unfolding changes_of changes_for
  changes_are = rw (s.left, s.right) refl

  pub compared : (t : List ℕ) → comparing w v t ≡ differing (changes_of w v) t
  unfolding comparing comparing_of
  compared t = rw (s.left, s.right) (ap (λ z. differing z t) (sym changes_are))

  -- "If the outermost counts differ, that is the one difference, told as row R of each table."
  pub counts_differ : get_or w 1 0 ≢ get_or v 1 0 → changes_of w v ≡ difference (rows_of w) (rows_of v) ∷ []
  unfolding changes
  counts_differ n =
      let a = whole w s.xs s.left in
      let b = whole v s.ys s.right in
      changes_are ∙ if_eq_no (count s.xs) (count s.ys) _ _ (λ e. n (sym a.number ∙ e ∙ b.number))
      ∙ ap₂ (λ p q. difference p q ∷ []) (omega (arith, a.stands.number)) (omega (arith, b.stands.number))

  pub counts_same : get_or w 1 0 ≡ get_or v 1 0 → Walk w v 0 0 (changes_of w v)
  unfolding changes
  counts_same n =
      let a = whole w s.xs s.left in
      let b = whole v s.ys s.right in
      let e : count s.xs ≡ count s.ys = a.number ∙ n ∙ sym b.number in
      record {
        d = 0;
        e = 0;
        xs = s.xs;
        ys = s.ys;
        left = a.stands;
        right = b.stands;
        number = e;
        told = changes_are ∙ if_eq_yes (count s.xs) (count s.ys) _ _ e;
      }

  -- before the first rows all is left
  pub all_left : get_or w 1 0 ≡ get_or v 1 0 → map pair_of (changes_left w v 0 0) ≡ map pair_of (changes_of w v)
  all_left n = ap (map pair_of) (sym (rest_is w v 0 0 (counts_same n)))

  -- the first pair, and those behind it
  pub number_left : get_or w 1 0 ≡ get_or v 1 0 → (c : Pair) (ps : List Pair) → map pair_of (changes_left w v 0 0) ≡ c ∷ ps → length (changes_of w v) ≡ 1 + length ps
  number_left n c ps e = sym (length-map (changes_of w v) pair_of) ∙ ap length (sym (all_left n) ∙ e) ∙ omega arith

  -- there are no more differences than rows
  pub changes_bound : length (changes_of w v) ≤ 16384
  changes_bound =
      let k = (whole w s.xs s.left).stands in
      let n = k.number in
      let f = k.few in
      omega (arith, ap length changes_are, changes_few 16384 s.xs s.ys (omega arith) (omega arith))

-- ---- the list decides between 16 and 0, as the code answers
module _ (w v : List ℕ) (s : BothTables w v) (t : List ℕ) (n : ℕ) where
  pub too_short : n ≡ length (changes_of w v) → length t / 2 < n → answered list_short n t ≡ comparing w v t
  unfolding differing
  too_short e h =
      ap (λ z. answered list_short z t) e ∙ sym (compared w v s t ∙ if_lt_yes (length t / 2) (length (changes_of w v)) _ _ (omega arith))

  pub all_listed : (u : List ℕ) → n ≡ length (changes_of w v) → n ≤ length t / 2 → u ≡ over (entries (changes_of w v)) t → answered 0 n u ≡ comparing w v t
  unfolding differing
  all_listed u e h i =
      ap₂ (answered 0) e i ∙ sym (compared w v s t ∙ if_lt_no (length t / 2) (length (changes_of w v)) _ _ (omega arith))

  -- nothing is left before the first rows
  pub nothing_left : get_or w 1 0 ≡ get_or v 1 0 → map pair_of (changes_left w v 0 0) ≡ [] → n ≡ 0 → answered 0 n t ≡ comparing w v t
  unfolding over entries
  nothing_left m e z =
      let l : length (changes_of w v) ≡ 0 = sym (length-map (changes_of w v) pair_of) ∙ ap length (sym (all_left w v s m) ∙ e) in
      all_listed t (omega arith) (omega arith) (ap (λ l. over (entries l) t) (sym (no_length (changes_of w v) l)))

-- the one entry of unlike counts
module _ (w v : List ℕ) (s : BothTables w v) (n : get_or w 1 0 ≢ get_or v 1 0) (t : List ℕ) where
  pub no_room : length t < 2 → answered list_short 1 t ≡ comparing w v t
  no_room h = too_short w v s t 1 (sym (ap length (counts_differ w v s n))) (omega arith)

  pub one_entry : (u : List ℕ) → 2 ≤ length t → u ≡ over_at (2 * 0) (rows_of w ∷ rows_of v ∷ []) t → answered 0 1 u ≡ comparing w v t
  unfolding entries
  one_entry u h e =
      let d = counts_differ w v s n in
      all_listed w v s t 1 u (sym (ap length d)) (omega arith) (e ∙ at_front (rows_of w ∷ rows_of v ∷ []) t ∙ ap (λ l. over (entries l) t) (sym d))
