-- What reading and writing a sheet answer, by what the crate message told and by the tests that the code makes. Assumes nothing.
use Prim.Native.Nat.{ℕ, ◌^◌, ◌≤◌, ◌<◌}
use mathlib.Core.Path.{◌≡◌, refl, sym, ap, ◌∙◌, subst}
use mathlib.Core.Logic.{◌≢◌}
use mathlib.Core.Bool.{true, false}
use mathlib.Core.Option.{some}
use mathlib.Core.List.{List, [], ◌∷◌, ◌++◌}
use native.Mathlib.Nat.{mod-eq_of_lt}
use native.Mathlib.Omega.{arith}
use lib.ListN.{length}
use lib.IntN.{ℤ, pos}
use lib.Signed.{mag}
use Rattle.format.specs.Numbers.{Bytes, twos}
use Rattle.format.specs.Refusals.{byte_limit, depth_limit}
use Rattle.format.specs.Items.{Items}
use Rattle.format.specs.Messages.{Outcome, refused, says, outcome}
use Rattle.format.specs.Tables.{table_of, words_needed, lawful, items_of}
use Rattle.format.specs.Normal.{normal, depth}
use Rattle.format.specs.Answers.{Reading, over, reading, unwritten, put, writing_of, writing}
use Rattle.format.proofs.Choices.{pick_no, if_lt_no, if_eq_yes, if_eq_no}
use Rattle.format.proofs.TableLaws.{table_back}
use Rattle.message.specs.Words.{NoneDue}
use Rattle.message.proofs.Cases.{read_due}
use Rattle.message.proofs.Demands.{accepted_exactly, read_table}
use Rattle.measure.specs.Sheets.{by_number, sheet_of, passed_on, in_range, all_in_range, fair, measured_as, measuring_of, measuring, sheet_from, sheet_writing, measure_writing}
use Rattle.measure.specs.SheetRows.{SomeTable, scale_at, sheet_in, all_fair, read_into}
use Rattle.measure.proofs.RowTests.{pick_both}
use Rattle.measure.proofs.SheetForm.{fair_is, range_fair, range_fits, sheet_lawful, sheet_depth, sheet_length}
use Rattle.measure.proofs.TableSheets.{scale_word, sheet_in_lem}
use Rattle.measure.proofs.SheetWritten.{in_unit, formed}
use Rattle.measure.proofs.Answering.{both_pick}

-- ---- reading
passed_by : (o : Outcome) (r : Reading) → r.number ≢ 0 → passed_on r ≡ measuring_of o r
unfolding measuring_of
passed_by (refused f) r n = refl
passed_by (says xs) r n = sym (if_eq_no r.number 0 _ _ n)

-- "base refusals pass through with all they answer"
pub read_passed : (m t : List ℕ) (r : Reading) → r ≡ reading m t → r.number ≢ 0 → passed_on r ≡ measuring m t
unfolding measuring
read_passed m t r e n = passed_by (outcome m) r n ∙ ap (measuring_of (outcome m)) e

judged_by : (xs : Items) (r : Reading) → r.number ≡ 0 → measured_as (sheet_of xs) r ≡ measuring_of (says xs) r
unfolding measuring_of
judged_by xs r e = sym (if_eq_yes r.number 0 _ _ e)

module _ (m t : List ℕ) (b : Bytes m) (r : Reading) (e : r ≡ reading m t) (z : r.number ≡ 0) where
  -- the items that were read
  read_items : (xs : Items) × NoneDue m xs (length t)
  read_items = (accepted_exactly m t).0 (sym (ap (λ (x : Reading). x.number) e) ∙ z)

  whole_reading : r ≡ read_into (words_needed read_items.0) (over (table_of read_items.0) t)
  whole_reading = e ∙ read_due m t read_items.0 read_items.1

  -- they stand in the table
  pub read_some : SomeTable r.table
  read_some = (read_items.0, subst (λ (x : Reading). items_of x.table ≡ some read_items.0) (sym whole_reading) (read_table m t read_items.0 b read_items.1))

  -- and are judged as a sheet
  pub read_judged : measured_as (sheet_in r.table) (read_into r.words r.table) ≡ measuring m t
  unfolding measuring read_some
  read_judged =
      let xs = read_items.0 in
      let a : read_into r.words r.table ≡ r = ap (λ (x : Reading). read_into x.words x.table) whole_reading ∙ sym whole_reading in
      ap (λ x. measured_as x (read_into r.words r.table)) (sheet_in_lem r.table xs read_some.1) ∙ ap (measured_as (sheet_of xs)) a
      ∙ judged_by xs r z ∙ ap (λ o. measuring_of o r) (sym read_items.1.said) ∙ ap (measuring_of (outcome m)) e

-- ---- writing
-- a table of items that are neither too deep nor too long
table_written : (xs : Items) (o : List ℕ) → lawful xs ≡ true → depth xs ≤ depth_limit → length (normal xs) ≤ byte_limit
    → writing (table_of xs ++ []) o ≡ put o (normal xs)
unfolding writing writing_of
table_written xs o l d n =
    ap (λ k. writing_of k o) (table_back xs [] l) ∙ if_lt_no depth_limit (depth xs) _ _ d ∙ if_lt_no byte_limit (length (normal xs)) _ _ n

module _ (z : ℤ) (u c w s : ℕ) (o : List ℕ) (h : u < 2) where
  range_of_all : all_in_range (sheet_from z (scale_at u) c w s) ≡ all_fair c w s
  unfolding all_in_range in_range all_fair
  range_of_all = both_pick (fair c) (fair w) (fair s)

  pub out_of_range : all_fair c w s ≡ false → unwritten 22 0 o ≡ measure_writing z u c w s o
  unfolding sheet_writing
  out_of_range f = sym (in_unit z u c w s o (scale_at u) (scale_word u h) ∙ pick_no (all_in_range (sheet_from z (scale_at u) c w s)) _ _ (range_of_all ∙ f))

  -- the table that the code makes is that of the sheet
  small : all_fair c w s ≡ true → (twos 8 (pos c) ≡ c) × (twos 8 (pos w) ≡ w) × (twos 8 (pos s) ≡ s)
  unfolding twos all_fair
  small f =
      let a = pick_both (fair c) _ f in
      let b = pick_both (fair w) (fair s) a.1 in
      (mod-eq_of_lt (omega (arith, (fair_is c a.0).1)), mod-eq_of_lt (omega (arith, (fair_is w b.0).1)), mod-eq_of_lt (omega (arith, (fair_is s b.1).1)))

  table_made : (n : ℕ) → all_fair c w s ≡ true → n ≡ twos 8 z → table_of (by_number (sheet_from z (scale_at u) c w s)) ++ []
      ≡ 8 ∷ 1 ∷ 28 ∷ 0 ∷ 8 ∷ 7 ∷ 7 ∷ 1 ∷ 0 ∷ 12 ∷ 1 ∷ 0 ∷ 1 ∷ 1 ∷ 0 ∷ n ∷ 6 ∷ 0 ∷ u ∷ 1 ∷ 0 ∷ c ∷ 1 ∷ 0 ∷ w ∷ 1 ∷ 0 ∷ s ∷ []
  unfolding table_of by_number
  table_made n f e = let k = small f in rw (e, scale_word u h, k.0, k.1, k.2) refl

  pub sheet_put : (n : ℕ) → all_fair c w s ≡ true → mag z < 2 ^ 63 → n ≡ twos 8 z
      → writing (8 ∷ 1 ∷ 28 ∷ 0 ∷ 8 ∷ 7 ∷ 7 ∷ 1 ∷ 0 ∷ 12 ∷ 1 ∷ 0 ∷ 1 ∷ 1 ∷ 0 ∷ n ∷ 6 ∷ 0 ∷ u ∷ 1 ∷ 0 ∷ c ∷ 1 ∷ 0 ∷ w ∷ 1 ∷ 0 ∷ s ∷ []) o ≡ measure_writing z u c w s o
  sheet_put n f m e =
      let x = sheet_from z (scale_at u) c w s in
      let i = range_fits x (range_of_all ∙ f) in
      ap (λ l. writing l o) (sym (table_made n f e)) ∙ table_written (by_number x) o (sheet_lawful x m i) (omega (arith, sheet_depth x)) (omega (arith, (sheet_length x m i).1))
      ∙ sym (formed z u c w s o (scale_at u) (scale_word u h) (range_fair z (scale_at u) c w s (range_of_all ∙ f)))
