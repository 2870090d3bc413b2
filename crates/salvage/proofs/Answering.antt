-- What salvaging answers, by what was measured. Assumes nothing.
use Prim.Native.Nat.{ℕ, ◌/◌, ◌≤◌, ◌<◌}
use native.Mathlib.Omega.{arith}
use mathlib.Core.Path.{◌≡◌, sym, ap, ap₂, ◌∙◌}
use mathlib.Core.Logic.{◌≢◌, ◌⊎◌, inl, inr}
use mathlib.Core.List.{List}
use lib.ListN.{length}
use Rattle.format.specs.Refusals.{too_many, byte_limit, row_limit, word_limit}
use Rattle.format.specs.Items.{Items}
use Rattle.format.specs.Messages.{says}
use Rattle.format.specs.Tables.{rows, data_words}
use Rattle.format.specs.Answers.{over}
use Rattle.format.proofs.Choices.{if_lt_yes, if_lt_no, if_eq_yes, if_eq_no, split}
use Rattle.salvage.specs.Mending.{met_by, met_alone, mended, changes_in, change_words, salvaging}
use Rattle.salvage.specs.declared.walk.Measure.{Measure}
use Rattle.salvage.specs.Words.{HasRoom}
use Rattle.salvage.specs.Told.{measure_of, answer_of, salvage_told}
use Rattle.salvage.proofs.MendedLaws.{mended_says}
use Rattle.salvage.proofs.Verdicts.{said_is}
use Rattle.salvage.proofs.PartCases.{rows_in, words_in}

pub answer_long : (m o t : List ℕ) → byte_limit < length m → salvage_told (answer_of 1 0 0) o t ≡ salvaging m o t
unfolding salvaging
answer_long m o t h = sym (if_lt_yes byte_limit (length m) _ _ h)

-- ---- 10 for what comes out, by its rows and data words
module _ (m : List ℕ) where
  abbrev says_what : Items
  says_what = (mended_says m).0

  met_what : met_alone (mended m) ≡ met_by (says says_what)
  unfolding met_alone
  met_what = ap met_by (mended_says m).1

  rows_what : rows_in (mended m) ≡ rows says_what
  rows_what = ap rows (said_is (mended m) says_what (mended_says m).1)

  words_what : words_in (mended m) ≡ length (data_words says_what)
  words_what = ap (λ z. length (data_words z)) (said_is (mended m) says_what (mended_says m).1)

  over_rows : row_limit < rows_in (mended m) → met_alone (mended m) ≡ too_many
  unfolding met_by
  over_rows h = met_what ∙ if_lt_yes row_limit (rows says_what) _ _ (omega (arith, rows_what))

  over_words : rows_in (mended m) ≤ row_limit → word_limit < words_in (mended m) → met_alone (mended m) ≡ too_many
  unfolding met_by
  over_words h k =
      met_what ∙ if_lt_no row_limit (rows says_what) _ _ (omega (arith, rows_what)) ∙ if_lt_yes word_limit (length (data_words says_what)) _ _ (omega (arith, words_what))

  within_both : rows_in (mended m) ≤ row_limit → words_in (mended m) ≤ word_limit → met_alone (mended m) ≢ too_many
  unfolding met_by
  within_both h k e =
      let z : met_alone (mended m) ≡ 0 =
      met_what ∙ if_lt_no row_limit (rows says_what) _ _ (omega (arith, rows_what)) ∙ if_lt_no word_limit (length (data_words says_what)) _ _ (omega (arith, words_what)) in
      omega (arith, z, e)

-- ---- a message within the limit, of which x was measured
module _ (m o t : List ℕ) (short : length m ≤ byte_limit) (x : Measure) (q : x ≡ measure_of m x.first) where
  length_is : x.length ≡ length (mended m)
  unfolding measure_of
  length_is = ap (λ (y : Measure). y.length) q

  pub entries_are : x.entries ≡ length (changes_in m)
  unfolding measure_of
  entries_are = ap (λ (y : Measure). y.entries) q

  rows_are : x.rows ≡ rows_in (mended m)
  unfolding measure_of
  rows_are = ap (λ (y : Measure). y.rows) q

  words_are : x.words ≡ words_in (mended m)
  unfolding measure_of
  words_are = ap (λ (y : Measure). y.words) q

  pub answer_output : length o < x.length → salvage_told (answer_of 15 x.length 0) o t ≡ salvaging m o t
  unfolding salvaging
  answer_output h =
      ap (λ n. salvage_told (answer_of 15 n 0) o t) length_is
      ∙ sym (if_lt_no byte_limit (length m) _ _ short ∙ if_lt_yes (length o) (length (mended m)) _ _ (omega (arith, length_is)))

  pub room : x.length ≤ length o → x.entries ≤ length t / 3 → HasRoom m (length o) (length t)
  room h k = record { short = short; room = omega (arith, length_is); places = omega (arith, entries_are) }

  module _ (roomy : x.length ≤ length o) where
    pub answer_list : length t / 3 < x.entries → salvage_told (answer_of 16 0 x.entries) o t ≡ salvaging m o t
    unfolding salvaging
    answer_list h =
        ap (λ n. salvage_told (answer_of 16 0 n) o t) entries_are
        ∙ sym (if_lt_no byte_limit (length m) _ _ short ∙ if_lt_no (length o) (length (mended m)) _ _ (omega (arith, length_is))
        ∙ if_lt_yes (length t / 3) (length (changes_in m)) _ _ (omega (arith, entries_are)))

    module _ (listed : x.entries ≤ length t / 3) where
      ten : met_alone (mended m) ≡ too_many → salvage_told (answer_of 10 0 0) o t ≡ salvaging m o t
      unfolding salvaging
      ten e =
          sym (if_lt_no byte_limit (length m) _ _ short ∙ if_lt_no (length o) (length (mended m)) _ _ (omega (arith, length_is))
          ∙ if_lt_no (length t / 3) (length (changes_in m)) _ _ (omega (arith, entries_are)) ∙ if_eq_yes (met_alone (mended m)) too_many _ _ e)

      pub answer_many : (row_limit < x.rows) ⊎ (word_limit < x.words) → salvage_told (answer_of 10 0 0) o t ≡ salvaging m o t
      answer_many (inl h) = ten (over_rows m (omega (arith, rows_are)))
      answer_many (inr h) =
          split row_limit x.rows (λ l. ten (over_rows m (omega (arith, rows_are)))) (λ l. ten (over_words m (omega (arith, rows_are)) (omega (arith, words_are))))

      pub answer_done : (x.rows ≤ row_limit) × (x.words ≤ word_limit)
          → (y z : List ℕ) → y ≡ over (mended m) o → z ≡ over (change_words (changes_in m)) t → salvage_told (answer_of 0 x.length x.entries) y z ≡ salvaging m o t
      unfolding salvaging
      answer_done h y z e f =
          ap (λ i. salvage_told i y z) (ap₂ (answer_of 0) length_is entries_are) ∙ ap₂ (λ i j. salvage_told (answer_of 0 (length (mended m)) (length (changes_in m))) i j) e f
          ∙ sym (if_lt_no byte_limit (length m) _ _ short ∙ if_lt_no (length o) (length (mended m)) _ _ (omega (arith, length_is))
          ∙ if_lt_no (length t / 3) (length (changes_in m)) _ _ (omega (arith, entries_are))
          ∙ if_eq_no (met_alone (mended m)) too_many _ _ (within_both m (omega (arith, h.0, rows_are)) (omega (arith, h.1, words_are))))
