-- The answers of the three public operations, each one function of what is lent, with what every lent word and byte is afterwards.
use Rattle.std.specs.Prelude.{ℕ, List, ◌++◌, length, drop}
use Rattle.std.proofs.Math.Option.{Option, none, some}
use Rattle.format.specs.Choice.{if_lt, if_eq}
use Rattle.format.specs.Refusals.{Fault, too_long, too_many, table_short, not_a_table, too_nested, normal_long, output_short, byte_limit, row_limit, word_limit, depth_limit}
use Rattle.format.specs.Items.{Items}
use Rattle.format.specs.Messages.{Outcome, refused, says, outcome}
use Rattle.format.specs.Tables.{rows, data_words, table_of, words_needed, items_of}
use Rattle.format.specs.Normal.{normal, depth}

-- "Reading returns number, place and words", and with Ask 2 the missing bytes. The table is the lent one after reading.
pub record Reading : Type 0 where
  pub number : ℕ
  pub place : ℕ
  pub words : ℕ
  pub missing : ℕ
  pub table : List ℕ

-- "all else gives place 0. Words are those used (0) or needed (11), otherwise 0."
abbrev pub unread : ℕ → ℕ → List ℕ → Reading
unread why n t = record { number = why; place = 0; words = n; missing = 0; table = t }

-- 2 to 9: "refusals 2 and 3 hand that number up"
abbrev pub faulty : Fault → List ℕ → Reading
faulty f t = record { number = f.number; place = f.place; words = 0; missing = f.missing; table = t }

-- the table lent, with another list over its front
unfoldable pub over : List ℕ → List ℕ → List ℕ
over l t = l ++ drop (length l) t

-- "then 10; then 11", then the table is filled
unfoldable pub laid : Items → List ℕ → Reading
unfolding if_lt rows data_words words_needed table_of over
laid xs t =
    if_lt row_limit (rows xs) (unread too_many 0 t)
    (if_lt word_limit (length (data_words xs)) (unread too_many 0 t)
    (if_lt (length t) (words_needed xs) (unread table_short (words_needed xs) t)
    (record { number = 0; place = 0; words = words_needed xs; missing = 0; table = over (table_of xs) t })))

unfoldable pub reading_of : Outcome → List ℕ → Reading
unfolding laid
reading_of (refused f) t = faulty f t
reading_of (says xs) t = laid xs t

-- "Reading order: 1; then left to right, the first fault met; then 10; then 11."
unfoldable pub reading : List ℕ → List ℕ → Reading
unfolding if_lt reading_of outcome
reading m t = if_lt byte_limit (length m) (unread too_long 0 t) (reading_of (outcome m) t)

-- "Writing returns number and length: written (0) or needed (15), otherwise 0." The output is the lent one after writing.
pub record Writing : Type 0 where
  pub number : ℕ
  pub length : ℕ
  pub output : List ℕ

abbrev pub unwritten : ℕ → ℕ → List ℕ → Writing
unwritten why n o = record { number = why; length = n; output = o }

-- "written (0) or needed (15)"
unfoldable pub put : List ℕ → List ℕ → Writing
unfolding if_lt over
put o l = if_lt (length o) (length l) (unwritten output_short (length l) o) (record { number = 0; length = length l; output = over l o })

-- "Writing order: 12, 13, 14, 15."
unfoldable pub writing_of : Option Items → List ℕ → Writing
unfolding if_lt depth normal put
writing_of none o = unwritten not_a_table 0 o
writing_of (some xs) o =
    if_lt depth_limit (depth xs) (unwritten too_nested 0 o)
    (if_lt byte_limit (length (normal xs)) (unwritten normal_long 0 o) (put o (normal xs)))

-- "One call to write": "A caller that wants only the length lends an empty output: it receives 15 with the length needed, or length
-- 0 with result 0 for a table of no items."
unfoldable pub writing : List ℕ → List ℕ → Writing
unfolding writing_of items_of
writing w o = writing_of (items_of w) o

-- "Normalising reads, then writes, and returns the first refusal with reading's place and words and writing's length (0 if
-- reading refuses); if writing refuses, the table holds the reading and the output is untouched." The missing bytes are reading's:
-- "All callers take the fuller answer".
pub record Normalising : Type 0 where
  pub number : ℕ
  pub place : ℕ
  pub words : ℕ
  pub length : ℕ
  pub missing : ℕ
  pub table : List ℕ
  pub output : List ℕ

abbrev pub only_read : Reading → List ℕ → Normalising
only_read r o = record { number = r.number; place = r.place; words = r.words; length = 0; missing = r.missing; table = r.table; output = o }

abbrev pub read_and : Reading → Writing → Normalising
read_and r w =
    record { number = w.number; place = r.place; words = r.words; length = w.length; missing = r.missing; table = r.table; output = w.output }

unfoldable pub then_written : Reading → List ℕ → Normalising
unfolding if_eq writing
then_written r o = if_eq r.number 0 (read_and r (writing r.table o)) (only_read r o)

unfoldable pub normalising : List ℕ → List ℕ → List ℕ → Normalising
unfolding then_written reading
normalising m t o = then_written (reading m t) o
