-- What the walk asks of a run or an object, and what it writes: its rows over the front of the table, and its data words further on.
use Rattle.std.specs.Prelude.{◌≡◌, ℕ, ◌+◌, ◌*◌, ◌≤◌, List, length, take, drop}
use Rattle.format.specs.Items.{Items}
use Rattle.format.specs.Messages.{says, got, reads}
use Rattle.format.specs.Tables.{rows, count, data_words, row_words}
use Rattle.format.specs.Answers.{over}
use Rattle.format.specs.Lent.{over_at}
use Rattle.format.specs.Refusals.{row_limit, word_limit}
use Rattle.format.specs.Runs.{object_at}
use Rattle.fill.specs.declared.place.Placed.{Placed}
use Rattle.fill.specs.declared.place.Filled.{Filled}

-- The data start `gap` words on, and `base` words of them come before. The rows have room before the data, the data words in
-- the table, and both keep to the limits.
abbrev pub Fits : Items → ℕ → ℕ → ℕ → Type 0
Fits xs base gap len =
    (3 * rows xs ≤ gap) × (gap + (base + length (data_words xs)) ≤ len) × (base + length (data_words xs) ≤ word_limit) × (gap ≤ 3 * row_limit)

-- the run is accepted, and fits
pub record RunFits (d : ℕ) (s : List ℕ) (base gap : ℕ) (t : List ℕ) : Type 0 where
  pub items : Items
  pub said : reads d s ≡ says items
  pub fits : Fits items base gap (length t)

pub record ObjectFits (d b : ℕ) (s : List ℕ) (base gap : ℕ) (t : List ℕ) : Type 0 where
  pub items : Items
  pub past : ℕ
  pub said : object_at d b s ≡ got items past
  pub fits : Fits items base gap (length t)

-- The rows of items stand over the front of the table, and their data words behind those before: how many rows, items and data
-- words, and the table afterwards, its part before the data and the data.
pub record Laid (xs : Items) (base gap : ℕ) (t t' : List ℕ) (r c w : ℕ) : Type 0 where
  pub rows_are : r ≡ rows xs
  pub count_is : c ≡ count xs
  pub words_are : w ≡ length (data_words xs)
  pub front_is : take gap t' ≡ over (row_words base xs) (take gap t)
  pub back_is : drop gap t' ≡ over_at base (data_words xs) (drop gap t)

pub record RunFilled (d : ℕ) (s : List ℕ) (base gap : ℕ) (t t' : List ℕ) (r : Filled) : Type 0 where
  pub items : Items
  pub said : reads d s ≡ says items
  pub laid : Laid items base gap t t' r.rows r.count r.words

pub record ObjectFilled (d b : ℕ) (s : List ℕ) (base gap : ℕ) (t t' : List ℕ) (r : Placed) : Type 0 where
  pub items : Items
  pub said : object_at d b s ≡ got items r.past
  pub laid : Laid items base gap t t' r.filled.rows r.filled.count r.filled.words
