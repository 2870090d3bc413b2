-- A stretch of small objects, and its rows behind those that are there.
use Rattle.std.specs.Prelude.{◌≡◌, ℕ, ◌+◌, ◌-◌, ◌*◌, ◌≤◌, List, length}
use Rattle.format.specs.Items.{Items}
use Rattle.format.specs.Tables.{rows, count, data_words, row_words}
use Rattle.format.specs.Lent.{over_at}
use Rattle.format.specs.Runs.{Piece}
use Rattle.format.specs.Objects.{following}
use Rattle.wire.specs.Heads.{OneRow}

-- each of the bytes lo to hi is one item, whose row has the kind and then 0 and the place within the range
abbrev pub RowsInRange : ℕ → ℕ → ℕ → Type 0
RowsInRange lo hi kind = (b : ℕ) (s : List ℕ) → lo ≤ b → b ≤ hi → OneRow b s kind (b - lo) 0

-- b is an LINTEGER's type-byte that asks for k bytes
abbrev pub LongOf : ℕ → ℕ → Type 0
LongOf b k = (0xe0 ≤ b) × (b ≤ 0xe7) × (k ≡ following b)

-- From i to e the bytes say items of n rows and no data words; behind `used` words of the table, which was t₀ and is t, their
-- rows stand.
pub record Stretched (s : List ℕ) (i used : ℕ) (t₀ t : List ℕ) (e n : ℕ) : Type 0 where
  pub items : Items
  pub piece : Piece s i e items
  pub rows_are : n ≡ rows items
  pub count_is : n ≡ count items
  pub none : length (data_words items) ≡ 0
  pub table_is : (base : ℕ) → t ≡ over_at used (row_words base items) t₀
  pub long : length t ≡ length t₀
  pub room : used + 3 * n ≤ length t₀
