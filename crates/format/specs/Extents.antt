-- An object's own extent, "by its type-byte and size", whatever stands in it; and an object that was cut.
use Rattle.std.specs.Prelude.{ℕ, ◌+◌, ◌-◌, ◌≤◌, ◌<◌, ◌≡◌, ◌≢◌, List, ◌∷◌, ◌++◌, length}
use Rattle.std.proofs.Math.Option.{Option, none, some}
use Rattle.format.specs.Choice.{if_lt, if_eq}
use Rattle.format.specs.declared.Class.{Class}
use Rattle.format.specs.declared.Class.TheVariants.{Char7, Sinteger, Linteger, Sbitstr, Lbitstr, String, Struc, Ustruc, Edt, Repeat, Xtra, Bool, Empty, Padding, Reserved}
use Rattle.format.specs.Classes.{class_of}
use Rattle.format.specs.Objects.{following, Size, size, size_of}

-- The table's column "Bytes after it", told as a size is: how many bytes tell it, none for an object of fixed length, and how many come
-- behind them; or the size field is cut. Of a reserved or unassigned type-byte the column says nothing. The type-byte is `b`, and `s` the
-- bytes behind it.
unfoldable pub extent_by : Class → ℕ → List ℕ → Option Size
unfolding following size_of
extent_by Char7 b s = some (size 0 0)
extent_by Sinteger b s = some (size 0 0)
extent_by Linteger b s = some (size 0 (following b))
extent_by Sbitstr b s = some (size 0 (following b))
extent_by Lbitstr b s = some (size_of s)
extent_by String b s = some (size_of s)
extent_by Struc b s = some (size_of s)
extent_by Ustruc b s = some (size_of s)
extent_by Edt b s = some (size_of s)
extent_by Repeat b s = some (size_of s)
extent_by Xtra b s = some (size 0 0)
extent_by Bool b s = some (size 0 0)
extent_by Empty b s = some (size 0 0)
extent_by Padding b s = some (size 0 0)
extent_by Reserved b s = none

unfoldable pub extent_of : ℕ → List ℕ → Option Size
unfolding extent_by class_of
extent_of b s = extent_by (class_of b) b s

-- Ask 13: "a message that is one object, with no padding before or after it". By its bytes: the first is not PADDING's, and the extent that
-- it and the size tell is the whole. The size field has h bytes, none where the length is fixed, and n come behind them.
pub data OneObject : List ℕ → ℕ → Type 0 where
  single : (b h n : ℕ) (s : List ℕ) → class_of b ≢ Padding → extent_of b s ≡ some (size h n) → h + n ≡ length s → OneObject (b ∷ s) h

-- "Every beginning of it that has at least one byte and is not the whole": c is what is left, and e what was cut off.
pub record Cut (m c e : List ℕ) : Type 0 where
  pub parts : m ≡ c ++ e
  pub left : 0 < length c
  pub lost : 0 < length e

-- "Where the cut keeps the whole size field, or the type-byte of an object of fixed length"
abbrev pub Keeps : List ℕ → ℕ → Type 0
Keeps c h = 1 + h ≤ length c

-- What is told missing then, and what where it does not: Ask 2's "from the object's own size where that is complete, from the size field
-- alone where it is not (one, if even its first byte is absent)". Of k bytes that are left one is the type-byte; n are cut off.
unfoldable pub wanting : ℕ → ℕ → ℕ → ℕ
unfolding if_lt if_eq
wanting h k n = if_lt h k n (if_eq k 1 1 (1 + h - k))
