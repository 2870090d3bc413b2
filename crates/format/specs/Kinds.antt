-- The kinds by the code's names, and the words that a table has for them. No meaning cites this file: those have the numbers alone.
use Rattle.std.specs.Prelude.{ℕ, ◌≡◌, ◌<◌, ◌⊎◌, Result, Ok, Err}
use Rattle.format.specs.Items.{INT, BITS, CHAR, BOOL, EMPTY, XTRA, STRUC, EDT}
use Rattle.format.specs.declared.kinds.Kind.{Kind}
use Rattle.format.specs.declared.kinds.Kind.TheVariants as K
use Rattle.format.specs.declared.kinds.UnknownKind.{UnknownKind}

abbrev pub word_of : Kind → ℕ
word_of K.Int = INT
word_of K.Bits = BITS
word_of K.Char = CHAR
word_of K.Bool = BOOL
word_of K.Empty = EMPTY
word_of K.Xtra = XTRA
word_of K.Struc = STRUC
word_of K.Edt = EDT
word_of K.String = 9

-- the kind that has this word, or none has
abbrev pub KindOf : ℕ → Result Kind UnknownKind → Type 0
KindOf w (Ok k) = w ≡ word_of k
KindOf w (Err e) = (e.0 ≡ w) × ((w ≡ 0) ⊎ (9 < w))
