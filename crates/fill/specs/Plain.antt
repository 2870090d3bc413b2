-- What an object that is no container and no string writes, by its head.
use Rattle.std.specs.Prelude.{◌≡◌, ℕ, ◌+◌, ◌≤◌, List, [], ◌∷◌, length, take, drop}
use Rattle.format.specs.Bits.{packed, bytes_for, words_for}
use Rattle.format.specs.Answers.{over}
use Rattle.format.specs.Lent.{over_at}
use Rattle.format.specs.Kinds.{word_of}
use Rattle.format.specs.Objects.{following}
use Rattle.wire.specs.declared.head.Head.{Head}
use Rattle.wire.specs.declared.head.Head.TheVariants.{Gap, Row, Sbits, Lbits, Text, Open}
use Rattle.wire.specs.Heads.{bits_from, marked_word}
use Rattle.fill.specs.declared.place.Placed.{Placed}

-- a bit string lies within the bytes s
unfoldable pub Apt : List ℕ → Head → Type 0
unfolding bytes_for
Apt s Gap = Unit {0}
Apt s (Row k v u) = Unit {0}
Apt s (Sbits n w u) = n ≤ 63
Apt s (Lbits a n u) = (a + bytes_for n ≡ u) × (u ≤ length s)
Apt s (Text e) = Unit {0}
Apt s (Open w e) = Unit {0}

-- the rows of an object, where `base` data words come before
unfoldable pub plain_rows : List ℕ → ℕ → Head → List ℕ
plain_rows s base Gap = []
plain_rows s base (Row k v u) = word_of k ∷ 0 ∷ v ∷ []
plain_rows s base (Sbits n w u) = 2 ∷ n ∷ base ∷ []
plain_rows s base (Lbits a n u) = 2 ∷ n ∷ base ∷ []
plain_rows s base (Text e) = []
plain_rows s base (Open w e) = []

-- its data words
unfoldable pub plain_words : List ℕ → Head → List ℕ
unfolding packed words_for
plain_words s Gap = []
plain_words s (Row k v u) = []
plain_words s (Sbits n w u) = take (words_for n) (w ∷ [])
plain_words s (Lbits a n u) = packed 64 (words_for n) (bits_from s a n)
plain_words s (Text e) = []
plain_words s (Open w e) = []

abbrev pub placed_as : ℕ → ℕ → ℕ → ℕ → Placed
placed_as r c w u = record { filled = record { rows = r; count = c; words = w }; past = u }

unfoldable pub plain_placed : Head → Placed
unfolding words_for
plain_placed Gap = placed_as 0 0 0 0
plain_placed (Row k v u) = placed_as 1 1 0 u
plain_placed (Sbits n w u) = placed_as 1 1 (words_for n) u
plain_placed (Lbits a n u) = placed_as 1 1 (words_for n) u
plain_placed (Text e) = placed_as 0 0 0 0
plain_placed (Open w e) = placed_as 0 0 0 0

-- the head of an SBITSTR of n bits, its type-byte b and the bytes s behind it
abbrev pub sbits_head : ℕ → List ℕ → ℕ → Head
sbits_head b s n = Sbits n (marked_word b s n) (following b)

-- An object's row stands over the front of the table, and its data words behind the `base` words of data before, which start `gap`
-- words on.
pub record PlainPut (s : List ℕ) (h : Head) (base gap : ℕ) (t t' : List ℕ) (r : Placed) : Type 0 where
  pub placed : r ≡ plain_placed h
  pub front_is : take gap t' ≡ over (plain_rows s base h) (take gap t)
  pub back_is : drop gap t' ≡ over_at base (plain_words s h) (drop gap t)
