-- "Mend what can be mended. One damaged sheet should not cost the batch."
use Rattle.std.specs.Prelude.{ℕ, zero, suc, ◌+◌, ◌/◌, List, [], ◌∷◌, ◌++◌, length, take, drop}
use Rattle.std.proofs.Math.Option.{Option, none, some}
use Rattle.format.specs.Choice.{if_lt, if_eq}
use Rattle.format.specs.Refusals.{too_long, too_many, output_short, list_short, byte_limit, row_limit, word_limit}
use Rattle.format.specs.Objects.{Size, cut, size, size_of}
use Rattle.format.specs.Messages.{Outcome, refused, says, outcome}
use Rattle.format.specs.Extents.{extent_of}
use Rattle.format.specs.Tables.{rows, data_words}
use Rattle.format.specs.Answers.{over}

-- "its own extent, by its type-byte and size"; "C7 to DF have a size like every non-atomic object; C0 and E8 to EF have no known
-- extent." The type-byte is `b`, and `s` the bytes behind it, up to the end of the input.
unfoldable pub own_extent : ℕ → List ℕ → Option Size
unfolding if_lt extent_of size_of
own_extent b s = if_lt b 0xc7 (extent_of b s) (if_lt b 0xe0 (some (size_of s)) (extent_of b s))

-- It "lies in the input": how many bytes the object has behind its type-byte. None where the extent "is not known or passes the end".
unfoldable pub lying : List ℕ → Option Size → Option ℕ
unfolding if_lt
lying s none = none
lying s (some (cut k)) = none
lying s (some (size h n)) = if_lt (length s) (h + n) none (some (h + n))

-- A part of the input: an outermost object with all its bytes, or the rest.
pub data Part : Type 0 where
  whole : List ℕ → Part
  rest : List ℕ → Part

-- "At the first whose extent is not known or passes the end, the rest is dropped."
unfoldable pub part_at : ℕ → List ℕ → (ℕ → List Part) → Option ℕ → List Part
part_at b s more none = rest (b ∷ s) ∷ []
part_at b s more (some u) = whole (b ∷ take u s) ∷ more u

-- "walks the outermost objects". Each object has a byte at least, so as many steps as bytes are enough.
unfoldable pub walked : ℕ → List ℕ → List Part
unfolding part_at lying own_extent
walked zero s = []
walked (suc f) [] = []
walked (suc f) (b ∷ s) = part_at b s (λ u. walked f (drop u s)) (lying s (own_extent b s))

unfoldable pub outermost : List ℕ → List Part
unfolding walked
outermost m = walked (length m) m

-- The number with which bytes are met alone, "as a message by itself, given ample table": 0 where they are accepted.
unfoldable pub met_by : Outcome → ℕ
unfolding if_lt rows data_words
met_by (refused f) = f.number
met_by (says xs) = if_lt row_limit (rows xs) too_many (if_lt word_limit (length (data_words xs)) too_many 0)

unfoldable pub met_alone : List ℕ → ℕ
unfolding met_by outcome
met_alone o = met_by (outcome o)

-- One that "would be refused .. is replaced by one EMPTY byte"; "the rest is dropped"; "All else is copied, padding too."
unfoldable pub mended_part : Part → List ℕ
unfolding if_eq met_alone
mended_part (whole o) = if_eq (met_alone o) 0 o (0xfe ∷ [])
mended_part (rest o) = []

unfoldable pub mended_parts : List Part → List ℕ
unfolding mended_part
mended_parts [] = []
mended_parts (x ∷ l) = mended_part x ++ mended_parts l

unfoldable pub mended : List ℕ → List ℕ
unfolding mended_parts outermost
mended m = mended_parts (outermost m)

-- "It lists each change: place, number of bytes, and the refusal number with which that object, or the dropped rest, is met alone."
pub record Change : Type 0 where
  pub place : ℕ
  pub bytes : ℕ
  pub number : ℕ

-- the change of the bytes `o`, which stand at the place `p` of the input
abbrev pub change : ℕ → List ℕ → Change
change p o = record { place = p; bytes = length o; number = met_alone o }

unfoldable pub bytes_of : Part → List ℕ
bytes_of (whole o) = o
bytes_of (rest o) = o

unfoldable pub change_of : ℕ → Part → List Change
unfolding if_eq met_alone
change_of p (whole o) = if_eq (met_alone o) 0 [] (change p o ∷ [])
change_of p (rest o) = change p o ∷ []

unfoldable pub changes_from : ℕ → List Part → List Change
unfolding change_of bytes_of
changes_from p [] = []
changes_from p (x ∷ l) = change_of p x ++ changes_from (p + length (bytes_of x)) l

unfoldable pub changes_in : List ℕ → List Change
unfolding changes_from outermost
changes_in m = changes_from 0 (outermost m)

-- "A list lent is of 64-bit words, an entry's numbers in the order told"
unfoldable pub change_words : List Change → List ℕ
change_words [] = []
change_words (c ∷ l) = c.place ∷ c.bytes ∷ c.number ∷ change_words l

-- The answer; output and list are the lent ones afterwards.
pub record Salvaging : Type 0 where
  pub number : ℕ
  pub length : ℕ
  pub entries : ℕ
  pub output : List ℕ
  pub list : List ℕ

-- "all leave both lent buffers untouched"; "15 and 16 tell the bytes or entries needed"
abbrev pub unmended : ℕ → ℕ → ℕ → List ℕ → List ℕ → Salvaging
unmended why n k o t = record { number = why; length = n; entries = k; output = o; list = t }

-- "Refusals: 1; then 15 for a short output, then 16 for a short list, then 10 for the result". A list has room for as many entries as
-- fit whole.
unfoldable pub salvaging : List ℕ → List ℕ → List ℕ → Salvaging
unfolding if_lt if_eq mended changes_in met_alone over change_words
salvaging m o t =
    let out : List ℕ = mended m in
    let list : List Change = changes_in m in
    if_lt byte_limit (length m) (unmended too_long 0 0 o t)
    (if_lt (length o) (length out) (unmended output_short (length out) 0 o t)
    (if_lt (length t / 3) (length list) (unmended list_short 0 (length list) o t)
    (if_eq (met_alone out) too_many (unmended too_many 0 0 o t)
    (record { number = 0; length = length out; entries = length list; output = over out o; list = over (change_words list) t }))))
