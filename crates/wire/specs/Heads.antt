-- What the code's answers about one object say of its meaning.
use Rattle.std.specs.Prelude.{ℕ, ◌+◌, ◌-◌, ◌*◌, ◌%◌, ◌^◌, ◌≤◌, ◌<◌, ◌≡◌, ◌≢◌, Bool, List, [], eqb, length, take, drop, get_or, Option, None, Some, Result, Ok, Err}
use Rattle.format.specs.Choice.{if_lt, if_eq, either}
use Rattle.format.specs.Numbers.{val}
use Rattle.format.specs.Bits.{spread, adjusted, bytes_for}
use Rattle.format.specs.Items.{Leaf, bits, struc, end, group, one, leaf_kind}
use Rattle.format.specs.Tables.{leaf_a, leaf_b, leaf_words}
use Rattle.format.specs.Objects as O
use Rattle.format.specs.declared.fault.Fault.{Fault}
use Rattle.format.specs.declared.fault.Refusal.{Refusal}
use Rattle.format.specs.Refused.{number_of, meant}
use Rattle.format.specs.Kinds.{word_of}
use Rattle.wire.specs.declared.size.Extent.{Extent}
use Rattle.wire.specs.declared.integer.Integer.{Integer}
use Rattle.wire.specs.declared.integer.NoInteger.{NoInteger}
use Rattle.wire.specs.declared.integer.NoInteger.TheVariants.{Absent, Cut}
use Rattle.wire.specs.declared.head.Wrap.{Wrap}
use Rattle.wire.specs.declared.head.Wrap.TheVariants.{Struc, Ustruc, Edt, Repeat}
use Rattle.wire.specs.declared.head.Count.{Count}
use Rattle.wire.specs.declared.head.Head.{Head}
use Rattle.wire.specs.declared.head.Head.TheVariants.{Gap, Row, Sbits, Lbits, Text, Open}

abbrev pub LeadingIs : List ℕ → Result Integer NoInteger → Type 0
LeadingIs s (Err Absent) = O.leading s ≡ O.absent
LeadingIs s (Err (Cut p k)) = (O.leading s ≡ O.cut_int p k) × (p < length s)
LeadingIs s (Ok n) = (O.leading s ≡ O.found n.value n.bytes) × (n.bytes ≤ length s)

-- what is found i bytes further on
unfoldable pub onward : ℕ → O.Leading → O.Leading
onward i O.absent = O.absent
onward i (O.cut_int p k) = O.cut_int (i + p) k
onward i (O.found z u) = O.found z (i + u)

-- padding up to i, and none there
pub record Unpadded (s : List ℕ) (i : ℕ) : Type 0 where
  pub within : i ≤ length s
  pub skipped : O.leading s ≡ onward i (O.leading (drop i s))
  pub there : i < length s → get_or s i 0 ≢ 0xff

-- an LINTEGER whose type-byte b stands at i
unfoldable pub linteger_at : List ℕ → ℕ → ℕ → Result Integer NoInteger
unfolding if_lt O.following O.integer
linteger_at s i b =
    if_lt (length s - (i + 1)) (O.following b) (Err (Cut i (O.following b - (length s - (i + 1)))))
    (Ok (record { value = O.integer (take (O.following b) (drop (i + 1) s)); bytes = i + 1 + O.following b }))

-- the bytes that a type-byte E0-E7 or F0-F7 asks for, whatever is made of them
abbrev pub FollowingIs : ℕ → ℕ → List ℕ → Result ℕ Fault → Type 0
FollowingIs d b s (Err x) = (f : List ℕ → O.Head) → O.fixed d (O.following b) s f ≡ O.stop (meant x)
FollowingIs d b s (Ok k) = (k ≡ O.following b) × (0 < k) × (k ≤ 8) × (k ≤ length s)

-- an object's contents, whatever it makes of them
abbrev pub SizedIs : ℕ → List ℕ → Result Extent Fault → Type 0
SizedIs d s (Err x) = (f : ℕ → ℕ → O.Head) → O.sized d s f ≡ O.stop (meant x)
SizedIs d s (Ok e) = ((f : ℕ → ℕ → O.Head) → O.sized d s f ≡ f e.start e.size) × (e.start + e.size ≤ length s)

-- a container's contents, whatever it makes of them
abbrev pub ContainedIs : ℕ → List ℕ → Result Extent Fault → Type 0
ContainedIs d s (Err x) = (f : ℕ → ℕ → O.Head) → O.container d (O.sized d s f) ≡ O.stop (meant x)
ContainedIs d s (Ok e) = ((f : ℕ → ℕ → O.Head) → O.container d (O.sized d s f) ≡ f e.start e.size) × (e.start + e.size ≤ length s)

-- the length or count at the front of the contents s, which start at h, whatever is made of it
abbrev pub CountedIs : Refusal → ℕ → List ℕ → Result Count Fault → Type 0
CountedIs why h s (Err x) = (f : ℕ → ℕ → O.Head) → O.counted (number_of why) h f (O.leading s) ≡ O.stop (meant x)
CountedIs why h s (Ok n) =
    ((f : ℕ → ℕ → O.Head) → O.counted (number_of why) h f (O.leading s) ≡ f n.number n.bytes) × (n.bytes ≤ length s) × (n.number < 2 ^ 63)

unfoldable pub wrap_of : Wrap → O.Wrap
wrap_of Struc = O.as_struc
wrap_of Ustruc = O.as_ustruc
wrap_of Edt = O.as_edt
wrap_of (Repeat k) = O.repeated k

-- an item whose row is k, 0 and v, with no data words
pub record IsRow (l : Leaf) (k v : ℕ) : Type 0 where
  pub kind : leaf_kind l ≡ k
  pub first : leaf_a l ≡ 0
  pub last : (d : ℕ) → leaf_b d l ≡ v
  pub none : leaf_words l ≡ []

-- an object of the type-byte b is one item with such a row, and has u bytes past the type-byte, however deep it stands
pub record OneRow (b : ℕ) (s : List ℕ) (k v u : ℕ) : Type 0 where
  pub leaf : Leaf
  pub head : (d : ℕ) → O.head_of d b s ≡ O.gives (one leaf) u
  pub row : IsRow leaf k v

-- n bits, at most 63, left-adjusted in the word w
pub record IsSbits (bs : List Bool) (n w : ℕ) : Type 0 where
  pub many : length bs ≡ n
  pub few : n ≤ 63
  pub word : adjusted 64 bs ≡ w

-- the n bits that are left-adjusted in the bytes needed for them from a on
abbrev pub bits_from : List ℕ → ℕ → ℕ → List Bool
bits_from s a n = take n (spread 8 (take (bytes_for n) (drop a s)))

-- what the code answers about an object is what its head means
abbrev pub HeadIs : List ℕ → Result Head Fault → O.Head → Type 0
HeadIs s (Err x) h = h ≡ O.stop (meant x)
HeadIs s (Ok Gap) h = h ≡ O.gives end 0
HeadIs s (Ok (Row k v u)) h = (l : Leaf) × (h ≡ O.gives (one l) u) × IsRow l (word_of k) v
HeadIs s (Ok (Sbits n w u)) h = (bs : List Bool) × (h ≡ O.gives (one (bits bs)) u) × IsSbits bs n w
HeadIs s (Ok (Lbits a n u)) h = (h ≡ O.gives (one (bits (bits_from s a n))) u) × (a + bytes_for n ≡ u) × (u ≤ length s)
HeadIs s (Ok (Text e)) h = (h ≡ O.gives (group struc (O.characters (O.contents s e.start e.size)) end) (e.start + e.size)) × (e.start + e.size ≤ length s)
HeadIs s (Ok (Open w e)) h = (h ≡ O.opens (wrap_of w) e.start e.size) × (e.start + e.size ≤ length s)

-- the n bits of an SBITSTR, left-adjusted in a word: its bytes as a number, the marker pushed out
unfoldable pub marked_word : ℕ → List ℕ → ℕ → ℕ
unfolding val O.following
marked_word b s n = val (take (O.following b) s) * 2 ^ (64 - n) % 2 ^ 64

-- the type-byte b and the bytes s behind it are an SBITSTR of n bits, however deep it stands
pub record BitsAt (b : ℕ) (s : List ℕ) (n : ℕ) : Type 0 where
  pub head : (d : ℕ) → HeadIs s (Ok (Sbits n (marked_word b s n) (O.following b))) (O.head_of d b s)
  pub within : O.following b ≤ length s
  pub few : n ≤ 63

-- what is answered lies there
abbrev pub BitsIs : ℕ → List ℕ → Option ℕ → Type 0
BitsIs b s None = Unit {0}
BitsIs b s (Some n) = BitsAt b s n

-- the type-byte of a STRUC, EDT, USTRUC or STRING
unfoldable pub has_elements : ℕ → Bool
unfolding either
has_elements b = either (eqb b 0xc2) (either (eqb b 0xc3) (either (eqb b 0xc5) (eqb b 0xc6)))

-- how a container closes by its type-byte C2, C5 or C3
unfoldable pub wrap_by : ℕ → Wrap
unfolding if_eq
wrap_by b = if_eq b 0xc3 Edt (if_eq b 0xc5 Ustruc Struc)

-- the head of a container or a string whose size is the one byte n
unfoldable pub short_head : ℕ → List ℕ → ℕ → O.Head
unfolding if_eq wrap_by wrap_of O.characters O.contents
short_head b s n = if_eq b 0xc6 (O.gives (group struc (O.characters (O.contents s 1 n)) end) (1 + n)) (O.opens (wrap_of (wrap_by b)) 1 n)

pub record ShortAt (d b : ℕ) (s : List ℕ) (n : ℕ) : Type 0 where
  pub head : O.head_of d b s ≡ short_head b s n
  pub within : 1 + n ≤ length s
  pub shallow : d < 16
  pub some : 0 < n
  pub few : n ≤ 127

-- what is answered is the size of such an object
abbrev pub ShortIs : ℕ → ℕ → List ℕ → Option ℕ → Type 0
ShortIs d b s None = Unit {0}
ShortIs d b s (Some n) = ShortAt d b s n
