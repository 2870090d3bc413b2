-- The lines marked P under "Sheets to try", each once and in the paper's order, then the messages that the asks name; and what
-- it is for one to hold.
use Rattle.std.specs.Prelude.{ℕ, zero, suc, ◌+◌, ◌≡◌, Bool, true, false, List, [], ◌∷◌, ◌++◌, length, replicate, pos, negsuc}
use Rattle.format.specs.Items.{int, bits, empty, struc, Items, end, leaf, group, one, text}
use Rattle.format.specs.Messages.{says, outcome}
use Rattle.format.specs.Answers.{reading, Writing, unwritten, writing, normalising}

-- A message with its items, its whole table and its normal form; or with the number, the place and the missing bytes of its refusal.
pub data Example : Type 0 where
  accepted : List ℕ → Items → List ℕ → List ℕ → Example
  rejected : List ℕ → ℕ → ℕ → ℕ → Example

unfoldable pub ints : List ℕ → Items
ints [] = end
ints (n ∷ l) = leaf (int (pos n)) (ints l)

unfoldable pub zero_rows : ℕ → List ℕ
zero_rows zero = []
zero_rows (suc n) = 1 ∷ 0 ∷ 0 ∷ zero_rows n

-- bits as the paper prints them
abbrev i : Bool
i = true

abbrev o : Bool
o = false

-- nothing: table 0 0 4 0
unfoldable pub line1 : Example
unfolding ints text zero_rows
line1 = accepted ([]) (end)
    (0 ∷ 0 ∷ 4 ∷ 0 ∷ [])
    ([])

-- C2 03 81 82 83: (1 2 3), 16 words
unfoldable pub line2 : Example
unfolding ints text zero_rows
line2 = accepted (0xc2 ∷ 0x03 ∷ 0x81 ∷ 0x82 ∷ 0x83 ∷ []) (group struc (ints (1 ∷ 2 ∷ 3 ∷ [])) end)
    (4 ∷ 1 ∷ 16 ∷ 0 ∷ 7 ∷ 3 ∷ 3 ∷ 1 ∷ 0 ∷ 1 ∷ 1 ∷ 0 ∷ 2 ∷ 1 ∷ 0 ∷ 3 ∷ [])
    (0xc2 ∷ 0x03 ∷ 0x81 ∷ 0x82 ∷ 0x83 ∷ [])

-- E2 10 00: 4096
unfoldable pub line3 : Example
unfolding ints text zero_rows
line3 = accepted (0xe2 ∷ 0x10 ∷ 0x00 ∷ []) (ints (4096 ∷ []))
    (1 ∷ 1 ∷ 7 ∷ 0 ∷ 1 ∷ 0 ∷ 4096 ∷ [])
    (0xe2 ∷ 0x10 ∷ 0x00 ∷ [])

-- E1 0A: 10, normal form 8A
unfoldable pub line4 : Example
unfolding ints text zero_rows
line4 = accepted (0xe1 ∷ 0x0a ∷ []) (ints (10 ∷ []))
    (1 ∷ 1 ∷ 7 ∷ 0 ∷ 1 ∷ 0 ∷ 10 ∷ [])
    (0x8a ∷ [])

-- E1 FF: -1
unfoldable pub line5 : Example
unfolding ints text zero_rows
line5 = accepted (0xe1 ∷ 0xff ∷ []) (one (int (negsuc 0)))
    (1 ∷ 1 ∷ 7 ∷ 0 ∷ 1 ∷ 0 ∷ 0xffffffffffffffff ∷ [])
    (0xe1 ∷ 0xff ∷ [])

-- F2 02 53: 9 bits 001010011
unfoldable pub line6 : Example
unfolding ints text zero_rows
line6 = accepted (0xf2 ∷ 0x02 ∷ 0x53 ∷ []) (one (bits (o ∷ o ∷ i ∷ o ∷ i ∷ o ∷ o ∷ i ∷ i ∷ [])))
    (1 ∷ 1 ∷ 7 ∷ 1 ∷ 2 ∷ 9 ∷ 0 ∷ 0x2980000000000000 ∷ [])
    (0xf2 ∷ 0x02 ∷ 0x53 ∷ [])

-- C1 03 8C AA A0: 12 bits 101010101010, normal form F2 1A AA
unfoldable pub line7 : Example
unfolding ints text zero_rows
line7 = accepted (0xc1 ∷ 0x03 ∷ 0x8c ∷ 0xaa ∷ 0xa0 ∷ []) (one (bits (i ∷ o ∷ i ∷ o ∷ i ∷ o ∷ i ∷ o ∷ i ∷ o ∷ i ∷ o ∷ [])))
    (1 ∷ 1 ∷ 7 ∷ 1 ∷ 2 ∷ 12 ∷ 0 ∷ 0xaaa0000000000000 ∷ [])
    (0xf2 ∷ 0x1a ∷ 0xaa ∷ [])

-- C6 05 C8 45 4C 4C 4F: "HELLO", normal form C5 05 48 45 4C 4C 4F
unfoldable pub line8 : Example
unfolding ints text zero_rows
line8 = accepted (0xc6 ∷ 0x05 ∷ 0xc8 ∷ 0x45 ∷ 0x4c ∷ 0x4c ∷ 0x4f ∷ []) (group struc (text (0x48 ∷ 0x45 ∷ 0x4c ∷ 0x4c ∷ 0x4f ∷ [])) end)
    (1 ∷ 1 ∷ 7 ∷ 1 ∷ 9 ∷ 5 ∷ 0 ∷ 0x48454c4c4f000000 ∷ [])
    (0xc5 ∷ 0x05 ∷ 0x48 ∷ 0x45 ∷ 0x4c ∷ 0x4c ∷ 0x4f ∷ [])

-- C2 02 FF FE: (EMPTY), normal form C2 01 FE
unfoldable pub line9 : Example
unfolding ints text zero_rows
line9 = accepted (0xc2 ∷ 0x02 ∷ 0xff ∷ 0xfe ∷ []) (group struc (one empty) end)
    (2 ∷ 1 ∷ 10 ∷ 0 ∷ 7 ∷ 1 ∷ 1 ∷ 5 ∷ 0 ∷ 0 ∷ [])
    (0xc2 ∷ 0x01 ∷ 0xfe ∷ [])

-- C2 81 00: "", normal form C5 81 00
unfoldable pub line10 : Example
unfolding ints text zero_rows
line10 = accepted (0xc2 ∷ 0x81 ∷ 0x00 ∷ []) (group struc end end)
    (1 ∷ 1 ∷ 7 ∷ 0 ∷ 9 ∷ 0 ∷ 0 ∷ [])
    (0xc5 ∷ 0x81 ∷ 0x00 ∷ [])

-- C2 01 FF: "", normal form C5 81 00
unfoldable pub line11 : Example
unfolding ints text zero_rows
line11 = accepted (0xc2 ∷ 0x01 ∷ 0xff ∷ []) (group struc end end)
    (1 ∷ 1 ∷ 7 ∷ 0 ∷ 9 ∷ 0 ∷ 0 ∷ [])
    (0xc5 ∷ 0x81 ∷ 0x00 ∷ [])

-- C2 05 81 C4 02 9E 80: 1, thirty 0s; 32 rows; normal form C2 1F 81, thirty 80
unfoldable pub line12 : Example
unfolding ints text zero_rows
line12 = accepted (0xc2 ∷ 0x05 ∷ 0x81 ∷ 0xc4 ∷ 0x02 ∷ 0x9e ∷ 0x80 ∷ []) (group struc (ints (1 ∷ replicate 30 0)) end)
    (32 ∷ 1 ∷ 100 ∷ 0 ∷ 7 ∷ 31 ∷ 31 ∷ 1 ∷ 0 ∷ 1 ∷ zero_rows 30)
    (0xc2 ∷ 0x1f ∷ 0x81 ∷ replicate 30 0x80)

-- C2 02 E2 01: 3 at 2
unfoldable pub line13 : Example
unfolding ints text zero_rows
line13 = rejected (0xc2 ∷ 0x02 ∷ 0xe2 ∷ 0x01 ∷ []) 3 2 1

-- C4 02 82 80: 7 at 0
unfoldable pub line14 : Example
unfolding ints text zero_rows
line14 = rejected (0xc4 ∷ 0x02 ∷ 0x82 ∷ 0x80 ∷ []) 7 0 0

-- Ask 5. C5 06 C5 01 41 C2 01 81: ("A" (1)), a string and another STRUC in a USTRUC
unfoldable pub ask5 : Example
unfolding ints text
ask5 = accepted (0xc5 ∷ 0x06 ∷ 0xc5 ∷ 0x01 ∷ 0x41 ∷ 0xc2 ∷ 0x01 ∷ 0x81 ∷ [])
    (group struc (group struc (text (0x41 ∷ [])) (group struc (ints (1 ∷ [])) end)) end)
    (4 ∷ 1 ∷ 16 ∷ 1 ∷ 7 ∷ 2 ∷ 3 ∷ 9 ∷ 1 ∷ 0 ∷ 7 ∷ 1 ∷ 1 ∷ 1 ∷ 0 ∷ 1 ∷ 0x4100000000000000 ∷ [])
    (0xc2 ∷ 0x06 ∷ 0xc5 ∷ 0x01 ∷ 0x41 ∷ 0xc2 ∷ 0x01 ∷ 0x81 ∷ [])

unfoldable pub examples : List Example
unfolding line1 line2 line3 line4 line5 line6 line7 line8 line9 line10 line11 line12 line13 line14 ask5
examples =
    line1 ∷ line2 ∷ line3 ∷ line4 ∷ line5 ∷ line6 ∷ line7 ∷ line8 ∷ line9 ∷ line10 ∷ line11 ∷ line12 ∷ line13 ∷ line14 ∷ ask5 ∷ []

-- Not marked P, but a listed mistake: a repeat of 2^63 - 1 empty patterns has a meaning like any other, and is not walked
-- round by round.
unfoldable pub huge_repeat : Example
huge_repeat =
    accepted (0xc2 ∷ 0x0b ∷ 0xc4 ∷ 0x09 ∷ 0xe0 ∷ 0x7f ∷ replicate 7 0xff) (group struc end end) (1 ∷ 1 ∷ 7 ∷ 0 ∷ 9 ∷ 0 ∷ 0 ∷ []) (0xc5 ∷ 0x81 ∷ 0x00 ∷ [])

-- Not named by an ask, but what a reader of Ask 5 could take for its other half: a STRUC that is no string begins no EDT.
-- C3 05 C2 01 81 81 82: 9 at 0
unfoldable pub struc_first : Example
struc_first = rejected (0xc3 ∷ 0x05 ∷ 0xc2 ∷ 0x01 ∷ 0x81 ∷ 0x81 ∷ 0x82 ∷ []) 9 0 0

-- Not marked P: what Ask 2 tells of an object that is cut. An object of fixed length; a size field, from its first byte on; its
-- contents, outermost and inside; a length, to the end of the LBITSTR and not of the input; and a size of 128 bytes, 2^1016.
unfoldable pub cuts : List Example
cuts =
    rejected (0xe2 ∷ []) 2 0 2
    ∷ rejected (0xc2 ∷ []) 2 0 1
    ∷ rejected (0xc2 ∷ 0x82 ∷ []) 2 0 2
    ∷ rejected (0xc2 ∷ 0x82 ∷ 0x01 ∷ []) 2 0 1
    ∷ rejected (0xc2 ∷ 0x80 ∷ []) 2 0 128
    ∷ rejected (0xc2 ∷ 0x04 ∷ 0x82 ∷ []) 2 0 3
    ∷ rejected (0xc2 ∷ 0x03 ∷ 0xc2 ∷ 0x04 ∷ 0x82 ∷ 0x81 ∷ 0x81 ∷ []) 3 2 3
    ∷ rejected (0xc1 ∷ 0x02 ∷ 0xe2 ∷ 0x01 ∷ 0x81 ∷ 0x81 ∷ []) 3 2 1
    ∷ rejected (0xc2 ∷ 0x80 ∷ 0x01 ∷ replicate 127 0) 2 0 65536
    ∷ []

-- what is lent holds sevens, and two words or bytes more than are needed
abbrev pub lent : ℕ → List ℕ
lent n = replicate (n + 2) 7

-- Ask 10: "it receives 15 with the length needed, or length 0 with result 0 for a table of no items"
abbrev pub asked : List ℕ → Writing
asked [] = unwritten 0 0 []
asked (x ∷ l) = unwritten 15 (length (x ∷ l)) []

-- The message says the items; reading answers 0 and lays out the table; writing that table answers its length where the output is
-- empty; normalising answers 0 and gives the normal form. A refusal answers its number, its place and the missing bytes, and leaves
-- any table as it was.
abbrev pub Holds : Example → Type 0
Holds (accepted m xs t l) =
    (outcome m ≡ says xs)
    × (reading m (lent (length t)) ≡ record { number = 0; place = 0; words = length t; missing = 0; table = t ++ (7 ∷ 7 ∷ []) })
    × (writing t [] ≡ asked l)
    × (normalising m (lent (length t)) (lent (length l))
    ≡ record {
      number = 0;
      place = 0;
      words = length t;
      length = length l;
      missing = 0;
      table = t ++ (7 ∷ 7 ∷ []);
      output = l ++ (7 ∷ 7 ∷ []);
    })
Holds (rejected m n p k) = (t : List ℕ) → reading m t ≡ record { number = n; place = p; words = 0; missing = k; table = t }

abbrev pub All : List Example → Type 0
All [] = Unit {0}
All (x ∷ l) = Holds x × All l
