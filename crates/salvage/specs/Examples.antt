-- Worked examples: messages as they come from the rooms, some of them damaged, and what is answered for each.
use Rattle.std.specs.Prelude.{ℕ, ◌≡◌, List, [], ◌∷◌, length, replicate}
use Rattle.format.specs.Answers.{over}
use Rattle.salvage.specs.Mending.{Change, change_words, unmended, salvaging}

-- A message, what comes out of it, and what is listed, with eight bytes of output and six words of list lent; or a message with the bytes
-- and words lent, and then the number, the bytes and the entries of its refusal.
pub data Damage : Type 0 where
  mending : List ℕ → List ℕ → List Change → Damage
  refusing : List ℕ → ℕ → ℕ → ℕ → ℕ → ℕ → Damage

-- from a place so many bytes, which are refused alone with a number
abbrev pub loss : ℕ → ℕ → ℕ → Change
loss p n k = record { place = p; bytes = n; number = k }

unfoldable pub damages : List Damage
damages =
    -- nothing; only padding; (1) 2 (3): nothing to mend
    mending [] [] []
    ∷ mending (0xff ∷ 0xff ∷ []) (0xff ∷ 0xff ∷ []) []
    ∷ mending (0xc2 ∷ 0x01 ∷ 0x81 ∷ 0x82 ∷ 0xc2 ∷ 0x01 ∷ 0x83 ∷ []) (0xc2 ∷ 0x01 ∷ 0x81 ∷ 0x82 ∷ 0xc2 ∷ 0x01 ∷ 0x83 ∷ []) []
    -- one of three is damaged. F1 00: an SBITSTR whose first data byte is 0
    ∷ mending (0x81 ∷ 0xf1 ∷ 0x00 ∷ 0x82 ∷ []) (0x81 ∷ 0xfe ∷ 0x82 ∷ []) (loss 1 2 6 ∷ [])
    -- C7 01 00: unassigned, but it has a size
    ∷ mending (0x81 ∷ 0xc7 ∷ 0x01 ∷ 0x00 ∷ 0x82 ∷ []) (0x81 ∷ 0xfe ∷ 0x82 ∷ []) (loss 1 3 4 ∷ [])
    -- C4 02 82 FE: an outermost REPEAT
    ∷ mending (0x81 ∷ 0xc4 ∷ 0x02 ∷ 0x82 ∷ 0xfe ∷ 0x82 ∷ []) (0x81 ∷ 0xfe ∷ 0x82 ∷ []) (loss 1 4 7 ∷ [])
    -- C2 02 E8 80: in a STRUC a type-byte that has no known extent; the STRUC has
    ∷ mending (0x81 ∷ 0xc2 ∷ 0x02 ∷ 0xe8 ∷ 0x80 ∷ 0x82 ∷ []) (0x81 ∷ 0xfe ∷ 0x82 ∷ []) (loss 1 4 4 ∷ [])
    -- C2 02 E2 01: in a STRUC an integer that passes its end
    ∷ mending (0x81 ∷ 0xc2 ∷ 0x02 ∷ 0xe2 ∷ 0x01 ∷ 0x82 ∷ []) (0x81 ∷ 0xfe ∷ 0x82 ∷ []) (loss 1 4 3 ∷ [])
    -- C1 02 89 80: an LBITSTR of nine bits in one byte
    ∷ mending (0x81 ∷ 0xc1 ∷ 0x02 ∷ 0x89 ∷ 0x80 ∷ 0x82 ∷ []) (0x81 ∷ 0xfe ∷ 0x82 ∷ []) (loss 1 4 6 ∷ [])
    -- C5 02 81 FD: a USTRUC of two kinds
    ∷ mending (0x81 ∷ 0xc5 ∷ 0x02 ∷ 0x81 ∷ 0xfd ∷ 0x82 ∷ []) (0x81 ∷ 0xfe ∷ 0x82 ∷ []) (loss 1 4 8 ∷ [])
    -- C3 01 81: an EDT of one element
    ∷ mending (0x81 ∷ 0xc3 ∷ 0x01 ∷ 0x81 ∷ 0x82 ∷ []) (0x81 ∷ 0xfe ∷ 0x82 ∷ []) (loss 1 3 9 ∷ [])
    -- two damaged, padding between them, and nothing else
    ∷ mending (0xf1 ∷ 0x00 ∷ 0xff ∷ 0xc3 ∷ 0x01 ∷ 0x81 ∷ []) (0xfe ∷ 0xff ∷ 0xfe ∷ []) (loss 0 2 6 ∷ loss 3 3 9 ∷ [])
    -- padding is kept before a rest that is dropped; a size that passes the end, and one that is cut
    ∷ mending (0x81 ∷ 0xff ∷ 0xff ∷ 0xc2 ∷ 0x04 ∷ 0x82 ∷ 0x83 ∷ []) (0x81 ∷ 0xff ∷ 0xff ∷ []) (loss 3 4 2 ∷ [])
    ∷ mending (0x81 ∷ 0xc6 ∷ 0x82 ∷ 0x00 ∷ []) (0x81 ∷ []) (loss 1 3 2 ∷ [])
    -- C0 and E8 have no known extent: whatever stands behind goes with them
    ∷ mending (0x81 ∷ 0xc0 ∷ 0x82 ∷ 0x83 ∷ []) (0x81 ∷ []) (loss 1 3 4 ∷ [])
    ∷ mending (0xe8 ∷ 0x82 ∷ []) [] (loss 0 2 4 ∷ [])
    -- a C7 and a REPEAT that pass the end
    ∷ mending (0x81 ∷ 0xc7 ∷ 0x03 ∷ 0x82 ∷ []) (0x81 ∷ []) (loss 1 3 4 ∷ [])
    ∷ mending (0x81 ∷ 0xc4 ∷ 0x03 ∷ 0x82 ∷ []) (0x81 ∷ []) (loss 1 3 7 ∷ [])
    -- one is replaced, and then the rest is dropped
    ∷ mending (0xf1 ∷ 0x00 ∷ 0x81 ∷ 0xe2 ∷ 0x01 ∷ []) (0xfe ∷ 0x81 ∷ []) (loss 0 2 6 ∷ loss 3 2 2 ∷ [])
    -- C2 06 C4 04 E2 40 00 FE: a STRUC of 16,384 EMPTYs has 16,385 rows
    ∷ mending (0x81 ∷ 0xc2 ∷ 0x06 ∷ 0xc4 ∷ 0x04 ∷ 0xe2 ∷ 0x40 ∷ 0x00 ∷ 0xfe ∷ 0x82 ∷ []) (0x81 ∷ 0xfe ∷ 0x82 ∷ []) (loss 1 8 10 ∷ [])
    -- 15 for an output of two bytes, where three come out; 16 for a list with room for one change; in this order
    ∷ refusing (0x81 ∷ 0xf1 ∷ 0x00 ∷ 0x82 ∷ []) 2 6 15 3 0
    ∷ refusing (0xf1 ∷ 0x00 ∷ 0x81 ∷ 0xe2 ∷ 0x01 ∷ []) 8 5 16 0 2
    ∷ refusing (0xf1 ∷ 0x00 ∷ 0x81 ∷ 0xe2 ∷ 0x01 ∷ []) 1 5 15 2 0
    -- 10 for the result: two STRUCs of 8,192 EMPTYs each, 16,386 rows together
    ∷ refusing (0xc2 ∷ 0x06 ∷ 0xc4 ∷ 0x04 ∷ 0xe2 ∷ 0x20 ∷ 0x00 ∷ 0xfe ∷ 0xc2 ∷ 0x06 ∷ 0xc4 ∷ 0x04 ∷ 0xe2 ∷ 0x20 ∷ 0x00 ∷ 0xfe ∷ []) 16 0 10 0 0
    ∷ []

abbrev pub MendedSo : Damage → Type 0
MendedSo (mending m b l) =
    salvaging m (replicate 8 0) (replicate 6 0)
    ≡ record { number = 0; length = length b; entries = length l; output = over b (replicate 8 0); list = over (change_words l) (replicate 6 0) }
MendedSo (refusing m o t n b k) = salvaging m (replicate o 0) (replicate t 0) ≡ unmended n b k (replicate o 0) (replicate t 0)

abbrev pub AllMended : List Damage → Type 0
AllMended [] = Unit {0}
AllMended (d ∷ l) = MendedSo d × AllMended l
