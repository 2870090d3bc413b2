-- Worked examples: messages as they come from the rooms, and what is answered for each.
use Rattle.std.specs.Prelude.{ℕ, ◌≡◌, List, [], ◌∷◌, replicate, ℤ, pos, negsuc}
use Rattle.format.specs.Answers.{reading}
use Rattle.measure.specs.Sheets.{Measuring, figureless, measuring}

-- a message with order number, unit, figures and micrometres; or with the number of its refusal
pub data Fitting : Type 0 where
  cut_from : List ℕ → ℤ → ℕ → (ℕ × ℕ × ℕ) → (ℕ × ℕ × ℕ) → Fitting
  not_cut : List ℕ → ℕ → Fitting

unfoldable pub fittings : List Fitting
fittings =
    -- order 4711, tenths of a centimetre: chest 1,016, waist 864, sleeve 650
    cut_from (0xc3 ∷ 0x0f ∷ 0x8c ∷ 0x81 ∷ 0xe2 ∷ 0x12 ∷ 0x67 ∷ 0xf8 ∷ 0xe2 ∷ 0x03 ∷ 0xf8 ∷ 0xe2 ∷ 0x03 ∷ 0x60 ∷ 0xe2 ∷ 0x02 ∷ 0x8a ∷ [])
    (pos 4711) 0 (1016, 864, 650) (1016000, 864000, 650000)
    -- THE ACCIDENT: EMPTY where the chest belongs. The old reader took 864 for the chest, and cut
    ∷ not_cut (0xc3 ∷ 0x0d ∷ 0x8c ∷ 0x81 ∷ 0xe2 ∷ 0x12 ∷ 0x68 ∷ 0xf8 ∷ 0xfe ∷ 0xe2 ∷ 0x03 ∷ 0x60 ∷ 0xe2 ∷ 0x02 ∷ 0x8a ∷ []) 21
    -- a padding byte there is skipped, and six elements are left
    ∷ not_cut (0xc3 ∷ 0x0d ∷ 0x8c ∷ 0x81 ∷ 0xe2 ∷ 0x12 ∷ 0x68 ∷ 0xf8 ∷ 0xff ∷ 0xe2 ∷ 0x03 ∷ 0x60 ∷ 0xe2 ∷ 0x02 ∷ 0x8a ∷ []) 20
    -- by name, in eighths of an inch, padding around it: order -1, chest 320, waist 272, sleeve 204
    ∷ cut_from (0xff ∷ 0xc3 ∷ 0x16 ∷ 0xc6 ∷ 0x07 ∷ 0x4d ∷ 0x45 ∷ 0x41 ∷ 0x53 ∷ 0x55 ∷ 0x52 ∷ 0x45 ∷ 0x81 ∷ 0xe1 ∷ 0xff ∷ 0xf9
    ∷ 0xe2 ∷ 0x01 ∷ 0x40 ∷ 0xe2 ∷ 0x01 ∷ 0x10 ∷ 0xe2 ∷ 0x00 ∷ 0xcc ∷ 0xff ∷ [])
    (negsuc 0) 1 (320, 272, 204) (1016000, 863600, 647700)
    -- the figures by one repeat, C4 02 83 8A: 10, 10 and 10
    ∷ cut_from (0xc3 ∷ 0x08 ∷ 0x8c ∷ 0x81 ∷ 0x80 ∷ 0xf8 ∷ 0xc4 ∷ 0x02 ∷ 0x83 ∷ 0x8a ∷ []) (pos 0) 0 (10, 10, 10) (10000, 10000, 10000)
    -- the largest figures, and one more
    ∷ cut_from (0xc3 ∷ 0x0d ∷ 0x8c ∷ 0x81 ∷ 0x80 ∷ 0xf9 ∷ 0xe2 ∷ 0x4e ∷ 0x20 ∷ 0xe2 ∷ 0x4e ∷ 0x20 ∷ 0xe2 ∷ 0x4e ∷ 0x20 ∷ []) (pos 0) 1 (20000, 20000, 20000) (63500000, 63500000, 63500000)
    ∷ not_cut (0xc3 ∷ 0x0d ∷ 0x8c ∷ 0x81 ∷ 0x80 ∷ 0xf9 ∷ 0xe2 ∷ 0x4e ∷ 0x20 ∷ 0xe2 ∷ 0x4e ∷ 0x21 ∷ 0xe2 ∷ 0x4e ∷ 0x20 ∷ []) 22
    -- a figure of 0 beside an EMPTY: EMPTY comes first
    ∷ not_cut (0xc3 ∷ 0x07 ∷ 0x8c ∷ 0x81 ∷ 0x80 ∷ 0xf8 ∷ 0x80 ∷ 0xfe ∷ 0x81 ∷ []) 21
    -- another unit, XTRA 2; another version; no message
    ∷ not_cut (0xc3 ∷ 0x07 ∷ 0x8c ∷ 0x81 ∷ 0x80 ∷ 0xfa ∷ 0x81 ∷ 0x81 ∷ 0x81 ∷ []) 20
    ∷ not_cut (0xc3 ∷ 0x07 ∷ 0x8c ∷ 0x82 ∷ 0x80 ∷ 0xf8 ∷ 0x81 ∷ 0x81 ∷ 0x81 ∷ []) 20
    ∷ not_cut [] 20
    ∷ []

-- a table of 29 words is lent, which is enough for a sheet by name
unfoldable pub room : List ℕ
room = replicate 29 0

abbrev pub answer_for : Fitting → Measuring
answer_for (cut_from m z u f k) = record {
  number = 0;
  place = 0;
  words = (reading m room).words;
  missing = 0;
  table = (reading m room).table;
  order = z;
  unit = u;
  chest = f.0;
  waist = f.1;
  sleeve = f.2;
  chest_um = k.0;
  waist_um = k.1;
  sleeve_um = k.2;
}
answer_for (not_cut m n) = figureless n 0 0 0 (reading m room).table

abbrev pub message_of : Fitting → List ℕ
message_of (cut_from m z u f k) = m
message_of (not_cut m n) = m

abbrev pub AllFit : List Fitting → Type 0
AllFit [] = Unit {0}
AllFit (f ∷ l) = (measuring (message_of f) room ≡ answer_for f) × AllFit l
