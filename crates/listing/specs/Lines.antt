-- The text that sheetlist writes: "Columns: depth, kind, then value in decimal (codes for CHAR, BOOL and XTRA), or direct elements
-- for STRUC and EDT; EMPTY has no third column; BITS has the number of bits and, if any, the bits; a string the number of
-- characters and their codes. A refusal is one line".
use Rattle.std.specs.Prelude.{ℕ, zero, suc, ◌+◌, ◌/◌, ◌%◌, Bool, List, [], ◌∷◌, ◌++◌, length, replicate, ℤ, pos, negsuc}
use Rattle.format.specs.Choice.{pick, if_lt, if_eq}
use Rattle.format.specs.Bits.{bit}
use Rattle.format.specs.Refusals.{too_long}
use Rattle.format.specs.Items.{Leaf, int, bits, char, bool, empty, xtra, Group, struc, edt, Items, end, leaf, group}
use Rattle.format.specs.Messages.{Outcome, refused, says, outcome}
use Rattle.format.specs.Tables.{count, rows, is_text, codes}
use Rattle.format.specs.Answers.{Reading, reading}

-- the digits of a number, as characters; as many tries as the first argument says
unfoldable pub digits_f : ℕ → ℕ → List ℕ
unfolding if_lt
digits_f zero n = []
digits_f (suc f) n = let more = digits_f f (n / 10) ++ ((0x30 + n % 10) ∷ []) in if_lt n 10 ((0x30 + n) ∷ []) more

unfoldable pub decimal : ℕ → List ℕ
unfolding digits_f
decimal n = digits_f (suc n) n

unfoldable pub signed_decimal : ℤ → List ℕ
unfolding decimal
signed_decimal (pos n) = decimal n
signed_decimal (negsuc n) = 0x2d ∷ decimal (suc n)

abbrev pub space : ℕ
space = 0x20

abbrev pub newline : ℕ
newline = 0x0a

-- the bits of a BITS, each as the character 0 or 1
unfoldable pub bit_text : List Bool → List ℕ
unfolding bit
bit_text [] = []
bit_text (b ∷ bs) = (0x30 + bit b) ∷ bit_text bs

unfoldable pub bits_column : List Bool → List ℕ
unfolding bit_text
bits_column [] = []
bits_column (b ∷ bs) = space ∷ bit_text (b ∷ bs)

-- a space, the kind, and the value behind another space: "INT", "BITS", "CHAR", "BOOL", "EMPTY", "XTRA"
unfoldable pub leaf_columns : Leaf → List ℕ
unfolding signed_decimal decimal bits_column bit
leaf_columns (int z) = space ∷ 0x49 ∷ 0x4e ∷ 0x54 ∷ space ∷ signed_decimal z
leaf_columns (bits bs) = space ∷ 0x42 ∷ 0x49 ∷ 0x54 ∷ 0x53 ∷ space ∷ (decimal (length bs) ++ bits_column bs)
leaf_columns (char c) = space ∷ 0x43 ∷ 0x48 ∷ 0x41 ∷ 0x52 ∷ space ∷ decimal c
leaf_columns (bool b) = space ∷ 0x42 ∷ 0x4f ∷ 0x4f ∷ 0x4c ∷ space ∷ decimal (bit b)
leaf_columns empty = space ∷ 0x45 ∷ 0x4d ∷ 0x50 ∷ 0x54 ∷ 0x59 ∷ []
leaf_columns (xtra n) = space ∷ 0x58 ∷ 0x54 ∷ 0x52 ∷ 0x41 ∷ space ∷ decimal n

-- "STRUC", "EDT"
unfoldable pub group_columns : Group → ℕ → List ℕ
unfolding decimal
group_columns struc n = space ∷ 0x53 ∷ 0x54 ∷ 0x52 ∷ 0x55 ∷ 0x43 ∷ space ∷ decimal n
group_columns edt n = space ∷ 0x45 ∷ 0x44 ∷ 0x54 ∷ space ∷ decimal n

-- "STRING, the number of characters and then their codes, with one space between"
unfoldable pub codes_column : List ℕ → List ℕ
unfolding decimal
codes_column [] = []
codes_column (c ∷ cs) = space ∷ (decimal c ++ codes_column cs)

unfoldable pub text_value : List ℕ → List ℕ
unfolding decimal codes_column
text_value cs = decimal (length cs) ++ codes_column cs

unfoldable pub text_columns : List ℕ → List ℕ
unfolding text_value
text_columns cs = space ∷ 0x53 ∷ 0x54 ∷ 0x52 ∷ 0x49 ∷ 0x4e ∷ 0x47 ∷ space ∷ text_value cs

unfoldable pub line : ℕ → List ℕ → List ℕ
unfolding decimal
line d columns = decimal d ++ (columns ++ (newline ∷ []))

-- the lines of a list of items, depth first
unfoldable pub lines : ℕ → Items → List ℕ
unfolding line leaf_columns group_columns text_columns count pick is_text codes
lines d end = []
lines d (leaf l xs) = line d (leaf_columns l) ++ lines d xs
lines d (group g c xs) = pick (is_text g c) (line d (text_columns (codes c))) (line d (group_columns g (count c)) ++ lines (suc d) c) ++ lines d xs

-- "accepted 1 items 4 rows"
unfoldable pub accepted_text : Items → List ℕ
unfolding decimal count rows lines
accepted_text xs =
    0x61 ∷ 0x63 ∷ 0x63 ∷ 0x65 ∷ 0x70 ∷ 0x74 ∷ 0x65 ∷ 0x64 ∷ space
    ∷ (decimal (count xs) ++ (space ∷ 0x69 ∷ 0x74 ∷ 0x65 ∷ 0x6d ∷ 0x73 ∷ space
    ∷ (decimal (rows xs) ++ (space ∷ 0x72 ∷ 0x6f ∷ 0x77 ∷ 0x73 ∷ newline ∷ lines 0 xs))))

-- "refused 7 at 0"
unfoldable pub refused_text : ℕ → ℕ → List ℕ
unfolding decimal
refused_text n p =
    0x72 ∷ 0x65 ∷ 0x66 ∷ 0x75 ∷ 0x73 ∷ 0x65 ∷ 0x64 ∷ space ∷ (decimal n ++ (space ∷ 0x61 ∷ 0x74 ∷ space ∷ (decimal p ++ (newline ∷ []))))

-- "The program sheetlist reads standard input into at most 32,768 bytes (longer: refusal 1) with a table of 8,000 words."
unfoldable pub listed : Outcome → Reading → List ℕ
unfolding if_eq accepted_text refused_text
listed (refused f) r = refused_text r.number r.place
listed (says xs) r = if_eq r.number 0 (accepted_text xs) (refused_text r.number r.place)

unfoldable pub listing : List ℕ → List ℕ
unfolding if_lt listed outcome reading refused_text
listing m = if_lt 32768 (length m) (refused_text too_long 0) (listed (outcome m) (reading m (replicate 8000 0)))
