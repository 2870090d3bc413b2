-- Whether a row of a table is in order, by the words of it and of the rows behind it.
use Rattle.std.specs.Prelude.{ℕ, zero, suc, ◌+◌, ◌-◌, ◌*◌, ◌%◌, ◌^◌, ◌≤◌, ◌<◌, ◌≡◌, List, [], ◌∷◌, Bool, true, false, not, get_or, ltb, eqb}
use Rattle.std.specs.Prelude.{Option, Some, None}
use Rattle.std.specs.List.{list_all}
use Rattle.std.proofs.Math.Option as maybe
use Rattle.format.specs.Choice.{if_lt, if_eq, both, either}
use Rattle.format.specs.Numbers.{be}
use Rattle.format.specs.Bits.{words_for}
use Rattle.format.specs.Items.{Items}
use Rattle.table.specs.Rows.{kind_at, a_at, b_at, lands, data_to, rows_of, words_of}

-- the rows p up to e are all CHARs
unfoldable pub chars_f : ℕ → List ℕ → ℕ → Bool
unfolding both
chars_f zero w p = true
chars_f (suc k) w p = both (eqb (kind_at w p) 3) (chars_f k w (p + 1))

unfoldable pub all_chars : List ℕ → ℕ → ℕ → Bool
unfolding chars_f
all_chars w p e = chars_f (e - p) w p

-- the row p, before e, is an INT
unfoldable pub int_at : List ℕ → ℕ → ℕ → Bool
unfolding both
int_at w p e = both (ltb p e) (eqb (kind_at w p) 1)

-- the EDT rule by rows: the elements of an EDT stand from p up to e
unfoldable pub edt_rows : List ℕ → ℕ → ℕ → Bool
unfolding if_lt both either int_at
edt_rows w p e = if_lt p e (both (either (eqb (kind_at w p) 1) (eqb (kind_at w p) 9)) (int_at w (p + 1) e)) false

-- the kind k of a STRUC that is no string, or of an EDT, whose elements stand from p up to e
unfoldable pub kind_fits : ℕ → List ℕ → ℕ → ℕ → Bool
unfolding if_eq all_chars edt_rows
kind_fits k w p e = if_eq k 7 (not (all_chars w p e)) (if_eq k 8 (edt_rows w p e) false)

-- so has the row p, whose elements stand up to e
unfoldable pub kind_ok : List ℕ → ℕ → ℕ → Bool
unfolding kind_fits
kind_ok w p e = kind_fits (kind_at w p) w (p + 1) e

-- a STRUC or EDT among R rows
unfoldable pub group_ok : List ℕ → ℕ → ℕ → Bool
unfolding if_lt both lands kind_ok
group_ok w R p =
    if_lt (R - (p + 1)) (b_at w p) false
    (both (lands w (a_at w p) (p + 1) (p + 1 + b_at w p)) (kind_ok w p (p + 1 + b_at w p)))

-- "0 | value modulo 2^64", "0 | code, 0/1, 0-3", "0 | 0": how many values b can have
unfoldable pub values : ℕ → ℕ
unfolding if_eq
values k = if_eq k 1 (2 ^ 64) (if_eq k 3 128 (if_eq k 4 2 (if_eq k 5 1 (if_eq k 6 4 0))))

unfoldable pub plain_ok : ℕ → ℕ → ℕ → Bool
unfolding if_eq values
plain_ok k a b = if_eq a 0 (ltb b (values k)) false

-- the last data word of n bits whose words begin at d; with no bits, the word before
unfoldable pub last_word : List ℕ → ℕ → ℕ → ℕ
unfolding words_for
last_word w d n = get_or w (3 * get_or w 0 0 + 3 + d + words_for n) 0

unfoldable pub bits_ok : List ℕ → ℕ → ℕ → ℕ → Bool
unfolding if_eq if_lt last_word words_for
bits_ok w d a b = if_eq b d (if_lt (64 * (get_or w 3 0 - d)) a false (eqb (last_word w d a % 2 ^ (64 * words_for a - a)) 0)) false

-- codes of CHARs, and k words from i on whose codes are
unfoldable pub all_low : List ℕ → Bool
unfolding both
all_low [] = true
all_low (c ∷ cs) = both (ltb c 128) (all_low cs)

unfoldable pub low_words : List ℕ → ℕ → ℕ → Bool
unfolding both all_low be
low_words w i zero = true
low_words w i (suc k) = both (all_low (be 8 (get_or w i 0))) (low_words w (i + 1) k)

-- the same of all of some words
abbrev pub words_low : List ℕ → Bool
words_low ws = list_all (λ x. all_low (be 8 x)) ws

-- a string of a characters: 8 * a bits, and every code that of a CHAR
unfoldable pub text_ok : List ℕ → ℕ → ℕ → ℕ → Bool
unfolding both bits_ok low_words words_for
text_ok w d a b = both (bits_ok w d (8 * a) b) (low_words w (3 * get_or w 0 0 + 4 + d) (words_for (8 * a)))

unfoldable pub row_ok : List ℕ → ℕ → ℕ → Bool
unfolding if_lt if_eq group_ok bits_ok text_ok plain_ok data_to
row_ok w R p =
    if_lt (kind_at w p) 7
    (if_eq (kind_at w p) 2 (bits_ok w (data_to w p) (a_at w p) (b_at w p)) (plain_ok (kind_at w p) (a_at w p) (b_at w p)))
    (if_eq (kind_at w p) 9 (text_ok w (data_to w p) (a_at w p) (b_at w p)) (group_ok w R p))

-- what the answers of the code say, where d data words come before the row
abbrev pub BitsJudged : List ℕ → ℕ → ℕ → ℕ → Option ℕ → Type 0
BitsJudged w d a b None = bits_ok w d a b ≡ false
BitsJudged w d a b (Some n) = (bits_ok w d a b ≡ true) × (d + n ≤ words_of w) × (n ≡ words_for a)

abbrev pub TextJudged : List ℕ → ℕ → ℕ → ℕ → Option ℕ → Type 0
TextJudged w d a b None = text_ok w d a b ≡ false
TextJudged w d a b (Some n) = (text_ok w d a b ≡ true) × (d + n ≤ words_of w) × (n ≡ words_for (8 * a))

abbrev pub RowJudged : List ℕ → ℕ → ℕ → Option ℕ → Type 0
RowJudged w p d None = row_ok w (rows_of w) p ≡ false
RowJudged w p d (Some n) = (row_ok w (rows_of w) p ≡ true) × (d + n ≤ words_of w) × (d + n ≡ data_to w (p + 1))

-- the rows before p are in order
abbrev pub RowsInOrder : List ℕ → ℕ → Type 0
RowsInOrder w p = (i : ℕ) → i < p → row_ok w (rows_of w) i ≡ true

abbrev pub RowsJudged : List ℕ → Option ℕ → Type 0
RowsJudged w None = RowsInOrder w (rows_of w) → ⊥
RowsJudged w (Some n) = RowsInOrder w (rows_of w) × (n ≡ data_to w (rows_of w))

unfoldable pub is_some : maybe.Option Items → Bool
is_some maybe.none = false
is_some (maybe.some xs) = true
