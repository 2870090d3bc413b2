-- "The numbers by the shears": with which a message or a table is refused, and the limits.
use Rattle.std.specs.Prelude.{ℕ, ◌+◌, min}

-- 1: "input over 65,536 bytes"
abbrev pub too_long : ℕ
too_long = 1

-- 2: "an outermost object needs bytes past the input's end"
abbrev pub past_input : ℕ
past_input = 2

-- 3: "an inner object needs bytes past its enclosing object's end"
abbrev pub past_enclosing : ℕ
past_enclosing = 3

-- 4: "reserved or unassigned type-byte"
abbrev pub unassigned : ℕ
unassigned = 4

-- 5: "a seventeenth container"
abbrev pub too_deep : ℕ
too_deep = 5

-- 6: "SBITSTR's first data byte is 0; LBITSTR without an INT first, with a negative length, or with another number of bytes"
abbrev pub bad_bits : ℕ
bad_bits = 6

-- 7: "REPEAT outermost, without an INT first, or with a negative count"
abbrev pub bad_repeat : ℕ
bad_repeat = 7

-- 8: "USTRUC of several kinds"
abbrev pub several_kinds : ℕ
several_kinds = 8

-- 9: "EDT without its first two elements as required"
abbrev pub bad_edt : ℕ
bad_edt = 9

-- 10: "over 16,384 rows or 16,384 data words"
abbrev pub too_many : ℕ
too_many = 10

-- 11: "lent table too short"
abbrev pub table_short : ℕ
table_short = 11

-- 12: "table to write not well formed"
abbrev pub not_a_table : ℕ
not_a_table = 12

-- 13: "more than sixteen of its STRUCs and EDTs one inside another"
abbrev pub too_nested : ℕ
too_nested = 13

-- 14: "normal form over 65,536 bytes"
abbrev pub normal_long : ℕ
normal_long = 14

-- 15: "lent output too short"
abbrev pub output_short : ℕ
output_short = 15

-- 16: "if the lent list is too short"
abbrev pub list_short : ℕ
list_short = 16

-- 20: "not such a sheet, a figure neither INT nor EMPTY included"; writing one, "another unit"
abbrev pub not_a_sheet : ℕ
not_a_sheet = 20

-- 21: "a figure EMPTY"
abbrev pub figure_empty : ℕ
figure_empty = 21

-- 22: "a figure out of range"
abbrev pub figure_range : ℕ
figure_range = 22

abbrev pub byte_limit : ℕ
byte_limit = 65536

abbrev pub row_limit : ℕ
row_limit = 16384

abbrev pub word_limit : ℕ
word_limit = 16384

-- "Containers may stand inside one another sixteen deep"
abbrev pub depth_limit : ℕ
depth_limit = 16

-- A fault of a message: its `number`; its `place`, "the offset of the faulty object's type-byte", counted from the start of whatever is
-- being read, so 0 at first, and moved outward with it; and `missing`, "how many bytes are wanting".
pub record Fault : Type 0 where
  pub number : ℕ
  pub place : ℕ
  pub missing : ℕ

-- "it is 0 with every other result"
abbrev pub here : ℕ → Fault
here n = record { number = n; place = 0; missing = 0 }

-- 2 and 3, for the want of k bytes: "Anything above 65,536 is told as 65,536."
abbrev pub wants : ℕ → ℕ → Fault
wants n k = record { number = n; place = 0; missing = min k byte_limit }

unfoldable pub further : ℕ → Fault → Fault
further n f = record { number = f.number; place = n + f.place; missing = f.missing }
