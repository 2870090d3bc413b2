-- The refusals by the code's names, with their numbers by the shears, and what a fault as the code has it means. No meaning cites this
-- file.
use Rattle.std.specs.Prelude.{ℕ}
use Rattle.format.specs.Refusals as R
use Rattle.format.specs.declared.fault.Fault.{Fault}
use Rattle.format.specs.declared.fault.Numbered.{Numbered}
use Rattle.format.specs.declared.fault.Refusal.{Refusal}
use Rattle.format.specs.declared.fault.Refusal.TheVariants.{TooLong, PastInput, PastEnclosing, Unassigned, TooDeep, BadBits, BadRepeat, SeveralKinds, BadEdt, TooMany, TableShort, NotATable, TooNested, NormalLong, OutputShort, ListShort, NotASheet, FigureEmpty, FigureRange}

abbrev pub number_of : Refusal → ℕ
number_of TooLong = R.too_long
number_of PastInput = R.past_input
number_of PastEnclosing = R.past_enclosing
number_of Unassigned = R.unassigned
number_of TooDeep = R.too_deep
number_of BadBits = R.bad_bits
number_of BadRepeat = R.bad_repeat
number_of SeveralKinds = R.several_kinds
number_of BadEdt = R.bad_edt
number_of TooMany = R.too_many
number_of TableShort = R.table_short
number_of NotATable = R.not_a_table
number_of TooNested = R.too_nested
number_of NormalLong = R.normal_long
number_of OutputShort = R.output_short
number_of ListShort = R.list_short
number_of NotASheet = R.not_a_sheet
number_of FigureEmpty = R.figure_empty
number_of FigureRange = R.figure_range

abbrev pub meant : Fault → R.Fault
meant f = record { number = number_of f.refusal; place = f.place; missing = f.missing }

-- and what one is that has its number alone, which may be any
abbrev pub numbered : Numbered → R.Fault
numbered f = record { number = f.number; place = f.place; missing = f.missing }
