-- How the code writes a class down in its list of 256: as the place of the class in the enum. No meaning cites this file; it is
-- here because a contract of the code does.
use Rattle.std.specs.Prelude.{ℕ}
use Rattle.format.specs.declared.Class.{Class}
use Rattle.format.specs.declared.Class.TheVariants.{Char7, Sinteger, Linteger, Sbitstr, Lbitstr, String, Struc, Ustruc, Edt, Repeat, Xtra, Bool, Empty, Padding, Reserved}

-- the place of a class in the code's list of them
unfoldable pub code_of : Class → ℕ
code_of Char7 = 0
code_of Sinteger = 1
code_of Linteger = 2
code_of Sbitstr = 3
code_of Lbitstr = 4
code_of String = 5
code_of Struc = 6
code_of Ustruc = 7
code_of Edt = 8
code_of Repeat = 9
code_of Xtra = 10
code_of Bool = 11
code_of Empty = 12
code_of Padding = 13
code_of Reserved = 14
