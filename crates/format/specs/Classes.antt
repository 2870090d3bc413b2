-- "Objects by type-byte": the class of each of the 256.
use Rattle.std.specs.Prelude.{ℕ}
use Rattle.format.specs.declared.Class.{Class}
use Rattle.format.specs.declared.Class.TheVariants.{Char7, Sinteger, Linteger, Sbitstr, Lbitstr, String, Struc, Ustruc, Edt, Repeat, Xtra, Bool, Empty, Padding, Reserved}
use Rattle.format.specs.Choice.{if_lt, if_eq}

unfoldable pub class_of : ℕ → Class
unfolding if_lt if_eq
class_of b =
    if_lt b 0x80 Char7
    (if_lt b 0xc0 Sinteger
    (if_eq b 0xc0 Reserved
    (if_eq b 0xc1 Lbitstr
    (if_eq b 0xc2 Struc
    (if_eq b 0xc3 Edt
    (if_eq b 0xc4 Repeat
    (if_eq b 0xc5 Ustruc
    (if_eq b 0xc6 String
    (if_lt b 0xe0 Reserved
    (if_lt b 0xe8 Linteger
    (if_lt b 0xf0 Reserved
    (if_lt b 0xf8 Sbitstr
    (if_lt b 0xfc Xtra
    (if_lt b 0xfe Bool
    (if_eq b 0xfe Empty Padding)))))))))))))))
