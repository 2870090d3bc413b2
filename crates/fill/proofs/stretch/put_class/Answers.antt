-- Each class of objects has its own way of being laid out. Assumes nothing.
use Rattle.std.proofs.Common.{arith}
use Rattle.format.specs.declared.Class.TheVariants as C
use Rattle.wire.proofs.ClassCases.{of_class}
use Rattle.wire.proofs.OneRows.{xtra_at, bool_at, empty_at}
use Rattle.fill.proofs.Stretches.{char_range, small_range, long_of, stretched_none, stretched_padding, one_row}
use Rattle.fill.proofs.stretch.put_class.Goals as goal

pub returns-in-Xtra : goal.returns-in-Xtra
returns-in-Xtra c =
    let p = c.requires in
    let q = of_class _ C.Xtra c.in-Xtra.ensures in
    one_row p.0 p.1 (xtra_at _ _ q.0 q.1) c.put_one.ensures

pub returns-in-Bool : goal.returns-in-Bool
returns-in-Bool c =
    let p = c.requires in
    let q = of_class _ C.Bool c.in-Bool.ensures in
    one_row p.0 p.1 (bool_at _ _ q.0 q.1) c.put_one-in-Bool.ensures

pub returns-in-Empty : goal.returns-in-Empty
returns-in-Empty c =
    let p = c.requires in
    let q = of_class _ C.Empty c.in-Empty.ensures in
    one_row p.0 p.1 (empty_at _ _ q) c.put_one-in-Empty.ensures

pub returns-in-Padding : goal.returns-in-Padding
returns-in-Padding c =
    let q = of_class _ C.Padding c.in-Padding.ensures in
    let g = c.type_inv.s c.args.i in
    stretched_padding _ _ _ _ _ (omega arith) (omega (arith, q, g)) c.padding_end-upto.ensures

pub put_range-n-requires : goal.put_range-n-requires
put_range-n-requires c = (omega arith, omega arith, small_range)

pub put_same-requires : goal.put_same-requires
put_same-requires c = (omega arith, omega arith, long_of _ _ c.in-Linteger.ensures c.following_of.ensures.0)

pub put_range-n-requires-in-Char7 : goal.put_range-n-requires-in-Char7
put_range-n-requires-in-Char7 c = (omega arith, omega arith, char_range)

pub returns-in_default : goal.returns-in_default
returns-in_default c = stretched_none _ _ _ _ (omega arith) (omega arith)
