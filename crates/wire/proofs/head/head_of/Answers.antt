-- `head::head_of` meets its contract, class by class. Assumes nothing.
use Rattle.std.specs.Prelude.{Ok, Err}
use Rattle.format.specs.declared.kinds.Kind.TheVariants as K
use Rattle.format.specs.declared.Class.TheVariants as C
use Rattle.format.specs.Objects.{head_by}
use Rattle.wire.specs.declared.head.Head.TheVariants.{Gap, Row}
use Rattle.wire.specs.Heads.{wrap_of}
use Rattle.wire.proofs.ClassCases.{of_class}
use Rattle.wire.proofs.HeadLaws.{same_row, char_row, sinteger_row, xtra_row, bool_row, empty_row, padding_gap, stopped, reserved_stop, by_class}
use Rattle.wire.proofs.head.head_of.Goals as goal

pub returns-in-Char7 : goal.returns-in-Char7
returns-in-Char7 c =
    by_class c.args.depth c.args.b c.args.s.now (Ok (Row K.Char c.from.result 0)) C.Char7 c.in-Char7.ensures
    (same_row c.args.s.now _ K.Char _ c.from.result 0 c.from.ensures (char_row c.args.depth c.args.b c.args.s.now))

pub returns-in-Sinteger : goal.returns-in-Sinteger
returns-in-Sinteger c =
    by_class c.args.depth c.args.b c.args.s.now (Ok (Row K.Int c.from-in-Sinteger.result 0)) C.Sinteger c.in-Sinteger.ensures
    (same_row c.args.s.now _ K.Int _ c.from-in-Sinteger.result 0 c.from-in-Sinteger.ensures (sinteger_row c.args.depth c.args.b c.args.s.now (of_class c.args.b C.Sinteger c.in-Sinteger.ensures)))

pub returns-in-Linteger : goal.returns-in-Linteger
returns-in-Linteger c = by_class c.args.depth c.args.b c.args.s.now c.linteger.result C.Linteger c.in-Linteger.ensures c.linteger.ensures

pub returns-in-Sbitstr : goal.returns-in-Sbitstr
returns-in-Sbitstr c = by_class c.args.depth c.args.b c.args.s.now c.sbitstr.result C.Sbitstr c.in-Sbitstr.ensures c.sbitstr.ensures

pub returns-in-Lbitstr : goal.returns-in-Lbitstr
unfolding head_by
returns-in-Lbitstr c = by_class c.args.depth c.args.b c.args.s.now c.lbitstr.result C.Lbitstr c.in-Lbitstr.ensures c.lbitstr.ensures

pub returns-in-String : goal.returns-in-String
unfolding head_by
returns-in-String c = by_class c.args.depth c.args.b c.args.s.now c.string.result C.String c.in-String.ensures c.string.ensures

pub returns-in-Struc : goal.returns-in-Struc
unfolding head_by wrap_of
returns-in-Struc c = by_class c.args.depth c.args.b c.args.s.now c.group.result C.Struc c.in-Struc.ensures c.group.ensures

pub returns-in-Ustruc : goal.returns-in-Ustruc
unfolding head_by wrap_of
returns-in-Ustruc c = by_class c.args.depth c.args.b c.args.s.now c.group-in-Ustruc.result C.Ustruc c.in-Ustruc.ensures c.group-in-Ustruc.ensures

pub returns-in-Edt : goal.returns-in-Edt
unfolding head_by wrap_of
returns-in-Edt c = by_class c.args.depth c.args.b c.args.s.now c.group-in-Edt.result C.Edt c.in-Edt.ensures c.group-in-Edt.ensures

pub returns-in-Repeat : goal.returns-in-Repeat
unfolding head_by
returns-in-Repeat c = by_class c.args.depth c.args.b c.args.s.now c.repeat.result C.Repeat c.in-Repeat.ensures c.repeat.ensures

pub returns-in-Xtra : goal.returns-in-Xtra
returns-in-Xtra c =
    by_class c.args.depth c.args.b c.args.s.now (Ok (Row K.Xtra c.from-in-Xtra.result 0)) C.Xtra c.in-Xtra.ensures
    (same_row c.args.s.now _ K.Xtra _ c.from-in-Xtra.result 0 c.from-in-Xtra.ensures (xtra_row c.args.depth c.args.b c.args.s.now (of_class c.args.b C.Xtra c.in-Xtra.ensures)))

pub returns-in-Bool : goal.returns-in-Bool
returns-in-Bool c =
    by_class c.args.depth c.args.b c.args.s.now (Ok (Row K.Bool c.from-in-Bool.result 0)) C.Bool c.in-Bool.ensures
    (same_row c.args.s.now _ K.Bool _ c.from-in-Bool.result 0 c.from-in-Bool.ensures (bool_row c.args.depth c.args.b c.args.s.now (of_class c.args.b C.Bool c.in-Bool.ensures)))

pub returns-in-Empty : goal.returns-in-Empty
returns-in-Empty c =
    by_class c.args.depth c.args.b c.args.s.now (Ok (Row K.Empty 0 0)) C.Empty c.in-Empty.ensures
    (empty_row c.args.depth c.args.b c.args.s.now)

pub returns-in-Padding : goal.returns-in-Padding
returns-in-Padding c =
    by_class c.args.depth c.args.b c.args.s.now (Ok Gap) C.Padding c.in-Padding.ensures
    (padding_gap c.args.depth c.args.b c.args.s.now)

pub returns-in-Reserved : goal.returns-in-Reserved
returns-in-Reserved c =
    by_class c.args.depth c.args.b c.args.s.now (Err c.here.result) C.Reserved c.in-Reserved.ensures
    (stopped c.args.s.now _ c.here.result _ c.here.ensures (reserved_stop c.args.depth c.args.b c.args.s.now))
