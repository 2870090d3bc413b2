-- `leap_from` meets its contract, class by class. Assumes nothing.
use Rattle.std.proofs.Common.{rules, ◌≡◌, sym, ◌∙◌}
use Rattle.format.specs.declared.Class.TheVariants as C
use Rattle.format.specs.declared.kinds.Kind.TheVariants as K
use Rattle.wire.proofs.ClassCases.{of_class}
use Rattle.wire.proofs.OneRows.{xtra_at, bool_at, empty_at}
use Rattle.scan.specs.Sums.{nothing_of}
use Rattle.scan.proofs.Stretches.{chars_come, padding_comes, row_comes, leapt}
use Rattle.scan.proofs.stretch.leap_from.Goals as goal

pub returns-in-Char7 : goal.returns-in-Char7
returns-in-Char7 c = leapt _ _ _ _ _ (chars_come _ _ _ c.chars_end-e.ensures) c.many_of.ensures _ c.leap_to.ensures

pub returns-in-Xtra : goal.returns-in-Xtra
returns-in-Xtra c =
    let r = of_class _ C.Xtra (sym c.in-Xtra.is ∙ c.class_of.ensures) in
    leapt _ _ _ _ _ (row_comes _ _ K.Xtra _ c.requires (xtra_at _ _ r.0 r.1)) c.many_of-in-Xtra.ensures _ c.leap_to-in-Xtra.ensures

pub returns-in-Bool : goal.returns-in-Bool
returns-in-Bool c =
    let r = of_class _ C.Bool (sym c.in-Bool.is ∙ c.class_of.ensures) in
    leapt _ _ _ _ _ (row_comes _ _ K.Bool _ c.requires (bool_at _ _ r.0 r.1)) c.many_of-in-Bool.ensures _ c.leap_to-in-Bool.ensures

pub returns-in-Empty : goal.returns-in-Empty
returns-in-Empty c =
    let r = of_class _ C.Empty (sym c.in-Empty.is ∙ c.class_of.ensures) in
    leapt _ _ _ _ _ (row_comes _ _ K.Empty _ c.requires (empty_at _ _ r)) c.many_of-in-Empty.ensures _ c.leap_to-in-Empty.ensures

pub returns-in-Padding : goal.returns-in-Padding
returns-in-Padding c =
    let e : c.default.result ≡ nothing_of = search rules in
    leapt _ _ _ _ _ (padding_comes _ _ _ c.padding_end.ensures) e _ c.leap_to-in-Padding.ensures
