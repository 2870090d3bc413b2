-- `string_in` meets its contract: only a STRUC or USTRUC is tried. Assumes nothing.
use Rattle.std.proofs.Common.{sym, ◌∙◌}
use Rattle.fill.proofs.TryLaws.{room_as, tried_as, tried_not}
use Rattle.fill.proofs.tries.string_in.Goals as goal

pub try_string-requires : goal.try_string-requires
try_string-requires c =
    let p = c.requires in
    (p.0, room_as _ (sym c.is_group.ensures ∙ c.if-is_group.true) p.1)

pub returns-then-is_group : goal.returns-then-is_group
returns-then-is_group c =
    tried_as _ (sym c.is_group.ensures ∙ c.if-is_group.true) c.try_string.ensures

pub returns : goal.returns
returns c = tried_not _ (sym c.is_group.ensures ∙ c.if-is_group.false) _
