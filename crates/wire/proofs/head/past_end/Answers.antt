-- `head::past_end` meets its contract. Assumes nothing.
use mathlib.Core.Path.{sym, ap, ◌∙◌}
use Rattle.format.specs.Refusals.{wants}
use Rattle.format.specs.Objects.{past_end}
use Rattle.wire.proofs.HeadLaws.{past_outer, past_inner}
use Rattle.wire.proofs.head.past_end.Goals as goal

pub returns-then-depth-eq0 : goal.returns-then-depth-eq0
returns-then-depth-eq0 c =
    c.wants.ensures ∙ ap (λ n. wants n c.args.k) (sym (ap past_end c.if-depth-eq0.true ∙ past_outer))

pub returns-else-depth-eq0 : goal.returns-else-depth-eq0
returns-else-depth-eq0 c =
    c.wants-else-depth-eq0.ensures ∙ ap (λ n. wants n c.args.k) (sym (past_inner c.args.depth c.if-depth-eq0.false))
