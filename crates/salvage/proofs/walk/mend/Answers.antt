-- `walk::mend` meets its contract. Assumes nothing.
use mathlib.Core.Path.{sym, subst}
use Rattle.salvage.specs.Told.{Clean}
use Rattle.salvage.proofs.Laying.{front_there, front_out}
use Rattle.salvage.proofs.walk.mend.Goals as goal
use Rattle.salvage.proofs.walk.mend.Goals.{After-unwrap_or-first}

clean : (c : After-unwrap_or-first) → Clean c.args.input.now c.unwrap_or-first.result
clean c = subst (Clean c.args.input.now) (sym c.unwrap_or-first.ensures) c.requires.clean

pub mend_from-requires-clause-clean : goal.mend_from-requires-clause-clean
mend_from-requires-clause-clean c =
    let q = clean (goal.at.mend_from-requires-clause-clean c).After-unwrap_or-first in
    (q, front_there _ _ q _ _ c.copy_to.ensures)

pub returns-clause-output_after : goal.returns-clause-output_after
returns-clause-output_after c =
    front_out _ _ (clean (goal.at.returns-clause-output_after c).After-unwrap_or-first) _ _ c.copy_to.ensures _ c.mend_from.ensures.output_after
