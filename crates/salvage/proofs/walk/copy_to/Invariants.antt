use Rattle.salvage.proofs.Copying.{Copied}
use Rattle.salvage.proofs.walk.copy_to.Given as goal

abbrev pub invariant-loop-i : goal.invariant-loop-i
invariant-loop-i l = Copied l.at l.bytes l.initial.output l.output l.i
