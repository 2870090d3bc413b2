use Prim.Native.Nat.{◌-◌}
use Rattle.explain.specs.Told.{word_asked}
use Rattle.explain.proofs.Walking.{Walked}
use Rattle.explain.proofs.elements.+places_in.Given as goal

abbrev pub decreases-places_in : goal.decreases-places_in
decreases-places_in l = l.run.end - l.run.from

abbrev pub invariant-loop-i : goal.invariant-loop-i
invariant-loop-i l = Walked l.run.message.now l.run.depth (word_asked l.asked) l.run.from l.run.end l.i l.sum

abbrev pub decreases-loop-i : goal.decreases-loop-i
decreases-loop-i l = l.run.end - l.i
