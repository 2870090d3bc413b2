use mathlib.Core.Path.{◌≡◌}
use lib.ListN.{length, take}
use Rattle.format.specs.Answers.{over}
use Rattle.explain.proofs.put_places.Given as goal

abbrev pub invariant-loop-i : goal.invariant-loop-i
invariant-loop-i l = (l.list ≡ over (take l.i l.places) l.initial.list) × (length l.list ≡ length l.initial.list)
