use mathlib.Core.Path.{◌≡◌}
use lib.ListN.{drop}
use Rattle.format.specs.Objects.{leading}
use Rattle.wire.specs.Heads.{onward}
use Rattle.wire.proofs.integer.unpadded.Given as goal

abbrev pub invariant-loop-i : goal.invariant-loop-i
invariant-loop-i l = leading l.s ≡ onward l.i (leading (drop l.i l.s))
