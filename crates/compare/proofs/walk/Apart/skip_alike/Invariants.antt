use Prim.Native.Nat.{◌-◌}
use mathlib.Core.Path.{◌≡◌}
use Rattle.table.specs.Rows.{rows_of}
use Rattle.compare.specs.Walks.{Onward}
use Rattle.compare.proofs.walk.Apart.skip_alike.Given as goal

abbrev pub invariant-loop-self : goal.invariant-loop-self
invariant-loop-self l = record { rows : l.rows ≡ rows_of l.self.left.now; onward : Onward l.initial.self l.self }

abbrev pub decreases-loop-self : goal.decreases-loop-self
decreases-loop-self l = l.rows - l.self.at.left
