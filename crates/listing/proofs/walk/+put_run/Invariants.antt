use Prim.Native.Nat.{◌+◌, ◌-◌, ◌≤◌}
use Rattle.format.specs.Normal.{depth}
use Rattle.table.specs.Rows.{Run, items_at}
use Rattle.listing.specs.Lines.{lines}
use Rattle.listing.proofs.Putting.{Part}
use Rattle.listing.proofs.walk.+put_run.Given as goal

abbrev pub decreases-put_run : goal.decreases-put_run
decreases-put_run l = 16 - l.level

abbrev pub invariant-loop-p : goal.invariant-loop-p
invariant-loop-p l =
    record {
      within : l.p ≤ l.to;
      run : Run l.table l.p l.to;
      shallow : l.level + depth (items_at l.table l.p l.to) ≤ 16;
      part : Part (lines l.level (items_at l.table l.from l.to)) (lines l.level (items_at l.table l.p l.to)) l.initial.out l.out;
    }

abbrev pub decreases-loop-p : goal.decreases-loop-p
decreases-loop-p l = l.to - l.p
