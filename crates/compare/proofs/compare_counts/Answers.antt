-- `compare::compare_counts` meets its contract. Assumes nothing.
use native.Mathlib.Omega.{arith}
use Rattle.compare.proofs.Answering.{long, no_room, one_entry}
use Rattle.compare.proofs.compare_counts.Goals as goal

pub returns-then-list-lt2 : goal.returns-then-list-lt2
returns-then-list-lt2 c = rw c.refused.ensures (no_room _ _ c.requires.0 c.requires.1 _ c.if-list-lt2.true)

pub returns : goal.returns
returns c =
    rw c.written.ensures (one_entry _ _ c.requires.0 c.requires.1 _ _ c.if-list-lt2.false c.put_entry.ensures)

pub bounds-left-0 : goal.bounds-left-0
bounds-left-0 c = omega (arith, (long _ _ c.requires.0).0)

pub bounds-right-0 : goal.bounds-right-0
bounds-right-0 c = omega (arith, (long _ _ c.requires.0).1)
