use Rattle.std.proofs.Common.{◌-◌, length}
use Rattle.fill.proofs.Spelling.{Spelling}
use Rattle.fill.proofs.text.+put_chars.Given as goal

abbrev pub invariant-loop-i : goal.invariant-loop-i
invariant-loop-i l = Spelling l.depth l.s l.n l.initial.table l.table l.i l.to

abbrev pub decreases-loop-i : goal.decreases-loop-i
decreases-loop-i l = length l.s - l.i

abbrev pub decreases-put_chars : goal.decreases-put_chars
decreases-put_chars l = length l.s.now
