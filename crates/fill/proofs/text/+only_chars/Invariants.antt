use Rattle.std.proofs.Common.{◌-◌, length}
use Rattle.fill.proofs.StringLaws.{Chars}
use Rattle.fill.proofs.text.+only_chars.Given as goal

abbrev pub invariant-loop-i : goal.invariant-loop-i
invariant-loop-i l = Chars l.depth l.s l.i

abbrev pub decreases-loop-i : goal.decreases-loop-i
decreases-loop-i l = length l.s - l.i

abbrev pub decreases-only_chars : goal.decreases-only_chars
decreases-only_chars l = length l.s.now
