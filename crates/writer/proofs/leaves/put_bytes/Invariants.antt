use Rattle.writer.proofs.WordLaws.{Laying}
use Rattle.writer.proofs.leaves.put_bytes.Given as goal

abbrev pub invariant-loop-i : goal.invariant-loop-i
invariant-loop-i l = Laying l.table.words.now l.first l.count l.initial.out l.out l.i
