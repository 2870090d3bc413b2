use Rattle.writer.proofs.StretchLaws.{Strung}
use Rattle.writer.proofs.put.put_singles.Given as goal

abbrev pub invariant-loop-q : goal.invariant-loop-q
invariant-loop-q l = Strung l.rows.words.now l.one.kind l.one.bound l.one.low l.rows.from l.initial.out l.out l.q
