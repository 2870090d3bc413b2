use mathlib.Core.Path.{◌≡◌}
use Prim.Native.Nat.{◌≤◌}
use Rattle.table.specs.Rows.{data_to, words_of}
use Rattle.table.specs.InOrder.{RowsInOrder}
use Rattle.table.proofs.judge.judge_rows.Given as goal

abbrev pub invariant-loop-p : goal.invariant-loop-p
invariant-loop-p l = RowsInOrder l.table.words.now l.p × (l.base ≡ data_to l.table.words.now l.p) × (l.base ≤ words_of l.table.words.now)
