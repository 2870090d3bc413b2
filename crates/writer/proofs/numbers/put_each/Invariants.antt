use Prim.Native.Nat.{◌%◌, ◌^◌}
use mathlib.Core.Path.{◌≡◌}
use Rattle.format.specs.Numbers.{be}
use Rattle.format.specs.Answers.{over}
use Rattle.writer.proofs.numbers.put_each.Given as goal

abbrev pub invariant-loop-i : goal.invariant-loop-i
invariant-loop-i l = over (be l.k (l.n % 256 ^ l.k)) l.initial.out ≡ over (be l.i (l.x % 256 ^ l.i)) l.out
