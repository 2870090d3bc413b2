use Rattle.std.proofs.Common.{◌≡◌, length, take}
use Rattle.format.specs.Bits.{spread, packed}
use Rattle.format.specs.Answers.{over}
use Rattle.fill.proofs.bits.put_bits.Given as goal

abbrev pub invariant-loop-j : goal.invariant-loop-j
invariant-loop-j l = (length l.table ≡ length l.initial.table) × (l.table ≡ over (packed 64 l.j (take l.n (spread 8 l.c))) l.initial.table)
