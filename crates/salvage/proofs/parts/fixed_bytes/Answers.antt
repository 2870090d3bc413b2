-- `parts::fixed_bytes` meets its contract. Assumes nothing.
use native.Mathlib.Omega.{arith}
use Rattle.salvage.proofs.ExtentLaws.{fixed_past, fixed_lying}
use Rattle.salvage.proofs.parts.fixed_bytes.Goals as goal

pub returns-then-s-k : goal.returns-then-s-k
returns-then-s-k c = fixed_past c.args.s.now c.args.k c.if-s-k.true

pub returns-else-s-k : goal.returns-else-s-k
returns-else-s-k c = fixed_lying c.args.s.now c.args.k (omega (arith, c.if-s-k.false))
