-- Bytes under the mask of their low bits, moved up. Assumes nothing.
use Rattle.std.proofs.Common.{arith}
use Rattle.fill.proofs.LowBytes.{low_some}
use Rattle.fill.proofs.codes.low_some.Goals as goal

pub returns : goal.returns
returns c = low_some _ _ (λ j. omega (arith, c.type_inv.c j)) c.requires.1 c.number.ensures.0
