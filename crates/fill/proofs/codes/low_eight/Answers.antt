-- Eight bytes and the mask of their low bits are the codes of the bytes. Assumes nothing.
use Rattle.std.proofs.Common.{arith}
use Rattle.fill.proofs.LowBytes.{low_word}
use Rattle.fill.proofs.codes.low_eight.Goals as goal

pub returns : goal.returns
returns c = low_word _ _ _ (λ j. omega (arith, c.type_inv.c j)) c.requires c.word_at.ensures
