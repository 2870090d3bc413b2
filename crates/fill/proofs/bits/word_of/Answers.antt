-- The word is the bytes' number, its low bits cut off and the rest left-adjusted. Assumes nothing.
use Rattle.format.proofs.Digits.{bytes_of}
use Rattle.std.proofs.Common.{arith}
use Rattle.format.specs.Bits.{bytes_for}
use Rattle.fill.proofs.BitWords.{part_word}
use Rattle.fill.proofs.bits.word_of.Goals as goal

pub number-requires : goal.number-requires
unfolding bytes_for
number-requires c = (omega arith, omega arith, omega arith)

pub returns : goal.returns
unfolding bytes_for
returns c =
    let s = c.args.c.now in
    let b = bytes_of s (λ i. omega (arith, c.type_inv.c i)) in
    part_word s c.args.n _ c.number.result b (omega arith) (omega arith) (omega arith) c.number.ensures.0
