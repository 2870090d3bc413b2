-- `listing::output::put_bits` meets its contract: the characters so far stand over the front of the text. Assumes nothing.
use mathlib.Core.Path.{refl}
use native.Mathlib.Omega.{arith}
use lib.ListN.{length, length-set}
use Rattle.format.specs.Answers.{over}
use Rattle.listing.proofs.BitTexts.{char_turn, chars_all}
use Rattle.listing.proofs.output.put_bits.Goals as goal

pub loop-i-init : goal.loop-i-init
unfolding over
loop-i-init c = record { size = refl; end = refl; chars = refl }

pub loop-i-preserved : goal.loop-i-preserved
loop-i-preserved c =
    record {
      size = simp length-set c.loop-i.invariant.size;
      end = c.loop-i.invariant.end;
      chars = char_turn c.args.words.now (length c.args.text.now) (omega arith) (λ i. omega (arith, c.type_inv.words i)) c.args.text.now c.loop-i.text c.loop-i.i _
          (omega arith) (omega arith) c.loop-i.invariant.chars c.bit_of.ensures;
    }

pub returns : goal.returns
returns c =
    chars_all c.args.words.now (length c.args.text.now) (omega arith) c.args.text.now c.loop-i.text c.loop-i.i
    (omega arith) refl c.loop-i.invariant.chars
