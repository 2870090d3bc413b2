use mathlib.Core.Path.{◌≡◌}
use lib.ListN.{length, take}
use Rattle.format.specs.Bits.{spread}
use Rattle.format.specs.Answers.{over}
use Rattle.listing.specs.Lines.{bit_text}
use Rattle.listing.proofs.output.put_bits.Given as goal

abbrev pub invariant-loop-i : goal.invariant-loop-i
invariant-loop-i l =
    record {
      size : length l.text ≡ length l.initial.text;
      end : l.i-end ≡ length l.initial.text;
      chars : l.text ≡ over (take l.i (bit_text (take (length l.initial.text) (spread 64 l.words)))) l.initial.text;
    }
