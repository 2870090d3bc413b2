use Prim.Native.Nat.{◌+◌, ◌-◌}
use mathlib.Core.Path.{◌≡◌}
use lib.ListN.{length}
use Rattle.listing.specs.Lines.{decimal}
use Rattle.format.specs.Lent.{over_at}
use Rattle.listing.proofs.Decimals.{last_digits}
use Rattle.listing.proofs.output.Output.decimal.Given as goal

abbrev pub invariant-loop-i : goal.invariant-loop-i
invariant-loop-i l =
    record {
      at : l.self.at ≡ l.initial.self.at;
      same : l.self.lent.ghost_name ≡ l.initial.self.lent.ghost_name;
      size : length l.self.lent.now ≡ length l.initial.self.lent.now;
      end : l.end ≡ l.self.at + length (decimal l.n);
      digits : over_at l.self.at (decimal l.n) l.initial.self.lent.now ≡ over_at l.self.at (last_digits (l.i - l.self.at) l.x) l.self.lent.now;
    }
