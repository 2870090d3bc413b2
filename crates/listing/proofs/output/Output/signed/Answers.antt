-- `listing::output::Output::signed` meets its contract: from 2^63 on a word stands for a negative number. Assumes nothing.
use Prim.Native.Nat.{◌-◌, ◌^◌}
use native.Mathlib.Omega.{arith}
use Rattle.listing.proofs.Putting.{then, fits_first, fits_next}
use Rattle.listing.proofs.Decimals.{signed_plus, signed_minus}
use Rattle.listing.proofs.output.Output.signed.Goals as goal

pub decimal-requires : goal.decimal-requires
decimal-requires c = rw (signed_plus c.args.v (omega arith)) at c.requires

pub byte-requires : goal.byte-requires
byte-requires c =
    fits_first _ (rw (signed_minus c.args.v (2 ^ 64 - c.args.v) (omega arith) (omega arith) (omega arith) (omega arith)) at c.requires)

pub decimal-requires-else-v-lt-NEGATIVE : goal.decimal-requires-else-v-lt-NEGATIVE
decimal-requires-else-v-lt-NEGATIVE c =
    fits_next c.byte.ensures (rw (signed_minus c.args.v c.wrapping_neg.result (omega arith) (omega arith) (omega arith) c.wrapping_neg.ensures) at c.requires)

pub returns-then-v-lt-NEGATIVE : goal.returns-then-v-lt-NEGATIVE
returns-then-v-lt-NEGATIVE c = rw (signed_plus c.args.v (omega arith)) c.decimal.ensures

pub returns-else-v-lt-NEGATIVE : goal.returns-else-v-lt-NEGATIVE
returns-else-v-lt-NEGATIVE c =
    rw (signed_minus c.args.v c.wrapping_neg.result (omega arith) (omega arith) (omega arith) c.wrapping_neg.ensures)
    (then c.byte.ensures c.decimal-else-v-lt-NEGATIVE.ensures)
