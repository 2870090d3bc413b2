-- `listing::output::Output::text` meets its contract. Assumes nothing.
use Prim.Native.Nat.{◌+◌, ◌-◌}
use mathlib.Core.Path.{◌≡◌, refl}
use native.Mathlib.Omega.{arith}
use lib.ListN.{length}
use Rattle.format.specs.Answers.{over}
use Rattle.format.specs.Lent.{over_at}
use Rattle.listing.proofs.output.Output.text.Goals as goal

pub returns : goal.returns
unfolding over_at over
returns c =
    let e : c.args.self.now.at + length c.args.text.now - c.args.self.now.at ≡ length c.args.text.now = omega arith in
    record { same = refl; wrote = record { room = c.requires.room; next = refl; is = rw (c.copy_from_slice.ensures.after, e) refl } }
