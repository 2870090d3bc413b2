-- `listing::output::Output::byte` meets its contract. Assumes nothing.
use mathlib.Core.Path.{refl}
use native.Mathlib.Omega.{arith}
use Rattle.format.proofs.Over.{set_at}
use Rattle.listing.proofs.output.Output.byte.Goals as goal

pub returns : goal.returns
returns c =
    record { same = refl; wrote = record { room = c.requires.room; next = refl; is = set_at c.args.self.now.at c.args.b c.args.self.now.lent.now (omega arith) } }
