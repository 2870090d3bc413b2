-- `walk::put_change` meets its contract. Assumes nothing.
use Prim.Native.Nat.{◌*◌}
use Rattle.format.specs.Refused.{number_of}
use Rattle.format.proofs.Over.{set_three}
use Rattle.salvage.proofs.walk.put_change.Goals as goal

pub returns : goal.returns
returns c = rw c.number.ensures (set_three (3 * c.args.k) c.args.list.now c.args.place c.args.bytes (number_of c.args.why) c.requires)
