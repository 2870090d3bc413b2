-- `compare::walk::put_entry` meets its contract. Assumes nothing.
use Prim.Native.Nat.{◌*◌}
use Rattle.format.proofs.Over.{set_two}
use Rattle.compare.proofs.walk.put_entry.Goals as goal

pub returns : goal.returns
returns c = set_two (2 * c.args.n) c.args.list.now c.args.p c.args.q c.requires
