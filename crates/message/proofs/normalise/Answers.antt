-- `normalise` meets its contract. Assumes nothing.
use Rattle.message.specs.Told.{read_told, write_told}
use Rattle.message.proofs.WriteCases.{normalise_written}
use native.Mathlib.Omega.{arith}
use Rattle.message.proofs.normalise.Goals as goal

pub returns : goal.returns
returns c =
    normalise_written c.args.message.now c.args.table.now c.args.output.now (read_told c.read-r.result c.read-r.new.table)
    (write_told c.write-w.result c.write-w.new.output) c.read-r.ensures (omega arith) c.write-w.ensures
