-- `walk::measured` meets its contract. Assumes nothing.
use Rattle.salvage.proofs.Surveying.{measured_whole}
use Rattle.salvage.proofs.walk.measured.Goals as goal

pub returns-in-Ok : goal.returns-in-Ok
returns-in-Ok c = measured_whole c.args.input.now c.in-Ok.said c.in-Ok.ensures
