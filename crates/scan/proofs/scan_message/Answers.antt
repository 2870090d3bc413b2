-- `scan_message` meets its contract: a message is a run with no container around it. Assumes nothing.
use Rattle.format.specs.Messages.{outcome}
use Rattle.scan.proofs.scan_message.Goals as goal

pub returns : goal.returns
unfolding outcome
returns c = c.scan_run.ensures
