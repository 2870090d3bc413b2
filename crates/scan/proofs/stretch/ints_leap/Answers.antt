-- `ints_leap` meets its contract: integers are one kind. Assumes nothing.
use Rattle.scan.proofs.Stretches.{leapt}
use Rattle.scan.proofs.stretch.ints_leap.Goals as goal

pub returns : goal.returns
returns c = leapt _ _ _ _ _ c.ints_from-l.ensures.comes c.many_of.ensures _ c.leap_to.ensures
