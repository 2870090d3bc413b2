-- The loop's invariant: the rows of the objects from i on stand behind what was there. Assumes nothing.
use Rattle.fill.proofs.Stretches.{stretched_none, stretched_join, stretched_stop}
use Rattle.fill.proofs.stretch.put_stretch.Goals as goal

pub loop-upto-init : goal.loop-upto-init
loop-upto-init c = let p = c.requires in stretched_none _ _ _ _ p.0 p.1

pub returns-then-l-upto : goal.returns-then-l-upto
returns-then-l-upto c = stretched_stop c.loop-upto.invariant c.put_class-l.ensures c.if-l-upto.true

pub loop-upto-preserved : goal.loop-upto-preserved
loop-upto-preserved c = stretched_join c.loop-upto.invariant c.put_class-l.ensures
