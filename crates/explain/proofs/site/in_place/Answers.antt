-- `in_place` meets its contract. Assumes nothing.
use Rattle.explain.proofs.Counting.{in_place_byte, in_place_none}
use Rattle.explain.proofs.site.in_place.Goals as goal

pub returns-in-Some : goal.returns-in-Some
returns-in-Some c = in_place_byte c.args.c.now c.args.a c.in-Some.i c.in-Some.ensures

pub returns-in-None : goal.returns-in-None
returns-in-None c = in_place_none c.args.c.now c.args.a c.in-None.ensures
