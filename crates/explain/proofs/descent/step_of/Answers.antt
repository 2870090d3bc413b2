-- `step_of` meets its contract, head by head. Assumes nothing.
use Rattle.explain.proofs.Heads.{step_leaf, step_open}
use Rattle.explain.proofs.descent.step_of.Goals as goal

pub returns-in-Row : goal.returns-in-Row
returns-in-Row c = step_leaf _ _ _ c.in_ok-head.head c.in_ok-head.ensures _ c.in-Row.is

pub returns-in-Row-2 : goal.returns-in-Row-2
returns-in-Row-2 c = step_leaf _ _ _ c.in_ok-head.head c.in_ok-head.ensures _ c.in-Row.is

pub returns-in-Row-3 : goal.returns-in-Row-3
returns-in-Row-3 c = step_leaf _ _ _ c.in_ok-head.head c.in_ok-head.ensures _ c.in-Row.is

pub returns-in-Open : goal.returns-in-Open
returns-in-Open c = step_open _ _ _ c.in_ok-head.head c.in_ok-head.ensures _ _ c.in-Open.is
