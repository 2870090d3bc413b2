-- `next` of `compare::walk::Apart` meets its contract: the first pair of those left, and the others. Assumes nothing.
use Rattle.compare.proofs.ListLaws.{rows_here, left_none, left_some, going_behind, one_less}
use Rattle.compare.proofs.walk.ApartIterator.next.Goals as goal

pub next_row-requires : goal.next_row-requires
next_row-requires c = (rows_here _ _ _ _ c.skip_alike.ensures.onward.going c.if-met-self.false).left

pub next_row-requires-2 : goal.next_row-requires-2
next_row-requires-2 c = (rows_here _ _ _ _ c.skip_alike.ensures.onward.going c.if-met-self.false).right

pub returns-then-met-self-clause-steps : goal.returns-then-met-self-clause-steps
returns-then-met-self-clause-steps c = left_none c.skip_alike.ensures c.if-met-self.true

pub returns : goal.returns
returns c =
    let e = left_some c.skip_alike.ensures c.if-met-self.false _ _ c.next_row.ensures c.next_row-2.ensures in
    record { steps = e; goes = one_less (going_behind c.skip_alike.ensures c.if-met-self.false _ _ c.next_row.ensures c.next_row-2.ensures) e }
