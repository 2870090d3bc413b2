-- Where there are rows, the walk lays them out behind the header. Assumes nothing.
use Rattle.std.proofs.Common.{arith}
use Rattle.fill.proofs.WholeLaws.{Seen, seen, no_items, items_fit, items_put}
use Rattle.fill.proofs.put_items.Goals as goal
use Rattle.fill.proofs.put_items.Goals.{Start}

-- the items that the message says, and the room for them
seen_at : (c : Start) → Seen c.args.message.now c.args.rows c.args.words c.args.table.now
seen_at c = seen _ _ _ _ c.requires.1

pub returns-then-rows-eq0 : goal.returns-then-rows-eq0
returns-then-rows-eq0 c = no_items (seen_at (goal.at.returns-then-rows-eq0 c).Start) c.if-rows-eq0.true

pub overflow_mul-place : goal.overflow_mul-place
overflow_mul-place c = let s = seen_at (goal.at.overflow_mul-place c).Start in omega (arith, s.rows_are, s.few_rows)

pub slice_bounds-fill_run-count : goal.slice_bounds-fill_run-count
slice_bounds-fill_run-count c = (items_fit (seen_at (goal.at.slice_bounds-fill_run-count c).Start)).0

pub slice_bounds-fill_run-start : goal.slice_bounds-fill_run-start
slice_bounds-fill_run-start c = (items_fit (seen_at (goal.at.slice_bounds-fill_run-start c).Start)).0

pub fill_run-requires : goal.fill_run-requires
fill_run-requires c = (omega (arith, c.requires.0), (items_fit (seen_at (goal.at.fill_run-requires c).Start)).1)

pub returns : goal.returns
returns c = items_put (seen_at (goal.at.returns c).Start) c.fill_run.ensures
