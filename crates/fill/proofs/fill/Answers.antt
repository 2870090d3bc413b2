-- The whole table: rows and data words, and the header before them. Assumes nothing.
use Rattle.fill.proofs.WholeLaws.{Seen, seen, header_room, whole}
use Rattle.fill.proofs.fill.Goals as goal
use Rattle.fill.proofs.fill.Goals.{Start}

seen_at : (c : Start) → Seen c.args.message.now c.args.rows c.args.words c.args.table.now
seen_at c = seen _ _ _ _ c.requires.1

pub put_header-requires : goal.put_header-requires
put_header-requires c = header_room (seen_at (goal.at.put_header-requires c).Start) _ _ c.put_items-count.ensures

pub returns : goal.returns
returns c =
    whole (seen_at (goal.at.returns c).Start) _ _ c.put_items-count.ensures c.put_header.ensures
