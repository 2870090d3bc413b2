-- A container closes by its own row, a REPEAT by copies of its pattern. Assumes nothing.
use Rattle.std.proofs.Common.{length, sym, refl, ◌∙◌, arith}
use Rattle.fill.specs.Containers.{closed_table, closed_sums, Repeatable}
use Rattle.format.proofs.Over.{part_length}
use Rattle.fill.proofs.ContainerLaws.{is_group, Grouped, grouped, row_over, repeatable, copied_table}
use Rattle.fill.proofs.walk.close.Goals as goal
use Rattle.fill.proofs.walk.close.Goals.{In-Repeat, In_default}

-- a REPEAT: what its copies ask
room : (c : In-Repeat) → Repeatable c.in-Repeat.k c.args.f c.args.at (length c.args.table.now)
room c = repeatable _ _ _ c.in-Repeat.is c.requires

-- any other container: its row
grouped_at : (c : In_default) → Grouped c.args.w c.args.f c.args.at c.args.table.now
grouped_at c = let w = c.args.w in grouped w (is_group w c.in_default.not-Repeat).1 _ _ _

pub copy_rows-requires : goal.copy_rows-requires
copy_rows-requires c = let p = room (goal.at.copy_rows-requires c).In-Repeat in (p.0, omega (arith, p.1, p.2), p.4)

pub offset_bounds-table-at : goal.offset_bounds-table-at
offset_bounds-table-at c = let p = room (goal.at.offset_bounds-table-at c).In-Repeat in omega (arith, p.2)

pub slice_bounds-copy_words-count : goal.slice_bounds-copy_words-count
slice_bounds-copy_words-count c = let p = room (goal.at.slice_bounds-copy_words-count c).In-Repeat in omega (arith, p.2, c.copy_rows.auto.table)

pub slice_bounds-copy_words-start : goal.slice_bounds-copy_words-start
slice_bounds-copy_words-start c = let p = room (goal.at.slice_bounds-copy_words-start c).In-Repeat in omega (arith, p.2, c.copy_rows.auto.table)

pub copy_words-requires : goal.copy_words-requires
copy_words-requires c =
    let r = c.copy_rows in
    let p = room (goal.at.copy_words-requires c).In-Repeat in
    (p.0, rw (part_length c.args.at r.new.table) (omega (arith, p.2, r.auto.table)))

pub times-requires : goal.times-requires
times-requires c = let p = room (goal.at.times-requires c).In-Repeat in (omega (arith, p.1, p.2), omega (arith, p.3), omega (arith, p.4))

pub put_group-requires : goal.put_group-requires
put_group-requires c = (grouped_at (goal.at.put_group-requires c).In_default).2 c.requires

pub returns-in-Repeat : goal.returns-in-Repeat
unfolding closed_table closed_sums
returns-in-Repeat c =
    let p = room (goal.at.returns-in-Repeat c).In-Repeat in
    let q = c.copy_rows.ensures in
    rw (c.in-Repeat.is, c.times.ensures)
    (refl, copied_table _ _ _ _ c.args.table.now _ _ p.0 p.1 (omega (arith, p.2)) q c.copy_words.ensures)

pub returns-in_default : goal.returns-in_default
returns-in_default c =
    let g = grouped_at (goal.at.returns-in_default c).In_default in
    let p = c.put_group.ensures in
    (p.0 ∙ sym g.0, p.1 ∙ row_over _ _ _ c.kind_of.ensures ∙ sym g.1)
