-- `listing::walk::put_run` meets its contract. The loop keeps the text of the items that are left; the depth still allowed falls at each call.
-- Assumes nothing.
use mathlib.Core.Path.{refl}
use native.Mathlib.Omega.{arith}
use Rattle.listing.proofs.Putting.{part_start, part_step, part_end, part_first}
use Rattle.listing.proofs.RunLines.{item_step, lines_alone, room_behind, no_lines}
use Rattle.listing.proofs.walk.+put_run.Goals as goal

pub loop-p-init : goal.loop-p-init
loop-p-init t c = let n = c.requires.run.0.stands.number in record { within = omega arith; run = c.requires.run.0; shallow = c.requires.run.1; part = part_start _ _ c.requires.room }

pub put_row-requires : goal.put_row-requires
put_row-requires t c =
    let s = item_step c.args.table.now c.loop-p.p c.args.to c.args.level c.loop-p.invariant.run c.loop-p-test.true in
    record { in_order = s.here; room = part_first _ c.requires.room c.loop-p.invariant.part s.is }

pub next_row-next-requires : goal.next_row-next-requires
next_row-next-requires t c = room_behind (item_step c.args.table.now c.loop-p.p c.args.to c.args.level c.loop-p.invariant.run c.loop-p-test.true)

pub put_run-requires : goal.put_run-requires
put_run-requires t c =
    let s = rw (← c.next_row-next.ensures) at (item_step c.args.table.now c.loop-p.p c.args.to c.args.level c.loop-p.invariant.run c.loop-p-test.true) in
    let i = s.inside c.if-p-next.true in
    (omega arith, ((i.0, omega arith), part_first _ c.requires.room (part_step c.loop-p.invariant.part s.is c.put_row.ensures) refl))

pub loop-p-smaller : goal.loop-p-smaller
loop-p-smaller t c =
    let s = rw (← c.next_row-next.ensures) at (item_step c.args.table.now c.loop-p.p c.args.to c.args.level c.loop-p.invariant.run c.loop-p-test.true) in
    let i = s.within in
    let n = s.start in
    omega arith

pub loop-p-preserved : goal.loop-p-preserved
loop-p-preserved t c =
    let s = rw (← c.next_row-next.ensures) at (item_step c.args.table.now c.loop-p.p c.args.to c.args.level c.loop-p.invariant.run c.loop-p-test.true) in
    let l = s.shallow in
    record { within = s.within; run = s.next; shallow = omega arith; part = part_step c.loop-p.invariant.part (lines_alone s c.if-p-next.false) c.put_row.ensures }

pub loop-p-preserved-then-p-next : goal.loop-p-preserved-then-p-next
loop-p-preserved-then-p-next t c =
    let s = rw (← c.next_row-next.ensures) at (item_step c.args.table.now c.loop-p.p c.args.to c.args.level c.loop-p.invariant.run c.loop-p-test.true) in
    let l = s.shallow in
    record {
      within = s.within;
      run = s.next;
      shallow = omega arith;
      part = part_step (part_step c.loop-p.invariant.part s.is c.put_row.ensures) refl c.put_run.ensures;
    }

pub returns : goal.returns
returns t c = part_end c.loop-p.invariant.part (no_lines _ _ _ c.args.level c.loop-p.invariant.run c.loop-p-test.false)
