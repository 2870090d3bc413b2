-- `walk::mend_from` meets its contract. Assumes nothing.
use Prim.Native.Nat.{◌≤◌, ◌<◌}
use native.Mathlib.Omega.{arith}
use lib.ListN.{length}
use Rattle.salvage.specs.Mending.{changes_in}
use Rattle.salvage.proofs.PartCases.{bad_upto, bad_some}
use Rattle.salvage.proofs.Laying.{laid_start, some_left, laid_dropped, kept_copy, laid_kept, replaced_room, laid_replaced, end_room, end_out, end_list}
use Rattle.salvage.proofs.walk.mend_from.Goals as goal
use Rattle.salvage.proofs.walk.mend_from.Goals.{In-loop-k}

-- changes are still to come, so bytes are
left : (c : In-loop-k) → c.loop-k.p < length c.args.input.now
left c = some_left _ _ _ _ _ _ _ _ c.loop-k.invariant c.requires.has_room.0 (omega (arith, c.loop-k-test.true, c.requires.has_room.1))

pub loop-k-init : goal.loop-k-init
loop-k-init c = laid_start _ _ _ _ c.requires.clean.0 c.requires.clean.1

pub part_at-requires : goal.part_at-requires
part_at-requires c = (c.requires.has_room.0.short, left c)

pub copy_to-requires : goal.copy_to-requires
copy_to-requires c = kept_copy _ _ _ _ _ _ _ _ c.loop-k.invariant c.requires.has_room.0 c.in-Kept.n _ c.in-Kept.ensures

pub loop-k-preserved-in-Kept : goal.loop-k-preserved-in-Kept
loop-k-preserved-in-Kept c = laid_kept _ _ _ _ _ _ _ _ c.loop-k.invariant c.requires.has_room.0 c.in-Kept.n _ c.in-Kept.ensures _ c.copy_to.ensures

pub bounds-output-at : goal.bounds-output-at
bounds-output-at c = (replaced_room _ _ _ _ _ _ _ _ c.loop-k.invariant c.requires.has_room.0 c.in-Replaced.n _ c.in-Replaced.ensures).0

pub overflow_add-p : goal.overflow_add-p
overflow_add-p c = omega (arith, bad_upto c.args.input.now c.loop-k.p c.in-Replaced.n _ c.in-Replaced.ensures c.loop-k.invariant.upto, c.requires.has_room.0.short)

pub loop-k-smaller-in-Replaced : goal.loop-k-smaller-in-Replaced
loop-k-smaller-in-Replaced c =
    omega (arith, bad_some c.args.input.now c.loop-k.p c.in-Replaced.n _ c.in-Replaced.ensures, left (goal.at.loop-k-smaller-in-Replaced c).In-loop-k)

pub loop-k-preserved-in-Replaced : goal.loop-k-preserved-in-Replaced
loop-k-preserved-in-Replaced c = laid_replaced _ _ _ _ _ _ _ _ c.loop-k.invariant c.requires.has_room.0 c.in-Replaced.n _ c.in-Replaced.ensures _ c.put_change.ensures

pub loop-k-smaller : goal.loop-k-smaller
loop-k-smaller c = omega (arith, left (goal.at.loop-k-smaller c).In-loop-k)

pub loop-k-preserved : goal.loop-k-preserved
loop-k-preserved c =
    laid_dropped _ _ _ _ _ _ _ _ c.loop-k.invariant c.requires.has_room.0 (left (goal.at.loop-k-preserved c).In-loop-k) _ c.in-Dropped.ensures _ c.put_change-in-Dropped.ensures

pub copy_to-requires-2 : goal.copy_to-requires-2
copy_to-requires-2 c = end_room _ _ _ _ _ _ _ _ c.loop-k.invariant (omega (arith, c.loop-k-test.false, c.requires.has_room.1)) c.requires.has_room.0

pub returns : goal.returns
returns c =
    let h : length (changes_in c.args.input.now) ≤ c.loop-k.k = omega (arith, c.loop-k-test.false, c.requires.has_room.1) in
    record { output_after = end_out _ _ _ _ _ _ _ _ c.loop-k.invariant h _ c.copy_to-2.ensures; list_after = end_list _ _ _ _ _ _ _ _ c.loop-k.invariant h }
