-- `parts::one_part` meets its contract. Assumes nothing.
use Prim.Native.Nat.{◌+◌, ◌≤◌}
use native.Mathlib.Omega.{arith}
use lib.ListN.{length}
use Rattle.salvage.proofs.PartFound.{part_fits, part_kept, part_bad, part_rest, rest_unsound}
use Rattle.salvage.proofs.parts.one_part.Goals as goal
use Rattle.salvage.proofs.parts.one_part.Goals.{In-Some}

-- the object lies within the input
fits : (c : In-Some) → c.args.p + c.in-Some.n ≤ length c.args.input.now
fits c = part_fits c.args.input.now c.args.p c.requires.1 c.in-Some.n c.in-Some.ensures

pub overflow_add-end : goal.overflow_add-end
overflow_add-end c = omega (arith, fits c, c.requires.0)

pub slice_bounds-alone-end : goal.slice_bounds-alone-end
slice_bounds-alone-end c = fits c

pub unreachable-requires : goal.unreachable-requires
unreachable-requires c = rest_unsound c.args.input.now c.args.p c.requires.1 c.in-None.ensures c.in-Ok-alone.field-0 c.in-Ok-alone.ensures

pub returns-in-Ok : goal.returns-in-Ok
returns-in-Ok c = part_kept c.args.input.now c.args.p c.requires.1 c.in-Some.n c.in-Some.ensures c.in-Ok.said c.in-Ok.ensures

pub returns-in-Err : goal.returns-in-Err
returns-in-Err c = part_bad c.args.input.now c.args.p c.requires.1 c.in-Some.n c.in-Some.ensures _ c.in-Err.ensures

pub returns-in-Err-alone : goal.returns-in-Err-alone
returns-in-Err-alone c = part_rest c.args.input.now c.args.p c.requires.1 c.in-None.ensures _ c.in-Err-alone.ensures
