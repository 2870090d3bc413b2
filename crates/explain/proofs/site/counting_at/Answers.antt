-- `counting_at` meets its contract, by the size. Assumes nothing.
use native.Mathlib.Omega.{arith}
use Prim.Native.Nat.{◌+◌, ◌≤◌}
use mathlib.Core.Path.{sym, ◌∙◌, subst}
use Rattle.std.specs.Prelude.{Ok, Err}
use Rattle.wire.specs.Extents.{ExtentIs}
use Rattle.explain.specs.Reasons.{between}
use Rattle.explain.specs.Told.{behind_of}
use Rattle.explain.proofs.Counting.{counting_sized, part_fits, part_small}
use Rattle.explain.proofs.SizedHeads.{within_size, not_wanting}
use Rattle.explain.proofs.site.counting_at.Goals as goal
use Rattle.explain.proofs.site.counting_at.Goals.{In-Ok}

extent : (c : In-Ok) → ExtentIs (behind_of c.args.object) (Ok c.in-Ok.e)
extent c = subst (λ s. ExtentIs s (Ok c.in-Ok.e)) c.behind.ensures c.in-Ok.ensures

-- the contents lie within the bytes
fits : (c : In-Ok) → c.args.object.from + 1 + c.in-Ok.e.start + c.in-Ok.e.size ≤ c.args.object.end
fits c = part_fits c.args.object.message.now c.args.object.from c.args.object.end _ _ c.requires.0 (extent c).1

pub extent_of-requires : goal.extent_of-requires
extent_of-requires c =
    rw c.behind.ensures (omega (arith, part_small c.args.object.message.now (c.args.object.from + 1) c.args.object.end (omega (arith, c.requires.0, c.args.object.within)), c.args.object.short))

pub returns-in-Err : goal.returns-in-Err
returns-in-Err c = not_wanting _ c.in-Err.field-0 c.requires.1 (subst (λ s. ExtentIs s (Err c.in-Err.field-0)) c.behind.ensures c.in-Err.ensures)

pub counted_in-requires : goal.counted_in-requires
unfolding between
counted_in-requires c =
    omega (
      arith,
      part_small c.args.object.message.now (c.args.object.from + 1 + c.in-Ok.e.start) (c.args.object.from + 1 + c.in-Ok.e.start + c.in-Ok.e.size)
          (omega (arith, fits (goal.at.counted_in-requires c).In-Ok, c.args.object.within)),
      c.args.object.short,
    )

pub returns-in-Ok : goal.returns-in-Ok
unfolding between
returns-in-Ok c = c.counted_in.ensures ∙ sym (counting_sized _ _ _ _ _ (within_size _ c.in-Ok.e (extent (goal.at.returns-in-Ok c).In-Ok)))

pub slice_bounds-counted_in-end : goal.slice_bounds-counted_in-end
slice_bounds-counted_in-end c = omega (arith, fits (goal.at.slice_bounds-counted_in-end c).In-Ok, c.args.object.within)
