-- `descend` meets its contract, step by step. Assumes nothing.
use native.Mathlib.Omega.{arith}
use Prim.Native.Nat.{ℕ, ◌+◌, ◌≤◌, ◌<◌}
use mathlib.Core.Path.{◌≡◌, refl, sym, ap, subst, ◌∙◌}
use lib.ListN.{length, get_or}
use Rattle.std.specs.Prelude.{Ok, Err}
use Rattle.wire.specs.declared.size.Extent.{Extent}
use Rattle.explain.specs.declared.descent.Step.{Step}
use Rattle.explain.specs.declared.descent.Step.TheVariants.{Over, Into}
use Rattle.explain.specs.Reasons.{between}
use Rattle.explain.specs.Told.{StepIs, around_of}
use Rattle.explain.proofs.Counting.{part_small}
use Rattle.explain.proofs.Descending.{descend_start, bounds, halt_shallow, halt_repeat, halt_other, over_fits, step_over, into_fits, gone_into, gone_past, step_singles, arrived, deep, step_here, step_found, repeat_byte, no_repeat}
use Rattle.explain.proofs.descent.descend.Goals as goal
use Rattle.explain.proofs.descent.descend.Goals.{In-loop-at, In-Ok, In_default-step_of, then-is, else-is}

-- the object at `at` lies within the message
there : (c : In-loop-at) → (c.loop-at.at < c.loop-at.end) × (c.loop-at.end ≤ length c.args.m.now)
there c = let b = bounds c.loop-at.invariant in (b.0, b.1)

-- the step that was found
found : (c : In-Ok) (x : Step) → c.in-Ok.step ≡ x
    → StepIs (length (around_of c.loop-at.trail)) (get_or c.args.m.now c.loop-at.at 0) (between c.args.m.now (c.loop-at.at + 1) c.loop-at.end) (Ok x)
found c x e = step_found _ c.loop-at.trail _ _ _ _ c.in-Ok.step x c.first.ensures c.behind.ensures (subst (λ d. StepIs d c.first.result c.behind.result.now (Ok c.in-Ok.step)) c.len.ensures c.in-Ok.ensures) e

stopped : (c : In_default-step_of)
    → StepIs (length (around_of c.loop-at.trail)) (get_or c.args.m.now c.loop-at.at 0) (between c.args.m.now (c.loop-at.at + 1) c.loop-at.end) (Err c.in_default-step_of.field-0)
stopped c = step_here _ c.loop-at.trail _ _ _ _ (Err c.in_default-step_of.field-0) c.first.ensures c.behind.ensures (rw c.len.ensures at c.in_default-step_of.ensures)

-- its bytes lie within the run
over_here : (c : In-Ok) (u : ℕ) → c.in-Ok.step ≡ Over u → c.loop-at.at + 1 + u ≤ c.loop-at.end
over_here c u e = over_fits c.loop-at.invariant (found c _ e)

into_here : (c : In-Ok) (x : Extent) → c.in-Ok.step ≡ Into x
    → (c.loop-at.at + 1 + x.start + x.size ≤ c.loop-at.end) × (length (around_of c.loop-at.trail) < 16)
into_here c x e = into_fits c.loop-at.invariant c.loop-at-test.true (found c _ e)

pub loop-at-init : goal.loop-at-init
loop-at-init c = descend_start _ _ c.args.trail.now c.requires.nothing_open c.requires.refused_at

pub singles_end-requires : goal.singles_end-requires
singles_end-requires c = there c

pub loop-at-preserved-in-Some : goal.loop-at-preserved-in-Some
loop-at-preserved-in-Some c = step_singles _ c.loop-at.invariant c.in-Some.ensures.1

pub first-requires : goal.first-requires
first-requires c = (bounds c.loop-at.invariant).0

pub behind-requires : goal.behind-requires
behind-requires c = (bounds c.loop-at.invariant).0

pub step_of-requires : goal.step_of-requires
step_of-requires c =
    let b = bounds c.loop-at.invariant in
    rw c.behind.ensures (omega (arith, part_small c.args.m.now (c.loop-at.at + 1) c.loop-at.end (omega (arith, b)), c.requires.m_len_bound))

pub first-requires-in_default-step_of : goal.first-requires-in_default-step_of
first-requires-in_default-step_of c = (bounds c.loop-at.invariant).0

pub push-requires : goal.push-requires
push-requires c =
    omega (
      arith,
      deep c.loop-at.trail,
      halt_shallow c.loop-at.invariant c.loop-at-test.true _ (stopped (goal.at.push-requires c).In_default-step_of)
          (repeat_byte _ _ c.first-in_default-step_of.ensures (c.is.ensures.0 c.if-is.true)),
    )

pub returns-in_default-step_of : goal.returns-in_default-step_of
returns-in_default-step_of c =
    let h = stopped (goal.at.returns-in_default-step_of c).In_default-step_of in
    elim c.if-is.branch [
      | then-is w ↦
          halt_repeat c.loop-at.invariant c.loop-at-test.true _ h (repeat_byte _ _ c.first-in_default-step_of.ensures (c.is.ensures.0 w.if-is.true)) _ w.push.ensures.places _
          refl refl refl (c.len.ensures ∙ sym (deep c.loop-at.trail)) _ (ap around_of w.trail-is)
      | else-is w ↦
          halt_other c.loop-at.invariant c.loop-at-test.true _ h (no_repeat _ _ c.first-in_default-step_of.ensures w.if-is.ensures.1) _ refl refl refl (c.len.ensures ∙ sym (deep c.loop-at.trail)) _
          (ap around_of w.trail-is)
    ]

pub overflow_add-at-in-Over : goal.overflow_add-at-in-Over
overflow_add-at-in-Over c = omega (arith, over_here (goal.at.overflow_add-at-in-Over c).In-Ok _ c.in-Over.is, bounds c.loop-at.invariant, c.requires.m_len_bound)

pub loop-at-smaller-in-Over : goal.loop-at-smaller-in-Over
loop-at-smaller-in-Over c = omega (arith, bounds c.loop-at.invariant)

pub loop-at-preserved-in-Over : goal.loop-at-preserved-in-Over
loop-at-preserved-in-Over c = step_over c.loop-at.invariant (found (goal.at.loop-at-preserved-in-Over c).In-Ok _ c.in-Over.is)

pub inside-contents-requires : goal.inside-contents-requires
inside-contents-requires c = let f = into_here (goal.at.inside-contents-requires c).In-Ok _ c.in-Into.is in (f.0, omega (arith, f.1, c.len.ensures, deep c.loop-at.trail))

pub loop-at-smaller-then-place-contents : goal.loop-at-smaller-then-place-contents
loop-at-smaller-then-place-contents c =
    omega (arith, (into_here (goal.at.loop-at-smaller-then-place-contents c).In-Ok _ c.in-Into.is).0, bounds c.loop-at.invariant, c.inside-contents.ensures.from, c.inside-contents.ensures.end)

pub loop-at-preserved-then-place-contents : goal.loop-at-preserved-then-place-contents
loop-at-preserved-then-place-contents c =
    let e = c.inside-contents.ensures in
    gone_into c.loop-at.invariant c.loop-at-test.true _ _ e.from e.end (found (goal.at.loop-at-preserved-then-place-contents c).In-Ok _ c.in-Into.is) _
    c.push-then-place-contents.ensures.places c.if-place-contents.true

pub loop-at-smaller : goal.loop-at-smaller
loop-at-smaller c = omega (arith, bounds c.loop-at.invariant, c.inside-contents.ensures.end)

pub loop-at-preserved : goal.loop-at-preserved
loop-at-preserved c =
    let e = c.inside-contents.ensures in
    gone_past c.loop-at.invariant c.loop-at-test.true _ _ e.from e.end (found (goal.at.loop-at-preserved c).In-Ok _ c.in-Into.is) c.if-place-contents.false

pub returns : goal.returns
returns c = arrived c.loop-at.invariant (omega arith) _ refl refl refl (c.len-2.ensures ∙ sym (deep c.loop-at.trail)) _ refl
