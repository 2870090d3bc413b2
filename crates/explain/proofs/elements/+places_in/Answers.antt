-- The walk over elements; what is left of the run falls at each call. The loop's invariant: the elements passed, and those to come.
-- Assumes nothing.
use Prim.Native.Nat.{ℕ, ◌+◌}
use native.Mathlib.Omega.{arith}
use mathlib.Core.Path.{◌≡◌, sym, ◌∙◌, subst}
use lib.ListN.{get_or}
use Rattle.std.specs.Prelude.{Ok, Err}
use Rattle.explain.specs.declared.elements.Piece.{Piece}
use Rattle.explain.specs.Reasons.{between}
use Rattle.explain.specs.Told.{PieceIs, Quiet}
use Rattle.explain.proofs.Counting.{part_small}
use Rattle.explain.proofs.Walking.{walk_start, walk_end, walk_settled, walk_quiet, walk_halt, walk_skip, walk_item, copies_fit, walk_copies, piece_here, piece_found}
use Rattle.explain.proofs.elements.+places_in.Goals as goal
use Rattle.explain.proofs.elements.+places_in.Goals.{In-Ok}

-- the piece that was found
found : (t : ℕ) (c : In-Ok t) (x : Piece) → c.in-Ok.piece ≡ x
    → PieceIs c.args.run.depth (get_or c.args.run.message.now c.loop-i.i 0) (between c.args.run.message.now (c.loop-i.i + 1) c.args.run.end) (Ok x)
found t c x e = piece_found _ _ _ _ _ _ c.in-Ok.piece x c.first.ensures c.behind.ensures c.in-Ok.ensures e

pub loop-i-init : goal.loop-i-init
loop-i-init t c = walk_start _ _ _ _ _ _ c.default-sum.ensures

pub returns-then-settled : goal.returns-then-settled
returns-then-settled t c = walk_settled c.loop-i.invariant (sym c.settled.ensures ∙ c.if-settled.true)

pub loop-i-preserved-in-Some : goal.loop-i-preserved-in-Some
loop-i-preserved-in-Some t c =
    let q = c.in-Some.ensures in
    walk_quiet c.args.asked _ c.loop-i.invariant (subst (λ b. Quiet c.args.run.message.now c.args.asked b c.loop-i.i c.in-Some.quiet c.args.run.end) c.is_some.ensures q.1)

pub piece_of-requires : goal.piece_of-requires
piece_of-requires t c =
    rw c.behind.ensures (omega (arith, part_small c.args.run.message.now (c.loop-i.i + 1) c.args.run.end (omega (arith, c.loop-i-test.true, c.args.run.within)), c.args.run.short))

pub returns-in_default-piece_of : goal.returns-in_default-piece_of
returns-in_default-piece_of t c = walk_halt c.loop-i.invariant c.loop-i-test.true _ (piece_here _ _ _ _ _ _ (Err c.in_default-piece_of.field-0) c.first.ensures c.behind.ensures c.in_default-piece_of.ensures)

pub loop-i-preserved-in-Skip : goal.loop-i-preserved-in-Skip
loop-i-preserved-in-Skip t c =
    walk_skip c.loop-i.invariant c.loop-i-test.true (found t (goal.at.loop-i-preserved-in-Skip t c).In-Ok _ c.in-Skip.is)

pub loop-i-preserved-in-Item : goal.loop-i-preserved-in-Item
loop-i-preserved-in-Item t c =
    walk_item c.loop-i.invariant c.loop-i-test.true _ _ (found t (goal.at.loop-i-preserved-in-Item t c).In-Ok _ c.in-Item.is) _ _ c.one.ensures c.then-sum.ensures

pub inside-pattern-requires : goal.inside-pattern-requires
inside-pattern-requires t c =
    copies_fit c.loop-i.invariant c.loop-i-test.true _ _ (found t (goal.at.inside-pattern-requires t c).In-Ok _ c.in-Copies.is)

pub places_in-requires : goal.places_in-requires
places_in-requires t c =
    let w = copies_fit c.loop-i.invariant c.loop-i-test.true _ _ (found t (goal.at.places_in-requires t c).In-Ok _ c.in-Copies.is) in
    let e = c.inside-pattern.ensures in
    (omega (arith, w.0, e.from, e.end, c.loop-i.invariant.ahead, c.decreases), tt)

pub loop-i-preserved : goal.loop-i-preserved
loop-i-preserved t c =
    let e = c.inside-pattern.ensures in
    walk_copies c.loop-i.invariant c.loop-i-test.true _ _ (found t (goal.at.loop-i-preserved t c).In-Ok _ c.in-Copies.is)
    c.inside-pattern.result e.message e.depth e.from e.end _ _ _ c.places_in.ensures c.times.ensures c.then-sum-in-Copies.ensures

pub returns : goal.returns
returns t c = walk_end c.loop-i.invariant (omega arith)
