-- `span::eights` meets its contract: each word up to e passes. Assumes nothing.
use mathlib.Core.Bool.{true}
use mathlib.Core.Path.{subst}
use Prim.Native.Nat.{ℕ}
use native.Mathlib.Omega.{arith}
use Rattle.wire.proofs.Ranges.{passed_next}
use Rattle.wire.proofs.span.eights.Goals as goal

pub loop-e-preserved : goal.loop-e-preserved
loop-e-preserved g c =
    let P : ℕ → Type 0 = λ w. g.F.Fn.post c.args.passes (w, tt {0}) true in
    passed_next P c.args.i c.loop-e.e c.args.s.now c.loop-e.invariant (omega arith) (subst P c.word_at.ensures c.if-not-passes.ensures)
