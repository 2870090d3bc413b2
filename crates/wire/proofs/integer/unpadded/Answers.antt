-- `integer::unpadded` meets its contract. Assumes nothing.
use native.Mathlib.Omega.{arith}
use Rattle.wire.proofs.Leadings.{skip_ranged, skip_one}
use Rattle.wire.proofs.integer.unpadded.Goals as goal

pub loop-i-init : goal.loop-i-init
loop-i-init c = skip_ranged c.args.s.now c.padded_eights-i.result c.padded_eights-i.ensures

pub loop-i-preserved : goal.loop-i-preserved
loop-i-preserved c = skip_one c.args.s.now c.loop-i.i (omega arith) c.if-s-i.false c.loop-i.invariant
