-- `bits::sbits_of` meets its contract. Assumes nothing.
use native.Mathlib.Omega.{arith}
use mathlib.Core.Path.{sym, ◌∙◌}
use Prim.Native.Nat.{◌<◌}
use lib.ListN.{get_or}
use Rattle.format.proofs.Digits.{bytes_of}
use Rattle.format.proofs.OnesLaws.{zeros_ones}
use Rattle.format.specs.declared.Class.TheVariants as C
use Rattle.wire.proofs.ClassCases.{of_class}
use Rattle.wire.proofs.Sbits.{zeros_few}
use Rattle.wire.proofs.MarkedLaws.{bits_at}
use Rattle.wire.proofs.bits.sbits_of.Goals as goal

pub overflow_sub-result-2 : goal.overflow_sub-result-2
overflow_sub-result-2 c =
    let b = get_or c.args.s.now 0 0 in
    let l : b < 256 = omega (arith, c.type_inv.s 0) in
    omega (arith, c.ones_of-zeros.ensures, zeros_ones b l, zeros_few b l c.if-first-eq0.false)

pub returns : goal.returns
returns c =
    let s = c.args.s.now in
    let k = of_class c.args.b C.Sbitstr (sym (c.is.ensures.0 c.if-not-is.false)) in
    let l : get_or s 0 0 < 256 = omega (arith, c.type_inv.s 0) in
    let f = c.following_of-k.ensures.0 in
    let e = c.ones_of-zeros.ensures ∙ zeros_ones (get_or s 0 0) l in
    let m = bytes_of s (λ i. omega (arith, c.type_inv.s i)) in
    bits_at c.args.b _ s m (omega arith) (omega arith) (omega arith) c.if-first-eq0.false (omega arith)
