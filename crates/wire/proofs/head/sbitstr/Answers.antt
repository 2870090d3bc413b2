-- `head::sbitstr` meets its contract. Assumes nothing.
use Rattle.std.proofs.lemmas.Result.{err_from_is_err_and}
use native.Mathlib.Omega.{arith}
use mathlib.Core.Path.{ap, ◌∙◌}
use Prim.Native.Nat.{◌-◌, ◌*◌, ◌<◌}
use lib.ListN.{get_or}
use Rattle.format.proofs.Digits.{bytes_of}
use Rattle.format.proofs.OnesLaws.{zeros_ones}
use Rattle.wire.proofs.Sbits.{zeros_few}
use Rattle.format.specs.Objects.{head_by, sbitstr_head}
use Rattle.wire.proofs.HeadLaws.{stopped, sbitstr_bad, sbitstr_sbits}
use Rattle.wire.proofs.head.sbitstr.Goals as goal

pub returns-in_err-k : goal.returns-in_err-k
unfolding head_by
returns-in_err-k c = let p = err_from_is_err_and c.from_residual.result c.from_residual.ensures.1 in rw (p.1, p.2) (c.in_err-k.ensures sbitstr_head)

pub returns-then-first-eq0 : goal.returns-then-first-eq0
returns-then-first-eq0 c =
    let k = c.in_ok-k in
    stopped c.args.s.now _ c.here.result _ c.here.ensures
    (sbitstr_bad c.args.depth c.args.b k.k c.args.s.now k.ensures.0 (omega arith) c.if-first-eq0.true)

pub overflow_sub-n-2 : goal.overflow_sub-n-2
overflow_sub-n-2 c =
    let b = get_or c.args.s.now 0 0 in
    let l : b < 256 = omega (arith, c.type_inv.s 0) in
    omega (arith, c.ones_of-zeros.ensures, zeros_ones b l, zeros_few b l c.if-first-eq0.false)

pub returns : goal.returns
returns c =
    let s = c.args.s.now in
    let k = c.in_ok-k in
    let l : get_or s 0 0 < 256 = omega (arith, c.type_inv.s 0) in
    sbitstr_sbits c.args.depth c.args.b k.k _ c.number.result c.unmarked.result s
    (bytes_of s (λ i. omega (arith, c.type_inv.s i))) k.ensures.0 (omega arith) c.if-first-eq0.false
    (ap (λ n. 8 * k.k - 1 - n) (c.ones_of-zeros.ensures ∙ zeros_ones (get_or s 0 0) l))
    c.number.ensures.0 c.unmarked.ensures.0 c.unmarked.ensures.1
