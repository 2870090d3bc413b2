-- `head::repeat` meets its contract. Assumes nothing.
use Rattle.std.proofs.lemmas.Result.{err_from_is_err_and}
use Rattle.std.specs.Prelude.{Ok, Err}
use mathlib.Core.Path.{refl, sym, ap, subst}
use native.Mathlib.Omega.{arith}
use lib.ListN.{length}
use Rattle.format.specs.declared.Class.TheVariants as C
use Rattle.format.specs.declared.fault.Refusal.TheVariants.{BadRepeat}
use Rattle.format.specs.Objects.{contents, head_by}
use Rattle.format.proofs.Sizes.{contents_length}
use Rattle.wire.specs.Heads.{CountedIs, HeadIs}
use Rattle.wire.proofs.HeadLaws.{stopped, repeat_outer, repeat_stop, repeat_wrong, repeat_open, count_within}
use Rattle.wire.proofs.head.repeat.Goals as goal
use Rattle.wire.proofs.head.repeat.Goals.{In_ok-n}

-- the count that stands at the front of the contents
counted : (c : In_ok-n) → CountedIs BadRepeat c.in_ok-e.e.start (contents c.args.s.now c.in_ok-e.e.start c.in_ok-e.e.size) (Ok c.in_ok-n.n)
counted c = subst (λ l. CountedIs BadRepeat c.in_ok-e.e.start l (Ok c.in_ok-n.n)) c.contents.ensures c.in_ok-n.ensures

pub returns-then-depth-eq0 : goal.returns-then-depth-eq0
returns-then-depth-eq0 c =
    let s = c.args.s.now in
    subst (λ d. HeadIs s (Err c.here.result) (head_by C.Repeat d 0xc4 s)) (sym c.if-depth-eq0.true) (stopped s _ c.here.result _ c.here.ensures (repeat_outer s))

pub returns-in_err-e : goal.returns-in_err-e
returns-in_err-e c =
    let p = err_from_is_err_and c.from_residual.result c.from_residual.ensures.1 in
    rw (p.1, p.2) (repeat_stop _ _ c.if-depth-eq0.false _ c.in_err-e.ensures)

pub count_of-requires : goal.count_of-requires
count_of-requires c =
    let l = contents_length c.args.s.now c.in_ok-e.e.start c.in_ok-e.e.size c.in_ok-e.ensures.1 in
    omega (arith, c.in_ok-e.ensures.1, l, ap length c.contents.ensures)

pub returns-in_err-n : goal.returns-in_err-n
returns-in_err-n c =
    let p = err_from_is_err_and c.from_residual-in_err-n.result c.from_residual-in_err-n.ensures.1 in
    let y = subst (λ l. CountedIs BadRepeat c.in_ok-e.e.start l (Err c.in_err-n.field-0.0)) c.contents.ensures c.in_err-n.ensures in
    rw (p.1, p.2) (repeat_wrong _ _ c.if-depth-eq0.false c.in_ok-e.e c.in_ok-e.ensures _ y)

pub overflow_sub-pattern : goal.overflow_sub-pattern
overflow_sub-pattern c =
    count_within BadRepeat c.args.s.now c.in_ok-e.e c.in_ok-n.n c.in_ok-e.ensures.1 (counted (goal.at.overflow_sub-pattern c).In_ok-n)

pub returns : goal.returns
returns c =
    repeat_open _ _ c.if-depth-eq0.false c.in_ok-e.e c.in_ok-e.ensures c.in_ok-n.n _ (counted (goal.at.returns c).In_ok-n) refl refl
