-- `head::lbitstr` meets its contract. Assumes nothing.
use Rattle.std.proofs.lemmas.Result.{err_from_is_err_and}
use Rattle.std.specs.Prelude.{Ok, Err}
use mathlib.Core.Path.{refl, sym, ap, subst, ◌∙◌}
use native.Mathlib.Omega.{arith}
use Prim.Native.Nat.{◌≤◌}
use lib.ListN.{length}
use Rattle.format.proofs.Sizes.{contents_length}
use Rattle.format.specs.declared.fault.Refusal.TheVariants.{BadBits}
use Rattle.format.specs.Objects.{contents}
use Rattle.wire.specs.Heads.{CountedIs}
use Rattle.wire.proofs.HeadLaws.{lbitstr_stop, lbitstr_wrong, lbitstr_bad, lbitstr_right, count_within, bytes_told}
use Rattle.wire.proofs.head.lbitstr.Goals as goal
use Rattle.wire.proofs.head.lbitstr.Goals.{In_ok-n}

-- the length that stands at the front of the contents
counted : (c : In_ok-n) → CountedIs BadBits c.in_ok-e.e.start (contents c.args.s.now c.in_ok-e.e.start c.in_ok-e.e.size) (Ok c.in_ok-n.n)
counted c = subst (λ l. CountedIs BadBits c.in_ok-e.e.start l (Ok c.in_ok-n.n)) c.contents.ensures c.in_ok-n.ensures

within : (c : In_ok-n) → c.in_ok-n.n.bytes ≤ c.in_ok-e.e.size
within c = count_within BadBits c.args.s.now c.in_ok-e.e c.in_ok-n.n c.in_ok-e.ensures.1 (counted c)

pub returns-in_err-e : goal.returns-in_err-e
returns-in_err-e c = let p = err_from_is_err_and c.from_residual.result c.from_residual.ensures.1 in rw (p.1, p.2) (lbitstr_stop _ _ _ c.in_err-e.ensures)

pub returns-in_err-n : goal.returns-in_err-n
returns-in_err-n c =
    let p = err_from_is_err_and c.from_residual-in_err-n.result c.from_residual-in_err-n.ensures.1 in
    let y = subst (λ l. CountedIs BadBits c.in_ok-e.e.start l (Err c.in_err-n.field-0.0)) c.contents.ensures c.in_err-n.ensures in
    rw (p.1, p.2) (lbitstr_wrong _ _ c.in_ok-e.e c.in_ok-e.ensures _ y)

pub count_of-requires : goal.count_of-requires
count_of-requires c =
    let l = contents_length c.args.s.now c.in_ok-e.e.start c.in_ok-e.e.size c.in_ok-e.ensures.1 in
    omega (arith, c.in_ok-e.ensures.1, l, ap length c.contents.ensures)

pub overflow_sub-e : goal.overflow_sub-e
overflow_sub-e c = within (goal.at.overflow_sub-e c).In_ok-n

pub returns-then-e-n : goal.returns-then-e-n
returns-then-e-n c =
    lbitstr_bad _ _ c.in_ok-e.e c.in_ok-e.ensures c.in_ok-n.n (counted (goal.at.returns-then-e-n c).In_ok-n) _ c.here.ensures
    (λ e. c.if-e-n.true (e ∙ sym (bytes_told _ _ c.div_ceil.ensures)))

pub returns : goal.returns
returns c =
    lbitstr_right _ _ c.in_ok-e.e c.in_ok-e.ensures c.in_ok-n.n (counted (goal.at.returns c).In_ok-n) _ _ refl c.end.ensures
    (c.if-e-n.false ∙ bytes_told _ _ c.div_ceil.ensures)
