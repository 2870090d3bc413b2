-- `scan_object`, `scan_run` and `scan_short` meet their contracts. Assumes nothing.
use Rattle.std.proofs.Common.{rules, ◌≡◌, ◌≢◌, ◌+◌, ◌^◌, ◌<◌, sym, ap, ◌∙◌, arith, Ok, Err}
use Rattle.format.specs.declared.Class.TheVariants as C
use Rattle.format.specs.Refusals.{further}
use Rattle.format.specs.Refused.{meant}
use Rattle.wire.proofs.ClassCases.{of_class}
use Rattle.scan.specs.Sums.{nothing_of}
use Rattle.scan.specs.Answer.{told}
use Rattle.scan.specs.Shorts.{as_object}
use Rattle.scan.proofs.Moved.{mapped_ok, mapped_err}
use Rattle.scan.proofs.Turns.{inv_start, inv_end, leap_turn, bad_turn, got_turn}
use Rattle.scan.proofs.ShortCases.{no_string, string_is, chars_refused, chars_accepted, elements_are, short_place, short_refused, bad_short, got_short}
use Rattle.scan.proofs.ObjectCases.{stop_is, gap_is, row_is, bits_are, sbits_is, lbits_few, lbits_is, text_is, open_fits, open_size, open_place, open_refused, open_accepted}
use Rattle.scan.proofs.+scan_object_scan_run_scan_short.Goals as goal

-- ---- those of scan_object, by the head of the object
pub scan_object-returns-in-Some : goal.scan_object-returns-in-Some
scan_object-returns-in-Some t c = bits_are _ _ _ _ c.in-Some.ensures _ c.bits.ensures _ c.following_of.ensures.0

pub scan_object-returns-in_err-head_of : goal.scan_object-returns-in_err-head_of
scan_object-returns-in_err-head_of t c =
    let r : c.from_residual.result ≡ Err c.in_err-head_of.field-0.0 = search rules in
    ap told r ∙ stop_is _ _ _ _ c.in_err-head_of.ensures

pub scan_object-returns-in-Gap : goal.scan_object-returns-in-Gap
scan_object-returns-in-Gap t c =
    let e : c.default.result ≡ nothing_of = search rules in
    gap_is _ _ _ _ (rw c.in-Gap.is at c.in_ok-head_of.ensures) e

pub scan_object-returns-in-Row : goal.scan_object-returns-in-Row
scan_object-returns-in-Row t c = row_is _ _ _ _ _ _ _ (rw c.in-Row.is at c.in_ok-head_of.ensures) c.one.ensures

pub scan_object-returns-in-Sbits : goal.scan_object-returns-in-Sbits
scan_object-returns-in-Sbits t c = sbits_is _ _ _ _ _ _ _ (rw c.in-Sbits.is at c.in_ok-head_of.ensures) c.bits-in-Sbits.ensures

pub scan_object-bits-requires-in-Lbits : goal.scan_object-bits-requires-in-Lbits
scan_object-bits-requires-in-Lbits t c =
    let f = lbits_few _ _ _ _ _ _ (rw c.in-Lbits.is at c.in_ok-head_of.ensures) in
    omega (arith, c.requires.0)

pub scan_object-returns-in-Lbits : goal.scan_object-returns-in-Lbits
scan_object-returns-in-Lbits t c = lbits_is _ _ _ _ _ _ _ c.requires.0 (rw c.in-Lbits.is at c.in_ok-head_of.ensures) c.bits-in-Lbits.ensures

pub scan_object-returns-in-Text : goal.scan_object-returns-in-Text
scan_object-returns-in-Text t c = text_is _ _ _ _ _ _ c.requires.0 (rw c.in-Text.is at c.in_ok-head_of.ensures) c.text.ensures c.end.ensures

pub scan_object-scan_run-requires : goal.scan_object-scan_run-requires
scan_object-scan_run-requires t c =
    let x = rw c.in-Open.is at c.in_ok-head_of.ensures in
    let f = open_fits _ _ _ _ _ x in
    let n = open_size _ _ _ _ _ x _ c.contents-c.ensures in
    (omega arith, (omega (arith, c.requires.0), omega arith))

-- the place of a fault in the contents lies within them
pub scan_object-map_err-requires : goal.scan_object-map_err-requires
scan_object-map_err-requires t c =
    λ e q.
    let x = rw c.in-Open.is at c.in_ok-head_of.ensures in
    let f = open_fits _ _ _ _ _ x in
    let p = open_place _ _ _ _ _ x _ c.contents-c.ensures (meant e) (sym (ap told q) ∙ c.scan_run.ensures) in
    let l : 1 + c.in-Open.e.start + e.place < 2 ^ 64 = omega (arith, c.requires.0) in
    search rules

pub scan_object-returns-in_err-sum-in-Open : goal.scan_object-returns-in_err-sum-in-Open
scan_object-returns-in_err-sum-in-Open t c =
    let r : c.from_residual-in_err-sum-in-Open.result ≡ Err c.in_err-sum-in-Open.field-0.0 = search rules in
    let g = mapped_err c.scan_run.result c.map_err.result _ c.map_err.ensures.cases c.in_err-sum-in-Open.field-0.0 c.in_err-sum-in-Open.was in
    let e : meant c.in_err-sum-in-Open.field-0.0 ≡ further (1 + c.in-Open.e.start) (meant g.0) = search rules in
    ap told r ∙ ap Err e
    ∙ open_refused _ _ _ _ _ (rw c.in-Open.is at c.in_ok-head_of.ensures) _ c.contents-c.ensures (meant g.0) (sym (ap told g.1) ∙ c.scan_run.ensures)

pub scan_object-returns-in_err-closed-in-Open : goal.scan_object-returns-in_err-closed-in-Open
scan_object-returns-in_err-closed-in-Open t c =
    let o = mapped_ok c.scan_run.result c.map_err.result _ c.map_err.ensures.cases _ c.in_ok-sum-in-Open.was in
    let r : c.from_residual-in_err-closed-in-Open.result ≡ Err c.in_err-closed-in-Open.field-0.0 = search rules in
    ap told r ∙ sym (ap (λ x. as_object (c.in-Open.e.start + c.in-Open.e.size) (told x)) c.in_err-closed-in-Open.was)
    ∙ ap (as_object (c.in-Open.e.start + c.in-Open.e.size)) c.closed.ensures
    ∙ open_accepted _ _ _ _ _ (rw c.in-Open.is at c.in_ok-head_of.ensures) _ c.contents-c.ensures c.in_ok-sum-in-Open.sum (sym (ap told o) ∙ c.scan_run.ensures)

pub scan_object-returns-in_ok-closed-in-Open : goal.scan_object-returns-in_ok-closed-in-Open
scan_object-returns-in_ok-closed-in-Open t c =
    let o = mapped_ok c.scan_run.result c.map_err.result _ c.map_err.ensures.cases _ c.in_ok-sum-in-Open.was in
    ap (λ u. Ok (c.in_ok-closed-in-Open.field-0, u)) c.end-in-Open.ensures
    ∙ sym (ap (λ x. as_object (c.in-Open.e.start + c.in-Open.e.size) (told x)) c.in_ok-closed-in-Open.was)
    ∙ ap (as_object (c.in-Open.e.start + c.in-Open.e.size)) c.closed.ensures
    ∙ open_accepted _ _ _ _ _ (rw c.in-Open.is at c.in_ok-head_of.ensures) _ c.contents-c.ensures c.in_ok-sum-in-Open.sum (sym (ap told o) ∙ c.scan_run.ensures)

-- ---- those of scan_run, a turn of its loop, by what stands there
pub scan_run-loop-i-init : goal.scan_run-loop-i-init
scan_run-loop-i-init t c = inv_start _ _ _ (search rules)

-- the place at which a short one is refused lies within the bytes, and is the run's
pub scan_run-map_err-requires : goal.scan_run-map_err-requires
scan_run-map_err-requires t c =
    λ e q.
    let p = bad_short _ _ _ _ c.loop-i-test.true c.in-Some.ensures _ c.loop-i.invariant (meant e) (rw q at c.scan_short.ensures) in
    let l : c.loop-i.i + e.place < 2 ^ 64 = omega (arith, c.requires.0) in
    search rules

pub scan_run-returns-in_err-one : goal.scan_run-returns-in_err-one
scan_run-returns-in_err-one t c =
    let r : c.from_residual.result ≡ Err c.in_err-one.field-0.0 = search rules in
    let g = mapped_err c.scan_short.result c.map_err.result _ c.map_err.ensures.cases c.in_err-one.field-0.0 c.in_err-one.was in
    let e : meant c.in_err-one.field-0.0 ≡ further c.loop-i.i (meant g.0) = search rules in
    ap told r ∙ ap Err e
    ∙ (bad_short _ _ _ _ c.loop-i-test.true c.in-Some.ensures _ c.loop-i.invariant (meant g.0) (rw g.1 at c.scan_short.ensures)).1

pub scan_run-loop-i-preserved-in-Some : goal.scan_run-loop-i-preserved-in-Some
scan_run-loop-i-preserved-in-Some t c =
    let o = mapped_ok c.scan_short.result c.map_err.result _ c.map_err.ensures.cases _ c.in_ok-one.was in
    got_short _ _ _ _ c.loop-i-test.true c.in-Some.ensures _ c.loop-i.invariant _ (rw o at c.scan_short.ensures) _ c.add-sum.ensures

pub scan_run-loop-i-preserved-in-Some-leap_from : goal.scan_run-loop-i-preserved-in-Some-leap_from
scan_run-loop-i-preserved-in-Some-leap_from t c = leap_turn _ _ _ _ c.loop-i.invariant _ c.in-Some-leap_from.ensures.1 _ c.add-sum-in-Some-leap_from.ensures

-- the place of a refused object lies within the bytes, and is the run's
pub scan_run-map_err-requires-in-loop-i : goal.scan_run-map_err-requires-in-loop-i
scan_run-map_err-requires-in-loop-i t c =
    λ e q.
    let p = bad_turn _ _ _ _ c.loop-i.invariant c.loop-i-test.true (meant e) (sym (ap told q) ∙ c.scan_object.ensures) in
    let l : c.loop-i.i + e.place < 2 ^ 64 = omega (arith, c.requires.0) in
    search rules

pub scan_run-returns-in_err-one-2 : goal.scan_run-returns-in_err-one-2
scan_run-returns-in_err-one-2 t c =
    let r : c.from_residual-in_err-one-2.result ≡ Err c.in_err-one-2.field-0.0 = search rules in
    let g = mapped_err c.scan_object.result c.map_err-in-loop-i.result _ c.map_err-in-loop-i.ensures.cases c.in_err-one-2.field-0.0 c.in_err-one-2.was in
    let e : meant c.in_err-one-2.field-0.0 ≡ further c.loop-i.i (meant g.0) = search rules in
    ap told r ∙ ap Err e ∙ (bad_turn _ _ _ _ c.loop-i.invariant c.loop-i-test.true (meant g.0) (sym (ap told g.1) ∙ c.scan_object.ensures)).1

pub scan_run-overflow_add-i-in-loop-i : goal.scan_run-overflow_add-i-in-loop-i
scan_run-overflow_add-i-in-loop-i t c =
    let o = mapped_ok c.scan_object.result c.map_err-in-loop-i.result _ c.map_err-in-loop-i.ensures.cases _ c.in_ok-one-2.was in
    let v = got_turn _ _ _ _ c.loop-i.invariant c.loop-i-test.true _ _ (sym (ap told o) ∙ c.scan_object.ensures) _ c.add-sum-in-loop-i.ensures in
    omega (arith, v.upto.within, c.requires.0)

pub scan_run-loop-i-preserved : goal.scan_run-loop-i-preserved
scan_run-loop-i-preserved t c =
    let o = mapped_ok c.scan_object.result c.map_err-in-loop-i.result _ c.map_err-in-loop-i.ensures.cases _ c.in_ok-one-2.was in
    got_turn _ _ _ _ c.loop-i.invariant c.loop-i-test.true _ _ (sym (ap told o) ∙ c.scan_object.ensures) _ c.add-sum-in-loop-i.ensures

pub scan_run-returns : goal.scan_run-returns
scan_run-returns t c = inv_end _ _ _ _ c.loop-i.invariant c.loop-i-test.false

-- ---- those of scan_short: a string, CHARs alone, or elements
pub scan_short-returns-then-is : goal.scan_short-returns-then-is
scan_short-returns-then-is t c = string_is _ _ _ (of_class _ C.String (sym (c.is.ensures.0 c.if-is.true))) c.requires.1 _ c.text.ensures

pub scan_short-returns-in_err-closed : goal.scan_short-returns-in_err-closed
scan_short-returns-in_err-closed t c =
    let other : c.args.b ≢ 0xc6 = no_string _ _ c.is.ensures.1 c.if-is.false in
    let m = c.all_chars.ensures c.if-all_chars.true in
    let r : c.from_residual.result ≡ Err c.in_err-closed.field-0.0 = search rules in
    rw r
    (chars_refused c.args.depth _ _ other c.requires.0 c.requires.1 m (told c.closed.result)
    (rw (c.wrap_by.ensures, c.one.ensures) at c.closed.ensures) (meant c.in_err-closed.field-0.0) (ap told c.in_err-closed.was))

pub scan_short-returns-then-all_chars : goal.scan_short-returns-then-all_chars
scan_short-returns-then-all_chars t c =
    let other : c.args.b ≢ 0xc6 = no_string _ _ c.is.ensures.1 c.if-is.false in
    let m = c.all_chars.ensures c.if-all_chars.true in
    chars_accepted _ _ _ other c.requires.0 c.requires.1 m (told c.closed.result)
    (rw (c.wrap_by.ensures, c.one.ensures) at c.closed.ensures) _ _ (ap told c.in_ok-closed.was) c.text-then-all_chars.ensures

pub scan_short-map_err-requires : goal.scan_short-map_err-requires
scan_short-map_err-requires t c =
    λ e q.
    let other : c.args.b ≢ 0xc6 = no_string _ _ c.is.ensures.1 c.if-is.false in
    let p = short_place _ _ _ other (meant e) (sym (ap told q) ∙ c.scan_run.ensures) in
    let l : 2 + e.place < 2 ^ 64 = omega (arith, c.requires.1) in
    search rules

pub scan_short-returns-in_err-sum : goal.scan_short-returns-in_err-sum
scan_short-returns-in_err-sum t c =
    let other : c.args.b ≢ 0xc6 = no_string _ _ c.is.ensures.1 c.if-is.false in
    let r : c.from_residual-in_err-sum.result ≡ Err c.in_err-sum.field-0.0 = search rules in
    let g = mapped_err c.scan_run.result c.map_err.result _ c.map_err.ensures.cases c.in_err-sum.field-0.0 c.in_err-sum.was in
    let e : meant c.in_err-sum.field-0.0 ≡ further 2 (meant g.0) = search rules in
    rw (r, e) (short_refused _ _ _ other (meant g.0) (sym (ap told g.1) ∙ c.scan_run.ensures))

pub scan_short-returns : goal.scan_short-returns
scan_short-returns t c =
    let other : c.args.b ≢ 0xc6 = no_string _ _ c.is.ensures.1 c.if-is.false in
    let o = mapped_ok c.scan_run.result c.map_err.result _ c.map_err.ensures.cases _ c.in_ok-sum.was in
    rw (c.closed-2.ensures, c.wrap_by-2.ensures) (elements_are _ _ _ other _ (sym (ap told o) ∙ c.scan_run.ensures))
