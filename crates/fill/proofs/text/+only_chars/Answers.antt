-- The walk that tells whether a run says only CHARs; the bytes left fall at each call. The loop's invariant: up to there it does.
-- Assumes nothing.
use Rattle.std.proofs.Common.{ℕ, arith}
use Rattle.fill.proofs.StringLaws.{char_is, char_not, gap_is, gap_not, repeat_is, repeat_not, chars_start, chars_end, chars_not, chars_bytes, chars_gaps, no_chars, repeat_stop, repeat_none}
use Rattle.fill.proofs.StringLaws.{PatternAt, pattern_shorter, gone_turn, more_turn, stop_turn}
use Rattle.fill.proofs.text.+only_chars.Goals as goal
use Rattle.fill.proofs.text.+only_chars.Goals.{In-Open, else-copies_of-gt0-via-then-copies_of-gt0+else-not-only_chars, else-copies_of-gt0-via-else-copies_of-gt0}

pub loop-i-init : goal.loop-i-init
loop-i-init t c = chars_start _ _

pub loop-i-preserved-in-Char7 : goal.loop-i-preserved-in-Char7
loop-i-preserved-in-Char7 t c = chars_bytes _ _ _ _ (char_is c.in-Char7.ensures) c.chars_end-i.ensures c.loop-i.invariant

pub loop-i-preserved-in-Padding : goal.loop-i-preserved-in-Padding
loop-i-preserved-in-Padding t c =
    let b = c.type_inv.s c.loop-i.i in
    chars_gaps _ _ _ _ (gap_is (omega arith) c.in-Padding.ensures) c.padding_end-i.ensures c.loop-i.invariant

-- a repeat, by its head, and its pattern as the code lends it on
pattern_at : (t : ℕ) (c : In-Open t) → PatternAt c.args.depth c.args.s.now c.loop-i.i c.in-Open.w c.in-Open.inner
pattern_at t c = record { here = c.loop-i-test.true; head = rw c.in-Open.is at c.in-Ok.ensures }

pub loop-i-preserved : goal.loop-i-preserved
loop-i-preserved t c =
    let p = pattern_at t (goal.at.loop-i-preserved t c).In-Open in
    let r = repeat_is c.in-Repeat.ensures in
    let n = c.copies_of.ensures in
    elim c.else-copies_of-gt0.branch [
      | else-copies_of-gt0-via-then-copies_of-gt0+else-not-only_chars w ↦ more_turn p c.end.ensures c.loop-i.invariant r (rw w.contents.ensures at w.only_chars.ensures) (omega arith) w.if-not-only_chars.false
      | else-copies_of-gt0-via-else-copies_of-gt0 w ↦ gone_turn p c.end.ensures c.loop-i.invariant r (omega arith)
    ]

pub only_chars-requires : goal.only_chars-requires
only_chars-requires t c =
    let q = pattern_shorter (pattern_at t (goal.at.only_chars-requires t c).In-Open) in
    let m = c.decreases in
    rw c.contents.ensures (omega arith, omega (arith, c.requires))

pub returns-then-not-only_chars : goal.returns-then-not-only_chars
returns-then-not-only_chars t c =
    let p = pattern_at t (goal.at.returns-then-not-only_chars t c).In-Open in
    let q = rw (c.contents.ensures, c.if-not-only_chars.true) at c.only_chars.ensures in
    stop_turn p c.loop-i.invariant (repeat_is c.in-Repeat.ensures) q (omega (arith, c.copies_of.ensures))

pub returns-in_default-head_of : goal.returns-in_default-head_of
returns-in_default-head_of t c =
    let r = repeat_is c.in-Repeat.ensures in
    chars_not c.loop-i.invariant c.loop-i-test.true (λ ys u f. repeat_stop _ _ _ r ys u f _ c.in_default-head_of.ensures)

pub returns-in_default-h : goal.returns-in_default-h
returns-in_default-h t c =
    let r = repeat_is c.in-Repeat.ensures in
    chars_not c.loop-i.invariant c.loop-i-test.true (λ ys u f. repeat_none _ _ _ r ys u f _ c.in_default-h.not-Open c.in-Ok.ensures)

pub returns-in_default : goal.returns-in_default
returns-in_default t c =
    let i = c.loop-i.i in
    let b = c.type_inv.s i in
    let e = c.class_of.ensures in
    let n = c.in_default in
    chars_not c.loop-i.invariant c.loop-i-test.true (no_chars _ _ _ (char_not e n.not-Char7) (repeat_not e n.not-Repeat) (gap_not e (omega arith) n.not-Padding))

pub returns : goal.returns
returns t c = chars_end _ _ _ c.loop-i-test.false c.loop-i.invariant
