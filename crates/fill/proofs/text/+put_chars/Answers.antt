-- The walk that writes the codes of a run that says only CHARs; the bytes left fall at each call. The loop's invariant: the codes of
-- the objects passed stand there. Assumes nothing.
use Rattle.std.proofs.Common.{ℕ, ◌+◌, ◌-◌, ◌*◌, ◌≤◌, length, arith}
use Rattle.fill.proofs.StringLaws.{char_is, char_not, gap_is, gap_not, PatternAt, pattern_shorter}
use Rattle.fill.proofs.Spelling.{spelling_start, spelling_end, plain_fits, plain_turn, gap_turn, never_stop, never, none_turn, pattern_room, copies_fit, times_turn}
use Rattle.fill.proofs.text.+put_chars.Goals as goal
use Rattle.fill.proofs.text.+put_chars.Goals.{In-Open, After-put_chars, then-k-gt0, else-k-gt0}

-- a repeat, by its head, and what its copies ask once its pattern is put
pattern_at : (t : ℕ) (c : In-Open t) → PatternAt c.args.depth c.args.s.now c.loop-i.i c.in-Open.w c.in-Open.inner
pattern_at t c = record { here = c.loop-i-test.true; head = rw c.in-Open.is at c.in-Ok.ensures }

copies_at : (t : ℕ) (c : After-put_chars t)
    → let to = c.loop-i.to in
    let e = to + c.copies_of-k.result * (c.put_chars.result - to) in
    (to ≤ c.put_chars.result) × (e ≤ 8 * length c.put_chars.new.table) × (e ≤ 131072)
copies_at t c =
    let p : PatternAt c.args.depth c.args.s.now c.loop-i.i c.in-Open.w c.in-Open.inner = record { here = c.loop-i-test.true; head = rw c.in-Open.is at c.in-Ok.ensures } in
    copies_fit c.loop-i.invariant p c.copies_of-k.ensures (omega arith) c.put_chars.auto.table (rw c.contents.ensures at c.put_chars.ensures)

pub loop-i-init : goal.loop-i-init
loop-i-init t c = spelling_start c.requires.1

pub put_low-requires : goal.put_low-requires
put_low-requires t c = plain_fits c.loop-i.invariant _ (char_is c.in-Char7.ensures) c.chars_end-end.ensures

pub loop-i-preserved-in-Char7 : goal.loop-i-preserved-in-Char7
loop-i-preserved-in-Char7 t c =
    plain_turn c.loop-i.invariant _ (char_is c.in-Char7.ensures) c.chars_end-end.ensures c.put_low.auto.table c.put_low.ensures

pub loop-i-preserved-in-Padding : goal.loop-i-preserved-in-Padding
loop-i-preserved-in-Padding t c =
    let b = c.type_inv.s c.loop-i.i in
    gap_turn c.loop-i.invariant (gap_is (omega arith) c.in-Padding.ensures) c.padding_end-i.ensures

pub put_chars-requires : goal.put_chars-requires
put_chars-requires t c =
    let k = pattern_at t (goal.at.put_chars-requires t c).In-Open in
    let f = pattern_shorter k in
    let p = c.requires in
    let m = c.decreases in
    rw c.contents.ensures (omega arith, (omega arith, pattern_room c.loop-i.invariant k c.copies_of-k.ensures (omega arith)))

pub copy_codes-requires : goal.copy_codes-requires
copy_codes-requires t c = let f = copies_at t (goal.at.copy_codes-requires t c).After-put_chars in (omega arith, f.1, f.2)

pub overflow_mul-to : goal.overflow_mul-to
overflow_mul-to t c = omega (arith, (copies_at t (goal.at.overflow_mul-to t c).After-put_chars).2)

pub overflow_add-to-then-k-gt0 : goal.overflow_add-to-then-k-gt0
overflow_add-to-then-k-gt0 t c = omega (arith, (copies_at t (goal.at.overflow_add-to-then-k-gt0 t c).After-put_chars).2)

pub loop-i-preserved : goal.loop-i-preserved
loop-i-preserved t c =
    let v = c.loop-i.invariant in
    let k = pattern_at t (goal.at.loop-i-preserved t c).In-Open in
    let e = c.copies_of-k.ensures in
    elim c.if-k-gt0.branch [
      | then-k-gt0 w ↦ rw (w.table-is, w.to-is)
          (times_turn v k e (omega arith) w.put_chars.auto.table (rw w.contents.ensures at w.put_chars.ensures) w.copy_codes.auto.table w.copy_codes.ensures c.end.ensures)
      | else-k-gt0 w ↦ rw (w.table-is, w.to-is) (none_turn v k c.end.ensures (omega arith))
    ]

pub unreachable-requires : goal.unreachable-requires
unreachable-requires t c =
    let b = c.type_inv.s c.loop-i.i in
    let e = c.class_of.ensures in
    let n = c.in_default in
    never_stop c.loop-i.invariant c.loop-i-test.true (char_not e n.not-Char7) (gap_not e (omega arith) n.not-Padding) _ c.in_default-head_of.ensures

pub unreachable-requires-in_default-h : goal.unreachable-requires-in_default-h
unreachable-requires-in_default-h t c =
    let b = c.type_inv.s c.loop-i.i in
    let e = c.class_of.ensures in
    let n = c.in_default in
    never c.loop-i.invariant c.loop-i-test.true (char_not e n.not-Char7) (gap_not e (omega arith) n.not-Padding) _ c.in_default-h.not-Open c.in-Ok.ensures

pub returns : goal.returns
returns t c = spelling_end c.loop-i.invariant c.loop-i-test.false
