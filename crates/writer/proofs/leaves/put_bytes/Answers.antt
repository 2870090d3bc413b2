-- `writer::leaves::put_bytes` meets its contract: the words before `i` stand, and the rest of the bytes belongs behind them. Assumes nothing.
use Prim.Native.Nat.{◌+◌, ◌/◌, ◌<◌}
use mathlib.Core.Path.{◌≡◌, refl}
use native.Mathlib.Omega.{arith}
use Rattle.writer.proofs.WordLaws.{Laying, laying_starts, laying_one, laying_on, laying_last, laying_ends, whole_length, whole_word}
use Rattle.writer.proofs.leaves.put_bytes.Goals as goal
use Rattle.writer.proofs.leaves.put_bytes.Goals.{Joined-whole-eq1, then-whole-eq1, else-whole-eq1+else-loop-i-test}

pub loop-i-init : goal.loop-i-init
loop-i-init c = laying_starts _ _ _ _

pub loop-i-preserved : goal.loop-i-preserved
loop-i-preserved c =
    let x = c.args in
    let k : (x.count + 7) / 8 / 8 ≡ (x.count + 7) / 8 / 8 = omega arith in
    let i : c.loop-i.i < (x.count + 7) / 8 / 8 = omega (arith, whole_length x.count _ c.words-words.result.now c.words-words.ensures.len k) in
    laying_on _ _ _ _ c.requires.0 c.requires.1 c.loop-i.out c.loop-i.i c.loop-i.invariant c.put_word-in-loop-i.new.out (omega arith) c.put_word-in-loop-i.auto.out
    (rw (whole_word x.table.words.now x.first x.count _ c.loop-i.i _ c.words-words.ensures.len c.words-words.ensures.each k i) at c.put_word-in-loop-i.ensures)

-- the whole words are laid
laid : (c : Joined-whole-eq1) → let x = c.args in Laying x.table.words.now x.first x.count x.out.now c.if-whole-eq1.out ((x.count + 7) / 8 / 8)
laid c =
    let x = c.args in
    elim c.if-whole-eq1.branch [
      | then-whole-eq1 w ↦
          let k : (x.count + 7) / 8 / 8 ≡ 1 = w.if-whole-eq1.true in
          rw (w.out-is, k)
          (laying_one _ _ _ _ c.requires.0 c.requires.1 w.put_word.new.out (omega arith) (rw (c.words-words.ensures.each 0 (omega (arith, c.words-words.ensures.len))) at w.put_word.ensures))
      | else-whole-eq1+else-loop-i-test w ↦
          let i : w.loop-i.i ≡ (x.count + 7) / 8 / 8 = omega (arith, whole_length x.count _ c.words-words.result.now c.words-words.ensures.len refl) in
          rw (w.out-is, ← i) w.loop-i.invariant
    ]

pub returns-then-rest-gt0 : goal.returns-then-rest-gt0
returns-then-rest-gt0 c =
    let x = c.args in
    laying_last _ _ _ _ c.requires.0 c.requires.1 c.if-whole-eq1.out _ (laid (goal.at.returns-then-rest-gt0 c).Joined-whole-eq1) _ c.put_low.new.out (omega arith) (omega arith) (omega arith)
    (rw (c.words-words.ensures.each ((x.count + 7) / 8 / 8) (omega (arith, c.words-words.ensures.len))) at c.put_low.ensures)

pub returns-else-rest-gt0 : goal.returns-else-rest-gt0
returns-else-rest-gt0 c =
    laying_ends _ _ _ _ c.requires.0 c.requires.1 c.if-whole-eq1.out _ (laid (goal.at.returns-else-rest-gt0 c).Joined-whole-eq1) (omega arith)
