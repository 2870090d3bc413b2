-- The loop's invariant: the words so far stand over the front of the table. Assumes nothing.
use Rattle.std.proofs.Common.{◌≡◌, ◌+◌, ◌/◌, take, refl, ap, ◌∙◌, arith, length-drop, length-set, length-take}
use Rattle.fill.proofs.BitWords.{whole_turn, last_turn}
use Rattle.format.specs.Bits.{spread, packed, bytes_for, words_for}
use Rattle.format.specs.Answers.{over}
use Rattle.fill.proofs.bits.put_bits.Goals as goal

pub loop-j-init : goal.loop-j-init
unfolding over packed
loop-j-init c = (refl, refl)

pub bounds-table-j : goal.bounds-table-j
unfolding words_for
bounds-table-j c = omega arith

pub word_at-requires : goal.word_at-requires
unfolding bytes_for
word_at-requires c = omega arith

pub loop-j-preserved : goal.loop-j-preserved
unfolding bytes_for words_for
loop-j-preserved c =
    let s = c.args.c.now in (
      simp length-set c.loop-j.invariant.0,
      whole_turn s c.args.n c.args.table.now c.loop-j.table c.loop-j.j _ (omega arith) c.loop-j.invariant.1 (λ i. omega (arith, c.type_inv.c i)) (omega arith) (omega arith)
          c.word_at.ensures,
    )

pub slice_bounds-word_of-count : goal.slice_bounds-word_of-count
slice_bounds-word_of-count c = unfold bytes_for words_for in omega arith

pub slice_bounds-word_of-start : goal.slice_bounds-word_of-start
slice_bounds-word_of-start c = unfold bytes_for words_for in omega arith

pub word_of-requires : goal.word_of-requires
unfolding bytes_for words_for
word_of-requires c = (omega arith, omega arith, simp (length-take, length-drop) (omega arith))

pub bounds-table-whole : goal.bounds-table-whole
unfolding words_for
bounds-table-whole c = omega arith

pub returns-then-left-gt0 : goal.returns-then-left-gt0
unfolding words_for
returns-then-left-gt0 c =
    let e : c.args.n / 64 + 1 ≡ words_for c.args.n = omega arith in
    last_turn c.args.c.now c.args.n c.args.table.now c.loop-j.table c.loop-j.j _ (omega arith) c.loop-j.invariant.1 (omega arith) c.word_of.ensures
    ∙ ap (λ j. over (packed 64 j (take c.args.n (spread 8 c.args.c.now))) c.args.table.now) e

pub returns-else-left-gt0 : goal.returns-else-left-gt0
unfolding words_for
returns-else-left-gt0 c =
    let e : c.loop-j.j ≡ words_for c.args.n = omega arith in
    c.loop-j.invariant.1 ∙ ap (λ j. over (packed 64 j (take c.args.n (spread 8 c.args.c.now))) c.args.table.now) e
