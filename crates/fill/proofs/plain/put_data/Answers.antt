-- Each head writes the data words that its item has. Assumes nothing.
use Rattle.std.proofs.Common.{◌≡◌, ◌+◌, ◌≤◌, [], ◌∷◌, length, sym, ap, ◌∙◌, arith, length-drop, length-take}
use Rattle.wire.specs.declared.head.Head.TheVariants.{Sbits}
use Rattle.format.specs.Bits.{bytes_for, words_for}
use Rattle.format.specs.Answers.{over}
use Rattle.format.proofs.BitLaws.{packed_length}
use Rattle.fill.specs.Plain.{Apt, plain_words}
use Rattle.format.proofs.Over.{over_none, at_front, set_at}
use Rattle.fill.proofs.PlainLaws.{sbits_none, sbits_one, lbits_words, no_words}
use Rattle.fill.proofs.plain.put_data.Goals as goal
use Rattle.fill.proofs.plain.put_data.Goals.{In-Lbits, Then-n-gt0}

-- a bit string in one word, and one in many
sbits_at : (c : Then-n-gt0)
    → plain_words c.args.s.now (Sbits c.in-Sbits.n c.in-Sbits.w c.in-Sbits.field-2) ≡ c.in-Sbits.w ∷ []
unfolding Apt
sbits_at c =
    sbits_one c.args.s.now _ _ _ c.if-n-gt0.true (rw c.in-Sbits.is at c.requires.1)

lbits_at : (c : In-Lbits)
    → (c.in-Lbits.a + bytes_for c.in-Lbits.n ≡ c.in-Lbits.u) × (c.in-Lbits.u ≤ length c.args.s.now)
unfolding Apt
lbits_at c = rw c.in-Lbits.is at c.requires.1

pub bounds-table-0 : goal.bounds-table-0
bounds-table-0 c =
    let r = rw c.in-Sbits.is at c.requires.2 in
    omega (arith, ap length (sbits_at (goal.at.bounds-table-0 c).Then-n-gt0))

pub put_bits-requires : goal.put_bits-requires
unfolding plain_words words_for bytes_for
put_bits-requires c =
    let a = lbits_at (goal.at.put_bits-requires c).In-Lbits in
    let r = rw c.in-Lbits.is at c.requires.2 in
    (simp (length-take, length-drop) (omega arith), omega arith, rw packed_length at r)

pub returns-then-n-gt0 : goal.returns-then-n-gt0
returns-then-n-gt0 c =
    let t = c.args.table.now in
    let r = rw c.in-Sbits.is at c.requires.2 in
    let q = sbits_at (goal.at.returns-then-n-gt0 c).Then-n-gt0 in
    rw c.in-Sbits.is (set_at 0 _ t (omega (arith, ap length q)) ∙ at_front _ t ∙ sym (ap (λ l. over l t) q))

pub returns-else-n-gt0 : goal.returns-else-n-gt0
returns-else-n-gt0 c =
    let t = c.args.table.now in
    rw c.in-Sbits.is (sym (ap (λ l. over l t) (sbits_none c.args.s.now c.in-Sbits.n c.in-Sbits.w c.in-Sbits.field-2 (omega arith)) ∙ over_none t))

pub returns-in-Lbits : goal.returns-in-Lbits
unfolding words_for
returns-in-Lbits c =
    rw c.in-Lbits.is
    (c.put_bits.ensures ∙ lbits_words c.args.s.now _ _ _ c.args.table.now (lbits_at (goal.at.returns-in-Lbits c).In-Lbits).0)

pub returns-in_default : goal.returns-in_default
returns-in_default c =
    let t = c.args.table.now in
    sym (ap (λ l. over l t) (no_words c.args.s.now c.args.h c.in_default.not-Sbits c.in_default.not-Lbits) ∙ over_none t)

pub slice_bounds-put_bits-count : goal.slice_bounds-put_bits-count
slice_bounds-put_bits-count c = omega (arith, (lbits_at (goal.at.slice_bounds-put_bits-count c).In-Lbits).0)

pub slice_bounds-put_bits-start : goal.slice_bounds-put_bits-start
slice_bounds-put_bits-start c = omega (arith, (lbits_at (goal.at.slice_bounds-put_bits-start c).In-Lbits).0)

pub slice_bounds-put_bits-end : goal.slice_bounds-put_bits-end
slice_bounds-put_bits-end c = omega (arith, (lbits_at (goal.at.slice_bounds-put_bits-end c).In-Lbits).1)
