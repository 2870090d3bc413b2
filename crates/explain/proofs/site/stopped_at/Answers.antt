-- `stopped_at` meets its contract, refusal by refusal. Assumes nothing.
use native.Mathlib.Omega.{arith}
use Prim.Native.Nat.{◌≤◌}
use mathlib.Core.Path.{◌≡◌, ap, ◌∙◌}
use mathlib.Core.Logic.{inl, inr}
use lib.ListN.{get_or}
use Rattle.format.specs.Refused.{number_of, meant}
use Rattle.explain.specs.declared.evidence.Evidence.TheVariants.{Byte}
use Rattle.explain.specs.Reasons.{head_at}
use Rattle.explain.specs.Told.{SizeIn, behind_of}
use Rattle.explain.proofs.SizedHeads.{OfCount, count_sized}
use Rattle.explain.proofs.Stops.{not_own, end_passed, type_byte, containers, bit_length, no_marker, outermost, repeat_count, repeat_number, head_number, lbitstr_byte, no_lbitstr}
use Rattle.explain.proofs.site.stopped_at.Goals as goal
use Rattle.explain.proofs.site.stopped_at.Goals.{Start, In_default}

-- the contents lie within the bytes, where the refusal is a length's or a count's
sized : (s : Start) → OfCount s.args.object.depth (get_or s.args.object.message.now s.args.object.from 0) (meant s.args.f) → SizeIn (behind_of s.args.object)
unfolding head_at
sized s o = count_sized s.args.object.depth _ _ (meant s.args.f) s.requires.1 o

-- the last refusal is a REPEAT's
late : (c : In_default) → 7 ≤ number_of c.args.f.refusal
late c =
    repeat_number c.args.f.refusal (head_number c.args.object.message.now c.args.object.depth c.args.object.from c.args.object.end (meant c.args.f) c.requires.1)
    c.in_default.not-PastInput c.in_default.not-PastEnclosing c.in_default.not-Unassigned c.in_default.not-TooDeep c.in_default.not-BadBits

pub counting_at-requires : goal.counting_at-requires
counting_at-requires c = (c.requires.0, sized (goal.at.counting_at-requires c).Start (inl c.if-f-gt0.true))

pub returns-then-f-gt0 : goal.returns-then-f-gt0
returns-then-f-gt0 c = c.counting_at.ensures ∙ not_own _ _ _ _ (meant c.args.f) c.if-f-gt0.true

pub returns-in-PastInput : goal.returns-in-PastInput
returns-in-PastInput c =
    elim c.in-PastInput.is [
      | inl e ↦ (let n : number_of c.args.f.refusal ≡ 2 = ap number_of e in end_passed _ _ _ _ (meant c.args.f) c.if-f-gt0.false (omega arith))
      | inr e ↦ (let n : number_of c.args.f.refusal ≡ 3 = ap number_of e in end_passed _ _ _ _ (meant c.args.f) c.if-f-gt0.false (omega arith))
    ]

pub returns-in-Unassigned : goal.returns-in-Unassigned
returns-in-Unassigned c =
    let n : number_of c.args.f.refusal ≡ 4 = ap number_of c.in-Unassigned.is in
    ap (λ b. Byte b c.args.object.from) c.first-b.ensures ∙ type_byte _ _ _ _ (meant c.args.f) c.if-f-gt0.false (omega arith) n

pub returns-in-TooDeep : goal.returns-in-TooDeep
returns-in-TooDeep c =
    let n : number_of c.args.f.refusal ≡ 5 = ap number_of c.in-TooDeep.is in
    containers _ _ _ _ (meant c.args.f) c.if-f-gt0.false (omega arith) (omega arith) n

pub counting_at-requires-in-BadBits : goal.counting_at-requires-in-BadBits
counting_at-requires-in-BadBits c =
    let n : number_of c.args.f.refusal ≡ 6 = ap number_of c.in-BadBits.is in
    (c.requires.0, sized (goal.at.counting_at-requires-in-BadBits c).Start (inr (inl (n, lbitstr_byte _ _ c.first-b.ensures (c.is.ensures.0 c.if-is.true)))))

pub returns-in-BadBits : goal.returns-in-BadBits
returns-in-BadBits c =
    let n : number_of c.args.f.refusal ≡ 6 = ap number_of c.in-BadBits.is in
    c.counting_at-in-BadBits.ensures
    ∙ bit_length _ _ _ _ (meant c.args.f) c.if-f-gt0.false (omega arith) (omega arith) (omega arith) n (lbitstr_byte _ _ c.first-b.ensures (c.is.ensures.0 c.if-is.true))

pub returns-in-BadBits-2 : goal.returns-in-BadBits-2
returns-in-BadBits-2 c =
    let n : number_of c.args.f.refusal ≡ 6 = ap number_of c.in-BadBits.is in
    no_marker _ _ _ _ (meant c.args.f) c.if-f-gt0.false (omega arith) (omega arith) (omega arith) n (no_lbitstr _ _ c.first-b.ensures c.if-is.ensures.1)

pub returns-in_default : goal.returns-in_default
returns-in_default c =
    let n = late (goal.at.returns-in_default c).In_default in
    ap (λ b. Byte b c.args.object.from) c.first-b.ensures
    ∙ outermost _ _ _ _ (meant c.args.f) c.if-f-gt0.false (omega (arith, n)) (omega (arith, n)) (omega (arith, n)) (omega (arith, n)) c.if-object-eq0.true

pub counting_at-requires-in_default-2 : goal.counting_at-requires-in_default-2
counting_at-requires-in_default-2 c =
    (c.requires.0, sized (goal.at.counting_at-requires-in_default-2 c).Start (inr (inr (late (goal.at.counting_at-requires-in_default-2 c).In_default, c.if-object-eq0.false))))

pub returns-in_default-2 : goal.returns-in_default-2
returns-in_default-2 c =
    let n = late (goal.at.returns-in_default-2 c).In_default in
    c.counting_at-in_default-2.ensures
    ∙ repeat_count _ _ _ _ (meant c.args.f) c.if-f-gt0.false (omega (arith, n)) (omega (arith, n)) (omega (arith, n)) (omega (arith, n)) c.if-object-eq0.false
