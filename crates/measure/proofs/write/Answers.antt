-- `measure::write` meets its contract. Assumes nothing.
use Prim.Native.Nat.{◌<◌}
use mathlib.Core.Path.{refl, sym, ◌∙◌}
use native.Mathlib.Omega.{arith}
use Rattle.format.proofs.Choices.{split, lt_true, true_lt, clash}
use Rattle.format.proofs.SignedLaws.{handed_word}
use Rattle.measure.proofs.RowTests.{fair_all}
use Rattle.measure.proofs.SheetWritten.{unit_refused}
use Rattle.measure.proofs.SheetCases.{out_of_range, sheet_put}
use Rattle.measure.proofs.write.Goals as goal
use Rattle.measure.proofs.write.Goals.{Else-not-is_known}

-- from here on the unit is one of the two
known : (c : Else-not-is_known) → c.args.unit < 2
known c = true_lt _ 2 (sym c.is_known.ensures ∙ c.if-not-is_known.false)

pub returns-then-not-is_known : goal.returns-then-not-is_known
returns-then-not-is_known c =
    let unknown : 1 < c.args.unit = split c.args.unit 2 (λ l. clash _ (lt_true c.args.unit 2 l) (sym c.is_known.ensures ∙ c.if-not-is_known.true)) (λ g. omega arith) in
    rw c.unwritten.ensures (sym (unit_refused c.args.order c.args.unit c.args.chest c.args.waist c.args.sleeve c.args.output.now unknown))

pub returns-then-not-all_fair : goal.returns-then-not-all_fair
returns-then-not-all_fair c =
    rw c.unwritten-then-not-all_fair.ensures
    (out_of_range _ _ _ _ _ _ (known (goal.at.returns-then-not-all_fair c).Else-not-is_known) (sym (c.all_fair.ensures ∙ fair_all _ _ _) ∙ c.if-not-all_fair.true))

pub returns : goal.returns
returns c =
    let f = c.ranges.order.sfits in
    c.write.ensures
    ∙ sheet_put c.args.order c.args.unit c.args.chest c.args.waist c.args.sleeve c.args.output.now (known (goal.at.returns c).Else-not-is_known) c.word_of.result
    (sym (c.all_fair.ensures ∙ fair_all _ _ _) ∙ c.if-not-all_fair.false) f (handed_word c.args.order c.args.order _ f refl c.word_of.ensures)
