-- `tree::class_of` is the paper's class, branch by branch. Assumes nothing.
use borrow.Author.Rules.{rules}
use native.Mathlib.Omega.{arith}
use mathlib.Core.Path.{refl, sym, ◌∙◌}
use Rattle.format.proofs.Choices.{if_eq_yes, if_eq_no}
use Rattle.format.proofs.ClassCodes.{none_below}
use Rattle.format.proofs.OnesLaws.{ones_most}
use Rattle.format.proofs.TreeLaws.{non_atomic, tree_at, at_ones, at_low, unassigned, at_next}
use Rattle.format.proofs.tree.class_of.Goals as goal

pub returns-in-0 : goal.returns-in-0
unfolding tree_at
returns-in-0 c = at_ones c.args.b c.ones_of.result 0 (search rules) c.ones_of.ensures c.in-0.is

pub returns-in-1 : goal.returns-in-1
unfolding tree_at
returns-in-1 c = at_ones c.args.b c.ones_of.result 1 (search rules) c.ones_of.ensures c.in-1.is

pub returns-in-1-2 : goal.returns-in-1-2
unfolding non_atomic
returns-in-1-2 c = at_low c.args.b c.ones_of.result 1 (search rules) c.ones_of.ensures c.in-2.is c.in-1-2.is

pub returns-in-2-2 : goal.returns-in-2-2
unfolding non_atomic
returns-in-2-2 c = at_low c.args.b c.ones_of.result 2 (search rules) c.ones_of.ensures c.in-2.is c.in-2-2.is

pub returns-in-3-2 : goal.returns-in-3-2
unfolding non_atomic
returns-in-3-2 c = at_low c.args.b c.ones_of.result 3 (search rules) c.ones_of.ensures c.in-2.is c.in-3-2.is

pub returns-in-4-2 : goal.returns-in-4-2
unfolding non_atomic
returns-in-4-2 c = at_low c.args.b c.ones_of.result 4 (search rules) c.ones_of.ensures c.in-2.is c.in-4-2.is

pub returns-in-5-2 : goal.returns-in-5-2
unfolding non_atomic
returns-in-5-2 c = at_low c.args.b c.ones_of.result 5 (search rules) c.ones_of.ensures c.in-2.is c.in-5-2.is

pub returns-in-6-2 : goal.returns-in-6-2
unfolding non_atomic
returns-in-6-2 c = at_low c.args.b c.ones_of.result 6 (search rules) c.ones_of.ensures c.in-2.is c.in-6-2.is

pub returns-in_default-2 : goal.returns-in_default-2
returns-in_default-2 c =
    let r = c.in_default-2.in_default-2-own.rest in
    sym (unassigned _ r.0.0.0.0.0.1 r.0.0.0.0.1 r.0.0.0.1 r.0.0.1 r.0.1 r.1)
    ∙ at_low c.args.b c.ones_of.result _ (search rules) c.ones_of.ensures c.in-2.is refl

pub returns-then-b-eq0 : goal.returns-then-b-eq0
returns-then-b-eq0 c =
    sym (if_eq_yes _ 0 _ _ c.if-b-eq0.true)
    ∙ at_next c.args.b c.ones_of.result (search rules) c.ones_of.ensures c.in-3.is

pub returns-else-b-eq0 : goal.returns-else-b-eq0
returns-else-b-eq0 c =
    sym (if_eq_no _ 0 _ _ c.if-b-eq0.false)
    ∙ at_next c.args.b c.ones_of.result (search rules) c.ones_of.ensures c.in-3.is

pub returns-in-4 : goal.returns-in-4
unfolding tree_at
returns-in-4 c = at_ones c.args.b c.ones_of.result 4 (search rules) c.ones_of.ensures c.in-4.is

pub returns-in-5 : goal.returns-in-5
unfolding tree_at
returns-in-5 c = at_ones c.args.b c.ones_of.result 5 (search rules) c.ones_of.ensures c.in-5.is

pub returns-in-6 : goal.returns-in-6
unfolding tree_at
returns-in-6 c = at_ones c.args.b c.ones_of.result 6 (search rules) c.ones_of.ensures c.in-6.is

pub returns-in-7 : goal.returns-in-7
unfolding tree_at
returns-in-7 c = at_ones c.args.b c.ones_of.result 7 (search rules) c.ones_of.ensures c.in-7.is

pub returns-in_default : goal.returns-in_default
unfolding tree_at
returns-in_default c =
    let e = c.ones_of.ensures in
    let q = none_below 8 c.ones_of.result c.in_default.in_default-own.rest in
    let m = ones_most c.args.b (search rules) in
    at_ones c.args.b c.ones_of.result 8 (search rules) e (omega arith)
