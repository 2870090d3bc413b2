-- `compare::compare_items` meets its contract. Assumes nothing.
use mathlib.Core.Path.{◌≡◌, refl, sym, ap, ◌∙◌}
use mathlib.Core.Logic.{inl, ⊎_elim}
use Prim.Native.Nat.{◌+◌, ◌≤◌}
use native.Mathlib.Omega.{arith}
use lib.ListN.{length}
use Rattle.compare.specs.Walks.{changes_of}
use Rattle.compare.proofs.ListLaws.{all_come, listed_none, listed_on, listed_all, listed_empty}
use Rattle.compare.proofs.Answering.{counts_same, changes_bound, all_left, number_left, nothing_left, too_short, all_listed}
use Rattle.compare.proofs.compare_items.Goals as goal
use Rattle.compare.proofs.compare_items.Goals.{After-count-entries}

counted : (c : After-count-entries) → 1 + c.count-entries.result ≡ length (changes_of c.args.left.now c.args.right.now)
counted c =
    let r = c.count-entries.ensures.ran in
    ap (λ n. 1 + n) (r.2 ∙ all_come r.0 c.next.new.self r.1) ∙ sym (number_left _ _ c.requires.0 c.requires.1 _ _ c.in-Some.ensures.steps)

pub next-requires : goal.next-requires
next-requires c = record { rest = _; walk = counts_same _ _ c.requires.0 c.requires.1 }

pub returns-in_default : goal.returns-in_default
returns-in_default c = rw c.written.ensures (nothing_left _ _ c.requires.0 _ _ c.requires.1 c.in_default.ensures.steps.0 refl)

pub count-entries-requires-clause-fits : goal.count-entries-requires-clause-fits
count-entries-requires-clause-fits c =
    inl (omega (arith, number_left _ _ c.requires.0 c.requires.1 _ _ c.in-Some.ensures.steps, changes_bound _ _ c.requires.0))

pub overflow_add-entries : goal.overflow_add-entries
overflow_add-entries c = omega (arith, counted c, changes_bound _ _ c.requires.0)

pub returns-then-list-entries : goal.returns-then-list-entries
returns-then-list-entries c =
    rw c.refused.ensures (too_short _ _ c.requires.0 _ _ (counted (goal.at.returns-then-list-entries c).After-count-entries) c.if-list-entries.true)

pub loop-n-init : goal.loop-n-init
loop-n-init c =
    rw (c.into_iter-n-iterator.ensures.into_iter_gives, c.zip-n-items.ensures.first, c.zip-n-items.ensures.second) (record {
      end = counted (goal.at.loop-n-init c).After-count-entries;
      listed = (listed_on (listed_none _ _ c.args.list.now (all_left _ _ c.requires.0 c.requires.1)) c.in-Some.ensures.steps c.put_entry.ensures).1;
    })

pub put_entry-requires-in-loop-n : goal.put_entry-requires-in-loop-n
put_entry-requires-in-loop-n c =
    let s = c.in-Some-2.ensures.steps in
    omega (arith, s.0.1.1, s.0.1.0, c.loop-n.invariant.end, counted (goal.at.put_entry-requires-in-loop-n c).After-count-entries, c.if-list-entries.false, c.loop-n.auto.list)

pub loop-n-preserved : goal.loop-n-preserved
loop-n-preserved c =
    let s = c.in-Some-2.ensures.steps in
    record {
      end = s.0.0 ∙ c.loop-n.invariant.end;
      listed = rw s.0.1.2 (listed_on c.loop-n.invariant.listed s.1 (rw s.0.1.1 at c.put_entry-in-loop-n.ensures)).1;
    }

pub returns : goal.returns
returns c =
    let n = counted (goal.at.returns c).After-count-entries in
    let e : length (changes_of c.args.left.now c.args.right.now) ≤ c.loop-n.n-iterator.a.start = ⊎_elim
    (λ s. omega (arith, c.loop-n.invariant.end, s.1.1.0))
    (λ s. listed_empty c.loop-n.invariant.listed s.1.0)
    c.in-None.ensures.steps in
    rw c.written-2.ensures (all_listed _ _ c.requires.0 _ _ _ n c.if-list-entries.false (listed_all c.loop-n.invariant.listed e))
