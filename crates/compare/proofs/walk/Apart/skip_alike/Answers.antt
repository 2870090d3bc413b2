-- `compare::walk::Apart::skip_alike` meets its contract: all rows passed are alike. Assumes nothing.
use mathlib.Core.Path.{sym, ◌∙◌}
use native.Mathlib.Omega.{arith}
use Rattle.compare.specs.Walks.{Standing, InRows}
use Rattle.compare.proofs.ListLaws.{rows_here, going_on, rest_on}
use Rattle.compare.proofs.walk.Apart.skip_alike.Goals as goal
use Rattle.compare.proofs.walk.Apart.skip_alike.Goals.{In-loop-self}

-- in the loop, two rows are there
here : (c : In-loop-self) → Standing c.loop-self.self
here c = record { going = c.loop-self.invariant.onward.going; row = omega (arith, c.loop-self.invariant.rows) }

rows : (c : In-loop-self) → InRows c.loop-self.self.left.now c.loop-self.self.right.now c.loop-self.self.at.left c.loop-self.self.at.right
rows c = rows_here _ _ _ _ (here c).going (here c).row

pub loop-self-preserved : goal.loop-self-preserved
loop-self-preserved c =
    let o = c.loop-self.invariant.onward in
    let h = here (goal.at.loop-self-preserved c).In-loop-self in
    let a = sym c.alike.ensures ∙ c.if-alike.true in
    record {
      rows = c.loop-self.invariant.rows;
      onward = record { left = o.left; right = o.right; going = going_on _ _ _ _ h.going h.row a; rest = rest_on _ _ _ _ h.going h.row a ∙ o.rest };
    }
