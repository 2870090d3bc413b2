-- `compare::compare` meets its contract. Assumes nothing.
use mathlib.Core.Path.{sym, ◌∙◌}
use native.Mathlib.Omega.{arith}
use Rattle.compare.specs.Walks.{BothTables}
use Rattle.compare.proofs.Answering.{both_tables, not_left, not_right, long}
use Rattle.compare.proofs.compare.Goals as goal
use Rattle.compare.proofs.compare.Goals.{Else-not-is_table-2, then-not-is_table-via-then-not-is_table, then-not-is_table-via-else-not-is_table+then-not-is_table-2}

-- both are tables
tables : (c : Else-not-is_table-2) → BothTables c.args.left.now c.args.right.now
tables c = both_tables _ _ (sym c.if-not-is_table.false ∙ c.is_table.ensures) (sym c.if-not-is_table-2.false ∙ c.is_table-else-not-is_table.ensures)

pub returns-then-not-is_table : goal.returns-then-not-is_table
returns-then-not-is_table c =
    rw c.refused.ensures (elim c.then-not-is_table.branch [
      | then-not-is_table-via-then-not-is_table w ↦ not_left _ _ _ (sym w.if-not-is_table.true ∙ c.is_table.ensures)
      | then-not-is_table-via-else-not-is_table+then-not-is_table-2 w ↦ not_right _ _ _ (sym w.if-not-is_table-2.true ∙ w.is_table-else-not-is_table.ensures)
    ])

pub bounds-left-1 : goal.bounds-left-1
bounds-left-1 c = omega (arith, (long _ _ (tables (goal.at.bounds-left-1 c).Else-not-is_table-2)).0)

pub bounds-right-1 : goal.bounds-right-1
bounds-right-1 c = omega (arith, (long _ _ (tables (goal.at.bounds-right-1 c).Else-not-is_table-2)).1)

pub compare_counts-requires : goal.compare_counts-requires
compare_counts-requires c = (tables (goal.at.compare_counts-requires c).Else-not-is_table-2, c.if-left-right.true)

pub compare_items-requires : goal.compare_items-requires
compare_items-requires c = (tables (goal.at.compare_items-requires c).Else-not-is_table-2, c.if-left-right.false)
