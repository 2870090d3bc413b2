use mathlib.Core.Path.{◌≡◌}
use Prim.Native.Nat.{◌≤◌, ◌-◌}
use Rattle.table.specs.Rows.{lands}
use Rattle.table.proofs.rows.lands.Given as goal

abbrev pub invariant-loop : goal.invariant-loop
invariant-loop l = (l.p ≤ l.rows.to) × (lands l.rows.words.now l.count l.rows.from l.rows.to ≡ lands l.rows.words.now (l.count - l.counter) l.p l.rows.to)
