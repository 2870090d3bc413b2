use mathlib.Core.Path.{◌≡◌}
use Rattle.table.specs.InOrder.{all_chars}
use Rattle.table.proofs.rows.all_chars.Given as goal

abbrev pub invariant-loop-p : goal.invariant-loop-p
invariant-loop-p l = all_chars l.rows.words.now l.rows.from l.rows.to ≡ all_chars l.rows.words.now l.p l.rows.to
