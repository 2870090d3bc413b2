-- `size::long_count` meets its contract. Assumes nothing.
use Prim.Native.Nat.{◌-◌}
use Rattle.format.proofs.Choices.{if_eq_yes, if_eq_no}
use Rattle.wire.specs.Extents.{long_count}
use mathlib.Core.Path.{sym, ap, ◌∙◌}
use Rattle.wire.proofs.size.long_count.Goals as goal

pub returns-then-b-eq128 : goal.returns-then-b-eq128
unfolding long_count
returns-then-b-eq128 c = sym (if_eq_yes _ _ _ _ c.if-b-eq128.true)

pub returns : goal.returns
unfolding long_count
returns c = ap (λ n. n - 128) c.from.ensures ∙ sym (if_eq_no _ _ _ _ c.if-b-eq128.false)
