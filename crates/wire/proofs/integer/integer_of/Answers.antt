-- `integer::integer_of` meets its contract. Assumes nothing.
use mathlib.Core.Path.{sym, ap, ◌∙◌}
use native.Mathlib.Omega.{arith}
use Rattle.format.specs.Numbers.{signed}
use Rattle.wire.proofs.Integers.{shifted, integer_take}
use Rattle.wire.proofs.integer.integer_of.Goals as goal

pub returns : goal.returns
returns c =
    let w = c.high_word.result in
    shifted w c.args.k c.value_of.result c.value_of.type_inv (omega arith) (omega arith) (omega arith) c.value_of.ensures
    ∙ ap (signed c.args.k) c.high_word.ensures.0 ∙ sym (integer_take c.args.s.now c.args.k (omega arith))
