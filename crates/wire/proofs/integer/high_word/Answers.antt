-- `integer::high_word` meets its contract. Assumes nothing.
use mathlib.Core.Path.{◌∙◌}
use native.Mathlib.Omega.{arith}
use Rattle.wire.proofs.Integers.{raised}
use Rattle.wire.proofs.WordLaws.{number_high}
use Rattle.wire.proofs.integer.high_word.Goals as goal

pub returns-then-s-ge8 : goal.returns-then-s-ge8
returns-then-s-ge8 c =
    let n = number_high c.args.s.now c.args.k c.word_at.result (λ i. omega (arith, c.type_inv.s i)) (omega arith) (omega arith) (omega arith) c.word_at.ensures in
    (n.0, omega (arith, n.0, n.1))

pub returns-else-s-ge8 : goal.returns-else-s-ge8
returns-else-s-ge8 c =
    let n = c.number_by_bytes in
    let e = raised n.result c.args.k n.ensures.1 (omega arith) (omega arith) in
    (e ∙ n.ensures.0, omega (arith, n.ensures.0, n.ensures.1))
