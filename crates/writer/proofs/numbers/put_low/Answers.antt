-- `writer::numbers::put_low` meets its contract: the first four bytes, and then the others over the part behind them. Assumes nothing.
use native.Mathlib.Omega.{arith}
use Prim.Native.Nat.{◌+◌, ◌-◌, ◌*◌, ◌/◌, ◌%◌, ◌^◌}
use mathlib.Core.Path.{◌≡◌, sym, ap, ◌∙◌}
use Rattle.format.specs.Numbers.{be}
use Rattle.format.specs.Answers.{over}
use Rattle.format.proofs.Digits.{be_length}
use Rattle.writer.proofs.NumberLaws.{low_parts}
use Rattle.format.proofs.Over.{lent_next}
use Rattle.writer.proofs.numbers.put_low.Goals as goal

pub returns-else-k-lt4 : goal.returns-else-k-lt4
returns-else-k-lt4 c =
    let t = c.args.out.now in
    let r = c.args.k - 4 in
    let high = be 4 (c.args.n / 2 ^ (8 * r) % 256 ^ 4) in
    let low = be r (c.args.n % 256 ^ r) in
    let k : 4 + r ≡ c.args.k = omega arith in
    lent_next high low t c.put_four.new.out c.put_each-else-k-lt4.new.out 4
    (sym (be_length 4 _)) c.put_four.ensures c.put_each-else-k-lt4.ensures
    ∙ ap (λ l. over l t) (sym (low_parts 4 r c.args.n) ∙ ap (λ k. be k (c.args.n % 256 ^ k)) k)
