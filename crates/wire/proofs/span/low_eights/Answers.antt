-- `span::low_eights` meets its contract. Assumes nothing.
use mathlib.Core.Path.{◌≡◌, refl}
use native.Mathlib.Omega.{arith}
use borrow.Author.Rules.{rules}
use lib.Bits.{bit_and}
use Rattle.wire.specs.WordsAt.{word_at}
use Rattle.wire.proofs.WordLaws.{all_low_lem}
use Rattle.wire.proofs.span.low_eights.Goals as goal

pub returns : goal.returns
returns c =
    let s = c.args.s.now in
    let v = c.eights.ensures in (
      v.0,
      v.1,
      λ j p q.
          let w = v.2 j p q in
          let z : bit_and (word_at w.0 s) 0x8080808080808080 ≡ 0 = search (rules, w.4) in
          all_low_lem s w.0 (word_at w.0 s) (λ i. omega (arith, c.type_inv.s i)) w.3 refl z j w.1 w.2,
    )
