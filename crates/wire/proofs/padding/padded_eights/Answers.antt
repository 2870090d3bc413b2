-- `padding::padded_eights` meets its contract: each word that passes is eight bytes of ones. Assumes nothing.
use mathlib.Core.Path.{◌≡◌}
use native.Mathlib.Omega.{arith}
use borrow.Author.Rules.{rules}
use Rattle.wire.specs.WordsAt.{word_at}
use Rattle.wire.proofs.WordLaws.{all_ones}
use Rattle.wire.proofs.padding.padded_eights.Goals as goal

pub returns : goal.returns
returns c =
    let s = c.args.s.now in
    let v = c.eights.ensures in (
      v.0,
      v.1,
      λ j p q.
          let w = v.2 j p q in
          let z : word_at w.0 s ≡ 0xffffffffffffffff = search (rules, w.4) in
          all_ones s w.0 (λ i. omega (arith, c.type_inv.s i)) z j w.1 w.2,
    )
