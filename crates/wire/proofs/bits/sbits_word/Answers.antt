-- `bits::sbits_word` meets its contract. Assumes nothing.
use Prim.Native.Nat.{◌-◌, ◌*◌, ◌%◌, ◌^◌}
use mathlib.Core.Path.{ap, ◌∙◌}
use lib.ListN.{take}
use Rattle.format.specs.Numbers.{val}
use Rattle.wire.specs.Heads.{marked_word}
use Rattle.wire.proofs.bits.sbits_word.Goals as goal

pub returns : goal.returns
unfolding marked_word
returns c =
    let b = c.args.b in
    let s = c.args.s.now in
    ap (λ v. v * 2 ^ (64 - c.args.n) % 2 ^ 64) (c.number.ensures.0 ∙ ap (λ k. val (take k s)) c.following_of.ensures.0)
