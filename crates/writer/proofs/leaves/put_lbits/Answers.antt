-- `writer::leaves::put_lbits` meets its contract. Assumes nothing.
use mathlib.Core.Path.{◌≡◌, sym, ap, ◌∙◌}
use native.Mathlib.Omega.{arith}
use Prim.Native.Nat.{◌+◌}
use lib.ListN.{length}
use mathlib.Core.List.{◌∷◌}
use Rattle.format.specs.Normal.{normal_size}
use Rattle.format.specs.Answers.{over}
use Rattle.writer.specs.Forms.{numbered}
use Rattle.format.proofs.Over.{lent_next}
use Rattle.writer.proofs.LeafForms.{numbered_size, lbits_form}
use Rattle.writer.proofs.leaves.put_lbits.Goals as goal

pub returns-clause-out_after : goal.returns-clause-out_after
returns-clause-out_after c =
    let x = c.args.bits in
    let size : c.int_length.result + c.div_ceil.result ≡ length (numbered x.table.words.now x.first x.count) =
    omega (arith, numbered_size _ _ _ x.kept _ c.int_length.ensures) in
    lent_next (0xc1 ∷ normal_size (c.int_length.result + c.div_ceil.result)) _ c.args.out.now c.put_head-used.new.out c.put_numbered.new.out c.put_head-used.result (omega (arith, c.put_head-used.ensures.value))
    c.put_head-used.ensures.out_after c.put_numbered.ensures
    ∙ ap (λ z. over z c.args.out.now) (sym (lbits_form _ _ _ x.kept _ c.requires.many size))
