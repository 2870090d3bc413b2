-- `writer::leaves::put_numbered` meets its contract. Assumes nothing.
use mathlib.Core.Path.{sym, ap, ◌∙◌}
use Rattle.format.specs.Answers.{over}
use Rattle.format.proofs.Over.{lent_next}
use Rattle.writer.proofs.LeafForms.{numbered_is}
use Rattle.writer.proofs.leaves.put_numbered.Goals as goal

pub returns : goal.returns
returns c =
    lent_next _ _ c.args.out.now c.put_int-used.new.out c.put_bytes.new.out c.put_int-used.result c.put_int-used.ensures.value c.put_int-used.ensures.out_after c.put_bytes.ensures
    ∙ ap (λ z. over z c.args.out.now) (sym (numbered_is _ _ _ c.args.bits.kept))
