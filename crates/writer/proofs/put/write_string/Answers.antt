-- `writer::put::write_string` meets its contract. Assumes nothing.
use mathlib.Core.Path.{sym, ap, ◌∙◌}
use mathlib.Core.List.{◌∷◌}
use native.Mathlib.Omega.{arith}
use Rattle.format.specs.Normal.{normal_size}
use Rattle.format.specs.Answers.{over}
use Rattle.format.proofs.Over.{part_length, lent_next}
use Rattle.writer.proofs.ContainerLaws.{text_codes_kept, text_length_is, text_form_is}
use Rattle.writer.proofs.put.write_string.Goals as goal

pub put_bytes-requires : goal.put_bytes-requires
put_bytes-requires c =
    let row = c.row-row.ensures in
    let t = c.requires.text.0 in
    (text_codes_kept _ c.args.p _ _ row.a row.b t, omega (arith, text_length_is _ c.args.p _ _ row.a row.b t, c.put_head-used.ensures.value, c.put_head-used.auto.out, part_length c.put_head-used.result c.put_head-used.new.out))

pub returns-clause-out_after : goal.returns-clause-out_after
returns-clause-out_after c =
    let row = c.row-row.ensures in
    lent_next (0xc5 ∷ normal_size c.row-row.result.a) _ c.args.out.now c.put_head-used.new.out c.put_bytes.new.out c.put_head-used.result (omega (arith, c.put_head-used.ensures.value))
    c.put_head-used.ensures.out_after c.put_bytes.ensures
    ∙ ap (λ k. over k c.args.out.now) (sym (text_form_is _ c.args.p _ _ row.a row.b c.requires.text.0))
