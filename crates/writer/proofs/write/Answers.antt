-- `writer::write` meets its contract. Assumes nothing.
use mathlib.Core.Path.{sym, ◌∙◌}
use Rattle.std.proofs.lemmas.Result.{err_from_is_err_and}
use Rattle.writer.proofs.TopLaws.{whole_fits, write_unheaded, write_refused, write_told_lem, write_none, write_whole}
use Rattle.writer.proofs.write.Goals as goal

pub returns-in_default : goal.returns-in_default
returns-in_default c = rw c.into.ensures (write_unheaded _ _ c.in_default.ensures)

pub returns-in_err-length : goal.returns-in_err-length
returns-in_err-length c =
    let p = err_from_is_err_and c.from_residual.result c.from_residual.ensures.1 in
    rw (p.1, p.2) (write_refused _ _ _ (rw c.in-Some.ensures at (sym c.in_err-length.was ∙ c.normal_length.ensures)))

pub returns-then-short : goal.returns-then-short
returns-then-short c = write_told_lem _ _ _ (rw c.in-Some.ensures at (sym c.in_ok-length.was ∙ c.normal_length.ensures)) c.if-short.true

pub write_run-requires : goal.write_run-requires
write_run-requires c = rw c.count.ensures (whole_fits _ _ _ (sym c.in_ok-length.was ∙ c.normal_length.ensures) c.if-short.false)

pub returns-then-length-gt0 : goal.returns-then-length-gt0
returns-then-length-gt0 c =
    write_whole _ _ _ _ (rw c.in-Some.ensures at (sym c.in_ok-length.was ∙ c.normal_length.ensures)) c.if-short.false
    (rw (c.count.ensures, c.in-Some.ensures) at c.write_run.ensures.out_after)

pub returns-else-length-gt0 : goal.returns-else-length-gt0
returns-else-length-gt0 c = write_none _ _ _ (rw c.in-Some.ensures at (sym c.in_ok-length.was ∙ c.normal_length.ensures)) c.if-length-gt0.false
