-- `head::string` meets its contract. Assumes nothing.
use Rattle.std.proofs.lemmas.Result.{err_from_is_err_and}
use Rattle.wire.proofs.HeadLaws.{string_stop, string_text}
use Rattle.wire.proofs.head.string.Goals as goal

pub returns-in_err-contents_of : goal.returns-in_err-contents_of
returns-in_err-contents_of c =
    let p = err_from_is_err_and c.from_residual.result c.from_residual.ensures.1 in rw (p.1, p.2) (string_stop _ _ _ c.in_err-contents_of.ensures)

pub returns : goal.returns
returns c = string_text _ _ _ c.in_ok-contents_of.ensures
