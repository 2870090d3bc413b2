-- `head::linteger` meets its contract. Assumes nothing.
use Rattle.std.proofs.lemmas.Result.{err_from_is_err_and}
use Rattle.format.specs.Objects.{head_by, linteger_head}
use Rattle.format.proofs.SignedLaws.{handed_word}
use Rattle.wire.proofs.HeadLaws.{linteger_row}
use Rattle.wire.proofs.head.linteger.Goals as goal

pub returns-in_err-k : goal.returns-in_err-k
unfolding head_by
returns-in_err-k c = let p = err_from_is_err_and c.from_residual.result c.from_residual.ensures.1 in rw (p.1, p.2) (c.in_err-k.ensures linteger_head)

pub returns : goal.returns
returns c =
    let i = c.integer_of in
    let k = c.in_ok-k in
    linteger_row c.args.depth c.args.b k.k c.word_of.result c.args.s.now k.ensures.0 k.ensures.3 (handed_word _ i.result _ i.type_inv i.ensures c.word_of.ensures)
