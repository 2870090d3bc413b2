-- `integer::linteger_at` meets its contract. Assumes nothing.
use native.Mathlib.Omega.{arith}
use Rattle.format.proofs.SignedLaws.{handed}
use Rattle.wire.proofs.Leadings.{linteger_cut, linteger_found}
use Rattle.wire.proofs.integer.linteger_at.Goals as goal

pub returns-then-there-k : goal.returns-then-there-k
returns-then-there-k c =
    linteger_cut c.args.s.now c.args.i c.args.b c.following_of-k.result c.following_of-k.ensures.0 (omega arith)

pub returns : goal.returns
returns c =
    let k = c.following_of-k in
    let n = c.integer_of in
    linteger_found c.args.s.now c.args.i c.args.b k.result _ k.ensures.0 (omega arith) (handed _ n.result n.type_inv n.ensures)
