-- Few copies code by code, many by whole words between the first sixteen and the rest. Assumes nothing.
use Rattle.std.proofs.Common.{arith}
use Rattle.fill.proofs.Letters.{spelt_again, spelt_nothing}
use Rattle.fill.proofs.Cycles.{many_copies}
use Rattle.fill.proofs.codes.copy_codes.Goals as goal
use Rattle.fill.proofs.codes.copy_codes.Goals.{Else-k-lt24}

pub returns : goal.returns
returns c =
    let f = c.copy_from-2 in
    let p = c.requires.1 in
    let l = f.auto.table in
    many_copies _ _ _ _ _ _ _ (omega arith) (omega arith) (omega arith) f.ensures c.copy_whole.ensures c.copy_from-3.ensures

pub returns-then-m-eq0 : goal.returns-then-m-eq0
returns-then-m-eq0 c = spelt_nothing _ _ _ _ c.if-m-eq0.true

pub returns-then-k-lt24 : goal.returns-then-k-lt24
returns-then-k-lt24 c = spelt_again _ _ _ _ _ c.requires.0 c.copy_from.ensures
