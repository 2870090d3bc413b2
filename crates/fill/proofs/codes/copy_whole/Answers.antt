-- Whole copies of the first words, and a part of one. Assumes nothing.
use Rattle.std.proofs.Common.{arith}
use Rattle.fill.proofs.Cycles.{cycled_put}
use Rattle.fill.proofs.codes.copy_whole.Goals as goal

pub returns : goal.returns
returns c =
    let p = c.requires in
    cycled_put c.args.words c.args.m p.0 c.args.table.now (omega arith) _ _ p.1 c.copy_words.ensures c.copy_plain.ensures
