-- Codes go into a new word, into the one that is begun, or into that and the next. Assumes nothing.
use Rattle.std.proofs.Common.{refl, arith}
use Rattle.fill.proofs.SomeCodes.{put_new, put_old, put_two}
use Rattle.fill.proofs.codes.put_some.Goals as goal

pub returns-then-r-eq0 : goal.returns-then-r-eq0
returns-then-r-eq0 c =
    let p = c.requires in
    put_new _ _ _ _ p.0 p.1 p.2 c.if-r-eq0.true

pub returns-then-r-k-gt64 : goal.returns-then-r-k-gt64
returns-then-r-k-gt64 c =
    let p = c.requires in
    put_two _ _ _ _ p.0 p.1 p.2 (omega arith) _ _ refl refl

pub returns-else-r-k-gt64 : goal.returns-else-r-k-gt64
returns-else-r-k-gt64 c =
    let p = c.requires in
    put_old _ _ _ _ p.0 p.1 p.2 (omega arith) (omega arith) _ refl
