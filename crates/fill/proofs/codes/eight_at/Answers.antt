-- Eight codes are a word, or the end of one and the front of the next. Assumes nothing.
use Rattle.std.proofs.Common.{refl, arith}
use Rattle.fill.proofs.Eights.{eight_whole, eight_parts}
use Rattle.fill.proofs.codes.eight_at.Goals as goal

pub returns-then-r-eq0 : goal.returns-then-r-eq0
returns-then-r-eq0 c = eight_whole _ _ _ c.if-r-eq0.true refl

pub returns : goal.returns
returns c = eight_parts _ _ _ (omega arith) refl
