-- `text_like` meets its contract: a run whose first byte is another object's than a CHAR's or a REPEAT's is no string's. Assumes nothing.
use Rattle.std.proofs.Common.{arith}
use Rattle.fill.proofs.TryLaws.{first_of, by_first}
use Rattle.fill.proofs.tries.text_like.Goals as goal

pub returns-in-Some : goal.returns-in-Some
returns-in-Some c =
    let f = first_of c.args.c.now _ c.in-Some.ensures.value in
    by_first c.args.c.now f.0 (omega (arith, c.type_inv.c 0)) _ (rw f.1 c.spells.ensures)
