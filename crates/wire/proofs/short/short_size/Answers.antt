-- `short::short_size` meets its contract. Assumes nothing.
use native.Mathlib.Omega.{arith}
use mathlib.Core.Path.{sym, ◌∙◌}
use Rattle.wire.proofs.ShortLaws.{one_of, short_at}
use Rattle.wire.proofs.short.short_size.Goals as goal

pub returns : goal.returns
returns c =
    let w = one_of _ (sym c.has_elements.ensures ∙ c.if-not-has_elements.false) in
    short_at c.args.depth c.args.b c.args.s.now _ w.0 w.1 w.2 (omega arith) (omega arith) (omega arith) (omega arith) (omega arith)
