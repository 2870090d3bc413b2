-- `measure::figures::any_empty` meets its contract. Assumes nothing.
use mathlib.Core.Path.{◌≡◌, ◌∙◌}
use lib.Dec.{eqb}
use Rattle.std.proofs.Common.{rules}
use Rattle.std.specs.List.{list_any}
use Rattle.std.proofs.lemmas.Iterator.{YieldsList-from_slice}
use Rattle.std.proofs.lemmas.Iterator.Search.{any_from_yields_List}
use Rattle.measure.proofs.RowTests.{empties}
use Rattle.measure.proofs.figures.any_empty.Goals as goal

pub returns : goal.returns
returns c =
    let e : c.any.result ≡ list_any (λ r. eqb r.kind 5) c.figure_rows.result =
    any_from_yields_List (λ r. eqb r.kind 5) _ _ c.any.result c.any.ensures.ran (YieldsList-from_slice _ c.iter.ensures.rest) (λ x b q h. search rules) in
    rw c.figure_rows.ensures at e ∙ empties c.args.table.now
