-- `measure::rows::are_figures` meets its contract. Assumes nothing.
use mathlib.Core.Path.{◌≡◌, ◌∙◌}
use Rattle.std.proofs.Common.{rules}
use Rattle.std.specs.List.{list_all}
use Rattle.std.proofs.lemmas.Iterator.{YieldsList-from_slice}
use Rattle.std.proofs.lemmas.Iterator.Search.{all_from_yields_List}
use Rattle.measure.specs.SheetRows.{is_figure}
use Rattle.measure.proofs.RowTests.{figures_all}
use Rattle.measure.proofs.rows.are_figures.Goals as goal

pub returns : goal.returns
returns c =
    let e : c.all.result ≡ list_all (λ r. is_figure r.kind) c.figure_rows.result =
    all_from_yields_List (λ r. is_figure r.kind) _ _ c.all.result c.all.ensures.ran (YieldsList-from_slice _ c.iter.ensures.rest) (λ x b q h. search rules) in
    rw c.figure_rows.ensures at e ∙ figures_all c.args.table.now
