-- `measure::figures::all_fair` meets its contract. Assumes nothing.
use Rattle.std.proofs.Common.{rules}
use Rattle.std.proofs.lemmas.Iterator.{YieldsList-from_slice}
use Rattle.std.proofs.lemmas.Iterator.Search.{all_from_yields_List}
use Rattle.measure.specs.Sheets.{fair}
use Rattle.measure.proofs.figures.all_fair.Goals as goal

pub returns : goal.returns
returns c = all_from_yields_List fair _ _ c.all.result c.all.ensures.ran (YieldsList-from_slice _ c.iter.ensures.rest) (λ x b q h. search rules)
