-- `parts::sized_bytes` meets its contract. Assumes nothing.
use Rattle.std.proofs.Common.{rules}
use Rattle.salvage.proofs.ExtentLaws.{sized_told}
use Rattle.salvage.proofs.parts.sized_bytes.Goals as goal

pub returns : goal.returns
returns c = sized_told c.args.s.now c.extent_of.result c.ok.result c.map.result _ c.ok.ensures.value c.map.ensures.cases (λ e n h. search rules) c.extent_of.ensures
