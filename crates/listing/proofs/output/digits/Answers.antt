-- `listing::output::digits` meets its contract. Assumes nothing.
use Rattle.listing.proofs.Decimals.{count_told}
use Rattle.listing.proofs.output.digits.Goals as goal

pub returns : goal.returns
returns c = let e = c.max.ensures in count_told c.args.n c.max.result c.ilog10.result e c.ilog10.ensures.power_le c.ilog10.ensures.next_power_gt
