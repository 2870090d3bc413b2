-- `compare::walk::Apart::same_data` meets its contract. Assumes nothing.
use Rattle.compare.specs.Walks.{data_from}
use Rattle.compare.proofs.WordLaws.{parts_equal}
use Rattle.compare.proofs.walk.Apart.same_data.Goals as goal

pub returns : goal.returns
returns c =
    let w = c.args.self.now.left.now in
    let v = c.args.self.now.right.now in
    parts_equal w v (data_from w c.args.self.now.at.left) (data_from v c.args.self.now.at.right) c.args.count c.same.result c.requires.left_data.fits
    c.requires.right_data.fits c.same.ensures
