-- `head::following` meets its contract. Assumes nothing.
use Rattle.format.specs.Refused.{meant}
use Rattle.wire.proofs.HeadLaws.{fixed_stop}
use Rattle.wire.proofs.head.following.Goals as goal

pub returns-then-s-k : goal.returns-then-s-k
returns-then-s-k c = λ f.
    let k = c.following_of-k in
    fixed_stop c.args.depth c.args.b k.result c.args.s.now f (meant c.past_end.result) k.ensures.0 c.if-s-k.true c.past_end.ensures
