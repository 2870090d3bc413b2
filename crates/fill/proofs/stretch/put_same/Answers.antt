-- The loop's invariant: the rows of the integers so far stand behind what was there. Assumes nothing.
use Rattle.std.proofs.Common.{arith, length-drop, length-take}
use Rattle.format.proofs.SignedLaws.{handed_word}
use Rattle.format.proofs.TypeBytes.{following_range}
use Rattle.fill.proofs.Stretches.{stretched_none, stretched_long}
use Rattle.fill.proofs.stretch.put_same.Goals as goal

pub integer_of-requires : goal.integer_of-requires
integer_of-requires c =
    let f = following_range c.args.b in
    (omega arith, simp (length-take, length-drop) (omega arith), omega arith)

pub loop-rows-preserved : goal.loop-rows-preserved
loop-rows-preserved c =
    let z = c.integer_of in
    let w = handed_word _ z.result _ z.type_inv z.ensures c.word_of-value.ensures in
    stretched_long c.loop-rows.invariant (omega arith) (omega arith) _ _ _ c.requires.2 (omega arith) (omega arith) w c.put_at.ensures

pub loop-rows-init : goal.loop-rows-init
loop-rows-init c = let p = c.requires in stretched_none _ _ _ _ p.0 p.1
