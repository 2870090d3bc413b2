-- `listing::rows::put_codes` meets its contract: the codes so far stand, each behind a space. Assumes nothing.
use mathlib.Core.Path.{refl}
use native.Mathlib.Omega.{arith}
use Rattle.listing.proofs.Putting.{part_start, part_step, part_first, part_end}
use Rattle.listing.proofs.CodeLines.{codes_in, code_in, codes_on, codes_end}
use Rattle.listing.proofs.rows.put_codes.Goals as goal

pub loop-i-init : goal.loop-i-init
loop-i-init c = record { end = c.a-i-end.ensures; part = part_start _ _ c.requires.room }

pub byte-requires : goal.byte-requires
byte-requires c = part_first _ c.requires.room c.loop-i.invariant.part (codes_on _ _ (c.requires.string.0.text c.requires.string.1) c.loop-i.i (omega arith))

pub data-words-requires-clause-within : goal.data-words-requires-clause-within
data-words-requires-clause-within c = codes_in _ _ (c.requires.string.0.text c.requires.string.1)

pub bounds-words-i : goal.bounds-words-i
bounds-words-i c = rw c.data-words.ensures (code_in _ _ (c.requires.string.0.text c.requires.string.1) c.loop-i.i (omega arith))

pub decimal-requires : goal.decimal-requires
decimal-requires c =
    let s = part_step c.loop-i.invariant.part (codes_on _ _ (c.requires.string.0.text c.requires.string.1) c.loop-i.i (omega arith)) c.byte.ensures in
    rw (c.code_of.ensures, c.data-words.ensures) (part_first _ c.requires.room s refl)

pub loop-i-preserved : goal.loop-i-preserved
loop-i-preserved c =
    let s = part_step c.loop-i.invariant.part (codes_on _ _ (c.requires.string.0.text c.requires.string.1) c.loop-i.i (omega arith)) c.byte.ensures in
    record { end = c.loop-i.invariant.end; part = part_step s refl (rw (c.code_of.ensures, c.data-words.ensures) at c.decimal.ensures) }

pub returns : goal.returns
returns c = part_end c.loop-i.invariant.part (codes_end _ _ (c.requires.string.0.text c.requires.string.1) c.loop-i.i (omega arith))
