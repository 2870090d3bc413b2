-- `signed::word_of` meets its contract. Assumes nothing.
use mathlib.Core.Path.{ap, ◌∙◌}
use mir.Syntax.{w64}
use mir.Val.{of_z}
use mir.Facts.{to_z-of_z}
use Rattle.format.proofs.SignedLaws.{cast_unsigned_is}
use Rattle.format.proofs.signed.word_of.Goals as goal

pub returns : goal.returns
returns c = c.cast_unsigned.ensures ∙ ap (of_z w64) (to_z-of_z c.ranges.z) ∙ cast_unsigned_is c.args.z c.ranges.z.sfits
