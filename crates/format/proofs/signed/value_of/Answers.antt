-- `signed::value_of` meets its contract. Assumes nothing.
use Rattle.format.proofs.SignedLaws.{handed, cast_signed_is}
use mathlib.Core.Path.{◌∙◌}
use native.Mathlib.Omega.{arith}
use Rattle.format.proofs.signed.value_of.Goals as goal

pub returns : goal.returns
returns c = handed _ c.cast_signed.result c.cast_signed.type_inv (c.cast_signed.ensures ∙ cast_signed_is c.args.w (omega arith))
