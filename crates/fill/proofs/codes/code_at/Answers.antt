-- A code is a byte of its word. Assumes nothing.
use Rattle.std.proofs.Common.{refl, arith}
use Rattle.fill.proofs.Letters.{code_is}
use Rattle.fill.proofs.codes.code_at.Goals as goal

pub returns : goal.returns
returns c = (omega arith, λ cs t₀ h l e. code_is cs t₀ _ e _ h l _ refl)
