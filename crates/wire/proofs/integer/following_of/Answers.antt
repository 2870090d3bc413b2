-- `integer::following_of` meets its contract. Assumes nothing.
use native.Mathlib.Omega.{arith}
use Rattle.format.specs.Objects.{following}
use Rattle.format.proofs.Choices.{by_eq}
use Prim.Native.Nat.{◌+◌, ◌%◌}
use mathlib.Core.Path.{◌≡◌}
use Rattle.wire.proofs.integer.following_of.Goals as goal

pub returns : goal.returns
unfolding following
returns c = (by_eq (λ n. (c.from.result + 7) % 8 + 1 ≡ n) (c.args.b % 8) 0 (λ e. omega arith) (λ e. omega arith), omega arith, omega arith)
