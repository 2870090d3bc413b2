-- Bytes copied one after another to a place of the output. Assumes nothing.
use Prim.Native.Nat.{ℕ, suc, ◌+◌, ◌≤◌, ◌<◌}
use native.Mathlib.Omega.{arith}
use mathlib.Core.Path.{◌≡◌, refl, sym, ap, ◌∙◌}
use mathlib.Core.List.{List, [], ◌∷◌, ◌++◌}
use lib.ListN.{length, take, get_or, set}
use lib.Seq.{take-suc, length-take-le}
use Rattle.format.specs.Lent.{over_at}
use Rattle.format.proofs.Over.{at_none, at_length, set_next}

-- the first i of the bytes stand there
pub record Copied (at : ℕ) (bytes o₀ o : List ℕ) (i : ℕ) : Type 0 where
  pub upto : i ≤ length bytes
  pub long : length o ≡ length o₀
  pub output_is : o ≡ over_at at (take i bytes) o₀

pub copied_start : (at : ℕ) (bytes o : List ℕ) → Copied at bytes o o 0
copied_start at bytes o = record { upto = omega arith; long = refl; output_is = sym (at_none at o) }

pub copied_step : (at : ℕ) (bytes o₀ o : List ℕ) (i v : ℕ) → at + length bytes ≤ length o₀ → i < length bytes → Copied at bytes o₀ o i → v ≡ get_or bytes i 0
    → Copied at bytes o₀ (set o (at + i) v) (i + 1)
copied_step at bytes o₀ o i v h l c q =
    let t : length (take i bytes) ≡ i = length-take-le i bytes (omega arith) in
    let n : i + 1 ≡ suc i = omega arith in
    let s : length (take (i + 1) bytes) ≡ i + 1 = length-take-le (i + 1) bytes (omega arith) in
    let e : take i bytes ++ (v ∷ []) ≡ take (i + 1) bytes =
    ap (λ y. take i bytes ++ (y ∷ [])) q ∙ sym (ap (λ j. take j bytes) n ∙ take-suc bytes i 0 l) in
    let k : set o (at + i) v ≡ over_at at (take (i + 1) bytes) o₀ =
    ap (λ j. set o (at + j) v) (sym t) ∙ set_next at v (take i bytes) o₀ o c.output_is (omega arith) ∙ ap (λ y. over_at at y o₀) e in
    record { upto = omega arith; long = ap length k ∙ at_length at (take (i + 1) bytes) o₀ (omega arith); output_is = k }
