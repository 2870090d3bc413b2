-- The faults of a message: their numbers, places and missing bytes. Assumes nothing.
use Prim.Native.Nat.{ℕ, zero, suc, ◌≤◌, ◌<◌, min}
use mathlib.Core.Path.{◌≡◌, refl, ap, subst}
use mathlib.Core.Logic.{◌⊎◌, inl, inr, ◌↔◌}
use mathlib.Core.List.{List}
use native.Mathlib.Omega.{arith}
use lib.ListN.{length}
use Rattle.format.specs.Refusals.{Fault, wants, byte_limit}
use Rattle.format.specs.Objects.{past_end}
use Rattle.format.specs.Messages.{refused, reads, outcome}
use Rattle.format.proofs.HeadCases.{Lacking}
use Rattle.format.proofs.Bounds.{RunWithin, reads_within}

-- two refusals for the want of bytes, of which as many are told
pub wants_alike : (n k j : ℕ) → min k byte_limit ≡ min j byte_limit → wants n k ≡ wants n j
wants_alike n k j e = let lacking : ℕ → Fault = λ i. record { number = n; place = 0; missing = i } in ap lacking e

-- where it is, and what is missing
within : (d : ℕ) (s : List ℕ) (f : Fault) → reads d s ≡ refused f → (f.place < length s) × Lacking d f
within d s f e = subst (RunWithin d (length s)) e (reads_within d s)

-- inside a container 2 is not given
pub inner_number : (d : ℕ) (s : List ℕ) (f : Fault) → reads (suc d) s ≡ refused f → 2 < f.number
unfolding past_end
inner_number d s f e = go (within (suc d) s f e).1
  where
    go : Lacking (suc d) f → 2 < f.number
    go (inl h) = h.0
    go (inr h) = omega (arith, h.0)

-- ---- of a message
module _ (m : List ℕ) (f : Fault) (e : outcome m ≡ refused f) where
  lacks : (f.place < length m) × Lacking 0 f
  unfolding outcome
  lacks = within 0 m f e

  -- one of the numbers, at one of its bytes
  pub fault_inside : (2 ≤ f.number) × (f.number ≤ 9) × (f.place < length m)
  unfolding past_end
  fault_inside = go lacks.1
    where
      go : Lacking 0 f → (2 ≤ f.number) × (f.number ≤ 9) × (f.place < length m)
      go (inl h) = (h.0, omega (arith, h.1), lacks.0)
      go (inr h) = (omega (arith, h.0), h.1, lacks.0)

  pub few_missing : f.missing ≤ byte_limit
  few_missing = go lacks.1
    where
      go : Lacking 0 f → f.missing ≤ byte_limit
      go (inl h) = h.3
      go (inr h) = omega (arith, h.2)

  -- bytes are missing exactly with 2 and 3
  pub missing_with : (0 < f.missing) ↔ ((f.number ≡ 2) ⊎ (f.number ≡ 3))
  unfolding past_end
  missing_with = go lacks.1
    where
      two : (n : ℕ) → 2 ≤ n → n ≤ 3 → (n ≡ 2) ⊎ (n ≡ 3)
      two zero a b = absurd (omega arith)
      two (suc zero) a b = absurd (omega arith)
      two (suc (suc zero)) a b = inl refl
      two (suc (suc (suc n))) a b = inr (omega arith)

      small : (n : ℕ) → (n ≡ 2) ⊎ (n ≡ 3) → n ≤ 3
      small n (inl q) = omega arith
      small n (inr q) = omega arith

      go : Lacking 0 f → (0 < f.missing) ↔ ((f.number ≡ 2) ⊎ (f.number ≡ 3))
      go (inl h) = (λ g. two f.number h.0 h.1, λ x. h.2)
      go (inr h) = (λ g. absurd (omega (arith, h.2)), λ x. absurd (omega (arith, h.0, small f.number x)))
