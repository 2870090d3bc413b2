-- Choosing by a test. In a proof they stay shut, and are opened by their laws (proofs/Choices.antt).
use Rattle.std.specs.Prelude.{ℕ, Bool, true, false, ltb, eqb}

-- x if the test holds, else y
unfoldable pub pick {ℓ} : {X : Type ℓ} → Bool → X → X → X
pick true x y = x
pick false x y = y

-- x if a < b, else y
unfoldable pub if_lt {ℓ} : {X : Type ℓ} → ℕ → ℕ → X → X → X
unfolding pick
if_lt a b x y = pick (ltb a b) x y

-- x if a is b, else y
unfoldable pub if_eq {ℓ} : {X : Type ℓ} → ℕ → ℕ → X → X → X
unfolding pick
if_eq a b x y = pick (eqb a b) x y

-- both tests hold
unfoldable pub both : Bool → Bool → Bool
both true b = b
both false b = false

-- one of the tests holds
unfoldable pub either : Bool → Bool → Bool
either true b = true
either false b = b
