-- Rows rebased, and copied again and again. Assumes nothing.
use Rattle.std.proofs.Common.{◌≡◌, ℕ, zero, suc, ◌+◌, ◌*◌, ◌%◌, ◌^◌, ◌≢◌, List, [], ◌∷◌, ◌++◌, length, refl, ap, ◌∙◌, zero-mul, arith, length-append}
use Rattle.format.specs.Choice.{pick, either}
use Rattle.format.proofs.Choices.{eq_false}
use Rattle.fill.specs.Copies.{in_data, shift, rebased, copies}

-- ---- a row's last word, rebased
pub shift_bits : (w k b : ℕ) → k ≡ 2 → (b + w) % 2 ^ 64 ≡ shift w k b
unfolding shift in_data pick either
shift_bits w k b e = rw e refl

pub shift_string : (w k b : ℕ) → k ≡ 9 → (b + w) % 2 ^ 64 ≡ shift w k b
unfolding shift in_data pick either
shift_string w k b e = rw e refl

pub shift_none : (w k b : ℕ) → k ≢ 2 → k ≢ 9 → b ≡ shift w k b
unfolding shift in_data pick either
shift_none w k b p q = rw (eq_false k 2 p, eq_false k 9 q) refl

pub rebased_length : (w : ℕ) (l : List ℕ) → length (rebased w l) ≡ length l
unfolding rebased
rebased_length w [] = refl
rebased_length w (k ∷ []) = refl
rebased_length w (k ∷ a ∷ []) = refl
rebased_length w (k ∷ a ∷ b ∷ l) = ap (λ (n : ℕ). suc (suc (suc n))) (rebased_length w l)

pub rebased_append : (w r : ℕ) (a b : List ℕ) → length a ≡ 3 * r → rebased w (a ++ b) ≡ rebased w a ++ rebased w b
unfolding rebased
rebased_append w zero [] b e = refl
rebased_append w zero (x ∷ a) b e = absurd (omega arith)
rebased_append w (suc r) [] b e = absurd (omega arith)
rebased_append w (suc r) (x ∷ []) b e = absurd (omega arith)
rebased_append w (suc r) (x ∷ y ∷ []) b e = absurd (omega arith)
rebased_append w (suc r) (x ∷ y ∷ z ∷ a) b e = ap (λ (l : List ℕ). x ∷ y ∷ shift w x z ∷ l) (rebased_append w r a b (omega arith))

module _ (w r : ℕ) where
  pub copies_length : (k : ℕ) (a : List ℕ) → length a ≡ 3 * r → length (copies w k a) ≡ 3 * (k * r)
  unfolding copies
  copies_length zero a e = let z = zero-mul r in omega arith
  copies_length (suc k) a e =
      omega (arith, length-append a (copies w k (rebased w a)), copies_length k (rebased w a) (rebased_length w a ∙ e))

  pub rebased_copies : (k : ℕ) (a : List ℕ) → length a ≡ 3 * r → rebased w (copies w k a) ≡ copies w k (rebased w a)
  unfolding copies rebased
  rebased_copies zero a e = refl
  rebased_copies (suc k) a e =
      rebased_append w r a (copies w k (rebased w a)) e ∙ ap (λ (l : List ℕ). rebased w a ++ l) (rebased_copies k (rebased w a) (rebased_length w a ∙ e))
