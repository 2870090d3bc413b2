-- A message without a fault, by its rows and data words: the tests one after another. Assumes nothing.
use Prim.Native.Nat.{ℕ, ◌+◌, ◌*◌, ◌≤◌, ◌<◌, min}
use mathlib.Core.Path.{◌≡◌, sym, ap, ap₂, ◌∙◌}
use mathlib.Core.Bool.{Bool, false}
use mathlib.Core.Logic.{◌⊎◌, inl, inr, ◌↔◌}
use Rattle.std.specs.Bool.{IsTrue}
use Rattle.format.proofs.Choices.{if_lt_yes, if_lt_no, split, clash}
use Rattle.format.specs.Refusals.{row_limit, word_limit}
use Rattle.message.specs.declared.Reading.{Reading}
use Rattle.message.specs.Told.{read_answer}
use Rattle.explain.specs.declared.Explaining.{Explaining}
use Rattle.explain.specs.declared.evidence.Evidence.TheVariants.{Wanted, Nothing}
use Rattle.explain.specs.Told.{told_of, measured_of}

-- x is what the code tells, with q for reading's answer
module _ (r d w : ℕ) (x : Explaining) (q : Reading) where
  pub many : (a b : ℕ) → x ≡ told_of 0 0 q (Wanted a b) → q ≡ read_answer 10 0 → a ≡ min r 65536 → b ≡ min d 65536 → (row_limit < r) ⊎ (word_limit < d) → x ≡ measured_of r d w
  unfolding measured_of
  many a b e i j k h = e ∙ ap₂ (told_of 0 0) i (ap₂ Wanted j k) ∙ go h
    where
      go : (row_limit < r) ⊎ (word_limit < d) → told_of 0 0 (read_answer 10 0) (Wanted (min r 65536) (min d 65536)) ≡ measured_of r d w
      go (inl h) = sym (if_lt_yes _ _ _ _ h)
      go (inr h) = split row_limit r (λ l. sym (if_lt_yes _ _ _ _ l)) (λ l. sym (if_lt_no _ _ _ _ l ∙ if_lt_yes _ _ _ _ h))

  module _ (f : (r ≤ row_limit) × (d ≤ word_limit)) where
    pub short_table : x ≡ told_of 0 0 q (Wanted r d) → q ≡ read_answer 11 (4 + 3 * r + d) → w < 4 + 3 * r + d → x ≡ measured_of r d w
    unfolding measured_of
    short_table e i l = e ∙ ap (λ y. told_of 0 0 y (Wanted r d)) i ∙ sym (if_lt_no _ _ _ _ f.0 ∙ if_lt_no _ _ _ _ f.1 ∙ if_lt_yes _ _ _ _ l)

    pub enough_words : x ≡ told_of 0 0 q Nothing → q ≡ read_answer 0 (4 + 3 * r + d) → 4 + 3 * r + d ≤ w → x ≡ measured_of r d w
    unfolding measured_of
    enough_words e i l = e ∙ ap (λ y. told_of 0 0 y Nothing) i ∙ sym (if_lt_no _ _ _ _ f.0 ∙ if_lt_no _ _ _ _ f.1 ∙ if_lt_no _ _ _ _ l)

-- not too many
pub few : (r d : ℕ) (b : Bool) → (IsTrue b ↔ ((row_limit < r) ⊎ (word_limit < d))) → b ≡ false → (r ≤ row_limit) × (d ≤ word_limit)
few r d b t e =
    (split row_limit r (λ l. absurd (clash b (t.1 (inl l)) e)) (λ l. l), split word_limit d (λ l. absurd (clash b (t.1 (inr l)) e)) (λ l. l))
