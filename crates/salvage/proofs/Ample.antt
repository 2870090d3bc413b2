-- The number with which bytes are met alone is reading's, given ample table; and that of what comes out is 0 or 10. Assumes nothing.
use Prim.Native.Nat.{ℕ, ◌≤◌}
use native.Mathlib.Omega.{arith}
use mathlib.Core.Path.{◌≡◌, refl, sym, ap, ◌∙◌, subst}
use mathlib.Core.Logic.{◌⊎◌, inl, inr, ◌↔◌}
use mathlib.Core.List.{List}
use lib.ListN.{length}
use Rattle.format.specs.Refusals.{byte_limit, row_limit, word_limit}
use Rattle.format.specs.Items.{Items}
use Rattle.format.specs.Messages.{Outcome, refused, says, outcome}
use Rattle.format.specs.Tables.{rows, data_words, words_needed}
use Rattle.format.specs.Answers.{Reading, reading, reading_of, laid}
use Rattle.format.proofs.Choices.{by_lt, by_lt₂, if_lt_no}
use Rattle.message.specs.Words.{Accepted}
use Rattle.message.proofs.Demands.{accepted_exactly}
use Rattle.salvage.specs.Mending.{met_by, met_alone, mended}
use Rattle.salvage.specs.Words.{Ample}
use Rattle.salvage.proofs.MendedLaws.{says_met, mended_says}

laid_met : (xs : Items) (t : List ℕ) → Ample t → (laid xs t).number ≡ met_by (says xs)
unfolding laid met_by words_needed
laid_met xs t a =
    by_lt₂ (λ (r : Reading) n. r.number ≡ n) row_limit (rows xs) (λ l. refl)
    (λ r. by_lt₂ (λ (r : Reading) n. r.number ≡ n) word_limit (length (data_words xs)) (λ l. refl)
    (λ w. ap (λ (r : Reading). r.number) (if_lt_no (length t) (words_needed xs) _ _ (omega arith))))

-- "would be refused as a message by itself, given ample table": reading's own number
pub met_ample : (m t : List ℕ) → length m ≤ byte_limit → Ample t → (reading m t).number ≡ met_alone m
unfolding reading met_alone
met_ample m t l a = ap (λ (r : Reading). r.number) (if_lt_no byte_limit (length m) _ _ l) ∙ go (outcome m)
  where
    go : (o : Outcome) → (reading_of o t).number ≡ met_by o
    go (refused f) = unfold reading_of met_by in refl
    go (says xs) = unfold reading_of in laid_met xs t a

-- so it is 0 just where reading accepts them
pub met_accepted : (m t : List ℕ) → length m ≤ byte_limit → Ample t → Accepted m t ↔ (met_alone m ≡ 0)
met_accepted m t l a = (λ e. sym (met_ample m t l a) ∙ e, λ e. met_ample m t l a ∙ e)

-- and it is 0 for what is accepted with any table
pub accepted_met : (m t : List ℕ) → Accepted m t → met_alone m ≡ 0
accepted_met m t e = let x = (accepted_exactly m t).0 e in says_met m x.0 x.1.said x.1.few_rows x.1.few_words

-- what comes out has no fault of 2 to 9: it is accepted, or has too many rows or data words
pub result_met : (m : List ℕ) → (met_alone (mended m) ≡ 0) ⊎ (met_alone (mended m) ≡ 10)
unfolding met_alone met_by
result_met m =
    let x = mended_says m in
    subst (λ o. (met_by o ≡ 0) ⊎ (met_by o ≡ 10)) (sym x.1)
    (by_lt (λ n. (n ≡ 0) ⊎ (n ≡ 10)) row_limit (rows x.0) (λ l. inr refl)
    (λ r. by_lt (λ n. (n ≡ 0) ⊎ (n ≡ 10)) word_limit (length (data_words x.0)) (λ l. inr refl) (λ w. inl refl)))
