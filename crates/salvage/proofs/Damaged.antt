-- "One damaged sheet should not cost the batch": what stands before and behind it comes out as it is. Assumes nothing.
use Prim.Native.Nat.{ℕ, ◌+◌, ◌≤◌}
use native.Mathlib.Omega.{arith}
use mathlib.Core.Path.{◌≡◌, ap, ◌∙◌}
use mathlib.Core.Logic.{◌≢◌}
use mathlib.Core.List.{List, [], ◌∷◌, ◌++◌, append-nil}
use lib.ListN.{length}
use Rattle.format.specs.Refusals.{byte_limit}
use Rattle.format.specs.Answers.{over}
use Rattle.message.specs.Words.{Accepted}
use Rattle.salvage.specs.Mending.{met_alone, mended, change, changes_in, change_words, salvaging}
use Rattle.salvage.specs.Words.{IsOne, IsRest}
use Rattle.salvage.proofs.PartLaws.{mended_rest, changes_at, changes_rest, changes_whole}
use Rattle.salvage.proofs.Sound.{sound_mended, sound_changes, sound_same, sound_no_changes, bad_mended, bad_changes}
use Rattle.salvage.proofs.Ample.{accepted_met}
use Rattle.salvage.proofs.SalvagedExactly.{answer_by}

-- ---- behind an accepted message all is mended as if it stood alone, and listed at its place
module _ (a t e : List ℕ) (sound : Accepted a t) where
  pub behind_accepted : mended (a ++ e) ≡ a ++ mended e
  behind_accepted = sound_mended a e (accepted_met a t sound)

  pub listed_behind : changes_in (a ++ e) ≡ changes_at (length a) e
  listed_behind = changes_whole (a ++ e) ∙ sound_changes 0 a e (accepted_met a t sound) ∙ (let n : 0 + length a ≡ length a = omega arith in ap (λ p. changes_at p e) n)

-- ---- a batch with one damaged object between two accepted parts, a and c
module _ (a c t u : List ℕ) (b : ℕ) (s : List ℕ) (first : Accepted a t) (last : Accepted c u) (one : IsOne b s) (bad : met_alone (b ∷ s) ≢ 0) where
  -- it alone is lost, and it alone is listed: its place, its bytes, and its number
  pub one_damaged : mended (a ++ ((b ∷ s) ++ c)) ≡ a ++ (0xfe ∷ c)
  one_damaged =
      behind_accepted a t ((b ∷ s) ++ c) first ∙ ap (λ l. a ++ l) (bad_mended b s c one bad)
      ∙ ap (λ l. a ++ (0xfe ∷ l)) (sound_same c (accepted_met c u last))

  pub one_listed : changes_in (a ++ ((b ∷ s) ++ c)) ≡ record { place = length a; bytes = length (b ∷ s); number = met_alone (b ∷ s) } ∷ []
  one_listed =
      listed_behind a t ((b ∷ s) ++ c) first ∙ bad_changes b s c one bad (length a)
      ∙ ap (λ l. change (length a) (b ∷ s) ∷ l) (sound_no_changes (length a + length (b ∷ s)) c (accepted_met c u last))

  -- the whole answer, where the batch is not too long, what is left is within the limits, and room is lent
  pub batch_saved : (o l : List ℕ) → length (a ++ ((b ∷ s) ++ c)) ≤ byte_limit → met_alone (a ++ (0xfe ∷ c)) ≡ 0
      → length (a ++ (0xfe ∷ c)) ≤ length o → 3 ≤ length l
      → salvaging (a ++ ((b ∷ s) ++ c)) o l
      ≡ record {
        number = 0;
        length = length (a ++ (0xfe ∷ c));
        entries = 1;
        output = over (a ++ (0xfe ∷ c)) o;
        list = over (length a ∷ length (b ∷ s) ∷ met_alone (b ∷ s) ∷ []) l;
      }
  unfolding change_words
  batch_saved o l short sound room places = answer_by (a ++ ((b ∷ s) ++ c)) o l (a ++ (0xfe ∷ c)) _ one_damaged one_listed short sound room (omega arith)

-- ---- a batch that was cut off, or whose end cannot be told: what stands before is kept, and the rest is listed
module _ (a t : List ℕ) (b : ℕ) (s : List ℕ) (first : Accepted a t) (cut : IsRest b s) where
  pub cut_off : mended (a ++ (b ∷ s)) ≡ a
  cut_off = behind_accepted a t (b ∷ s) first ∙ ap (λ l. a ++ l) (mended_rest b s cut) ∙ append-nil a

  pub cut_listed : changes_in (a ++ (b ∷ s)) ≡ record { place = length a; bytes = length (b ∷ s); number = met_alone (b ∷ s) } ∷ []
  cut_listed = listed_behind a t (b ∷ s) first ∙ changes_rest (length a) b s cut
