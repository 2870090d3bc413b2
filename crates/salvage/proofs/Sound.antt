-- What is accepted comes out the same, with no changes listed, and an object that is not is replaced; whatever stands behind is mended as
-- if it stood alone. Assumes nothing.
use Prim.Native.Nat.{ℕ, ◌+◌, ◌≤◌}
use native.Mathlib.Omega.{arith}
use mathlib.Core.Path.{◌≡◌, refl, sym, ap, ap₂, ◌∙◌, subst}
use mathlib.Core.Logic.{◌≢◌}
use mathlib.Core.List.{List, [], ◌∷◌, ◌++◌, append-nil, append_assoc}
use lib.ListN.{length, take, length-append}
use lib.Seq.{take_at, drop_at}
use Rattle.format.specs.Refusals.{row_limit, word_limit}
use Rattle.format.specs.Items.{Items}
use Rattle.format.specs.Messages.{got, outcome}
use Rattle.format.specs.Runs.{object_at}
use Rattle.format.specs.Tables.{rows, data_words}
use Rattle.format.proofs.Counts.{rows_join, words_join}
use Rattle.format.proofs.Apart.{one_object, Objects, none, more, by_objects}
use Rattle.salvage.specs.Mending.{met_alone, mended, change, changes_in}
use Rattle.salvage.specs.Words.{IsOne, IsRest}
use Rattle.salvage.proofs.PartLaws.{mended_none, mended_kept, mended_bad, changes_at, changes_none, changes_rest, changes_kept, changes_bad, changes_whole}
use Rattle.salvage.proofs.MendedLaws.{met_says, says_met}
use Rattle.salvage.proofs.OwnExtents.{lying_grown, got_lies}

-- ---- one object that is read, and e behind it
module _ (b : ℕ) (c e : List ℕ) (xs : Items) (q : object_at 0 b c ≡ got xs (length c)) (r : rows xs ≤ row_limit) (w : length (data_words xs) ≤ word_limit) where
  alone : met_alone (b ∷ take (length c) (c ++ e)) ≡ 0
  unfolding outcome
  alone = ap (λ l. met_alone (b ∷ l)) (take_at c e (length c) refl) ∙ says_met (b ∷ c) xs (one_object 0 b c xs q) r w

  read_mended : mended (b ∷ (c ++ e)) ≡ (b ∷ c) ++ mended e
  read_mended =
      mended_kept b (c ++ e) (length c) (got_lies 0 b c e xs q) alone
      ∙ ap₂ (λ x y. (b ∷ x) ++ mended y) (take_at c e (length c) refl) (drop_at c e (length c) refl)

  read_changes : (p : ℕ) → changes_at p (b ∷ (c ++ e)) ≡ changes_at (p + length (b ∷ c)) e
  read_changes p = changes_kept p b (c ++ e) (length c) (got_lies 0 b c e xs q) alone ∙ ap (changes_at (p + length (b ∷ c))) (drop_at c e (length c) refl)

-- ---- objects one after another
module _ (e : List ℕ) where
  objects_mended : (a : List ℕ) (xs : Items) → Objects 0 a xs → rows xs ≤ row_limit → length (data_words xs) ≤ word_limit → mended (a ++ e) ≡ a ++ mended e
  objects_mended _ _ none r w = refl
  objects_mended _ _ (more b c s xs ys q o) r w =
      ap (λ l. mended (b ∷ l)) (append_assoc c s e) ∙ read_mended b c (s ++ e) xs q (omega (arith, rows_join xs ys)) (omega (arith, words_join xs ys))
      ∙ ap (λ l. (b ∷ c) ++ l) (objects_mended s ys o (omega (arith, rows_join xs ys)) (omega (arith, words_join xs ys)))
      ∙ sym (append_assoc (b ∷ c) s (mended e))

  objects_changes : (a : List ℕ) (xs : Items) → Objects 0 a xs → rows xs ≤ row_limit → length (data_words xs) ≤ word_limit
      → (p : ℕ) → changes_at p (a ++ e) ≡ changes_at (p + length a) e
  objects_changes _ _ none r w p = let n : p ≡ p + 0 = omega arith in ap (λ k. changes_at k e) n
  objects_changes _ _ (more b c s xs ys q o) r w p =
      let n : p + length (b ∷ c) + length s ≡ p + length (b ∷ (c ++ s)) = omega (arith, length-append c s) in
      ap (λ l. changes_at p (b ∷ l)) (append_assoc c s e) ∙ read_changes b c (s ++ e) xs q (omega (arith, rows_join xs ys)) (omega (arith, words_join xs ys)) p
      ∙ objects_changes s ys o (omega (arith, rows_join xs ys)) (omega (arith, words_join xs ys)) (p + length (b ∷ c)) ∙ ap (λ k. changes_at k e) n

-- ---- a message that is met with 0, and e behind it
objects_in : (a : List ℕ) → met_alone a ≡ 0 → (xs : Items) × Objects 0 a xs × (rows xs ≤ row_limit) × (length (data_words xs) ≤ word_limit)
unfolding outcome
objects_in a z = let x = met_says a z in (x.0, (by_objects 0 a x.0).0 x.1, x.2, x.3)

pub sound_mended : (a e : List ℕ) → met_alone a ≡ 0 → mended (a ++ e) ≡ a ++ mended e
sound_mended a e z = let x = objects_in a z in objects_mended e a x.0 x.1 x.2 x.3

pub sound_changes : (p : ℕ) (a e : List ℕ) → met_alone a ≡ 0 → changes_at p (a ++ e) ≡ changes_at (p + length a) e
sound_changes p a e z = let x = objects_in a z in objects_changes e a x.0 x.1 x.2 x.3 p

-- so it comes out the same, and no changes are listed
pub sound_same : (m : List ℕ) → met_alone m ≡ 0 → mended m ≡ m
sound_same m z = ap mended (sym (append-nil m)) ∙ sound_mended m [] z ∙ ap (λ l. m ++ l) mended_none ∙ append-nil m

pub sound_no_changes : (p : ℕ) (m : List ℕ) → met_alone m ≡ 0 → changes_at p m ≡ []
sound_no_changes p m z = ap (changes_at p) (sym (append-nil m)) ∙ sound_changes p m [] z ∙ changes_none (p + length m)

pub accepted_same : (m : List ℕ) → met_alone m ≡ 0 → (mended m ≡ m) × (changes_in m ≡ [])
accepted_same m z = (sound_same m z, changes_whole m ∙ sound_no_changes 0 m z)

-- ---- one object that is refused alone, with c behind it
module _ (b : ℕ) (s c : List ℕ) (one : IsOne b s) (bad : met_alone (b ∷ s) ≢ 0) where
  bad_alone : met_alone (b ∷ take (length s) (s ++ c)) ≢ 0
  bad_alone = subst (λ l. met_alone (b ∷ l) ≢ 0) (sym (take_at s c (length s) refl)) bad

  pub bad_mended : mended ((b ∷ s) ++ c) ≡ 0xfe ∷ mended c
  bad_mended = mended_bad b (s ++ c) (length s) (lying_grown b s c (length s) one) bad_alone ∙ ap (λ l. 0xfe ∷ mended l) (drop_at s c (length s) refl)

  pub bad_changes : (p : ℕ) → changes_at p ((b ∷ s) ++ c) ≡ change p (b ∷ s) ∷ changes_at (p + length (b ∷ s)) c
  bad_changes p =
      changes_bad p b (s ++ c) (length s) (lying_grown b s c (length s) one) bad_alone
      ∙ ap₂ (λ x y. change p (b ∷ x) ∷ changes_at (p + length (b ∷ s)) y) (take_at s c (length s) refl) (drop_at s c (length s) refl)

-- a rest is never accepted
pub rest_bad : (b : ℕ) (s : List ℕ) → IsRest b s → met_alone (b ∷ s) ≢ 0
rest_bad b s e z =
    let q = sym (changes_rest 0 b s e) ∙ sound_no_changes 0 (b ∷ s) z in
    let n : ◌≡◌ {A = ℕ} 0 1 = cc in
    omega arith
