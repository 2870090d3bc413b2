-- What comes out of any bytes: nothing is lost without a change listed, it is never longer, and it says items. Assumes nothing.
use Prim.Native.Nat.{ℕ, suc, ◌+◌, ◌≤◌}
use native.Mathlib.Omega.{arith}
use mathlib.Core.Path.{◌≡◌, refl, sym, ap, ◌∙◌}
use mathlib.Core.Option.{none, some}
use mathlib.Core.List.{List, [], ◌∷◌, ◌++◌}
use lib.ListN.{length, take, drop, length-append, length-drop, take-append-drop}
use lib.Seq.{length-take-le}
use Rattle.format.specs.Refusals.{row_limit, word_limit}
use Rattle.format.specs.Items.{Items, end, one, empty, join}
use Rattle.format.specs.Messages.{Outcome, refused, says, outcome}
use Rattle.format.specs.Tables.{rows, data_words}
use Rattle.format.proofs.Choices.{by_lt, split_eq, if_lt_no}
use Rattle.format.proofs.Steps.{reads_nil}
use Rattle.format.proofs.Faults.{fault_inside}
use Rattle.format.proofs.Growing.{says_joined}
use Rattle.salvage.specs.Mending.{own_extent, lying, met_by, met_alone, mended, Change}
use Rattle.salvage.proofs.PartLaws.{lies_within, by_parts, mended_none, mended_rest, mended_kept, mended_bad, changes_at, changes_none, changes_rest, changes_kept, changes_bad}

-- ---- no change listed, no byte changed
a_change : (c : Change) (l : List Change) → ¬ (c ∷ l ≡ [])
a_change c l e = let z : ◌≡◌ {A = ℕ} 0 1 = cc in omega arith

pub no_changes_same : (p : ℕ) (s : List ℕ) → changes_at p s ≡ [] → mended s ≡ s
no_changes_same p s = by_parts (λ s. (p : ℕ) → changes_at p s ≡ [] → mended s ≡ s) (λ p e. mended_none) at_rest at_whole s p
  where
    at_rest : (b : ℕ) (s : List ℕ) → lying s (own_extent b s) ≡ none → (p : ℕ) → changes_at p (b ∷ s) ≡ [] → mended (b ∷ s) ≡ b ∷ s
    at_rest b s e p n = absurd (a_change _ _ (sym (changes_rest p b s e) ∙ n))

    at_whole : (b : ℕ) (s : List ℕ) (u : ℕ) → lying s (own_extent b s) ≡ some u → ((p : ℕ) → changes_at p (drop u s) ≡ [] → mended (drop u s) ≡ drop u s)
        → (p : ℕ) → changes_at p (b ∷ s) ≡ [] → mended (b ∷ s) ≡ b ∷ s
    at_whole b s u e more p n =
        split_eq (met_alone (b ∷ take u s)) 0
        (λ z.
        mended_kept b s u e z ∙ ap (λ l. (b ∷ take u s) ++ l) (more (p + suc u) (sym (changes_kept p b s u e z) ∙ n))
        ∙ ap (λ l. b ∷ l) (take-append-drop u s))
        (λ z. absurd (a_change _ _ (sym (changes_bad p b s u e z) ∙ n)))

-- ---- what comes out is never longer, and there are never more changes than bytes
pub mended_shorter : (s : List ℕ) → length (mended s) ≤ length s
mended_shorter =
    by_parts (λ s. length (mended s) ≤ length s) (omega (arith, ap length mended_none)) (λ b s e. omega (arith, ap length (mended_rest b s e)))
    (λ b s u e more.
    let l = lies_within s (own_extent b s) u e in
    split_eq (met_alone (b ∷ take u s)) 0
    (λ z. omega (arith, more, ap length (mended_kept b s u e z), length-append (b ∷ take u s) (mended (drop u s)), length-take-le u s l, length-drop u s))
    (λ z. omega (arith, more, ap length (mended_bad b s u e z), length-drop u s)))

pub changes_fewer : (p : ℕ) (s : List ℕ) → length (changes_at p s) ≤ length s
changes_fewer p s = by_parts (λ s. (p : ℕ) → length (changes_at p s) ≤ length s) (λ p. omega (arith, ap length (changes_none p)))
    (λ b s e p. omega (arith, ap length (changes_rest p b s e)))
    (λ b s u e more p.
    split_eq (met_alone (b ∷ take u s)) 0
    (λ z. omega (arith, more (p + suc u), ap length (changes_kept p b s u e z), length-drop u s))
    (λ z. omega (arith, more (p + suc u), ap length (changes_bad p b s u e z), length-drop u s)))
    s p

-- ---- what is met with 0 says items within the limits, and no more
pub met_says : (o : List ℕ) → met_alone o ≡ 0 → (xs : Items) × (outcome o ≡ says xs) × (rows xs ≤ row_limit) × (length (data_words xs) ≤ word_limit)
unfolding met_alone
met_says o = go (outcome o) refl
  where
    Told : Type 0
    Told = (xs : Items) × (outcome o ≡ says xs) × (rows xs ≤ row_limit) × (length (data_words xs) ≤ word_limit)

    go : (x : Outcome) → outcome o ≡ x → met_by x ≡ 0 → Told
    go (refused f) e = unfold met_by in λ z. absurd (omega (arith, (fault_inside o f e).0))
    go (says xs) e =
        unfold met_by in
        by_lt (λ n. n ≡ 0 → Told) row_limit (rows xs) (λ l z. absurd (omega arith))
        (λ r. by_lt (λ n. n ≡ 0 → Told) word_limit (length (data_words xs)) (λ l z. absurd (omega arith)) (λ w z. (xs, e, r, w)))

pub says_met : (o : List ℕ) (xs : Items) → outcome o ≡ says xs → rows xs ≤ row_limit → length (data_words xs) ≤ word_limit → met_alone o ≡ 0
unfolding met_alone met_by
says_met o xs e r w = ap met_by e ∙ if_lt_no row_limit (rows xs) _ _ r ∙ if_lt_no word_limit (length (data_words xs)) _ _ w

-- ---- what comes out is not refused with 2 to 9
pub none_says : outcome [] ≡ says end
unfolding outcome
none_says = reads_nil 0

pub empty_says : outcome (0xfe ∷ []) ≡ says (one empty)
unfolding outcome
empty_says = refl

pub mended_says : (s : List ℕ) → (xs : Items) × (outcome (mended s) ≡ says xs)
mended_says =
    by_parts (λ s. (xs : Items) × (outcome (mended s) ≡ says xs)) (end, ap outcome mended_none ∙ none_says)
    (λ b s e. (end, ap outcome (mended_rest b s e) ∙ none_says))
    (λ b s u e more.
    split_eq (met_alone (b ∷ take u s)) 0
    (λ z.
    let x = met_says (b ∷ take u s) z in
    (join x.0 more.0, ap outcome (mended_kept b s u e z) ∙ says_joined (b ∷ take u s) (mended (drop u s)) x.0 more.0 x.1 more.1))
    (λ z. (
      join (one empty) more.0,
      ap outcome (mended_bad b s u e z) ∙ says_joined (0xfe ∷ []) (mended (drop u s)) (one empty) more.0 empty_says more.1,
    )))
