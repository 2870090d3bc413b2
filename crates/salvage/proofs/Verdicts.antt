-- How bytes are met alone, by what the scan found. Assumes nothing.
use Prim.Native.Nat.{ℕ, ◌≤◌, ◌<◌, min}
use native.Mathlib.Omega.{arith}
use mathlib.Core.Path.{◌≡◌, refl, sym, ap, ap₂, ◌∙◌}
use mathlib.Core.Bool.{Bool, false}
use mathlib.Core.Logic.{◌⊎◌, inl, inr, ◌↔◌}
use Rattle.std.specs.Bool.{IsTrue}
use mathlib.Core.List.{List}
use Rattle.std.specs.Prelude.{Result, Ok, Err}
use lib.ListN.{length}
use Rattle.format.specs.Refusals.{Fault, row_limit, word_limit}
use Rattle.format.specs.Items.{Items}
use Rattle.format.specs.Messages.{Outcome, refused, says, outcome}
use Rattle.format.specs.Tables.{rows, data_words}
use Rattle.format.proofs.Choices.{if_lt_yes, if_lt_no, by_lt, by_lt₂, split, clash}
use Rattle.scan.specs.declared.summary.Summary.{Summary}
use Rattle.scan.specs.Sums.{sum_of}
use Rattle.scan.specs.Answer.{answer}
use Rattle.salvage.specs.Mending.{met_by}
use Rattle.salvage.specs.declared.parts.Amount.{Amount}
use Rattle.salvage.specs.Words.{said_by, said}
use Rattle.salvage.specs.Told.{met_of}

abbrev amount : ℕ → ℕ → Amount
amount n d = record { rows = n; words = d }

pub verdict_refused : (o : Outcome) (f : Fault) → Err f ≡ answer o → Err f.number ≡ met_of o
unfolding answer met_of
verdict_refused (refused g) f e = let a : f ≡ g = cc in ap (λ (x : Fault). Err x.number) a
verdict_refused (says xs) f e = cc

pub verdict_many : (o : Outcome) (s : Summary) → Ok s ≡ answer o → (row_limit < s.rows) ⊎ (word_limit < s.words) → Err 10 ≡ met_of o
unfolding answer sum_of met_of
verdict_many (refused f) s e h = cc
verdict_many (says xs) s e h =
    let q : s ≡ sum_of xs = cc in
    let r : s.rows ≡ min (rows xs) 524288 = ap (λ (x : Summary). x.rows) q in
    let w : s.words ≡ min (length (data_words xs)) 65536 = ap (λ (x : Summary). x.words) q in
    by_lt (λ (x : Result Amount ℕ). Err 10 ≡ x) row_limit (rows xs) (λ l. refl) (λ l. sym (if_lt_yes word_limit (length (data_words xs)) _ _ (omega (arith, h))))

-- not too many
pub few : (r d : ℕ) (b : Bool) → (IsTrue b ↔ ((row_limit < r) ⊎ (word_limit < d))) → b ≡ false → (r ≤ row_limit) × (d ≤ word_limit)
few r d b t e =
    (split row_limit r (λ l. absurd (clash b (t.1 (inl l)) e)) (λ l. l), split word_limit d (λ l. absurd (clash b (t.1 (inr l)) e)) (λ l. l))

pub verdict_sound : (o : Outcome) (s : Summary) → Ok s ≡ answer o → (s.rows ≤ row_limit) × (s.words ≤ word_limit) → Ok (amount s.rows s.words) ≡ met_of o
unfolding answer sum_of met_of
verdict_sound (refused f) s e h = cc
verdict_sound (says xs) s e h =
    let q : s ≡ sum_of xs = cc in
    let r : s.rows ≡ min (rows xs) 524288 = ap (λ (x : Summary). x.rows) q in
    let w : s.words ≡ min (length (data_words xs)) 65536 = ap (λ (x : Summary). x.words) q in
    let a : s.rows ≡ rows xs = omega arith in
    let b : s.words ≡ length (data_words xs) = omega arith in
    ap₂ (λ x y. Ok (amount x y)) a b ∙ sym (if_lt_no row_limit (rows xs) _ _ (omega arith) ∙ if_lt_no word_limit (length (data_words xs)) _ _ (omega arith))

-- what is met with a number is met with that of the meaning
pub verdict_number : (o : Outcome) (k : ℕ) → met_of o ≡ Err k → met_by o ≡ k
unfolding met_of met_by
verdict_number (refused f) k e = cc
verdict_number (says xs) k e =
    by_lt₂ (λ (x : Result Amount ℕ) y. x ≡ Err k → y ≡ k) row_limit (rows xs) (λ l q. cc)
    (λ l. by_lt₂ (λ (x : Result Amount ℕ) y. x ≡ Err k → y ≡ k) word_limit (length (data_words xs)) (λ g q. cc) (λ g q. cc)) e

-- what is sound is met with none, and comes to the rows and data words of what is said
pub verdict_met : (o : Outcome) (a : Amount) → met_of o ≡ Ok a → met_by o ≡ 0
unfolding met_of met_by
verdict_met (refused f) a e = cc
verdict_met (says xs) a e =
    by_lt₂ (λ (x : Result Amount ℕ) y. x ≡ Ok a → y ≡ 0) row_limit (rows xs) (λ l q. cc)
    (λ l. by_lt₂ (λ (x : Result Amount ℕ) y. x ≡ Ok a → y ≡ 0) word_limit (length (data_words xs)) (λ g q. cc) (λ g q. refl)) e

pub verdict_amount : (o : Outcome) (xs : Items) (a : Amount) → o ≡ says xs → met_of o ≡ Ok a → (a.rows ≡ rows xs) × (a.words ≡ length (data_words xs))
unfolding met_of
verdict_amount o xs a q e =
    by_lt P row_limit (rows xs) (λ l z. absurd (cc)) (λ l. by_lt P word_limit (length (data_words xs)) (λ g z. absurd (cc)) (λ g z. let i : amount (rows xs) (length (data_words xs)) ≡ a = cc in
    (ap (λ (y : Amount). y.rows) (sym i), ap (λ (y : Amount). y.words) (sym i)))) (ap met_of (sym q) ∙ e)
  where
    P : Result Amount ℕ → Type 0
    P x = x ≡ Ok a → (a.rows ≡ rows xs) × (a.words ≡ length (data_words xs))

-- what is said within the limits is not met with a number
pub few_sound : (xs : Items) (k : ℕ) → rows xs ≤ row_limit → length (data_words xs) ≤ word_limit → met_of (says xs) ≡ Err k → ⊥
unfolding met_of
few_sound xs k r w e =
    let q = sym (if_lt_no row_limit (rows xs) _ _ r ∙ if_lt_no word_limit (length (data_words xs)) _ _ w) ∙ e in
    cc

-- the items of what is said
pub said_is : (m : List ℕ) (xs : Items) → outcome m ≡ says xs → said m ≡ xs
unfolding said said_by
said_is m xs e = ap said_by e
