-- Exactly when reading gives each number, with which place, words and missing bytes: theorems about the function that the contract of the public
-- operation cites, as in Demands.antt. The words used are in specs/Words.antt. Assumes nothing.
use Prim.Native.Nat.{ℕ, ◌≤◌, ◌<◌}
use mathlib.Core.Path.{◌≡◌, refl, ap, ◌∙◌}
use mathlib.Core.Logic.{◌≢◌, ◌⊎◌, inl, inr, ⊎_elim, ◌↔◌}
use mathlib.Core.List.{List}
use native.Mathlib.Omega.{arith}
use lib.ListN.{length}
use Rattle.format.specs.Refusals.{Fault, byte_limit}
use Rattle.format.specs.Items.{Items}
use Rattle.format.specs.Messages.{refused, outcome}
use Rattle.format.specs.Tables.{rows, data_words, words_needed}
use Rattle.format.specs.Answers.{Reading, reading}
use Rattle.format.proofs.Faults.{fault_inside, missing_with}
use Rattle.message.specs.Words.{Says, NoneDue, OverLimits}
use Rattle.message.proofs.Cases.{both_hold, both_fail, not_both, said_once, read_by}

-- 1: "input over 65,536 bytes"
pub reading_1 : (m t : List ℕ) → ((reading m t).number ≡ 1) ↔ (byte_limit < length m)
reading_1 m t =
    read_by m t (λ (r : Reading). (r.number ≡ 1) ↔ (byte_limit < length m)) (λ h. both_hold refl h)
    (λ f l e. let i = fault_inside m f e in both_fail (λ z. omega arith) (λ h. omega arith))
    (λ xs l s h. both_fail (λ z. omega arith) (λ h. omega arith))
    (λ xs d h. both_fail (λ z. omega arith) (λ h. omega (arith, d.short)))
    (λ xs d. both_fail (λ z. omega arith) (λ h. omega (arith, d.short)))

-- two faults with the same three numbers
same_fault : (f g : Fault) → f.number ≡ g.number → f.place ≡ g.place → f.missing ≡ g.missing → f ≡ g
same_fault f g a b c =
    ap (λ n. record { number = n; place = f.place; missing = f.missing }) a
    ∙ ap (λ p. record { number = g.number; place = p; missing = f.missing }) b
    ∙ ap (λ k. record { number = g.number; place = g.place; missing = k }) c

-- items within the limits are not over them
within_limits : (m : List ℕ) (xs ys : Items) (n : ℕ) → NoneDue m xs n → Says m ys → ¬ OverLimits ys
within_limits m xs ys n d s (inl h) = let k : rows xs ≡ rows ys = ap rows (said_once m xs ys d.said s) in omega (arith, d.few_rows)
within_limits m xs ys n d s (inr h) =
    let k : length (data_words xs) ≡ length (data_words ys) = ap (λ z. length (data_words z)) (said_once m xs ys d.said s) in
    omega (arith, d.few_words)

-- 2 to 9, "left to right, the first fault met", at "the offset of the faulty object's type-byte", with the missing bytes
pub reading_2_to_9 : (m t : List ℕ) (f : Fault) → 2 ≤ f.number → f.number ≤ 9
    → (((reading m t).number ≡ f.number) × ((reading m t).place ≡ f.place) × ((reading m t).missing ≡ f.missing))
    ↔ ((length m ≤ byte_limit) × (outcome m ≡ refused f))
reading_2_to_9 m t f a b =
    read_by m t
    (λ (r : Reading). ((r.number ≡ f.number) × (r.place ≡ f.place) × (r.missing ≡ f.missing)) ↔ ((length m ≤ byte_limit) × (outcome m ≡ refused f)))
    (λ h. both_fail (λ z. omega (arith, z.0)) (λ x. omega (arith, x.0)))
    (λ g l e. (λ z. (l, e ∙ ap refused (same_fault g f z.0 z.1 z.2)), λ x. parts g (one_fault g x.1 e)))
    (λ xs l s h. both_fail (λ z. omega (arith, z.0)) (λ x. not_both m xs f s x.1))
    (λ xs d h. both_fail (λ z. omega (arith, z.0)) (λ x. not_both m xs f d.said x.1))
    (λ xs d. both_fail (λ z. omega (arith, z.0)) (λ x. not_both m xs f d.said x.1))
  where
    one_fault : (g : Fault) → outcome m ≡ refused f → outcome m ≡ refused g → g ≡ f
    one_fault g x e = cc

    parts : (g : Fault) → g ≡ f → (g.number ≡ f.number) × (g.place ≡ f.place) × (g.missing ≡ f.missing)
    parts g e = (ap (λ (y : Fault). y.number) e, ap (λ (y : Fault). y.place) e, ap (λ (y : Fault). y.missing) e)

-- so with 2 to 9 the fault of the message is what the answer tells
abbrev pub told_fault : Reading → Fault
told_fault r = record { number = r.number; place = r.place; missing = r.missing }

pub fault_told : (m t : List ℕ) → 2 ≤ (reading m t).number → (reading m t).number ≤ 9 → outcome m ≡ refused (told_fault (reading m t))
fault_told m t a b = ((reading_2_to_9 m t (told_fault (reading m t)) a b).0 (refl, refl, refl)).1

-- 10: "over 16,384 rows or 16,384 data words", when none of 1 to 9 is due
pub reading_10 : (m t : List ℕ) → ((reading m t).number ≡ 10) ↔ ((xs : Items) × (length m ≤ byte_limit) × Says m xs × OverLimits xs)
reading_10 m t =
    read_by m t (λ (r : Reading). (r.number ≡ 10) ↔ ((xs : Items) × (length m ≤ byte_limit) × Says m xs × OverLimits xs))
    (λ h. both_fail (λ z. omega arith) (λ x. omega (arith, x.1)))
    (λ f l e. let i = fault_inside m f e in both_fail (λ z. omega arith) (λ x. not_both m x.0 f x.2 e))
    (λ xs l s h. both_hold refl (xs, l, s, h))
    (λ xs d h. both_fail (λ z. omega arith) (λ x. within_limits m xs x.0 (words_needed xs) d x.2 x.3))
    (λ xs d. both_fail (λ z. omega arith) (λ x. within_limits m xs x.0 (length t) d x.2 x.3))

-- 11: "lent table too short", when none of 1 to 10 is due: the table has fewer words than the items need, and with as many
-- as they need no number would be due
pub reading_11 : (m t : List ℕ) → ((reading m t).number ≡ 11) ↔ ((xs : Items) × NoneDue m xs (words_needed xs) × (length t < words_needed xs))
reading_11 m t =
    read_by m t (λ (r : Reading). (r.number ≡ 11) ↔ ((xs : Items) × NoneDue m xs (words_needed xs) × (length t < words_needed xs)))
    (λ h. both_fail (λ z. omega arith) (λ x. omega (arith, x.1.short)))
    (λ f l e. let i = fault_inside m f e in both_fail (λ z. omega arith) (λ x. not_both m x.0 f x.1.said e))
    (λ xs l s h. both_fail (λ z. omega arith) (λ x. within_limits m x.0 xs (words_needed x.0) x.1 s h))
    (λ xs d h. both_hold refl (xs, d, h))
    (λ xs d. both_fail (λ z. omega arith) (λ x. no_less x.0 xs d.room (said_once m x.0 xs x.1.said d.said) x.2))
  where
    no_less : (xs ys : Items) → words_needed ys ≤ length t → xs ≡ ys → ¬ (length t < words_needed xs)
    no_less xs ys r e h = let k : words_needed xs ≡ words_needed ys = ap words_needed e in omega arith

-- a table of 65,540 words is always enough
pub table_enough : (m t : List ℕ) → 65540 ≤ length t → (reading m t).number ≢ 11
unfolding words_needed
table_enough m t h e = let x = (reading_11 m t).0 e in omega (arith, x.1.few_rows, x.1.few_words, x.2)

-- "Words are those used (0) or needed (11)"
pub words_needed_lem : (m t : List ℕ) (xs : Items) → Says m xs → (reading m t).number ≡ 11 → (reading m t).words ≡ words_needed xs
words_needed_lem m t xs x =
    read_by m t (λ (r : Reading). r.number ≡ 11 → r.words ≡ words_needed xs) (λ h z. absurd (omega arith))
    (λ f l e z. absurd (not_both m xs f x e)) (λ ys l s h z. absurd (omega arith))
    (λ ys d h z. ap words_needed (said_once m ys xs d.said x)) (λ ys d z. absurd (omega arith))

-- "otherwise 0"
pub no_words : (m t : List ℕ) → (reading m t).number ≢ 0 → (reading m t).number ≢ 11 → (reading m t).words ≡ 0
no_words m t =
    read_by m t (λ (r : Reading). r.number ≢ 0 → r.number ≢ 11 → r.words ≡ 0) (λ h a b. refl) (λ f l e a b. refl) (λ xs l s h a b. refl)
    (λ xs d h a b. absurd (b refl)) (λ xs d a b. absurd (a refl))

-- "Refusals 2 to 9 give the offset of the faulty object's type-byte": it lies inside the message
pub place_inside : (m t : List ℕ) → 2 ≤ (reading m t).number → (reading m t).number ≤ 9 → (reading m t).place < length m
place_inside m t =
    read_by m t (λ (r : Reading). 2 ≤ r.number → r.number ≤ 9 → r.place < length m) (λ h a b. absurd (omega arith))
    (λ f l e a b. (fault_inside m f e).2) (λ xs l s h a b. absurd (omega arith))
    (λ xs d h a b. absurd (omega arith)) (λ xs d a b. absurd (omega arith))

-- "all else gives place 0"
pub no_place : (m t : List ℕ) → ((reading m t).number < 2) ⊎ (9 < (reading m t).number) → (reading m t).place ≡ 0
no_place m t =
    read_by m t (λ (r : Reading). (r.number < 2) ⊎ (9 < r.number) → r.place ≡ 0) (λ h a. refl)
    (λ f l e a. absurd (⊎_elim (λ h. omega (arith, (fault_inside m f e).0)) (λ h. omega (arith, (fault_inside m f e).1)) a))
    (λ xs l s h a. refl) (λ xs d h a. refl) (λ xs d a. refl)

-- Ask 2: "refusals 2 and 3 hand that number up", "it is 0 with every other result": bytes are missing exactly with 2 and 3.
pub missing_exactly : (m t : List ℕ) → (0 < (reading m t).missing) ↔ (((reading m t).number ≡ 2) ⊎ ((reading m t).number ≡ 3))
missing_exactly m t =
    read_by m t (λ (r : Reading). (0 < r.missing) ↔ ((r.number ≡ 2) ⊎ (r.number ≡ 3))) (λ h. none 1 (omega arith) (omega arith))
    (λ f l e. missing_with m f e) (λ xs l s h. none 10 (omega arith) (omega arith)) (λ xs d h. none 11 (omega arith) (omega arith))
    (λ xs d. none 0 (omega arith) (omega arith))
  where
    none : (n : ℕ) → n ≢ 2 → n ≢ 3 → (0 < 0) ↔ ((n ≡ 2) ⊎ (n ≡ 3))
    none n a b = both_fail (λ h. omega arith) (λ x. ⊎_elim a b x)
