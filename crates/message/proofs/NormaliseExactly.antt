-- Exactly when normalising gives each number, with which place, words and length: theorems about the function that the contract of
-- the public operation cites, as in Demands.antt. The words used are in specs/Words.antt. Assumes nothing.
use Prim.Native.Nat.{ℕ, ◌≤◌, ◌<◌}
use mathlib.Core.Path.{◌≡◌, refl, ap, ◌∙◌, subst}
use mathlib.Core.Logic.{◌≢◌, ◌⊎◌, inl, inr, ⊎_elim, ◌↔◌}
use mathlib.Core.List.{List}
use native.Mathlib.Omega.{arith}
use lib.ListN.{length}
use Rattle.format.specs.Numbers.{Bytes}
use Rattle.format.specs.Refusals.{byte_limit}
use Rattle.format.specs.Items.{Items}
use Rattle.format.specs.Tables.{items_of}
use Rattle.format.specs.Normal.{normal}
use Rattle.format.specs.Answers.{Reading, over, reading, unwritten, writing, Normalising, only_read, read_and, then_written, normalising}
use Rattle.format.proofs.Choices.{by_eq}
use Rattle.format.proofs.ReadProper.{read_depth}
use Rattle.message.specs.Words.{Says, NoneDue, IsTable, Ready}
use Rattle.message.proofs.Cases.{both_hold, both_fail, said_once, read_due, table_of_items, one_table, same_depth, write_by}
use Rattle.message.proofs.ReadExactly.{table_enough}
use Rattle.message.proofs.Demands.{reading_number, writing_number, accepted_exactly, read_table}

-- reading's table, where it accepts, is the table of the message's items
reading_table : (m t : List ℕ) (xs : Items) → Bytes m → NoneDue m xs (length t) → IsTable (reading m t).table xs
reading_table m t xs b d =
    table_of_items (reading m t).table xs (ap (λ (r : Reading). items_of r.table) (read_due m t xs d) ∙ read_table m t xs b d)

-- A fact of each answer that normalising can give, with what makes it due, is a fact of its answer: reading's; 14; 15; 0.
normalise_by : (m t o : List ℕ) → Bytes m → (P : Normalising → Type 0) → ((reading m t).number ≢ 0 → P (only_read (reading m t) o))
    → ((xs : Items) → NoneDue m xs (length t) → byte_limit < length (normal xs) → P (read_and (reading m t) (unwritten 14 0 o)))
    → ((xs : Items) → NoneDue m xs (length t) → length (normal xs) ≤ byte_limit → length o < length (normal xs)
    → P (read_and (reading m t) (unwritten 15 (length (normal xs)) o)))
    → ((xs : Items) → Ready m xs t o
    → P (read_and (reading m t) (record { number = 0; length = length (normal xs); output = over (normal xs) o })))
    → P (normalising m t o)
unfolding normalising then_written
normalise_by m t o b P unread long room all =
    by_eq P (reading m t).number 0 (λ e. let x = (accepted_exactly m t).0 e in go x.0 x.1) unread
  where
    w : List ℕ
    w = (reading m t).table

    go : (xs : Items) → NoneDue m xs (length t) → P (read_and (reading m t) (writing w o))
    go xs d =
        let i = reading_table m t xs b d in
        let same : (ys : Items) → IsTable w ys → NoneDue m ys (length t) = λ ys j. subst (λ zs. NoneDue m zs (length t)) (one_table w xs ys i j) d in
        write_by w o (λ a. P (read_and (reading m t) a)) (λ n. absurd (n xs i))
        (λ ys j h. absurd (omega (arith, read_depth m xs d.said, same_depth w xs ys i j)))
        (λ ys j h l. long ys (same ys j) l) (λ ys j p r. room ys (same ys j) p.short r)
        (λ ys j p. all ys (record { read = same ys j; short = p.short; room = p.room }))

-- "Normalising reads, then writes, and returns the first refusal with reading's place and words", and its missing bytes: "All
-- callers take the fuller answer"
pub normalised_place : (m t o : List ℕ)
    → ((normalising m t o).place ≡ (reading m t).place) × ((normalising m t o).words ≡ (reading m t).words) × ((normalising m t o).missing ≡ (reading m t).missing)
unfolding normalising then_written
normalised_place m t o =
    by_eq (λ (r : Normalising). (r.place ≡ (reading m t).place) × (r.words ≡ (reading m t).words) × (r.missing ≡ (reading m t).missing))
    (reading m t).number 0 (λ e. (refl, refl, refl)) (λ n. (refl, refl, refl))

-- 1 to 11 are reading's
pub normalising_1_to_11 : (m t o : List ℕ) (n : ℕ) → 1 ≤ n → n ≤ 11 → ((normalising m t o).number ≡ n) ↔ ((reading m t).number ≡ n)
unfolding normalising then_written
normalising_1_to_11 m t o n a b =
    by_eq (λ (r : Normalising). (r.number ≡ n) ↔ ((reading m t).number ≡ n)) (reading m t).number 0
    (λ e. both_fail (λ z. ⊎_elim (λ h. omega arith) (λ h. omega (arith, h.0)) (writing_number (reading m t).table o)) (λ z. omega arith))
    (λ e. (λ z. z, λ z. z))

-- What was read is a table, and at most sixteen deep: of writing's numbers normalising can give 14 and 15 alone.
pub normalising_numbers : (m t o : List ℕ) → Bytes m
    → ((normalising m t o).number ≤ 11) ⊎ ((normalising m t o).number ≡ 14) ⊎ ((normalising m t o).number ≡ 15)
normalising_numbers m t o b =
    normalise_by m t o b (λ (r : Normalising). (r.number ≤ 11) ⊎ (r.number ≡ 14) ⊎ (r.number ≡ 15)) (λ n. inl (reading_number m t))
    (λ xs d l. inr (inl refl)) (λ xs d l r. inr (inr refl)) (λ xs r. inl (omega arith))

said_length : (m : List ℕ) (xs ys : Items) → Says m xs → Says m ys → length (normal xs) ≡ length (normal ys)
said_length m xs ys s e = ap (λ z. length (normal z)) (said_once m xs ys s e)

-- 14: "normal form over 65,536 bytes", when reading accepts
pub normalising_14 : (m t o : List ℕ) → Bytes m
    → ((normalising m t o).number ≡ 14) ↔ ((xs : Items) × NoneDue m xs (length t) × (byte_limit < length (normal xs)))
normalising_14 m t o b =
    normalise_by m t o b (λ (r : Normalising). (r.number ≡ 14) ↔ ((xs : Items) × NoneDue m xs (length t) × (byte_limit < length (normal xs))))
    (λ n. both_fail (λ z. omega (arith, reading_number m t)) (λ x. n ((accepted_exactly m t).1 (x.0, x.1))))
    (λ xs d l. both_hold refl (xs, d, l))
    (λ xs d l r. both_fail (λ z. omega arith) (λ x. omega (arith, said_length m xs x.0 d.said x.1.said, x.2)))
    (λ xs r. both_fail (λ z. omega arith) (λ x. omega (arith, r.short, said_length m xs x.0 r.read.said x.1.said, x.2)))

-- 15: "lent output too short", when reading accepts and 14 is not due
pub normalising_15 : (m t o : List ℕ) → Bytes m
    → ((normalising m t o).number ≡ 15)
    ↔ ((xs : Items) × NoneDue m xs (length t) × (length (normal xs) ≤ byte_limit) × (length o < length (normal xs)))
normalising_15 m t o b =
    normalise_by m t o b
    (λ (r : Normalising). (r.number ≡ 15) ↔ ((xs : Items) × NoneDue m xs (length t) × (length (normal xs) ≤ byte_limit) × (length o < length (normal xs))))
    (λ n. both_fail (λ z. omega (arith, reading_number m t)) (λ x. n ((accepted_exactly m t).1 (x.0, x.1))))
    (λ xs d l. both_fail (λ z. omega arith) (λ x. omega (arith, said_length m xs x.0 d.said x.1.said, x.2)))
    (λ xs d l r. both_hold refl (xs, d, l, r))
    (λ xs r. both_fail (λ z. omega arith) (λ x. omega (arith, r.room, said_length m xs x.0 r.read.said x.1.said, x.3)))

-- 0: exactly for the messages of demand 3
pub normalising_0 : (m t o : List ℕ) → Bytes m → ((normalising m t o).number ≡ 0) ↔ ((xs : Items) × Ready m xs t o)
normalising_0 m t o b =
    normalise_by m t o b (λ (r : Normalising). (r.number ≡ 0) ↔ ((xs : Items) × Ready m xs t o))
    (λ n. both_fail n (λ x. n ((accepted_exactly m t).1 (x.0, x.1.read))))
    (λ xs d l. both_fail (λ z. omega arith) (λ x. omega (arith, said_length m xs x.0 d.said x.1.read.said, x.1.short)))
    (λ xs d l r. both_fail (λ z. omega arith) (λ x. omega (arith, said_length m xs x.0 d.said x.1.read.said, x.1.room)))
    (λ xs r. both_hold refl (xs, r))

-- "and writing's length": with 15 the length needed
pub normalised_needs : (m t o : List ℕ) (xs : Items) → Bytes m → Says m xs → (normalising m t o).number ≡ 15 → (normalising m t o).length ≡ length (normal xs)
normalised_needs m t o xs b s =
    normalise_by m t o b (λ (r : Normalising). r.number ≡ 15 → r.length ≡ length (normal xs)) (λ n z. absurd (omega (arith, reading_number m t)))
    (λ ys d l z. absurd (omega arith)) (λ ys d l r z. said_length m ys xs d.said s) (λ ys r z. absurd (omega arith))

-- "(0 if reading refuses)", and 0 with 14
pub normalised_no_length : (m t o : List ℕ) → Bytes m → (normalising m t o).number ≢ 0 → (normalising m t o).number ≢ 15 → (normalising m t o).length ≡ 0
normalised_no_length m t o b =
    normalise_by m t o b (λ (r : Normalising). r.number ≢ 0 → r.number ≢ 15 → r.length ≡ 0) (λ n a c. refl) (λ xs d l a c. refl)
    (λ xs d l r a c. absurd (c refl)) (λ xs r a c. absurd (a refl))

-- "A table of 65,540 words and an output of 65,536 bytes are always enough."
pub normalising_enough : (m t o : List ℕ) → Bytes m → 65540 ≤ length t → byte_limit ≤ length o
    → ((normalising m t o).number ≢ 11) × ((normalising m t o).number ≢ 15)
normalising_enough m t o b ht ho = (
  λ e. table_enough m t ht ((normalising_1_to_11 m t o 11 (omega arith) (omega arith)).0 e),
  λ e. let x = (normalising_15 m t o b).0 e in omega (arith, x.2, x.3),
)
