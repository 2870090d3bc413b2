-- The three demands, as theorems about the functions that the contracts of the public operations cite: `reading`, `writing`
-- and `normalising` of the crate format (specs/Answers.antt). The words used are in specs/Words.antt. Assumes nothing.
use Prim.Native.Nat.{ℕ, ◌≤◌}
use mathlib.Core.Path.{◌≡◌, refl, sym, ap, ◌∙◌, subst}
use mathlib.Core.Logic.{◌≢◌, ◌⊎◌, inl, inr, ◌↔◌}
use mathlib.Core.Bool.{true}
use mathlib.Core.Option.{some}
use mathlib.Core.List.{List, ◌++◌}
use native.Mathlib.Omega.{arith}
use lib.ListN.{length, drop}
use lib.Seq.{take_at}
use Rattle.format.specs.Numbers.{Bytes}
use Rattle.format.specs.Refusals.{byte_limit}
use Rattle.format.specs.Items.{Items}
use Rattle.format.specs.Messages.{without_repeats}
use Rattle.format.specs.Tables.{table_of, words_needed, lawful, items_of}
use Rattle.format.specs.Normal.{normal}
use Rattle.format.specs.Answers.{Reading, over, reading, Writing, writing, Normalising, read_and, then_written, normalising}
use Rattle.format.proofs.Choices.{if_eq_yes, by_eq, both_true, le_true}
use Rattle.format.proofs.ReadProper.{read_proper, read_depth}
use Rattle.format.proofs.RoundTrip.{round_trip, normal_inj, normal_plain}
use Rattle.format.proofs.NormalBytes.{normal_bytes}
use Rattle.format.proofs.Minimal.{minimal}
use Rattle.format.proofs.TableLaws.{table_back}
use Rattle.message.specs.Words.{Says, Accepted, NoneDue, IsTable, Writable, Ready, given}
use Rattle.message.proofs.Cases.{Read, accepted, no_reading, WriteCase, written, no_writing, read_cases, read_due, items_of_table, write_cases, write_writable}

-- ---- Demand 1: "Give it anything: it answers and ends." Every answer is one of the numbers listed, and a refusal leaves what
-- is lent untouched.

pub reading_number : (m t : List ℕ) → (reading m t).number ≤ 11
reading_number m t = go (reading m t) (read_cases m t)
  where
    go : (r : Reading) → Read m t r → r.number ≤ 11
    go r (accepted xs f) = omega arith
    go r (no_reading n p w k a b c) = b

-- "Demand 1's answers include this number": the missing bytes, told up to 65,536
pub reading_missing : (m t : List ℕ) → (reading m t).missing ≤ byte_limit
reading_missing m t = go (reading m t) (read_cases m t)
  where
    go : (r : Reading) → Read m t r → r.missing ≤ byte_limit
    go r (accepted xs f) = omega arith
    go r (no_reading n p w k a b c) = c

pub refused_reading : (m t : List ℕ) → (reading m t).number ≢ 0 → (reading m t).table ≡ t
refused_reading m t = go (reading m t) (read_cases m t)
  where
    go : (r : Reading) → Read m t r → r.number ≢ 0 → r.table ≡ t
    go r (accepted xs f) n = absurd (n refl)
    go r (no_reading n p w k a b c) z = refl

pub writing_number : (w o : List ℕ) → ((writing w o).number ≡ 0) ⊎ ((12 ≤ (writing w o).number) × ((writing w o).number ≤ 15))
writing_number w o = go (writing w o) (write_cases w o)
  where
    go : (r : Writing) → WriteCase w o r → (r.number ≡ 0) ⊎ ((12 ≤ r.number) × (r.number ≤ 15))
    go r (written xs e f) = inl refl
    go r (no_writing n l a b) = inr (a, b)

pub refused_writing : (w o : List ℕ) → (writing w o).number ≢ 0 → (writing w o).output ≡ o
refused_writing w o = go (writing w o) (write_cases w o)
  where
    go : (r : Writing) → WriteCase w o r → r.number ≢ 0 → r.output ≡ o
    go r (written xs e f) n = absurd (n refl)
    go r (no_writing n l a b) z = refl

-- "if writing refuses, the table holds the reading and the output is untouched"
pub normalised_table : (m t o : List ℕ) → (normalising m t o).table ≡ (reading m t).table
unfolding normalising then_written
normalised_table m t o = by_eq (λ (r : Normalising). r.table ≡ (reading m t).table) (reading m t).number 0 (λ e. refl) (λ n. refl)

pub refused_normalising : (m t o : List ℕ) → (normalising m t o).number ≢ 0 → (normalising m t o).output ≡ o
unfolding normalising then_written
refused_normalising m t o =
    by_eq (λ (r : Normalising). r.number ≢ 0 → r.output ≡ o) (reading m t).number 0 (λ e. refused_writing (reading m t).table o) (λ n z. refl)

pub normalising_number : (m t o : List ℕ) → (normalising m t o).number ≤ 15
unfolding normalising then_written
normalising_number m t o =
    by_eq (λ (r : Normalising). r.number ≤ 15) (reading m t).number 0 (λ e. go (writing (reading m t).table o).number (writing_number (reading m t).table o))
    (λ n. omega (arith, reading_number m t))
  where
    go : (n : ℕ) → (n ≡ 0) ⊎ ((12 ≤ n) × (n ≤ 15)) → n ≤ 15
    go n (inl e) = omega arith
    go n (inr h) = h.1

-- ---- Demand 2: "Reading accepts exactly what the rules allow within the limits and the room lent, and the table then holds
-- exactly the items. Writing gives exactly their normal form."

pub accepted_exactly : (m t : List ℕ) → Accepted m t ↔ ((xs : Items) × NoneDue m xs (length t))
accepted_exactly m t = (λ e. go (reading m t) (read_cases m t) e, λ d. ap (λ r. r.number) (read_due m t d.0 d.1))
  where
    go : (r : Reading) → Read m t r → r.number ≡ 0 → (xs : Items) × NoneDue m xs (length t)
    go r (accepted xs f) e = (xs, f)
    go r (no_reading n p w k a b c) e = absurd (omega arith)

-- the whole answer and the whole table, the words past its own unchanged
pub accepted_table : (m t : List ℕ) (xs : Items) → NoneDue m xs (length t)
    → reading m t ≡ record { number = 0; place = 0; words = words_needed xs; missing = 0; table = table_of xs ++ drop (length (table_of xs)) t }
unfolding over
accepted_table m t xs d = read_due m t xs d

pub written_exactly : (w o : List ℕ) → ((writing w o).number ≡ 0) ↔ ((xs : Items) × IsTable w xs × Writable xs (length o))
written_exactly w o =
    (λ e. go (writing w o) (write_cases w o) e, λ d. ap (λ r. r.number) (write_writable w o d.0 (items_of_table w d.0 d.1) d.2))
  where
    go : (r : Writing) → WriteCase w o r → r.number ≡ 0 → (xs : Items) × IsTable w xs × Writable xs (length o)
    go r (written xs i f) e = (xs, i, f)
    go r (no_writing n l a b) e = absurd (omega arith)

-- the whole answer and the whole output, the bytes past the normal form unchanged
pub written_normal : (w o : List ℕ) (xs : Items) → IsTable w xs → Writable xs (length o)
    → writing w o ≡ record { number = 0; length = length (normal xs); output = normal xs ++ drop (length (normal xs)) o }
unfolding over
written_normal w o xs i f = write_writable w o xs (items_of_table w xs i) f

-- ---- Demand 3: "Two accepted messages normalise to the same bytes exactly when they say the same items in the same order. The
-- result is the normal form; it is accepted, says the same items, normalises to itself, and no accepted message without repeats
-- that says those items is shorter."

-- what reading lays out is a table of the message's items
pub read_table : (m t : List ℕ) (xs : Items) → Bytes m → NoneDue m xs (length t) → items_of (over (table_of xs) t) ≡ some xs
unfolding over lawful
read_table m t xs b d =
    table_back xs (drop (length (table_of xs)) t)
    (both_true _ _ (read_proper m xs b d.said) (both_true _ _ (le_true _ _ d.few_rows) (le_true _ _ d.few_words)))

-- normalising a message that is ready reads it, and writes the table that it laid out
then_normal : (o : List ℕ) (r : Reading) (xs : Items) → r.number ≡ 0 → items_of r.table ≡ some xs → Writable xs (length o)
    → then_written r o ≡ read_and r (record { number = 0; length = length (normal xs); output = over (normal xs) o })
unfolding then_written
then_normal o r xs z i f = if_eq_yes r.number 0 _ _ z ∙ ap (read_and r) (write_writable r.table o xs i f)

pub normalised_whole : (m t o : List ℕ) (xs : Items) → Bytes m → Ready m xs t o
    → normalising m t o
    ≡ record {
      number = 0;
      place = 0;
      words = words_needed xs;
      length = length (normal xs);
      missing = 0;
      table = over (table_of xs) t;
      output = over (normal xs) o;
    }
unfolding normalising
normalised_whole m t o xs b r =
    ap (λ x. then_written x o) (read_due m t xs r.read)
    ∙ then_normal o (record { number = 0; place = 0; words = words_needed xs; missing = 0; table = over (table_of xs) t }) xs refl (read_table m t xs b r.read)
    (record { shallow = read_depth m xs r.read.said; short = r.short; room = r.room })

-- "Under demand 3 normalising returns number 0", and what it gives is the message's normal form.
pub normalised : (m t o : List ℕ) (xs : Items) → Bytes m → Ready m xs t o → ((normalising m t o).number ≡ 0) × (given (normalising m t o) ≡ normal xs)
unfolding over
normalised m t o xs b r =
    subst (λ (a : Normalising). (a.number ≡ 0) × (given a ≡ normal xs)) (sym (normalised_whole m t o xs b r))
    (refl, take_at (normal xs) (drop (length (normal xs)) o) (length (normal xs)) refl)

-- the same bytes come out exactly when the two say the same items in the same order
pub same_exactly : (m n t u o p : List ℕ) (xs ys : Items) → Bytes m → Bytes n → Ready m xs t o → Ready n ys u p
    → (given (normalising m t o) ≡ given (normalising n u p)) ↔ (xs ≡ ys)
same_exactly m n t u o p xs ys b c r s =
    let e = (normalised m t o xs b r).1 in
    let f = (normalised n u p ys c s).1 in (
      λ q.
          normal_inj xs ys (read_proper m xs b r.read.said) (read_proper n ys c s.read.said) (read_depth m xs r.read.said) (read_depth n ys s.read.said)
          r.short (sym e ∙ q ∙ f),
      λ q. e ∙ ap normal q ∙ sym f,
    )

-- the normal form says the same items
pub normal_says : (m t o : List ℕ) (xs : Items) → Bytes m → Ready m xs t o → Bytes (normal xs) × Says (normal xs) xs
normal_says m t o xs b r = (
  normal_bytes xs (read_proper m xs b r.read.said) r.short,
  round_trip xs (read_proper m xs b r.read.said) (read_depth m xs r.read.said) r.short,
)

-- it is accepted, with room lent, and comes out of normalising unchanged
pub normal_ready : (m t o u p : List ℕ) (xs : Items) → Bytes m → Ready m xs t o → words_needed xs ≤ length u → length (normal xs) ≤ length p
    → Ready (normal xs) xs u p
normal_ready m t o u p xs b r hu hp =
    record {
      read = record { short = r.short; said = (normal_says m t o xs b r).1; few_rows = r.read.few_rows; few_words = r.read.few_words; room = hu };
      short = r.short;
      room = hp;
    }

pub normal_accepted : (m t o u : List ℕ) (xs : Items) → Bytes m → Ready m xs t o → words_needed xs ≤ length u → Accepted (normal xs) u
normal_accepted m t o u xs b r h =
    (accepted_exactly (normal xs) u).1 (xs, (normal_ready m t o u (normal xs) xs b r h (omega arith)).read)

pub normal_unchanged : (m t o u p : List ℕ) (xs : Items) → Bytes m → Ready m xs t o → words_needed xs ≤ length u → length (normal xs) ≤ length p
    → ((normalising (normal xs) u p).number ≡ 0) × (given (normalising (normal xs) u p) ≡ normal xs)
normal_unchanged m t o u p xs b r hu hp = normalised (normal xs) u p xs (normal_says m t o xs b r).0 (normal_ready m t o u p xs b r hu hp)

-- the normal form has "no repeats": it is itself one of the messages that it is held against
pub normal_without_repeats : (m t o : List ℕ) (xs : Items) → Bytes m → Ready m xs t o → without_repeats (normal xs) ≡ true
normal_without_repeats m t o xs b r = normal_plain xs (read_proper m xs b r.read.said) (read_depth m xs r.read.said) r.short

-- "no accepted message without repeats that says those items is shorter"
pub normal_shortest : (n u : List ℕ) (xs : Items) → Bytes n → Accepted n u → Says n xs → without_repeats n ≡ true → length (normal xs) ≤ length n
normal_shortest n u xs b a s w = minimal n xs b s w
