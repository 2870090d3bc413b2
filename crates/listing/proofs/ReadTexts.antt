-- The text of a message from what reading answers: whatever words the lent table held. Assumes nothing.
use mathlib.Core.Path.{◌≡◌, refl, sym, ap, ap₂, subst, ◌∙◌}
use mathlib.Core.Logic.{◌≢◌}
use mathlib.Core.Bool.{true}
use mathlib.Core.Option.{some}
use mathlib.Core.List.{List}
use Prim.Native.Nat.{ℕ, ◌≤◌, ◌<◌}
use native.Mathlib.Omega.{arith}
use lib.ListN.{length, drop, replicate, length-replicate}
use Rattle.format.specs.Choice.{if_lt}
use Rattle.format.specs.Numbers.{Bytes}
use Rattle.format.specs.Refusals.{byte_limit, row_limit, word_limit}
use Rattle.format.specs.Items.{Items}
use Rattle.format.specs.Messages.{Outcome, refused, says, outcome}
use Rattle.format.specs.Tables.{rows, data_words, table_of, words_needed, lawful, items_of}
use Rattle.format.specs.Answers.{Reading, over, laid, reading_of, reading}
use Rattle.format.proofs.Choices.{if_lt_yes, if_lt_no, if_eq_yes, if_eq_no, split, both_true, le_true}
use Rattle.format.proofs.ReadProper.{read_proper, read_depth}
use Rattle.format.proofs.TableLaws.{table_back}
use Rattle.message.proofs.Cases.{read_due}
use Rattle.message.proofs.Demands.{accepted_exactly}
use Rattle.listing.specs.Lines.{refused_text, listed, listing}
use Rattle.listing.specs.Listings.{Listable, accepted_of, listed_table}

-- ---- two readings with one number and place
record Alike (r s : Reading) : Type 0 where
  number : r.number ≡ s.number
  place : r.place ≡ s.place

as_is : {r s : Reading} → r.number ≡ s.number → r.place ≡ s.place → Alike r s
as_is n p = record { number = n; place = p }

alike_if : (a b : ℕ) {x y u v : Reading} → Alike x u → Alike y v → Alike (if_lt a b x y) (if_lt a b u v)
alike_if a b {x} {y} {u} {v} f g =
    split a b (λ h. rw (if_lt_yes a b x y h, if_lt_yes a b u v h) f) (λ h. rw (if_lt_no a b x y h, if_lt_no a b u v h) g)

alike_laid : (xs : Items) (t u : List ℕ) → length t ≡ length u → Alike (laid xs t) (laid xs u)
unfolding laid
alike_laid xs t u e =
    rw e (alike_if row_limit (rows xs) (as_is refl refl) (alike_if word_limit (length (data_words xs)) (as_is refl refl) (alike_if (length u) (words_needed xs) (as_is refl refl) (as_is refl refl))))

alike_outcome : (o : Outcome) (t u : List ℕ) → length t ≡ length u → Alike (reading_of o t) (reading_of o u)
unfolding reading_of
alike_outcome (refused f) t u e = as_is refl refl
alike_outcome (says xs) t u e = alike_laid xs t u e

alike_reading : (m t u : List ℕ) → length t ≡ length u → Alike (reading m t) (reading m u)
unfolding reading
alike_reading m t u e = alike_if byte_limit (length m) (as_is refl refl) (alike_outcome (outcome m) t u e)

items_over : (xs : Items) (t : List ℕ) → lawful xs ≡ true → items_of (over (table_of xs) t) ≡ some xs
unfolding over
items_over xs t h = table_back xs (drop (length (table_of xs)) t) h

-- ---- the text
pub long_text : (m : List ℕ) → 32768 < length m → refused_text 1 0 ≡ listing m
unfolding listing
long_text m h = sym (if_lt_yes 32768 (length m) _ _ h)

pub record Accepts (m w : List ℕ) : Type 0 where
  pub can : Listable (items_of w)
  pub text : accepted_of (items_of w) ≡ listing m

pub long_table : (m t : List ℕ) → 32768 < length m → t ≡ listed_table m t
unfolding listed_table
long_table m t h = sym (if_lt_yes 32768 (length m) _ _ h)

-- as the code answers: a text that was written over the output is the text k
pub shown : {k l : List ℕ} (o : List ℕ) {u t w : List ℕ} {r : ℕ} → l ≡ k → (r ≡ length l) × (u ≡ over l o) → w ≡ t → (r ≡ length k) × ((u ≡ over k o) × (w ≡ t))
shown o e f g = (f.0 ∙ ap length e, (f.1 ∙ ap (λ z. over z o) e, g))

-- a reading into a table of 8,000 zeros
fresh : List ℕ → Reading
fresh m = reading m (replicate 8000 0)

-- a is what reading a message answers, with a table of 8,000 words
module _ (m t : List ℕ) (short : length m ≤ 32768) (size : length t ≡ 8000) (a : Reading) (is : a ≡ reading m t) where
  pub read_table : a.table ≡ listed_table m t
  unfolding listed_table
  read_table = ap (λ r. r.table) is ∙ sym (if_lt_no 32768 (length m) _ _ short)

  alike : Alike a (fresh m)
  unfolding fresh
  alike = rw is (alike_reading m t (replicate 8000 0) (size ∙ sym (length-replicate {A = ℕ} 8000 0)))

  lines_of : listing m ≡ listed (outcome m) (fresh m)
  unfolding listing fresh
  lines_of = if_lt_no 32768 (length m) _ _ short

  pub refused_text_lem : a.number ≢ 0 → refused_text a.number a.place ≡ listing m
  unfolding listed
  refused_text_lem n = ap₂ refused_text alike.number alike.place ∙ go (outcome m) ∙ sym lines_of
    where
      go : (o : Outcome) → refused_text (fresh m).number (fresh m).place ≡ listed o (fresh m)
      go (refused f) = refl
      go (says xs) = sym (if_eq_no (fresh m).number 0 _ _ (λ z. n (alike.number ∙ z)))

  pub accepts : Bytes m → a.number ≡ 0 → Accepts m a.table
  unfolding accepted_of listed lawful
  accepts b z =
      let d = (accepted_exactly m t).0 (sym (ap (λ r. r.number) is) ∙ z) in
      let xs = d.0 in
      let f = d.1 in
      let r = f.room in
      let law : lawful xs ≡ true = both_true _ _ (read_proper m xs b f.said) (both_true _ _ (le_true (rows xs) row_limit f.few_rows) (le_true (length (data_words xs)) word_limit f.few_words)) in
      let i : items_of a.table ≡ some xs = ap (λ r. items_of r.table) (is ∙ read_due m t xs f) ∙ items_over xs t law in
      record {
        can = subst Listable (sym i) (read_depth m xs f.said, omega arith);
        text = ap accepted_of i ∙ sym (lines_of ∙ ap (λ o. listed o (fresh m)) f.said ∙ if_eq_yes (fresh m).number 0 _ _ (sym alike.number ∙ z));
      }
