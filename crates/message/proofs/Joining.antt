-- Ask 8: "The desk glues two messages end to end. Prove the rule of it." Theorems about the functions that the contracts of the public
-- operations cite, as in Demands.antt. The words used are in specs/Words.antt. Assumes nothing.
use Prim.Native.Nat.{ℕ, ◌+◌, ◌≤◌}
use mathlib.Core.Path.{◌≡◌, sym, ap, ap₂, ◌∙◌}
use mathlib.Core.List.{List, ◌++◌}
use native.Mathlib.Omega.{arith}
use lib.ListN.{length, drop, get_or, length-append}
use Rattle.format.specs.Numbers.{Bytes}
use Rattle.format.specs.Refusals.{further, byte_limit, row_limit, word_limit}
use Rattle.format.specs.Items.{Items, join}
use Rattle.format.specs.Tables.{rows, data_words, table_of, words_needed}
use Rattle.format.specs.Normal.{normal}
use Rattle.format.specs.Answers.{Reading, over, reading, then_written, normalising}
use Rattle.format.proofs.Choices.{if_eq_no}
use Rattle.format.proofs.Counts.{rows_join, words_join, needed_join}
use Rattle.format.proofs.Digits.{bytes_append}
use Rattle.format.proofs.Growing.{says_joined, refused_joined}
use Rattle.format.proofs.ItemLaws.{join_normal}
use Rattle.message.specs.Words.{Says, Accepted, NoneDue, Ready, given, Together}
use Rattle.message.proofs.Cases.{said_once, read_fault}
use Rattle.message.proofs.ReadExactly.{told_fault, fault_told}
use Rattle.message.proofs.Demands.{accepted_exactly, accepted_table, normalised_whole, normalised}
use Rattle.message.proofs.NormaliseExactly.{normalising_0}

-- ---- "the joined message is accepted and says the first's items and then the second's"
module _ (a b t u v : List ℕ) (xs ys : Items) (j : Together a b t u xs ys) (room : words_needed (join xs ys) ≤ length v) where
  joined_due : NoneDue (a ++ b) (join xs ys) (length v)
  joined_due =
      record {
        short = omega (arith, length-append a b, j.short);
        said = says_joined a b xs ys j.first_says j.second_says;
        few_rows = omega (arith, rows_join xs ys, j.few_rows);
        few_words = omega (arith, words_join xs ys, j.few_words);
        room = room;
      }

  pub joined_accepted : Accepted (a ++ b) v × Says (a ++ b) (join xs ys)
  joined_accepted = ((accepted_exactly (a ++ b) v).1 (join xs ys, joined_due), joined_due.said)

  -- the whole answer: the table is that of the joined items
  pub joined_table : reading (a ++ b) v
      ≡ record { number = 0; place = 0; words = words_needed (join xs ys); missing = 0; table = table_of (join xs ys) ++ drop (length (table_of (join xs ys))) v }
  joined_table = accepted_table (a ++ b) v (join xs ys) joined_due

  -- "Its normal form is their normal forms joined, where those together are at most 65,536 bytes": the whole answer of normalising
  pub joined_normal : (o : List ℕ) → Bytes a → Bytes b → length (normal xs ++ normal ys) ≤ byte_limit → length (normal xs ++ normal ys) ≤ length o
      → normalising (a ++ b) v o
      ≡ record {
        number = 0;
        place = 0;
        words = words_needed (join xs ys);
        length = length (normal xs ++ normal ys);
        missing = 0;
        table = table_of (join xs ys) ++ drop (length (table_of (join xs ys))) v;
        output = (normal xs ++ normal ys) ++ drop (length (normal xs ++ normal ys)) o;
      }
  unfolding over
  joined_normal o p q l r =
      let e = join_normal xs ys in
      let k = ap length e in
      let ready : Ready (a ++ b) (join xs ys) v o = record { read = joined_due; short = omega arith; room = omega arith } in
      rw e at (normalised_whole (a ++ b) v o (join xs ys) (bytes_append a b p q) ready)

-- the same of what normalising gives: where it answers 0 for the two and for both joined, the second's bytes stand behind the first's
pub joined_given : (a b t u v o p q : List ℕ) → Bytes a → Bytes b → (normalising a t o).number ≡ 0 → (normalising b u p).number ≡ 0
    → (normalising (a ++ b) v q).number ≡ 0
    → given (normalising (a ++ b) v q) ≡ given (normalising a t o) ++ given (normalising b u p)
joined_given a b t u v o p q x y e f g =
    let both = bytes_append a b x y in
    let i = (normalising_0 a t o x).0 e in
    let j = (normalising_0 b u p y).0 f in
    let k = (normalising_0 (a ++ b) v q both).0 g in
    let zs = said_once (a ++ b) k.0 (join i.0 j.0) k.1.read.said (says_joined a b i.0 j.0 i.1.read.said j.1.read.said) in
    (normalised (a ++ b) v q k.0 both k.1).1 ∙ ap normal zs ∙ join_normal i.0 j.0
    ∙ sym (ap₂ (λ m n. m ++ n) (normalised a t o i.0 x i.1).1 (normalised b u p j.0 y j.1).1)

-- ---- "If the first is accepted and the second refused with 2 to 9, the joined message, its length within the limit, is refused alike,
-- its place moved by the first's length." The number and the missing bytes are the second's, and the table is as lent.
module _ (a b t u v : List ℕ) (first : Accepted a t) (lo : 2 ≤ (reading b u).number) (hi : (reading b u).number ≤ 9) (short : length a + length b ≤ byte_limit) where
  pub joined_refused : reading (a ++ b) v
      ≡ record { number = (reading b u).number; place = length a + (reading b u).place; words = 0; missing = (reading b u).missing; table = v }
  unfolding further
  joined_refused =
      let x = (accepted_exactly a t).0 first in
      read_fault (a ++ b) v (further (length a) (told_fault (reading b u))) (omega (arith, length-append a b))
      (refused_joined a b x.0 (told_fault (reading b u)) x.1.said (fault_told b u lo hi))

  -- so is normalising it, and the output is as lent
  pub joined_unwritten : (o : List ℕ) → normalising (a ++ b) v o
      ≡ record {
        number = (reading b u).number;
        place = length a + (reading b u).place;
        words = 0;
        length = 0;
        missing = (reading b u).missing;
        table = v;
        output = o;
      }
  unfolding normalising then_written
  joined_unwritten o =
      ap (λ r. then_written r o) joined_refused ∙ if_eq_no (reading b u).number 0 _ _ (omega arith)

-- ---- as the two answers tell it
-- A table's word 0 is its rows, word 3 its data words, and the words answered are those that it has.
told_words : (m t : List ℕ) → Accepted m t
    → (xs : Items) × Says m xs × (get_or (reading m t).table 0 0 ≡ rows xs) × (get_or (reading m t).table 3 0 ≡ length (data_words xs))
    × ((reading m t).words ≡ words_needed xs)
unfolding table_of
told_words m t e =
    let x = (accepted_exactly m t).0 e in
    let w = accepted_table m t x.0 x.1 in
    (x.0, x.1.said, ap (λ (r : Reading). get_or r.table 0 0) w, ap (λ (r : Reading). get_or r.table 3 0) w, ap (λ (r : Reading). r.words) w)

-- So the desk can know by what it was answered: a table for both wants the words of each, and one header less.
pub joined_told : (a b t u v : List ℕ) → Accepted a t → Accepted b u → length a + length b ≤ byte_limit
    → get_or (reading a t).table 0 0 + get_or (reading b u).table 0 0 ≤ row_limit
    → get_or (reading a t).table 3 0 + get_or (reading b u).table 3 0 ≤ word_limit
    → (reading a t).words + (reading b u).words ≤ 4 + length v
    → ((reading (a ++ b) v).number ≡ 0) × (4 + (reading (a ++ b) v).words ≡ (reading a t).words + (reading b u).words)
joined_told a b t u v p q l r d n =
    let x = told_words a t p in
    let y = told_words b u q in
    let xs = x.0 in
    let ys = y.0 in
    let j : Together a b t u xs ys =
    record {
      first = p;
      second = q;
      first_says = x.1;
      second_says = y.1;
      short = l;
      few_rows = omega (arith, x.2, y.2);
      few_words = omega (arith, x.3, y.3);
    }
    in
    let room : words_needed (join xs ys) ≤ length v = omega (arith, needed_join xs ys, x.4, y.4) in
    let w = joined_table a b t u v xs ys j room in
    (ap (λ (z : Reading). z.number) w, omega (arith, ap (λ (z : Reading). z.words) w, needed_join xs ys, x.4, y.4))
