-- Exactly when writing gives each number, and with which length: theorems about the function that the contract of the public
-- operation cites, as in Demands.antt. The words used are in specs/Words.antt. Assumes nothing.
use Prim.Native.Nat.{ℕ, ◌≤◌, ◌<◌}
use mathlib.Core.Path.{◌≡◌, refl, sym, ap, ◌∙◌}
use mathlib.Core.Logic.{◌≢◌, ◌↔◌}
use mathlib.Core.Option.{Option, none, some}
use mathlib.Core.List.{List, ◌++◌}
use native.Mathlib.Omega.{arith}
use lib.ListN.{length, take, drop, get_or, length-take}
use lib.Seq.{get_or-take}
use Rattle.format.specs.Refusals.{byte_limit, depth_limit}
use Rattle.format.specs.Items.{Items}
use Rattle.format.specs.Tables.{rows, data_words, table_of, words_needed, items_of}
use Rattle.format.specs.Normal.{normal, depth}
use Rattle.format.specs.Answers.{over, reading, Writing, writing_of, writing}
use Rattle.format.proofs.TableLaws.{table_length, lawful_proper, lawful_rows, lawful_words}
use Rattle.format.proofs.RoundTrip.{round_trip}
use Rattle.message.specs.Words.{IsTable, NoTable, Writable, headed}
use Rattle.message.proofs.Cases.{both_hold, both_fail, read_due, items_of_table, table_of_items, same_depth, same_length, write_by}

-- 12: "table to write not well formed"
pub writing_12 : (w o : List ℕ) → ((writing w o).number ≡ 12) ↔ NoTable w
writing_12 w o =
    write_by w o (λ (r : Writing). (r.number ≡ 12) ↔ NoTable w) (λ n. both_hold refl n)
    (λ xs i d. both_fail (λ z. omega arith) (λ n. n xs i)) (λ xs i d l. both_fail (λ z. omega arith) (λ n. n xs i))
    (λ xs i p r. both_fail (λ z. omega arith) (λ n. n xs i)) (λ xs i p. both_fail (λ z. omega arith) (λ n. n xs i))

-- 13: "more than sixteen of its STRUCs and EDTs one inside another"
pub writing_13 : (w o : List ℕ) → ((writing w o).number ≡ 13) ↔ ((xs : Items) × IsTable w xs × (depth_limit < depth xs))
writing_13 w o =
    write_by w o (λ (r : Writing). (r.number ≡ 13) ↔ ((xs : Items) × IsTable w xs × (depth_limit < depth xs)))
    (λ n. both_fail (λ z. omega arith) (λ x. n x.0 x.1)) (λ xs i d. both_hold refl (xs, i, d))
    (λ xs i d l. both_fail (λ z. omega arith) (λ x. omega (arith, same_depth w xs x.0 i x.1, x.2)))
    (λ xs i p r. both_fail (λ z. omega arith) (λ x. omega (arith, p.shallow, same_depth w xs x.0 i x.1, x.2)))
    (λ xs i p. both_fail (λ z. omega arith) (λ x. omega (arith, p.shallow, same_depth w xs x.0 i x.1, x.2)))

-- 14: "normal form over 65,536 bytes"
pub writing_14 : (w o : List ℕ)
    → ((writing w o).number ≡ 14) ↔ ((xs : Items) × IsTable w xs × (depth xs ≤ depth_limit) × (byte_limit < length (normal xs)))
writing_14 w o =
    write_by w o (λ (r : Writing). (r.number ≡ 14) ↔ ((xs : Items) × IsTable w xs × (depth xs ≤ depth_limit) × (byte_limit < length (normal xs))))
    (λ n. both_fail (λ z. omega arith) (λ x. n x.0 x.1))
    (λ xs i d. both_fail (λ z. omega arith) (λ x. omega (arith, same_depth w xs x.0 i x.1, x.2)))
    (λ xs i d l. both_hold refl (xs, i, d, l))
    (λ xs i p r. both_fail (λ z. omega arith) (λ x. omega (arith, p.short, same_length w xs x.0 i x.1, x.3)))
    (λ xs i p. both_fail (λ z. omega arith) (λ x. omega (arith, p.short, same_length w xs x.0 i x.1, x.3)))

-- 15: "lent output too short": it is shorter than the normal form, and one as long would be written
pub writing_15 : (w o : List ℕ)
    → ((writing w o).number ≡ 15) ↔ ((xs : Items) × IsTable w xs × Writable xs (length (normal xs)) × (length o < length (normal xs)))
writing_15 w o =
    write_by w o (λ (r : Writing). (r.number ≡ 15) ↔ ((xs : Items) × IsTable w xs × Writable xs (length (normal xs)) × (length o < length (normal xs))))
    (λ n. both_fail (λ z. omega arith) (λ x. n x.0 x.1))
    (λ xs i d. both_fail (λ z. omega arith) (λ x. omega (arith, same_depth w xs x.0 i x.1, x.2.shallow)))
    (λ xs i d l. both_fail (λ z. omega arith) (λ x. omega (arith, same_length w xs x.0 i x.1, x.2.short)))
    (λ xs i p r. both_hold refl (xs, i, p, r))
    (λ xs i p. both_fail (λ z. omega arith) (λ x. omega (arith, p.room, same_length w xs x.0 i x.1, x.3)))

-- an output of 65,536 bytes is always enough
pub output_enough : (w o : List ℕ) → byte_limit ≤ length o → (writing w o).number ≢ 15
output_enough w o h e = let x = (writing_15 w o).0 e in omega (arith, x.2.short, x.3)

-- "number and length: written (0) or needed (15)"
pub length_needed : (w o : List ℕ) (xs : Items) → IsTable w xs → (writing w o).number ≡ 15 → (writing w o).length ≡ length (normal xs)
length_needed w o xs i =
    write_by w o (λ (r : Writing). r.number ≡ 15 → r.length ≡ length (normal xs)) (λ n z. absurd (n xs i)) (λ ys j d z. absurd (omega arith))
    (λ ys j d l z. absurd (omega arith)) (λ ys j p r z. same_length w ys xs j i) (λ ys j p z. absurd (omega arith))

-- "otherwise 0"
pub no_length : (w o : List ℕ) → 12 ≤ (writing w o).number → (writing w o).number ≤ 14 → (writing w o).length ≡ 0
no_length w o =
    write_by w o (λ (r : Writing). 12 ≤ r.number → r.number ≤ 14 → r.length ≡ 0) (λ n a b. refl) (λ xs i d a b. refl) (λ xs i d l a b. refl)
    (λ xs i p r a b. absurd (omega arith)) (λ xs i p a b. absurd (omega arith))

-- ---- "Words past the data belong to the caller and are neither read nor changed."

-- a table has as many words as its header says
headed_table : (w : List ℕ) (xs : Items) → IsTable w xs → headed w ≡ length (table_of xs)
unfolding table_of words_needed
headed_table w xs i =
    let n = length (table_of xs) in
    let l = table_length xs in
    let r : get_or w 0 0 ≡ rows xs = sym (get_or-take n w 0 0 (omega arith)) ∙ ap (λ l. get_or l 0 0) i.exact in
    let d : get_or w 3 0 ≡ length (data_words xs) = sym (get_or-take n w 3 0 (omega arith)) ∙ ap (λ l. get_or l 3 0) i.exact in
    omega arith

-- words that agree as far as a header says have one header
same_header : (w v : List ℕ) → take (headed w) w ≡ take (headed w) v → headed w ≡ headed v
same_header w v e =
    let n = headed w in
    let word : (k : ℕ) → k < n → get_or w k 0 ≡ get_or v k 0 = λ k h. sym (get_or-take n w k 0 h) ∙ ap (λ l. get_or l k 0) e ∙ get_or-take n v k 0 h in
    omega (arith, word 0 (omega arith), word 3 (omega arith))

front_table : (w v : List ℕ) (xs : Items) → take (headed w) w ≡ take (headed w) v → IsTable w xs → IsTable v xs
front_table w v xs e i =
    let h = headed_table w xs i in
    record { lawful = i.lawful; exact = ap (λ n. take n v) (sym h) ∙ sym e ∙ ap (λ n. take n w) h ∙ i.exact }

same_option : (a b : Option Items) → ((xs : Items) → a ≡ some xs → b ≡ some xs) → ((xs : Items) → b ≡ some xs → a ≡ some xs) → a ≡ b
same_option none none f g = refl
same_option none (some y) f g = g y refl
same_option (some x) b f g = sym (f x refl)

pub same_items_lem : (w v : List ℕ) → take (headed w) w ≡ take (headed w) v → items_of w ≡ items_of v
same_items_lem w v e =
    let f : take (headed v) v ≡ take (headed v) w = ap (λ n. take n v) (sym (same_header w v e)) ∙ sym e ∙ ap (λ n. take n w) (same_header w v e) in
    same_option (items_of w) (items_of v) (λ xs i. items_of_table v xs (front_table w v xs e (table_of_items w xs i)))
    (λ xs i. items_of_table w xs (front_table v w xs f (table_of_items v xs i)))

-- any words, a table or not, that agree as far as the header says are answered alike, whatever stands behind
pub past_unread : (w v o : List ℕ) → take (headed w) w ≡ take (headed w) v → writing w o ≡ writing v o
unfolding writing
past_unread w v o e = ap (λ i. writing_of i o) (same_items_lem w v e)

-- fewer words than the header says are no table
pub short_no_table : (w : List ℕ) → length w < headed w → NoTable w
short_no_table w h xs i =
    let k = headed_table w xs i in
    omega (arith, length-take (length (table_of xs)) w, ap length i.exact)

-- ---- what was written is accepted, and reads back as the same table

pub written_back : (w u : List ℕ) (xs : Items) (n : ℕ) → IsTable w xs → Writable xs n → words_needed xs ≤ length u
    → reading (normal xs) u ≡ record { number = 0; place = 0; words = words_needed xs; missing = 0; table = table_of xs ++ drop (length (table_of xs)) u }
unfolding over
written_back w u xs n i f h =
    read_due (normal xs) u xs
    (record {
      short = f.short;
      said = round_trip xs (lawful_proper xs i.lawful) f.shallow f.short;
      few_rows = lawful_rows xs i.lawful;
      few_words = lawful_words xs i.lawful;
      room = h;
    })
