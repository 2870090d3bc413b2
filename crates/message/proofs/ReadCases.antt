-- What reading answers, by what the scan found. Assumes nothing.
use Prim.Native.Nat.{ℕ, ◌+◌, ◌*◌, ◌≤◌, ◌<◌, min}
use mathlib.Core.Path.{◌≡◌, sym, ap, ◌∙◌}
use mathlib.Core.List.{List}
use mathlib.Core.Bool.{Bool, true, false}
use mathlib.Core.Logic.{◌⊎◌, inl, inr, ◌↔◌}
use Rattle.std.specs.Bool.{IsTrue}
use Rattle.std.specs.Prelude.{Ok, Err}
use native.Mathlib.Omega.{arith}
use lib.ListN.{length}
use Rattle.format.specs.Refusals.{Fault, byte_limit, row_limit, word_limit}
use Rattle.format.specs.Messages.{Outcome, refused, says, outcome}
use Rattle.format.specs.Tables.{rows, data_words, words_needed}
use Rattle.format.specs.Answers as A
use Rattle.format.proofs.Choices.{if_lt_yes, if_lt_no, split}
use Rattle.scan.specs.declared.summary.Summary.{Summary}
use Rattle.scan.specs.Sums.{sum_of}
use Rattle.scan.specs.Answer.{answer}
use Rattle.fill.specs.Whole.{Roomy, laid_out}
use Rattle.message.specs.declared.Reading.{Reading}
use Rattle.message.specs.Told.{read_answer, fault_answer, read_told}

pub read_long : (m t : List ℕ) → 65536 < length m → read_told (read_answer 1 0) t ≡ A.reading m t
unfolding A.reading
read_long m t h = sym (if_lt_yes byte_limit (length m) _ _ h)

pub read_short : (m t : List ℕ) → length m ≤ 65536 → A.reading_of (outcome m) t ≡ A.reading m t
unfolding A.reading
read_short m t h = sym (if_lt_no byte_limit (length m) _ _ h)

pub read_refused : (o : Outcome) (t : List ℕ) (x : Fault) → Err x ≡ answer o → read_told (fault_answer x) t ≡ A.reading_of o t
unfolding answer A.reading_of
read_refused (refused f) t x e = let a : x ≡ f = cc in ap (λ y. read_told (fault_answer y) t) a
read_refused (says xs) t x e = let z : ◌≡◌ {A = ℕ} 0 1 = cc in absurd (omega arith)

pub read_rows : (o : Outcome) (t : List ℕ) (s : Summary) → Ok s ≡ answer o → 16384 < s.rows → read_told (read_answer 10 0) t ≡ A.reading_of o t
unfolding answer sum_of A.reading_of A.laid
read_rows (refused f) t s e h = let z : ◌≡◌ {A = ℕ} 0 1 = cc in absurd (omega arith)
read_rows (says xs) t s e h =
    let r : s.rows ≡ min (rows xs) 524288 = ap (λ (x : Summary). x.rows) (let q : s ≡ sum_of xs = cc in q) in
    sym (if_lt_yes row_limit (rows xs) _ _ (omega arith))

pub read_words : (o : Outcome) (t : List ℕ) (s : Summary) → Ok s ≡ answer o → s.rows ≤ 16384 → 16384 < s.words
    → read_told (read_answer 10 0) t ≡ A.reading_of o t
unfolding answer sum_of A.reading_of A.laid
read_words (refused f) t s e hr h = let z : ◌≡◌ {A = ℕ} 0 1 = cc in absurd (omega arith)
read_words (says xs) t s e hr h =
    let q : s ≡ sum_of xs = cc in
    let r : s.rows ≡ min (rows xs) 524288 = ap (λ (x : Summary). x.rows) q in
    let w : s.words ≡ min (length (data_words xs)) 65536 = ap (λ (x : Summary). x.words) q in
    sym (if_lt_no row_limit (rows xs) _ _ (omega arith) ∙ if_lt_yes word_limit (length (data_words xs)) _ _ (omega arith))

-- a message with too many of either, as the code tells it
pub many_told : (m t : List ℕ) (r : Reading) (s : Summary) (b : Bool) → Ok s ≡ answer (outcome m) → r ≡ read_answer 10 0 → length m ≤ 65536
    → (IsTrue b ↔ ((row_limit < s.rows) ⊎ (word_limit < s.words))) → b ≡ true → read_told r t ≡ A.reading m t
many_told m t r s b e a l w y = ap (λ r. read_told r t) a ∙ go (w.0 y) ∙ read_short m t l
  where
    go : (row_limit < s.rows) ⊎ (word_limit < s.words) → read_told (read_answer 10 0) t ≡ A.reading_of (outcome m) t
    go (inl h) = read_rows (outcome m) t s e h
    go (inr h) = split row_limit s.rows (λ g. read_rows (outcome m) t s e g) (λ g. read_words (outcome m) t s e g h)

-- one of neither
pub few : (s : Summary) (b : Bool) → (IsTrue b ↔ ((row_limit < s.rows) ⊎ (word_limit < s.words))) → b ≡ false → (s.rows ≤ row_limit) × (s.words ≤ word_limit)
few s b w n =
    let no : (row_limit < s.rows) ⊎ (word_limit < s.words) → ⊥ = λ o. let z = w.1 o in cc in (
      split row_limit s.rows (λ g. absurd (no (inl g))) (λ g. g),
      split word_limit s.words (λ g. absurd (no (inr g))) (λ g. g),
    )

pub read_room : (o : Outcome) (t : List ℕ) (s : Summary) → Ok s ≡ answer o → s.rows ≤ 16384 → s.words ≤ 16384
    → length t < 4 + 3 * s.rows + s.words → read_told (read_answer 11 (4 + 3 * s.rows + s.words)) t ≡ A.reading_of o t
unfolding answer sum_of A.reading_of A.laid words_needed
read_room (refused f) t s e hr hw h = let z : ◌≡◌ {A = ℕ} 0 1 = cc in absurd (omega arith)
read_room (says xs) t s e hr hw h =
    let q : s ≡ sum_of xs = cc in
    let r : s.rows ≡ min (rows xs) 524288 = ap (λ (x : Summary). x.rows) q in
    let w : s.words ≡ min (length (data_words xs)) 65536 = ap (λ (x : Summary). x.words) q in
    let n : 4 + 3 * s.rows + s.words ≡ 4 + 3 * rows xs + length (data_words xs) = omega arith in
    ap (λ k. read_told (read_answer 11 k) t) n
    ∙ sym (if_lt_no row_limit (rows xs) _ _ (omega arith) ∙ if_lt_no word_limit (length (data_words xs)) _ _ (omega arith)
    ∙ if_lt_yes (length t) (4 + 3 * rows xs + length (data_words xs)) _ _ (omega arith))

pub roomy : (o : Outcome) (s : Summary) (len : ℕ) → Ok s ≡ answer o → s.rows ≤ 16384 → s.words ≤ 16384 → 4 + 3 * s.rows + s.words ≤ len
    → Roomy o s.rows s.words len
unfolding answer sum_of Roomy words_needed
roomy (refused f) s len e hr hw h = let z : ◌≡◌ {A = ℕ} 0 1 = cc in absurd (omega arith)
roomy (says xs) s len e hr hw h =
    let q : s ≡ sum_of xs = cc in
    let r : s.rows ≡ min (rows xs) 524288 = ap (λ (x : Summary). x.rows) q in
    let w : s.words ≡ min (length (data_words xs)) 65536 = ap (λ (x : Summary). x.words) q in
    (omega arith, omega arith, omega arith, omega arith, omega arith)

pub read_well : (o : Outcome) (t : List ℕ) (s : Summary) → Ok s ≡ answer o → s.rows ≤ 16384 → s.words ≤ 16384
    → 4 + 3 * s.rows + s.words ≤ length t → read_told (read_answer 0 (4 + 3 * s.rows + s.words)) (laid_out o t) ≡ A.reading_of o t
unfolding answer sum_of A.reading_of A.laid words_needed laid_out
read_well (refused f) t s e hr hw h = let z : ◌≡◌ {A = ℕ} 0 1 = cc in absurd (omega arith)
read_well (says xs) t s e hr hw h =
    let q : s ≡ sum_of xs = cc in
    let r : s.rows ≡ min (rows xs) 524288 = ap (λ (x : Summary). x.rows) q in
    let w : s.words ≡ min (length (data_words xs)) 65536 = ap (λ (x : Summary). x.words) q in
    let n : 4 + 3 * s.rows + s.words ≡ 4 + 3 * rows xs + length (data_words xs) = omega arith in
    ap (λ k. read_told (read_answer 0 k) (laid_out (says xs) t)) n
    ∙ sym (if_lt_no row_limit (rows xs) _ _ (omega arith) ∙ if_lt_no word_limit (length (data_words xs)) _ _ (omega arith)
    ∙ if_lt_no (length t) (4 + 3 * rows xs + length (data_words xs)) _ _ (omega arith))
