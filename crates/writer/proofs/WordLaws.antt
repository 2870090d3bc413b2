-- Bits in data words as they are written: word by word, and then the first bytes of a last word. Assumes nothing.
use mathlib.Core.Path.{◌≡◌, refl, sym, ap, ap₂, ◌∙◌}
use mathlib.Core.List.{List, [], ◌++◌}
use mathlib.Core.Bool.{Bool}
use Prim.Native.Nat.{ℕ, ◌+◌, ◌-◌, ◌*◌, ◌/◌, ◌%◌, ◌^◌, ◌<◌, ◌≤◌}
use native.Mathlib.Omega.{arith}
use native.Mathlib.Nat.{mod-eq_of_lt}
use lib.ListN.{length, take, drop, get_or, drop_of_length-le, length-drop}
use lib.Seq.{drop_at, drop-drop, get_or-drop, get_or-take, length-take-le}
use Rattle.format.specs.Numbers.{be}
use Rattle.format.specs.Bits.{adjusted, packed, bytes_for, words_for}
use Rattle.format.specs.Tables.{from_words}
use Rattle.format.specs.Answers.{over}
use Rattle.format.proofs.Digits.{be_length}
use Rattle.format.proofs.Marker.{pow_bytes}
use Rattle.format.proofs.BitLaws.{adjusted_lt, adjusted_div, packed_length, packed_parts}
use Rattle.table.specs.Rows.{data_of, Kept, kept_bytes}
use Rattle.writer.specs.Forms.{Held}
use Rattle.format.specs.Lent.{over_at}
use Rattle.format.proofs.Over.{over_length, at_front, at_none, at_next, back_length, lent}
use Rattle.table.proofs.BitRows.{packed_be}
use Rattle.table.proofs.RowData.{kept_length, kept_at, kept_in}

-- the first k bytes of a word
packed_high : (k : ℕ) (bs : List Bool) → k ≤ 8 → packed 8 k bs ≡ be k (adjusted 64 bs / 2 ^ (64 - 8 * k) % 256 ^ k)
packed_high k bs h =
    let q : 8 * k + (64 - 8 * k) ≡ 64 = omega arith in
    let d : adjusted 64 bs / 2 ^ (64 - 8 * k) ≡ adjusted (8 * k) bs = ap (λ n. adjusted n bs / 2 ^ (64 - 8 * k)) (sym q) ∙ adjusted_div (8 * k) (64 - 8 * k) bs in
    let l : adjusted (8 * k) bs < 256 ^ k = rw (← pow_bytes k) (adjusted_lt (8 * k) bs) in
    packed_be k bs ∙ ap (be k) (sym (ap (λ x. x % 256 ^ k) d ∙ mod-eq_of_lt l))

pub record Laying (w : List ℕ) (b n : ℕ) (old out : List ℕ) (i : ℕ) : Type 0 where
  pub same : length out ≡ length old
  pub left : over (kept_bytes w b n) old ≡ over_at (8 * i) (drop (8 * i) (kept_bytes w b n)) out

pub laying_starts : (w : List ℕ) (b n : ℕ) (old : List ℕ) → Laying w b n old old 0
laying_starts w b n old = record { same = refl; left = unfold over_at in refl }

module _ (w : List ℕ) (b n : ℕ) (r : Kept w b n) where
  -- the bytes from the word i on are those of the bits from there
  bytes_from : (i : ℕ) → 8 * i ≤ bytes_for n → drop (8 * i) (kept_bytes w b n) ≡ packed 8 (bytes_for n - 8 * i) (drop (64 * i) (from_words n b (data_of w)))
  unfolding kept_bytes
  bytes_from i h =
      let bs = from_words n b (data_of w) in
      let m = bytes_for n in
      let e : m ≡ 8 * i + (m - 8 * i) = omega arith in
      let q : 8 * (8 * i) ≡ 64 * i = omega arith in
      let whole : packed 8 m bs ≡ packed 8 (8 * i) bs ++ packed 8 (m - 8 * i) (drop (8 * (8 * i)) bs) =
      ap (λ k. packed 8 k bs) e ∙ packed_parts 8 (8 * i) (m - 8 * i) bs in
      ap (drop (8 * i)) whole ∙ drop_at (packed 8 (8 * i) bs) _ (8 * i) (packed_length 8 (8 * i) bs) ∙ ap (λ k. packed 8 (m - 8 * i) (drop k bs)) q

  bytes_next : (i : ℕ) → 8 * i + 8 ≤ bytes_for n →
      drop (8 * i) (kept_bytes w b n) ≡ be 8 (get_or w (3 * get_or w 0 0 + 4 + b + i) 0) ++ drop (8 * (i + 1)) (kept_bytes w b n)
  bytes_next i h =
      let bs = from_words n b (data_of w) in
      let m = bytes_for n in
      let e : m - 8 * i ≡ 8 + (m - 8 * (i + 1)) = omega arith in
      let q : 64 * i + 64 ≡ 64 * (i + 1) = omega arith in
      let word = kept_at w b n r i (unfold bytes_for words_for in omega arith) in
      bytes_from i (omega arith) ∙ ap (λ k. packed 8 k (drop (64 * i) bs)) e ∙ packed_parts 8 8 (m - 8 * (i + 1)) (drop (64 * i) bs)
      ∙ ap₂ ◌++◌ (packed_be 8 (drop (64 * i) bs) ∙ ap (be 8) (sym word))
      (ap (packed 8 (m - 8 * (i + 1))) (drop-drop 64 (64 * i) bs ∙ ap (λ k. drop k bs) q) ∙ sym (bytes_from (i + 1) (omega arith)))

  bytes_last : (i k : ℕ) → 8 * i + k ≡ bytes_for n → 0 < k → k < 8 →
      drop (8 * i) (kept_bytes w b n) ≡ be k (get_or w (3 * get_or w 0 0 + 4 + b + i) 0 / 2 ^ (64 - 8 * k) % 256 ^ k)
  bytes_last i k e g h =
      let bs = from_words n b (data_of w) in
      let q : bytes_for n - 8 * i ≡ k = omega arith in
      let word = kept_at w b n r i (unfold bytes_for words_for in omega arith) in
      bytes_from i (omega arith) ∙ ap (λ j. packed 8 j (drop (64 * i) bs)) q ∙ packed_high k (drop (64 * i) bs) (omega arith)
      ∙ ap (λ x. be k (x / 2 ^ (64 - 8 * k) % 256 ^ k)) (sym word)

  -- where the code reads
  pub word_in : (i : ℕ) → 8 * i < (n + 7) / 8 → 3 * get_or w 0 0 + 4 + b + i < length w
  unfolding words_for
  word_in i h = kept_in w b n r i (omega arith)

-- the words that hold them, as the code takes them
pub words_there : (w : List ℕ) (b n : ℕ) → Kept w b n → 3 * get_or w 0 0 + 4 + b + (n + 63) / 64 ≤ length w
unfolding words_for
words_there w b n r = let s = r.stored in omega arith

pub words_held : (w : List ℕ) (b f k : ℕ) → f ≡ 3 * get_or w 0 0 + 4 + b → f + k ≤ length w → Held w b (take (f + k - f) (drop f w))
words_held w b f k e h i l =
    let d : i < f + k - f = omega (arith, length-take-le (f + k - f) (drop f w) (omega (arith, length-drop f w))) in
    get_or-take (f + k - f) (drop f w) i 0 d ∙ get_or-drop f w i 0 ∙ ap (λ z. get_or w (z + i) 0) e

pub ruleset holding = (words_there, words_held)

-- the whole words among them
pub whole_length : (n k : ℕ) (ws : List ℕ) → length ws ≡ (n + 63) / 64 → k ≡ (n + 7) / 8 / 8 → length (take k ws) ≡ k
whole_length n k ws e q = length-take-le k ws (omega arith)

pub whole_word : (w : List ℕ) (b n k i : ℕ) (ws : List ℕ) → length ws ≡ (n + 63) / 64 → Held w b ws → k ≡ (n + 7) / 8 / 8 → i < k → get_or (take k ws) i 0 ≡ get_or w (3 * get_or w 0 0 + 4 + b + i) 0
whole_word w b n k i ws e h q l = get_or-take k ws i 0 l ∙ h i (omega arith)

module _ (w : List ℕ) (b n : ℕ) (old : List ℕ) (r : Kept w b n) (room : (n + 7) / 8 ≤ length old) (out : List ℕ) (i : ℕ) (s : Laying w b n old out i) where
  pub laying_on : (ys : List ℕ) → 8 * i + 8 ≤ (n + 7) / 8 → length ys ≡ length (take (length out - 8 * i) (drop (8 * i) out)) →
      ys ≡ over (be 8 (get_or w (3 * get_or w 0 0 + 4 + b + i) 0)) (take (length out - 8 * i) (drop (8 * i) out)) →
      Laying w b n old (take (8 * i) out ++ (ys ++ drop (length out - 8 * i) (drop (8 * i) out))) (i + 1)
  unfolding bytes_for
  laying_on ys h l e =
      let word = be 8 (get_or w (3 * get_or w 0 0 + 4 + b + i) 0) in
      let j : length word ≡ 8 = be_length 8 _ in
      let k : 8 * i + length word ≡ 8 * (i + 1) = omega arith in
      let m = drop (8 * (i + 1)) (kept_bytes w b n) in
      let z = s.same in
      let after = take (8 * i) out ++ (ys ++ drop (length out - 8 * i) (drop (8 * i) out)) in
      record {
        same = back_length (8 * i) out ys (omega (arith, room)) l ∙ z;
        left = s.left ∙ ap (λ x. over_at (8 * i) x out) (bytes_next w b n r i h)
            ∙ sym (at_next (8 * i) word m out after (8 * (i + 1)) (omega (arith, room)) (lent (8 * i) word out ys e) (sym k));
      }

  pub laying_last : (k : ℕ) (ys : List ℕ) → 8 * i + k ≡ (n + 7) / 8 → 0 < k → k < 8 →
      ys ≡ over (be k (get_or w (3 * get_or w 0 0 + 4 + b + i) 0 / 2 ^ (64 - 8 * k) % 256 ^ k)) (take (length out - 8 * i) (drop (8 * i) out)) →
      take (8 * i) out ++ (ys ++ drop (length out - 8 * i) (drop (8 * i) out)) ≡ over (kept_bytes w b n) old
  unfolding bytes_for
  laying_last k ys e g h q =
      lent (8 * i) _ out ys q ∙ ap (λ x. over_at (8 * i) x out) (sym (bytes_last w b n r i k e g h)) ∙ sym s.left

  pub laying_ends : (n + 7) / 8 ≤ 8 * i → out ≡ over (kept_bytes w b n) old
  laying_ends h =
      let e : drop (8 * i) (kept_bytes w b n) ≡ [] = drop_of_length-le (kept_bytes w b n) {i = 8 * i} (omega (arith, kept_length w b n)) in
      sym (s.left ∙ ap (λ x. over_at (8 * i) x out) e ∙ at_none (8 * i) out)

-- a first word alone, over the whole output
pub laying_one : (w : List ℕ) (b n : ℕ) (old : List ℕ) → Kept w b n → (n + 7) / 8 ≤ length old → (ys : List ℕ) → 8 ≤ (n + 7) / 8 → ys ≡ over (be 8 (get_or w (3 * get_or w 0 0 + 4 + b + 0) 0)) old → Laying w b n old ys 1
unfolding bytes_for
laying_one w b n old r room ys h e =
    let word = be 8 (get_or w (3 * get_or w 0 0 + 4 + b + 0) 0) in
    let j : length word ≡ 8 = be_length 8 _ in
    let u : ys ≡ over_at 0 word old = e ∙ sym (at_front word old) in
    let s = laying_starts w b n old in
    record {
      same = ap length e ∙ over_length word old (omega arith);
      left = s.left ∙ ap (λ x. over_at 0 x old) (bytes_next w b n r 0 (omega arith)) ∙ sym (at_next 0 word (drop 8 (kept_bytes w b n)) old ys 8 (omega arith) u (omega arith));
    }
