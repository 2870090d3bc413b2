-- Some codes more, eight at most: in a new word, in one that is begun, or in that and the next. Assumes nothing.
use Rattle.std.proofs.Common.{◌≡◌, ℕ, ◌+◌, ◌-◌, ◌*◌, ◌/◌, ◌%◌, ◌^◌, ◌<◌, ◌≤◌, Bool, List, [], ◌∷◌, ◌++◌, length, get_or, drop, set, sym, refl, ap, ◌∙◌, ap₂, append_assoc, append-nil, mod-eq_of_lt, mul_assoc, add-mul, arith, length-append, length-set, drop_of_length-le, drop-drop, pow-add}
use native.Mathlib.Nat.{mul-add-mod_self_right}
use lib.Seq.{drop-append-le, drop-append-add}
use Rattle.format.specs.Bits.{bits_of, spread, adjusted, packed, words_for}
use Rattle.format.specs.Tables.{in_words, letters}
use Rattle.format.specs.Answers.{over}
use Rattle.format.proofs.BitLaws.{bits_length_lem, spread_length, packed_length, packed_parts, zero_adjusted, adjusted_add, adjusted_div, adjusted_lt, adjusted_bits}
use Rattle.format.proofs.TableLaws.{spread_append}
use Rattle.fill.specs.Texts.{word_of, PutSome}
use Rattle.format.proofs.Over.{set_at, over_next}
use Rattle.fill.proofs.Letters.{before, so_far, far_length, adjusted_front, packed_prefix, stored, word_at}

-- ---- bits behind others in a word
-- the word with those before alone, and what is behind moved down
added : (r : ℕ) (bs es : List Bool) → length bs ≡ r → r ≤ 64 → adjusted 64 (bs ++ es) ≡ adjusted 64 bs + adjusted 64 es / 2 ^ r
added r bs es e h =
    let p : 64 ≡ r + (64 - r) = omega arith in
    let q : 64 ≡ 64 - r + r = omega arith in
    let one : adjusted 64 (bs ++ es) ≡ adjusted r bs * 2 ^ (64 - r) + adjusted (64 - r) es =
    ap (λ n. adjusted n (bs ++ es)) p ∙ adjusted_front r (64 - r) bs es e in
    let two : adjusted 64 bs ≡ adjusted r bs * 2 ^ (64 - r) + 0 =
    ap₂ (λ n z. adjusted n z) p (sym (append-nil bs)) ∙ adjusted_front r (64 - r) bs [] e ∙ ap (λ z. adjusted r bs * 2 ^ (64 - r) + z) (zero_adjusted (64 - r)) in
    let three : adjusted 64 es / 2 ^ r ≡ adjusted (64 - r) es = ap (λ n. adjusted n es / 2 ^ r) q ∙ adjusted_div (64 - r) r es in
    omega arith

-- a word moved up by r bits, and then what is behind its first r bits
pub up_by : (r : ℕ) (bs : List Bool) → r ≤ 64 → (adjusted 64 bs * 2 ^ r % 2 ^ 64 ≡ adjusted (64 - r) (drop r bs) * 2 ^ r)
    × (adjusted 64 (drop r bs) ≡ adjusted (64 - r) (drop r bs) * 2 ^ r + adjusted r (drop 64 bs))
up_by r bs h =
    let a : ℕ = adjusted r bs in
    let y : ℕ = adjusted (64 - r) (drop r bs) in
    let e : r + (64 - r) ≡ 64 = omega arith in
    let f : 64 - r + r ≡ 64 = omega arith in
    let pq : 2 ^ (64 - r) * 2 ^ r ≡ 2 ^ 64 = sym (pow-add 2 (64 - r) r) ∙ ap (λ n. 2 ^ n) f in
    let one : adjusted 64 bs ≡ a * 2 ^ (64 - r) + y = ap (λ n. adjusted n bs) (sym e) ∙ adjusted_add r (64 - r) bs in
    let two : adjusted 64 bs * 2 ^ r ≡ a * 2 ^ 64 + y * 2 ^ r =
    ap (λ n. n * 2 ^ r) one ∙ add-mul (a * 2 ^ (64 - r)) y (2 ^ r) ∙ ap (λ n. n + y * 2 ^ r) (mul_assoc a (2 ^ (64 - r)) (2 ^ r) ∙ ap (λ n. a * n) pq) in
    let d : drop (64 - r) (drop r bs) ≡ drop 64 bs = drop-drop (64 - r) r bs ∙ ap (λ n. drop n bs) e in
    let sum : adjusted 64 (drop r bs) ≡ y * 2 ^ r + adjusted r (drop 64 bs) =
    ap (λ n. adjusted n (drop r bs)) (sym f) ∙ adjusted_add (64 - r) r (drop r bs) ∙ ap (λ z. y * 2 ^ r + adjusted r z) d in
    let lt = adjusted_lt 64 (drop r bs) in
    (ap (λ n. n % 2 ^ 64) two ∙ mul-add-mod_self_right a (2 ^ 64) (y * 2 ^ r) ∙ mod-eq_of_lt (omega arith), sum)

moved_up : (r : ℕ) (bs : List Bool) → r ≤ 64 → length bs ≤ 64 → adjusted 64 bs * 2 ^ r % 2 ^ 64 ≡ adjusted 64 (drop r bs)
moved_up r bs h l =
    let u = up_by r bs h in
    let z : adjusted r (drop 64 bs) ≡ 0 = ap (adjusted r) (drop_of_length-le bs {i = 64} l) ∙ zero_adjusted r in
    omega (arith, u.0, u.1)

-- ---- the words of codes and of some more
letters_some : (cs ds : List ℕ) (j : ℕ) → length cs / 8 + j ≡ (length cs + length ds + 7) / 8 → letters (cs ++ ds) ≡ before cs ++ packed 64 j (so_far cs ++ spread 8 ds)
unfolding letters in_words words_for
letters_some cs ds j h =
    let S : List Bool = spread 8 cs in
    let B : List Bool = spread 8 ds in
    let m : ℕ = length cs / 8 in
    let s : length S ≡ 8 * length cs = spread_length 8 cs in
    let l : length (S ++ B) ≡ 8 * length cs + 8 * length ds = length-append S B ∙ omega (arith, spread_length 8 ds) in
    let k : (length (S ++ B) + 63) / 64 ≡ m + j = omega arith in
    ap (λ x. packed 64 ((length x + 63) / 64) x) (spread_append 8 cs ds) ∙ ap (λ n. packed 64 n (S ++ B)) k ∙ packed_parts 64 m j (S ++ B)
    ∙ ap₂ (λ x y. x ++ packed 64 j y) (packed_prefix m S B (omega arith)) (drop-append-le (64 * m) S B (omega arith))

module _ (cs ds t₀ t : List ℕ) (e : t ≡ over (letters cs) t₀) (p : 0 < length ds) (h : length ds ≤ 8) (l : length cs + length ds ≤ 8 * length t) where
  -- the codes that the word begins with
  abbrev r : ℕ
  r = 8 * (length cs % 8)

  pub new_word : r ≡ 0 → set t (length cs / 8) (word_of ds) ≡ over (letters (cs ++ ds)) t₀
  unfolding packed
  new_word z =
      let s : so_far cs ≡ [] = none (so_far cs) (far_length cs ∙ z) in
      stored cs t₀ t e (word_of ds) (omega arith)
      ∙ ap (λ x. over x t₀) (sym (letters_some cs ds 1 (omega arith) ∙ ap (λ x. before cs ++ packed 64 1 (x ++ spread 8 ds)) s))
    where
      none : (l : List Bool) → length l ≡ 0 → l ≡ []
      none [] e = refl
      none (x ∷ l) e = absurd (omega arith)

  -- the word that is begun
  grown_word : 0 < r → (get_or t (length cs / 8) 0 + word_of ds / 2 ^ r) % 2 ^ 64 ≡ adjusted 64 (so_far cs ++ spread 8 ds)
  grown_word z =
      ap (λ x. (x + word_of ds / 2 ^ r) % 2 ^ 64) (word_at cs t₀ t e (length cs / 8) (omega arith))
      ∙ ap (λ x. x % 2 ^ 64) (sym (added r (so_far cs) (spread 8 ds) (far_length cs) (omega arith))) ∙ mod-eq_of_lt (adjusted_lt 64 (so_far cs ++ spread 8 ds))

  pub old_word : 0 < r → r + 8 * length ds ≤ 64 → (v : ℕ) → v ≡ (get_or t (length cs / 8) 0 + word_of ds / 2 ^ r) % 2 ^ 64 → set t (length cs / 8) v ≡ over (letters (cs ++ ds)) t₀
  unfolding packed
  old_word z f v q =
      stored cs t₀ t e v (omega arith)
      ∙ ap (λ x. over (before cs ++ (x ∷ [])) t₀) (q ∙ grown_word z) ∙ ap (λ x. over x t₀) (sym (letters_some cs ds 1 (omega arith)))

  pub two_words : 64 < r + 8 * length ds → (v u : ℕ) → v ≡ (get_or t (length cs / 8) 0 + word_of ds / 2 ^ r) % 2 ^ 64 → u ≡ word_of ds * 2 ^ (64 - r) % 2 ^ 64
      → set (set t (length cs / 8) v) (length cs / 8 + 1) u ≡ over (letters (cs ++ ds)) t₀
  unfolding packed
  two_words f v u q w =
      let m : ℕ = length cs / 8 in
      let B : List Bool = spread 8 ds in
      let lb : length B ≡ 8 * length ds = spread_length 8 ds in
      let t₁ : List ℕ = set t m v in
      let one : t₁ ≡ over (before cs ++ (v ∷ [])) t₀ = stored cs t₀ t e v (omega arith) in
      let len : m + 1 ≡ length (before cs ++ (v ∷ [])) = omega (arith, length-append (before cs) (v ∷ []), packed_length 64 m (spread 8 cs)) in
      let k : 64 ≡ length (so_far cs) + (64 - r) = omega (arith, far_length cs) in
      let next : u ≡ adjusted 64 (drop 64 (so_far cs ++ B)) =
      w ∙ moved_up (64 - r) B (omega arith) (omega arith) ∙ ap (adjusted 64) (sym (ap (λ n. drop n (so_far cs ++ B)) k ∙ drop-append-add (so_far cs) B (64 - r))) in
      set_at (m + 1) u t₁ (rw (length-set t m v) (omega arith)) ∙ over_next (before cs ++ (v ∷ [])) (u ∷ []) t₀ t₁ (m + 1) one len
      ∙ ap (λ x. over x t₀)
      (append_assoc (before cs) (v ∷ []) (u ∷ []) ∙ ap₂ (λ x y. before cs ++ (x ∷ y ∷ [])) (q ∙ grown_word (omega arith)) next ∙ sym (letters_some cs ds 2 (omega arith)))

-- ---- the same of the code's numbers
module _ (t : List ℕ) (n k w : ℕ) (p : 0 < k) (h : k ≤ 8) (l : n + k ≤ 8 * length t) where
  pub put_new : 8 * (n % 8) ≡ 0 → PutSome n k w t (set t (n / 8) w)
  put_new z ds d q cs t₀ e f =
      ap₂ (λ i x. set t (i / 8) x) (sym e) q ∙ new_word cs ds t₀ t f (omega arith) (omega arith) (omega arith) (ap (λ i. 8 * (i % 8)) e ∙ z)

  pub put_old : 0 < 8 * (n % 8) → 8 * (n % 8) + 8 * k ≤ 64 → (v : ℕ) → v ≡ (get_or t (n / 8) 0 + w / 2 ^ (8 * (n % 8))) % 2 ^ 64 → PutSome n k w t (set t (n / 8) v)
  put_old z s v x ds d q cs t₀ e f =
      ap (λ i. set t (i / 8) v) (sym e)
      ∙ old_word cs ds t₀ t f (omega arith) (omega arith) (omega arith) (omega arith) (omega arith) v
      (x ∙ ap₂ (λ i y. (get_or t (i / 8) 0 + y / 2 ^ (8 * (i % 8))) % 2 ^ 64) (sym e) q)

  pub put_two : 64 < 8 * (n % 8) + 8 * k → (v u : ℕ) → v ≡ (get_or t (n / 8) 0 + w / 2 ^ (8 * (n % 8))) % 2 ^ 64 → u ≡ w * 2 ^ (64 - 8 * (n % 8)) % 2 ^ 64
      → PutSome n k w t (set (set t (n / 8) v) (n / 8 + 1) u)
  put_two s v u x y ds d q cs t₀ e f =
      ap (λ i. set (set t (i / 8) v) (i / 8 + 1) u) (sym e)
      ∙ two_words cs ds t₀ t f (omega arith) (omega arith) (omega arith) (omega arith) v u
      (x ∙ ap₂ (λ i y. (get_or t (i / 8) 0 + y / 2 ^ (8 * (i % 8))) % 2 ^ 64) (sym e) q)
      (y ∙ ap₂ (λ i y. y * 2 ^ (64 - 8 * (i % 8)) % 2 ^ 64) (sym e) q)

-- eight of them, where a word begins
pub put_eight : (t : List ℕ) (n v : ℕ) → n % 8 ≡ 0 → n + 8 ≤ 8 * length t → PutSome n 8 v t (set t (n / 8) v)
put_eight t n v z l = put_new t n 8 v (omega arith) (omega arith) l (omega arith)

-- one code, moved up in a word
pub code_word : (c : ℕ) → c < 128 → c * 2 ^ 56 % 2 ^ 64 ≡ word_of (c ∷ [])
unfolding spread
code_word c h =
    let one : word_of (c ∷ []) ≡ adjusted 8 (bits_of 8 c) * 2 ^ 56 + adjusted 56 [] = adjusted_front 8 56 (bits_of 8 c) [] (bits_length_lem 8 c) in
    let two : adjusted 8 (bits_of 8 c) ≡ c = ap (adjusted 8) (sym (append-nil (bits_of 8 c))) ∙ adjusted_bits 8 c [] (omega arith) in
    let three : adjusted 56 [] ≡ 0 = zero_adjusted 56 in
    mod-eq_of_lt (omega arith) ∙ sym (one ∙ ap₂ (λ x y. x * 2 ^ 56 + y) two three ∙ omega arith)
