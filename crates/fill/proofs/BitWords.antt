-- Bits that are left-adjusted in bytes, taken as words. Assumes nothing.
use Rattle.std.proofs.Common.{◌≡◌, ℕ, zero, suc, ◌+◌, ◌-◌, ◌*◌, ◌/◌, ◌%◌, ◌^◌, ◌<◌, ◌≤◌, Bool, List, [], ◌∷◌, ◌++◌, length, get_or, take, drop, set, sym, refl, ap, ◌∙◌, ap₂, add-zero, mod-eq_of_lt, arith, length-drop, take-append-drop, length-take-le, take-take, pow_pos}
use native.Mathlib.Nat.{mul-add-div_right, div-eq_of_lt}
use lib.Seq.{take-nil, drop-nil, take-append-add, drop-append-add}
use Rattle.format.specs.Numbers.{Bytes, val}
use Rattle.format.specs.Bits.{bit, num, bits_of, spread, adjusted, packed}
use Rattle.format.specs.Answers.{over}
use Rattle.format.proofs.Digits.{bytes_of, bytes_take, bytes_drop}
use Rattle.format.proofs.Parts.{drop_take, rest_part}
use Rattle.format.proofs.BitLaws.{bits_length_lem, spread_length, packed_length, packed_parts, adjusted_lt}
use Rattle.format.proofs.Marker.{num_lt, num_append, num_spread, adjusted_num}
use Rattle.wire.specs.WordsAt.{word_at}
use Rattle.wire.proofs.WordLaws.{word_val}
use Rattle.format.proofs.Over.{over_next, set_at}

-- ---- bits of some of the bytes
pub spread_drop : (k : ℕ) (s : List ℕ) → drop (8 * k) (spread 8 s) ≡ spread 8 (drop k s)
unfolding spread
spread_drop zero s = refl
spread_drop (suc k) [] = drop-nil (8 * suc k)
spread_drop (suc k) (b ∷ s) =
    let e : 8 * suc k ≡ length (bits_of 8 b) + 8 * k = omega (arith, bits_length_lem 8 b) in
    ap (λ n. drop n (bits_of 8 b ++ spread 8 s)) e ∙ drop-append-add (bits_of 8 b) (spread 8 s) (8 * k) ∙ spread_drop k s

pub spread_take : (k : ℕ) (s : List ℕ) → take (8 * k) (spread 8 s) ≡ spread 8 (take k s)
unfolding spread
spread_take zero s = refl
spread_take (suc k) [] = take-nil (8 * suc k)
spread_take (suc k) (b ∷ s) =
    let e : 8 * suc k ≡ length (bits_of 8 b) + 8 * k = omega (arith, bits_length_lem 8 b) in
    ap (λ n. take n (bits_of 8 b ++ spread 8 s)) e ∙ take-append-add (bits_of 8 b) (spread 8 s) (8 * k) ∙ ap (λ l. bits_of 8 b ++ l) (spread_take k s)

-- ---- a word of at most 64 bits
pub adjusted_take : (w : ℕ) (bs : List Bool) → adjusted w (take w bs) ≡ adjusted w bs
unfolding adjusted
adjusted_take zero bs = refl
adjusted_take (suc w) [] = refl
adjusted_take (suc w) (b ∷ bs) = ap (λ n. bit b * 2 ^ w + n) (adjusted_take w bs)

-- the first 64 of more bits
first_word : (q : ℕ) (bs : List Bool) → 64 ≤ q → adjusted 64 (take 64 bs) ≡ adjusted 64 (take q bs)
first_word q bs h = ap (adjusted 64) (sym (take-take 64 q bs h)) ∙ adjusted_take 64 (take q bs)

-- the high n of the bits of a number in k bytes
high_bits : (p : List ℕ) (n : ℕ) → Bytes p → n ≤ 8 * length p → num (take n (spread 8 p)) ≡ val p / 2 ^ (8 * length p - n)
high_bits p n b h =
    let bs : List Bool = spread 8 p in
    let m : ℕ = 8 * length p - n in
    let l : length (drop n bs) ≡ m = length-drop n bs ∙ ap (λ z. z - n) (spread_length 8 p) in
    let e : val p ≡ num (take n bs) * 2 ^ m + num (drop n bs) =
    sym (num_spread p b) ∙ ap num (sym (take-append-drop n bs)) ∙ num_append (take n bs) (drop n bs) ∙ ap (λ z. num (take n bs) * 2 ^ z + num (drop n bs)) l in
    let lt : num (drop n bs) < 2 ^ m = rw l at (num_lt (drop n bs)) in
    sym (ap (λ z. z / 2 ^ m) e ∙ mul-add-div_right (pow_pos m) (num (take n bs)) (num (drop n bs)) ∙ ap (λ z. num (take n bs) + z) (div-eq_of_lt lt) ∙ add-zero (num (take n bs)))

word_is : (c : List ℕ) (n k : ℕ) → Bytes c → n ≤ 64 → n ≤ 8 * k → k ≤ length c
    → adjusted 64 (take n (spread 8 c)) ≡ val (take k c) / 2 ^ (8 * k - n) * 2 ^ (64 - n)
word_is c n k b h i j =
    let l : length (take k c) ≡ k = length-take-le k c j in
    let bs : List Bool = spread 8 (take k c) in
    let e : take n (spread 8 c) ≡ take n bs = sym (take-take n (8 * k) (spread 8 c) i) ∙ ap (take n) (spread_take k c) in
    let ln : length (take n bs) ≡ n = length-take-le n bs (omega (arith, spread_length 8 (take k c))) in
    let v : num (take n bs) ≡ val (take k c) / 2 ^ (8 * k - n) = rw l at (high_bits (take k c) n (bytes_take k c b) (omega arith)) in
    ap (adjusted 64) e ∙ adjusted_num 64 (take n bs) (omega arith) ∙ ap₂ (λ x y. x * 2 ^ (64 - y)) v ln

pub part_word : (c : List ℕ) (n k v : ℕ) → Bytes c → n ≤ 64 → n ≤ 8 * k → k ≤ length c → v ≡ val (take k c)
    → v / 2 ^ (8 * k - n) * 2 ^ (64 - n) % 2 ^ 64 ≡ adjusted 64 (take n (spread 8 c))
part_word c n k v b h i j e =
    let w = word_is c n k b h i j in
    rw (e, ← w) (mod-eq_of_lt (adjusted_lt 64 (take n (spread 8 c))))

-- eight bytes from e on, as they are read at once
full_word : (c : List ℕ) (e v : ℕ) → ((i : ℕ) → get_or c i 0 < 256) → e + 8 ≤ length c → v ≡ word_at e c → v ≡ adjusted 64 (take 64 (spread 8 (drop e c)))
full_word c e v b l w =
    let d : List ℕ = drop e c in
    let is : adjusted 64 (take 64 (spread 8 d)) ≡ val (take 8 d) / 1 * 1 =
    word_is d 64 8 (bytes_drop e c (bytes_of c b)) (omega arith) (omega arith) (omega (arith, length-drop e c)) in
    w ∙ word_val c e l ∙ sym (is ∙ omega arith)

-- ---- word after word
pub packed_more : (j : ℕ) (bs : List Bool) → packed 64 (j + 1) bs ≡ packed 64 j bs ++ (adjusted 64 (drop (64 * j) bs) ∷ [])
unfolding packed
packed_more j bs = packed_parts 64 j 1 bs

-- the bits of the word j stand in the bytes behind those of the words before
next_word : (c : List ℕ) (n j : ℕ) → adjusted 64 (drop (64 * j) (take n (spread 8 c))) ≡ adjusted 64 (take (n - 64 * j) (spread 8 (drop (8 * j) c)))
next_word c n j =
    let e : 64 * j ≡ 8 * (8 * j) = omega arith in
    ap (adjusted 64) (drop_take (64 * j) n (spread 8 c) ∙ ap (take (n - 64 * j)) (ap (λ m. drop m (spread 8 c)) e ∙ spread_drop (8 * j) c))

-- one word more
word_turn : (c : List ℕ) (n : ℕ) (t₀ t : List ℕ) (j v : ℕ) → j < length t → t ≡ over (packed 64 j (take n (spread 8 c))) t₀
    → v ≡ adjusted 64 (take (n - 64 * j) (spread 8 (drop (8 * j) c)))
    → set t j v ≡ over (packed 64 (j + 1) (take n (spread 8 c))) t₀
word_turn c n t₀ t j v h e w =
    let bs : List Bool = take n (spread 8 c) in
    set_at j v t h ∙ over_next (packed 64 j bs) (v ∷ []) t₀ t j e (sym (packed_length 64 j bs))
    ∙ ap (λ r. over r t₀) (ap (λ x. packed 64 j bs ++ (x ∷ [])) (w ∙ sym (next_word c n j)) ∙ sym (packed_more j bs))

-- one turn of the loop over the whole words
pub whole_turn : (c : List ℕ) (n : ℕ) (t₀ t : List ℕ) (j v : ℕ) → j < length t → t ≡ over (packed 64 j (take n (spread 8 c))) t₀
    → ((i : ℕ) → get_or c i 0 < 256) → 64 * j + 64 ≤ n → 8 * j + 8 ≤ length c → v ≡ word_at (8 * j) c
    → set t j v ≡ over (packed 64 (j + 1) (take n (spread 8 c))) t₀
whole_turn c n t₀ t j v h e b i l w =
    word_turn c n t₀ t j v h e (full_word c (8 * j) v b l w ∙ first_word (n - 64 * j) (spread 8 (drop (8 * j) c)) (omega arith))

-- the last word, of fewer bits, behind the whole ones
pub last_turn : (c : List ℕ) (n : ℕ) (t₀ t : List ℕ) (j v : ℕ) → n / 64 < length t → t ≡ over (packed 64 j (take n (spread 8 c))) t₀
    → j ≡ n / 64 → v ≡ adjusted 64 (take (n % 64) (spread 8 (take (length c - 8 * (n / 64)) (drop (8 * (n / 64)) c))))
    → set t (n / 64) v ≡ over (packed 64 (n / 64 + 1) (take n (spread 8 c))) t₀
last_turn c n t₀ t j v h e q w =
    let r : n % 64 ≡ n - 64 * (n / 64) = omega arith in
    word_turn c n t₀ t (n / 64) v h (rw q at e) (w ∙ ap₂ (λ m s. adjusted 64 (take m (spread 8 s))) r (rest_part c (8 * (n / 64))))
