-- The laws of bits and of the bytes or words that hold them. Assumes nothing.
use mathlib.Core.Path.{◌≡◌, refl, sym, ap, ap₂, ◌∙◌}
use Prim.Native.Nat.{ℕ, zero, suc, ◌+◌, ◌-◌, ◌*◌, ◌/◌, ◌%◌, ◌^◌, ◌≤◌, ◌<◌}
use native.Mathlib.Nat.{pow-suc, div-lt_iff_lt-mul, mod-lt, div-add-mod', mul-add-div_right, mul-add-mod_self_right, div-eq_of_lt, mod-eq_of_lt, add-zero, add-mul, mul_assoc, mul-suc}
use native.Mathlib.Omega.{arith}
use mathlib.Core.Bool.{Bool, true, false}
use mathlib.Core.List.{List, [], ◌∷◌, ◌++◌}
use lib.ListN.{length, take, drop, get_or, replicate, length-append, length-drop, take-append-drop}
use lib.Seq.{take-append-le, take-append-add, take_at, drop_at, drop-drop, length-take-le}
use lib.Pow.{pow_pos, pow-add}
use Rattle.format.specs.Bits.{bit, is_one, bits_of, spread, adjusted, packed, bytes_for, words_for}
use Rattle.format.proofs.Choices.{split, by_eq}

pub is_one_bit : (b : Bool) → is_one (bit b) ≡ b
unfolding is_one bit
is_one_bit true = refl
is_one_bit false = refl

pub bit_is_one : (v : ℕ) → v < 2 → bit (is_one v) ≡ v
unfolding is_one bit
bit_is_one v h = by_eq (λ t. bit t ≡ v) v 1 (λ e. sym e) (λ n. split v 1 (λ l. omega arith) (λ g. absurd (n (omega arith))))

pub bit_lt : (b : Bool) → bit b < 2
unfolding bit
bit_lt true = omega arith
bit_lt false = omega arith

pub bits_length_lem : (w n : ℕ) → length (bits_of w n) ≡ w
unfolding bits_of
bits_length_lem zero n = refl
bits_length_lem (suc w) n = ap suc (bits_length_lem w (n % 2 ^ w))

pub spread_length : (w : ℕ) (s : List ℕ) → length (spread w s) ≡ w * length s
unfolding spread
spread_length w [] = omega arith
spread_length w (n ∷ s) = rw (length-append (bits_of w n) (spread w s), bits_length_lem w n, spread_length w s) (omega arith)

pub packed_length : (w k : ℕ) (bs : List Bool) → length (packed w k bs) ≡ k
unfolding packed
packed_length w zero bs = refl
packed_length w (suc k) bs = ap suc (packed_length w k (drop w bs))

pub adjusted_lt : (w : ℕ) (bs : List Bool) → adjusted w bs < 2 ^ w
unfolding adjusted
adjusted_lt zero bs = omega arith
adjusted_lt (suc w) [] = pow_pos (suc w)
adjusted_lt (suc w) (true ∷ bs) = rw (pow-suc 2 w) (unfold bit in omega (arith, adjusted_lt w bs))
adjusted_lt (suc w) (false ∷ bs) = rw (pow-suc 2 w) (unfold bit in omega (arith, adjusted_lt w bs))

-- a first bit stands apart from the rest
first_bit : (w : ℕ) (b : Bool) (r : ℕ) → r < 2 ^ w → ((bit b * 2 ^ w + r) / 2 ^ w ≡ bit b) × ((bit b * 2 ^ w + r) % 2 ^ w ≡ r)
first_bit w b r h = (
  mul-add-div_right (pow_pos w) (bit b) r ∙ ap (λ q. bit b + q) (div-eq_of_lt h) ∙ add-zero (bit b),
  mul-add-mod_self_right (bit b) (2 ^ w) r ∙ mod-eq_of_lt h,
)

bits_cons : (w : ℕ) (b : Bool) (r : ℕ) → r < 2 ^ w → bits_of (suc w) (bit b * 2 ^ w + r) ≡ b ∷ bits_of w r
unfolding bits_of
bits_cons w b r h =
    let e = first_bit w b r h in
    ap₂ ◌∷◌ (ap is_one e.0 ∙ is_one_bit b) (ap (bits_of w) e.1)

pub bits_zero : (w : ℕ) → bits_of w 0 ≡ replicate w false
unfolding bits_of is_one
bits_zero zero = refl
bits_zero (suc w) =
    let p = pow_pos w in
    let d : 0 / 2 ^ w ≡ 0 = div-eq_of_lt p in
    let m : 0 % 2 ^ w ≡ 0 = mod-eq_of_lt p in
    rw (d, m) (ap (λ l. false ∷ l) (bits_zero w))

-- the bits of what is left-adjusted: the bits, and zeros behind them
pub bits_adjusted : (w : ℕ) (bs : List Bool) → length bs ≤ w → bits_of w (adjusted w bs) ≡ bs ++ replicate (w - length bs) false
unfolding adjusted
bits_adjusted zero [] h = unfold bits_of in refl
bits_adjusted zero (b ∷ bs) h = absurd (omega arith)
bits_adjusted (suc w) [] h = let e : suc w - 0 ≡ suc w = omega arith in rw e (bits_zero (suc w))
bits_adjusted (suc w) (b ∷ bs) h =
    bits_cons w b (adjusted w bs) (adjusted_lt w bs)
    ∙ ap (λ l. b ∷ l) (bits_adjusted w bs (omega arith))
    ∙ (let e : suc w - suc (length bs) ≡ w - length bs = omega arith in rw e refl)

pub bits_full : (w : ℕ) (bs : List Bool) → w ≤ length bs → bits_of w (adjusted w bs) ≡ take w bs
unfolding adjusted
bits_full zero bs h = unfold bits_of in refl
bits_full (suc w) [] h = absurd (omega arith)
bits_full (suc w) (b ∷ bs) h =
    bits_cons w b (adjusted w bs) (adjusted_lt w bs) ∙ ap (λ l. b ∷ l) (bits_full w bs (omega arith))

-- ---- a part of what is left-adjusted
pub zero_adjusted : (w : ℕ) → adjusted w [] ≡ 0
unfolding adjusted
zero_adjusted zero = refl
zero_adjusted (suc w) = refl

pub adjusted_add : (a b : ℕ) (bs : List Bool) → adjusted (a + b) bs ≡ adjusted a bs * 2 ^ b + adjusted b (drop a bs)
unfolding adjusted
adjusted_add zero b bs = let e : 0 + b ≡ b = omega arith in rw e (omega arith)
adjusted_add (suc a) b [] = let e : suc a + b ≡ suc (a + b) = omega arith in rw (e, zero_adjusted b) (omega arith)
adjusted_add (suc a) b (x ∷ bs) =
    let e : suc a + b ≡ suc (a + b) = omega arith in
    rw (e, adjusted_add a b bs, pow-add 2 a b, add-mul, mul_assoc) (omega arith)

pub adjusted_div : (a b : ℕ) (bs : List Bool) → adjusted (a + b) bs / 2 ^ b ≡ adjusted a bs
adjusted_div a b bs =
    ap (λ z. z / 2 ^ b) (adjusted_add a b bs) ∙ mul-add-div_right (pow_pos b) (adjusted a bs) (adjusted b (drop a bs))
    ∙ ap (λ z. adjusted a bs + z) (div-eq_of_lt (adjusted_lt b (drop a bs))) ∙ add-zero (adjusted a bs)

pub adjusted_mod : (a b : ℕ) (bs : List Bool) → adjusted (a + b) bs % 2 ^ b ≡ adjusted b (drop a bs)
adjusted_mod a b bs =
    ap (λ z. z % 2 ^ b) (adjusted_add a b bs) ∙ mul-add-mod_self_right (adjusted a bs) (2 ^ b) (adjusted b (drop a bs)) ∙ mod-eq_of_lt (adjusted_lt b (drop a bs))

-- the byte i of bits, from the word in which it stands
pub adjusted_byte : (i : ℕ) (bs : List Bool) → adjusted 64 (drop (64 * (i / 8)) bs) / 2 ^ (56 - 8 * (i % 8)) % 256 ≡ adjusted 8 (drop (8 * i) bs)
adjusted_byte i bs =
    let a : ℕ = 8 * (i % 8) in
    let word : List Bool = drop (64 * (i / 8)) bs in
    let p : 64 ≡ a + 8 + (56 - a) = omega arith in
    let s : 64 * (i / 8) + a ≡ 8 * i = omega arith in
    ap (λ n. adjusted n word / 2 ^ (56 - a) % 256) p ∙ ap (λ z. z % 256) (adjusted_div (a + 8) (56 - a) word) ∙ adjusted_mod a 8 word
    ∙ ap (adjusted 8) (drop-drop a (64 * (i / 8)) bs ∙ ap (λ n. drop n bs) s)

-- ---- some of what is packed: one number, and the first ones and those behind them
pub packed_at : (w k : ℕ) (bs : List Bool) (i : ℕ) → i < k → get_or (packed w k bs) i 0 ≡ adjusted w (drop (w * i) bs)
unfolding packed
packed_at w zero bs i h = absurd (omega arith)
packed_at w (suc k) bs zero h = let e : w * 0 ≡ 0 = omega arith in rw e refl
packed_at w (suc k) bs (suc i) h =
    let e : w * suc i ≡ w + w * i = mul-suc w i ∙ omega arith in
    packed_at w k (drop w bs) i (omega arith) ∙ ap (adjusted w) (drop-drop (w * i) w bs ∙ ap (λ z. drop z bs) (sym e))

pub packed_parts : (w j k : ℕ) (bs : List Bool) → packed w (j + k) bs ≡ packed w j bs ++ packed w k (drop (w * j) bs)
unfolding packed
packed_parts w zero k bs =
    let e : 0 + k ≡ k = omega arith in
    let z : w * 0 ≡ 0 = omega arith in
    ap (λ n. packed w n bs) e ∙ ap (λ n. packed w k (drop n bs)) (sym z)
packed_parts w (suc j) k bs =
    let e : suc j + k ≡ suc (j + k) = omega arith in
    let z : w + w * j ≡ w * suc j = sym (mul-suc w j ∙ omega arith) in
    ap (λ n. packed w n bs) e
    ∙ ap (λ l. adjusted w bs ∷ l) (packed_parts w j k (drop w bs) ∙ ap (λ l. packed w j (drop w bs) ++ packed w k l) (drop-drop (w * j) w bs ∙ ap (λ n. drop n bs) z))

-- ---- there and back
-- bits that are packed in enough room are there again
pub spread_packed : (w k : ℕ) (bs : List Bool) → length bs ≤ w * k → take (length bs) (spread w (packed w k bs)) ≡ bs
unfolding spread packed
spread_packed w zero [] h = refl
spread_packed w zero (b ∷ bs) h = absurd (omega arith)
spread_packed w (suc k) bs h =
    split (length bs) w
    (λ l.
    take-append-le (length bs) (bits_of w (adjusted w bs)) _ (omega (arith, bits_length_lem w (adjusted w bs)))
    ∙ ap (take (length bs)) (bits_adjusted w bs (omega arith)) ∙ take_at bs _ (length bs) refl)
    (λ g.
    let e : length (take w bs) ≡ w = length-take-le w bs g in
    let d : length (drop w bs) ≡ length bs - w = length-drop w bs in
    let r : take (length (drop w bs)) (spread w (packed w k (drop w bs))) ≡ drop w bs
    = spread_packed w k (drop w bs) (omega arith) in
    let n : length bs ≡ length (take w bs) + length (drop w bs) = omega arith in
    ap₂ (λ j l. take j (l ++ spread w (packed w k (drop w bs)))) n (bits_full w bs g)
    ∙ take-append-add (take w bs) (spread w (packed w k (drop w bs))) (length (drop w bs))
    ∙ ap (λ l. take w bs ++ l) r
    ∙ take-append-drop w bs)

-- numbers that are spread and packed again are there again
pub adjusted_bits : (w n : ℕ) (bs : List Bool) → n < 2 ^ w → adjusted w (bits_of w n ++ bs) ≡ n
unfolding adjusted bits_of
adjusted_bits zero n bs h = omega arith
adjusted_bits (suc w) n bs h =
    let p = pow_pos w in
    let u : n < 2 * 2 ^ w = omega (arith, pow-suc 2 w) in
    let q : n / 2 ^ w < 2 = (div-lt_iff_lt-mul p).1 u in
    rw (bit_is_one (n / 2 ^ w) q, adjusted_bits w (n % 2 ^ w) bs (mod-lt n p)) (div-add-mod' n (2 ^ w))

abbrev pub Below : ℕ → List ℕ → Type 0
Below w [] = Unit {0}
Below w (n ∷ s) = (n < 2 ^ w) × Below w s

pub packed_spread : (w : ℕ) (s : List ℕ) → Below w s → packed w (length s) (spread w s) ≡ s
unfolding packed spread
packed_spread w [] h = refl
packed_spread w (n ∷ s) h =
    ap₂ ◌∷◌ (adjusted_bits w n (spread w s) h.0)
    (ap (packed w (length s)) (drop_at (bits_of w n) (spread w s) w (bits_length_lem w n)) ∙ packed_spread w s h.1)

pub words_enough : (n : ℕ) → n ≤ 64 * words_for n
unfolding words_for
words_enough n = omega arith

pub bytes_enough : (n : ℕ) → n ≤ 8 * bytes_for n
unfolding bytes_for
bytes_enough n = omega arith
