-- The marker of an SBITSTR: bytes as one number, and the bits behind its first 1. Assumes nothing.
use mathlib.Core.Path.{◌≡◌, refl, sym, ap, ◌∙◌}
use Prim.Native.Nat.{ℕ, zero, suc, ◌+◌, ◌-◌, ◌*◌, ◌/◌, ◌%◌, ◌^◌, ◌≤◌, ◌<◌}
use native.Mathlib.Nat.{pow-suc, div-add-mod', mod-lt, div-lt_iff_lt-mul, mul_assoc, add-mul}
use native.Mathlib.Omega.{arith}
use mathlib.Core.Bool.{Bool, true, false}
use mathlib.Core.List.{List, [], ◌∷◌, ◌++◌}
use lib.ListN.{length, length-append}
use lib.Pow.{pow_pos, pow_mono, pow-add}
use Rattle.format.specs.Numbers.{Bytes, val}
use Rattle.format.specs.Bits.{bit, is_one, num, bits_of, spread, adjusted, after_marker}
use Rattle.format.proofs.Choices.{split}
use Rattle.format.proofs.BitLaws.{bit_is_one, bits_length_lem, spread_length, adjusted_lt}

pub num_cons : (b : Bool) (bs : List Bool) → num (b ∷ bs) ≡ bit b * 2 ^ length bs + num bs
unfolding num
num_cons b bs = refl

pub num_lt : (bs : List Bool) → num bs < 2 ^ length bs
unfolding num
num_lt bs = adjusted_lt (length bs) bs

pub num_true : (bs : List Bool) → num (true ∷ bs) ≡ 2 ^ length bs + num bs
unfolding num bit
num_true bs = omega arith

pub num_false : (bs : List Bool) → num (false ∷ bs) ≡ num bs
unfolding num bit
num_false bs = omega arith

pub num_append : (a b : List Bool) → num (a ++ b) ≡ num a * 2 ^ length b + num b
num_append [] b = unfold num in omega arith
num_append (true ∷ a) b =
    rw (num_true (a ++ b), num_true a, num_append a b, length-append a b, pow-add 2 (length a) (length b))
    (omega (arith, add-mul (2 ^ length a) (num a) (2 ^ length b)))
num_append (false ∷ a) b = num_false (a ++ b) ∙ num_append a b ∙ rw (num_false a) refl

pub num_bits : (w n : ℕ) → n < 2 ^ w → num (bits_of w n) ≡ n
unfolding bits_of
num_bits zero n h = unfold num in omega arith
num_bits (suc w) n h =
    let t : n / 2 ^ w < 2 = (div-lt_iff_lt-mul (pow_pos w)).1 (omega (arith, pow-suc 2 w)) in
    num_cons (is_one (n / 2 ^ w)) (bits_of w (n % 2 ^ w))
    ∙ rw (bit_is_one (n / 2 ^ w) t, bits_length_lem w (n % 2 ^ w), num_bits w (n % 2 ^ w) (mod-lt n (pow_pos w))) (div-add-mod' n (2 ^ w))

pub pow_bytes : (k : ℕ) → 2 ^ (8 * k) ≡ 256 ^ k
pow_bytes zero = refl
pow_bytes (suc k) =
    let e : 8 * suc k ≡ 8 + 8 * k = omega arith in
    rw (e, pow-add 2 8 (8 * k), pow_bytes k) (omega (arith, pow-suc 256 k))

-- bytes make the same number by bytes and by bits
pub num_spread : (p : List ℕ) → Bytes p → num (spread 8 p) ≡ val p
unfolding spread val
num_spread [] h = unfold num in refl
num_spread (b ∷ p) h =
    num_append (bits_of 8 b) (spread 8 p)
    ∙ rw (num_bits 8 b h.0, num_spread p h.1, spread_length 8 p, pow_bytes (length p)) refl

-- the bits behind the first 1, with a 1 before them, make the same number
pub marked : (bs : List Bool) → 0 < num bs → num (true ∷ after_marker bs) ≡ num bs
unfolding after_marker
marked [] h = absurd (unfold num in omega arith)
marked (true ∷ bs) h = refl
marked (false ∷ bs) h = marked bs (rw (num_false bs) at h) ∙ sym (num_false bs)

-- a number with a marker says how many bits are behind it
pub marker_ge : (bs : List Bool) → 2 ^ length bs ≤ num (true ∷ bs)
marker_ge bs = omega (arith, num_true bs)

pub marker_lt : (bs : List Bool) → num (true ∷ bs) < 2 ^ suc (length bs)
marker_lt bs = num_lt (true ∷ bs)

pub marker_pos : (bs : List Bool) → 0 < num (true ∷ bs)
marker_pos bs = omega (arith, marker_ge bs, pow_pos (length bs))

-- a first bit tells two numbers of one length apart
apart : (a b : List Bool) → length a ≡ length b → num (true ∷ a) ≡ num (false ∷ b) → ⊥
apart a b l e =
    let q : 2 ^ length b ≡ 2 ^ length a = ap (λ n. 2 ^ n) (sym l) in
    omega (arith, num_true a, num_false b, num_lt b)

-- bit strings of one length that make one number are the same
num_inj : (a b : List Bool) → length a ≡ length b → num a ≡ num b → a ≡ b
num_inj [] [] l e = refl
num_inj [] (y ∷ b) l e = absurd (omega arith)
num_inj (x ∷ a) [] l e = absurd (omega arith)
num_inj (true ∷ a) (true ∷ b) l e =
    let n : length a ≡ length b = omega arith in
    let q : 2 ^ length a ≡ 2 ^ length b = ap (λ m. 2 ^ m) n in
    ap (λ t. true ∷ t) (num_inj a b n (omega (arith, num_true a, num_true b)))
num_inj (false ∷ a) (false ∷ b) l e = ap (λ t. false ∷ t) (num_inj a b (omega arith) (omega (arith, num_false a, num_false b)))
num_inj (true ∷ a) (false ∷ b) l e = absurd (apart a b (omega arith) e)
num_inj (false ∷ a) (true ∷ b) l e = absurd (apart b a (omega arith) (sym e))

-- so are those that make one number behind a marker
pub marker_inj : (a b : List Bool) → num (true ∷ a) ≡ num (true ∷ b) → a ≡ b
marker_inj a b e =
    split (length a) (length b) (λ l. absurd (omega (arith, marker_lt a, marker_ge b, pow_mono l)))
    (λ g. split (length b) (length a) (λ l. absurd (omega (arith, marker_lt b, marker_ge a, pow_mono l)))
    (λ k. let n : length a ≡ length b = omega arith in
    let q : 2 ^ length a ≡ 2 ^ length b = ap (λ m. 2 ^ m) n in
    num_inj a b n (omega (arith, num_true a, num_true b))))

-- a number stands between two neighbouring powers of 2 only
pub log_unique : (v a b : ℕ) → 2 ^ a ≤ v → v < 2 ^ suc a → 2 ^ b ≤ v → v < 2 ^ suc b → a ≡ b
log_unique v a b al ah bl bh =
    split a b (λ l. absurd (omega (arith, pow_mono l))) (λ g. split b a (λ l. absurd (omega (arith, pow_mono l))) (λ k. omega arith))

-- left-adjusted bits are their number, moved up
pub adjusted_num : (w : ℕ) (bs : List Bool) → length bs ≤ w → adjusted w bs ≡ num bs * 2 ^ (w - length bs)
unfolding adjusted
adjusted_num zero [] h = unfold num in omega arith
adjusted_num zero (b ∷ bs) h = absurd (omega arith)
adjusted_num (suc w) [] h = unfold num in omega arith
adjusted_num (suc w) (b ∷ bs) h =
    let e : suc w - suc (length bs) ≡ w - length bs = omega arith in
    let p : w ≡ length bs + (w - length bs) = omega arith in
    rw (e, adjusted_num w bs (omega arith), num_cons b bs, add-mul (bit b * 2 ^ length bs) (num bs) (2 ^ (w - length bs)), mul_assoc (bit b) (2 ^ length bs) (2 ^ (w - length bs)))
    (ap (λ n. bit b * n + num bs * 2 ^ (w - length bs)) (ap (λ n. 2 ^ n) p ∙ pow-add 2 (length bs) (w - length bs)))
