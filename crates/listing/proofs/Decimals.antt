-- The digits of a number: how many there are, and that they are its lowest digit behind those of its tenth. Assumes nothing.
use mathlib.Core.Path.{◌≡◌, refl, sym, ap, ap₂, ◌∙◌}
use mathlib.Core.List.{List, [], ◌∷◌, ◌++◌}
use Prim.Native.Nat.{ℕ, zero, suc, ◌+◌, ◌-◌, ◌*◌, ◌/◌, ◌%◌, ◌^◌, ◌≤◌, ◌<◌, max}
use native.Mathlib.Nat.{pow-suc}
use native.Mathlib.Omega.{arith}
use lib.ListN.{length, set, length-append}
use lib.IntN.{pos, negsuc}
use Rattle.format.specs.Numbers.{signed}
use Rattle.format.proofs.Choices.{if_lt_yes, if_lt_no, split}
use Rattle.listing.specs.Lines.{digits_f, decimal, signed_decimal}
use Rattle.format.specs.Lent.{over_at}
use Rattle.format.proofs.Over.{at_last}

-- more tries change nothing
tries : (f g n : ℕ) → n < f → n < g → digits_f f n ≡ digits_f g n
unfolding digits_f
tries zero g n h k = absurd (omega arith)
tries (suc f) zero n h k = absurd (omega arith)
tries (suc f) (suc g) n h k =
    split n 10 (λ l. if_lt_yes n 10 _ _ l ∙ sym (if_lt_yes n 10 _ _ l))
    (λ l. if_lt_no n 10 _ _ l ∙ ap (λ z. z ++ ((0x30 + n % 10) ∷ [])) (tries f g (n / 10) (omega arith) (omega arith)) ∙ sym (if_lt_no n 10 _ _ l))

digit : (n : ℕ) → n < 10 → decimal n ≡ (0x30 + n) ∷ []
unfolding decimal digits_f
digit n l = if_lt_yes n 10 _ _ l

digits_on : (n : ℕ) → 10 ≤ n → decimal n ≡ decimal (n / 10) ++ ((0x30 + n % 10) ∷ [])
unfolding decimal digits_f
digits_on n l = if_lt_no n 10 _ _ l ∙ ap (λ z. z ++ ((0x30 + n % 10) ∷ [])) (tries n (suc (n / 10)) (n / 10) (omega arith) (omega arith))

-- ---- how many there are
pub count_one : (n : ℕ) → n < 10 → length (decimal n) ≡ 1
count_one n l = ap length (digit n l)

pub count_on : (n : ℕ) → 10 ≤ n → length (decimal n) ≡ length (decimal (n / 10)) + 1
count_on n l = ap length (digits_on n l) ∙ length-append (decimal (n / 10)) ((0x30 + n % 10) ∷ [])

pub count_most : (k n : ℕ) → n < 10 ^ suc k → length (decimal n) ≤ suc k
count_most zero n h = omega (arith, count_one n (omega arith))
count_most (suc k) n h =
    split n 10 (λ l. omega (arith, count_one n l))
    (λ l. omega (arith, count_on n l, count_most k (n / 10) (omega (arith, pow-suc 10 (suc k)))))

pub count_pos : (n : ℕ) → 0 < length (decimal n)
count_pos n = split n 10 (λ l. omega (arith, count_one n l)) (λ l. omega (arith, count_on n l))

power_pos : (k : ℕ) → 0 < 10 ^ k
power_pos zero = omega arith
power_pos (suc k) = omega (arith, pow-suc 10 k, power_pos k)

-- as many as powers of ten are passed
pub count_passed : (k n : ℕ) → 10 ^ k ≤ n → n < 10 * 10 ^ k → length (decimal n) ≡ k + 1
count_passed zero n h l = count_one n (omega arith)
count_passed (suc k) n h l =
    let p = pow-suc 10 k in
    let q = power_pos k in
    omega (arith, count_on n (omega arith), count_passed k (n / 10) (omega arith) (omega arith))

pub count_told : (n m k : ℕ) → m ≡ max n 1 → 10 ^ k ≤ m → m < 10 * 10 ^ k → k + 1 ≡ length (decimal n)
count_told n m k e h l =
    split n 10
    (λ b. omega (arith, count_one n b, count_passed k m h l, count_one m (omega arith)))
    (λ b. let q : m ≡ n = omega arith in ap (λ z. z) (sym (count_passed k n (rw (sym q) h) (rw (sym q) l))))

-- ---- so many digits from the last on, and the step of the loop that writes them
unfoldable pub last_digits : ℕ → ℕ → List ℕ
last_digits zero n = []
last_digits (suc k) n = last_digits k (n / 10) ++ ((0x30 + n % 10) ∷ [])

last_length : (k n : ℕ) → length (last_digits k n) ≡ k
unfolding last_digits
last_length zero n = refl
last_length (suc k) n = length-append (last_digits k (n / 10)) ((0x30 + n % 10) ∷ []) ∙ omega (arith, last_length k (n / 10))

pub all_digits : (k n : ℕ) → k ≡ length (decimal n) → last_digits k n ≡ decimal n
unfolding last_digits
all_digits zero n e = absurd (omega (arith, count_pos n))
all_digits (suc k) n e =
    split n 10
    (λ l.
    let z : k ≡ 0 = omega (arith, count_one n l) in
    let m : n % 10 ≡ n = native.Mathlib.Nat.mod-eq_of_lt l in
    ap₂ (λ i j. last_digits i (n / 10) ++ ((0x30 + j) ∷ [])) z m ∙ sym (digit n l))
    (λ l. ap (λ z. z ++ ((0x30 + n % 10) ∷ [])) (all_digits k (n / 10) (omega (arith, count_on n l))) ∙ sym (digits_on n l))

pub digit_turn : (p i x : ℕ) (t : List ℕ) → p < i → i ≤ length t →
    over_at p (last_digits (i - p) x) t ≡ over_at p (last_digits (i - 1 - p) (x / 10)) (set t (i - 1) (0x30 + x % 10))
unfolding last_digits
digit_turn p i x t h l =
    let e : i - p ≡ suc (i - 1 - p) = omega arith in
    let n = last_length (i - 1 - p) (x / 10) in
    let q : p + length (last_digits (i - 1 - p) (x / 10)) ≡ i - 1 = omega arith in
    ap (λ k. over_at p (last_digits k x) t) e
    ∙ at_last p (0x30 + x % 10) (last_digits (i - 1 - p) (x / 10)) t (omega arith)
    ∙ ap (λ j. over_at p (last_digits (i - 1 - p) (x / 10)) (set t j (0x30 + x % 10))) q

-- ---- signed numbers, from their words
pub signed_plus : (v : ℕ) → v < 0x8000000000000000 → signed_decimal (signed 8 v) ≡ decimal v
unfolding signed signed_decimal
signed_plus v l = ap signed_decimal (if_lt_yes (2 * v) (256 ^ 8) (pos v) (negsuc (256 ^ 8 - 1 - v)) (omega arith))

pub signed_minus : (v m : ℕ) → 0x8000000000000000 ≤ v → v < 2 ^ 64 → m < 2 ^ 64 → (m + v) % 2 ^ 64 ≡ 0 → signed_decimal (signed 8 v) ≡ (0x2d ∷ []) ++ decimal m
unfolding signed signed_decimal
signed_minus v m l h k e =
    let n : suc (256 ^ 8 - 1 - v) ≡ m = omega arith in
    ap signed_decimal (if_lt_no (2 * v) (256 ^ 8) (pos v) (negsuc (256 ^ 8 - 1 - v)) (omega arith)) ∙ ap (λ n. 0x2d ∷ decimal n) n
