-- Eight bytes as one number: its high bytes, and when they are all ones or all below 128. Assumes nothing.
use Prim.Native.Nat.{ℕ, zero, suc, ◌+◌, ◌-◌, ◌*◌, ◌/◌, ◌≤◌, ◌<◌, ◌^◌, zero-le}
use mathlib.Core.Path.{◌≡◌, refl, sym, ◌∙◌, ap, ap₂}
use mathlib.Core.List.{List, [], ◌∷◌}
use mathlib.Core.Bool.{true}
use native.Mathlib.Omega.{arith}
use native.Mathlib.Nat.{add-zero}
use lib.Bits.{bit_and}
use lib.Dec.{ltb, eqb}
use lib.ListN.{length, take, drop, get_or, length-drop}
use lib.Seq.{length-take-le, get_or-take, get_or-drop}
use Rattle.format.specs.Numbers.{Bytes, val}
use Rattle.format.proofs.Choices.{Each, each, eq_true, true_lt, both_left, both_right}
use Rattle.format.proofs.Digits.{val_take_suc, val_lt, bytes_take, bytes_drop, bytes_of}
use Rattle.format.proofs.MaskLaws.{mask, masked, and_mask_bytes, none_high}
use Rattle.wire.specs.Ranges.{Between}
use Rattle.wire.specs.WordsAt.{word_at}
use Rattle.wire.proofs.Ranges.{between_each}

none : (s : List ℕ) → val (take 0 s) ≡ 0
unfolding val
none s = refl

-- a fact of 1 to 8, one by one
pub each_of_eight : (P : ℕ → Type 0) → Each (λ j. P (suc j)) 8 → (k : ℕ) → 0 < k → k ≤ 8 → P k
each_of_eight P a k p l =
    let e : suc (k - 1) ≡ k = omega arith in
    rw e at (each (λ j. P (suc j)) 8 a (k - 1) (omega arith))

-- the number of the first k bytes is that of the first eight without the low ones
pub high_bytes : (s : List ℕ) (k : ℕ) → ((i : ℕ) → get_or s i 0 < 256) → 8 ≤ length s → 0 < k → k ≤ 8 → word_at 0 s / 2 ^ (64 - 8 * k) ≡ val (take k s)
high_bytes s k small h p l =
    let a0 = none s in
    let a1 = val_take_suc s 0 (omega arith) in
    let a2 = val_take_suc s 1 (omega arith) in
    let a3 = val_take_suc s 2 (omega arith) in
    let a4 = val_take_suc s 3 (omega arith) in
    let a5 = val_take_suc s 4 (omega arith) in
    let a6 = val_take_suc s 5 (omega arith) in
    let a7 = val_take_suc s 6 (omega arith) in
    let a8 = val_take_suc s 7 (omega arith) in
    let b0 = small 0 in
    let b1 = small 1 in
    let b2 = small 2 in
    let b3 = small 3 in
    let b4 = small 4 in
    let b5 = small 5 in
    let b6 = small 6 in
    let b7 = small 7 in
    each_of_eight (λ j. word_at 0 s / 2 ^ (64 - 8 * j) ≡ val (take j s))
    (omega arith, (omega arith, (omega arith, (omega arith, (omega arith, (omega arith, (omega arith, (omega arith, tt)))))))) k p l

-- eight bytes that are all ones
pub all_ones : (s : List ℕ) (e : ℕ) → ((i : ℕ) → get_or s i 0 < 256) → word_at e s ≡ 0xffffffffffffffff → Between 0xff 0xff e (e + 8) s
all_ones s e small h =
    let b0 = small e in
    let b1 = small (e + 1) in
    let b2 = small (e + 2) in
    let b3 = small (e + 3) in
    let b4 = small (e + 4) in
    let b5 = small (e + 5) in
    let b6 = small (e + 6) in
    let b7 = small (e + 7) in
    between_each 0xff 0xff e 8 s
    (ff _ (omega arith), (ff _ (omega arith), (ff _ (omega arith), (ff _ (omega arith), (ff _ (omega arith), (ff _ (omega arith), (ff _ (omega arith), (rw add-zero (ff _ (omega arith)), tt))))))))
  where
    ff : (x : ℕ) → x ≡ 0xff → (0xff ≤ x) × (x ≤ 0xff)
    ff x q = (omega arith, omega arith)

-- the number of the first k bytes, taken from the word
pub number_high : (s : List ℕ) (k w : ℕ) → ((i : ℕ) → get_or s i 0 < 256) → 8 ≤ length s → 0 < k → k ≤ 8 → w ≡ word_at 0 s
    → (w / 2 ^ (64 - 8 * k) ≡ val (take k s)) × (w / 2 ^ (64 - 8 * k) < 256 ^ k)
number_high s k w small h p l e =
    let v : w / 2 ^ (64 - 8 * k) ≡ val (take k s) = ap (λ x. x / 2 ^ (64 - 8 * k)) e ∙ high_bytes s k small h p l in
    let n : length (take k s) ≡ k = length-take-le k s (omega arith) in
    let b : val (take k s) < 256 ^ k = rw n at (val_lt (take k s) (bytes_take k s (bytes_of s small))) in
    (v, rw v b)

-- eight bytes from e on, as a list
pub word_val : (s : List ℕ) (e : ℕ) → e + 8 ≤ length s → word_at e s ≡ val (take 8 (drop e s))
word_val s e h =
    let l = length-drop e s in
    let a0 = none (drop e s) in
    let z : get_or s (e + 0) 0 ≡ get_or s e 0 = ap (λ n. get_or s n 0) (add-zero e) in
    let a1 = at 0 (omega arith) in
    let a2 = at 1 (omega arith) in
    let a3 = at 2 (omega arith) in
    let a4 = at 3 (omega arith) in
    let a5 = at 4 (omega arith) in
    let a6 = at 5 (omega arith) in
    let a7 = at 6 (omega arith) in
    let a8 = at 7 (omega arith) in
    omega arith
  where
    at : (j : ℕ) → j < 8 → val (take (suc j) (drop e s)) ≡ val (take j (drop e s)) * 256 + get_or s (e + j) 0
    at j l = val_take_suc (drop e s) j (omega (arith, length-drop e s)) ∙ ap (λ b. val (take j (drop e s)) * 256 + b) (get_or-drop e s j 0)

-- eight bytes without a high bit
low_bytes : (p : List ℕ) → Bytes p → eqb (val (masked 128 p)) 0 ≡ true → (i : ℕ) → i < length p → get_or p i 0 < 128
low_bytes [] b t i h = absurd (omega arith)
low_bytes (x ∷ p) b t zero h = true_lt x 128 (both_left (ltb x 128) (eqb (val (masked 128 p)) 0) (sym (none_high x p b.0) ∙ t))
low_bytes (x ∷ p) b t (suc i) h = low_bytes p b.1 (both_right (ltb x 128) (eqb (val (masked 128 p)) 0) (sym (none_high x p b.0) ∙ t)) i (omega arith)

pub all_low_lem : (s : List ℕ) (e w : ℕ) → ((i : ℕ) → get_or s i 0 < 256) → e + 8 ≤ length s → w ≡ word_at e s → bit_and w 0x8080808080808080 ≡ 0 → Between 0 0x7f e (e + 8) s
unfolding mask
all_low_lem s e w small h v z j p q =
    let l : length (take 8 (drop e s)) ≡ 8 = length-take-le 8 (drop e s) (omega (arith, length-drop e s)) in
    let b : Bytes (take 8 (drop e s)) = bytes_take 8 (drop e s) (bytes_drop e s (bytes_of s small)) in
    let m : val (masked 128 (take 8 (drop e s))) ≡ 0 =
    sym (and_mask_bytes 128 (take 8 (drop e s)) (omega arith) b) ∙ ap₂ (λ x n. bit_and x (mask 128 n)) (sym (v ∙ word_val s e h)) l ∙ z in
    let k : e + (j - e) ≡ j = omega arith in
    let g : get_or (take 8 (drop e s)) (j - e) 0 ≡ get_or s j 0 =
    get_or-take 8 (drop e s) (j - e) 0 (omega arith) ∙ get_or-drop e s (j - e) 0 ∙ ap (λ n. get_or s n 0) k in
    (zero-le, omega (arith, g, low_bytes (take 8 (drop e s)) b (eq_true _ 0 m) (j - e) (omega arith)))
