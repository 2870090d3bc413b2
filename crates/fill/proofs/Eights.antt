-- Codes in words, eight at a time. Assumes nothing.
use Rattle.std.proofs.Common.{◌≡◌, ℕ, ◌+◌, ◌-◌, ◌*◌, ◌/◌, ◌%◌, ◌^◌, ◌<◌, ◌≤◌, Bool, List, ◌++◌, length, get_or, take, drop, set, sym, ap, ◌∙◌, ap₂, append_assoc, mul-le-mul_right, mod-eq_of_lt, suc-mul, add-mul, arith, length-append, length-drop, length-set, length-take-le, take-take, drop-drop, take-add, drop_at}
use lib.Seq.{take-append-le, drop-append-le, drop-append-add}
use Rattle.format.specs.Bits.{spread, adjusted}
use Rattle.format.specs.Tables.{letters}
use Rattle.format.specs.Answers.{over}
use Rattle.format.proofs.Choices.{split}
use Rattle.format.proofs.BitLaws.{adjusted_lt, adjusted_div}
use Rattle.format.proofs.Parts.{drop_take}
use Rattle.fill.specs.Copies.{again}
use Rattle.fill.specs.Texts.{EightAre}
use Rattle.fill.proofs.AgainLaws.{again_length, again_add}
use Rattle.fill.proofs.BitWords.{spread_drop, spread_take, adjusted_take}
use Rattle.fill.proofs.Letters.{word_at, Copied}
use Rattle.fill.proofs.SomeCodes.{up_by, put_eight}

-- ---- eight codes that are there, in two words or in one
joined : (r : ℕ) (bs : List Bool) → r ≤ 64 → (adjusted 64 bs * 2 ^ r % 2 ^ 64 + adjusted 64 (drop 64 bs) / 2 ^ (64 - r)) % 2 ^ 64 ≡ adjusted 64 (drop r bs)
joined r bs h =
    let u = up_by r bs h in
    let e : r + (64 - r) ≡ 64 = omega arith in
    let high : adjusted 64 (drop 64 bs) / 2 ^ (64 - r) ≡ adjusted r (drop 64 bs) =
    ap (λ n. adjusted n (drop 64 bs) / 2 ^ (64 - r)) (sym e) ∙ adjusted_div r (64 - r) (drop 64 bs) in
    ap₂ (λ x y. (x + y) % 2 ^ 64) u.0 high ∙ ap (λ n. n % 2 ^ 64) (sym u.1) ∙ mod-eq_of_lt (adjusted_lt 64 (drop r bs))

-- from the word of the n-th code on
eight_from : (n : ℕ) (cs : List ℕ) → adjusted 64 (drop (8 * (n % 8)) (drop (64 * (n / 8)) (spread 8 cs))) ≡ adjusted 64 (spread 8 (take 8 (drop n cs)))
eight_from n cs =
    let e : 64 * (n / 8) + 8 * (n % 8) ≡ 8 * n = omega arith in
    ap (adjusted 64) (drop-drop (8 * (n % 8)) (64 * (n / 8)) (spread 8 cs) ∙ ap (λ k. drop k (spread 8 cs)) e ∙ spread_drop n cs)
    ∙ sym (adjusted_take 64 (spread 8 (drop n cs))) ∙ ap (adjusted 64) (spread_take 8 (drop n cs))

pub eight_whole : (n : ℕ) (t : List ℕ) (v : ℕ) → 8 * (n % 8) ≡ 0 → v ≡ get_or t (n / 8) 0 → EightAre n t v
eight_whole n t v z q cs t₀ h w =
    q ∙ word_at cs t₀ t w (n / 8) (omega arith) ∙ ap (λ k. adjusted 64 (drop k (drop (64 * (n / 8)) (spread 8 cs)))) (sym z) ∙ eight_from n cs

pub eight_parts : (n : ℕ) (t : List ℕ) (v : ℕ) → 0 < n % 8 → v ≡ (get_or t (n / 8) 0 * 2 ^ (8 * (n % 8)) % 2 ^ 64 + get_or t (n / 8 + 1) 0 / 2 ^ (64 - 8 * (n % 8))) % 2 ^ 64 → EightAre n t v
eight_parts n t v z q cs t₀ h w =
    let r : ℕ = 8 * (n % 8) in
    let bs : List Bool = drop (64 * (n / 8)) (spread 8 cs) in
    let e : 64 * (n / 8) + 64 ≡ 64 * (n / 8 + 1) = omega arith in
    let one : get_or t (n / 8) 0 ≡ adjusted 64 bs = word_at cs t₀ t w (n / 8) (omega arith) in
    let two : get_or t (n / 8 + 1) 0 ≡ adjusted 64 (drop 64 bs) =
    word_at cs t₀ t w (n / 8 + 1) (omega arith) ∙ ap (adjusted 64) (ap (λ k. drop k (spread 8 cs)) (sym e) ∙ sym (drop-drop 64 (64 * (n / 8)) (spread 8 cs))) in
    q ∙ ap₂ (λ x y. (x * 2 ^ r % 2 ^ 64 + y / 2 ^ (64 - r)) % 2 ^ 64) one two ∙ joined r bs (omega arith) ∙ eight_from n cs

-- ---- eight codes again
-- from the next time on, what stood before
pub periodic : (ds : List ℕ) (m q k i : ℕ) → length ds ≡ m → i + 8 + q * m ≤ k * m → take 8 (drop (q * m + i) (again k ds)) ≡ take 8 (drop i (again k ds))
periodic ds m q k i e h =
    let few : q ≤ k = split k q (λ l. absurd (omega (arith, mul-le-mul_right m l, suc-mul k m))) (λ g. g) in
    let r : ℕ = k - q in
    let a : q + r ≡ k = omega arith in
    let b : r + q ≡ k = omega arith in
    let len : length (again r ds) ≡ r * m = again_length ds m e r in
    let some : i + 8 ≤ r * m = omega (arith, add-mul q r m, ap (λ n. n * m) a) in
    let one : drop (q * m + i) (again k ds) ≡ drop i (again r ds) =
    sym (drop-drop i (q * m) (again k ds))
    ∙ ap (drop i) (ap (λ n. drop (q * m) (again n ds)) (sym a) ∙ ap (drop (q * m)) (again_add q r ds) ∙ drop_at (again q ds) (again r ds) (q * m) (again_length ds m e q)) in
    let two : take 8 (drop i (again k ds)) ≡ take 8 (drop i (again r ds)) =
    ap (λ n. take 8 (drop i (again n ds))) (sym b) ∙ ap (λ l. take 8 (drop i l)) (again_add r q ds) ∙ ap (take 8) (drop-append-le i (again r ds) (again q ds) (omega arith))
    ∙ take-append-le 8 (drop i (again r ds)) (again q ds) (omega (arith, length-drop i (again r ds))) in
    ap (take 8) one ∙ sym two

-- one turn of the loop
pub copied_eights : (n m k b : ℕ) (t₀ t : List ℕ) (to q p v : ℕ) → to + 8 ≤ n + k * m → to % 8 ≡ 0 → to + 8 ≤ 8 * length t → p ≡ q * m → n + p ≤ to → 8 ≤ p
    → Copied n m k b t₀ t to → EightAre (to - p) t v → Copied n m k b t₀ (set t (to / 8) v) (to + 8)
copied_eights n m k b t₀ t to q p v h z l ep hp p8 c r =
    record {
      from = omega arith;
      upto = h;
      long = length-set t (to / 8) v ∙ c.long;
      so_far = λ cs ds u e g low w. step cs ds u e g (c.so_far cs ds u e g low w);
    }
  where
    step : (cs ds u : List ℕ) → length cs ≡ n → length ds ≡ m → t ≡ over (letters (cs ++ take (to - n) (again k ds))) u
        → set t (to / 8) v ≡ over (letters (cs ++ take (to + 8 - n) (again k ds))) u
    step cs ds u e g w =
        let A : List ℕ = again k ds in
        let la : length A ≡ k * m = again_length ds m g k in
        let j : ℕ = to - n in
        let i : ℕ = to - n - p in
        let lt : length (take j A) ≡ j = length-take-le j A (omega arith) in
        let L : List ℕ = cs ++ take j A in
        let ll : length L ≡ to = length-append cs (take j A) ∙ omega arith in
        let D : List ℕ = take 8 (drop j A) in
        let ld : length D ≡ 8 = length-take-le 8 (drop j A) (omega (arith, length-drop j A)) in
        let x1 : to - p ≡ length cs + i = omega arith in
        let x2 : q * m + i ≡ j = omega arith in
        let d : take 8 (drop (to - p) L) ≡ D =
        ap (λ n. take 8 (drop n L)) x1 ∙ ap (take 8) (drop-append-add cs (take j A) i ∙ drop_take i j A) ∙ take-take 8 (j - i) (drop i A) (omega arith)
        ∙ sym (periodic ds m q k i g (omega arith)) ∙ ap (λ n. take 8 (drop n A)) x2 in
        let word : v ≡ adjusted 64 (spread 8 D) = r L u (omega arith) w ∙ ap (λ x. adjusted 64 (spread 8 x)) d in
        let y : j + 8 ≡ to + 8 - n = omega arith in
        put_eight t to v z l D ld word L u ll w
        ∙ ap (λ x. over (letters x) u) (append_assoc cs (take j A) D ∙ ap (λ x. cs ++ x) (sym (take-add j 8 A) ∙ ap (λ n. take n A) y))
