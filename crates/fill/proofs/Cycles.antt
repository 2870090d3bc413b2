-- Codes again and again as whole words: eight copies of m codes are m words, which stand there again and again. Assumes nothing.
use Rattle.std.proofs.Common.{◌≡◌, ℕ, zero, suc, ◌+◌, ◌-◌, ◌*◌, ◌/◌, ◌%◌, ◌<◌, ◌≤◌, List, [], ◌++◌, length, get_or, take, drop, sym, ap, ◌∙◌, ap₂, append_assoc, append-nil, mul-le-mul_right, mod-lt, mod-eq_of_lt, suc-mul, div-add-mod', zero-mul, arith, length-append, length-take-le, get_or-drop, get_or-take, take-take, take_at, get_or-append-add, ext_get_or}
use native.Mathlib.Nat.{mul-add-mod_self_right}
use lib.ListN.{get_or-append}
use lib.Seq.{drop-nil, drop-append-add, take-append-add}
use Rattle.format.specs.Tables.{letters}
use Rattle.format.specs.Answers.{over}
use Rattle.format.proofs.Choices.{split}
use Rattle.format.proofs.Parts.{rest_part, drop_take}
use Rattle.fill.specs.Copies.{again, cycled}
use Rattle.fill.specs.Texts.{word_of, SpeltFrom, SpeltAgain}
use Rattle.format.specs.Lent.{over_at}
use Rattle.format.proofs.Over.{over_over, over_part, over_next, at_as_front, lent, part_length}
use Rattle.fill.proofs.AgainLaws.{at_least, again_length, again_add}
use Rattle.fill.proofs.Letters.{letters_long, once, spelt_again}
use Rattle.fill.proofs.Eights.{eight_whole, periodic}

-- ---- words again and again
module _ (n m : ℕ) (p : 0 < m) where
  pub parts : n / m * m + n % m ≡ n
  parts = div-add-mod' n m

  pub rest_few : n % m < m
  rest_few = mod-lt n p

  pub some_whole : m ≤ n → 0 < n / m
  some_whole h = split 0 (n / m) (λ l. l) (λ g. let z : n / m ≡ 0 = omega arith in absurd (omega (arith, parts, rest_few, ap (λ q. q * m) z)))

  module _ (t : List ℕ) (h : m ≤ length t) where
    first_long : length (take m t) ≡ m
    first_long = length-take-le m t h

    pub cycled_long : length (cycled n m t) ≡ n
    cycled_long =
        let r = rest_few in
        omega (arith, length-append (again (n / m) (take m t)) (take (n % m) t), again_length (take m t) m first_long (n / m), length-take-le (n % m) t (omega arith), parts)

    -- the word i is one of the first
    at_cycle : (q r i : ℕ) → r ≤ m → i < q * m + r → get_or (again q (take m t) ++ take r t) i 0 ≡ get_or t (i % m) 0
    unfolding again
    at_cycle zero r i g l =
        let e : i % m ≡ i = mod-eq_of_lt (omega (arith, zero-mul m)) in
        get_or-take r t i 0 (omega (arith, zero-mul m)) ∙ ap (λ j. get_or t j 0) (sym e)
    at_cycle (suc q) r i g l =
        let P : List ℕ = take m t in
        let R : List ℕ = again q P ++ take r t in
        split i m
        (λ k.
        let e : i % m ≡ i = mod-eq_of_lt k in
        ap (λ z. get_or z i 0) (append_assoc P (again q P) (take r t)) ∙ get_or-append P R 0 i (omega (arith, first_long)) ∙ get_or-take m t i 0 k ∙ ap (λ j. get_or t j 0) (sym e))
        (λ k.
        let j : ℕ = i - m in
        let e : i ≡ length P + j = omega (arith, first_long) in
        let f : j % m ≡ i % m = sym (ap (λ z. z % m) (omega arith) ∙ mul-add-mod_self_right 1 m j) in
        ap (λ z. get_or z i 0) (append_assoc P (again q P) (take r t)) ∙ ap (λ z. get_or (P ++ R) z 0) e ∙ get_or-append-add P R j 0
        ∙ at_cycle q r j g (omega (arith, suc-mul q m)) ∙ ap (λ z. get_or t z 0) f)

    pub cycled_at : (i : ℕ) → i < n → get_or (cycled n m t) i 0 ≡ get_or t (i % m) 0
    cycled_at i l = let r = rest_few in at_cycle (n / m) (n % m) i (omega arith) (omega (arith, parts))

    -- as the code copies them: whole copies, and a part of one
    pub cycled_put : (u v : List ℕ) → m ≤ n → u ≡ over (again (n / m) (take m t)) t → v ≡ over_at (n / m * m) (take (n % m) u) u → v ≡ over (cycled n m t) t
    cycled_put u v g e f =
        let q : ℕ = n / m in
        let P : List ℕ = take m t in
        let r = rest_few in
        let lq : length (again q P) ≡ q * m = again_length P m first_long q in
        let a = at_least q m (some_whole g) in
        let w : take m u ≡ P = ap (take m) e ∙ over_part m (again q P) t (omega arith) ∙ once q P m (some_whole g) first_long in
        let x : take (n % m) u ≡ take (n % m) t = sym (take-take (n % m) m u (omega arith)) ∙ ap (take (n % m)) w ∙ take-take (n % m) m t (omega arith) in
        f ∙ over_next (again q P) (take (n % m) u) t u (q * m) e (sym lq) ∙ ap (λ z. over (again q P ++ z) t) x

-- ---- words of codes
-- eight codes that are there before j
within : (L : List ℕ) (j i : ℕ) → i + 8 ≤ j → take 8 (drop i (take j L)) ≡ take 8 (drop i L)
within L j i h = ap (take 8) (drop_take i j L) ∙ take-take 8 (j - i) (drop i L) (omega arith)

-- a word of a table with the first j of the codes L at its front
word_there : (L t₀ t : List ℕ) (j i : ℕ) → j ≤ length L → 8 * i + 8 ≤ j → t ≡ over (letters (take j L)) t₀ → get_or t i 0 ≡ word_of (take 8 (drop (8 * i) L))
word_there L t₀ t j i h g e =
    let z : 8 * (8 * i % 8) ≡ 0 = omega arith in
    let d : i ≡ 8 * i / 8 = omega arith in
    eight_whole (8 * i) t (get_or t i 0) z (ap (λ k. get_or t k 0) d) (take j L) t₀ (omega (arith, length-take-le j L h)) e ∙ ap word_of (within L j (8 * i) g)

alone : (l : List ℕ) → l ≡ over l []
unfolding over
alone l = sym (ap (λ (z : List ℕ). l ++ z) (drop-nil (length l)) ∙ append-nil l)

letters_word : (L : List ℕ) (j i : ℕ) → j ≤ length L → 8 * i + 8 ≤ j → get_or (letters (take j L)) i 0 ≡ word_of (take 8 (drop (8 * i) L))
letters_word L j i h g = word_there L [] (letters (take j L)) j i h g (alone (letters (take j L)))

-- ---- codes again and again
module _ (n m k : ℕ) (cs ds : List ℕ) (e : length cs ≡ n) (g : length ds ≡ m) (p : 0 < m) (h : 24 ≤ k) where
  abbrev A : List ℕ
  A = again k ds

  abbrev L : List ℕ
  L = cs ++ A

  -- the first word behind the codes cs, and how many there are in all
  abbrev a : ℕ
  a = (n + 7) / 8

  abbrev E : ℕ
  E = (n + k * m) / 8

  many : 24 * m ≤ k * m
  many = mul-le-mul_right m h

  long : length L ≡ n + k * m
  long = length-append cs A ∙ omega (arith, again_length ds m g k)

  -- the first codes
  upto : (j : ℕ) → n ≤ j → cs ++ take (j - n) A ≡ take j L
  upto j l = let x : length cs + (j - n) ≡ j = omega arith in sym (ap (λ z. take z L) (sym x) ∙ take-append-add cs A (j - n))

  sixteen : cs ++ again 16 ds ≡ take (n + 16 * m) L
  sixteen =
      let x : 16 + (k - 16) ≡ k = omega arith in
      let y : n + 16 * m - n ≡ 16 * m = omega arith in
      ap (λ z. cs ++ z)
      (sym (ap₂ (λ i j. take i (again j ds)) y (sym x) ∙ ap (take (16 * m)) (again_add 16 (k - 16) ds) ∙ take_at (again 16 ds) (again (k - 16) ds) (16 * m) (again_length ds m g 16)))
      ∙ upto (n + 16 * m) (omega arith)

  -- words are the same where they are m apart
  same_word : (b : ℕ) → a + b < E → word_of (take 8 (drop (8 * (a + b)) L)) ≡ word_of (take 8 (drop (8 * (a + b % m)) L))
  same_word b l =
      let q : ℕ = 8 * (b / m) in
      let i : ℕ = 8 * a - n + 8 * (b % m) in
      let d : b / m * m + b % m ≡ b = div-add-mod' b m in
      let x : 8 * (a + b) ≡ length cs + (q * m + i) = omega arith in
      let y : 8 * (a + b % m) ≡ length cs + i = omega arith in
      ap word_of
      (ap (λ z. take 8 (drop z L)) x ∙ ap (take 8) (drop-append-add cs A (q * m + i)) ∙ periodic ds m q k i g (omega arith)
      ∙ sym (ap (λ z. take 8 (drop z L)) y ∙ ap (take 8) (drop-append-add cs A i)))

  module _ (t₀ t ys : List ℕ) (w : t ≡ over (letters (cs ++ again 16 ds)) t₀) (room : n + k * m ≤ 8 * length t)
      (c : ys ≡ over (cycled (E - a) m (take (length t - a) (drop a t))) (take (length t - a) (drop a t))) where
    abbrev part : List ℕ
    part = take (length t - a) (drop a t)

    abbrev M : List ℕ
    M = cycled (E - a) m part

    there : (i : ℕ) → 8 * i + 8 ≤ n + 16 * m → get_or t i 0 ≡ word_of (take 8 (drop (8 * i) L))
    there i l = let y = many in word_there L t₀ t (n + 16 * m) i (omega (arith, long)) l (w ∙ ap (λ z. over (letters z) t₀) sixteen)

    part_long : m ≤ length part
    part_long = let y = many in omega (arith, part_length a t)

    front_long : length (take a t) ≡ a
    front_long = let y = many in length-take-le a t (omega arith)

    words_long : length (take a t ++ M) ≡ E
    words_long = let y = many in length-append (take a t) M ∙ omega (arith, front_long, cycled_long (E - a) m p part part_long)

    word_is : (i : ℕ) → i < E → get_or (take a t ++ M) i 0 ≡ word_of (take 8 (drop (8 * i) L))
    word_is i l =
        split i a
        (λ f. get_or-append (take a t) M 0 i (omega (arith, front_long)) ∙ get_or-take a t i 0 f ∙ there i (omega arith))
        (λ f.
        let b : ℕ = i - a in
        let x : i ≡ length (take a t) + b = omega (arith, front_long) in
        let z : a + b ≡ i = omega arith in
        let r = mod-lt b p in
        ap (λ z. get_or (take a t ++ M) z 0) x ∙ get_or-append-add (take a t) M b 0 ∙ cycled_at (E - a) m p part part_long b (omega arith)
        ∙ ap (λ z. get_or z (b % m) 0) (rest_part t a) ∙ get_or-drop a t (b % m) 0 ∙ there (a + b % m) (omega arith)
        ∙ sym (same_word b (omega arith)) ∙ ap (λ z. word_of (take 8 (drop (8 * z) L))) z)

    pub whole_words : take a t ++ (ys ++ drop (length t - a) (drop a t)) ≡ over (letters (cs ++ take (8 * E - n) A)) t₀
    whole_words =
        let y = many in
        let X : List ℕ = take (8 * E) L in
        let lx : length X ≡ 8 * E = length-take-le (8 * E) L (omega (arith, long)) in
        let l16 : length (take (n + 16 * m) L) ≡ n + 16 * m = length-take-le (n + 16 * m) L (omega (arith, long)) in
        let ll : length (letters X) ≡ E = letters_long X ∙ omega arith in
        let same : take a t ++ M ≡ letters X =
        ext_get_or 0 (take a t ++ M) (letters X) (words_long ∙ sym ll)
        (λ i l. word_is i (omega (arith, words_long)) ∙ sym (letters_word L (8 * E) i (omega (arith, long)) (omega (arith, words_long)))) in
        lent a M t ys c ∙ at_as_front a M t (omega arith)
        ∙ ap (over (take a t ++ M)) (w ∙ ap (λ z. over (letters z) t₀) sixteen)
        ∙ over_over (letters (take (n + 16 * m) L)) (take a t ++ M) t₀ (omega (arith, words_long, letters_long (take (n + 16 * m) L)))
        ∙ ap (λ z. over z t₀) (same ∙ ap letters (sym (upto (8 * E) (omega arith))))

-- ---- the same of the code's numbers
-- where the words begin and end
abbrev pub Wide : ℕ → ℕ → ℕ → ℕ → Type 0
Wide n m k len = (n + 16 * m ≤ n + k * m) × ((n + 7) / 8 + m ≤ (n + k * m) / 8) × ((n + k * m) / 8 ≤ len) × (n + m ≤ 8 * ((n + k * m) / 8))

pub wide : (n m k len : ℕ) → 0 < m → 24 ≤ k → n + k * m ≤ 8 * len → Wide n m k len
wide n m k len p h l = let y = mul-le-mul_right m h in (omega arith, omega arith, omega arith, omega arith)

-- sixteen copies, whole words from the first that begins behind the n codes on, and the rest
pub many_copies : (n m k : ℕ) (t t₁ ys u : List ℕ) → 0 < m → 24 ≤ k → n + k * m ≤ 8 * length t₁ → SpeltFrom n m 16 (n + m) t t₁
    → ys ≡ over (cycled ((n + k * m) / 8 - (n + 7) / 8) m (take (length t₁ - (n + 7) / 8) (drop ((n + 7) / 8) t₁))) (take (length t₁ - (n + 7) / 8) (drop ((n + 7) / 8) t₁))
    → SpeltFrom n m k (8 * ((n + k * m) / 8)) (take ((n + 7) / 8) t₁ ++ (ys ++ drop (length t₁ - (n + 7) / 8) (drop ((n + 7) / 8) t₁))) u → SpeltAgain n m k t u
many_copies n m k t t₁ ys u p h l q c r cs ds t₀ e g low w =
    r cs ds t₀ e g low (whole_words n m k cs ds e g p h t₀ t₁ ys (spelt_again n m 16 t t₁ (omega arith) q cs ds t₀ e g low w) l c)
