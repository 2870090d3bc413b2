-- Codes in words, eight to a word: the words that hold them, a code that is there, and codes again. Assumes nothing.
use Rattle.std.proofs.Common.{◌≡◌, ℕ, zero, suc, ◌+◌, ◌-◌, ◌*◌, ◌/◌, ◌%◌, ◌^◌, ◌<◌, ◌≤◌, Bool, List, [], ◌∷◌, ◌++◌, length, get_or, take, drop, set, sym, refl, ap, ◌∙◌, ap₂, append_assoc, append-nil, suc-mul, mul-zero, zero-mul, arith, length-append, length-drop, length-take-le, take_all, drop-cons, get_or-take, take-suc, take_at, get_or-append-add, drop_at}
use lib.ListN.{get_or-append}
use lib.Seq.{drop-append-le}
use Rattle.format.specs.Bits.{bit, spread, adjusted, packed, words_for}
use Rattle.format.specs.Tables.{in_words, letters}
use Rattle.format.specs.Answers.{over}
use Rattle.format.proofs.Choices.{split}
use Rattle.format.proofs.BitLaws.{spread_length, packed_length, packed_at, adjusted_add, adjusted_byte, adjusted_bits}
use Rattle.format.proofs.Over.{over_part, over_over, at_as_front, set_at}
use Rattle.fill.proofs.AgainLaws.{none_in}
use Rattle.fill.specs.Texts.{Spelt, Low, CodeIs, SpeltFrom, SpeltAgain}
use Rattle.fill.specs.Copies.{again}
use Rattle.fill.proofs.AgainLaws.{again_length, again_none}
use Rattle.fill.proofs.BitWords.{spread_drop}

-- ---- a part of what is left-adjusted
-- bits before others, where they fill their part
adjusted_prefix : (a : ℕ) (bs cs : List Bool) → a ≤ length bs → adjusted a (bs ++ cs) ≡ adjusted a bs
unfolding adjusted
adjusted_prefix zero bs cs e = refl
adjusted_prefix (suc a) [] cs e = absurd (omega arith)
adjusted_prefix (suc a) (b ∷ bs) cs e = ap (λ n. bit b * 2 ^ a + n) (adjusted_prefix a bs cs (omega arith))

pub adjusted_front : (a b : ℕ) (bs cs : List Bool) → length bs ≡ a → adjusted (a + b) (bs ++ cs) ≡ adjusted a bs * 2 ^ b + adjusted b cs
adjusted_front a b bs cs e =
    adjusted_add a b (bs ++ cs) ∙ ap₂ (λ x y. x * 2 ^ b + adjusted b y) (adjusted_prefix a bs cs (omega arith)) (drop_at bs cs a e)

-- ---- some of the words
pub packed_prefix : (k : ℕ) (bs cs : List Bool) → 64 * k ≤ length bs → packed 64 k (bs ++ cs) ≡ packed 64 k bs
unfolding packed
packed_prefix zero bs cs h = refl
packed_prefix (suc k) bs cs h =
    ap₂ ◌∷◌ (adjusted_prefix 64 bs cs (omega arith))
    (ap (packed 64 k) (drop-append-le 64 bs cs (omega arith)) ∙ packed_prefix k (drop 64 bs) cs (omega (arith, length-drop 64 bs)))

packed_take : (j k : ℕ) (bs : List Bool) → j ≤ k → take j (packed 64 k bs) ≡ packed 64 j bs
unfolding packed
packed_take zero k bs h = refl
packed_take (suc j) zero bs h = absurd (omega arith)
packed_take (suc j) (suc k) bs h = ap (λ l. adjusted 64 bs ∷ l) (packed_take j k (drop 64 bs) (omega arith))

low : (x g : ℕ) → x % 256 ≡ g → g < 128 → x % 128 ≡ g
low x g e h = omega arith

module _ (cs : List ℕ) where
  -- the place of the next code: its word, and the codes before it there
  abbrev m : ℕ
  m = length cs / 8

  abbrev r : ℕ
  r = length cs % 8

  -- the bits of that word so far
  abbrev pub so_far : List Bool
  so_far = drop (64 * m) (spread 8 cs)

  -- the words before it
  abbrev pub before : List ℕ
  before = packed 64 m (spread 8 cs)

  sl : length (spread 8 cs) ≡ 8 * length cs
  sl = spread_length 8 cs

  pub far_length : length so_far ≡ 8 * r
  far_length = length-drop (64 * m) (spread 8 cs) ∙ omega (arith, sl)

  letters_are : letters cs ≡ packed 64 ((8 * length cs + 63) / 64) (spread 8 cs)
  unfolding letters in_words words_for
  letters_are = ap (λ n. packed 64 ((n + 63) / 64) (spread 8 cs)) sl

  pub letters_long : length (letters cs) ≡ (8 * length cs + 63) / 64
  letters_long = ap length letters_are ∙ packed_length 64 ((8 * length cs + 63) / 64) (spread 8 cs)

  -- a table with these codes at its front
  module _ (t₀ t : List ℕ) (e : t ≡ over (letters cs) t₀) where
    words_before : take m t ≡ before
    words_before =
        ap (take m) e ∙ over_part m (letters cs) t₀ (omega (arith, letters_long)) ∙ ap (take m) letters_are
        ∙ packed_take m ((8 * length cs + 63) / 64) (spread 8 cs) (omega arith)

    -- the word at m is stored anew
    pub stored : (v : ℕ) → m < length t → set t m v ≡ over (before ++ (v ∷ [])) t₀
    stored v h =
        set_at m v t h ∙ at_as_front m (v ∷ []) t (omega arith) ∙ ap₂ (λ a b. over (a ++ (v ∷ [])) b) words_before e
        ∙ over_over (letters cs) (before ++ (v ∷ [])) t₀ (omega (arith, letters_long, length-append before (v ∷ []), packed_length 64 m (spread 8 cs)))

    pub word_at : (i : ℕ) → i < (8 * length cs + 63) / 64 → get_or t i 0 ≡ adjusted 64 (drop (64 * i) (spread 8 cs))
    unfolding over
    word_at i h =
        ap (λ z. get_or z i 0) e ∙ get_or-append (letters cs) (drop (length (letters cs)) t₀) 0 i (omega (arith, letters_long))
        ∙ ap (λ z. get_or z i 0) letters_are ∙ packed_at 64 ((8 * length cs + 63) / 64) (spread 8 cs) i h

    -- ---- as the code reads one
    pub code_is : (i : ℕ) → i < length cs → get_or cs i 0 < 128 → (v : ℕ) → v ≡ get_or t (i / 8) 0 / 2 ^ (56 - 8 * (i % 8)) % 128 → v ≡ get_or cs i 0
    unfolding spread
    code_is i h l v q =
        let b : get_or t (i / 8) 0 / 2 ^ (56 - 8 * (i % 8)) % 256 ≡ get_or cs i 0 =
        ap (λ z. z / 2 ^ (56 - 8 * (i % 8)) % 256) (word_at (i / 8) (omega arith)) ∙ adjusted_byte i (spread 8 cs)
        ∙ ap (adjusted 8) (spread_drop i cs ∙ ap (spread 8) (drop-cons cs i 0 h)) ∙ adjusted_bits 8 (get_or cs i 0) (spread 8 (drop (suc i) cs)) (omega arith) in
        q ∙ low (get_or t (i / 8) 0 / 2 ^ (56 - 8 * (i % 8))) (get_or cs i 0) b l

-- ---- codes one after another
pub spelt_none : (n : ℕ) (t : List ℕ) → Spelt n [] t t
spelt_none n t cs t₀ e w = w ∙ ap (λ l. over (letters l) t₀) (sym (append-nil cs))

pub spelt_more : (n m : ℕ) (a b t u v : List ℕ) → Spelt n a t u → length a + n ≡ m → Spelt m b u v → Spelt n (a ++ b) t v
spelt_more n m a b t u v p k q cs t₀ e w =
    q (cs ++ a) t₀ (length-append cs a ∙ omega arith) (p cs t₀ e w) ∙ ap (λ l. over (letters l) t₀) (append_assoc cs a b)

-- over the table's front
pub spelt_front : (a t u : List ℕ) → Spelt 0 a t u → u ≡ over (letters a) t
unfolding letters in_words spread packed words_for over
spelt_front a t u p = p [] t refl refl

-- ---- codes again
turned : (k : ℕ) (ds : List ℕ) → again (suc k) ds ≡ again k ds ++ ds
unfolding again
turned zero ds = append-nil ds
turned (suc k) ds = ap (λ z. ds ++ z) (turned k ds) ∙ sym (append_assoc ds (again k ds) ds)

pub once : (k : ℕ) (ds : List ℕ) (m : ℕ) → 0 < k → length ds ≡ m → take m (again k ds) ≡ ds
unfolding again
once zero ds m h e = absurd (omega arith)
once (suc k) ds m h e = take_at ds (again k ds) m e

pub low_again : (k : ℕ) (ds : List ℕ) → Low ds → Low (again k ds)
unfolding again
low_again zero ds low i h = absurd (omega arith)
low_again (suc k) ds low i h =
    split i (length ds)
    (λ l. rw (get_or-append ds (again k ds) 0 i l) (low i l))
    (λ g.
    let e : i ≡ length ds + (i - length ds) = omega arith in
    let q : get_or (ds ++ again k ds) i 0 ≡ get_or (again k ds) (i - length ds) 0 = ap (λ z. get_or (ds ++ again k ds) z 0) e ∙ get_or-append-add ds (again k ds) (i - length ds) 0 in
    rw q (low_again k ds low (i - length ds) (omega (arith, length-append ds (again k ds)))))

pub positive : (m k n to : ℕ) → n + m ≤ to → to < n + k * m → 0 < m
positive zero k n to f h = absurd (omega (arith, mul-zero k))
positive (suc m) k n to f h = omega arith

-- from the second time on, what stood before
again_back : (k : ℕ) (ds : List ℕ) (j : ℕ) → j + length ds < k * length ds → get_or (again k ds) (length ds + j) 0 ≡ get_or (again k ds) j 0
unfolding again
again_back zero ds j h = absurd (omega (arith, zero-mul (length ds)))
again_back (suc k) ds j h =
    get_or-append-add ds (again k ds) j 0 ∙ sym (front k ds j (omega (arith, suc-mul k (length ds))))
  where
    -- the copies but the last, in front of one more
    front : (k : ℕ) (ds : List ℕ) (j : ℕ) → j < k * length ds → get_or (again (suc k) ds) j 0 ≡ get_or (again k ds) j 0
    front k ds j l = ap (λ z. get_or z j 0) (turned k ds) ∙ get_or-append (again k ds) ds 0 j (omega (arith, again_length ds (length ds) refl k))

-- the loop: the copies are there up to `to`, where they were there up to b
pub record Copied (n m k b : ℕ) (t₀ t : List ℕ) (to : ℕ) : Type 0 where
  pub from : n + m ≤ to
  pub upto : to ≤ n + k * m
  pub long : length t ≡ length t₀
  pub so_far : (cs ds u : List ℕ) → length cs ≡ n → length ds ≡ m → Low ds → t₀ ≡ over (letters (cs ++ take (b - n) (again k ds))) u
      → t ≡ over (letters (cs ++ take (to - n) (again k ds))) u

pub copied_step : (n m k b : ℕ) (t₀ t : List ℕ) (to : ℕ) → to < n + k * m → Copied n m k b t₀ t to → (c : ℕ) → CodeIs (to - m) t c
    → (u : List ℕ) → length u ≡ length t → Spelt to (c ∷ []) t u → Copied n m k b t₀ u (to + 1)
copied_step n m k b t₀ t to h v c r u lu p =
    let f = v.from in
    record {
      from = omega arith;
      upto = omega arith;
      long = lu ∙ v.long;
      so_far = λ cs ds z e g low w. step cs ds z e g low (v.so_far cs ds z e g low w);
    }
  where
    step : (cs ds z : List ℕ) → length cs ≡ n → length ds ≡ m → Low ds → t ≡ over (letters (cs ++ take (to - n) (again k ds))) z
        → u ≡ over (letters (cs ++ take (to + 1 - n) (again k ds))) z
    step cs ds z e g low w =
        let f = v.from in
        let A : List ℕ = again k ds in
        let la : length A ≡ k * m = again_length ds m g k in
        let j : ℕ = to - n in
        let lt : length (take j A) ≡ j = length-take-le j A (omega arith) in
        let L : List ℕ = cs ++ take j A in
        let ll : length L ≡ to = length-append cs (take j A) ∙ omega arith in
        let i : ℕ = to - n - m in
        let x1 : to - m ≡ length cs + i = omega arith in
        let some : 0 < m = positive m k n to f h in
        let x2 : get_or L (to - m) 0 ≡ get_or A i 0 =
        ap (λ q. get_or L q 0) x1 ∙ get_or-append-add cs (take j A) i 0 ∙ get_or-take j A i 0 (omega arith) in
        let x3 : i + length ds < k * length ds = rw g (omega arith) in
        let x4 : get_or A (length ds + i) 0 ≡ get_or A i 0 = again_back k ds i x3 in
        let x5 : length ds + i ≡ j = omega arith in
        let x6 : get_or A i 0 < 128 = low_again k ds low i (omega arith) in
        let cc : c ≡ get_or A j 0 = r L z (omega arith) (rw x2 x6) w ∙ x2 ∙ sym x4 ∙ ap (λ q. get_or A q 0) x5 in
        let y1 : to + 1 - n ≡ suc j = omega arith in
        p L z ll w
        ∙ ap (λ q. over (letters q) z)
        (append_assoc cs (take j A) (c ∷ []) ∙ ap (λ q. cs ++ q) (ap (λ q. take j A ++ (q ∷ [])) cc ∙ sym (take-suc A j 0 (omega arith)) ∙ ap (λ q. take q A) (sym y1)))

pub copied_end : (n m k b : ℕ) (t₀ t : List ℕ) (to : ℕ) → n + k * m ≤ to → Copied n m k b t₀ t to → SpeltFrom n m k b t₀ t
copied_end n m k b t₀ t to h v cs ds z e g low w =
    v.so_far cs ds z e g low w ∙ ap (λ q. over (letters (cs ++ q)) z) (take_all (to - n) (again k ds) (omega (arith, again_length ds m g k)))

-- ---- from the first time on
pub spelt_again : (n m k : ℕ) (t u : List ℕ) → 0 < k → SpeltFrom n m k (n + m) t u → SpeltAgain n m k t u
spelt_again n m k t u h p cs ds z e f low w =
    let x : n + m - n ≡ m = omega arith in
    p cs ds z e f low (w ∙ ap (λ q. over (letters (cs ++ q)) z) (sym (ap (λ q. take q (again k ds)) x ∙ once k ds m h f)))

pub spelt_nothing : (n m k : ℕ) (t : List ℕ) → m ≡ 0 → SpeltAgain n m k t t
spelt_nothing n m k t h cs ds z e f low w =
    let x : ds ≡ [] = none_in ds (f ∙ h) in
    w ∙ ap (λ q. over (letters (cs ++ q)) z) (x ∙ sym (ap (again k) x ∙ again_none k))
