-- What the judge asks of single rows, step by step as the code asks it. Assumes nothing.
use mathlib.Core.Path.{◌≡◌, refl, sym, ap₂, ◌∙◌}
use mathlib.Core.List.{List}
use mathlib.Core.Bool.{Bool, true, false, not}
use Prim.Native.Nat.{ℕ, zero, suc, ◌+◌, ◌-◌, ◌*◌, ◌%◌, ◌^◌, ◌<◌, ◌≤◌}
use native.Mathlib.Omega.{arith}
use native.Mathlib.Numerals.{add-one}
use lib.ListN.{get_or}
use lib.Dec.{ltb, eqb}
use Rattle.std.specs.Prelude.{Option, Some, None}
use Rattle.std.specs.Bool.{then_some}
use Rattle.format.specs.Choice.{if_eq, both, either}
use Rattle.format.specs.Bits.{words_for}
use Rattle.format.proofs.Choices.{pick_yes, pick_no, if_lt_yes, if_lt_no, if_eq_yes, if_eq_no, lt_true, lt_false, eq_true, eq_false, by_lt, split, split_eq, whether, both_left, both_right, both_yes, both_no}
use Rattle.table.specs.Rows.{next_row, kind_at, a_at, b_at, single, lands, data_at, data_to, rows_of, words_of}
use Rattle.table.specs.InOrder.{chars_f, all_chars, int_at, edt_rows, kind_fits, kind_ok, group_ok, values, plain_ok, last_word, bits_ok, low_words, text_ok, row_ok, BitsJudged, TextJudged, RowJudged, RowsInOrder}

module _ (k : ℕ) where
  pub single_leaf : k < 7 → single k ≡ true
  unfolding single either
  single_leaf h = rw (lt_true k 7 h) refl

  pub single_text : k ≡ 9 → single k ≡ true
  unfolding single either
  single_text e = rw (lt_false k 7 (omega arith)) (eq_true k 9 e)

  pub single_not : 7 ≤ k → (k ≡ 9 → ⊥) → single k ≡ false
  unfolding single either
  single_not h n = rw (lt_false k 7 h) (eq_false k 9 n)

-- ---- the row behind an item
pub next_one : (w : List ℕ) (p : ℕ) → single (kind_at w p) ≡ true → next_row w p ≡ p + 1
unfolding next_row
next_one w p t = pick_yes (single (kind_at w p)) (p + 1) (p + 1 + b_at w p) t

pub next_more : (w : List ℕ) (p : ℕ) → single (kind_at w p) ≡ false → next_row w p ≡ p + 1 + b_at w p
unfolding next_row
next_more w p t = pick_no (single (kind_at w p)) (p + 1) (p + 1 + b_at w p) t

-- ---- hopping over direct elements
module _ (w : List ℕ) (e : ℕ) where
  pub lands_end : (n p : ℕ) → n ≡ 0 → lands w n p e ≡ eqb p e
  unfolding lands
  lands_end n p z = rw z refl

  pub lands_out : (n p : ℕ) → 0 < n → e ≤ p → lands w n p e ≡ false
  unfolding lands
  lands_out zero p h l = absurd (omega arith)
  lands_out (suc n) p h l = if_lt_no p e _ _ l

  pub lands_leaf : (n p : ℕ) → 0 < n → p < e → single (kind_at w p) ≡ true → lands w n p e ≡ lands w (n - 1) (p + 1) e
  unfolding lands
  lands_leaf zero p h l k = absurd (omega arith)
  lands_leaf (suc n) p h l k =
      let z : suc n - 1 ≡ n = omega arith in
      rw z (if_lt_yes p e _ _ l ∙ pick_yes (single (kind_at w p)) _ _ k)

  pub lands_beyond : (n p : ℕ) → 0 < n → single (kind_at w p) ≡ false → e - (p + 1) < b_at w p → lands w n p e ≡ false
  unfolding lands
  lands_beyond zero p h k s = absurd (omega arith)
  lands_beyond (suc n) p h k s =
      by_lt (λ b. b ≡ false) p e (λ l. pick_no (single (kind_at w p)) _ _ k ∙ if_lt_yes (e - (p + 1)) (b_at w p) _ _ s) (λ g. refl)

  pub lands_group : (n p : ℕ) → 0 < n → p < e → single (kind_at w p) ≡ false → b_at w p ≤ e - (p + 1) → lands w n p e ≡ lands w (n - 1) (p + 1 + b_at w p) e
  unfolding lands
  lands_group zero p h l k s = absurd (omega arith)
  lands_group (suc n) p h l k s =
      let z : suc n - 1 ≡ n = omega arith in
      rw z (if_lt_yes p e _ _ l ∙ pick_no (single (kind_at w p)) _ _ k ∙ if_lt_no (e - (p + 1)) (b_at w p) _ _ s)

  -- past an item of one row, and over a container's elements
  pub lands_past : (n m p q : ℕ) → m + 1 ≡ n → q ≡ p + 1 → p < e → single (kind_at w p) ≡ true → lands w n p e ≡ lands w m q e
  lands_past n m p q k j l s = lands_leaf n p (omega arith) l s ∙ ap₂ (λ x y. lands w x y e) (omega arith) (sym j)

  pub lands_over : (n m p q : ℕ) → m + 1 ≡ n → q ≡ p + 1 + b_at w p → p < e → single (kind_at w p) ≡ false → b_at w p ≤ e - (p + 1) → lands w n p e ≡ lands w m q e
  lands_over n m p q k j l s b = lands_group n p (omega arith) l s b ∙ ap₂ (λ x y. lands w x y e) (omega arith) (sym j)

pub ruleset hopping = (lands_end, lands_out, lands_past, lands_beyond, lands_over)

-- ---- strings
module _ (w : List ℕ) (p e : ℕ) where
  pub chars_out : e ≤ p → all_chars w p e ≡ true
  unfolding all_chars chars_f
  chars_out h = let z : e - p ≡ 0 = omega arith in rw z

  pub chars_in : p < e → all_chars w p e ≡ both (eqb (kind_at w p) 3) (all_chars w (p + 1) e)
  unfolding all_chars chars_f
  chars_in h = let z : e - p ≡ suc (e - (p + 1)) = omega arith in rw z

  pub chars_yes : p < e → kind_at w p ≡ 3 → all_chars w p e ≡ all_chars w (p + 1) e
  unfolding both
  chars_yes h k = chars_in h ∙ rw (eq_true (kind_at w p) 3 k) refl

  pub chars_no : p < e → (kind_at w p ≡ 3 → ⊥) → all_chars w p e ≡ false
  unfolding both
  chars_no h k = chars_in h ∙ rw (eq_false (kind_at w p) 3 k) refl

  -- ---- the EDT rule
  pub int_in : p < e → int_at w p e ≡ eqb (kind_at w p) 1
  unfolding int_at both
  int_in h = rw (lt_true p e h) refl

  pub int_out : e ≤ p → int_at w p e ≡ false
  unfolding int_at both
  int_out h = rw (lt_false p e h) refl

  pub edt_out : e ≤ p → edt_rows w p e ≡ false
  unfolding edt_rows
  edt_out h = if_lt_no p e _ _ h

  pub edt_in : p < e → edt_rows w p e ≡ both (either (eqb (kind_at w p) 1) (eqb (kind_at w p) 9)) (int_at w (p + 1) e)
  unfolding edt_rows
  edt_in h = if_lt_yes p e _ _ h

pub ruleset passing_chars = (chars_out, chars_yes, chars_no)

-- ---- groups
module _ (w : List ℕ) (R p : ℕ) where
  pub group_beyond : R - (p + 1) < b_at w p → group_ok w R p ≡ false
  unfolding group_ok
  group_beyond s = if_lt_yes (R - (p + 1)) (b_at w p) _ _ s

  pub group_missed : lands w (a_at w p) (p + 1) (p + 1 + b_at w p) ≡ false → group_ok w R p ≡ false
  unfolding group_ok
  group_missed m =
      by_lt (λ b. b ≡ false) (R - (p + 1)) (b_at w p) (λ l. refl) (λ g. both_no _ _ m)

  pub group_landed : b_at w p ≤ R - (p + 1) → lands w (a_at w p) (p + 1) (p + 1 + b_at w p) ≡ true → group_ok w R p ≡ kind_ok w p (p + 1 + b_at w p)
  unfolding group_ok
  group_landed s m = if_lt_no (R - (p + 1)) (b_at w p) _ _ s ∙ both_yes _ _ m

module _ (w : List ℕ) (p e : ℕ) where
  pub kind_struc : kind_at w p ≡ 7 → kind_ok w p e ≡ not (all_chars w (p + 1) e)
  unfolding kind_ok kind_fits
  kind_struc k = if_eq_yes (kind_at w p) 7 _ _ k

  pub kind_edt : kind_at w p ≡ 8 → kind_ok w p e ≡ edt_rows w (p + 1) e
  unfolding kind_ok kind_fits
  kind_edt k = if_eq_no (kind_at w p) 7 _ _ (λ z. omega arith) ∙ if_eq_yes (kind_at w p) 8 _ _ k

  pub kind_other : (kind_at w p ≡ 7 → ⊥) → (kind_at w p ≡ 8 → ⊥) → kind_ok w p e ≡ false
  unfolding kind_ok kind_fits
  kind_other j k = if_eq_no (kind_at w p) 7 _ _ j ∙ if_eq_no (kind_at w p) 8 _ _ k

-- ---- rows with one number
pub values_other : (k : ℕ) → (k ≡ 1 → ⊥) → (k ≡ 3 → ⊥) → (k ≡ 4 → ⊥) → (k ≡ 5 → ⊥) → (k ≡ 6 → ⊥) → values k ≡ 0
unfolding values
values_other k a c d e f = rw (if_eq_no k 1 _ _ a, if_eq_no k 3 _ _ c, if_eq_no k 4 _ _ d, if_eq_no k 5 _ _ e, if_eq_no k 6 _ _ f)

pub plain_a : (k a b : ℕ) → (a ≡ 0 → ⊥) → plain_ok k a b ≡ false
unfolding plain_ok
plain_a k a b h = if_eq_no a 0 _ _ h

pub plain_values : (k a b : ℕ) → a ≡ 0 → plain_ok k a b ≡ ltb b (values k)
unfolding plain_ok
plain_values k a b h = if_eq_yes a 0 _ _ h

pub plain_int : (k a b : ℕ) → a ≡ 0 → k ≡ 1 → b < 2 ^ 64 → plain_ok k a b ≡ true
unfolding values
plain_int k a b h e l = plain_values k a b h ∙ rw (if_eq_yes k 1 (2 ^ 64) (if_eq k 3 128 (if_eq k 4 2 (if_eq k 5 1 (if_eq k 6 4 0)))) e) (lt_true b (2 ^ 64) l)

pub plain_none : (k a b : ℕ) → 7 ≤ k → plain_ok k a b ≡ false
plain_none k a b h =
    split_eq a 0
    (λ z. plain_values k a b z ∙ lt_false b (values k) (omega (arith, values_other k (λ z. omega arith) (λ z. omega arith) (λ z. omega arith) (λ z. omega arith) (λ z. omega arith))))
    (λ z. plain_a k a b z)

-- ---- BITS
module _ (w : List ℕ) (d a b : ℕ) where
  pub bits_first : (b ≡ d → ⊥) → bits_ok w d a b ≡ false
  unfolding bits_ok
  bits_first h = if_eq_no b d _ _ h

  pub bits_long : b ≡ d → 64 * (get_or w 3 0 - d) < a → bits_ok w d a b ≡ false
  unfolding bits_ok
  bits_long h l = if_eq_yes b d _ _ h ∙ if_lt_yes (64 * (get_or w 3 0 - d)) a _ _ l

  pub bits_spare : b ≡ d → a ≤ 64 * (get_or w 3 0 - d) → bits_ok w d a b ≡ eqb (last_word w d a % 2 ^ (64 * words_for a - a)) 0
  unfolding bits_ok
  bits_spare h l = if_eq_yes b d _ _ h ∙ if_lt_no (64 * (get_or w 3 0 - d)) a _ _ l

-- ---- strings by their data words
module _ (w : List ℕ) (d a b : ℕ) where
  pub text_bits : bits_ok w d (8 * a) b ≡ false → text_ok w d a b ≡ false
  unfolding text_ok
  text_bits h = both_no (bits_ok w d (8 * a) b) _ h

  pub text_codes : bits_ok w d (8 * a) b ≡ true → text_ok w d a b ≡ low_words w (3 * get_or w 0 0 + 4 + d) (words_for (8 * a))
  unfolding text_ok
  text_codes h = both_yes (bits_ok w d (8 * a) b) _ h

  pub text_both : text_ok w d a b ≡ true → (bits_ok w d (8 * a) b ≡ true) × (low_words w (3 * get_or w 0 0 + 4 + d) (words_for (8 * a)) ≡ true)
  unfolding text_ok
  text_both h = (both_left (bits_ok w d (8 * a) b) _ h, both_right (bits_ok w d (8 * a) b) _ h)

  -- more characters than all data words have
  pub text_long : get_or w 3 0 ≤ 16384 → 131072 < a → text_ok w d a b ≡ false
  text_long l h =
      text_bits (split_eq b d (λ e. bits_long w d (8 * a) b e (omega arith)) (λ n. bits_first w d (8 * a) b n))

-- ---- any row
pub data_suc : (w : List ℕ) (p : ℕ) → data_to w (p + 1) ≡ data_to w p + data_at w p
unfolding data_to
data_suc w p = rw (add-one p) refl

pub data_bits : (w : List ℕ) (p : ℕ) → kind_at w p ≡ 2 → data_at w p ≡ words_for (a_at w p)
unfolding data_at
data_bits w p k = if_eq_yes (kind_at w p) 2 _ _ k

pub data_text : (w : List ℕ) (p : ℕ) → kind_at w p ≡ 9 → data_at w p ≡ words_for (8 * a_at w p)
unfolding data_at
data_text w p k = if_eq_no (kind_at w p) 2 _ _ (λ z. omega arith) ∙ if_eq_yes (kind_at w p) 9 _ _ k

pub data_none : (w : List ℕ) (p : ℕ) → (kind_at w p ≡ 2 → ⊥) → (kind_at w p ≡ 9 → ⊥) → data_at w p ≡ 0
unfolding data_at
data_none w p k l = if_eq_no (kind_at w p) 2 _ _ k ∙ if_eq_no (kind_at w p) 9 _ _ l

module _ (w : List ℕ) (R p : ℕ) where
  pub row_group : 7 ≤ kind_at w p → (kind_at w p ≡ 9 → ⊥) → row_ok w R p ≡ group_ok w R p
  unfolding row_ok
  row_group g n = if_lt_no (kind_at w p) 7 _ _ g ∙ if_eq_no (kind_at w p) 9 _ _ n

  pub row_text_lem : kind_at w p ≡ 9 → row_ok w R p ≡ text_ok w (data_to w p) (a_at w p) (b_at w p)
  unfolding row_ok
  row_text_lem k = if_lt_no (kind_at w p) 7 _ _ (omega arith) ∙ if_eq_yes (kind_at w p) 9 _ _ k

  pub row_bits : kind_at w p ≡ 2 → row_ok w R p ≡ bits_ok w (data_to w p) (a_at w p) (b_at w p)
  unfolding row_ok
  row_bits k = if_lt_yes (kind_at w p) 7 _ _ (omega arith) ∙ if_eq_yes (kind_at w p) 2 _ _ k

  pub row_plain : kind_at w p < 7 → (kind_at w p ≡ 2 → ⊥) → row_ok w R p ≡ plain_ok (kind_at w p) (a_at w p) (b_at w p)
  unfolding row_ok
  row_plain l k = if_lt_yes (kind_at w p) 7 _ _ l ∙ if_eq_no (kind_at w p) 2 _ _ k

  -- a row of a kind without data words, that is no container's
  pub row_other : (kind_at w p ≡ 2 → ⊥) → (kind_at w p ≡ 7 → ⊥) → (kind_at w p ≡ 8 → ⊥) → (kind_at w p ≡ 9 → ⊥) → row_ok w R p ≡ plain_ok (kind_at w p) (a_at w p) (b_at w p)
  row_other n2 n7 n8 n9 =
      split (kind_at w p) 7 (λ l. row_plain l n2)
      (λ g.
      let q : group_ok w R p ≡ false =
      split (R - (p + 1)) (b_at w p) (λ l. group_beyond w R p l)
      (λ l. whether (lands w (a_at w p) (p + 1) (p + 1 + b_at w p)) (λ m. group_landed w R p l m ∙ kind_other w p _ n7 n8) (λ m. group_missed w R p m)) in
      row_group g n9 ∙ q ∙ sym (plain_none (kind_at w p) (a_at w p) (b_at w p) g))
  -- the answer on a row that takes no data words

pub plain_judged : (w : List ℕ) (p d : ℕ) (b : Bool) → row_ok w (rows_of w) p ≡ b → (kind_at w p ≡ 2 → ⊥) → (kind_at w p ≡ 9 → ⊥) → d ≡ data_to w p → d ≤ words_of w → RowJudged w p d (then_some b 0)
plain_judged w p d true t k n e l = (t, omega arith, rw (data_suc w p, data_none w p k n) (omega arith))
plain_judged w p d false t k n e l = t

pub bits_judged : (w : List ℕ) (p d : ℕ) (r : Option ℕ) → kind_at w p ≡ 2 → d ≡ data_to w p → BitsJudged w d (a_at w p) (b_at w p) r → RowJudged w p d r
bits_judged w p d None k e j = row_bits w (rows_of w) p k ∙ (rw e at j)
bits_judged w p d (Some n) k e j = (row_bits w (rows_of w) p k ∙ (rw e at j.0), j.1, rw (data_suc w p, data_bits w p k, j.2, e) refl)

pub text_judged : (w : List ℕ) (p d : ℕ) (r : Option ℕ) → kind_at w p ≡ 9 → d ≡ data_to w p → TextJudged w d (a_at w p) (b_at w p) r → RowJudged w p d r
text_judged w p d None k e j = row_text_lem w (rows_of w) p k ∙ (rw e at j)
text_judged w p d (Some n) k e j = (row_text_lem w (rows_of w) p k ∙ (rw e at j.0), j.1, rw (data_suc w p, data_text w p k, j.2, e) refl)

-- rows in order before p, and one row more
pub row_on : (w : List ℕ) (p : ℕ) → RowsInOrder w p → row_ok w (rows_of w) p ≡ true → RowsInOrder w (p + 1)
row_on w p f t i h = split i p (λ l. f i l) (λ g. let e : p ≡ i = omega arith in rw e at t)

-- an INT with nothing in its second word is in order, and takes no data words
pub int_judged : (w : List ℕ) (p d : ℕ) → kind_at w p ≡ 1 → a_at w p ≡ 0 → b_at w p < 2 ^ 64 → d ≡ data_to w p → d ≤ words_of w → RowJudged w p d (Some 0)
int_judged w p d k a b e l =
    plain_judged w p d true (row_plain w (rows_of w) p (omega arith) (λ z. omega arith) ∙ plain_int (kind_at w p) (a_at w p) (b_at w p) a k b) (λ z. omega arith) (λ z. omega arith) e l

-- behind a row in order
pub judged_on : (w : List ℕ) (p d n e : ℕ) → RowsInOrder w p → e ≡ d + n → RowJudged w p d (Some n) → RowsInOrder w (p + 1) × (e ≡ data_to w (p + 1)) × (e ≤ words_of w)
judged_on w p d n e f q j = (row_on w p f j.0, q ∙ j.2, omega (arith, j.1))

pub ruleset judging_row = (row_group, row_other, plain_judged, bits_judged, text_judged)

pub ruleset judging_rows = (judged_on, int_judged)
