-- Ask 7, sentence by sentence: how a string stands in a table, what it counts for 10, and which tables 12 refuses for it. Theorems
-- about the functions that the contracts of the public operations cite, and about any words. Assumes nothing.
use Prim.Native.Nat.{ℕ, zero, suc, ◌+◌, ◌-◌, ◌*◌, ◌/◌, ◌%◌, ◌^◌, ◌≤◌, ◌<◌, max}
use native.Mathlib.Omega.{arith}
use mathlib.Core.Path.{◌≡◌, refl, sym, ap, ◌∙◌}
use mathlib.Core.Logic.{inr, ◌↔◌}
use mathlib.Core.Bool.{Bool, true, false, not}
use mathlib.Core.List.{List, [], ◌∷◌, ◌++◌}
use lib.ListN.{length, get_or, drop, length-append}
use lib.Seq.{drop_at, drop-drop}
use Rattle.format.specs.Choice.{pick, both, if_eq}
use Rattle.format.specs.Bits.{spread, bits_of, adjusted, words_for}
use Rattle.format.specs.Refusals.{byte_limit}
use Rattle.format.specs.Items.{char, Group, struc, Items, end, group, one, times, is_string, proper}
use Rattle.format.specs.Tables.{count, is_text, rows, in_words, codes, letters, text_words, data_words, row_kind, group_b, row_words, words_needed}
use Rattle.format.specs.Normal.{depth}
use Rattle.format.specs.Messages.{outcome}
use Rattle.format.specs.Answers.{reading, writing, unwritten}
use Rattle.format.proofs.Choices.{whether, pick_yes, both_left, both_right, if_eq_yes, by_eq, by_lt}
use Rattle.format.proofs.Counts.{count_times}
use Rattle.format.proofs.BitLaws.{Below, bits_length_lem, zero_adjusted, adjusted_bits, adjusted_byte, packed_at, spread_length}
use Rattle.format.proofs.TableLaws.{text_kind, other_kind, codes_length, text_length, characters_of}
use Rattle.table.specs.Rows.{kind_at, a_at, b_at, lands, data_to}
use Rattle.table.specs.InOrder.{all_chars, kind_ok, group_ok, bits_ok, low_words, text_ok, row_ok}
use Rattle.table.proofs.Whole.{whole}
use Rattle.table.proofs.RowLaws.{row_text_lem, row_group}
use Rattle.fill.proofs.StringLaws.{string_times}
use Rattle.message.specs.Words.{Says, Accepted, IsTable, Unwritable, no_table, too_deep, too_long}
use Rattle.message.proofs.Cases.{items_of_table, JudgedFirst, judged, no_form, form}
use Rattle.message.proofs.Demands.{accepted_exactly}
use Rattle.message.proofs.ReadExactly.{reading_10}
use Rattle.table.proofs.RunLaws.{string_flat}

-- ---- the row
-- "a string becomes one row of kind 9, a the number of characters, b its first data word": `d` data words come before it
pub string_row : (d : ℕ) (c xs : Items) → is_string c ≡ true → row_words d (group struc c xs) ≡ 9 ∷ count c ∷ d ∷ row_words (d + length (text_words c)) xs
unfolding row_words group_b is_text row_kind
string_row d c xs h = rw (h, pick) refl

-- "A string of none has as b the data words used so far."
pub string_of_none : (d : ℕ) (xs : Items) → row_words d (group struc end xs) ≡ 9 ∷ 0 ∷ d ∷ row_words d xs
unfolding count text_words letters in_words codes is_string
string_of_none d xs = string_row d end xs refl ∙ ap (λ n. 9 ∷ 0 ∷ d ∷ row_words n xs) (omega arith)

-- "Kind 7 is then never a string", and 9 is nothing else
pub kind_9_exactly : (g : Group) (c : Items) → (row_kind g c ≡ 9) ↔ ((g ≡ struc) × (is_string c ≡ true))
kind_9_exactly g c = (
  λ e. whether (is_text g c) (λ t. let k = text_kind g c t in (k.0, k.1)) (λ t. absurd (other_kind g c t e)),
  λ k. (text_kind g c (yes g c k.0 k.1)).2,
)
  where
    yes : (g : Group) (c : Items) → g ≡ struc → is_string c ≡ true → is_text g c ≡ true
    yes g c e h = ap (λ z. is_text z c) e ∙ (unfold is_text in h)

-- ---- the data
-- a code of a list, from the bits of the list
code_back : (cs : List ℕ) (i : ℕ) → Below 8 cs → adjusted 8 (drop (8 * i) (spread 8 cs)) ≡ get_or cs i 0
unfolding spread
code_back [] i b = ap (adjusted 8) (nothing (8 * i)) ∙ zero_adjusted 8
  where
    nothing : (n : ℕ) → drop n (spread 8 []) ≡ []
    nothing zero = refl
    nothing (suc n) = refl
code_back (c ∷ cs) zero b = adjusted_bits 8 c (spread 8 cs) b.0
code_back (c ∷ cs) (suc i) b =
    let e : 8 * suc i ≡ 8 + 8 * i = omega arith in
    let d : drop (8 + 8 * i) (bits_of 8 c ++ spread 8 cs) ≡ drop (8 * i) (spread 8 cs) =
    sym (drop-drop (8 * i) 8 (bits_of 8 c ++ spread 8 cs)) ∙ ap (drop (8 * i)) (drop_at (bits_of 8 c) (spread 8 cs) 8 (bits_length_lem 8 c)) in
    ap (λ n. adjusted 8 (drop n (bits_of 8 c ++ spread 8 cs))) e ∙ ap (adjusted 8) d ∙ code_back cs i b.1

-- "eight codes to a word, the high byte first, spare bytes 0": byte i of a string's words is its code i, and behind the last 0
pub code_in_word : (c : Items) (i : ℕ) → is_string c ≡ true → proper c ≡ true → i < 8 * length (text_words c)
    → get_or (text_words c) (i / 8) 0 / 2 ^ (56 - 8 * (i % 8)) % 256 ≡ get_or (codes c) i 0
unfolding text_words letters in_words
code_in_word c i h p l =
    let bs : List Bool = spread 8 (codes c) in
    let k : i / 8 < words_for (length bs) = few (ap words_for (spread_length 8 (codes c) ∙ ap (λ n. 8 * n) (codes_length c))) in
    ap (λ v. v / 2 ^ (56 - 8 * (i % 8)) % 256) (packed_at 64 (words_for (length bs)) bs (i / 8) k)
    ∙ adjusted_byte i bs ∙ code_back (codes c) i (characters_of c h p).below
  where
    few : {n : ℕ} → n ≡ words_for (8 * count c) → i / 8 < n
    few e = let w = text_length c in omega arith

-- ---- 10
-- "Refusal 10 counts a string as one row plus its words"
pub string_counts : (c xs : Items) → is_string c ≡ true
    → (rows (group struc c xs) ≡ 1 + rows xs) × (length (data_words (group struc c xs)) ≡ words_for (8 * count c) + length (data_words xs))
unfolding rows data_words is_text
string_counts c xs h =
    let r = pick_yes (is_string c) 0 (rows c) h in
    let w = pick_yes (is_string c) (text_words c) (data_words c) h in
    (omega arith, length-append (pick (is_string c) (text_words c) (data_words c)) (data_words xs) ∙ ap (λ n. n + length (data_words xs)) (ap length w ∙ text_length c))

-- "so some long strings are newly accepted": a message that says one string is accepted up to 131,072 characters, room being lent,
-- and refused with 10 from there on
module _ (m t : List ℕ) (c : Items) (h : is_string c ≡ true) (s : Says m (group struc c end)) (short : length m ≤ byte_limit) where
  pub longest_accepted : count c ≤ 131072 → words_needed (group struc c end) ≤ length t → Accepted m t
  unfolding words_for rows data_words
  longest_accepted n room =
      let k = string_counts c end h in
      let k0 = k.0 in
      let k1 = k.1 in
      (accepted_exactly m t).1 (group struc c end, record { short = short; said = s; few_rows = omega arith; few_words = omega arith; room = room })

  pub one_more_refused : 131072 < count c → (reading m t).number ≡ 10
  unfolding words_for data_words
  one_more_refused n = let k1 = (string_counts c end h).1 in (reading_10 m t).1 (group struc c end, short, s, inr (omega arith))

-- ---- 12
true_false : (true ≡ false) → ⊥
true_false e = let z : ◌≡◌ {A = ℕ} 0 1 = cc in omega arith

-- every row of a table is in order, by the words
row_in_order : (w : List ℕ) (xs : Items) (p : ℕ) → IsTable w xs → p < get_or w 0 0 → row_ok w (get_or w 0 0) p ≡ true
row_in_order w xs p i l = (whole w xs (items_of_table w xs i)).formed.each p (omega arith) l

-- "strings and BITS share the data in row order": b of a string is the data words of the rows before it
pub string_place : (w : List ℕ) (xs : Items) (p : ℕ) → IsTable w xs → p < get_or w 0 0 → kind_at w p ≡ 9 → b_at w p ≡ data_to w p
string_place w xs p i l k = placed (row_in_order w xs p i l)
  where
    first : (b d : ℕ) (x : Bool) → if_eq b d x false ≡ true → b ≡ d
    first b d x = by_eq (λ z. z ≡ true → b ≡ d) b d {x = x} {y = false} (λ e y. e) (λ n y. absurd (true_false (sym y)))

    placed : row_ok w (get_or w 0 0) p ≡ true → b_at w p ≡ data_to w p
    placed o = unfold text_ok bits_ok in first _ _ _ (both_left _ _ (sym (row_text_lem w (get_or w 0 0) p k) ∙ o))

-- "codes are below 80 hex", as those of CHARs are, in every word of a string
pub string_codes : (w : List ℕ) (xs : Items) (p : ℕ) → IsTable w xs → p < get_or w 0 0 → kind_at w p ≡ 9
    → low_words w (3 * get_or w 0 0 + 4 + data_to w p) (words_for (8 * a_at w p)) ≡ true
unfolding text_ok
string_codes w xs p i l k =
    both_right (bits_ok w (data_to w p) (8 * a_at w p) (b_at w p)) (low_words w (3 * get_or w 0 0 + 4 + data_to w p) (words_for (8 * a_at w p)))
    (sym (row_text_lem w (get_or w 0 0) p k) ∙ row_in_order w xs p i l)

-- a STRUC's row is in order only where its kind is, and 7 is not where all elements are CHARs
group_kind_ok : (w : List ℕ) (R p : ℕ) → group_ok w R p ≡ true → kind_ok w p (p + 1 + b_at w p) ≡ true
unfolding group_ok
group_kind_ok w R p =
    by_lt (λ z. z ≡ true → kind_ok w p (p + 1 + b_at w p) ≡ true) (R - (p + 1)) (b_at w p)
    {x = false} {y = both (lands w (a_at w p) (p + 1) (p + 1 + b_at w p)) (kind_ok w p (p + 1 + b_at w p))}
    (λ e q. absurd (true_false (sym q))) (λ n q. both_right (lands w (a_at w p) (p + 1) (p + 1 + b_at w p)) (kind_ok w p (p + 1 + b_at w p)) q)

seven_kind : (w : List ℕ) (p e : ℕ) → kind_at w p ≡ 7 → all_chars w (p + 1) e ≡ true → kind_ok w p e ≡ false
unfolding kind_ok
seven_kind w p e k h = if_eq_yes (kind_at w p) 7 _ _ k ∙ ap not h

-- words with a row that is not in order are refused with 12, whatever output is lent
pub row_refused : (w o : List ℕ) (p : ℕ) → p < get_or w 0 0 → row_ok w (get_or w 0 0) p ≡ false → writing w o ≡ unwritten 12 0 o
row_refused w o p l n = go (judged w)
  where
    never : (xs : Items) → IsTable w xs → ⊥
    never xs i = true_false (sym (row_in_order w xs p i l) ∙ n)

    refused_as : (n : ℕ) → Unwritable w n → n ≡ 12
    refused_as n (no_table x) = refl
    refused_as n (too_deep xs i d) = absurd (never xs i)
    refused_as n (too_long xs i d e) = absurd (never xs i)

    go : JudgedFirst w → writing w o ≡ unwritten 12 0 o
    go (no_form n u f) = f o ∙ ap (λ z. unwritten z 0 o) (refused_as n u)
    go (form xs i c f) = absurd (never xs i)

-- "12 refuses one that is": a row of kind 7 whose elements are all CHARs, or that has none
pub seven_refused : (w o : List ℕ) (p : ℕ) → p < get_or w 0 0 → kind_at w p ≡ 7 → all_chars w (p + 1) (p + 1 + b_at w p) ≡ true → writing w o ≡ unwritten 12 0 o
seven_refused w o p l k h =
    let R : ℕ = get_or w 0 0 in
    row_refused w o p l
    (whether (row_ok w R p)
    (λ y. absurd (true_false (sym (group_kind_ok w R p (sym (row_group w R p (omega arith) (λ z. omega arith)) ∙ y)) ∙ seven_kind w p (p + 1 + b_at w p) k h)))
    (λ n. n))

-- a row of kind 9 with a code of 80 hex or more
pub high_code_refused : (w o : List ℕ) (p : ℕ) → p < get_or w 0 0 → kind_at w p ≡ 9 → low_words w (3 * get_or w 0 0 + 4 + data_to w p) (words_for (8 * a_at w p)) ≡ false
    → writing w o ≡ unwritten 12 0 o
unfolding text_ok
high_code_refused w o p l k h =
    row_refused w o p l
    (row_text_lem w (get_or w 0 0) p k
    ∙ whether (bits_ok w (data_to w p) (8 * a_at w p) (b_at w p)) (λ y. rw y (unfold both in h)) (λ n. rw n (unfold both in refl)))

-- ---- 13
-- "13 counts a string as a STRUC": it is one container, and none stands in it
pub string_depth : (c xs : Items) → is_string c ≡ true → depth (group struc c xs) ≡ max 1 (depth xs)
unfolding depth
string_depth c xs h = ap (λ n. max (suc n) (depth xs)) (string_flat c h)

-- ---- "a repeat can make one of 131,072 characters": C2 07 C4 05 E3, a count of three bytes, 41
so_many : ℕ → Items
so_many n = group struc (times n (one (char 0x41))) end

are_chars : (n : ℕ) → 0 < n → (is_string (times n (one (char 0x41))) ≡ true) × (count (times n (one (char 0x41))) ≡ n)
are_chars zero h = absurd (omega arith)
are_chars (suc n) h = (string_times n (one (char 0x41)) ∙ (unfold is_string in refl), count_times (suc n) (one (char 0x41)) ∙ (unfold count in omega arith))

full_says : Says (0xc2 ∷ 7 ∷ 0xc4 ∷ 5 ∷ 0xe3 ∷ 2 ∷ 0 ∷ 0 ∷ 0x41 ∷ []) (so_many 131072)
unfolding outcome so_many
full_says = refl

over_says : Says (0xc2 ∷ 7 ∷ 0xc4 ∷ 5 ∷ 0xe3 ∷ 2 ∷ 0 ∷ 1 ∷ 0x41 ∷ []) (so_many 131073)
unfolding outcome so_many
over_says = refl

-- 131,072: accepted, in a table of 16,391 words; one more: 10
pub full_accepted : (t : List ℕ) → 16391 ≤ length t → Accepted (0xc2 ∷ 7 ∷ 0xc4 ∷ 5 ∷ 0xe3 ∷ 2 ∷ 0 ∷ 0 ∷ 0x41 ∷ []) t
unfolding so_many words_needed words_for
full_accepted t h =
    let k = are_chars 131072 (omega arith) in
    let n = string_counts (times 131072 (one (char 0x41))) end k.0 in
    let n0 = n.0 in
    let n1 = n.1 in
    let c = k.1 in
    longest_accepted _ t (times 131072 (one (char 0x41))) k.0 full_says (omega arith) (omega arith) (unfold rows data_words in omega arith)

pub over_refused : (t : List ℕ) → (reading (0xc2 ∷ 7 ∷ 0xc4 ∷ 5 ∷ 0xe3 ∷ 2 ∷ 0 ∷ 1 ∷ 0x41 ∷ []) t).number ≡ 10
unfolding so_many
over_refused t =
    let k = are_chars 131073 (omega arith) in
    let c = k.1 in
    one_more_refused _ t (times 131073 (one (char 0x41))) k.0 over_says (omega arith) (omega arith)
