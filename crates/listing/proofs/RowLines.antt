-- The line of a row by its kind, and the bits of a BITS from its data words. Assumes nothing.
use mathlib.Core.Path.{◌≡◌, refl, sym, ap, ◌∙◌}
use mathlib.Core.Bool.{Bool, false}
use mathlib.Core.List.{List, [], ◌∷◌, ◌++◌, append_assoc, append-nil}
use Prim.Native.Nat.{ℕ, ◌+◌, ◌*◌, ◌≤◌, ◌<◌}
use native.Mathlib.Omega.{arith}
use mathlib.Core.Logic.{◌≢◌, ◌⊎◌, inl, inr}
use lib.ListN.{length, take, drop, get_or, length-drop}
use lib.Seq.{drop-drop}
use Rattle.format.specs.Choice.{if_eq, pick}
use Rattle.format.specs.Numbers.{signed}
use Rattle.format.specs.Bits.{spread, words_for}
use Rattle.format.specs.Items.{Leaf, int, bits, char, bool, empty, xtra, Group, struc, edt, Items, leaf_kind, is_string}
use Rattle.format.specs.Tables.{from_words, leaf_b, is_text, container_kind, row_kind, codes}
use Rattle.format.specs.Kinds.{word_of}
use Rattle.format.specs.declared.kinds.Kind.{Kind}
use Rattle.format.specs.declared.kinds.Kind.TheVariants as K
use Rattle.format.proofs.Choices.{by_pick, if_lt_yes, if_lt_no, if_eq_yes, if_eq_no}
use Rattle.format.proofs.TableLaws.{leaf_kind_lem, other_kind}
use Rattle.table.proofs.Standing.{group_kind_lem}
use Rattle.table.specs.Rows.{kind_at, a_at, b_at, data_of, leaf_at, LeafAt, text_at}
use Rattle.table.proofs.RowData.{BitsRow, bits_at, int_at_lem}
use Rattle.listing.specs.Lines.{decimal, signed_decimal, bit_text, bits_column, leaf_columns, group_columns, text_value, text_columns, line, newline}
use Rattle.listing.specs.RowTexts.{kind_word, leaf_bits, leaf_value, value_at, row_text, RowInOrder}

-- ---- the bits of a BITS
pub bits_row : (w : List ℕ) (p : ℕ) → RowInOrder w p → kind_at w p ≡ 2 → BitsRow w p
bits_row w p h k = bits_at w p (h.leaf (omega arith)) k

module _ (w : List ℕ) (p : ℕ) (r : BitsRow w p) where
  abbrev stream : List Bool
  stream = from_words (a_at w p) (b_at w p) (data_of w)

  -- the data words are there
  pub words_in : 3 * get_or w 0 0 + 4 + b_at w p ≤ length w
  words_in = let k = r.kept.stored in omega arith

  pub bits_in : a_at w p ≤ 64 * length (drop (3 * get_or w 0 0 + 4 + b_at w p) w)
  unfolding words_for
  bits_in = let k = r.kept.stored in omega (arith, length-drop (3 * get_or w 0 0 + 4 + b_at w p) w)

  pub stream_is : bit_text (leaf_bits (leaf_at w p)) ≡ bit_text (take (a_at w p) (spread 64 (drop (3 * get_or w 0 0 + 4 + b_at w p) w)))
  unfolding leaf_bits from_words
  stream_is =
      let e : 4 + 3 * get_or w 0 0 + b_at w p ≡ 3 * get_or w 0 0 + 4 + b_at w p = omega arith in
      rw r.is (ap (λ l. bit_text (take (a_at w p) (spread 64 l))) (drop-drop (b_at w p) (4 + 3 * get_or w 0 0) w ∙ ap (λ n. drop n w) e))

  -- the number of bits, then nothing, or a space and the bits
  pub value_is : leaf_value (leaf_at w p) ≡ decimal (a_at w p) ++ bits_column stream
  unfolding leaf_value
  value_is = ap leaf_value r.is ∙ ap (λ n. decimal n ++ bits_column stream) r.kept.number

  pub bits_none : a_at w p ≡ 0 → leaf_value (leaf_at w p) ≡ decimal (a_at w p)
  bits_none z = value_is ∙ go stream (r.kept.number ∙ z)
    where
      go : (bs : List Bool) → length bs ≡ 0 → decimal (a_at w p) ++ bits_column bs ≡ decimal (a_at w p)
      go [] e = unfold bits_column in append-nil (decimal (a_at w p))
      go (b ∷ bs) e = absurd (omega arith)

  pub bits_some : 0 < a_at w p → leaf_value (leaf_at w p) ≡ decimal (a_at w p) ++ (0x20 ∷ bit_text (leaf_bits (leaf_at w p)))
  unfolding leaf_bits
  bits_some z = let n = r.kept.number in value_is ∙ rw r.is (go stream (omega arith))
    where
      go : (bs : List Bool) → 0 < length bs → decimal (a_at w p) ++ bits_column bs ≡ decimal (a_at w p) ++ (0x20 ∷ bit_text bs)
      go [] e = absurd (omega arith)
      go (b ∷ bs) e = unfold bits_column in refl

-- ---- the kinds of rows
pub known_leaf : (l : Leaf) → (0 < leaf_kind l) × (leaf_kind l ≤ 9)
unfolding leaf_kind
known_leaf (int z) = (omega arith, omega arith)
known_leaf (bits bs) = (omega arith, omega arith)
known_leaf (char c) = (omega arith, omega arith)
known_leaf (bool b) = (omega arith, omega arith)
known_leaf empty = (omega arith, omega arith)
known_leaf (xtra n) = (omega arith, omega arith)

pub known_group : (g : Group) (c : Items) → row_kind g c ≤ 9
unfolding row_kind container_kind is_text
known_group struc c = by_pick (λ k. k ≤ 9) (is_string c) (λ t. omega arith) (λ t. omega arith)
known_group edt c = unfold pick in omega arith

-- ---- the columns by kind
leaf_columns_lem : (l : Leaf) → leaf_columns l ≡ kind_word (leaf_kind l) ++ leaf_value l
unfolding leaf_columns kind_word leaf_kind leaf_value if_eq pick
leaf_columns_lem (int z) = refl
leaf_columns_lem (bits bs) = refl
leaf_columns_lem (char c) = refl
leaf_columns_lem (bool b) = refl
leaf_columns_lem empty = refl
leaf_columns_lem (xtra n) = refl

group_columns_lem : (g : Group) (c : Items) (n : ℕ) → is_text g c ≡ false → group_columns g n ≡ kind_word (row_kind g c) ++ decimal n
unfolding group_columns kind_word row_kind container_kind is_text is_string if_eq pick
group_columns_lem struc c n t = rw t refl
group_columns_lem edt c n t = refl

text_columns_lem : (cs : List ℕ) → text_columns cs ≡ kind_word 9 ++ text_value cs
unfolding text_columns kind_word if_eq pick
text_columns_lem cs = refl

empty_value : (l : Leaf) → leaf_kind l ≡ 5 → leaf_value l ≡ []
unfolding leaf_kind leaf_value
empty_value (int z) k = absurd (omega arith)
empty_value (bits bs) k = absurd (omega arith)
empty_value (char c) k = absurd (omega arith)
empty_value (bool b) k = absurd (omega arith)
empty_value empty k = refl
empty_value (xtra n) k = absurd (omega arith)

plain_value : (l : Leaf) (d : ℕ) → leaf_kind l ≢ 1 → leaf_kind l ≢ 2 → leaf_kind l ≢ 5 → leaf_value l ≡ decimal (leaf_b d l)
unfolding leaf_kind leaf_value leaf_b
plain_value (int z) d i b e = absurd (i refl)
plain_value (bits bs) d i b e = absurd (b refl)
plain_value (char c) d i b e = refl
plain_value (bool x) d i b e = refl
plain_value empty d i b e = absurd (e refl)
plain_value (xtra n) d i b e = refl

-- ---- what a row has behind its kind
module _ (w : List ℕ) (p : ℕ) where
  value_group : 7 ≤ kind_at w p → (kind_at w p ≡ 9 → ⊥) → value_at w p ≡ decimal (a_at w p)
  unfolding value_at
  value_group h n = if_lt_no (kind_at w p) 7 _ _ h ∙ if_eq_no (kind_at w p) 9 _ _ n

  value_text : kind_at w p ≡ 9 → value_at w p ≡ text_value (codes (text_at w p))
  unfolding value_at
  value_text k = if_lt_no (kind_at w p) 7 _ _ (omega arith) ∙ if_eq_yes (kind_at w p) 9 _ _ k

  value_leaf : kind_at w p < 7 → value_at w p ≡ leaf_value (leaf_at w p)
  unfolding value_at
  value_leaf h = if_lt_yes (kind_at w p) 7 _ _ h

  plain : RowInOrder w p → kind_at w p < 7 → kind_at w p ≢ 1 → kind_at w p ≢ 2 → kind_at w p ≢ 5 → value_at w p ≡ decimal (b_at w p)
  plain h l i b e =
      let r = (h.leaf l).row in
      value_leaf l ∙ plain_value (leaf_at w p) (h.leaf l).before (λ z. i (r.kind ∙ z)) (λ z. b (r.kind ∙ z)) (λ z. e (r.kind ∙ z)) ∙ ap decimal (sym r.b)

  -- by the kind that the row has
  module _ (k : Kind) (r : word_of k ≡ kind_at w p) where
    kind_is : (j : Kind) → k ≡ j → kind_at w p ≡ word_of j
    kind_is j e = sym r ∙ ap word_of e

    pub int_row : k ≡ K.Int → value_at w p ≡ signed_decimal (signed 8 (b_at w p))
    unfolding leaf_value
    int_row e = let n = kind_is K.Int e in value_leaf (omega arith) ∙ ap leaf_value (int_at_lem w p n)

    pub bits_value : k ≡ K.Bits → value_at w p ≡ leaf_value (leaf_at w p)
    bits_value e = let n = kind_is K.Bits e in value_leaf (omega arith)

    pub code_row : RowInOrder w p → (k ≡ K.Char) ⊎ ((k ≡ K.Bool) ⊎ (k ≡ K.Xtra)) → value_at w p ≡ decimal (b_at w p)
    code_row h (inl e) = let n = kind_is K.Char e in plain h (omega arith) (λ z. omega arith) (λ z. omega arith) (λ z. omega arith)
    code_row h (inr (inl e)) = let n = kind_is K.Bool e in plain h (omega arith) (λ z. omega arith) (λ z. omega arith) (λ z. omega arith)
    code_row h (inr (inr e)) = let n = kind_is K.Xtra e in plain h (omega arith) (λ z. omega arith) (λ z. omega arith) (λ z. omega arith)

    pub empty_row : RowInOrder w p → k ≡ K.Empty → value_at w p ≡ []
    empty_row h e =
        let n = kind_is K.Empty e in
        let l = h.leaf (omega arith) in
        value_leaf (omega arith) ∙ empty_value (leaf_at w p) (sym l.row.kind ∙ n)

    pub group_row : (k ≡ K.Struc) ⊎ (k ≡ K.Edt) → value_at w p ≡ decimal (a_at w p)
    group_row (inl e) = let n = kind_is K.Struc e in value_group (omega arith) (λ z. omega arith)
    group_row (inr e) = let n = kind_is K.Edt e in value_group (omega arith) (λ z. omega arith)

    pub text_row : k ≡ K.String → value_at w p ≡ text_value (codes (text_at w p))
    text_row e = value_text (kind_is K.String e)

  -- ---- the line
  pub leaf_line : (d : ℕ) → LeafAt w p → row_text d w p ≡ line d (leaf_columns (leaf_at w p))
  unfolding row_text line
  leaf_line d h =
      let k = h.row.kind in
      let v = value_leaf (omega (arith, leaf_kind_lem (leaf_at w p))) in
      rw (v, k, leaf_columns_lem (leaf_at w p)) (ap (λ z. decimal d ++ z) (sym (append_assoc (kind_word (leaf_kind (leaf_at w p))) (leaf_value (leaf_at w p)) (newline ∷ []))))

  pub group_line : (d : ℕ) (g : Group) (c : Items) (n : ℕ) → is_text g c ≡ false → kind_at w p ≡ row_kind g c → a_at w p ≡ n → row_text d w p ≡ line d (group_columns g n)
  unfolding row_text line
  group_line d g c n t k a =
      let v = value_group (omega (arith, group_kind_lem g c)) (λ z. other_kind g c t (sym k ∙ z)) in
      rw (v, k, a, group_columns_lem g c n t) (ap (λ z. decimal d ++ z) (sym (append_assoc (kind_word (row_kind g c)) (decimal n) (newline ∷ []))))

  pub text_line : (d : ℕ) → kind_at w p ≡ 9 → row_text d w p ≡ line d (text_columns (codes (text_at w p)))
  unfolding row_text line
  text_line d k =
      let cs = codes (text_at w p) in
      let v = value_text k in
      rw (v, k, text_columns_lem cs) (ap (λ z. decimal d ++ z) (sym (append_assoc (kind_word 9) (text_value cs) (newline ∷ []))))
