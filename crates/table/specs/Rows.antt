-- The rows of a table by position: which items stand there, the data of a row, the header, and hops from item to item.
use Rattle.std.specs.Prelude.{ℕ, zero, suc, ◌+◌, ◌-◌, ◌*◌, ◌≤◌, ◌≡◌, List, ◌++◌, Bool, true, false, length, get_or, take, drop, ltb, eqb}
use Rattle.format.specs.Choice.{pick, if_lt, if_eq, either}
use Rattle.format.specs.Bits.{packed, bytes_for, words_for}
use Rattle.format.specs.Items.{Leaf, Items, leaf_kind, is_string, proper_leaf, proper}
use Rattle.format.specs.Tables.{count, rows, from_words, leaf_a, leaf_b, leaf_words, text_words, data_words, row_words, claimed_leaf, claimed_text, claimed}
use Rattle.format.specs.Refusals.{row_limit, word_limit}

abbrev pub kind_at : List ℕ → ℕ → ℕ
kind_at w p = get_or w (3 * p + 4) 0

abbrev pub a_at : List ℕ → ℕ → ℕ
a_at w p = get_or w (3 * p + 5) 0

abbrev pub b_at : List ℕ → ℕ → ℕ
b_at w p = get_or w (3 * p + 6) 0

-- the data words, with whatever comes behind them
abbrev pub data_of : List ℕ → List ℕ
data_of w = drop (4 + 3 * get_or w 0 0) w

-- ---- the items that stand in a table
-- the rows p up to e are those of xs, where d data words come before, and their data words stand where they should
pub record Stands (w : List ℕ) (d p e : ℕ) (xs : Items) : Type 0 where
  pub number : p + rows xs ≡ e
  pub words : drop (3 * p + 4) w ≡ row_words d xs ++ drop (3 * e + 4) w
  pub contents : drop d (data_of w) ≡ data_words xs ++ drop (d + length (data_words xs)) (data_of w)
  pub good : proper xs ≡ true
  pub within : 3 * e + 4 ≤ length w
  pub few : e ≤ row_limit
  pub little : d + length (data_words xs) ≤ word_limit
  pub stored : 4 + 3 * get_or w 0 0 + (d + length (data_words xs)) ≤ length w

-- what the rows p up to e claim to be, and a run of rows that are so
unfoldable pub items_at : List ℕ → ℕ → ℕ → Items
unfolding claimed
items_at w p e = claimed (e - p) (take (3 * (e - p)) (drop (3 * p + 4) w)) (data_of w)

pub record Run (w : List ℕ) (p e : ℕ) : Type 0 where
  pub before : ℕ
  pub stands : Stands w before p e (items_at w p e)

-- the row p is that of l
pub record LeafRow (w : List ℕ) (d p : ℕ) (l : Leaf) : Type 0 where
  pub kind : kind_at w p ≡ leaf_kind l
  pub a : a_at w p ≡ leaf_a l
  pub b : b_at w p ≡ leaf_b d l
  pub good : proper_leaf l ≡ true
  pub contents : drop d (data_of w) ≡ leaf_words l ++ drop (d + length (leaf_words l)) (data_of w)
  pub within : 3 * p + 7 ≤ length w
  pub stored : 4 + 3 * get_or w 0 0 + (d + length (leaf_words l)) ≤ length w
  pub little : d + length (leaf_words l) ≤ word_limit

-- the row p is that of a string whose characters are c
pub record TextRow (w : List ℕ) (d p : ℕ) (c : Items) : Type 0 where
  pub kind : kind_at w p ≡ 9
  pub a : a_at w p ≡ count c
  pub b : b_at w p ≡ d
  pub chars : is_string c ≡ true
  pub good : proper c ≡ true
  pub contents : drop d (data_of w) ≡ text_words c ++ drop (d + length (text_words c)) (data_of w)
  pub within : 3 * p + 7 ≤ length w
  pub stored : 4 + 3 * get_or w 0 0 + (d + length (text_words c)) ≤ length w
  pub little : d + length (text_words c) ≤ word_limit

unfoldable pub leaf_at : List ℕ → ℕ → Leaf
unfolding claimed_leaf
leaf_at w p = claimed_leaf (kind_at w p) (a_at w p) (b_at w p) (data_of w)

unfoldable pub text_at : List ℕ → ℕ → Items
unfolding claimed_text
text_at w p = claimed_text (a_at w p) (b_at w p) (data_of w)

pub record TextAt (w : List ℕ) (p : ℕ) : Type 0 where
  pub before : ℕ
  pub row : TextRow w before p (text_at w p)

pub record LeafAt (w : List ℕ) (p : ℕ) : Type 0 where
  pub before : ℕ
  pub row : LeafRow w before p (leaf_at w p)

-- n bits that stand in the data words from b on, left-adjusted in bytes
unfoldable pub kept_bytes : List ℕ → ℕ → ℕ → List ℕ
unfolding packed bytes_for from_words
kept_bytes w b n = packed 8 (bytes_for n) (from_words n b (data_of w))

-- those words hold them with spare bits 0, and are there
pub record Kept (w : List ℕ) (b n : ℕ) : Type 0 where
  pub number : length (from_words n b (data_of w)) ≡ n
  pub words : drop b (data_of w) ≡ packed 64 (words_for n) (from_words n b (data_of w)) ++ drop (b + words_for n) (data_of w)
  pub stored : 4 + 3 * get_or w 0 0 + (b + words_for n) ≤ length w
  pub small : n ≤ 1048576

-- ---- headers, and hops from item to item
-- there is room for the rows up to e
pub record Room (w : List ℕ) (p e : ℕ) : Type 0 where
  pub start : p ≤ e
  pub within : 3 * e + 4 ≤ length w
  pub few : e ≤ row_limit

-- a header in order: r rows and d data words, all of them there
pub record Header (w : List ℕ) (r d : ℕ) : Type 0 where
  pub rows : r ≡ get_or w 0 0
  pub words : d ≡ get_or w 3 0
  pub offset : get_or w 2 0 ≡ 4 + 3 * r
  pub few : r ≤ row_limit
  pub little : d ≤ word_limit
  pub within : 3 * r + 4 + d ≤ length w

abbrev pub rows_of : List ℕ → ℕ
rows_of w = get_or w 0 0

abbrev pub words_of : List ℕ → ℕ
words_of w = get_or w 3 0

abbrev pub Headed : List ℕ → Type 0
Headed w = Header w (rows_of w) (words_of w)

-- a kind whose items are one row: all but STRUC and EDT
unfoldable pub single : ℕ → Bool
unfolding either
single k = either (ltb k 7) (eqb k 9)

-- the row behind an item and its elements
unfoldable pub next_row : List ℕ → ℕ → ℕ
unfolding pick single
next_row w p = pick (single (kind_at w p)) (p + 1) (p + 1 + b_at w p)

-- n items, each with its elements behind it, take the rows p up to e
unfoldable pub lands : List ℕ → ℕ → ℕ → ℕ → Bool
unfolding if_lt pick single
lands w zero p e = eqb p e
lands w (suc n) p e =
    if_lt p e
    (pick (single (kind_at w p)) (lands w n (p + 1) e) (if_lt (e - (p + 1)) (b_at w p) false (lands w n (p + 1 + b_at w p) e)))
    false

-- the data words of the row p, and of the rows before it
unfoldable pub data_at : List ℕ → ℕ → ℕ
unfolding if_eq words_for
data_at w p = if_eq (kind_at w p) 2 (words_for (a_at w p)) (if_eq (kind_at w p) 9 (words_for (8 * a_at w p)) 0)

unfoldable pub data_to : List ℕ → ℕ → ℕ
unfolding data_at
data_to w zero = 0
data_to w (suc p) = data_to w p + data_at w p
