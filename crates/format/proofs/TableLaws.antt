-- The table of an item list gives those items back, and no other words do. Assumes nothing.
use mathlib.Core.Path.{◌≡◌, refl, sym, ap, ap₂, subst, ◌∙◌}
use Prim.Native.Nat.{ℕ, zero, suc, ◌+◌, ◌*◌, ◌^◌, ◌≤◌, ◌<◌}
use native.Mathlib.Omega.{arith}
use mathlib.Core.Bool.{Bool, true, false}
use mathlib.Core.Option.{none, some}
use mathlib.Core.List.{List, [], ◌∷◌, ◌++◌, append_assoc}
use lib.ListN.{length, take, drop, length-append}
use lib.Seq.{take_at, drop_at, take-append-le, drop-drop}
use lib.Dec.{leb, eqb}
use lib.Signed.{mag}
use Rattle.format.specs.Choice.{pick, if_eq, both}
use Rattle.format.specs.Bits.{bits_of, spread, packed, words_for}
use Rattle.format.specs.Refusals.{row_limit, word_limit}
use Rattle.format.specs.Items.{Leaf, int, bits, char, bool, empty, xtra, Group, struc, edt, Items, end, leaf, group, text, CHAR, leaf_kind, all_of, group_kind, kinds, is_string, proper_leaf, proper_group, proper}
use Rattle.format.specs.Tables.{count, rows, is_text, in_words, from_words, leaf_words, codes, letters, text_words, data_words, group_words, leaf_a, leaf_b, container_kind, row_kind, group_b, row_words, table_of, words_needed, claimed_leaf, claimed_text, claimed, claims, begins, lawful, table_for, items_of}
use Rattle.format.proofs.Choices.{if_eq_no, pick_yes, pick_no, by_pick, whether, both_left, both_right, both_true, eq_true, true_eq, true_lt, true_le}
use Rattle.format.proofs.Digits.{signed_twos}
use Rattle.format.proofs.BitLaws.{is_one_bit, spread_packed, spread_length, packed_length, words_enough, Below, packed_spread}

-- ---- how long a table is
-- a string has no rows beneath it
pub beneath_length : (t : Bool) (l : List ℕ) (n : ℕ) → length l ≡ 3 * n → length (pick t [] l) ≡ 3 * pick t 0 n
unfolding pick
beneath_length true l n e = refl
beneath_length false l n e = e

pub row_length : (d : ℕ) (xs : Items) → length (row_words d xs) ≡ 3 * rows xs
unfolding row_words rows
row_length d end = refl
row_length d (leaf l xs) = omega (arith, row_length (d + length (leaf_words l)) xs)
row_length d (group g c xs) =
    let e = beneath_length (is_text g c) (row_words d c) (rows c) (row_length d c) in
    omega (arith, length-append (pick (is_text g c) [] (row_words d c)) (row_words (d + length (group_words g c)) xs), row_length (d + length (group_words g c)) xs)

pub table_length : (xs : Items) → length (table_of xs) ≡ words_needed xs
unfolding table_of words_needed
table_length xs = omega (arith, length-append (row_words 0 xs) (data_words xs), row_length 0 xs)

-- ---- what a lawful list keeps to
pub lawful_proper : (xs : Items) → lawful xs ≡ true → proper xs ≡ true
unfolding lawful
lawful_proper xs h = both_left (proper xs) _ h

pub lawful_rows : (xs : Items) → lawful xs ≡ true → rows xs ≤ row_limit
unfolding lawful
lawful_rows xs h = true_le _ _ (both_left (leb (rows xs) row_limit) _ (both_right (proper xs) _ h))

pub lawful_words : (xs : Items) → lawful xs ≡ true → length (data_words xs) ≤ word_limit
unfolding lawful
lawful_words xs h = true_le _ _ (both_right (leb (rows xs) row_limit) _ (both_right (proper xs) _ h))

-- ---- a row's leaf
pub spread_append : (w : ℕ) (a b : List ℕ) → spread w (a ++ b) ≡ spread w a ++ spread w b
unfolding spread
spread_append w [] b = refl
spread_append w (x ∷ a) b = rw (spread_append w a b) (sym (append_assoc (bits_of w x) (spread w a) (spread w b)))

-- the bits of an item, from its data words with any behind them
pub bits_back : (bs : List Bool) (m : List ℕ) → take (length bs) (spread 64 (in_words bs ++ m)) ≡ bs
unfolding in_words
bits_back bs m =
    let k : ℕ = words_for (length bs) in
    let n : length (spread 64 (packed 64 k bs)) ≡ 64 * k = spread_length 64 (packed 64 k bs) ∙ ap (λ z. 64 * z) (packed_length 64 k bs) in
    ap (take (length bs)) (spread_append 64 (packed 64 k bs) m)
    ∙ take-append-le (length bs) (spread 64 (packed 64 k bs)) (spread 64 m) (omega (arith, words_enough (length bs)))
    ∙ spread_packed 64 k bs (words_enough (length bs))

pub leaf_back : (l : Leaf) (d : ℕ) (ds m : List ℕ) → proper_leaf l ≡ true → drop d ds ≡ leaf_words l ++ m →
    claimed_leaf (leaf_kind l) (leaf_a l) (leaf_b d l) ds ≡ l
unfolding claimed_leaf leaf_kind leaf_a leaf_b leaf_words proper_leaf if_eq pick
leaf_back (int z) d ds m p h = ap int (signed_twos 8 z (omega arith) (omega (arith, true_lt (mag z) (2 ^ 63) p)))
leaf_back (bits bs) d ds m p h = ap bits (ap (λ t. take (length bs) (spread 64 t)) h ∙ bits_back bs m)
leaf_back (char c) d ds m p h = refl
leaf_back (bool b) d ds m p h = ap bool (is_one_bit b)
leaf_back empty d ds m p h = refl
leaf_back (xtra n) d ds m p h = refl

-- ---- a run's rows
-- no leaf has the kind of a group
pub leaf_kind_lem : (l : Leaf) → leaf_kind l < 7
unfolding leaf_kind
leaf_kind_lem (int z) = omega arith
leaf_kind_lem (bits bs) = omega arith
leaf_kind_lem (char c) = omega arith
leaf_kind_lem (bool b) = omega arith
leaf_kind_lem empty = omega arith
leaf_kind_lem (xtra n) = omega arith

-- data words behind a part of them
pub words_on : (a b m ds : List ℕ) (d : ℕ) → drop d ds ≡ (a ++ b) ++ m → (drop d ds ≡ a ++ (b ++ m)) × (drop (d + length a) ds ≡ b ++ m)
words_on a b m ds d h =
    let e : drop d ds ≡ a ++ (b ++ m) = h ∙ append_assoc a b m in
    (e, sym (drop-drop (length a) d ds) ∙ ap (drop (length a)) e ∙ drop_at a (b ++ m) (length a) refl)

-- a group that is no string: its kind picks the group, and b are the rows beneath
by_kind : (g : Group) (c : Items) {x y : Items} (z : Items) → is_text g c ≡ false →
    if_eq (row_kind g c) 7 (group struc x y) (if_eq (row_kind g c) 8 (group edt x y) z) ≡ group g x y
unfolding row_kind container_kind if_eq pick
by_kind struc c z h = rw h refl
by_kind edt c z h = refl

-- a string's kind is 9
pub text_kind : (g : Group) (c : Items) → is_text g c ≡ true → (g ≡ struc) × (is_string c ≡ true) × (row_kind g c ≡ 9)
unfolding row_kind is_text pick
text_kind struc c h = (refl, h, rw h refl)
text_kind edt c h = let z : ◌≡◌ {A = ℕ} 0 1 = cc in absurd (omega arith)

-- the kind of a group that is none is another
pub other_kind : (g : Group) (c : Items) → is_text g c ≡ false → (row_kind g c ≡ 9) → ⊥
unfolding row_kind container_kind pick
other_kind struc c h = rw h (λ e. omega arith)
other_kind edt c h = λ e. omega arith

-- ---- a string's characters, from its data words with any behind them
pub codes_length : (c : Items) → length (codes c) ≡ count c
unfolding codes count
codes_length end = refl
codes_length (leaf l xs) = ap suc (codes_length xs)
codes_length (group g c xs) = ap suc (codes_length xs)

-- the characters of a string: their codes, of a byte each
pub record Characters (c : Items) : Type 0 where
  pub are : text (codes c) ≡ c
  pub below : Below 8 (codes c)

char_leaf : (l : Leaf) (xs : Items) → leaf_kind l ≡ CHAR → proper_leaf l ≡ true → Characters xs → Characters (leaf l xs)
unfolding leaf_kind proper_leaf leaf_b codes text
char_leaf (int z) xs k p h = absurd (omega arith)
char_leaf (bits bs) xs k p h = absurd (omega arith)
char_leaf (char c) xs k p h = record { are = ap (leaf (char c)) h.are; below = (omega (arith, true_lt c 128 p), h.below) }
char_leaf (bool b) xs k p h = absurd (omega arith)
char_leaf empty xs k p h = absurd (omega arith)
char_leaf (xtra n) xs k p h = absurd (omega arith)

pub group_kind_lem : (g : Group) → 7 ≤ group_kind g
unfolding group_kind
group_kind_lem struc = omega arith
group_kind_lem edt = omega arith

-- what holds of nothing, and with one CHAR more, holds of a string's elements
pub by_chars : (P : Items → Type 0) → P end → ((l : Leaf) (xs : Items) → leaf_kind l ≡ CHAR → P xs → P (leaf l xs)) → (c : Items) → is_string c ≡ true → P c
unfolding is_string all_of kinds
by_chars P p f end h = p
by_chars P p f (leaf l xs) h =
    f l xs (true_eq (leaf_kind l) CHAR (both_left (eqb (leaf_kind l) CHAR) (all_of CHAR (kinds xs)) h)) (by_chars P p f xs (both_right (eqb (leaf_kind l) CHAR) (all_of CHAR (kinds xs)) h))
by_chars P p f (group g c xs) h =
    let e : group_kind g ≡ CHAR = true_eq (group_kind g) CHAR (both_left (eqb (group_kind g) CHAR) (all_of CHAR (kinds xs)) h) in
    absurd (omega (arith, group_kind_lem g))

pub characters_of : (c : Items) → is_string c ≡ true → proper c ≡ true → Characters c
unfolding proper
characters_of =
    by_chars (λ c. proper c ≡ true → Characters c) (λ p. record { are = unfold codes text in refl; below = unfold codes in tt })
    (λ l xs k f p. char_leaf l xs k (both_left (proper_leaf l) (proper xs) p) (f (both_right (proper_leaf l) (proper xs) p)))

-- as elements they have a row each
pub string_rows : (c : Items) → is_string c ≡ true → rows c ≡ count c
unfolding rows count
string_rows = by_chars (λ c. rows c ≡ count c) refl (λ l xs k e. ap suc e)

pub letters_length : (cs : List ℕ) → length (letters cs) ≡ words_for (8 * length cs)
unfolding letters in_words
letters_length cs = packed_length 64 _ (spread 8 cs) ∙ ap words_for (spread_length 8 cs)

pub text_length : (c : Items) → length (text_words c) ≡ words_for (8 * count c)
unfolding text_words
text_length c = letters_length (codes c) ∙ ap (λ n. words_for (8 * n)) (codes_length c)

text_back : (c : Items) (d : ℕ) (ds m : List ℕ) → is_string c ≡ true → proper c ≡ true → drop d ds ≡ text_words c ++ m →
    claimed_text (count c) d ds ≡ c
unfolding claimed_text from_words text_words letters
text_back c d ds m h p e =
    let k = characters_of c h p in
    let n : length (spread 8 (codes c)) ≡ 8 * count c = spread_length 8 (codes c) ∙ ap (λ z. 8 * z) (codes_length c) in
    let b : take (8 * count c) (spread 64 (drop d ds)) ≡ spread 8 (codes c) =
    ap₂ (λ j t. take j (spread 64 t)) (sym n) e ∙ bits_back (spread 8 (codes c)) m in
    ap text (ap₂ (packed 8) (sym (codes_length c)) b ∙ packed_spread 8 (codes c) k.below) ∙ k.are

pub rows_back : (f d : ℕ) (xs : Items) (ds m : List ℕ) → rows xs ≤ f → proper xs ≡ true → drop d ds ≡ data_words xs ++ m →
    claimed f (row_words d xs) ds ≡ xs
unfolding claimed row_words rows proper data_words group_words group_b
rows_back zero d end ds m h p e = refl
rows_back zero d (leaf l xs) ds m h p e = absurd (omega arith)
rows_back zero d (group g c xs) ds m h p e = absurd (omega arith)
rows_back (suc f) d end ds m h p e = refl
rows_back (suc f) d (leaf l xs) ds m h p e =
    let k = leaf_kind_lem l in
    let w = words_on (leaf_words l) (data_words xs) m ds d e in
    if_eq_no (leaf_kind l) 7 _ _ (λ z. omega arith) ∙ if_eq_no (leaf_kind l) 8 _ _ (λ z. omega arith) ∙ if_eq_no (leaf_kind l) 9 _ _ (λ z. omega arith)
    ∙ ap₂ leaf (leaf_back l d ds (data_words xs ++ m) (both_left (proper_leaf l) (proper xs) p) w.0)
    (rows_back f (d + length (leaf_words l)) xs ds m (omega arith) (both_right (proper_leaf l) (proper xs) p) w.1)
rows_back (suc f) d (group g c xs) ds m h p e =
    let r : List ℕ = row_words (d + length (group_words g c)) xs in
    let k = words_on (group_words g c) (data_words xs) m ds d e in
    let q = both_right (proper_group g c) (both (proper c) (proper xs)) p in
    let after : claimed f r ds ≡ xs = rows_back f (d + length (group_words g c)) xs ds m (omega arith) (both_right (proper c) (proper xs) q) k.1 in
    whether (is_text g c)
    (λ t.
    let y = text_kind g c t in
    let w : group_words g c ≡ text_words c = pick_yes (is_text g c) (text_words c) (data_words c) t in
    let inside : claimed_text (count c) d ds ≡ c =
    text_back c d ds (data_words xs ++ m) y.1 (both_left (proper c) (proper xs) q) (k.0 ∙ ap (λ l. l ++ (data_words xs ++ m)) w) in
    let row : (ws : List ℕ) → claimed (suc f) (row_kind g c ∷ count c ∷ d ∷ ws) ds ≡ group struc (claimed_text (count c) d ds) (claimed f ws ds) =
    λ ws. rw y.2 (unfold if_eq pick in refl) in
    ap₂ (λ b ws. claimed (suc f) (row_kind g c ∷ count c ∷ b ∷ (ws ++ r)) ds) (pick_yes (is_text g c) d (rows c) t) (pick_yes (is_text g c) [] (row_words d c) t)
    ∙ row r ∙ ap₂ (group struc) inside after ∙ ap (λ j. group j c xs) (sym y.0))
    (λ t.
    let w : group_words g c ≡ data_words c = pick_no (is_text g c) (text_words c) (data_words c) t in
    let n : pick (is_text g c) 0 (rows c) ≡ rows c = pick_no (is_text g c) 0 (rows c) t in
    let inside : claimed f (take (3 * rows c) (row_words d c ++ r)) ds ≡ c =
    ap (λ l. claimed f l ds) (take_at (row_words d c) r (3 * rows c) (row_length d c))
    ∙ rows_back f d c ds (data_words xs ++ m) (omega arith) (both_left (proper c) (proper xs) q) (k.0 ∙ ap (λ l. l ++ (data_words xs ++ m)) w) in
    let behind : claimed f (drop (3 * rows c) (row_words d c ++ r)) ds ≡ xs =
    ap (λ l. claimed f l ds) (drop_at (row_words d c) r (3 * rows c) (row_length d c)) ∙ after in
    ap₂ (λ b ws. claimed (suc f) (row_kind g c ∷ count c ∷ b ∷ (ws ++ r)) ds) (pick_no (is_text g c) d (rows c) t) (pick_no (is_text g c) [] (row_words d c) t)
    ∙ by_kind g c _ t ∙ ap₂ (group g) inside behind)

-- ---- a whole table
pub begins_append : (l m : List ℕ) → begins l (l ++ m) ≡ true
unfolding begins
begins_append [] m = refl
begins_append (x ∷ l) m = both_true _ _ (eq_true x x refl) (begins_append l m)

pub begins_is : (l w : List ℕ) → begins l w ≡ true → (length l ≤ length w) × (take (length l) w ≡ l)
unfolding begins
begins_is [] w h = (omega arith, refl)
begins_is (x ∷ l) [] h = let z : ◌≡◌ {A = ℕ} 0 1 = cc in absurd (omega arith)
begins_is (x ∷ l) (y ∷ w) h =
    let k = begins_is l w (both_right (eqb x y) (begins l w) h) in
    let e : x ≡ y = true_eq x y (both_left (eqb x y) (begins l w) h) in
    (omega arith, ap₂ ◌∷◌ (sym e) k.1)

claims_back : (xs : Items) (rest : List ℕ) → proper xs ≡ true → claims (table_of xs ++ rest) ≡ xs
unfolding claims table_of
claims_back xs rest h =
    let w : List ℕ = (row_words 0 xs ++ data_words xs) ++ rest in
    let n : ℕ = 3 * rows xs in
    let k : w ≡ row_words 0 xs ++ (data_words xs ++ rest) = append_assoc (row_words 0 xs) (data_words xs) rest in
    let t : take n w ≡ row_words 0 xs = ap (take n) k ∙ take_at (row_words 0 xs) (data_words xs ++ rest) n (row_length 0 xs) in
    let d : drop n w ≡ data_words xs ++ rest = ap (drop n) k ∙ drop_at (row_words 0 xs) (data_words xs ++ rest) n (row_length 0 xs) in
    let e : drop (4 + 3 * rows xs) (table_of xs ++ rest) ≡ drop (3 * rows xs) w = sym (drop-drop (3 * rows xs) 4 (table_of xs ++ rest)) in
    ap₂ (claimed (rows xs)) t e ∙ rows_back (rows xs) 0 xs (drop (3 * rows xs) w) rest (omega arith) h d

-- the table of a lawful list is well formed, and gives the list back
pub table_back : (xs : Items) (rest : List ℕ) → lawful xs ≡ true → items_of (table_of xs ++ rest) ≡ some xs
unfolding items_of table_for
table_back xs rest h =
    rw (claims_back xs rest (lawful_proper xs h))
    (pick_yes _ (some xs) none (both_true (lawful xs) _ h (begins_append (table_of xs) rest)))

for_is : (w : List ℕ) (ys xs : Items) → table_for w ys ≡ some xs → (ys ≡ xs) × (both (lawful xs) (begins (table_of xs) w) ≡ true)
unfolding table_for
for_is w ys xs = by_pick (λ o. o ≡ some xs → (ys ≡ xs) × (both (lawful xs) (begins (table_of xs) w) ≡ true)) (both (lawful ys) (begins (table_of ys) w))
    (λ t e. let q : ys ≡ xs = cc in (q, subst (λ (zs : Items). both (lawful zs) (begins (table_of zs) w) ≡ true) q t))
    (λ t e. let z : ◌≡◌ {A = ℕ} 0 1 = cc in absurd (omega arith))

-- words that have items begin with the table of those items
pub table_only : (w : List ℕ) (xs : Items) → items_of w ≡ some xs →
    (lawful xs ≡ true) × (length (table_of xs) ≤ length w) × (take (length (table_of xs)) w ≡ table_of xs)
unfolding items_of
table_only w xs e =
    let k = (for_is w (claims w) xs e).1 in
    let b = begins_is (table_of xs) w (both_right (lawful xs) (begins (table_of xs) w) k) in
    (both_left (lawful xs) (begins (table_of xs) w) k, b.0, b.1)
