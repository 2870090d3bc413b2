-- "The table of items": a header, a row of three words for each item, data words.
use Rattle.std.specs.Prelude.{ℕ, zero, suc, ◌+◌, ◌*◌, Bool, true, false, List, [], ◌∷◌, ◌++◌, length, take, drop, get_or, leb, eqb}
use Rattle.std.proofs.Math.Option.{Option, none, some}
use Rattle.format.specs.Choice.{pick, if_eq, both}
use Rattle.format.specs.Numbers.{signed, twos}
use Rattle.format.specs.Bits.{bit, is_one, spread, packed, words_for}
use Rattle.format.specs.Refusals.{row_limit, word_limit}
use Rattle.format.specs.Items.{Leaf, int, bits, char, bool, empty, xtra, Group, struc, edt, Items, end, leaf, group, leaf_kind, is_string, proper, text}

-- the items of a list, elements left out: "direct elements", "the number of outermost items"
unfoldable pub count : Items → ℕ
count end = 0
count (leaf l xs) = suc (count xs)
count (group g c xs) = suc (count xs)

-- a STRUC that is a string: its elements have no rows of their own
unfoldable pub is_text : Group → Items → Bool
unfolding is_string
is_text struc c = is_string c
is_text edt c = false

-- "Every item is a row, its elements following it in order", but "a string becomes one row".
unfoldable pub rows : Items → ℕ
unfolding pick is_text
rows end = 0
rows (leaf l xs) = suc (rows xs)
rows (group g c xs) = suc (pick (is_text g c) 0 (rows c) + rows xs)

-- What an item keeps in the data is a run of bits. "BITS fill data words in row order, high bit first, each item beginning a new
-- word, spare bits 0." A string: "eight codes to a word, the high byte first, spare bytes 0, each string beginning a new word".
unfoldable pub in_words : List Bool → List ℕ
unfolding packed words_for
in_words bs = packed 64 (words_for (length bs)) bs

-- so many bits, from the data word `b` on
unfoldable pub from_words : ℕ → ℕ → List ℕ → List Bool
unfolding spread
from_words n b ds = take n (spread 64 (drop b ds))

unfoldable pub leaf_words : Leaf → List ℕ
unfolding in_words
leaf_words (int z) = []
leaf_words (bits bs) = in_words bs
leaf_words (char c) = []
leaf_words (bool b) = []
leaf_words empty = []
leaf_words (xtra n) = []

-- the table of kinds: a and b, where `d` data words come before. "A BITS of no bits has as b the data words used so far."
unfoldable pub leaf_a : Leaf → ℕ
leaf_a (int z) = 0
leaf_a (bits bs) = length bs
leaf_a (char c) = 0
leaf_a (bool b) = 0
leaf_a empty = 0
leaf_a (xtra n) = 0

unfoldable pub leaf_b : ℕ → Leaf → ℕ
unfolding twos bit
leaf_b d (int z) = twos 8 z
leaf_b d (bits bs) = d
leaf_b d (char c) = c
leaf_b d (bool b) = bit b
leaf_b d empty = 0
leaf_b d (xtra n) = n

-- the codes of CHARs; what stands here for other items makes no difference
unfoldable pub codes : Items → List ℕ
unfolding leaf_b
codes end = []
codes (leaf l xs) = leaf_b 0 l ∷ codes xs
codes (group g c xs) = 0 ∷ codes xs

-- the data words of codes, of a string, and of a list: "Strings and BITS share the data in row order."
unfoldable pub letters : List ℕ → List ℕ
unfolding in_words spread
letters cs = in_words (spread 8 cs)

unfoldable pub text_words : Items → List ℕ
unfolding letters codes
text_words c = letters (codes c)

unfoldable pub data_words : Items → List ℕ
unfolding leaf_words pick is_text text_words
data_words end = []
data_words (leaf l xs) = leaf_words l ++ data_words xs
data_words (group g c xs) = pick (is_text g c) (text_words c) (data_words c) ++ data_words xs

unfoldable pub group_words : Group → Items → List ℕ
unfolding data_words
group_words g c = pick (is_text g c) (text_words c) (data_words c)

-- "7 STRUC, 8 EDT", and Ask 7: "Kind 7 is then never a string." What a USTRUC goes by (`group_kind`) is another rule.
unfoldable pub container_kind : Group → ℕ
container_kind struc = 7
container_kind edt = 8

unfoldable pub row_kind : Group → Items → ℕ
unfolding pick is_text container_kind
row_kind g c = pick (is_text g c) 9 (container_kind g)

-- a group's b: "its first data word", or "rows beneath". "A string of none has as b the data words used so far." Its a are "the
-- number of characters", or "direct elements": its items are counted either way.
unfoldable pub group_b : ℕ → Group → Items → ℕ
unfolding pick is_text rows
group_b d g c = pick (is_text g c) d (rows c)

-- the rows of a list, where `d` data words come before
unfoldable pub row_words : ℕ → Items → List ℕ
unfolding leaf_kind leaf_a leaf_b leaf_words row_kind group_b count rows group_words
row_words d end = []
row_words d (leaf l xs) = leaf_kind l ∷ leaf_a l ∷ leaf_b d l ∷ row_words (d + length (leaf_words l)) xs
row_words d (group g c xs) = row_kind g c ∷ count c ∷ group_b d g c ∷ (pick (is_text g c) [] (row_words d c) ++ row_words (d + length (group_words g c)) xs)

-- "word 0 the number of rows R, word 1 the number of outermost items, word 2 the offset of the data, 4 + 3R, word 3 the number
-- of data words. Rows follow, three words each: kind, a, b."
unfoldable pub table_of : Items → List ℕ
unfolding rows count data_words row_words
table_of xs = rows xs ∷ count xs ∷ (4 + 3 * rows xs) ∷ length (data_words xs) ∷ (row_words 0 xs ++ data_words xs)

-- the words that it has
unfoldable pub words_needed : Items → ℕ
unfolding rows data_words
words_needed xs = 4 + 3 * rows xs + length (data_words xs)

-- Which items a run of words could be the table of: rows and data words are taken at their word. What they claim is held
-- against the table of these items below, so what stands here for rows that no table has makes no difference.
unfoldable pub claimed_leaf : ℕ → ℕ → ℕ → List ℕ → Leaf
unfolding if_eq signed from_words is_one
claimed_leaf k a b ds =
    if_eq k 1 (int (signed 8 b)) (if_eq k 2 (bits (from_words a b ds)) (if_eq k 3 (char b)
    (if_eq k 4 (bool (is_one b)) (if_eq k 6 (xtra b) empty))))

unfoldable pub claimed_text : ℕ → ℕ → List ℕ → Items
unfolding text packed from_words
claimed_text a b ds = text (packed 8 a (from_words (8 * a) b ds))

unfoldable pub claimed : ℕ → List ℕ → List ℕ → Items
unfolding if_eq claimed_leaf claimed_text
claimed zero ws ds = end
claimed (suc f) [] ds = end
claimed (suc f) (k ∷ []) ds = end
claimed (suc f) (k ∷ a ∷ []) ds = end
claimed (suc f) (k ∷ a ∷ b ∷ ws) ds =
    let inside = claimed f (take (3 * b) ws) ds in
    let after = claimed f (drop (3 * b) ws) ds in
    let next = claimed f ws ds in
    let as_struc = group struc inside after in
    let as_edt = group edt inside after in
    let as_text = group struc (claimed_text a b ds) next in
    let as_leaf = leaf (claimed_leaf k a b ds) next in
    if_eq k 7 as_struc (if_eq k 8 as_edt (if_eq k 9 as_text as_leaf))

unfoldable pub claims : List ℕ → Items
unfolding claimed
claims w = claimed (get_or w 0 0) (take (3 * get_or w 0 0) (drop 4 w)) (drop (4 + 3 * get_or w 0 0) w)

-- a list is the beginning of another
unfoldable pub begins : List ℕ → List ℕ → Bool
unfolding both
begins [] w = true
begins (x ∷ l) [] = false
begins (x ∷ l) (y ∷ w) = both (eqb x y) (begins l w)

-- "within the row and data limits, EDT rule included"
unfoldable pub lawful : Items → Bool
unfolding both proper rows data_words
lawful xs = both (proper xs) (both (leb (rows xs) row_limit) (leb (length (data_words xs)) word_limit))

-- "A table is well formed when it is exactly the table of some list of items within the row and data limits, EDT rule included.
-- Words past the data belong to the caller": those items, or none.
unfoldable pub table_for : List ℕ → Items → Option Items
unfolding pick both lawful begins table_of
table_for w xs = pick (both (lawful xs) (begins (table_of xs) w)) (some xs) none

unfoldable pub items_of : List ℕ → Option Items
unfolding table_for claims
items_of w = table_for w (claims w)
