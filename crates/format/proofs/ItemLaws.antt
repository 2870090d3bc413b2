-- Items joined and repeated: whether they are proper, how deep they are, and their normal form. Assumes nothing.
use mathlib.Core.Path.{◌≡◌, refl, sym, ap, ◌∙◌}
use Prim.Native.Nat.{ℕ, zero, suc, ◌+◌, ◌≤◌, ◌<◌, max}
use native.Mathlib.Omega.{arith}
use mathlib.Core.Bool.{true}
use mathlib.Core.List.{List, [], ◌∷◌, ◌++◌, append_assoc}
use lib.ListN.{length, length-append}
use lib.IntN.{pos, negsuc}
use Rattle.format.specs.Choice.{both}
use Rattle.format.specs.Bits.{num, packed, bytes_for}
use Rattle.format.specs.Items.{Leaf, int, bits, char, bool, empty, xtra, Group, Items, end, leaf, group, join, times, proper_leaf, proper_group, proper, is_string, all_of, kinds}
use Rattle.format.specs.Tables.{is_text, rows}
use Rattle.format.specs.Normal.{normal_size, with_size, linteger, normal_int, sbitstr, normal_bits, normal_leaf, group_byte, normal, depth}
use Rattle.format.proofs.Choices.{both_left, both_right, both_true, by_lt, by_pick}
use Rattle.format.proofs.Sizes.{size_pos, sized_length}
use Rattle.format.specs.Objects.{characters}

-- ---- what `proper` says of an item and of the rest, both ways
pub leaf_proper : (l : Leaf) (xs : Items) → proper (leaf l xs) ≡ true → (proper_leaf l ≡ true) × (proper xs ≡ true)
unfolding proper
leaf_proper l xs o = (both_left (proper_leaf l) (proper xs) o, both_right (proper_leaf l) (proper xs) o)

pub group_proper : (g : Group) (c xs : Items) → proper (group g c xs) ≡ true → (proper_group g c ≡ true) × (proper c ≡ true) × (proper xs ≡ true)
unfolding proper
group_proper g c xs o =
    let e = both_right (proper_group g c) (both (proper c) (proper xs)) o in
    (both_left (proper_group g c) (both (proper c) (proper xs)) o, both_left (proper c) (proper xs) e, both_right (proper c) (proper xs) e)

pub proper_leaf_lem : (l : Leaf) (xs : Items) → proper_leaf l ≡ true → proper xs ≡ true → proper (leaf l xs) ≡ true
unfolding proper
proper_leaf_lem l xs p q = both_true (proper_leaf l) (proper xs) p q

pub proper_group_lem : (g : Group) (c xs : Items) → proper_group g c ≡ true → proper c ≡ true → proper xs ≡ true → proper (group g c xs) ≡ true
unfolding proper
proper_group_lem g c xs p q r = both_true (proper_group g c) (both (proper c) (proper xs)) p (both_true (proper c) (proper xs) q r)

-- ---- joined
pub join_proper : (xs ys : Items) → proper xs ≡ true → proper ys ≡ true → proper (join xs ys) ≡ true
unfolding join
join_proper end ys p q = q
join_proper (leaf l xs) ys p q =
    let e = leaf_proper l xs p in
    proper_leaf_lem l (join xs ys) e.0 (join_proper xs ys e.1 q)
join_proper (group g c xs) ys p q =
    let e = group_proper g c xs p in
    proper_group_lem g c (join xs ys) e.0 e.1 (join_proper xs ys e.2 q)

pub join_depth : (xs ys : Items) → depth (join xs ys) ≡ max (depth xs) (depth ys)
unfolding join depth
join_depth end ys = omega arith
join_depth (leaf l xs) ys = join_depth xs ys
join_depth (group g c xs) ys = omega (arith, join_depth xs ys)

pub join_normal : (xs ys : Items) → normal (join xs ys) ≡ normal xs ++ normal ys
unfolding join normal
join_normal end ys = refl
join_normal (leaf l xs) ys = ap (λ r. normal_leaf l ++ r) (join_normal xs ys) ∙ sym (append_assoc (normal_leaf l) (normal xs) (normal ys))
join_normal (group g c xs) ys =
    ap (λ r. group_byte g c ∷ (with_size (normal c) ++ r)) (join_normal xs ys)
    ∙ ap (λ r. group_byte g c ∷ r) (sym (append_assoc (with_size (normal c)) (normal xs) (normal ys)))

-- ---- repeated
-- nothing and the items themselves, joined as often as said: a fact that joining keeps is a fact of what is repeated
pub by_times : (P : Items → Type 0) (n : ℕ) (xs : Items) → P end → ((ys : Items) → P ys → P (join xs ys)) → P (times n xs)
unfolding times
by_times P n end e f = e
by_times P zero (leaf l xs) e f = e
by_times P (suc n) (leaf l xs) e f = f (times n (leaf l xs)) (by_times P n (leaf l xs) e f)
by_times P zero (group g c xs) e f = e
by_times P (suc n) (group g c xs) e f = f (times n (group g c xs)) (by_times P n (group g c xs) e f)

pub times_proper : (n : ℕ) (xs : Items) → proper xs ≡ true → proper (times n xs) ≡ true
times_proper n xs p = by_times (λ ys. proper ys ≡ true) n xs (unfold proper in refl) (λ ys q. join_proper xs ys p q)

pub times_depth : (n : ℕ) (xs : Items) → depth (times n xs) ≤ depth xs
times_depth n xs = by_times (λ ys. depth ys ≤ depth xs) n xs (unfold depth in omega arith) (λ ys q. omega (arith, join_depth xs ys))

-- ---- how long the normal form is
pub length_end : length (normal end) ≡ 0
unfolding normal
length_end = refl

pub length_leaf : (l : Leaf) (xs : Items) → length (normal (leaf l xs)) ≡ length (normal_leaf l) + length (normal xs)
unfolding normal
length_leaf l xs = length-append (normal_leaf l) (normal xs)

pub length_group : (g : Group) (c xs : Items)
    → length (normal (group g c xs)) ≡ suc (length (normal_size (length (normal c))) + length (normal c) + length (normal xs))
unfolding normal
length_group g c xs = ap suc (length-append (with_size (normal c)) (normal xs) ∙ ap (λ n. n + length (normal xs)) (sized_length (normal c)))

pub length_join : (xs ys : Items) → length (normal (join xs ys)) ≡ length (normal xs) + length (normal ys)
length_join xs ys = ap length (join_normal xs ys) ∙ length-append (normal xs) (normal ys)

leaf_pos : (l : Leaf) → 0 < length (normal_leaf l)
unfolding normal_leaf normal_int linteger normal_bits sbitstr
leaf_pos (int (pos n)) = by_lt (λ l. 0 < length l) n 64 {x = (0x80 + n) ∷ []} {y = linteger (pos n)} (λ h. omega arith) (λ h. omega arith)
leaf_pos (int (negsuc n)) = omega arith
leaf_pos (bits bs) =
    by_lt (λ l. 0 < length l) (length bs) 64 {x = sbitstr (num (true ∷ bs))}
    {y = 0xc1 ∷ with_size (normal_int (pos (length bs)) ++ packed 8 (bytes_for (length bs)) bs)} (λ h. omega arith) (λ h. omega arith)
leaf_pos (char c) = omega arith
leaf_pos (bool b) = omega arith
leaf_pos empty = omega arith
leaf_pos (xtra n) = omega arith

-- every row has a byte at least
pub rows_least : (xs : Items) → rows xs ≤ length (normal xs)
unfolding rows
rows_least end = omega arith
rows_least (leaf l xs) = omega (arith, rows_least xs, leaf_pos l, length_leaf l xs)
rows_least (group g c xs) =
    let own = by_pick (λ n. n ≤ rows c) (is_text g c) {x = 0} {y = rows c} (λ e. omega arith) (λ e. omega arith) in
    omega (arith, own, rows_least c, rows_least xs, size_pos (length (normal c)), length_group g c xs)

-- no rows, no bytes; and no bytes, no items
pub rows_none : (xs : Items) → rows xs ≡ 0 → length (normal xs) ≡ 0
unfolding rows
rows_none end e = length_end
rows_none (leaf l xs) e = absurd (omega arith)
rows_none (group g c xs) e = absurd (omega arith)

pub bytes_none : (xs : Items) → length (normal xs) ≡ 0 → xs ≡ end
unfolding rows
bytes_none end e = refl
bytes_none (leaf l xs) e = absurd (omega (arith, rows_least (leaf l xs)))
bytes_none (group g c xs) e = absurd (omega (arith, rows_least (group g c xs)))

-- the characters of a STRING are a string
pub chars_string : (c : List ℕ) → is_string (characters c) ≡ true
unfolding is_string all_of kinds characters
chars_string [] = refl
chars_string (b ∷ c) = chars_string c
