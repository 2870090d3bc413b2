-- Rows, items, data words and kinds of lists of items, joined and repeated. Assumes nothing.
use Prim.Native.Nat.{ℕ, zero, suc, ◌+◌, ◌*◌, ◌≤◌}
use mathlib.Core.Path.{◌≡◌, refl, sym, ap, ap₂, ◌∙◌}
use mathlib.Core.List.{List, [], ◌∷◌, ◌++◌, append_assoc}
use native.Mathlib.Nat.{suc-mul}
use native.Mathlib.Omega.{arith}
use lib.ListN.{length, length-append}
use Rattle.format.specs.Choice.{pick}
use Rattle.format.specs.Items.{Items, end, leaf, group, join, times, leaf_kind, group_kind, kinds}
use Rattle.format.specs.Tables.{count, rows, leaf_words, data_words, leaf_a, leaf_b, is_text, row_kind, group_b, group_words, row_words, table_of, words_needed}

-- ---- a repeat is its pattern, one time after another
pub times_zero : (xs : Items) → times 0 xs ≡ end
unfolding times
times_zero end = refl
times_zero (leaf l xs) = refl
times_zero (group g c xs) = refl

pub times_suc : (n : ℕ) (xs : Items) → times (suc n) xs ≡ join xs (times n xs)
unfolding times join
times_suc n end = refl
times_suc n (leaf l xs) = refl
times_suc n (group g c xs) = refl

pub join_end : (xs : Items) → join xs end ≡ xs
unfolding join
join_end end = refl
join_end (leaf l xs) = ap (leaf l) (join_end xs)
join_end (group g c xs) = ap (group g c) (join_end xs)

pub join_assoc : (xs ys zs : Items) → join (join xs ys) zs ≡ join xs (join ys zs)
unfolding join
join_assoc end ys zs = refl
join_assoc (leaf l xs) ys zs = ap (leaf l) (join_assoc xs ys zs)
join_assoc (group g c xs) ys zs = ap (group g c) (join_assoc xs ys zs)

-- ---- joined
pub rows_join : (xs ys : Items) → rows (join xs ys) ≡ rows xs + rows ys
unfolding rows join
rows_join end ys = omega arith
rows_join (leaf l xs) ys = omega (arith, rows_join xs ys)
rows_join (group g c xs) ys = omega (arith, rows_join xs ys)

pub count_join : (xs ys : Items) → count (join xs ys) ≡ count xs + count ys
unfolding count join
count_join end ys = omega arith
count_join (leaf l xs) ys = omega (arith, count_join xs ys)
count_join (group g c xs) ys = omega (arith, count_join xs ys)

-- every item has a row, and some have more beneath
pub count_rows : (xs : Items) → count xs ≤ rows xs
unfolding count rows
count_rows end = omega arith
count_rows (leaf l xs) = omega (arith, count_rows xs)
count_rows (group g c xs) = omega (arith, count_rows xs)

pub data_join : (xs ys : Items) → data_words (join xs ys) ≡ data_words xs ++ data_words ys
unfolding data_words group_words join
data_join end ys = refl
data_join (leaf l xs) ys = rw (data_join xs ys) (sym (append_assoc (leaf_words l) (data_words xs) (data_words ys)))
data_join (group g c xs) ys = rw (data_join xs ys) (sym (append_assoc (group_words g c) (data_words xs) (data_words ys)))

pub kinds_join : (xs ys : Items) → kinds (join xs ys) ≡ kinds xs ++ kinds ys
unfolding kinds join
kinds_join end ys = refl
kinds_join (leaf l xs) ys = ap (λ ks. leaf_kind l ∷ ks) (kinds_join xs ys)
kinds_join (group g c xs) ys = ap (λ ks. group_kind g ∷ ks) (kinds_join xs ys)

-- how many data words: what the numbers below count
abbrev pub words : Items → ℕ
words xs = length (data_words xs)

pub words_join : (xs ys : Items) → words (join xs ys) ≡ words xs + words ys
words_join xs ys = ap length (data_join xs ys) ∙ length-append (data_words xs) (data_words ys)

-- one header serves both
pub needed_join : (xs ys : Items) → 4 + words_needed (join xs ys) ≡ words_needed xs + words_needed ys
unfolding words_needed
needed_join xs ys = omega (arith, rows_join xs ys, words_join xs ys)

-- ---- repeated: a count that adds up over joins is multiplied
module _ (f : Items → ℕ) (none : f end ≡ 0) (adds : (xs ys : Items) → f (join xs ys) ≡ f xs + f ys) where
  multiplied : (n : ℕ) (xs : Items) → f (times n xs) ≡ n * f xs
  multiplied zero xs = ap f (times_zero xs) ∙ none ∙ omega arith
  multiplied (suc n) xs = ap f (times_suc n xs) ∙ adds xs (times n xs) ∙ omega (arith, multiplied n xs, suc-mul n (f xs))

pub rows_times : (n : ℕ) (xs : Items) → rows (times n xs) ≡ n * rows xs
rows_times = multiplied rows (unfold rows in refl) rows_join

pub count_times : (n : ℕ) (xs : Items) → count (times n xs) ≡ n * count xs
count_times = multiplied count (unfold count in refl) count_join

pub words_times : (n : ℕ) (xs : Items) → words (times n xs) ≡ n * words xs
words_times = multiplied words (unfold data_words in refl) words_join

-- ---- the rows of a list
pub row_words_join : (d : ℕ) (xs ys : Items) → row_words d (join xs ys) ≡ row_words d xs ++ row_words (d + words xs) ys
unfolding row_words join data_words group_words
row_words_join d end ys = let e : d + 0 ≡ d = omega arith in rw e refl
row_words_join d (leaf l xs) ys =
    let e : d + length (leaf_words l) + words xs ≡ d + length (leaf_words l ++ data_words xs) = omega (arith, length-append (leaf_words l) (data_words xs)) in
    ap (λ r. leaf_kind l ∷ leaf_a l ∷ leaf_b d l ∷ r) (row_words_join (d + length (leaf_words l)) xs ys ∙ ap (λ n. row_words (d + length (leaf_words l)) xs ++ row_words n ys) e)
row_words_join d (group g c xs) ys =
    let w : ℕ = length (group_words g c) in
    let in_it : List ℕ = pick (is_text g c) [] (row_words d c) in
    let e : d + w + words xs ≡ d + length (group_words g c ++ data_words xs) = omega (arith, length-append (group_words g c) (data_words xs)) in
    ap (λ r. row_kind g c ∷ count c ∷ group_b d g c ∷ r)
    (ap (λ r. in_it ++ r) (row_words_join (d + w) xs ys ∙ ap (λ n. row_words (d + w) xs ++ row_words n ys) e)
    ∙ sym (append_assoc in_it (row_words (d + w) xs) (row_words (d + length (group_words g c ++ data_words xs)) ys)))

-- ---- the table of a list: the rows of both, the second's with the first's data words before them, and then the data words of both
pub table_join : (xs ys : Items)
    → table_of (join xs ys)
    ≡ (rows xs + rows ys) ∷ (count xs + count ys) ∷ (4 + 3 * (rows xs + rows ys)) ∷ (words xs + words ys)
    ∷ ((row_words 0 xs ++ row_words (words xs) ys) ++ (data_words xs ++ data_words ys))
unfolding table_of
table_join xs ys =
    let none : 0 + words xs ≡ words xs = omega arith in
    let rs : row_words 0 (join xs ys) ≡ row_words 0 xs ++ row_words (words xs) ys = row_words_join 0 xs ys ∙ ap (λ n. row_words 0 xs ++ row_words n ys) none in
    ap (λ n. n ∷ count (join xs ys) ∷ (4 + 3 * n) ∷ words (join xs ys) ∷ (row_words 0 (join xs ys) ++ data_words (join xs ys))) (rows_join xs ys)
    ∙ ap₂ (λ c w. (rows xs + rows ys) ∷ c ∷ (4 + 3 * (rows xs + rows ys)) ∷ w ∷ (row_words 0 (join xs ys) ++ data_words (join xs ys))) (count_join xs ys) (words_join xs ys)
    ∙ ap₂ (λ r d. (rows xs + rows ys) ∷ (count xs + count ys) ∷ (4 + 3 * (rows xs + rows ys)) ∷ (words xs + words ys) ∷ (r ++ d)) rs (data_join xs ys)
