-- The rows of a repeat are its pattern's, copied; its data words likewise. Assumes nothing.
use Rattle.std.proofs.Common.{◌≡◌, ℕ, zero, suc, ◌+◌, ◌≤◌, Bool, true, false, [], ◌∷◌, ◌++◌, length, sym, refl, ap, ◌∙◌, ap₂, mod-eq_of_lt, arith, length-append}
use Rattle.format.proofs.Choices.{whether}
use Rattle.format.specs.Choice.{pick}
use Rattle.format.specs.Items.{Leaf, int, bits, char, bool, empty, xtra, Group, struc, edt, Items, end, leaf, group, times, leaf_kind, all_of, group_kind, kinds, is_string}
use Rattle.format.specs.Tables.{count, is_text, rows, leaf_words, text_words, data_words, group_words, leaf_a, leaf_b, row_kind, group_b, row_words}
use Rattle.format.proofs.Counts.{words, times_zero, times_suc, words_join, data_join, row_words_join}
use Rattle.format.proofs.TableLaws.{row_length, beneath_length}
use Rattle.fill.specs.Copies.{in_data, shift, rebased, copies, again}
use Rattle.fill.proofs.CopyLaws.{rebased_append}

-- ---- rebased, only the places of BITS and strings change
leaf_rebased : (w d : ℕ) (l : Leaf) → d ≤ 65536 → w ≤ 65536 → shift w (leaf_kind l) (leaf_b d l) ≡ leaf_b (d + w) l
unfolding shift in_data pick leaf_kind leaf_b
leaf_rebased w d (int z) h g = refl
leaf_rebased w d (bits bs) h g = mod-eq_of_lt (omega arith)
leaf_rebased w d (char c) h g = refl
leaf_rebased w d (bool b) h g = refl
leaf_rebased w d empty h g = refl
leaf_rebased w d (xtra n) h g = refl

group_rebased : (w d : ℕ) (g : Group) (c : Items) → d ≤ 65536 → w ≤ 65536 → shift w (row_kind g c) (group_b d g c) ≡ group_b (d + w) g c
unfolding shift in_data row_kind group_kind group_b is_text is_string pick
group_rebased w d struc c h i =
    whether (all_of 3 (kinds c)) (λ t. rw t (mod-eq_of_lt (omega arith))) (λ t. rw t refl)
group_rebased w d edt c h i = refl

rows_rebased : (w d : ℕ) (xs : Items) → d + words xs ≤ 65536 → w ≤ 65536 → rebased w (row_words d xs) ≡ row_words (d + w) xs
unfolding row_words data_words group_words rebased pick
rows_rebased w d end h i = refl
rows_rebased w d (leaf l xs) h i =
    let n = length-append (leaf_words l) (data_words xs) in
    let e : d + length (leaf_words l) + w ≡ d + w + length (leaf_words l) = omega arith in
    ap₂ (λ b r. leaf_kind l ∷ leaf_a l ∷ b ∷ r) (leaf_rebased w d l (omega arith) i)
    (rows_rebased w (d + length (leaf_words l)) xs (omega arith) i ∙ ap (λ n. row_words n xs) e)
rows_rebased w d (group g c xs) h i =
    let v : ℕ = length (group_words g c) in
    let n = length-append (group_words g c) (data_words xs) in
    let e : d + v + w ≡ d + w + v = omega arith in
    let t : Bool = is_text g c in
    ap₂ (λ b r. row_kind g c ∷ count c ∷ b ∷ r) (group_rebased w d g c (omega arith) i)
    (rebased_append w (pick t 0 (rows c)) (pick t [] (row_words d c)) (row_words (d + v) xs) (beneath_length t (row_words d c) (rows c) (row_length d c))
    ∙ ap₂ ◌++◌ (inside t refl (λ z. rows_rebased w d c z i)) (rows_rebased w (d + v) xs (omega arith) i ∙ ap (λ n. row_words n xs) e))
  where
    inside : (t : Bool) → is_text g c ≡ t → (d + words c ≤ 65536 → rebased w (row_words d c) ≡ row_words (d + w) c) → rebased w (pick t [] (row_words d c)) ≡ pick t [] (row_words (d + w) c)
    inside true q f = refl
    inside false q f =
        let z : length (group_words g c) ≡ words c = ap (λ b. length (pick b (text_words c) (data_words c))) q in
        f (omega (arith, length-append (group_words g c) (data_words xs)))

-- ---- repeated
pub rows_again : (k d : ℕ) (xs : Items) → d + words (times k xs) ≤ 65536 → row_words d (times k xs) ≡ copies (words xs) k (row_words d xs)
unfolding copies
rows_again zero d xs h = ap (row_words d) (times_zero xs) ∙ (unfold row_words in refl)
rows_again (suc k) d xs h =
    let j : words (times (suc k) xs) ≡ words xs + words (times k xs) = ap words (times_suc k xs) ∙ words_join xs (times k xs) in
    ap (row_words d) (times_suc k xs) ∙ row_words_join d xs (times k xs)
    ∙ ap (λ r. row_words d xs ++ r)
    (rows_again k (d + words xs) xs (omega arith) ∙ ap (copies (words xs) k) (sym (rows_rebased (words xs) d xs (omega arith) (omega arith))))

pub words_again : (k : ℕ) (xs : Items) → data_words (times k xs) ≡ again k (data_words xs)
unfolding again
words_again zero xs = ap data_words (times_zero xs) ∙ (unfold data_words in refl)
words_again (suc k) xs = ap data_words (times_suc k xs) ∙ data_join xs (times k xs) ∙ ap (λ r. data_words xs ++ r) (words_again k xs)
