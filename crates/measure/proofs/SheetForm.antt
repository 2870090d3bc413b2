-- The items of a sheet: they are lawful, how deep they are, how long their normal form is, how many rows and words their table has; and
-- when a sheet's figures are all there, and all in range. Assumes nothing.
use Prim.Native.Nat.{ℕ, suc, ◌+◌, ◌*◌, ◌^◌, ◌≤◌, ◌<◌}
use mathlib.Core.Path.{◌≡◌, refl, sym, ap, subst}
use mathlib.Core.Logic.{inl, inr}
use mathlib.Core.Bool.{Bool, true, false}
use mathlib.Core.List.{[]}
use native.Mathlib.Omega.{arith}
use lib.ListN.{length}
use lib.Dec.{leb}
use lib.IntN.{ℤ, pos, negsuc}
use lib.Signed.{mag}
use Rattle.format.specs.Choice.{both, either}
use Rattle.format.specs.Refusals.{row_limit, word_limit}
use Rattle.format.specs.Items.{Leaf, int, xtra, edt, Items, end, leaf, all_of, kinds, edt_rule, proper_leaf, proper_group, proper}
use Rattle.format.specs.Tables.{rows, leaf_words, data_words, words_needed, lawful}
use Rattle.format.specs.Normal.{normal_size, normal_leaf, normal, depth}
use Rattle.format.proofs.Choices.{both_left, both_right, both_true, lt_true, le_true, true_le, clash}
use Rattle.format.proofs.Sizes.{size_small}
use Rattle.format.proofs.Shortest.{small_shortest, int_shortest}
use Rattle.format.proofs.ItemLaws.{proper_leaf_lem, proper_group_lem, length_end, length_leaf, length_group, rows_least}
use Rattle.measure.specs.Sheets.{Scale, tenths, eighths, scale_code, Figure, figure, ask, figure_item, Sheet, behind_type, by_number, by_name, is_empty, any_empty, fair, in_range, all_in_range, sheet_from}
use Rattle.measure.specs.Words.{AnEmpty, Fair, Fit}

-- ---- The table of a sheet.

-- a figure has no data words
figure_data : (f : Figure) → leaf_words (figure_item f) ≡ []
unfolding figure_item leaf_words
figure_data (figure z) = refl
figure_data ask = refl

-- "exactly one EDT with seven elements": eight rows
pub numbered_rows : (s : Sheet) → rows (by_number s) ≡ 8
unfolding by_number rows
numbered_rows s = refl

-- the name "MEASURE" is one row too
pub named_rows : (s : Sheet) → rows (by_name s) ≡ 8
unfolding by_name rows all_of kinds
named_rows s = refl

numbered_data : (s : Sheet) → data_words (by_number s) ≡ []
unfolding by_number data_words
numbered_data s = rw (figure_data s.chest, figure_data s.waist, figure_data s.sleeve) refl

named_data : (s : Sheet) → length (data_words (by_name s)) ≡ 1
unfolding by_name data_words
named_data s = rw (figure_data s.chest, figure_data s.waist, figure_data s.sleeve) refl

-- four words of header, three for each row
pub numbered_words : (s : Sheet) → words_needed (by_number s) ≡ 28
unfolding words_needed
numbered_words s = omega (arith, numbered_rows s, ap length (numbered_data s))

-- and one data word for the name
pub named_words : (s : Sheet) → words_needed (by_name s) ≡ 29
unfolding words_needed
named_words s = omega (arith, named_rows s, named_data s)

-- ---- Its figures.

-- a number is a figure in range exactly when the test says so
pub fair_is : (n : ℕ) → fair n ≡ true → Fair n
unfolding fair
fair_is n e = (true_le 1 n (both_left (leb 1 n) (leb n 20000) e), true_le n 20000 (both_right (leb 1 n) (leb n 20000) e))

is_fair : (n : ℕ) → Fair n → fair n ≡ true
unfolding fair
is_fair n h = both_true (leb 1 n) (leb n 20000) (le_true 1 n h.0) (le_true n 20000 h.1)

in_range_lem : (f : Figure) → in_range f ≡ true → (n : ℕ) × (f ≡ figure (pos n)) × Fair n
unfolding in_range
in_range_lem (figure (pos n)) e = (n, refl, fair_is n e)
in_range_lem (figure (negsuc n)) e = clash false e refl
in_range_lem ask e = clash false e refl

-- "an INT from 1 to 20,000": three numbers as the figures of a sheet are all in range exactly when each is
pub range_fair : (z : ℤ) (u : Scale) (c w l : ℕ) → all_in_range (sheet_from z u c w l) ≡ true → Fair c × Fair w × Fair l
unfolding all_in_range in_range
range_fair z u c w l e =
    let r = both_right (fair c) (both (fair w) (fair l)) e in
    (fair_is c (both_left (fair c) (both (fair w) (fair l)) e), fair_is w (both_left (fair w) (fair l) r), fair_is l (both_right (fair w) (fair l) r))

-- and back
pub fair_range : (z : ℤ) (u : Scale) (c w l : ℕ) → Fair c × Fair w × Fair l → all_in_range (sheet_from z u c w l) ≡ true
unfolding all_in_range in_range
fair_range z u c w l h = both_true _ _ (is_fair c h.0) (both_true _ _ (is_fair w h.1) (is_fair l h.2))

-- the same for any sheet: its figures are all in range exactly when it fits
pub range_fits : (s : Sheet) → all_in_range s ≡ true → Fit s
unfolding all_in_range
range_fits s e =
    let r = both_right (in_range s.chest) (both (in_range s.waist) (in_range s.sleeve)) e in
    let c = in_range_lem s.chest (both_left (in_range s.chest) (both (in_range s.waist) (in_range s.sleeve)) e) in
    let w = in_range_lem s.waist (both_left (in_range s.waist) (in_range s.sleeve) r) in
    let l = in_range_lem s.sleeve (both_right (in_range s.waist) (in_range s.sleeve) r) in
    record {
      chest = c.0;
      waist = w.0;
      sleeve = l.0;
      is = λ i. record { order = s.order; unit = s.unit; chest = c.1 i; waist = w.1 i; sleeve = l.1 i };
      chest_in = c.2;
      waist_in = w.2;
      sleeve_in = l.2;
    }

-- and back
pub fits_range : (s : Sheet) → Fit s → all_in_range s ≡ true
fits_range s f =
    subst (λ x. all_in_range x ≡ true) (sym f.is)
    (fair_range s.order s.unit f.chest f.waist f.sleeve (f.chest_in, f.waist_in, f.sleeve_in))

empty_ask : (f : Figure) → is_empty f ≡ true → f ≡ ask
unfolding is_empty
empty_ask (figure z) e = clash false e refl
empty_ask ask e = refl

either_right : (a b : Bool) → b ≡ true → either a b ≡ true
unfolding either
either_right true b e = refl
either_right false b e = e

-- "a figure EMPTY": exactly when the test says so
pub some_empty : (s : Sheet) → any_empty s ≡ true → AnEmpty s
unfolding any_empty
some_empty s e = go (is_empty s.chest) (is_empty s.waist) (is_empty s.sleeve) refl refl refl e
  where
    go : (a b c : Bool) → is_empty s.chest ≡ a → is_empty s.waist ≡ b → is_empty s.sleeve ≡ c → either a (either b c) ≡ true → AnEmpty s
    go true b c ea eb ec e = inl (empty_ask s.chest ea)
    go false true c ea eb ec e = inr (inl (empty_ask s.waist eb))
    go false false true ea eb ec e = inr (inr (empty_ask s.sleeve ec))
    go false false false ea eb ec e = clash false e refl

-- and back
pub empty_some : (s : Sheet) → AnEmpty s → any_empty s ≡ true
unfolding any_empty is_empty
empty_some s (inl e) = rw e refl
empty_some s (inr (inl e)) = either_right (is_empty s.chest) _ (rw e refl)
empty_some s (inr (inr e)) = either_right (is_empty s.chest) _ (either_right (is_empty s.waist) _ (rw e refl))

-- never where all are in range
pub fits_full : (s : Sheet) → Fit s → any_empty s ≡ false
unfolding any_empty
fits_full s f = rw f.is refl

-- ---- Its items.

-- "The unit is XTRA 0 (tenths of a centimetre) or XTRA 1 (eighths of an inch)."
pub unit_most : (u : Scale) → scale_code u ≤ 1
unfolding scale_code
unit_most tenths = omega arith
unit_most eighths = omega arith

scale_proper : (u : Scale) → proper_leaf (xtra (scale_code u)) ≡ true
unfolding proper_leaf
scale_proper u = lt_true (scale_code u) 4 (omega (arith, unit_most u))

int_proper : (z : ℤ) → mag z < 2 ^ 63 → proper_leaf (int z) ≡ true
unfolding proper_leaf
int_proper z h = lt_true (mag z) (2 ^ 63) h

fair_proper : (n : ℕ) → Fair n → proper_leaf (int (pos n)) ≡ true
fair_proper n h = int_proper (pos n) (omega (arith, h.1))

-- the items of a sheet whose figures are in range, with an order number that is an INT, are items
from_proper : (z : ℤ) (u : Scale) (c w l : ℕ) → mag z < 2 ^ 63 → Fair c → Fair w → Fair l → proper (by_number (sheet_from z u c w l)) ≡ true
unfolding by_number edt_rule proper_group
from_proper z u c w l h hc hw hl =
    proper_group_lem edt _ end refl
    (proper_leaf_lem _ _ (int_proper (pos 12) (omega arith)) (proper_leaf_lem _ _ (int_proper (pos 1) (omega arith)) (proper_leaf_lem _ _ (int_proper z h)
    (proper_leaf_lem _ _ (scale_proper u) (proper_leaf_lem _ _ (fair_proper c hc) (proper_leaf_lem _ _ (fair_proper w hw)
    (proper_leaf_lem _ end (fair_proper l hl) (unfold proper in refl))))))))
    (unfold proper in refl)

-- so with any sheet that fits
pub sheet_proper : (s : Sheet) → mag s.order < 2 ^ 63 → Fit s → proper (by_number s) ≡ true
sheet_proper s h f =
    subst (λ x. proper (by_number x) ≡ true) (sym f.is)
    (from_proper s.order s.unit f.chest f.waist f.sleeve h f.chest_in f.waist_in f.sleeve_in)

-- and they may stand in a table
pub sheet_lawful : (s : Sheet) → mag s.order < 2 ^ 63 → Fit s → lawful (by_number s) ≡ true
unfolding lawful
sheet_lawful s h f =
    both_true _ _ (sheet_proper s h f)
    (both_true _ _ (le_true (rows (by_number s)) row_limit (omega (arith, numbered_rows s)))
    (le_true (length (data_words (by_number s))) word_limit (omega (arith, ap length (numbered_data s)))))

-- its EDT stands in no other container, and holds none
pub sheet_depth : (s : Sheet) → depth (by_number s) ≡ 1
unfolding by_number depth
sheet_depth s = refl

-- ---- Its normal form.

leaf_most : (a b : ℕ) (l : Leaf) (xs : Items) → length (normal_leaf l) ≤ a → length (normal xs) ≤ b → length (normal (leaf l xs)) ≤ a + b
leaf_most a b l xs h k = omega (arith, length_leaf l xs)

int_most : (k : ℕ) (z : ℤ) → 0 < k → 2 * mag z < 256 ^ k → length (normal_leaf (int z)) ≤ suc k
unfolding normal_leaf
int_most k z p h = int_shortest k z p h

one_byte : (n : ℕ) → n < 64 → length (normal_leaf (int (pos n))) ≤ 1
unfolding normal_leaf
one_byte n h = small_shortest n h

xtra_byte : (n : ℕ) → length (normal_leaf (xtra n)) ≤ 1
unfolding normal_leaf
xtra_byte n = omega arith

fair_most : (n : ℕ) → Fair n → length (normal_leaf (int (pos n))) ≤ 3
fair_most n h = int_most 2 (pos n) (omega arith) (omega (arith, h.1))

-- the elements of a sheet's EDT: at most 1 byte for type, version and unit, 9 for the order number and 3 for a figure
elements : Sheet → Items
elements s = leaf (int (pos 12)) (behind_type s)

elements_most : (z : ℤ) (u : Scale) (c w l : ℕ) → mag z < 2 ^ 63 → Fair c → Fair w → Fair l
    → length (normal (elements (sheet_from z u c w l))) ≤ 21
unfolding elements behind_type
elements_most z u c w l h hc hw hl =
    leaf_most 1 20 _ _ (one_byte 12 (omega arith)) (leaf_most 1 19 _ _ (one_byte 1 (omega arith))
    (leaf_most 9 10 _ _ (int_most 8 z (omega arith) (omega arith)) (leaf_most 1 9 _ _ (xtra_byte (scale_code u))
    (leaf_most 3 6 _ _ (fair_most c hc) (leaf_most 3 3 _ _ (fair_most w hw) (leaf_most 3 0 _ end (fair_most l hl) (omega (arith, length_end))))))))

fits_most : (s : Sheet) → mag s.order < 2 ^ 63 → Fit s → length (normal (elements s)) ≤ 21
fits_most s h f =
    subst (λ x. length (normal (elements x)) ≤ 21) (sym f.is)
    (elements_most s.order s.unit f.chest f.waist f.sleeve h f.chest_in f.waist_in f.sleeve_in)

elements_least : (s : Sheet) → 7 ≤ length (normal (elements s))
unfolding elements behind_type rows
elements_least s = omega (arith, rows_least (elements s))

edt_length : (s : Sheet) → length (normal (by_number s)) ≡ suc (length (normal_size (length (normal (elements s)))) + length (normal (elements s)))
unfolding elements by_number
edt_length s = omega (arith, length_group edt (elements s) end, length_end)

-- from 9 to 23 bytes: one more for the EDT's type-byte, and one for its size
pub sheet_length : (s : Sheet) → mag s.order < 2 ^ 63 → Fit s → (9 ≤ length (normal (by_number s))) × (length (normal (by_number s)) ≤ 23)
sheet_length s h f =
    let n = length (normal (elements s)) in
    let least = elements_least s in
    let most = fits_most s h f in
    let size = size_small n (omega arith) (omega arith) in
    (omega (arith, edt_length s), omega (arith, edt_length s))
