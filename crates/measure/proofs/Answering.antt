-- What is answered for a sheet, by the tests that the code makes. Assumes nothing.
use Prim.Native.Nat.{ℕ, ◌*◌, ◌^◌, ◌≤◌, ◌<◌}
use mathlib.Core.Path.{◌≡◌, refl, sym, ap, ◌∙◌}
use mathlib.Core.Bool.{Bool, true, false}
use mathlib.Core.Option.{none, some}
use mathlib.Core.List.{List}
use native.Mathlib.Omega.{arith}
use lib.IntN.{ℤ}
use Rattle.format.specs.Choice.{pick, both, either}
use Rattle.format.specs.Numbers.{signed}
use Rattle.format.specs.Answers.{Reading}
use Rattle.format.proofs.Choices.{pick_yes, pick_no, by_lt, by_eq, whether, true_lt, clash}
use Rattle.table.specs.Rows.{kind_at, b_at}
use Rattle.measure.specs.Sheets.{scale_code, figure, no_sheet, is_empty, any_empty, fair, in_range, all_in_range, figure_number, micrometres, measured, measured_as}
use Rattle.measure.specs.Words.{sheet_answer}
use Rattle.measure.specs.SheetRows.{is_int, is_type, is_unit, is_one_edt, are_elements, is_sheet, figure_at, scale_at, sheet_at, sheet_in, all_fair, Measurable, read_into}
use Rattle.measure.proofs.RowTests.{pick_both, eq_both}
use Rattle.measure.proofs.SheetForm.{fair_is}
use Rattle.measure.proofs.TableSheets.{scale_word}
use Rattle.measure.proofs.MeasuredExactly.{scaled_most}

-- ---- figures
-- an INT that is too large for a figure has a word that is
range_of : (b : ℕ) → in_range (figure (signed 8 b)) ≡ fair b
unfolding signed in_range
range_of b =
    by_lt (λ z. in_range (figure z) ≡ fair b) (2 * b) (256 ^ 8) (λ h. refl)
    (λ h. sym (whether (fair b) (λ t. absurd (omega (arith, (fair_is b t).1))) (λ f. f)))

range_at : (w : List ℕ) (p : ℕ) → is_empty (figure_at w p) ≡ false → in_range (figure_at w p) ≡ fair (b_at w p)
unfolding figure_at is_empty
range_at w p =
    by_eq (λ f. is_empty f ≡ false → in_range f ≡ fair (b_at w p)) (kind_at w p) 5 (λ e h. clash true refl h) (λ n h. range_of (b_at w p))

-- a figure in range is told as the number that its row has
size_of : (b : ℕ) → fair b ≡ true → figure_number (figure (signed 8 b)) ≡ b
unfolding signed figure_number
size_of b t = by_lt (λ z. figure_number (figure z) ≡ b) (2 * b) (256 ^ 8) (λ h. refl) (λ h. absurd (omega (arith, (fair_is b t).1)))

size_at : (w : List ℕ) (p : ℕ) → is_empty (figure_at w p) ≡ false → fair (b_at w p) ≡ true → figure_number (figure_at w p) ≡ b_at w p
unfolding figure_at is_empty
size_at w p e t =
    by_eq (λ f. is_empty f ≡ false → figure_number f ≡ b_at w p) (kind_at w p) 5 (λ q h. clash true refl h) (λ n h. size_of (b_at w p) t) e

-- none of the figures is EMPTY
record Full (w : List ℕ) : Type 0 where
  chest : is_empty (figure_at w 5) ≡ false
  waist : is_empty (figure_at w 6) ≡ false
  sleeve : is_empty (figure_at w 7) ≡ false

either_neither : (a b : Bool) → either a b ≡ false → (a ≡ false) × (b ≡ false)
unfolding either
either_neither true b e = clash true refl e
either_neither false b e = (refl, e)

full : (w : List ℕ) → any_empty (sheet_at w) ≡ false → Full w
unfolding any_empty sheet_at
full w e =
    let a = either_neither (is_empty (figure_at w 5)) _ e in
    let b = either_neither (is_empty (figure_at w 6)) (is_empty (figure_at w 7)) a.1 in
    record { chest = a.0; waist = b.0; sleeve = b.1 }

-- all in range, by the rows
pub both_pick : (a b c : Bool) → both a (both b c) ≡ pick a (pick b c false) false
unfolding both pick
both_pick true true c = refl
both_pick true false c = refl
both_pick false b c = refl

range_rows : (w : List ℕ) → any_empty (sheet_at w) ≡ false → all_in_range (sheet_at w) ≡ all_fair (b_at w 5) (b_at w 6) (b_at w 7)
unfolding all_in_range sheet_at all_fair
range_rows w e =
    let f = full w e in
    rw (range_at w 5 f.chest, range_at w 6 f.waist, range_at w 7 f.sleeve) (both_pick (fair (b_at w 5)) (fair (b_at w 6)) (fair (b_at w 7)))

-- ---- the answer with figures
-- each of them is in range
record Fairs (w : List ℕ) : Type 0 where
  chest : fair (b_at w 5) ≡ true
  waist : fair (b_at w 6) ≡ true
  sleeve : fair (b_at w 7) ≡ true

fairs : (w : List ℕ) → all_fair (b_at w 5) (b_at w 6) (b_at w 7) ≡ true → Fairs w
unfolding all_fair
fairs w e =
    let a = pick_both (fair (b_at w 5)) _ e in
    let b = pick_both (fair (b_at w 6)) (fair (b_at w 7)) a.1 in
    record { chest = a.0; waist = b.0; sleeve = b.1 }

pub unit_below : (w : List ℕ) → is_sheet w ≡ true → b_at w 4 < 2
unfolding is_sheet are_elements is_unit
unit_below w t =
    let e = (pick_both (is_one_edt w) (are_elements w) t).1 in
    let v = (pick_both (is_int w 2 1) _ (pick_both (is_type w) _ e).1).1 in
    let u = (pick_both (is_unit w) _ (eq_both (kind_at w 3) 1 _ v).1).0 in
    true_lt (b_at w 4) 2 (eq_both (kind_at w 4) 6 _ u).1

-- the unit of a sheet is told by its code
unit_told : (w : List ℕ) → is_sheet w ≡ true → scale_code (scale_at (b_at w 4)) ≡ b_at w 4
unit_told w t = scale_word (b_at w 4) (unit_below w t)

-- the products do not overflow
abbrev pub Small : ℕ → ℕ → ℕ → ℕ → Type 0
Small k c v l = (k * c ≤ 63500000) × (k * v ≤ 63500000) × (k * l ≤ 63500000)

pub um_fits : (w : List ℕ) (k u c v l : ℕ) → Measurable w → k ≡ micrometres (scale_at u) → c ≡ b_at w 5 → v ≡ b_at w 6 → l ≡ b_at w 7
    → Small k c v l
um_fits w k u c v l m e p q r =
    let f = fairs w m.fit in
    let most : (n : ℕ) → fair n ≡ true → micrometres (scale_at u) * n ≤ 63500000 = λ n t. scaled_most (scale_at u) n (fair_is n t) in
    rw (e, p, q, r) (most (b_at w 5) f.chest, most (b_at w 6) f.waist, most (b_at w 7) f.sleeve)

pub sheet_told : (w : List ℕ) (n : ℕ) (z : ℤ) (u c v l k : ℕ) → Measurable w → z ≡ signed 8 (b_at w 3) → u ≡ b_at w 4 → c ≡ b_at w 5 → v ≡ b_at w 6 → l ≡ b_at w 7
    → k ≡ micrometres (scale_at u)
    → sheet_answer z u k c v l n w ≡ measured (sheet_at w) (read_into n w)
unfolding measured sheet_at
sheet_told w n z u c v l k m ez eu ec ev el ek =
    let f = fairs w m.fit in
    let g = full w m.there in
    let x = size_at w 5 g.chest f.chest in
    let y = size_at w 6 g.waist f.waist in
    let q = size_at w 7 g.sleeve f.sleeve in
    rw (ek, ez, eu, ec, ev, el, unit_told w m.sheet, x, y, q) refl

-- ---- the answer for a table that was read
pub not_measured : (w : List ℕ) (r : Reading) → is_sheet w ≡ false → no_sheet 20 r ≡ measured_as (sheet_in w) r
unfolding sheet_in measured_as
not_measured w r e = sym (ap (λ o. measured_as o r) (pick_no (is_sheet w) (some (sheet_at w)) none e))

is_sheet_lem : (w : List ℕ) (r : Reading) → is_sheet w ≡ true → measured_as (sheet_in w) r ≡ measured_as (some (sheet_at w)) r
unfolding sheet_in
is_sheet_lem w r e = ap (λ o. measured_as o r) (pick_yes (is_sheet w) (some (sheet_at w)) none e)

pub asked_first : (w : List ℕ) (r : Reading) → is_sheet w ≡ true → any_empty (sheet_at w) ≡ true → no_sheet 21 r ≡ measured_as (sheet_in w) r
unfolding measured_as
asked_first w r e a = sym (is_sheet_lem w r e ∙ pick_yes (any_empty (sheet_at w)) _ _ a)

module _ (w : List ℕ) (r : Reading) (e : is_sheet w ≡ true) (a : any_empty (sheet_at w) ≡ false) where
  pub not_in_range : all_fair (b_at w 5) (b_at w 6) (b_at w 7) ≡ false → no_sheet 22 r ≡ measured_as (sheet_in w) r
  unfolding measured_as
  not_in_range f = sym (is_sheet_lem w r e ∙ pick_no (any_empty (sheet_at w)) _ _ a ∙ pick_no (all_in_range (sheet_at w)) _ _ (range_rows w a ∙ f))

  pub in_range_told : all_fair (b_at w 5) (b_at w 6) (b_at w 7) ≡ true → measured (sheet_at w) r ≡ measured_as (sheet_in w) r
  unfolding measured_as
  in_range_told f = sym (is_sheet_lem w r e ∙ pick_no (any_empty (sheet_at w)) _ _ a ∙ pick_yes (all_in_range (sheet_at w)) _ _ (range_rows w a ∙ f))
