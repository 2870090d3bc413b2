-- What the contracts of the inner functions cite: the words of a table as the rows of a sheet, which are the EDT's in row 0 and then
-- those of its seven elements. A type by name has its characters in word 28.
use Rattle.std.specs.Prelude.{ℕ, ◌≤◌, ◌≡◌, Bool, true, false, List, [], ◌∷◌, length, get_or, eqb, ltb}
use Rattle.std.proofs.Math.Option.{Option, none, some}
use Rattle.format.specs.Choice.{pick, if_eq}
use Rattle.format.specs.Numbers.{signed}
use Rattle.format.specs.Items.{Items}
use Rattle.format.specs.Tables.{items_of}
use Rattle.format.specs.Answers.{Reading}
use Rattle.table.specs.declared.rows.Row.{Row}
use Rattle.table.specs.Rows.{kind_at, a_at, b_at, rows_of}
use Rattle.measure.specs.Sheets.{Scale, tenths, eighths, Figure, figure, ask, Sheet, fair, any_empty}

-- words are the table of some items
abbrev pub SomeTable : List ℕ → Type 0
SomeTable w = (xs : Items) × (items_of w ≡ some xs)

-- "type 12 or "MEASURE"", "version 1": the row of a number, and of a name
unfoldable pub is_int : List ℕ → ℕ → ℕ → Bool
unfolding if_eq
is_int w p n = if_eq (kind_at w p) 1 (eqb (b_at w p) n) false

unfoldable pub is_name : List ℕ → Bool
unfolding if_eq
is_name w = if_eq (kind_at w 1) 9 (if_eq (a_at w 1) 7 (eqb (get_or w 28 0) 0x4d45415355524500) false) false

unfoldable pub is_type : List ℕ → Bool
unfolding pick is_int is_name
is_type w = pick (is_int w 1 12) true (is_name w)

unfoldable pub is_unit : List ℕ → Bool
unfolding if_eq
is_unit w = if_eq (kind_at w 4) 6 (ltb (b_at w 4) 2) false

unfoldable pub is_figure : ℕ → Bool
unfolding if_eq
is_figure k = if_eq k 1 true (eqb k 5)

-- the rows of the three figures
abbrev pub row_of : List ℕ → ℕ → Row
row_of w p = record { kind = kind_at w p; a = a_at w p; b = b_at w p }

abbrev pub figure_rows : List ℕ → List Row
figure_rows w = row_of w 5 ∷ row_of w 6 ∷ row_of w 7 ∷ []

unfoldable pub are_figures : List ℕ → Bool
unfolding pick is_figure
are_figures w = pick (is_figure (kind_at w 5)) (pick (is_figure (kind_at w 6)) (is_figure (kind_at w 7)) false) false

-- the elements of the EDT are those of a sheet
unfoldable pub are_elements : List ℕ → Bool
unfolding pick if_eq is_type is_int is_unit are_figures
are_elements w =
    pick (is_type w) (pick (is_int w 2 1) (if_eq (kind_at w 3) 1 (pick (is_unit w) (are_figures w) false) false) false) false

-- eight rows, the first an EDT with all others beneath it
unfoldable pub is_one_edt : List ℕ → Bool
unfolding if_eq
is_one_edt w = if_eq (rows_of w) 8 (if_eq (kind_at w 0) 8 (eqb (b_at w 0) 7) false) false

unfoldable pub is_sheet : List ℕ → Bool
unfolding pick is_one_edt are_elements
is_sheet w = pick (is_one_edt w) (are_elements w) false

-- the sheet that such rows are
unfoldable pub figure_at : List ℕ → ℕ → Figure
unfolding if_eq signed
figure_at w p = if_eq (kind_at w p) 5 ask (figure (signed 8 (b_at w p)))

unfoldable pub scale_at : ℕ → Scale
unfolding if_eq
scale_at u = if_eq u 0 tenths eighths

unfoldable pub sheet_at : List ℕ → Sheet
unfolding signed scale_at figure_at
sheet_at w = record {
  order = signed 8 (b_at w 3);
  unit = scale_at (b_at w 4);
  chest = figure_at w 5;
  waist = figure_at w 6;
  sleeve = figure_at w 7;
}

-- the sheet that a table is, if it is one
unfoldable pub sheet_in : List ℕ → Option Sheet
unfolding pick is_sheet sheet_at
sheet_in w = pick (is_sheet w) (some (sheet_at w)) none

-- three numbers are all in the range of figures
unfoldable pub all_fair : ℕ → ℕ → ℕ → Bool
unfolding pick fair
all_fair c w s = pick (fair c) (pick (fair w) (fair s) false) false

-- the figures of a sheet's rows are all there, and in range
pub record Measurable (w : List ℕ) : Type 0 where
  pub sheet : is_sheet w ≡ true
  pub room : 28 ≤ length w
  pub there : any_empty (sheet_at w) ≡ false
  pub fit : all_fair (b_at w 5) (b_at w 6) (b_at w 7) ≡ true

-- a message was read into a table, and takes so many words of it
abbrev pub read_into : ℕ → List ℕ → Reading
read_into n t = record { number = 0; place = 0; words = n; missing = 0; table = t }
