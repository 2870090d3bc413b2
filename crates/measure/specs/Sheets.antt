-- "The engine wants a sheet, not a table": what a measure sheet is, how one is read from a message, and how one is written.
use Rattle.std.specs.Prelude.{ℕ, zero, suc, ◌*◌, Bool, true, false, List, [], ◌∷◌, leb, ℤ, pos, negsuc}
use Rattle.std.proofs.Math.Option.{Option, none, some}
use Rattle.format.specs.Choice.{pick, if_eq, both, either}
use Rattle.format.specs.Refusals.{not_a_sheet, figure_empty, figure_range}
use Rattle.format.specs.Items.{Leaf, int, bits, char, bool, empty, xtra, struc, edt, Items, end, leaf, group, text}
use Rattle.format.specs.Same.{if_same}
use Rattle.format.specs.Messages.{Outcome, refused, says, outcome}
use Rattle.format.specs.Normal.{normal}
use Rattle.format.specs.Answers.{Reading, reading, Writing, unwritten, put}

-- ---- the sheet
-- "The unit is XTRA 0 (tenths of a centimetre) or XTRA 1 (eighths of an inch)."
pub data Scale : Type 0 where
  tenths eighths : Scale

unfoldable pub scale_code : Scale → ℕ
scale_code tenths = 0
scale_code eighths = 1

-- "Each of the three figures is an INT from 1 to 20,000, or EMPTY: stop and ask." An INT out of range has a refusal of its own, below.
pub data Figure : Type 0 where
  figure : ℤ → Figure
  ask : Figure

unfoldable pub figure_item : Figure → Leaf
figure_item (figure z) = int z
figure_item ask = empty

-- "The order number is any INT."
pub record Sheet : Type 0 where
  pub order : ℤ
  pub unit : Scale
  pub chest : Figure
  pub waist : Figure
  pub sleeve : Figure

-- "version 1, order number, unit, chest, waist, sleeve"
unfoldable pub behind_type : Sheet → Items
unfolding scale_code figure_item
behind_type s =
    leaf (int (pos 1)) (leaf (int s.order) (leaf (xtra (scale_code s.unit))
    (leaf (figure_item s.chest) (leaf (figure_item s.waist) (leaf (figure_item s.sleeve) end)))))

-- "exactly one EDT with seven elements: type 12 or "MEASURE"", and those
unfoldable pub by_number : Sheet → Items
unfolding behind_type
by_number s = group edt (leaf (int (pos 12)) (behind_type s)) end

-- "MEASURE", a code for each character
abbrev pub name_text : Items
name_text = text (0x4d ∷ 0x45 ∷ 0x41 ∷ 0x53 ∷ 0x55 ∷ 0x52 ∷ 0x45 ∷ [])

unfoldable pub by_name : Sheet → Items
unfolding behind_type text
by_name s = group edt (group struc name_text (behind_type s)) end

-- ---- which sheet items are
-- What stands in a sheet's places, the elements of its EDT being counted from 0. It is held against the sheet of these parts below, so
-- what stands here for other items makes no difference.
unfoldable pub elements_of : Items → Items
elements_of end = end
elements_of (leaf l xs) = end
elements_of (group g c xs) = c

unfoldable pub element : ℕ → Items → Leaf
element k end = empty
element zero (leaf l xs) = l
element zero (group g c xs) = empty
element (suc k) (leaf l xs) = element k xs
element (suc k) (group g c xs) = element k xs

unfoldable pub order_in : Leaf → ℤ
order_in (int z) = z
order_in (bits bs) = pos 0
order_in (char c) = pos 0
order_in (bool b) = pos 0
order_in empty = pos 0
order_in (xtra n) = pos 0

unfoldable pub scale_in : Leaf → Scale
unfolding if_eq
scale_in (int z) = tenths
scale_in (bits bs) = tenths
scale_in (char c) = tenths
scale_in (bool b) = tenths
scale_in empty = tenths
scale_in (xtra n) = if_eq n 0 tenths eighths

unfoldable pub figure_in : Leaf → Figure
figure_in (int z) = figure z
figure_in (bits bs) = ask
figure_in (char c) = ask
figure_in (bool b) = ask
figure_in empty = ask
figure_in (xtra n) = ask

unfoldable pub parts_of : Items → Sheet
unfolding element order_in scale_in figure_in
parts_of c = record {
  order = order_in (element 2 c);
  unit = scale_in (element 3 c);
  chest = figure_in (element 4 c);
  waist = figure_in (element 5 c);
  sleeve = figure_in (element 6 c);
}

unfoldable pub sheet_with : Sheet → Items → Option Sheet
unfolding if_same by_number by_name
sheet_with s xs = if_same xs (by_number s) (some s) (if_same xs (by_name s) (some s) none)

unfoldable pub sheet_of : Items → Option Sheet
unfolding sheet_with parts_of elements_of
sheet_of xs = sheet_with (parts_of (elements_of xs)) xs

-- ---- reading
-- "It answers order number, unit, the figures, and these in micrometres", beside what reading answers. The table is the lent one
-- afterwards.
pub record Measuring : Type 0 where
  pub number : ℕ
  pub place : ℕ
  pub words : ℕ
  pub missing : ℕ
  pub order : ℤ
  pub unit : ℕ
  pub chest : ℕ
  pub waist : ℕ
  pub sleeve : ℕ
  pub chest_um : ℕ
  pub waist_um : ℕ
  pub sleeve_um : ℕ
  pub table : List ℕ

-- no figures, and no order number
abbrev pub figureless : ℕ → ℕ → ℕ → ℕ → List ℕ → Measuring
figureless n p w k t = record {
  number = n;
  place = p;
  words = w;
  missing = k;
  table = t;
  order = pos 0;
  unit = 0;
  chest = 0;
  waist = 0;
  sleeve = 0;
  chest_um = 0;
  waist_um = 0;
  sleeve_um = 0;
}

-- "base refusals pass through with all they answer"
abbrev pub passed_on : Reading → Measuring
passed_on r = figureless r.number r.place r.words r.missing r.table

-- 20, 21, 22: "the lent table holding the base reading, as with 0". Every other number is 0.
abbrev pub no_sheet : ℕ → Reading → Measuring
no_sheet why r = figureless why 0 0 0 r.table

-- "21 a figure EMPTY"
unfoldable pub is_empty : Figure → Bool
is_empty (figure z) = false
is_empty ask = true

unfoldable pub any_empty : Sheet → Bool
unfolding either is_empty
any_empty s = either (is_empty s.chest) (either (is_empty s.waist) (is_empty s.sleeve))

-- "an INT from 1 to 20,000"
unfoldable pub fair : ℕ → Bool
unfolding both
fair n = both (leb 1 n) (leb n 20000)

unfoldable pub in_range : Figure → Bool
unfolding fair
in_range (figure (pos n)) = fair n
in_range (figure (negsuc n)) = false
in_range ask = false

unfoldable pub all_in_range : Sheet → Bool
unfolding both in_range
all_in_range s = both (in_range s.chest) (both (in_range s.waist) (in_range s.sleeve))

-- a figure in range, as a number
unfoldable pub figure_number : Figure → ℕ
figure_number (figure (pos n)) = n
figure_number (figure (negsuc n)) = 0
figure_number ask = 0

-- "in micrometres: 1,000 or 3,175 for each, by the unit"
unfoldable pub micrometres : Scale → ℕ
micrometres tenths = 1000
micrometres eighths = 3175

unfoldable pub measured : Sheet → Reading → Measuring
unfolding scale_code figure_number micrometres
measured s r = record {
  number = r.number;
  place = r.place;
  words = r.words;
  missing = r.missing;
  table = r.table;
  order = s.order;
  unit = scale_code s.unit;
  chest = figure_number s.chest;
  waist = figure_number s.waist;
  sleeve = figure_number s.sleeve;
  chest_um = micrometres s.unit * figure_number s.chest;
  waist_um = micrometres s.unit * figure_number s.waist;
  sleeve_um = micrometres s.unit * figure_number s.sleeve;
}

-- "20 not such a sheet, a figure neither INT nor EMPTY included, then 21 a figure EMPTY, then 22 a figure out of range"
unfoldable pub measured_as : Option Sheet → Reading → Measuring
unfolding pick any_empty all_in_range measured
measured_as none r = no_sheet not_a_sheet r
measured_as (some s) r = pick (any_empty s) (no_sheet figure_empty r) (pick (all_in_range s) (measured s r) (no_sheet figure_range r))

unfoldable pub measuring_of : Outcome → Reading → Measuring
unfolding if_eq measured_as sheet_of
measuring_of (refused f) r = passed_on r
measuring_of (says xs) r = if_eq r.number 0 (measured_as (sheet_of xs) r) (passed_on r)

unfoldable pub measuring : List ℕ → List ℕ → Measuring
unfolding measuring_of outcome reading
measuring m t = measuring_of (outcome m) (reading m t)

-- ---- writing
-- "20 another unit"
unfoldable pub scale_for : ℕ → Option Scale
unfolding if_eq
scale_for u = if_eq u 0 (some tenths) (if_eq u 1 (some eighths) none)

abbrev pub sheet_from : ℤ → Scale → ℕ → ℕ → ℕ → Sheet
sheet_from z u c w s = record { order = z; unit = u; chest = figure (pos c); waist = figure (pos w); sleeve = figure (pos s) }

-- "Writing a sheet from order number, unit and figures gives the normal form with type 12"; "then 22, then 15 with the length needed"
unfoldable pub sheet_writing : Sheet → List ℕ → Writing
unfolding pick all_in_range normal by_number put
sheet_writing s o = pick (all_in_range s) (put o (normal (by_number s))) (unwritten figure_range 0 o)

unfoldable pub writing_by : Option Scale → ℤ → ℕ → ℕ → ℕ → List ℕ → Writing
unfolding sheet_writing
writing_by none z c w s o = unwritten not_a_sheet 0 o
writing_by (some u) z c w s o = sheet_writing (sheet_from z u c w s) o

unfoldable pub measure_writing : ℤ → ℕ → ℕ → ℕ → ℕ → List ℕ → Writing
unfolding writing_by scale_for
measure_writing z u c w s o = writing_by (scale_for u) z c w s o
