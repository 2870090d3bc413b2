-- A table whose rows are those of a sheet is the table of that sheet, and no other is. Assumes nothing.
use Prim.Native.Nat.{ℕ, ◌+◌, ◌*◌, ◌≤◌, ◌<◌}
use mathlib.Core.Path.{◌≡◌, refl, sym, ap, ap₂, ◌∙◌, subst}
use mathlib.Core.Logic.{inl, inr, ⊎_elim}
use mathlib.Core.Bool.{true, false}
use mathlib.Core.Option.{none, some}
use mathlib.Core.List.{List, ◌∷◌, ◌++◌}
use native.Mathlib.Omega.{arith}
use lib.ListN.{length, drop, get_or, take-append-drop}
use lib.Dec.{eqb, ltb}
use lib.IntN.{pos}
use lib.Seq.{drop-cons}
use Rattle.format.specs.Numbers.{signed}
use Rattle.format.specs.Items.{int, xtra, Group, struc, edt, Items, end, leaf, group, text, leaf_kind}
use Rattle.format.specs.Bits.{words_for}
use Rattle.format.specs.Tables.{table_of, is_text, container_kind, row_kind, items_of, claimed_leaf, claimed_text}
use Rattle.format.proofs.Choices.{pick_yes, pick_no, if_eq_yes, if_eq_no, split_eq, whether, true_eq, true_lt, clash}
use Rattle.table.specs.Rows.{kind_at, a_at, b_at, data_of, data_to, rows_of, Stands, Run, items_at, leaf_at, text_at}
use Rattle.table.proofs.RowLaws.{data_none, data_text}
use Rattle.table.proofs.RowData.{int_at_lem}
use Rattle.table.proofs.RunLaws.{leaf_step, group_step, text_step, run_end}
use Rattle.table.proofs.Standing.{stands_is, run_of}
use Rattle.table.proofs.Whole.{whole}
use Rattle.message.proofs.Cases.{table_of_items}
use Rattle.message.proofs.Strings.{string_place}
use Rattle.measure.specs.Sheets.{Scale, tenths, eighths, scale_code, Figure, figure, ask, figure_item, Sheet, behind_type, by_number, name_text, by_name, sheet_of}
use Rattle.measure.specs.Words.{AsSheet}
use Rattle.measure.specs.SheetRows.{SomeTable, is_int, is_name, is_type, is_unit, is_figure, are_figures, are_elements, is_one_edt, is_sheet, figure_at, scale_at, sheet_at, sheet_in}
use Rattle.measure.proofs.RowTests.{pick_both, eq_both}
use Rattle.measure.proofs.SheetLaws.{sent_sheet, not_sheet}

-- ---- the words that are there
-- those of a header, and of eight rows
pub header_room : (w : List ℕ) → SomeTable w → 4 ≤ length w
header_room w t = (whole w t.0 t.1).formed.long

pub rows_room : (w : List ℕ) → SomeTable w → rows_of w ≡ 8 → 28 ≤ length w
rows_room w t n = let h = (whole w t.0 t.1).formed.header.within in omega arith

pub one_edt_rows : (w : List ℕ) → is_one_edt w ≡ true → rows_of w ≡ 8
unfolding is_one_edt
one_edt_rows w t = (eq_both (rows_of w) 8 _ t).0

pub sheet_eight : (w : List ℕ) → is_sheet w ≡ true → rows_of w ≡ 8
unfolding is_sheet
sheet_eight w t = one_edt_rows w (pick_both (is_one_edt w) (are_elements w) t).0

-- ---- one row: the leaf, and the run behind it
module _ (w : List ℕ) (p : ℕ) (r : Run w p 8) (h : p < 8) where
  -- an INT
  int_row : kind_at w p ≡ 1 → (items_at w p 8 ≡ leaf (int (signed 8 (b_at w p))) (items_at w (p + 1) 8)) × Run w (p + 1) 8
  int_row k = let s = leaf_step w p 8 r h (omega arith) in (s.is ∙ ap (λ l. leaf l (items_at w (p + 1) 8)) (int_at_lem w p k), s.next)

  -- the unit
  unit_row : kind_at w p ≡ 6 → (items_at w p 8 ≡ leaf (xtra (b_at w p)) (items_at w (p + 1) 8)) × Run w (p + 1) 8
  unfolding leaf_at claimed_leaf
  unit_row k =
      let s = leaf_step w p 8 r h (omega arith) in
      (s.is ∙ ap (λ l. leaf l (items_at w (p + 1) 8)) (rw k refl), s.next)

  -- a figure
  figure_row : is_figure (kind_at w p) ≡ true → (items_at w p 8 ≡ leaf (figure_item (figure_at w p)) (items_at w (p + 1) 8)) × Run w (p + 1) 8
  unfolding leaf_at claimed_leaf is_figure figure_at figure_item
  figure_row t =
      split_eq (kind_at w p) 1
      (λ k. let s = int_row k in (s.0 ∙ ap (λ f. leaf (figure_item f) (items_at w (p + 1) 8)) (sym (if_eq_no (kind_at w p) 5 ask _ (omega arith))), s.1))
      (λ n.
      let k : kind_at w p ≡ 5 = true_eq (kind_at w p) 5 (sym (if_eq_no (kind_at w p) 1 true (eqb (kind_at w p) 5) n) ∙ t) in
      let s = leaf_step w p 8 r h (omega arith) in
      (s.is ∙ ap (λ l. leaf l (items_at w (p + 1) 8)) (rw k refl), s.next))

pub scale_word : (b : ℕ) → b < 2 → scale_code (scale_at b) ≡ b
unfolding scale_code scale_at
scale_word b h =
    split_eq b 0 (λ e. ap scale_code (if_eq_yes b 0 tenths eighths e) ∙ sym e)
    (λ n. let o : 1 ≡ b = omega arith in ap scale_code (if_eq_no b 0 tenths eighths n) ∙ o)

-- ---- the rows behind the type
module _ (w : List ℕ) (r : Run w 2 8) where
  rest_rows : is_int w 2 1 ≡ true → kind_at w 3 ≡ 1 → is_unit w ≡ true → are_figures w ≡ true → items_at w 2 8 ≡ behind_type (sheet_at w)
  unfolding is_int is_unit are_figures behind_type sheet_at signed
  rest_rows v o u f =
      let v' = eq_both (kind_at w 2) 1 (eqb (b_at w 2) 1) v in
      let u' = eq_both (kind_at w 4) 6 (ltb (b_at w 4) 2) u in
      let f₁ = pick_both (is_figure (kind_at w 5)) _ f in
      let f₂ = pick_both (is_figure (kind_at w 6)) (is_figure (kind_at w 7)) f₁.1 in
      let s₂ = int_row w 2 r (omega arith) v'.0 in
      let s₃ = int_row w 3 s₂.1 (omega arith) o in
      let s₄ = unit_row w 4 s₃.1 (omega arith) u'.0 in
      let s₅ = figure_row w 5 s₄.1 (omega arith) f₁.0 in
      let s₆ = figure_row w 6 s₅.1 (omega arith) f₂.0 in
      let s₇ = figure_row w 7 s₆.1 (omega arith) f₂.1 in
      let e = run_end w 8 8 s₇.1 (omega arith) in
      let c : signed 8 (b_at w 2) ≡ pos 1 = ap (signed 8) (true_eq (b_at w 2) 1 v'.1) in
      let x : b_at w 4 ≡ scale_code (scale_at (b_at w 4)) = sym (scale_word (b_at w 4) (true_lt (b_at w 4) 2 u'.1)) in
      s₂.0 ∙ ap₂ (λ z xs. leaf (int z) xs) c
      (s₃.0 ∙ ap (leaf (int (signed 8 (b_at w 3)))) (s₄.0 ∙ ap₂ (λ n xs. leaf (xtra n) xs) x (s₅.0 ∙ ap (leaf (figure_item (figure_at w 5)))
      (s₆.0 ∙ ap (leaf (figure_item (figure_at w 6))) (s₇.0 ∙ ap (leaf (figure_item (figure_at w 7))) e)))))

-- ---- the type
-- the data word of a name has its characters
name_word : (ds : List ℕ) → claimed_text 7 0 (0x4d45415355524500 ∷ ds) ≡ name_text
unfolding claimed_text text
name_word ds = refl

is_edt : (g : Group) (c : Items) → is_text g c ≡ false → row_kind g c ≡ 8 → g ≡ edt
unfolding row_kind container_kind
is_edt struc c p k = let e = pick_no {X = ℕ} (is_text struc c) 9 7 p in absurd (omega arith)
is_edt edt c p k = refl

module _ (w : List ℕ) (xs : Items) (e : items_of w ≡ some xs) (n : rows_of w ≡ 8) where
  -- a name's data word is there
  pub name_room : kind_at w 1 ≡ 9 → a_at w 1 ≡ 7 → 29 ≤ length w
  unfolding data_to words_for
  name_room k a =
      let f = (whole w xs e).formed in
      let d = data_text w 1 k in
      let o : words_for (8 * a_at w 1) ≡ 1 = rw a refl in
      let t : data_to w (rows_of w) ≡ data_to w 8 = ap (data_to w) n in
      omega (arith, f.all, f.header.within)

  name_row : Run w 1 8 → kind_at w 0 ≡ 8 → is_name w ≡ true
      → (items_at w 1 8 ≡ group struc name_text (items_at w 2 8)) × Run w 2 8
  unfolding is_name text_at data_to
  name_row r z t =
      let k = eq_both (kind_at w 1) 9 _ t in
      let a = eq_both (a_at w 1) 7 _ k.1 in
      let s = text_step w 1 8 r (omega arith) k.0 in
      let q : data_to w 1 ≡ 0 = ap (λ i. 0 + i) (data_none w 0 (omega arith) (omega arith)) in
      let b : b_at w 1 ≡ 0 = string_place w xs 1 (table_of_items w xs e) (omega arith) k.0 ∙ q in
      let l = name_room k.0 a.0 in
      let d : data_of w ≡ 0x4d45415355524500 ∷ drop 29 w =
      ap (λ i. drop (4 + 3 * i) w) n ∙ drop-cons w 28 0 (omega arith) ∙ ap (λ i. i ∷ drop 29 w) (true_eq (get_or w 28 0) 0x4d45415355524500 a.1) in
      let c : text_at w 1 ≡ name_text = rw (a.0, b, d) (name_word (drop 29 w)) in
      (s.is ∙ ap (λ y. group struc y (items_at w 2 8)) c, s.next)

  -- ---- the whole sheet
  -- the EDT's own row
  edt_row : Run w 0 8 → kind_at w 0 ≡ 8 → b_at w 0 ≡ 7 → (items_at w 0 8 ≡ group edt (items_at w 1 8) end) × Run w 1 8
  edt_row r k b =
      let s = group_step w 0 8 r (omega arith) (omega arith) (λ q. omega arith) in
      let i : Run w 1 8 = subst (λ x. Run w 1 (1 + x)) b s.inside in
      let l = run_end w 8 8 (subst (λ x. Run w (1 + x) 8) b s.next) (omega arith) in (
        s.is ∙ ap (λ x. group s.kind (items_at w 1 (1 + x)) (items_at w (1 + x) 8)) b
            ∙ ap₂ (λ g y. group g (items_at w 1 8) y) (is_edt s.kind (items_at w 1 (1 + b_at w 0)) s.plain (sym s.row ∙ k)) l,
        i,
      )

  -- rows that are those of a sheet are its items
  rows_sheet : is_sheet w ≡ true → AsSheet xs (sheet_at w)
  unfolding is_sheet is_one_edt are_elements is_type is_int signed by_number by_name
  rows_sheet t =
      let o = pick_both (is_one_edt w) (are_elements w) t in
      let k = eq_both (kind_at w 0) 8 _ (eq_both (rows_of w) 8 _ o.0).1 in
      let ty = pick_both (is_type w) _ o.1 in
      let v = pick_both (is_int w 2 1) _ ty.1 in
      let z = eq_both (kind_at w 3) 1 _ v.1 in
      let u = pick_both (is_unit w) _ z.1 in
      let s = subst (λ i. Stands w 0 0 i xs) n (whole w xs e).stands in
      let a = edt_row (run_of w 0 0 8 xs s) k.0 (true_eq (b_at w 0) 7 k.1) in
      let is : xs ≡ group edt (items_at w 1 8) end = sym (stands_is w 0 0 8 xs s) ∙ a.0 in
      whether (is_int w 1 12)
      (λ y.
      let i = eq_both (kind_at w 1) 1 _ y in
      let r = int_row w 1 a.1 (omega arith) i.0 in
      let c : signed 8 (b_at w 1) ≡ pos 12 = ap (signed 8) (true_eq (b_at w 1) 12 i.1) in
      inl (is ∙ ap (λ y. group edt y end) (r.0 ∙ ap₂ (λ m ys. leaf (int m) ys) c (rest_rows w r.1 v.0 z.0 u.0 u.1))))
      (λ y.
      let r = name_row a.1 k.0 (sym (pick_no (is_int w 1 12) true (is_name w) y) ∙ ty.0) in
      inr (is ∙ ap (λ y. group edt y end) (r.0 ∙ ap (group struc name_text) (rest_rows w r.1 v.0 z.0 u.0 u.1))))

-- ---- and the other way round
figure_kind : (f : Figure) → is_figure (leaf_kind (figure_item f)) ≡ true
unfolding is_figure leaf_kind figure_item
figure_kind (figure z) = refl
figure_kind ask = refl

unit_code : (u : Scale) → ltb (scale_code u) 2 ≡ true
unfolding scale_code
unit_code tenths = refl
unit_code eighths = refl

numbered_test : (s : Sheet) (rest : List ℕ) → is_sheet (table_of (by_number s) ++ rest) ≡ true
unfolding is_sheet table_of by_number
numbered_test s rest = rw (figure_kind s.chest, figure_kind s.waist, figure_kind s.sleeve, unit_code s.unit) refl

named_test : (s : Sheet) (rest : List ℕ) → is_sheet (table_of (by_name s) ++ rest) ≡ true
unfolding is_sheet table_of by_name
named_test s rest = rw (figure_kind s.chest, figure_kind s.waist, figure_kind s.sleeve, unit_code s.unit) refl

-- a table of a sheet has the rows of one
sheet_rows : (w : List ℕ) (xs : Items) (s : Sheet) → items_of w ≡ some xs → AsSheet xs s → is_sheet w ≡ true
sheet_rows w xs s e a =
    let rest = drop (length (table_of xs)) w in
    subst (λ l. is_sheet l ≡ true)
    (ap (λ l. l ++ rest) (sym (table_of_items w xs e).exact) ∙ take-append-drop (length (table_of xs)) w)
    (⊎_elim (λ q. ap (λ x. is_sheet (table_of x ++ rest)) q ∙ numbered_test s rest) (λ q. ap (λ x. is_sheet (table_of x ++ rest)) q ∙ named_test s rest) a)

-- the sheet that a table's rows are is the sheet that its items are
pub sheet_in_lem : (w : List ℕ) (xs : Items) → items_of w ≡ some xs → sheet_in w ≡ sheet_of xs
unfolding sheet_in
sheet_in_lem w xs e =
    whether (is_sheet w)
    (λ t.
    let n = sheet_eight w t in
    pick_yes (is_sheet w) (some (sheet_at w)) none t ∙ sym (sent_sheet xs (sheet_at w) (rows_sheet w xs e n t)))
    (λ t.
    pick_no (is_sheet w) (some (sheet_at w)) none t
    ∙ sym (not_sheet xs (λ s a. clash (is_sheet w) (sheet_rows w xs s e a) t)))
