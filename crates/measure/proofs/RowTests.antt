-- The tests that the code makes of words, one at a time, and the tests of the whole that they decide. Assumes nothing.
use Prim.Native.Nat.{ℕ}
use mathlib.Core.Path.{◌≡◌, refl, sym}
use mathlib.Core.Bool.{Bool, true, false, ◌&&◌, ◌||◌}
use mathlib.Core.List.{List, [], ◌∷◌}
use lib.Dec.{eqb}
use Rattle.std.specs.List.{list_all, list_any}
use Rattle.format.specs.Choice.{pick, if_eq, either}
use Rattle.format.proofs.Choices.{by_eq, eq_true, eq_false, true_eq, clash}
use Rattle.table.specs.Rows.{kind_at}
use Rattle.measure.specs.Sheets.{is_empty, any_empty, fair}
use Rattle.measure.specs.SheetRows.{figure_rows, is_figure, are_figures, all_fair, figure_at, sheet_at}

-- two tests, one behind the other, that both came out true
pub pick_both : (a b : Bool) → pick a b false ≡ true → (a ≡ true) × (b ≡ true)
unfolding pick
pick_both true b e = (refl, e)
pick_both false b e = clash false e refl

pub eq_both : (m n : ℕ) (b : Bool) → if_eq m n b false ≡ true → (m ≡ n) × (b ≡ true)
unfolding if_eq
eq_both m n b e = let h = pick_both (eqb m n) b e in (true_eq m n h.0, h.1)

-- ---- figures
empty_at : (w : List ℕ) (p : ℕ) → is_empty (figure_at w p) ≡ eqb (kind_at w p) 5
unfolding figure_at is_empty
empty_at w p =
    by_eq (λ f. is_empty f ≡ eqb (kind_at w p) 5) (kind_at w p) 5 (λ e. sym (eq_true (kind_at w p) 5 e)) (λ n. sym (eq_false (kind_at w p) 5 n))

either_any : (a b c : Bool) → (a || (b || (c || false))) ≡ either a (either b c)
unfolding either
either_any true b c = refl
either_any false true c = refl
either_any false false true = refl
either_any false false false = refl

-- an EMPTY figure decides
pub empties : (w : List ℕ) → list_any (λ r. eqb r.kind 5) (figure_rows w) ≡ any_empty (sheet_at w)
unfolding any_empty sheet_at
empties w =
    rw (empty_at w 5, empty_at w 6, empty_at w 7) (either_any (eqb (kind_at w 5) 5) (eqb (kind_at w 6) 5) (eqb (kind_at w 7) 5))

-- three tests in a row
all_three : (a b c : Bool) → (a && (b && (c && true))) ≡ pick a (pick b c false) false
unfolding pick
all_three true true true = refl
all_three true true false = refl
all_three true false c = refl
all_three false b c = refl

pub fair_all : (c v l : ℕ) → list_all fair (c ∷ v ∷ l ∷ []) ≡ all_fair c v l
unfolding all_fair
fair_all c v l = all_three (fair c) (fair v) (fair l)

pub figures_all : (w : List ℕ) → list_all (λ r. is_figure r.kind) (figure_rows w) ≡ are_figures w
unfolding are_figures
figures_all w = all_three (is_figure (kind_at w 5)) (is_figure (kind_at w 6)) (is_figure (kind_at w 7))
