-- The words of the theorems about measure sheets (proofs/MeasuredExactly.antt, proofs/SheetWritten.antt).
use Rattle.std.specs.Prelude.{ℕ, ◌*◌, ◌≤◌, ◌≡◌, ◌⊎◌, ◌≢◌, List, take, ℤ}
use Rattle.format.specs.Items.{Items, end, leaf, group, empty}
use Rattle.format.specs.Tables.{table_of, words_needed}
use Rattle.format.specs.Normal.{normal}
use Rattle.format.specs.Answers.{over, Writing}
use Rattle.measure.specs.Sheets.{Scale, scale_code, ask, Sheet, by_number, by_name, Measuring, figureless, micrometres, sheet_from, measure_writing}

-- "type 12 or "MEASURE"": items are the sheet s
abbrev pub AsSheet : Items → Sheet → Type 0
AsSheet xs s = (xs ≡ by_number s) ⊎ (xs ≡ by_name s)

-- "not such a sheet"
abbrev pub NoSheet : Items → Type 0
NoSheet xs = (s : Sheet) → ¬ AsSheet xs s

-- "a figure EMPTY"
abbrev pub AnEmpty : Sheet → Type 0
AnEmpty s = (s.chest ≡ ask) ⊎ (s.waist ≡ ask) ⊎ (s.sleeve ≡ ask)

-- "an INT from 1 to 20,000"; so each of three figures; so the figures of a sheet
abbrev pub Fair : ℕ → Type 0
Fair n = (1 ≤ n) × (n ≤ 20000)

abbrev pub AllFair : ℕ → ℕ → ℕ → Type 0
AllFair c w l = Fair c × Fair w × Fair l

pub record Fit (s : Sheet) : Type 0 where
  pub chest : ℕ
  pub waist : ℕ
  pub sleeve : ℕ
  pub is : s ≡ sheet_from s.order s.unit chest waist sleeve
  pub chest_in : Fair chest
  pub waist_in : Fair waist
  pub sleeve_in : Fair sleeve

-- EMPTY stands among items, wherever that is
abbrev pub EmptyIn : Items → Type 0
EmptyIn end = ⊥
EmptyIn (leaf l xs) = (l ≡ empty) ⊎ EmptyIn xs
EmptyIn (group g c xs) = EmptyIn c ⊎ EmptyIn xs

-- an answer that is a refusal, and has no order number and no figures
pub record NoFigures (r : Measuring) : Type 0 where
  pub refused : r.number ≢ 0
  pub none : r ≡ figureless r.number r.place r.words r.missing r.table

-- "It answers order number, unit, the figures, and these in micrometres", k for each, beside the words used and the table
abbrev pub sheet_answer : ℤ → ℕ → ℕ → ℕ → ℕ → ℕ → ℕ → List ℕ → Measuring
sheet_answer z u k c w l n t = record {
  number = 0;
  place = 0;
  words = n;
  missing = 0;
  table = t;
  order = z;
  unit = u;
  chest = c;
  waist = w;
  sleeve = l;
  chest_um = k * c;
  waist_um = k * w;
  sleeve_um = k * l;
}

-- the answer for items xs that are the sheet s, whose figures are all in range: "1,000 or 3,175 for each, by the unit"
abbrev pub fit_answer : Items → (s : Sheet) → Fit s → List ℕ → Measuring
fit_answer xs s f t =
    sheet_answer s.order (scale_code s.unit) (micrometres s.unit) f.chest f.waist f.sleeve (words_needed xs) (over (table_of xs) t)

-- an answer in the unit u, with k micrometres for each
abbrev pub Micrometres : ℕ → ℕ → Measuring → Type 0
Micrometres u k r = (r.unit ≡ u) × (r.chest_um ≡ k * r.chest) × (r.waist_um ≡ k * r.waist) × (r.sleeve_um ≡ k * r.sleeve)

-- two answers tell the same sheet, or the same refusal of one
abbrev pub SameTold : Measuring → Measuring → Type 0
SameTold a b =
    (a.number ≡ b.number) × (a.order ≡ b.order) × (a.unit ≡ b.unit)
    × (a.chest ≡ b.chest) × (a.waist ≡ b.waist) × (a.sleeve ≡ b.sleeve)
    × (a.chest_um ≡ b.chest_um) × (a.waist_um ≡ b.waist_um) × (a.sleeve_um ≡ b.sleeve_um)

-- "the normal form with type 12"
abbrev pub sheet_bytes : ℤ → Scale → ℕ → ℕ → ℕ → List ℕ
sheet_bytes z k c w l = normal (by_number (sheet_from z k c w l))

-- what is written: the output up to the length answered
abbrev pub written_bytes : Writing → List ℕ
written_bytes r = take r.length r.output

-- writing from the order number, the unit and the figures answered
abbrev pub written_from : Measuring → List ℕ → Writing
written_from r o = measure_writing r.order r.unit r.chest r.waist r.sleeve o
