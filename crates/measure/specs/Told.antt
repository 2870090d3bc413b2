-- The answer as the code gives it, beside what is lent.
use Rattle.std.specs.Prelude.{ℕ, ◌≡◌, List, pos, Result, Ok, Err}
use Rattle.format.specs.declared.fault.Refusal.{Refusal}
use Rattle.format.specs.Refused.{number_of}
use Rattle.message.specs.declared.Reading as R
use Rattle.message.specs.declared.Writing as W
use Rattle.measure.specs.declared.Measuring.{Measuring}
use Rattle.measure.specs.Sheets as S
use Rattle.measure.specs.SheetRows.{sheet_in, read_into}

-- one without figures
abbrev pub figureless_answer : ℕ → ℕ → ℕ → ℕ → Measuring
figureless_answer n p w k = record {
  number = n;
  place = p;
  words = w;
  missing = k;
  order = pos 0;
  unit = 0;
  chest = 0;
  waist = 0;
  sleeve = 0;
  chest_um = 0;
  waist_um = 0;
  sleeve_um = 0;
}

-- what reading answered, passed on
abbrev pub passed_answer : R.Reading → Measuring
passed_answer r = figureless_answer r.number r.place r.words r.missing

abbrev pub refused_answer : Refusal → Measuring
refused_answer why = figureless_answer (number_of why) 0 0 0

-- reading's answer, and the table after it
abbrev pub measure_told : Measuring → List ℕ → S.Measuring
measure_told r t = record {
  number = r.number;
  place = r.place;
  words = r.words;
  missing = r.missing;
  order = r.order;
  unit = r.unit;
  chest = r.chest;
  waist = r.waist;
  sleeve = r.sleeve;
  chest_um = r.chest_um;
  waist_um = r.waist_um;
  sleeve_um = r.sleeve_um;
  table = t;
}

-- what the rows of a table of so many words come to
abbrev pub FiguresIn : List ℕ → ℕ → Result Measuring Refusal → Type 0
FiguresIn w n (Ok m) = measure_told m w ≡ S.measured_as (sheet_in w) (read_into n w)
FiguresIn w n (Err why) = S.no_sheet (number_of why) (read_into n w) ≡ S.measured_as (sheet_in w) (read_into n w)

abbrev pub unwritten_answer : Refusal → W.Writing
unwritten_answer why = record { number = number_of why; length = 0 }
