-- The answer as the code gives it, beside what is lent.
use Rattle.std.specs.Prelude.{List, ℕ}
use Rattle.format.specs.declared.fault.Refusal.{Refusal}
use Rattle.format.specs.Refused.{number_of}
use Rattle.compare.specs.declared.Comparing.{Comparing}
use Rattle.compare.specs.Differences as D

-- comparing's answer, and the list after it
abbrev pub compare_told : Comparing → List ℕ → D.Comparing
compare_told r t = record { number = r.number; entries = r.entries; list = t }

abbrev pub written_answer : ℕ → Comparing
written_answer n = record { number = 0; entries = n }

abbrev pub refused_answer : Refusal → ℕ → Comparing
refused_answer why n = record { number = number_of why; entries = n }
