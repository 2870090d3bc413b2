-- The answers as the code gives them, beside what is lent.
use Rattle.std.specs.Prelude.{ℕ, List}
use Rattle.format.specs.Refusals.{Fault, output_short}
use Rattle.format.specs.Refused.{number_of}
use Rattle.writer.specs.declared.Unwritten.{Unwritten}
use Rattle.writer.specs.declared.Unwritten.TheVariants.{Refused, Short}
use Rattle.format.specs.Answers as A
use Rattle.message.specs.declared.Reading.{Reading}
use Rattle.message.specs.declared.Writing.{Writing}
use Rattle.message.specs.declared.Normalising.{Normalising}

-- for a message with a fault, and for any other
abbrev pub fault_answer : Fault → Reading
fault_answer f = record { number = f.number; place = f.place; words = 0; missing = f.missing }

abbrev pub read_answer : ℕ → ℕ → Reading
read_answer n w = record { number = n; place = 0; words = w; missing = 0 }

-- reading's answer, and the table after it
abbrev pub read_told : Reading → List ℕ → A.Reading
read_told r t = record { number = r.number; place = r.place; words = r.words; missing = r.missing; table = t }

-- writing's answer, and the output after it
abbrev pub write_told : Writing → List ℕ → A.Writing
write_told r o = record { number = r.number; length = r.length; output = o }

-- where nothing is written
abbrev pub unwritten_answer : Unwritten → Writing
unwritten_answer (Refused r) = record { number = number_of r; length = 0 }
unwritten_answer (Short n) = record { number = output_short; length = n }

-- normalising's answer, and the table and the output after it
abbrev pub normalise_told : Normalising → List ℕ → List ℕ → A.Normalising
normalise_told r t o =
    record { number = r.number; place = r.place; words = r.words; length = r.length; missing = r.missing; table = t; output = o }
