-- The answer of explaining, one function of what is lent, with what every word of the list is afterwards; and its numbers.
use Rattle.std.specs.Prelude.{ℕ, zero, suc, min, List, [], ◌∷◌, length}
use Rattle.format.specs.Choice.{if_lt, if_eq}
use Rattle.format.specs.Numbers.{twos}
use Rattle.format.specs.Refusals.{list_short, byte_limit}
use Rattle.format.specs.Items.{Items}
use Rattle.format.specs.Messages.{Outcome, refused, says, outcome}
use Rattle.format.specs.Tables.{rows, data_words}
use Rattle.format.specs.Answers as A
use Rattle.format.specs.Answers.{reading, over}
use Rattle.message.specs.declared.Reading.{Reading}
use Rattle.explain.specs.declared.evidence.Evidence.{Evidence}
use Rattle.explain.specs.declared.evidence.Evidence.TheVariants.{Nothing, End, Byte, Number, Absent, Kinds, Element, NoElement, Wanted}
use Rattle.explain.specs.declared.evidence.Code.{Code}
use Rattle.explain.specs.Reasons.{Why, why}

-- "told the words lent": reading's answer, number, place, words and missing bytes, is that for a table of so many words, whatever they are
-- (the theorem `read_alike`).
unfoldable pub blank : ℕ → List ℕ
blank zero = []
blank (suc n) = 0 ∷ blank n

abbrev pub answer_of : A.Reading → Reading
answer_of r = record { number = r.number; place = r.place; words = r.words; missing = r.missing }

unfoldable pub reading_in : List ℕ → ℕ → Reading
unfolding reading blank
reading_in m w = answer_of (reading m (blank w))

-- "10 and 11 are explained by the rows and data words wanted, each told as 65,536 if larger"; an accepted message has nothing to explain
unfoldable pub wanted : ℕ → Items → Evidence
unfolding if_eq rows data_words
wanted n xs = if_eq n 0 Nothing (Wanted (min (rows xs) 65536) (min (length (data_words xs)) 65536))

-- `n` is reading's number
unfoldable pub why_by : List ℕ → ℕ → Outcome → Why
unfolding why wanted
why_by m n (refused f) = why m
why_by m n (says xs) = record { around = []; evidence = wanted n xs }

-- "an input refused with 1 is only named"
unfoldable pub why_refused : List ℕ → ℕ → Why
unfolding if_lt why_by reading_in outcome
why_refused m w = if_lt byte_limit (length m) (record { around = []; evidence = Nothing }) (why_by m (reading_in m w).number (outcome m))

-- The answer: its own number, the places listed or needed, reading's answer, the evidence, and the list afterwards.
pub record Explaining : Type 0 where
  pub number : ℕ
  pub entries : ℕ
  pub reading : Reading
  pub evidence : Evidence
  pub list : List ℕ

-- "Any number not told is 0."
abbrev pub unanswered : Reading
unanswered = record { number = 0; place = 0; words = 0; missing = 0 }

-- "Its own result is 0, with reading's answer beside it, that of an accepted message too, or 16 for a short list." The list is of places, a
-- word each; with 16 the places needed are told, and it is untouched.
unfoldable pub explained : Reading → Why → List ℕ → Explaining
unfolding if_lt over
explained r y l =
    if_lt (length l) (length y.around)
    (record { number = list_short; entries = length y.around; reading = unanswered; evidence = Nothing; list = l })
    (record { number = 0; entries = length y.around; reading = r; evidence = y.evidence; list = over y.around l })

unfoldable pub explaining : List ℕ → ℕ → List ℕ → Explaining
unfolding explained reading_in why_refused
explaining m w l = explained (reading_in m w) (why_refused m w) l

-- ---- each case of the evidence by its code and two numbers; "Any number not told is 0."
abbrev pub code_of : ℕ → ℕ → ℕ → Code
code_of n a b = record { evidence = n; first = a; second = b }

unfoldable pub coded : Evidence → Code
unfolding twos
coded Nothing = code_of 0 0 0
coded (End e) = code_of 1 e 0
coded (Byte b p) = code_of 2 b p
coded (Number z) = code_of 3 (twos 8 z) 0
coded Absent = code_of 4 0 0
coded (Kinds p q) = code_of 5 p q
coded (Element k p) = code_of 6 k p
coded (NoElement k) = code_of 7 k 0
coded (Wanted r d) = code_of 8 r d

pub record Numbers : Type 0 where
  pub number : ℕ
  pub entries : ℕ
  pub reading : Reading
  pub evidence : Code
  pub list : List ℕ

unfoldable pub in_numbers : Explaining → Numbers
unfolding coded
in_numbers x = record { number = x.number; entries = x.entries; reading = x.reading; evidence = coded x.evidence; list = x.list }
