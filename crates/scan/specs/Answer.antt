-- What the scan answers, from what the bytes say.
use Rattle.std.specs.Prelude.{ℕ, ◌==◌, ◌&&◌, ◌||◌, if◌then◌else◌, Result, Ok, Err, ⊤}
use Rattle.format.specs.declared.fault.Fault as F
use Rattle.format.specs.declared.fault.Refusal.{Refusal}
use Rattle.format.specs.declared.fault.Refusal.TheVariants.{SeveralKinds, BadEdt}
use Rattle.format.specs.declared.kinds.Kind.TheVariants as K
use Rattle.format.specs.Kinds.{word_of}
use Rattle.format.specs.Refusals.{Fault, here}
use Rattle.format.specs.Refused.{number_of, meant}
use Rattle.format.specs.Messages as M
use Rattle.wire.specs.declared.head.Wrap.{Wrap}
use Rattle.wire.specs.declared.head.Wrap.TheVariants.{Struc, Ustruc, Edt, Repeat}
use Rattle.scan.specs.declared.summary.Summary.{Summary}
use Rattle.scan.specs.Sums.{sum_of, power_of, struc_of, edt_of}

-- what an answer of the code means
abbrev pub told : {T : Type 0} → Result T F.Fault → Result T Fault
told (Ok x) = Ok x
told (Err f) = Err (meant f)

unfoldable pub answer : M.Outcome → Result Summary Fault
unfolding sum_of
answer (M.refused f) = Err f
answer (M.says xs) = Ok (sum_of xs)

unfoldable pub answer_object : M.Object → Result (Summary × ℕ) Fault
unfolding sum_of
answer_object (M.bad f) = Err f
answer_object (M.got xs u) = Ok (sum_of xs, u)

-- the refusal of a USTRUC, of an EDT and of any container for the kinds of its elements
abbrev pub ustruc_fault : Summary → Result ⊤ Refusal
ustruc_fault a = if a.mix.word == 255 then Err SeveralKinds else Ok tt

abbrev pub edt_fault : Summary → Result ⊤ Refusal
edt_fault a =
    if (a.first.word == word_of K.Int || a.first.word == word_of K.String) && a.second.word == word_of K.Int then Ok tt
    else Err BadEdt

abbrev pub fault_of : Wrap → Summary → Result ⊤ Refusal
fault_of Struc a = Ok tt
fault_of Ustruc a = ustruc_fault a
fault_of Edt a = edt_fault a
fault_of (Repeat k) a = Ok tt

-- what a container comes to that has no such fault
abbrev pub wrapped_of : Wrap → Summary → Summary
wrapped_of Struc a = struc_of a
wrapped_of Ustruc a = struc_of a
wrapped_of Edt a = edt_of a
wrapped_of (Repeat k) a = power_of k a

-- a container, from its refusal and what it comes to; and from what its contents come to
abbrev pub closed_by : Result ⊤ Refusal → Summary → Result Summary Fault
closed_by (Ok x) a = Ok a
closed_by (Err why) a = Err (here (number_of why))

abbrev pub closed_of : Wrap → Summary → Result Summary Fault
closed_of w a = closed_by (fault_of w a) (wrapped_of w a)
