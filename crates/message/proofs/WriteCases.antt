-- What writing and normalising answer, from what their callees do. Assumes nothing.
use Prim.Native.Nat.{ℕ}
use mathlib.Core.Path.{◌≡◌, sym, ap, ◌∙◌}
use mathlib.Core.Logic.{◌≢◌}
use mathlib.Core.List.{List}
use Rattle.format.specs.Answers as A
use Rattle.format.proofs.Choices.{if_eq_yes, if_eq_no}

-- a refused reading ends normalising
pub normalise_refused : (m t o : List ℕ) (r : A.Reading) → r ≡ A.reading m t → r.number ≢ 0 → A.only_read r o ≡ A.normalising m t o
unfolding A.normalising A.then_written
normalise_refused m t o r e n = sym (ap (λ x. A.then_written x o) (sym e) ∙ if_eq_no r.number 0 _ _ n)

-- an accepted one goes on to writing
pub normalise_written : (m t o : List ℕ) (r : A.Reading) (w : A.Writing) → r ≡ A.reading m t → r.number ≡ 0 → w ≡ A.writing r.table o
    → A.read_and r w ≡ A.normalising m t o
unfolding A.normalising A.then_written
normalise_written m t o r w e z ew = ap (A.read_and r) ew ∙ sym (ap (λ x. A.then_written x o) (sym e) ∙ if_eq_yes r.number 0 _ _ z)
