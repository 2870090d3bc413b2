-- What comes out of salvaging: an accepted message the same, and from any input an accepted message, which salvaging no longer changes.
-- Assumes nothing.
use Prim.Native.Nat.{ℕ, ◌≤◌}
use native.Mathlib.Omega.{arith}
use mathlib.Core.Path.{◌≡◌, refl, sym, ap, ◌∙◌, subst}
use mathlib.Core.List.{List, []}
use lib.ListN.{length}
use Rattle.format.specs.Refusals.{byte_limit}
use Rattle.format.specs.Answers.{over}
use Rattle.format.proofs.Over.{over_none, over_front}
use Rattle.message.specs.Words.{Accepted}
use Rattle.message.proofs.Demands.{accepted_exactly}
use Rattle.salvage.specs.Mending.{met_alone, mended, change_words, salvaging}
use Rattle.salvage.specs.Words.{Ample, came_out, unchanged, mends}
use Rattle.salvage.proofs.MendedLaws.{mended_shorter}
use Rattle.salvage.proofs.Sound.{accepted_same}
use Rattle.salvage.proofs.Ample.{met_accepted, accepted_met}
use Rattle.salvage.proofs.SalvagedExactly.{salvaging_exactly, salvaging_0, answer_by}

-- ---- "An accepted message comes out the same with no changes listed."
-- with no changes an empty list is room enough
sound_unchanged : (m o l : List ℕ) → length m ≤ byte_limit → met_alone m ≡ 0 → length m ≤ length o → salvaging m o l ≡ unchanged m o l
unfolding change_words
sound_unchanged m o l s z r =
    let x = accepted_same m z in
    answer_by m o l m [] x.0 x.1 s z r (omega arith)
    ∙ ap (λ (t : List ℕ). record { number = 0; length = length m; entries = 0; output = over m o; list = t }) (over_none l)

-- the whole answer, for any list, an empty one too
pub accepted_unchanged : (m t o l : List ℕ) → Accepted m t → length m ≤ length o → salvaging m o l ≡ unchanged m o l
accepted_unchanged m t o l e r = sound_unchanged m o l ((accepted_exactly m t).0 e).1.short (accepted_met m t e) r

-- ---- what comes out, with 0, is what is left of the input
pub came_out_lem : (m o l : List ℕ) → (salvaging m o l).number ≡ 0 → came_out (salvaging m o l) ≡ mended m
came_out_lem m o l e =
    let x = (salvaging_0 m o l).0 e in
    ap came_out ((salvaging_exactly m o l _).1 (mends x.0 x.1)) ∙ over_front (mended m) o (length (mended m)) refl

-- "What comes out is accepted, given ample table."
pub comes_out_accepted : (m o l t : List ℕ) → (salvaging m o l).number ≡ 0 → Ample t → Accepted (came_out (salvaging m o l)) t
comes_out_accepted m o l t e a =
    let x = (salvaging_0 m o l).0 e in
    subst (λ b. Accepted b t) (sym (came_out_lem m o l e)) ((met_accepted (mended m) t (omega (arith, mended_shorter m, x.0.short)) a).1 x.1)

-- so salvaging it changes nothing
pub salvaged_again : (m o l p k : List ℕ) → (salvaging m o l).number ≡ 0 → length (came_out (salvaging m o l)) ≤ length p
    → let b = came_out (salvaging m o l) in salvaging b p k ≡ unchanged b p k
salvaged_again m o l p k e r =
    let x = (salvaging_0 m o l).0 e in
    let same = came_out_lem m o l e in
    sound_unchanged (came_out (salvaging m o l)) p k (omega (arith, ap length same, mended_shorter m, x.0.short)) (ap met_alone same ∙ x.1) r
