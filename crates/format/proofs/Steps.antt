-- A run's two equations, at its end and one object on, with no count of steps in them. Assumes nothing.
use Prim.Native.Nat.{ℕ, zero, suc, ◌≤◌}
use native.Mathlib.Omega.{arith}
use native.Mathlib.Nat.{le_refl}
use mathlib.Core.Path.{◌≡◌, refl, ap, ◌∙◌, fun_ext}
use mathlib.Core.List.{List, [], ◌∷◌}
use lib.ListN.{length, drop, length-take, length-drop}
use Rattle.format.specs.Items.{end}
use Rattle.format.specs.Objects.{head_of, contents}
use Rattle.format.specs.Messages.{Outcome, says, object, next, run, reads}
use Rattle.format.specs.Runs.{object_at}

pub contents_fit : (s : List ℕ) (h n : ℕ) → length (contents s h n) ≤ length s
unfolding contents
contents_fit s h n = simp (length-take, length-drop) (omega arith)

pub rest_fits : (u : ℕ) (s : List ℕ) → length (drop u s) ≤ length s
rest_fits u s = simp length-drop (omega arith)

-- with enough steps, more of them change nothing
pub enough : (f g d : ℕ) (s : List ℕ) → length s ≤ f → length s ≤ g → run f d s ≡ run g d s
unfolding run
enough zero zero d s p q = refl
enough zero (suc g) d [] p q = refl
enough zero (suc g) d (b ∷ s) p q = absurd (omega arith)
enough (suc f) zero d [] p q = refl
enough (suc f) zero d (b ∷ s) p q = absurd (omega arith)
enough (suc f) (suc g) d [] p q = refl
enough (suc f) (suc g) d (b ∷ s) p q =
    ap (λ (w : ℕ → ℕ → Outcome). next (object w (head_of d b s)) (λ u. run f d (drop u s)))
    (fun_ext (λ h. fun_ext (λ n. enough f g (suc d) (contents s h n) (omega (arith, contents_fit s h n)) (omega (arith, contents_fit s h n)))))
    ∙ ap (next (object (λ h n. run g (suc d) (contents s h n)) (head_of d b s)))
    (fun_ext (λ u. enough f g d (drop u s) (omega (arith, rest_fits u s)) (omega (arith, rest_fits u s))))

pub reads_nil : (d : ℕ) → reads d [] ≡ says end
unfolding reads
reads_nil d = refl

pub reads_cons : (d b : ℕ) (s : List ℕ) → reads d (b ∷ s) ≡ next (object_at d b s) (λ u. reads d (drop u s))
unfolding reads run object_at
reads_cons d b s =
    ap (λ (w : ℕ → ℕ → Outcome). next (object w (head_of d b s)) (λ u. run (length s) d (drop u s)))
    (fun_ext (λ h. fun_ext (λ n. enough (length s) (length (contents s h n)) (suc d) (contents s h n) (contents_fit s h n) (le_refl (length (contents s h n))))))
    ∙ ap (next (object_at d b s))
    (fun_ext (λ u. enough (length s) (length (drop u s)) d (drop u s) (rest_fits u s) (le_refl (length (drop u s)))))
