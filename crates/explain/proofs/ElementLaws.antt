-- The elements of a run by two equations, at its end and one object on, with no count of steps in them. Assumes nothing.
use Prim.Native.Nat.{ℕ, zero, suc, ◌+◌, ◌-◌, ◌≤◌, ◌<◌}
use native.Mathlib.Omega.{arith}
use native.Mathlib.Nat.{le_refl}
use mathlib.Core.Path.{◌≡◌, refl, sym, ap, ap₂, ◌∙◌}
use mathlib.Core.List.{List, [], ◌++◌}
use Rattle.format.specs.Items.{kinds}
use Rattle.format.specs.Objects as O
use Rattle.format.proofs.Choices.{if_lt_yes, if_lt_no, split}
use Rattle.explain.specs.Reasons.{head_at, Stands, standing, opened, elements_by, elements_from, elements_in}
use Rattle.explain.proofs.BetweenLaws.{HeadFits, head_fits}

-- what stands past the object at i, and inside it, makes its elements
by_same_lem : (d i e : ℕ) (in₁ in₂ : ℕ → ℕ → List Stands) (rest₁ rest₂ : ℕ → List Stands) (x : O.Head) → HeadFits d i e x
    → ((a z : ℕ) → i < a → z ≤ e → in₁ a z ≡ in₂ a z) → ((j : ℕ) → i < j → rest₁ j ≡ rest₂ j)
    → elements_by i in₁ rest₁ x ≡ elements_by i in₂ rest₂ x
unfolding elements_by
by_same_lem d i e in₁ in₂ rest₁ rest₂ (O.stop f) w p q = refl
by_same_lem d i e in₁ in₂ rest₁ rest₂ (O.gives xs u) w p q = ap (λ l. standing i (kinds xs) ++ l) (q (i + 1 + u) (omega arith))
by_same_lem d i e in₁ in₂ rest₁ rest₂ (O.opens v h n) w p q =
    ap₂ (λ l r. opened i v l ++ r) (p (i + 1 + h) (i + 1 + h + n) (omega arith) w.0) (q (i + 1 + h + n) (omega arith))

from_end : (f : ℕ) (m : List ℕ) (d i e : ℕ) → e ≤ i → elements_from f m d i e ≡ []
unfolding elements_from
from_end zero m d i e h = refl
from_end (suc f) m d i e h = if_lt_no i e _ _ h

-- with enough steps, more of them change nothing
enough : (f g : ℕ) (m : List ℕ) (d i e : ℕ) → e - i ≤ f → e - i ≤ g → elements_from f m d i e ≡ elements_from g m d i e
unfolding elements_from
enough zero g m d i e p q = from_end zero m d i e (omega arith) ∙ sym (from_end g m d i e (omega arith))
enough (suc f) zero m d i e p q = from_end (suc f) m d i e (omega arith) ∙ sym (from_end zero m d i e (omega arith))
enough (suc f) (suc g) m d i e p q =
    split i e
    (λ h.
    if_lt_yes i e _ _ h
    ∙ by_same_lem d i e (λ a z. elements_from f m (suc d) a z) (λ a z. elements_from g m (suc d) a z) (λ j. elements_from f m d j e) (λ j. elements_from g m d j e)
    (head_at m d i e) (head_fits m d i e h)
    (λ a z k l. enough f g m (suc d) a z (omega arith) (omega arith)) (λ j k. enough f g m d j e (omega arith) (omega arith))
    ∙ sym (if_lt_yes i e _ _ h))
    (λ h. from_end (suc f) m d i e h ∙ sym (from_end (suc g) m d i e h))

pub elements_end : (m : List ℕ) (d i e : ℕ) → e ≤ i → elements_in m d i e ≡ []
unfolding elements_in
elements_end m d i e h = from_end (e - i) m d i e h

pub elements_step : (m : List ℕ) (d i e : ℕ) → i < e
    → elements_in m d i e ≡ elements_by i (λ a z. elements_in m (suc d) a z) (λ j. elements_in m d j e) (head_at m d i e)
unfolding elements_in elements_from
elements_step m d i e h =
    let f : ℕ = e - (i + 1) in
    let k : e - i ≡ suc f = omega arith in
    ap (λ n. elements_from n m d i e) k
    ∙ if_lt_yes i e _ _ h
    ∙ by_same_lem d i e (λ a z. elements_from f m (suc d) a z) (λ a z. elements_in m (suc d) a z) (λ j. elements_from f m d j e) (λ j. elements_in m d j e)
    (head_at m d i e) (head_fits m d i e h)
    (λ a z k l. enough f (z - a) m (suc d) a z (omega arith) (le_refl (z - a))) (λ j k. enough f (e - j) m d j e (omega arith) (le_refl (e - j)))
