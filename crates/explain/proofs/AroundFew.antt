-- No more than sixteen containers are told, whatever is refused. Assumes nothing.
use Prim.Native.Nat.{ℕ, zero, suc, ◌+◌, ◌≤◌, ◌<◌}
use native.Mathlib.Omega.{arith}
use mathlib.Core.Path.{◌≡◌, sym, subst}
use mathlib.Core.List.{List, [], ◌∷◌, ◌++◌}
use lib.ListN.{length, get_or, length-append}
use Rattle.format.specs.Refusals.{depth_limit}
use Rattle.format.specs.Classes.{class_of}
use Rattle.format.specs.Objects as O
use Rattle.format.specs.Messages.{Outcome, refused, says, Object, bad, got, reads}
use Rattle.format.proofs.Choices.{by_lt, by_eq}
use Rattle.format.proofs.Bounds.{HeadWithin, head_within}
use Rattle.explain.specs.Reasons.{between, head_at, object_in, Why, own_place, fault_at, in_contents, inside_or, past_or, why_from, why}
use Rattle.explain.proofs.WhySteps.{one_more}

-- a REPEAT whose count is at fault stands within sixteen
abbrev pub Shallow : ℕ → O.Head → Type 0
Shallow d (O.stop g) = 0 < g.place → d < depth_limit
Shallow d (O.gives xs u) = Unit {0}
Shallow d (O.opens w h n) = Unit {0}

within : (d : ℕ) → d < depth_limit → (x : O.Head) → Shallow d x
within d l (O.stop g) = λ p. l
within d l (O.gives xs u) = tt
within d l (O.opens w h n) = tt

container_shallow : (d : ℕ) (x : O.Head) → Shallow d (O.container d x)
unfolding O.container
container_shallow d x = by_lt (Shallow d) d depth_limit (λ l. within d l x) (λ l p. absurd (omega arith))

repeat_shallow : (d : ℕ) (s : List ℕ) → Shallow d (O.repeat_head d s)
unfolding O.repeat_head
repeat_shallow zero s = λ p. absurd (omega arith)
repeat_shallow (suc d) s = container_shallow (suc d) _

pub at_shallow : (m : List ℕ) (d i e : ℕ) → get_or m i 0 ≡ 0xc4 → Shallow d (head_at m d i e)
unfolding head_at O.head_of O.head_by class_of
at_shallow m d i e q = subst (λ b. Shallow d (O.head_of d b (between m (i + 1) e))) (sym q) (repeat_shallow d (between m (i + 1) e))

module _ (m ps : List ℕ) (i e : ℕ) (few : length ps ≤ depth_limit) where
  own_few : (x : O.Head) → (get_or m i 0 ≡ 0xc4 → Shallow (length ps) x) → length (ps ++ own_place m i x) ≤ depth_limit
  unfolding own_place
  own_few (O.stop g) s =
      by_lt Few 0 g.place
      (λ l. by_eq Few (get_or m i 0) 0xc4 (λ q. omega (arith, one_more ps i, s q l)) (λ q. omega (arith, length-append ps [])))
      (λ l. omega (arith, length-append ps []))
    where
      Few : List ℕ → Type 0
      Few l = length (ps ++ l) ≤ depth_limit
  own_few (O.gives xs u) s = omega (arith, length-append ps [])
  own_few (O.opens w h n) s = omega (arith, length-append ps [])

  fault_few : length (fault_at m ps i e).around ≤ depth_limit
  unfolding fault_at
  fault_few = own_few (head_at m (length ps) i e) (at_shallow m (length ps) i e)

  contents_few : (inner : Why) → length inner.around ≤ depth_limit → (o : Outcome) → length (in_contents inner (fault_at m ps i e) o).around ≤ depth_limit
  unfolding in_contents
  contents_few inner l (refused f) = l
  contents_few inner l (says xs) = fault_few

  inside_few : (inside : ℕ → ℕ → Why) → (length ps < depth_limit → (a z : ℕ) → length (inside a z).around ≤ depth_limit) → (x : O.Head)
      → HeadWithin (length ps) (length (between m (i + 1) e)) x → length (inside_or m (length ps) i inside (fault_at m ps i e) x).around ≤ depth_limit
  unfolding inside_or
  inside_few inside l (O.stop g) w = fault_few
  inside_few inside l (O.gives xs u) w = fault_few
  inside_few inside l (O.opens v h n) w =
      contents_few (inside (i + 1 + h) (i + 1 + h + n)) (l w.1 (i + 1 + h) (i + 1 + h + n)) (reads (suc (length ps)) (between m (i + 1 + h) (i + 1 + h + n)))

  past_few : (past : ℕ → Why) → ((u : ℕ) → length (past u).around ≤ depth_limit) → (here : Why) → length here.around ≤ depth_limit
      → (x : Object) → length (past_or past here x).around ≤ depth_limit
  unfolding past_or
  past_few past l here k (got xs u) = l u
  past_few past l here k (bad f) = k

from_few : (f : ℕ) (m ps : List ℕ) (i e : ℕ) → length ps ≤ depth_limit → length (why_from f m ps i e).around ≤ depth_limit
unfolding why_from head_at
from_few zero m ps i e l = l
from_few (suc f) m ps i e l =
    past_few m ps i e l (λ u. why_from f m ps (i + 1 + u) e) (λ u. from_few f m ps (i + 1 + u) e l) _
    (inside_few m ps i e l (λ a z. why_from f m (ps ++ (i ∷ [])) a z) (λ k a z. from_few f m (ps ++ (i ∷ [])) a z (omega (arith, one_more ps i)))
    (head_at m (length ps) i e) (head_within (length ps) (get_or m i 0) (between m (i + 1) e)))
    (object_in m (length ps) i e)

pub why_few : (m : List ℕ) → length (why m).around ≤ depth_limit
unfolding why
why_few m = from_few (length m) m [] 0 (length m) (omega arith)
