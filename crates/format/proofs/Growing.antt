-- Bytes more behind an object or a run: what was read before them stays, and an object that wanted bytes wants so many fewer.
-- Assumes nothing.
use Prim.Native.Nat.{ℕ, zero, suc, ◌+◌, ◌-◌, ◌≤◌, ◌<◌, min}
use native.Mathlib.Omega.{arith}
use native.Mathlib.Nat.{le_refl}
use mathlib.Core.Path.{◌≡◌, refl, sym, ap, ◌∙◌, subst}
use mathlib.Core.Logic.{◌≢◌, ◌⊎◌, inl, inr}
use mathlib.Core.List.{List, [], ◌∷◌, ◌++◌}
use lib.ListN.{length, drop, length-drop}
use lib.Seq.{drop-append-le}
use Rattle.format.specs.Refusals.{Fault, wants, further, byte_limit}
use Rattle.format.specs.Items.{Items, join, uniform, edt_rule}
use Rattle.format.specs.Objects as O
use Rattle.format.specs.Messages.{Outcome, refused, says, Object, bad, got, closing, around, object, onto, next, reads, outcome}
use Rattle.format.specs.Runs.{object_at}
use Rattle.format.proofs.Choices.{by_pick}
use Rattle.format.proofs.Steps.{reads_nil, reads_cons}
use Rattle.format.proofs.Runs.{further_further, onto_none, onto_onto}
use Rattle.format.proofs.Bounds.{HeadWithin, head_within, ObjectWithin, at_within}
use Rattle.format.proofs.Faults.{inner_number}
use Rattle.format.proofs.GrownHeads.{contents_grown, HeadGrown, head_grown}

-- ---- a refusal f with n bytes more behind: it stays, and is not 2; or it was for the want of bytes up to the end, by the number
-- `why`, and wants n fewer. `Is` says what is met then.
abbrev pub Grown : ℕ → ℕ → Fault → (Fault → Type 0) → Type 0
Grown why n f Is = ((2 < f.number) × Is f) ⊎ ((p : ℕ) × (k : ℕ) × (f ≡ further p (wants why k)) × (n < k → Is (further p (wants why (k - n)))))

grown_by : (why n : ℕ) (f : Fault) (P Q : Fault → Type 0) → ((g : Fault) → P g → Q g) → Grown why n f P → Grown why n f Q
grown_by why n f P Q h (inl x) = inl (x.0, h f x.1)
grown_by why n f P Q h (inr x) = inr (x.0, x.1, x.2, λ l. h (further x.0 (wants why (x.1 - n))) (x.3 l))

-- ---- an object: the same, unless it wants bytes
abbrev ObjectGrown : ℕ → ℕ → Object → Object → Type 0
ObjectGrown d l (bad f) z = Grown (O.past_end d) l f (λ g. z ≡ bad g)
ObjectGrown d l (got xs u) z = z ≡ got xs u

-- a container closes as it did: what was refused inside it, or of its elements, is not 2
closing_same : (d l : ℕ) (w : O.Wrap) (u : ℕ) (xs : Items) (z : Object) → z ≡ closing w u xs → ObjectGrown d l (closing w u xs) z
unfolding closing
closing_same d l O.as_struc u xs z = λ e. e
closing_same d l O.as_ustruc u xs z =
    by_pick (λ x. z ≡ x → ObjectGrown d l x z) (uniform xs) (λ p e. e) (λ p e. inl (omega arith, e))
closing_same d l O.as_edt u xs z =
    by_pick (λ x. z ≡ x → ObjectGrown d l x z) (edt_rule xs) (λ p e. e) (λ p e. inl (omega arith, e))
closing_same d l (O.repeated k) u xs z = λ e. e

around_same : (d l : ℕ) (w : O.Wrap) (h n : ℕ) (o : Outcome) (z : Object) → ((f : Fault) → o ≡ refused f → 2 < f.number) → z ≡ around w h n o
    → ObjectGrown d l (around w h n o) z
unfolding around further
around_same d l w h n (refused f) z g e = inl (g f refl, e)
around_same d l w h n (says xs) z g e = closing_same d l w (h + n) xs z e

-- what the contents say of an object in d containers, s being the bytes behind its type-byte
abbrev pub inside : ℕ → List ℕ → ℕ → ℕ → Outcome
inside d s h n = reads (suc d) (O.contents s h n)

object_grown : (d b : ℕ) (s t : List ℕ) → ObjectGrown d (length t) (object_at d b s) (object_at d b (s ++ t))
unfolding object_at object further
object_grown d b s t = go (O.head_of d b s) (O.head_of d b (s ++ t)) (head_grown d b s t) (head_within d b s)
  where
    go : (x z : O.Head) → HeadGrown d (length t) x z → HeadWithin d (length s) x → ObjectGrown d (length t) (object (inside d s) x) (object (inside d (s ++ t)) z)
    go (O.stop f) z (inl k) w = inl (k.0, ap (object (inside d (s ++ t))) k.1)
    go (O.stop f) z (inr k) w = inr (0, k.lack, k.told, λ l. ap (object (inside d (s ++ t))) (k.still l))
    go (O.gives xs u) z k w = ap (object (inside d (s ++ t))) k
    go (O.opens v h n) z k w =
        around_same d (length t) v h n (inside d s h n) (object (inside d (s ++ t)) z) (λ f e. inner_number d (O.contents s h n) f e)
        (ap (object (inside d (s ++ t))) k ∙ ap (λ l. around v h n (reads (suc d) l)) (contents_grown s t h n w.0))

-- ---- a run: its items, and then what the bytes more come to; or its refusal, unless it wants bytes
module _ (d : ℕ) (t : List ℕ) where
  abbrev RunGrown : List ℕ → Outcome → Type 0
  RunGrown s (refused f) = Grown (O.past_end d) (length t) f (λ g. reads d (s ++ t) ≡ refused g)
  RunGrown s (says xs) = reads d (s ++ t) ≡ onto xs (length s) (reads d t)

  onto_grown : (b u : ℕ) (s : List ℕ) (ys : Items) (z : Outcome) → u ≤ length s → reads d (b ∷ (s ++ t)) ≡ onto ys (1 + u) (reads d (drop u s ++ t))
      → RunGrown (drop u s) z → RunGrown (b ∷ s) (onto ys (1 + u) z)
  unfolding onto
  onto_grown b u s ys (refused f) l e (inl x) = inl (x.0, e ∙ ap (onto ys (1 + u)) x.1)
  onto_grown b u s ys (refused f) l e (inr x) =
      let out = further_further (1 + u) x.0 in
      inr (1 + u + x.0, x.1, ap (further (1 + u)) x.2 ∙ out _, λ m. e ∙ ap (onto ys (1 + u)) (x.3 m) ∙ ap refused (out _))
  onto_grown b u s ys (says zs) l e g =
      e ∙ ap (onto ys (1 + u)) g ∙ onto_onto ys zs (1 + u) (length (drop u s)) (reads d t)
      ∙ ap (λ n. onto (join ys zs) n (reads d t)) (let k : 1 + u + length (drop u s) ≡ suc (length s) = omega (arith, length-drop u s) in k)

  next_grown : (b : ℕ) (s : List ℕ) (x : Object) → ObjectGrown d (length t) x (object_at d b (s ++ t)) → ObjectWithin d (length s) x
      → ((u : ℕ) → RunGrown (drop u s) (reads d (drop u s))) → RunGrown (b ∷ s) (next x (λ u. reads d (drop u s)))
  unfolding next
  next_grown b s (bad f) k w r =
      grown_by (O.past_end d) (length t) f (λ g. object_at d b (s ++ t) ≡ bad g) (λ g. reads d (b ∷ (s ++ t)) ≡ refused g)
      (λ g e. reads_cons d b (s ++ t) ∙ ap (λ o. next o (λ v. reads d (drop v (s ++ t)))) e) k
  next_grown b s (got ys u) k w r =
      onto_grown b u s ys (reads d (drop u s)) w
      (reads_cons d b (s ++ t) ∙ ap (λ o. next o (λ v. reads d (drop v (s ++ t)))) k ∙ ap (λ l. onto ys (1 + u) (reads d l)) (drop-append-le u s t w)) (r u)

  run_grown : (f : ℕ) (s : List ℕ) → length s ≤ f → RunGrown s (reads d s)
  run_grown zero [] l = subst (RunGrown []) (sym (reads_nil d)) (onto_none (reads d t))
  run_grown zero (b ∷ s) l = absurd (omega arith)
  run_grown (suc f) [] l = subst (RunGrown []) (sym (reads_nil d)) (onto_none (reads d t))
  run_grown (suc f) (b ∷ s) l =
      subst (RunGrown (b ∷ s)) (sym (reads_cons d b s))
      (next_grown b s (object_at d b s) (object_grown d b s t) (at_within d b s) (λ u. run_grown f (drop u s) (omega (arith, length-drop u s))))

  reads_grown : (s : List ℕ) → RunGrown s (reads d s)
  reads_grown s = run_grown (length s) s (le_refl (length s))

  -- behind a run that says something: its items, and then what the bytes more say
  pub reads_more : (s : List ℕ) (xs : Items) → reads d s ≡ says xs → reads d (s ++ t) ≡ onto xs (length s) (reads d t)
  reads_more s xs q = subst (RunGrown s) q (reads_grown s)

-- ---- a message, with the bytes e behind it
-- its items, and then what those say
pub says_more : (m e : List ℕ) (xs : Items) → outcome m ≡ says xs → outcome (m ++ e) ≡ onto xs (length m) (outcome e)
unfolding outcome
says_more m e xs q = reads_more 0 e m xs q

-- so two messages end to end say the first's items and then the second's
pub says_joined : (a b : List ℕ) (xs ys : Items) → outcome a ≡ says xs → outcome b ≡ says ys → outcome (a ++ b) ≡ says (join xs ys)
unfolding onto
says_joined a b xs ys p q = says_more a b xs p ∙ ap (onto xs (length a)) q

-- or are refused as the second is, so many bytes further on
pub refused_joined : (a b : List ℕ) (xs : Items) (f : Fault) → outcome a ≡ says xs → outcome b ≡ refused f → outcome (a ++ b) ≡ refused (further (length a) f)
unfolding onto
refused_joined a b xs f p q = says_more a b xs p ∙ ap (onto xs (length a)) q

-- a refusal that is not 2 stays
pub refused_more : (m e : List ℕ) (f : Fault) → outcome m ≡ refused f → f.number ≢ 2 → outcome (m ++ e) ≡ refused f
unfolding outcome O.past_end
refused_more m e f q n = go (subst (RunGrown 0 e m) q (reads_grown 0 e m))
  where
    go : Grown 2 (length e) f (λ g. reads 0 (m ++ e) ≡ refused g) → reads 0 (m ++ e) ≡ refused f
    go (inl x) = x.1
    go (inr x) = absurd (n (ap (λ (g : Fault). g.number) x.2))

-- what is told of a message that wants bytes, f, and of it with n bytes more, g
pub record Waits (n : ℕ) (f g : Fault) : Type 0 where
  pub still : g.number ≡ 2
  pub there : g.place ≡ f.place
  pub least : f.missing ≤ g.missing + n
  pub fewer : f.missing < byte_limit → f.missing ≡ g.missing + n

-- with 2, and fewer bytes more than it tells, it is 2 at the same place again, and tells so many fewer
pub waits : (m e : List ℕ) (f : Fault) → outcome m ≡ refused f → f.number ≡ 2 → length e < f.missing
    → (g : Fault) × (outcome (m ++ e) ≡ refused g) × Waits (length e) f g
unfolding outcome O.past_end further
waits m e f q n l = go (subst (RunGrown 0 e m) q (reads_grown 0 e m))
  where
    told : (p k : ℕ) → f ≡ further p (wants 2 k) → (length e < k) × Waits (length e) f (further p (wants 2 (k - length e)))
    told p k x =
        let a : f.missing ≡ min k byte_limit = ap (λ (g : Fault). g.missing) x in
        (omega arith, record { still = refl; there = ap (λ (g : Fault). g.place) (sym x); least = omega arith; fewer = λ h. omega arith })

    go : Grown 2 (length e) f (λ g. reads 0 (m ++ e) ≡ refused g) → (g : Fault) × (reads 0 (m ++ e) ≡ refused g) × Waits (length e) f g
    go (inl x) = absurd (omega (arith, x.0))
    go (inr x) = let y = told x.0 x.1 x.2 in (further x.0 (wants 2 (x.1 - length e)), x.3 y.0, y.1)
