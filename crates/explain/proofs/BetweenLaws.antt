-- The bytes between two offsets of the input: how many, the first, those behind it, the contents of an object; and what they say, an
-- object at a time. Assumes nothing.
use Prim.Native.Nat.{ℕ, suc, ◌+◌, ◌-◌, ◌≤◌, ◌<◌}
use native.Mathlib.Omega.{arith}
use native.Mathlib.Numerals.{add-one}
use mathlib.Core.Path.{◌≡◌, refl, sym, ap, ap₂, ◌∙◌, subst, fun_ext}
use mathlib.Core.List.{List, [], ◌∷◌}
use lib.ListN.{length, take, drop, get_or, length-take, length-drop}
use lib.Seq.{drop-cons, drop-drop, take-take, length-take-le}
use Rattle.format.specs.Refusals.{Fault}
use Rattle.format.specs.Items.{Items}
use Rattle.format.specs.Objects as O
use Rattle.format.specs.Messages.{bad, got, around, object, next, reads}
use Rattle.format.specs.Runs.{object_at}
use Rattle.format.proofs.Parts.{drop_take}
use Rattle.format.proofs.Steps.{reads_cons}
use Rattle.format.proofs.Bounds.{HeadWithin, head_within}
use Rattle.explain.specs.Reasons.{between, head_at, object_in}

pub between_none : (m : List ℕ) (i e : ℕ) → e ≤ i → between m i e ≡ []
unfolding between
between_none m i e h = let z : e - i ≡ 0 = omega arith in ap (λ n. take n (drop i m)) z

pub between_cons : (m : List ℕ) (i e : ℕ) → i < e → e ≤ length m → between m i e ≡ get_or m i 0 ∷ between m (i + 1) e
unfolding between
between_cons m i e h l =
    let a : e - i ≡ suc (e - (i + 1)) = omega arith in
    rw (a, drop-cons m i 0 (omega arith), add-one i) refl

pub between_drop : (m : List ℕ) (i e u : ℕ) → drop u (between m i e) ≡ between m (i + u) e
unfolding between
between_drop m i e u =
    let a : e - i - u ≡ e - (i + u) = omega arith in
    drop_take u (e - i) (drop i m) ∙ ap₂ take a (drop-drop u i m)

pub between_contents : (m : List ℕ) (i e h n : ℕ) → h + n ≤ e - i → O.contents (between m i e) h n ≡ between m (i + h) (i + h + n)
unfolding O.contents between
between_contents m i e h n l =
    let a : i + h + n - (i + h) ≡ n = omega arith in
    ap (take n) (between_drop m i e h) ∙ take-take n (e - (i + h)) (drop (i + h) m) (omega arith) ∙ ap (λ k. take k (drop (i + h) m)) (sym a)

pub between_length : (m : List ℕ) (i e : ℕ) → e ≤ length m → length (between m i e) ≡ e - i
unfolding between
between_length m i e l = length-take-le (e - i) (drop i m) (omega (arith, length-drop i m))

-- no more of them, wherever the input ends
pub between_fits : (m : List ℕ) (i e : ℕ) → length (between m i e) ≤ e - i
unfolding between
between_fits m i e = omega (arith, length-take (e - i) (drop i m))

-- what the head of an object says lies within its bytes
abbrev pub HeadFits : ℕ → ℕ → ℕ → O.Head → Type 0
HeadFits d i e (O.stop f) = Unit {0}
HeadFits d i e (O.gives xs u) = i + 1 + u ≤ e
HeadFits d i e (O.opens w h n) = (i + 1 + h + n ≤ e) × (d < 16)

pub head_fits : (m : List ℕ) (d i e : ℕ) → i < e → HeadFits d i e (head_at m d i e)
unfolding head_at
head_fits m d i e l = go (O.head_of d (get_or m i 0) (between m (i + 1) e)) (head_within d (get_or m i 0) (between m (i + 1) e))
  where
    go : (x : O.Head) → HeadWithin d (length (between m (i + 1) e)) x → HeadFits d i e x
    go (O.stop f) w = tt
    go (O.gives xs u) w = omega (arith, between_fits m (i + 1) e)
    go (O.opens v h n) w = (omega (arith, w.0, between_fits m (i + 1) e), w.1)

-- ---- what they say: the object at i, and then what is said past it
pub run_at : (m : List ℕ) (d i e : ℕ) → i < e → e ≤ length m
    → reads d (between m i e) ≡ next (object_in m d i e) (λ u. reads d (between m (i + 1 + u) e))
unfolding object_in
run_at m d i e h l =
    ap (reads d) (between_cons m i e h l) ∙ reads_cons d (get_or m i 0) (between m (i + 1) e)
    ∙ ap (next (object_in m d i e)) (fun_ext (λ u. ap (reads d) (between_drop m (i + 1) e u)))

-- an object by its head
module _ (m : List ℕ) (d i e : ℕ) where
  pub object_stops : (f : Fault) → head_at m d i e ≡ O.stop f → object_in m d i e ≡ bad f
  unfolding object_in head_at object_at object
  object_stops f q = ap (object (λ h n. reads (suc d) (O.contents (between m (i + 1) e) h n))) q

  pub object_gives : (xs : Items) (u : ℕ) → head_at m d i e ≡ O.gives xs u → object_in m d i e ≡ got xs u
  unfolding object_in head_at object_at object
  object_gives xs u q = ap (object (λ h n. reads (suc d) (O.contents (between m (i + 1) e) h n))) q

  pub object_opens : (w : O.Wrap) (h n : ℕ) → i < e → head_at m d i e ≡ O.opens w h n
      → object_in m d i e ≡ around w h n (reads (suc d) (between m (i + 1 + h) (i + 1 + h + n)))
  unfolding object_in head_at object_at object
  object_opens w h n l q =
      let fits : HeadFits d i e (O.opens w h n) = subst (HeadFits d i e) q (head_fits m d i e l) in
      ap (object (λ h n. reads (suc d) (O.contents (between m (i + 1) e) h n))) q
      ∙ ap (λ c. around w h n (reads (suc d) c)) (between_contents m (i + 1) e h n (omega (arith, fits.0)))
