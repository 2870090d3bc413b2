-- "It is proved that the fact named holds of the input and is the one for which reading refused": of every refused message, the containers
-- told stand open around the fault, the evidence is a fact of the object that reading came to, and number and place are reading's.
-- Assumes nothing.
use Prim.Native.Nat.{ℕ, zero, suc, ◌+◌, ◌-◌, ◌≤◌, ◌<◌}
use native.Mathlib.Omega.{arith}
use native.Mathlib.Nat.{le_refl}
use mathlib.Core.Path.{◌≡◌, refl, sym, ap, ◌∙◌, subst}
use mathlib.Core.List.{List, [], ◌∷◌, ◌++◌, append-nil}
use lib.ListN.{length}
use lib.Seq.{take_all}
use Rattle.format.specs.Refusals.{Fault, further, depth_limit}
use Rattle.format.specs.Items.{Items}
use Rattle.format.specs.Objects as O
use Rattle.format.specs.Messages.{refused, says, bad, closing, around, reads, outcome}
use Rattle.explain.specs.Reasons.{between, head_at, elements_in, evidence_by, evidence_at, closed_wrong, Why, own_place, fault_at, why_from, why}
use Rattle.explain.specs.Facts as F
use Rattle.explain.specs.Facts.{Reached, Because, Elements, Fact}
use Rattle.explain.proofs.BetweenLaws.{HeadFits, head_fits, object_stops, object_opens}
use Rattle.explain.proofs.ElementKinds.{elements_are}
use Rattle.explain.proofs.WhySteps.{one_more, Faulty, fault_inside, past_step, Turn, own, own_elements, past, into, turn}
use Rattle.explain.proofs.Stopped.{head_fact, head_opens}
use Rattle.explain.proofs.ClosedLaws.{closed_fact}

-- ---- containers stand within sixteen
pub reached_few : (m ps : List ℕ) (i e : ℕ) → Reached m ps i e → length ps ≤ depth_limit
reached_few m ps i e F.start = omega arith
reached_few m ps i e (F.past qs j z xs u r l q) = reached_few m qs j z r
reached_few m ps i e (F.into qs j z w h n r l q) =
    omega (arith, one_more qs j, (subst (HeadFits (length qs) j z) q (head_fits m (length qs) j z l)).1)

-- ---- what is told of a fault g of the run that starts at i
abbrev Told : List ℕ → ℕ → Fault → Why → Type 0
Told m i g y = Because m g.number (i + g.place) y.around y.evidence

told_further : (m : List ℕ) (i j n : ℕ) (f g : Fault) (y : Why) → j ≡ i + n → g ≡ further n f → Told m j f y → Told m i g y
unfolding further
told_further m i j n f g y p q t =
    let a : j + f.place ≡ i + (n + f.place) = omega arith in
    subst (λ x. Told m i x y) (sym q) (subst (λ x. Because m f.number x y.around y.evidence) a t)

-- ---- the object's own fault
module _ (m ps : List ℕ) (i e : ℕ) (at : Reached m ps i e) (there : i < e) (to : e ≤ length m) where
  abbrev d : ℕ
  d = length ps

  few : length ps ≤ depth_limit
  few = reached_few m ps i e at

  -- its own fault
  own_stop : (g : Fault) → head_at m d i e ≡ O.stop g → Told m i g (fault_at m ps i e)
  unfolding fault_at evidence_at evidence_by
  own_stop g q =
      F.because ps i e g at there (object_stops m d i e g q) refl refl
      (subst (λ x. Fact m ps i e g.number (i + g.place) (ps ++ own_place m i x) (evidence_by m d i e x)) (sym q) (head_fact m ps i e there to few g q))

  own_closed : (w : O.Wrap) (h n : ℕ) (xs : Items) (g : Fault) → head_at m d i e ≡ O.opens w h n → reads (suc d) (between m (i + 1 + h) (i + 1 + h + n)) ≡ says xs
      → closing w (h + n) xs ≡ bad g → Told m i g (fault_at m ps i e)
  unfolding fault_at evidence_at evidence_by own_place around
  own_closed w h n xs g q s r =
      let fits : HeadFits d i e (O.opens w h n) = subst (HeadFits d i e) q (head_fits m d i e there) in
      let are = elements_are m (suc d) (i + 1 + h) (i + 1 + h + n) xs s (omega (arith, fits.0)) in
      let es = elements_in m (suc d) (i + 1 + h) (i + 1 + h + n) in
      let of : Elements m (suc d) (i + 1 + h) (i + 1 + h + n) xs es = record { said = s; are = refl; agree = are.0; there = are.1 } in
      let x = closed_fact m ps i e there to h n xs es of w (h + n) g (head_opens m ps i e there to few w h n q) r in
      let p : i ≡ i + g.place = omega (arith, x.0) in
      F.because ps i e g at there (object_opens m d i e w h n there q ∙ ap (around w h n) s ∙ r) refl refl
      (subst (λ y. Fact m ps i e g.number (i + g.place) (ps ++ own_place m i y) (evidence_by m d i e y)) (sym q)
      (subst (λ o. Fact m ps i e g.number (i + g.place) (ps ++ []) (closed_wrong w es o)) (sym s)
      (subst (λ l. Fact m ps i e g.number (i + g.place) l (closed_wrong w es (says xs))) (sym (append-nil ps))
      (subst (λ j. Fact m ps i e g.number j ps (closed_wrong w es (says xs))) p x.1))))

-- ---- a run that is refused, by its first object; `later` is what is told of a run that is shorter
module _ (f : ℕ) (m : List ℕ) (later : (ps : List ℕ) (i e : ℕ) → Reached m ps i e → e - i ≤ f → (g : Fault) → Faulty m (length ps) i e g → Told m i g (why_from f m ps i e))
    (ps : List ℕ) (i e : ℕ) (r : Reached m ps i e) (l : e - i ≤ suc f) (g : Fault) (x : Faulty m (length ps) i e g) where
  there : i < e
  there = omega (arith, fault_inside x)

  by : (y : Why) → why_from (suc f) m ps i e ≡ y → Told m i g y → Told m i g (why_from (suc f) m ps i e)
  by y w t = subst (Told m i g) (sym w) t

  by_turn : (h : O.Head) → head_at m (length ps) i e ≡ h → Turn m ps i e g h → Told m i g (why_from (suc f) m ps i e)
  by_turn _ q (own g₁ k w) = by (fault_at m ps i e) (w f) (subst (λ z. Told m i z (fault_at m ps i e)) k (own_stop m ps i e r there x.within g₁ q))
  by_turn _ q (own_elements v a n xs s c w) = by (fault_at m ps i e) (w f) (own_closed m ps i e r there x.within v a n xs g q s c)
  by_turn h q (past _ ys u g₁ o ends k y) =
      by (why_from f m ps (i + 1 + u) e) (past_step f m ps i e ys u o)
      (told_further m i (i + 1 + u) (1 + u) g₁ g _ (omega arith) k (later ps (i + 1 + u) e (F.past ps i e ys u r there o) (omega arith) g₁ y))
  by_turn _ q (into v a n g₁ k y w) =
      let fits : HeadFits (length ps) i e (O.opens v a n) = subst (HeadFits (length ps) i e) q (head_fits m (length ps) i e there) in
      by (why_from f m (ps ++ (i ∷ [])) (i + 1 + a) (i + 1 + a + n)) (w f)
      (told_further m i (i + 1 + a) (1 + a) g₁ g _ (omega arith) k
      (later (ps ++ (i ∷ [])) (i + 1 + a) (i + 1 + a + n) (F.into ps i e v a n r there q) (omega (arith, fits.0)) g₁
      (subst (λ d. Faulty m d (i + 1 + a) (i + 1 + a + n) g₁) (sym (one_more ps i)) y)))

-- however many bytes it has
told_from : (f : ℕ) (m ps : List ℕ) (i e : ℕ) → Reached m ps i e → e - i ≤ f → (g : Fault) → Faulty m (length ps) i e g → Told m i g (why_from f m ps i e)
told_from zero m ps i e r l g x = absurd (omega (arith, fault_inside x))
told_from (suc f) m ps i e r l g x =
    by_turn f m (λ qs j z. told_from f m qs j z) ps i e r l g x (head_at m (length ps) i e) refl (turn m ps i e g x (head_at m (length ps) i e) refl)

pub told_why : (m : List ℕ) (f : Fault) → outcome m ≡ refused f → Because m f.number f.place (why m).around (why m).evidence
unfolding outcome why between
told_why m f q =
    let k : 0 + f.place ≡ f.place = omega arith in
    subst (λ p. Because m f.number p (why m).around (why m).evidence) k
    (told_from (length m) m [] 0 (length m) F.start (omega arith) f (record { said = ap (reads 0) (take_all (length m - 0) m (omega arith)) ∙ q; within = le_refl (length m) }))
