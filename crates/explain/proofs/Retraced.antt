-- What reading comes to, from any object that it reaches: a refusal there is the message's, and the explanation goes on there; where a run
-- has no fault, the message's fault is not in it. Assumes nothing.
use Prim.Native.Nat.{ℕ, zero, suc, ◌+◌, ◌-◌, ◌≤◌, ◌<◌}
use native.Mathlib.Omega.{arith}
use native.Mathlib.Nat.{le_refl}
use mathlib.Core.Path.{◌≡◌, refl, sym, ap, ◌∙◌, subst}
use mathlib.Core.Logic.{◌⊎◌, inl, inr, ⊎_elim}
use mathlib.Core.List.{List, [], ◌∷◌, ◌++◌}
use lib.ListN.{length}
use lib.Seq.{take_all}
use Rattle.format.specs.Refusals.{Fault, further}
use Rattle.format.specs.Items.{Items}
use Rattle.format.specs.Objects as O
use Rattle.format.specs.Messages.{Outcome, refused, says, Object, bad, got, closing, around, onto, reads, outcome}
use Rattle.format.proofs.Runs.{further_further}
use Rattle.explain.specs.Reasons.{between, head_at, object_in, why_from, why}
use Rattle.explain.specs.Facts as F
use Rattle.explain.specs.Facts.{Reached}
use Rattle.explain.proofs.BetweenLaws.{HeadFits, head_fits, object_opens}
use Rattle.explain.proofs.WhySteps.{one_more, bad_run, got_run, Closing, closes, past_step, into_step}

pub reached_within : (m ps : List ℕ) (i e : ℕ) → Reached m ps i e → e ≤ length m
reached_within m ps i e F.start = le_refl (length m)
reached_within m ps i e (F.past qs j z xs u r l q) = reached_within m qs j z r
reached_within m ps i e (F.into qs j z w h n r l q) =
    omega (arith, reached_within m qs j z r, (subst (HeadFits (length qs) j z) q (head_fits m (length qs) j z l)).0)

-- ---- a refusal of a run that is reached
pub record Retraced (m ps : List ℕ) (i e : ℕ) (g : Fault) : Type 0 where
  pub steps : ℕ
  pub enough : e - i ≤ steps
  pub explains : why m ≡ why_from steps m ps i e
  pub is : outcome m ≡ refused (further i g)

none_further : (g : Fault) → g ≡ further 0 g
unfolding further
none_further g = ap (λ p. record { number = g.number; place = p; missing = g.missing }) (omega arith)

start_is : (m : List ℕ) → between m 0 (length m) ≡ m
unfolding between
start_is m = take_all (length m - 0) m (omega arith)

-- one step back
back : (m ps qs : List ℕ) (i j e z n : ℕ) (g : Fault) (r : Retraced m ps i e (further n g)) → i < e → j ≡ i + n → z - j < e - i
    → ((f : ℕ) → why_from (suc f) m ps i e ≡ why_from f m qs j z) → Retraced m qs j z g
back m ps qs i j e z n g r l k s w = go r.steps r.enough r.explains
  where
    go : (f : ℕ) → e - i ≤ f → why m ≡ why_from f m ps i e → Retraced m qs j z g
    go zero a b = absurd (omega arith)
    go (suc f) a b = record {
      steps = f;
      enough = omega arith;
      explains = b ∙ w f;
      is = r.is ∙ ap refused (further_further i n g ∙ ap (λ y. further y g) (sym k));
    }

-- contents inside one container more
inner : (m ps : List ℕ) (i a z : ℕ) (o : Outcome) → reads (length (ps ++ (i ∷ []))) (between m a z) ≡ o → reads (suc (length ps)) (between m a z) ≡ o
inner m ps i a z o q = ap (λ d. reads d (between m a z)) (sym (one_more ps i)) ∙ q

pub retraced : (m ps : List ℕ) (i e : ℕ) (g : Fault) → Reached m ps i e → reads (length ps) (between m i e) ≡ refused g → Retraced m ps i e g
unfolding outcome why onto around
retraced m ps i e g F.start q = record {
  steps = length m;
  enough = omega arith;
  explains = refl;
  is = ap (reads 0) (sym (start_is m)) ∙ q ∙ ap refused (none_further g);
}
retraced m ps i e g (F.past qs j z xs u r l p) q =
    let up : reads (length qs) (between m j z) ≡ refused (further (1 + u) g) =
    got_run m (length qs) j z l (reached_within m qs j z r) xs u p ∙ ap (onto xs (1 + u)) q in
    back m qs qs j (j + 1 + u) z z (1 + u) g (retraced m qs j z (further (1 + u) g) r up) l (omega arith) (omega arith)
    (λ f. past_step f m qs j z xs u p)
retraced m ps i e g (F.into qs j z w h n r l p) q =
    let k = inner m qs j (j + 1 + h) (j + 1 + h + n) (refused g) q in
    let up : reads (length qs) (between m j z) ≡ refused (further (1 + h) g) =
    bad_run m (length qs) j z l (reached_within m qs j z r) (further (1 + h) g) (object_opens m (length qs) j z w h n l p ∙ ap (around w h n) k) in
    let fits : HeadFits (length qs) j z (O.opens w h n) = subst (HeadFits (length qs) j z) p (head_fits m (length qs) j z l) in
    back m qs (qs ++ (j ∷ [])) j (j + 1 + h) z (j + 1 + h + n) (1 + h) g (retraced m qs j z (further (1 + h) g) r up) l (omega arith)
    (omega (arith, fits.0)) (λ f. into_step f m qs j z w h n g l p k)

-- ---- a run that is reached and has no fault
module _ (m : List ℕ) (f : Fault) (fault : outcome m ≡ refused f) where
  -- a refusal that is reached tells where the fault is
  pub place_is : (ps : List ℕ) (i e : ℕ) (g : Fault) → Reached m ps i e → reads (length ps) (between m i e) ≡ refused g
      → (f.number ≡ g.number) × (f.place ≡ i + g.place)
  unfolding further
  place_is ps i e g r q =
      let t = (retraced m ps i e g r q).is in
      let k : f ≡ further i g = cc in
      (ap (λ (x : Fault). x.number) k, ap (λ (x : Fault). x.place) k)

  -- in contents that have none, if what is around them goes by it
  not_inside : (qs : List ℕ) (j z : ℕ) (w : O.Wrap) (h n : ℕ) (xs : Items) → Reached m qs j z → j < z → head_at m (length qs) j z ≡ O.opens w h n
      → reads (length (qs ++ (j ∷ []))) (between m (j + 1 + h) (j + 1 + h + n)) ≡ says xs
      → ((ys : Items) → reads (length qs) (between m j z) ≡ says ys → (f.place < j) ⊎ (z ≤ f.place))
      → (f.place < j + 1 + h) ⊎ (j + 1 + h + n ≤ f.place)
  unfolding onto around
  not_inside qs j z w h n xs r l p q outer = go (closing w (h + n) xs) (closes w (h + n) xs) here
    where
      to : z ≤ length m
      to = reached_within m qs j z r

      fits : HeadFits (length qs) j z (O.opens w h n)
      fits = subst (HeadFits (length qs) j z) p (head_fits m (length qs) j z l)

      here : object_in m (length qs) j z ≡ closing w (h + n) xs
      here = object_opens m (length qs) j z w h n l p ∙ ap (around w h n) (inner m qs j (j + 1 + h) (j + 1 + h + n) (says xs) q)

      rest : (ys : Items) (v : ℕ) → h + n ≡ v → object_in m (length qs) j z ≡ got ys v → (o : Outcome) → reads (length qs) (between m (j + 1 + v) z) ≡ o
          → (f.place < j + 1 + h) ⊎ (j + 1 + h + n ≤ f.place)
      rest ys v k x (refused g) y = let t = (place_is qs (j + 1 + v) z g (F.past qs j z ys v r l x) y).1 in inr (omega arith)
      rest ys v k x (says zs) y =
          ⊎_elim (λ a. inl (omega arith)) (λ a. inr (omega (arith, fits.0))) (outer _ (got_run m (length qs) j z l to ys v x ∙ ap (onto ys (1 + v)) y))

      go : (x : Object) → Closing w (h + n) x → object_in m (length qs) j z ≡ x → (f.place < j + 1 + h) ⊎ (j + 1 + h + n ≤ f.place)
      go (bad g) c x = let t = (place_is qs j z g r (bad_run m (length qs) j z l to g x)).1 in inl (omega (arith, c.0))
      go (got ys v) c x = rest ys v c x (reads (length qs) (between m (j + 1 + v) z)) refl

  pub not_in : (ps : List ℕ) (i e : ℕ) (xs : Items) → Reached m ps i e → reads (length ps) (between m i e) ≡ says xs → (f.place < i) ⊎ (e ≤ f.place)
  unfolding outcome onto
  not_in ps i e xs F.start q =
      let k : refused f ≡ says xs = sym fault ∙ ap (reads 0) (sym (start_is m)) ∙ q in
      let z : ◌≡◌ {A = ℕ} 0 1 = cc in
      absurd (omega arith)
  not_in ps i e xs (F.past qs j z ys u r l p) q =
      ⊎_elim (λ a. inl (omega arith)) (λ a. inr a)
      (not_in qs j z _ r (got_run m (length qs) j z l (reached_within m qs j z r) ys u p ∙ ap (onto ys (1 + u)) q))
  not_in ps i e xs (F.into qs j z w h n r l p) q = not_inside qs j z w h n xs r l p q (λ ys k. not_in qs j z ys r k)
