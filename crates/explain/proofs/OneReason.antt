-- Of a refused message there is one reason, with reading's number and place, and it is the one told; where there is a reason, the message is
-- refused. Assumes nothing.
use Prim.Native.Nat.{ℕ, zero, suc, ◌+◌, ◌-◌, ◌≤◌, ◌<◌}
use native.Mathlib.Omega.{arith}
use mathlib.Core.Path.{◌≡◌, refl, sym, ap, ◌∙◌, subst}
use mathlib.Core.Logic.{◌≢◌, ◌⊎◌, inl, inr, ⊎_elim, ◌↔◌}
use mathlib.Core.List.{List, [], ◌∷◌, ◌++◌, append-nil}
use lib.ListN.{length, get_or}
use Rattle.format.specs.Refusals.{Fault, further}
use Rattle.format.specs.Items.{Items}
use Rattle.format.specs.Objects as O
use Rattle.format.specs.Messages.{Outcome, refused, says, Object, bad, got, closing, around, onto, reads, outcome}
use Rattle.explain.specs.declared.evidence.Evidence.{Evidence}
use Rattle.explain.specs.Reasons.{between, head_at, object_in, elements_in, closed_wrong, Why, own_place, evidence_by, evidence_at, fault_at, in_contents, inside_or, why_from, why}
use Rattle.explain.specs.Facts as F
use Rattle.explain.specs.Facts.{Reached, Because}
use Rattle.explain.proofs.BetweenLaws.{object_stops, object_gives, object_opens}
use Rattle.explain.proofs.Explained.{reached_few, told_why}
use Rattle.explain.proofs.Retraced.{reached_within, Retraced, retraced, place_is, not_in}
use Rattle.explain.proofs.WhySteps.{bad_step, bad_run, got_run, Closing, closes}
use Rattle.explain.proofs.FactsOnce.{Stops, Low, ByHead, ByElements, fact_told}

module _ (m : List ℕ) (f : Fault) (fault : outcome m ≡ refused f) (qs : List ℕ) (i e : ℕ) (r : Reached m qs i e) (there : i < e) where
  abbrev d : ℕ
  d = length qs

  to : e ≤ length m
  to = reached_within m qs i e r

  -- a fact of this object, and what is told of it
  abbrev Known : List ℕ → Evidence → Type 0
  Known ps v = ByHead m qs i e there to f.number f.place ps v ⊎ ByElements m qs i e there to f.number f.place ps v

  abbrev Same : List ℕ → Evidence → Why → Type 0
  Same ps v y = (ps ≡ y.around) × (v ≡ y.evidence)

  -- it is at the object's own place, or the object is refused by its head
  placed : (ps : List ℕ) (v : Evidence) → Known ps v → (f.place ≡ i) ⊎ Stops (head_at m d i e)
  placed ps v (inl k) = k.1
  placed ps v (inr k) = inl k.1

  -- ---- the object is refused, with g
  module _ (ps : List ℕ) (v : Evidence) (known : Known ps v) (g : Fault) (object : object_in m d i e ≡ bad g) (steps : ℕ) where
    number : f.number ≡ g.number
    number = (place_is m f fault qs i e g r (bad_run m d i e there to g object)).0

    place : f.place ≡ i + g.place
    place = (place_is m f fault qs i e g r (bad_run m d i e there to g object)).1

    by_stop : head_at m d i e ≡ O.stop g → Same ps v (fault_at m qs i e)
    unfolding fault_at evidence_at evidence_by
    by_stop q = go known
      where
        go : Known ps v → Same ps v (fault_at m qs i e)
        go (inl k) =
            let t = k.2 g (sym number) (sym place) in
            (t.0 ∙ ap (λ x. qs ++ own_place m i x) (sym q), t.1 ∙ ap (evidence_by m d i e) (sym q))
        go (inr k) = let l : g.number ≤ 7 = subst Low q k.2 in absurd (omega (arith, number, k.0))

    by_closed : (w : O.Wrap) (h n : ℕ) (cs : Items) → head_at m d i e ≡ O.opens w h n → reads (suc d) (between m (i + 1 + h) (i + 1 + h + n)) ≡ says cs
        → closing w (h + n) cs ≡ bad g → Same ps v (fault_at m qs i e)
    unfolding fault_at evidence_at evidence_by own_place
    by_closed w h n cs q s t = go known
      where
        go : Known ps v → Same ps v (fault_at m qs i e)
        go (inl k) =
            let c = (subst (Closing w (h + n)) t (closes w (h + n) cs)).1 in
            absurd (⊎_elim (λ x. omega (arith, number, k.0, x.0)) (λ x. omega (arith, number, k.0, x.0)) c)
        go (inr k) =
            let x = k.3 w h n cs g q s t (sym number) in (
              x.0 ∙ sym (append-nil qs) ∙ ap (λ y. qs ++ own_place m i y) (sym q),
              x.1 ∙ ap (closed_wrong w (elements_in m (suc d) (i + 1 + h) (i + 1 + h + n))) (sym s) ∙ ap (evidence_by m d i e) (sym q),
            )

    by_head : (x : O.Head) → head_at m d i e ≡ x → Same ps v (inside_or m d i (λ a z. why_from steps m (qs ++ (i ∷ [])) a z) (fault_at m qs i e) x)
    unfolding inside_or in_contents around further
    by_head (O.stop g₀) q = let s = sym (object_stops m d i e g₀ q) ∙ object in let k : g₀ ≡ g = cc in by_stop (q ∙ ap O.stop k)
    by_head (O.gives xs u) q = let s = sym (object_gives m d i e xs u q) ∙ object in let z : ◌≡◌ {A = ℕ} 0 1 = cc in absurd (omega arith)
    by_head (O.opens w h n) q = go (reads (suc d) (between m (i + 1 + h) (i + 1 + h + n))) refl (sym (object_opens m d i e w h n there q) ∙ object)
      where
        go : (o : Outcome) → reads (suc d) (between m (i + 1 + h) (i + 1 + h + n)) ≡ o → around w h n o ≡ bad g
            → Same ps v (in_contents (why_from steps m (qs ++ (i ∷ [])) (i + 1 + h) (i + 1 + h + n)) (fault_at m qs i e) o)
        go (refused g₁) s t =
            let k : g.place ≡ 1 + h + g₁.place = ap (λ (x : Fault). x.place) (let j : g ≡ further (1 + h) g₁ = cc in j) in
            absurd (⊎_elim (λ x. omega (arith, place)) (λ x. subst Stops q x) (placed ps v known))
        go (says cs) s t = by_closed w h n cs q s t

    same_bad : Same ps v (why_from (suc steps) m qs i e)
    same_bad = subst (Same ps v) (sym (bad_step steps m qs i e g (head_at m d i e) object refl)) (by_head (head_at m d i e) refl)

  -- ---- the object is right: so it is at no fault
  stops_bad : Stops (head_at m d i e) → (g : Fault) × (object_in m d i e ≡ bad g)
  stops_bad s = go (head_at m d i e) refl s
    where
      go : (x : O.Head) → head_at m d i e ≡ x → Stops x → (g : Fault) × (object_in m d i e ≡ bad g)
      go (O.stop g) q s = (g, object_stops m d i e g q)
      go (O.gives xs u) q s = absurd s
      go (O.opens w h n) q s = absurd s

  not_right : (xs : Items) (u : ℕ) → object_in m d i e ≡ got xs u → ¬ Stops (head_at m d i e)
  not_right xs u q s = let b = (stops_bad s).1 in let z : ◌≡◌ {A = ℕ} 0 1 = cc in absurd (omega arith)

  same : (ps : List ℕ) (v : Evidence) → Known ps v → Same ps v (why m)
  unfolding onto further
  same ps v known = go (object_in m d i e) refl
    where
      past : (xs : Items) (u : ℕ) → object_in m d i e ≡ got xs u → (o : Outcome) → reads d (between m (i + 1 + u) e) ≡ o → f.place ≢ i
      past xs u q (refused g) s =
          let k = (place_is m f fault qs (i + 1 + u) e g (F.past qs i e xs u r there q) s).1 in
          omega arith
      past xs u q (says ys) s =
          λ z. absurd (⊎_elim (λ x. omega arith) (λ x. omega arith) (not_in m f fault qs i e _ r (got_run m d i e there to xs u q ∙ ap (onto xs (1 + u)) s)))

      go : (x : Object) → object_in m d i e ≡ x → Same ps v (why m)
      go (got xs u) q =
          absurd (⊎_elim (past xs u q (reads d (between m (i + 1 + u) e)) refl) (not_right xs u q) (placed ps v known))
      go (bad g) q = by t.steps t.enough t.explains
        where
          t : Retraced m qs i e g
          t = retraced m qs i e g r (bad_run m d i e there to g q)

          by : (n : ℕ) → e - i ≤ n → why m ≡ why_from n m qs i e → Same ps v (why m)
          by zero l k = absurd (omega arith)
          by (suc n) l k = subst (Same ps v) (sym k) (same_bad ps v known g q n)

-- A message for which there is a reason is refused with its number, at its place.
pub because_refused : (m : List ℕ) (n p : ℕ) (ps : List ℕ) (v : Evidence) → Because m n p ps v
    → (f : Fault) × (outcome m ≡ refused f) × (f.number ≡ n) × (f.place ≡ p)
unfolding further
because_refused m n p ps v (F.because qs i e g r there object a b fact) =
    (further i g, (retraced m qs i e g r (bad_run m (length qs) i e there (reached_within m qs i e r) g object)).is, a, b)

-- The containers and the evidence are those told.
because_told : (m : List ℕ) (f : Fault) → ((j : ℕ) → get_or m j 0 < 256) → outcome m ≡ refused f → (ps : List ℕ) (v : Evidence)
    → Because m f.number f.place ps v → (ps ≡ (why m).around) × (v ≡ (why m).evidence)
because_told m f bytes q ps v (F.because qs i e g r there object a b fact) =
    same m f q qs i e r there ps v (fact_told m qs i e there (reached_within m qs i e r) (reached_few m qs i e r) bytes f.number f.place ps v fact)

-- so there is no other reason
pub because_once : (m : List ℕ) (f : Fault) → ((j : ℕ) → get_or m j 0 < 256) → outcome m ≡ refused f → (n p : ℕ) (ps : List ℕ) (v : Evidence)
    → Because m n p ps v ↔ ((n ≡ f.number) × (p ≡ f.place) × (ps ≡ (why m).around) × (v ≡ (why m).evidence))
because_once m f bytes q n p ps v = (to, from)
  where
    to : Because m n p ps v → (n ≡ f.number) × (p ≡ f.place) × (ps ≡ (why m).around) × (v ≡ (why m).evidence)
    to b =
        let x = because_refused m n p ps v b in
        let k : x.0 ≡ f = let t = sym x.1 ∙ q in cc in
        let a : n ≡ f.number = sym x.2 ∙ ap (λ (y : Fault). y.number) k in
        let c : p ≡ f.place = sym x.3 ∙ ap (λ (y : Fault). y.place) k in
        let s = because_told m f bytes q ps v (subst (λ j. Because m f.number j ps v) c (subst (λ j. Because m j p ps v) a b)) in
        (a, c, s.0, s.1)

    from : (n ≡ f.number) × (p ≡ f.place) × (ps ≡ (why m).around) × (v ≡ (why m).evidence) → Because m n p ps v
    from x =
        subst (λ j. Because m j p ps v) (sym x.0)
        (subst (λ j. Because m f.number j ps v) (sym x.1)
        (subst (λ l. Because m f.number f.place l v) (sym x.2)
        (subst (λ u. Because m f.number f.place (why m).around u) (sym x.3) (told_why m f q))))
