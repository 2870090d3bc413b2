-- Why a run is refused, by its first object: the fault is that object's own, or inside it, or past it. Assumes nothing.
use Prim.Native.Nat.{ℕ, suc, ◌+◌, ◌≤◌, ◌<◌}
use native.Mathlib.Omega.{arith}
use mathlib.Core.Path.{◌≡◌, refl, sym, ap, ◌∙◌, subst}
use mathlib.Core.Logic.{◌⊎◌, inl, inr}
use mathlib.Core.List.{List, [], ◌∷◌, ◌++◌}
use lib.ListN.{length, length-append}
use Rattle.format.specs.Refusals.{Fault, further, several_kinds, bad_edt}
use Rattle.format.specs.Items.{Items, uniform, edt_rule}
use Rattle.format.specs.Objects as O
use Rattle.format.specs.Messages.{Outcome, refused, says, Object, bad, got, closing, around, onto, next, reads}
use Rattle.format.proofs.Choices.{by_pick}
use Rattle.format.proofs.Bounds.{RunWithin, reads_within}
use Rattle.format.proofs.Extents.{Ends}
use Rattle.explain.specs.Reasons.{between, head_at, object_in, fault_at, in_contents, inside_or, past_or, why_from}
use Rattle.explain.proofs.BetweenLaws.{between_length, HeadFits, head_fits, run_at, object_stops, object_gives, object_opens}

-- one container more
pub one_more : (ps : List ℕ) (i : ℕ) → length (ps ++ (i ∷ [])) ≡ suc (length ps)
one_more ps i = omega (arith, length-append ps (i ∷ []))

-- ---- a run by its first object
module _ (m : List ℕ) (d i e : ℕ) (there : i < e) (to : e ≤ length m) where
  pub bad_run : (g : Fault) → object_in m d i e ≡ bad g → reads d (between m i e) ≡ refused g
  unfolding next
  bad_run g q = run_at m d i e there to ∙ ap (λ x. next x (λ u. reads d (between m (i + 1 + u) e))) q

  pub got_run : (xs : Items) (u : ℕ) → object_in m d i e ≡ got xs u → reads d (between m i e) ≡ onto xs (1 + u) (reads d (between m (i + 1 + u) e))
  unfolding next
  got_run xs u q = run_at m d i e there to ∙ ap (λ x. next x (λ u. reads d (between m (i + 1 + u) e))) q

-- a container that closes over its contents: at its own place 8 or 9, or it ends with them
abbrev pub Closing : O.Wrap → ℕ → Object → Type 0
Closing w u (bad g) = (g.place ≡ 0) × (((g.number ≡ several_kinds) × (w ≡ O.as_ustruc)) ⊎ ((g.number ≡ bad_edt) × (w ≡ O.as_edt)))
Closing w u (got ys v) = u ≡ v

pub closes : (w : O.Wrap) (u : ℕ) (xs : Items) → Closing w u (closing w u xs)
unfolding closing
closes O.as_struc u xs = refl
closes O.as_ustruc u xs = by_pick (Closing O.as_ustruc u) (uniform xs) (λ q. refl) (λ q. (refl, inl (refl, refl)))
closes O.as_edt u xs = by_pick (Closing O.as_edt u) (edt_rule xs) (λ q. refl) (λ q. (refl, inr (refl, refl)))
closes (O.repeated k) u xs = refl

-- ---- the explanation, one step on
pub past_step : (f : ℕ) (m ps : List ℕ) (i e : ℕ) (xs : Items) (u : ℕ) → object_in m (length ps) i e ≡ got xs u → why_from (suc f) m ps i e ≡ why_from f m ps (i + 1 + u) e
unfolding why_from past_or
past_step f m ps i e xs u q = ap (past_or (λ u. why_from f m ps (i + 1 + u) e) _) q

-- an object that is refused
pub bad_step : (f : ℕ) (m ps : List ℕ) (i e : ℕ) (g : Fault) (x : O.Head) → object_in m (length ps) i e ≡ bad g → head_at m (length ps) i e ≡ x
    → why_from (suc f) m ps i e ≡ inside_or m (length ps) i (λ a z. why_from f m (ps ++ (i ∷ [])) a z) (fault_at m ps i e) x
unfolding why_from past_or
bad_step f m ps i e g x q k =
    ap (past_or (λ u. why_from f m ps (i + 1 + u) e) _) q ∙ ap (inside_or m (length ps) i (λ a z. why_from f m (ps ++ (i ∷ [])) a z) (fault_at m ps i e)) k

-- one that opens, by what its contents come to
open_step : (f : ℕ) (m ps : List ℕ) (i e : ℕ) (g : Fault) (w : O.Wrap) (h n : ℕ) (o : Outcome) → object_in m (length ps) i e ≡ bad g
    → head_at m (length ps) i e ≡ O.opens w h n → reads (suc (length ps)) (between m (i + 1 + h) (i + 1 + h + n)) ≡ o
    → why_from (suc f) m ps i e ≡ in_contents (why_from f m (ps ++ (i ∷ [])) (i + 1 + h) (i + 1 + h + n)) (fault_at m ps i e) o
unfolding inside_or
open_step f m ps i e g w h n o q p r =
    bad_step f m ps i e g (O.opens w h n) q p ∙ ap (in_contents (why_from f m (ps ++ (i ∷ [])) (i + 1 + h) (i + 1 + h + n)) (fault_at m ps i e)) r

pub into_step : (f : ℕ) (m ps : List ℕ) (i e : ℕ) (w : O.Wrap) (h n : ℕ) (g : Fault) → i < e → head_at m (length ps) i e ≡ O.opens w h n
    → reads (suc (length ps)) (between m (i + 1 + h) (i + 1 + h + n)) ≡ refused g
    → why_from (suc f) m ps i e ≡ why_from f m (ps ++ (i ∷ [])) (i + 1 + h) (i + 1 + h + n)
unfolding in_contents around
into_step f m ps i e w h n g l p q =
    open_step f m ps i e (further (1 + h) g) w h n (refused g) (object_opens m (length ps) i e w h n l p ∙ ap (around w h n) q) p q

-- ---- a run that is refused
pub record Faulty (m : List ℕ) (d i e : ℕ) (g : Fault) : Type 0 where
  pub said : reads d (between m i e) ≡ refused g
  pub within : e ≤ length m

-- its fault lies within it
pub fault_inside : {m : List ℕ} {d i e : ℕ} {g : Fault} → Faulty m d i e g → i + g.place < e
fault_inside {m} {d} {i} {e} x =
    let w = (subst (RunWithin d (length (between m i e))) x.said (reads_within d (between m i e))).0 in
    omega (arith, w, between_length m i e x.within)

onto_refused : (xs : Items) (n : ℕ) (o : Outcome) (g : Fault) → onto xs n o ≡ refused g → (f : Fault) × (o ≡ refused f) × (g ≡ further n f)
unfolding onto
onto_refused xs n (refused f) g q = (f, refl, cc)
onto_refused xs n (says ys) g q = let z : ◌≡◌ {A = ℕ} 0 1 = cc in absurd (omega arith)

-- What its fault is to the object at i, by the head of that: its own, by itself or for its elements; one past it; or one inside it. With
-- what the explanation then is.
pub data Turn (m ps : List ℕ) (i e : ℕ) (g : Fault) : O.Head → Type 0 where
  own : (g₁ : Fault) → g₁ ≡ g → ((f : ℕ) → why_from (suc f) m ps i e ≡ fault_at m ps i e) → Turn m ps i e g (O.stop g₁)
  own_elements : (w : O.Wrap) (a n : ℕ) (xs : Items) → reads (suc (length ps)) (between m (i + 1 + a) (i + 1 + a + n)) ≡ says xs → closing w (a + n) xs ≡ bad g
      → ((f : ℕ) → why_from (suc f) m ps i e ≡ fault_at m ps i e) → Turn m ps i e g (O.opens w a n)
  past : (x : O.Head) (ys : Items) (u : ℕ) (g₁ : Fault) → object_in m (length ps) i e ≡ got ys u → Ends u x → g ≡ further (1 + u) g₁
      → Faulty m (length ps) (i + 1 + u) e g₁ → Turn m ps i e g x
  into : (w : O.Wrap) (a n : ℕ) (g₁ : Fault) → g ≡ further (1 + a) g₁ → Faulty m (suc (length ps)) (i + 1 + a) (i + 1 + a + n) g₁
      → ((f : ℕ) → why_from (suc f) m ps i e ≡ why_from f m (ps ++ (i ∷ [])) (i + 1 + a) (i + 1 + a + n)) → Turn m ps i e g (O.opens w a n)

module _ (m ps : List ℕ) (i e : ℕ) (g : Fault) (x : Faulty m (length ps) i e g) (there : i < e) where
  abbrev d : ℕ
  d = length ps

  -- the object is right
  right : (h : O.Head) (ys : Items) (u : ℕ) → Ends u h → object_in m d i e ≡ got ys u → Turn m ps i e g h
  right h ys u ends q =
      let z = onto_refused ys (1 + u) (reads d (between m (i + 1 + u) e)) g (sym (got_run m d i e there x.within ys u q) ∙ x.said) in
      past h ys u z.0 q ends z.2 (record { said = z.1; within = x.within })

  -- or refused, and that is the run's fault
  wrong : (g₁ : Fault) → object_in m d i e ≡ bad g₁ → g₁ ≡ g
  wrong g₁ q = let z = sym (bad_run m d i e there x.within g₁ q) ∙ x.said in cc

  by_head : (h : O.Head) → head_at m d i e ≡ h → Turn m ps i e g h
  unfolding in_contents inside_or around
  by_head (O.stop g₁) q = let b = object_stops m d i e g₁ q in own g₁ (wrong g₁ b) (λ f. bad_step f m ps i e g₁ (O.stop g₁) b q)
  by_head (O.gives xs u) q = right (O.gives xs u) xs u refl (object_gives m d i e xs u q)
  by_head (O.opens w a n) q = go (reads (suc d) (between m (i + 1 + a) (i + 1 + a + n))) refl
    where
      object_is : object_in m d i e ≡ around w a n (reads (suc d) (between m (i + 1 + a) (i + 1 + a + n)))
      object_is = object_opens m d i e w a n there q

      fits : HeadFits d i e (O.opens w a n)
      fits = subst (HeadFits d i e) q (head_fits m d i e there)

      shut : (xs : Items) (y : Object) → closing w (a + n) xs ≡ y → reads (suc d) (between m (i + 1 + a) (i + 1 + a + n)) ≡ says xs → object_in m d i e ≡ y
          → Turn m ps i e g (O.opens w a n)
      shut xs (bad g₁) c r b = own_elements w a n xs r (c ∙ ap bad (wrong g₁ b)) (λ f. open_step f m ps i e g₁ w a n (says xs) b q r)
      shut xs (got ys u) c r b = right (O.opens w a n) ys u (subst (Closing w (a + n)) c (closes w (a + n) xs)) b

      go : (o : Outcome) → reads (suc d) (between m (i + 1 + a) (i + 1 + a + n)) ≡ o → Turn m ps i e g (O.opens w a n)
      go (refused g₁) r =
          into w a n g₁ (sym (wrong _ (object_is ∙ ap (around w a n) r))) (record { said = r; within = omega (arith, fits.0, x.within) })
          (λ f. into_step f m ps i e w a n g₁ there q r)
      go (says xs) r = shut xs (closing w (a + n) xs) refl r (object_is ∙ ap (around w a n) r)

pub turn : (m ps : List ℕ) (i e : ℕ) (g : Fault) → Faulty m (length ps) i e g → (h : O.Head) → head_at m (length ps) i e ≡ h → Turn m ps i e g h
turn m ps i e g x h q = by_head m ps i e g x (let z = fault_inside x in omega arith) h q
