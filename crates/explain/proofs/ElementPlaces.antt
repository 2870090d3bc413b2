-- The elements of a run stand at objects that reading comes to, and so do those that are told for 8 and 9. Assumes nothing.
use Prim.Native.Nat.{ℕ, zero, suc, ◌+◌, ◌-◌, ◌≤◌, ◌<◌}
use native.Mathlib.Omega.{arith}
use native.Mathlib.Nat.{le_refl}
use mathlib.Core.Path.{◌≡◌, refl, sym, ap, ◌∙◌, subst}
use mathlib.Core.Logic.{◌≢◌}
use mathlib.Core.List.{List, [], ◌∷◌, ◌++◌}
use lib.ListN.{length, get_or}
use Rattle.format.specs.declared.Class.{Class}
use Rattle.format.specs.declared.Class.TheVariants as C
use Rattle.format.specs.Refusals.{Fault, too_deep, depth_limit}
use Rattle.format.specs.Items.{Items, STRUC, EDT, kinds}
use Rattle.format.specs.Classes.{class_of}
use Rattle.format.specs.Objects as O
use Rattle.format.specs.Messages.{Outcome, refused, says, Object, bad, got, closing, around, reads, outcome}
use Rattle.format.proofs.Choices.{if_lt_yes, if_lt_no, split}
use Rattle.format.proofs.Runs.{onto_says}
use Rattle.explain.specs.declared.evidence.Evidence.{Evidence}
use Rattle.explain.specs.declared.evidence.Evidence.TheVariants.{Nothing, End, Byte, Number, Absent, Kinds, Element, NoElement, Wanted}
use Rattle.explain.specs.Reasons.{between, head_at, object_in, Stands, standing, again, opened, elements_by, elements_in, why}
use Rattle.explain.specs.Facts as F
use Rattle.explain.specs.Facts.{Reached, Contents, Elements, Fact, Because}
use Rattle.explain.proofs.BetweenLaws.{between_length, HeadFits, head_fits, object_stops, object_gives, object_opens}
use Rattle.explain.proofs.ElementLaws.{elements_end, elements_step}
use Rattle.explain.proofs.ElementKinds.{again_zero, again_suc}
use Rattle.explain.proofs.Explained.{told_why}
use Rattle.explain.proofs.Retraced.{reached_within, place_is}
use Rattle.explain.proofs.WhySteps.{one_more, bad_run, got_run, Closing, closes}

module _ (m : List ℕ) where
  -- reading comes to an object there
  abbrev pub ObjectAt : ℕ → Type 0
  ObjectAt p = (qs : List ℕ) × (z : ℕ) × Reached m qs p z × (p < z)

  abbrev pub AllReached : List Stands → Type 0
  AllReached [] = Unit {0}
  AllReached (x ∷ xs) = ObjectAt x.place × AllReached xs

  reached_append : (xs ys : List Stands) → AllReached xs → AllReached ys → AllReached (xs ++ ys)
  reached_append [] ys p q = q
  reached_append (x ∷ xs) ys p q = (p.0, reached_append xs ys p.1 q)

  reached_again : (n : ℕ) (es : List Stands) → AllReached es → AllReached (again n es)
  reached_again zero es p = subst AllReached (sym (again_zero es)) tt
  reached_again (suc n) es p = subst AllReached (sym (again_suc n es)) (reached_append es (again n es) p (reached_again n es p))

  module _ (ps : List ℕ) (i e : ℕ) (r : Reached m ps i e) (there : i < e) where
    abbrev d : ℕ
    d = length ps

    to : e ≤ length m
    to = reached_within m ps i e r

    reached_standing : (ks : List ℕ) → AllReached (standing i ks)
    unfolding standing
    reached_standing [] = tt
    reached_standing (k ∷ ks) = ((ps, e, r, there), reached_standing ks)

    reached_opened : (w : O.Wrap) (es : List Stands) → AllReached es → AllReached (opened i w es)
    unfolding opened
    reached_opened O.as_struc es p = reached_standing (STRUC ∷ [])
    reached_opened O.as_ustruc es p = reached_standing (STRUC ∷ [])
    reached_opened O.as_edt es p = reached_standing (EDT ∷ [])
    reached_opened (O.repeated k) es p = reached_again k es p

    module _ (xs : Items) (said : reads d (between m i e) ≡ says xs)
        (in_it : (a z : ℕ) (cs : Items) → i < a → z ≤ e → Reached m (ps ++ (i ∷ [])) a z → reads (length (ps ++ (i ∷ []))) (between m a z) ≡ says cs
        → AllReached (elements_in m (length (ps ++ (i ∷ []))) a z))
        (past : (u : ℕ) (zs : Items) → Reached m ps (i + 1 + u) e → reads d (between m (i + 1 + u) e) ≡ says zs → AllReached (elements_in m d (i + 1 + u) e)) where
      -- past an object that is right
      rest : (ys : Items) (u : ℕ) → object_in m d i e ≡ got ys u → AllReached (elements_in m d (i + 1 + u) e)
      rest ys u q =
          let z = onto_says ys (1 + u) (reads d (between m (i + 1 + u) e)) xs (sym (got_run m d i e there to ys u q) ∙ said) in
          past u z.0 (F.past ps i e ys u r there q) z.1

      -- it is not refused
      not_bad {ℓ} : {A : Type ℓ} (g : Fault) → object_in m d i e ≡ bad g → A
      not_bad g q = let s = sym (bad_run m d i e there to g q) ∙ said in let z : ◌≡◌ {A = ℕ} 0 1 = cc in absurd (omega arith)

      by_head : (x : O.Head) → head_at m d i e ≡ x → AllReached (elements_by i (λ a z. elements_in m (suc d) a z) (λ j. elements_in m d j e) x)
      unfolding elements_by around
      by_head (O.stop f) q = tt
      by_head (O.gives ys u) q = reached_append (standing i (kinds ys)) _ (reached_standing (kinds ys)) (rest ys u (object_gives m d i e ys u q))
      by_head (O.opens w h n) q = go (reads (suc d) (between m (i + 1 + h) (i + 1 + h + n))) refl (object_opens m d i e w h n there q)
        where
          es : List Stands
          es = elements_in m (suc d) (i + 1 + h) (i + 1 + h + n)

          fits : HeadFits d i e (O.opens w h n)
          fits = subst (HeadFits d i e) q (head_fits m d i e there)

          inner : (cs : Items) → reads (suc d) (between m (i + 1 + h) (i + 1 + h + n)) ≡ says cs → AllReached es
          inner cs s =
              let k = one_more ps i in
              subst (λ c. AllReached (elements_in m c (i + 1 + h) (i + 1 + h + n))) k
              (in_it (i + 1 + h) (i + 1 + h + n) cs (omega arith) fits.0 (F.into ps i e w h n r there q)
              (ap (λ c. reads c (between m (i + 1 + h) (i + 1 + h + n))) k ∙ s))

          by : (x : Object) → Closing w (h + n) x → object_in m d i e ≡ x → AllReached (elements_in m d (i + 1 + h + n) e)
          by (bad g) c t = not_bad g t
          by (got ys v) c t = let k : i + 1 + v ≡ i + 1 + h + n = omega arith in subst (λ j. AllReached (elements_in m d j e)) k (rest ys v t)

          go : (o : Outcome) → reads (suc d) (between m (i + 1 + h) (i + 1 + h + n)) ≡ o → object_in m d i e ≡ around w h n o
              → AllReached (opened i w es ++ elements_in m d (i + 1 + h + n) e)
          go (refused f) s t = not_bad _ t
          go (says cs) s t =
              reached_append (opened i w es) _ (reached_opened w es (inner cs s)) (by (closing w (h + n) cs) (closes w (h + n) cs) t)

      step : AllReached (elements_in m d i e)
      step = subst AllReached (sym (elements_step m d i e there)) (by_head (head_at m d i e) refl)

  reached_from : (f : ℕ) (ps : List ℕ) (i e : ℕ) (xs : Items) → e - i ≤ f → Reached m ps i e → reads (length ps) (between m i e) ≡ says xs
      → AllReached (elements_in m (length ps) i e)
  reached_from zero ps i e xs l r q = subst AllReached (sym (elements_end m (length ps) i e (omega arith))) tt
  reached_from (suc f) ps i e xs l r q =
      split i e
      (λ h. step ps i e r h xs q (λ a z cs k j s t. reached_from f (ps ++ (i ∷ [])) a z cs (omega arith) s t) (λ u zs s t. reached_from f ps (i + 1 + u) e zs (omega arith) s t))
      (λ h. subst AllReached (sym (elements_end m (length ps) i e h)) tt)

  pub elements_reached : (ps : List ℕ) (i e : ℕ) (xs : Items) → Reached m ps i e → reads (length ps) (between m i e) ≡ says xs
      → AllReached (elements_in m (length ps) i e)
  elements_reached ps i e xs r q = reached_from (e - i) ps i e xs (le_refl (e - i)) r q

  -- ---- the places told
  abbrev pub PlacesReached : Evidence → Type 0
  PlacesReached (Kinds p q) = ObjectAt p × ObjectAt q
  PlacesReached (Element k p) = ObjectAt p
  PlacesReached Nothing = Unit {0}
  PlacesReached (End e) = Unit {0}
  PlacesReached (Byte b p) = Unit {0}
  PlacesReached (Number z) = Unit {0}
  PlacesReached Absent = Unit {0}
  PlacesReached (NoElement k) = Unit {0}
  PlacesReached (Wanted r w) = Unit {0}

  later : (same : List Stands) (y : Stands) (more : List Stands) → AllReached (same ++ (y ∷ more)) → ObjectAt y.place
  later [] y more p = p.0
  later (x ∷ same) y more p = later same y more p.1

  module _ (f : Fault) (fault : outcome m ≡ refused f) (ps : List ℕ) (i e : ℕ) (r : Reached m ps i e) (there : i < e) where
    module _ (high : f.number ≢ too_deep) (w : O.Wrap) (c : Class) (is : class_of (get_or m i 0) ≡ c)
        (group : (s : List ℕ) → O.head_by c (length ps) (get_or m i 0) s ≡ O.group_head w (length ps) s) where
      head_is : head_at m (length ps) i e ≡ O.group_head w (length ps) (between m (i + 1) e)
      unfolding head_at O.head_of
      head_is = ap (λ k. O.head_by k (length ps) (get_or m i 0) (between m (i + 1) e)) is ∙ group (between m (i + 1) e)

      -- where it is refused, and not with 5, it opens
      opens_there : (h n : ℕ) → O.size_of (between m (i + 1) e) ≡ O.size h n → i + 1 + h + n ≤ e → head_at m (length ps) i e ≡ O.opens w h n
      unfolding O.group_head O.container O.sized O.within
      opens_there h n q l =
          split (length ps) depth_limit
          (λ k.
          head_is ∙ if_lt_yes (length ps) depth_limit _ _ k ∙ ap (O.within (length ps) (between m (i + 1) e) (O.opens w)) q
          ∙ if_lt_no (length (between m (i + 1) e) - h) n _ _ (omega (arith, between_length m (i + 1) e (reached_within m ps i e r))))
          (λ k.
          let t = object_stops m (length ps) i e _ (head_is ∙ if_lt_no (length ps) depth_limit _ _ k) in
          absurd (high (place_is m f fault ps i e _ r (bad_run m (length ps) i e there (reached_within m ps i e r) _ t)).0))

      elements_there : (a z : ℕ) (xs : Items) (es : List Stands) → Contents m i e a z → Elements m (suc (length ps)) a z xs es → AllReached es
      elements_there a z xs es (F.from_to h n q l) o =
          let k = one_more ps i in
          subst AllReached (ap (λ d. elements_in m d (i + 1 + h) (i + 1 + h + n)) k ∙ o.are)
          (elements_reached (ps ++ (i ∷ [])) (i + 1 + h) (i + 1 + h + n) xs (F.into ps i e w h n r there (opens_there h n q l))
          (ap (λ d. reads d (between m (i + 1 + h) (i + 1 + h + n))) k ∙ o.said))

    places_by : (n p : ℕ) (qs : List ℕ) (v : Evidence) → f.number ≡ n → Fact m ps i e n p qs v → PlacesReached v
    unfolding O.head_by
    places_by n p qs v j (F.own_end x) = tt
    places_by n p qs v j (F.count_end a z q k b c l x) = tt
    places_by n p qs v j (F.length_end a z q k b c l x) = tt
    places_by n p qs v j (F.reserved c) = tt
    places_by n p qs v j (F.seventeenth c l) = tt
    places_by n p qs v j (F.no_marker c l z) = tt
    places_by n p qs v j (F.outermost b z) = tt
    places_by n p qs v j (F.other_byte w a z q c x k l y u t o) = tt
    places_by n p qs v j (F.no_object w a z c x y) = tt
    places_by n p qs v j (F.negative w a z k u c x q) = tt
    places_by n p qs v j (F.disagreeing a z k u b x q w) = tt
    places_by n p qs v j (F.kinds_apart_case a z xs x y same more c k o q t) =
        let g : f.number ≢ too_deep = omega arith in
        let l = elements_there g O.as_ustruc C.Ustruc c (λ s. refl) a z xs (x ∷ (same ++ (y ∷ more))) k o in
        (l.0, later same y more l.1)
    places_by n p qs v j (F.no_first a z c k o) = tt
    places_by n p qs v j (F.first_wrong a z xs x more c k o q) =
        let g : f.number ≢ too_deep = omega arith in (elements_there g O.as_edt C.Edt c (λ s. refl) a z xs (x ∷ more) k o).0
    places_by n p qs v j (F.no_second a z xs x c k o q) = tt
    places_by n p qs v j (F.second_wrong a z xs x y more c k o q t) =
        let g : f.number ≢ too_deep = omega arith in (elements_there g O.as_edt C.Edt c (λ s. refl) a z xs (x ∷ (y ∷ more)) k o).1.0

  -- "the places of two objects", and "its object's place"
  pub told_places : (f : Fault) → outcome m ≡ refused f → PlacesReached (why m).evidence
  told_places f q = go (told_why m f q)
    where
      go : Because m f.number f.place (why m).around (why m).evidence → PlacesReached (why m).evidence
      go (F.because qs i e g r l o a b x) = places_by f q qs i e r l f.number f.place (why m).around (why m).evidence refl x
