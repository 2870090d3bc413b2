-- The elements of a run that says something are its items, one each: of the kinds that it says, in their order, each at an object of the
-- run whose type-byte tells its kind. Assumes nothing.
use Prim.Native.Nat.{ℕ, zero, suc, ◌+◌, ◌-◌, ◌≤◌, ◌<◌}
use native.Mathlib.Omega.{arith}
use native.Mathlib.Nat.{le_refl}
use mathlib.Core.Path.{◌≡◌, refl, sym, ap, ap₂, ◌∙◌, subst}
use mathlib.Core.List.{List, [], ◌∷◌, ◌++◌}
use lib.ListN.{length, get_or}
use Rattle.format.specs.declared.Class.{Class}
use Rattle.format.specs.declared.Class.TheVariants as C
use Rattle.format.specs.Items.{Items, end, join, times, STRUC, EDT, leaf_kind, group_kind, kinds, uniform, edt_rule}
use Rattle.format.specs.Classes.{class_of}
use Rattle.format.specs.Objects as O
use Rattle.format.specs.Messages.{Outcome, refused, says, Object, bad, got, closing, around, next, reads}
use Rattle.format.proofs.Choices.{split, by_pick}
use Rattle.format.proofs.Counts.{times_zero, times_suc, kinds_join}
use Rattle.format.proofs.Steps.{reads_nil}
use Rattle.format.proofs.Runs.{onto_says}
use Rattle.format.proofs.HeadCases.{by_linteger, by_sbitstr, by_lbitstr, by_string, by_group, by_repeat}
use Rattle.explain.specs.Reasons.{between, head_at, object_in, Stands, standing, again, opened, elements_by, elements_in}
use Rattle.explain.specs.Facts.{kinds_of, class_kind, AllThere}
use Rattle.explain.proofs.BetweenLaws.{between_none, HeadFits, head_fits, run_at, object_stops, object_gives, object_opens}
use Rattle.explain.proofs.ElementLaws.{elements_end, elements_step}

-- ---- the class of an object tells the kinds of its own items
abbrev AllAre : ℕ → List ℕ → Type 0
AllAre k [] = Unit {0}
AllAre k (l ∷ ks) = (k ≡ l) × AllAre k ks

abbrev ClosesTo : ℕ → O.Wrap → Type 0
ClosesTo k O.as_struc = k ≡ STRUC
ClosesTo k O.as_ustruc = k ≡ STRUC
ClosesTo k O.as_edt = k ≡ EDT
ClosesTo k (O.repeated n) = Unit {0}

abbrev HeadTells : ℕ → O.Head → Type 0
HeadTells k (O.stop f) = Unit {0}
HeadTells k (O.gives xs u) = AllAre k (kinds xs)
HeadTells k (O.opens w h n) = ClosesTo k w

class_tells : (c : Class) (d b : ℕ) (s : List ℕ) → HeadTells (class_kind c) (O.head_by c d b s)
unfolding O.head_by class_kind kinds leaf_kind group_kind
class_tells C.Char7 d b s = (refl, tt)
class_tells C.Sinteger d b s = (refl, tt)
class_tells C.Linteger d b s = by_linteger (HeadTells (class_kind C.Linteger)) d s (λ f w. tt) b (λ l. (refl, tt))
class_tells C.Sbitstr d b s = by_sbitstr (HeadTells (class_kind C.Sbitstr)) d s (λ f w. tt) b (λ l x p e z. (refl, tt))
class_tells C.Lbitstr d b s = by_lbitstr (HeadTells (class_kind C.Lbitstr)) d s (λ f w. tt) (λ h n a g k u e f z. (refl, tt))
class_tells C.String d b s = by_string (HeadTells (class_kind C.String)) d s (λ f w. tt) (λ l h n a g. (refl, tt))
class_tells C.Struc d b s = by_group (HeadTells (class_kind C.Struc)) d s (λ f w. tt) O.as_struc (λ l h n a g. refl)
class_tells C.Ustruc d b s = by_group (HeadTells (class_kind C.Ustruc)) d s (λ f w. tt) O.as_ustruc (λ l h n a g. refl)
class_tells C.Edt d b s = by_group (HeadTells (class_kind C.Edt)) d s (λ f w. tt) O.as_edt (λ l h n a g. refl)
class_tells C.Repeat d b s = by_repeat (HeadTells (class_kind C.Repeat)) d s (λ f w. tt) (λ l h n a g k u e f. tt)
class_tells C.Xtra d b s = (refl, tt)
class_tells C.Bool d b s = (refl, tt)
class_tells C.Empty d b s = (refl, tt)
class_tells C.Padding d b s = tt
class_tells C.Reserved d b s = tt

-- ---- elements put one behind another, and repeated
kinds_append : (xs ys : List Stands) → kinds_of (xs ++ ys) ≡ kinds_of xs ++ kinds_of ys
unfolding kinds_of
kinds_append [] ys = refl
kinds_append (x ∷ xs) ys = ap (λ l. x.kind ∷ l) (kinds_append xs ys)

kinds_standing : (p : ℕ) (ks : List ℕ) → kinds_of (standing p ks) ≡ ks
unfolding kinds_of standing
kinds_standing p [] = refl
kinds_standing p (k ∷ ks) = ap (λ l. k ∷ l) (kinds_standing p ks)

pub again_zero : (es : List Stands) → again 0 es ≡ []
unfolding again
again_zero [] = refl
again_zero (x ∷ es) = refl

pub again_suc : (n : ℕ) (es : List Stands) → again (suc n) es ≡ es ++ again n es
unfolding again
again_suc n [] = refl
again_suc n (x ∷ es) = refl

-- the elements es, of the run from i to e, are those of xs
abbrev pub AreOf : List ℕ → ℕ → ℕ → List Stands → Items → Type 0
AreOf m i e es xs = (kinds_of es ≡ kinds xs) × AllThere m i e es

module _ (m : List ℕ) where
  there_append : (i e : ℕ) (xs ys : List Stands) → AllThere m i e xs → AllThere m i e ys → AllThere m i e (xs ++ ys)
  there_append i e [] ys p q = q
  there_append i e (x ∷ xs) ys p q = (p.0, p.1, p.2, there_append i e xs ys p.3 q)

  there_wider : (i e a z : ℕ) (xs : List Stands) → i ≤ a → z ≤ e → AllThere m a z xs → AllThere m i e xs
  there_wider i e a z [] k l p = tt
  there_wider i e a z (x ∷ xs) k l p = (omega (arith, p.0), omega (arith, p.1), p.2, there_wider i e a z xs k l p.3)

  there_again : (i e n : ℕ) (es : List Stands) → AllThere m i e es → AllThere m i e (again n es)
  there_again i e zero es p = subst (AllThere m i e) (sym (again_zero es)) tt
  there_again i e (suc n) es p = subst (AllThere m i e) (sym (again_suc n es)) (there_append i e es (again n es) p (there_again i e n es p))

  are_append : (i e : ℕ) (es fs : List Stands) (xs ys : Items) → AreOf m i e es xs → AreOf m i e fs ys → AreOf m i e (es ++ fs) (join xs ys)
  are_append i e es fs xs ys p q =
      (kinds_append es fs ∙ ap₂ (λ a b. a ++ b) p.0 q.0 ∙ sym (kinds_join xs ys), there_append i e es fs p.1 q.1)

  are_again : (i e n : ℕ) (es : List Stands) (xs : Items) → AreOf m i e es xs → AreOf m i e (again n es) (times n xs)
  unfolding kinds_of kinds
  are_again i e zero es xs p =
      subst (λ l. AreOf m i e l (times 0 xs)) (sym (again_zero es)) (subst (λ l. AreOf m i e [] l) (sym (times_zero xs)) (refl, tt))
  are_again i e (suc n) es xs p =
      subst (λ l. AreOf m i e l (times (suc n) xs)) (sym (again_suc n es))
      (subst (λ l. AreOf m i e (es ++ again n es) l) (sym (times_suc n xs)) (are_append i e es (again n es) xs (times n xs) p (are_again i e n es xs p)))

  -- ---- one object
  module _ (i e : ℕ) (h : i < e) where
    abbrev kind_here : ℕ
    kind_here = class_kind (class_of (get_or m i 0))

    standing_there : (ks : List ℕ) → AllAre kind_here ks → AllThere m i e (standing i ks)
    unfolding standing
    standing_there [] p = tt
    standing_there (k ∷ ks) p = (le_refl i, h, p.0, standing_there ks p.1)

    one_there : (k : ℕ) → kind_here ≡ k → AllThere m i e (standing i (k ∷ []))
    one_there k p = standing_there (k ∷ []) (p, tt)

    -- what an object of u bytes says, whose elements are es
    abbrev Made : ℕ → List Stands → Object → Type 0
    Made u es (bad f) = Unit {0}
    Made u es (got ys v) = (u ≡ v) × AreOf m i e es ys

    closing_made : (w : O.Wrap) (u : ℕ) (cs : Items) (es : List Stands) → ClosesTo kind_here w → AreOf m i e es cs → Made u (opened i w es) (closing w u cs)
    unfolding closing opened kinds group_kind
    closing_made O.as_struc u cs es k p = (refl, (kinds_standing i (STRUC ∷ []), one_there STRUC k))
    closing_made O.as_ustruc u cs es k p =
        by_pick (Made u (standing i (STRUC ∷ []))) (uniform cs) (λ q. (refl, (kinds_standing i (STRUC ∷ []), one_there STRUC k))) (λ q. tt)
    closing_made O.as_edt u cs es k p =
        by_pick (Made u (standing i (EDT ∷ []))) (edt_rule cs) (λ q. (refl, (kinds_standing i (EDT ∷ []), one_there EDT k))) (λ q. tt)
    closing_made (O.repeated n) u cs es k p = (refl, are_again i e n es cs p)

    around_made : (w : O.Wrap) (a n : ℕ) (o : Outcome) (es : List Stands) → ClosesTo kind_here w → ((cs : Items) → o ≡ says cs → AreOf m i e es cs)
        → Made (a + n) (opened i w es) (around w a n o)
    unfolding around
    around_made w a n (refused f) es k p = tt
    around_made w a n (says cs) es k p = closing_made w (a + n) cs es k (p cs refl)

    -- the object's elements, and then those past it
    module _ (d : ℕ) (in_it : (a z : ℕ) (cs : Items) → i < a → z ≤ e → reads (suc d) (between m a z) ≡ says cs → AreOf m a z (elements_in m (suc d) a z) cs)
        (past : (j : ℕ) (zs : Items) → i < j → reads d (between m j e) ≡ says zs → AreOf m j e (elements_in m d j e) zs) where
      abbrev elements : O.Head → List Stands
      elements = elements_by i (λ a z. elements_in m (suc d) a z) (λ j. elements_in m d j e)

      rest_are : (u : ℕ) (es : List Stands) (ys zs : Items) → AreOf m i e es ys → reads d (between m (i + 1 + u) e) ≡ says zs
          → AreOf m i e (es ++ elements_in m d (i + 1 + u) e) (join ys zs)
      rest_are u es ys zs p q =
          let r = past (i + 1 + u) zs (omega arith) q in
          are_append i e es (elements_in m d (i + 1 + u) e) ys zs p (r.0, there_wider i e (i + 1 + u) e (elements_in m d (i + 1 + u) e) (omega arith) (le_refl e) r.1)

      head_are : (x : O.Head) → head_at m d i e ≡ x → HeadTells kind_here x → (ys : Items) (u : ℕ) (zs : Items) → object_in m d i e ≡ got ys u
          → reads d (between m (i + 1 + u) e) ≡ says zs → AreOf m i e (elements x) (join ys zs)
      unfolding elements_by
      head_are (O.stop f) p k ys u zs q r = let s = sym (object_stops m d i e f p) ∙ q in let z : ◌≡◌ {A = ℕ} 0 1 = cc in absurd (omega arith)
      head_are (O.gives xs v) p k ys u zs q r =
          let s = sym (object_gives m d i e xs v p) ∙ q in
          let a : v ≡ u = cc in
          let b : xs ≡ ys = cc in
          subst (λ l. AreOf m i e (standing i (kinds xs) ++ elements_in m d (i + 1 + v) e) (join l zs)) b
          (rest_are v (standing i (kinds xs)) xs zs (kinds_standing i (kinds xs), standing_there (kinds xs) k)
          (subst (λ n. reads d (between m (i + 1 + n) e) ≡ says zs) (sym a) r))
      head_are (O.opens w a n) p k ys u zs q r =
          let s = sym (object_opens m d i e w a n h p) ∙ q in
          let fits : HeadFits d i e (O.opens w a n) = subst (HeadFits d i e) p (head_fits m d i e h) in
          let es = elements_in m (suc d) (i + 1 + a) (i + 1 + a + n) in
          let inner : (cs : Items) → reads (suc d) (between m (i + 1 + a) (i + 1 + a + n)) ≡ says cs → AreOf m i e es cs =
          λ cs g. let t = in_it (i + 1 + a) (i + 1 + a + n) cs (omega arith) fits.0 g in
          (t.0, there_wider i e (i + 1 + a) (i + 1 + a + n) es (omega arith) fits.0 t.1) in
          let made : Made (a + n) (opened i w es) (got ys u) =
          subst (Made (a + n) (opened i w es)) s (around_made w a n (reads (suc d) (between m (i + 1 + a) (i + 1 + a + n))) es k inner) in
          let c : i + 1 + u ≡ i + 1 + a + n = omega (arith, made.0) in
          subst (λ j. AreOf m i e (opened i w es ++ elements_in m d j e) (join ys zs)) c (rest_are u (opened i w es) ys zs made.1 r)

      step_are : (l : e ≤ length m) (xs : Items) → reads d (between m i e) ≡ says xs → AreOf m i e (elements_in m d i e) xs
      unfolding next head_at O.head_of
      step_are l xs q = subst (λ es. AreOf m i e es xs) (sym (elements_step m d i e h)) (go (object_in m d i e) refl (sym (run_at m d i e h l) ∙ q))
        where
          go : (x : Object) → object_in m d i e ≡ x → next x (λ u. reads d (between m (i + 1 + u) e)) ≡ says xs → AreOf m i e (elements (head_at m d i e)) xs
          go (bad f) p r = let z : ◌≡◌ {A = ℕ} 0 1 = cc in absurd (omega arith)
          go (got ys u) p r =
              let z = onto_says ys (1 + u) (reads d (between m (i + 1 + u) e)) xs r in
              subst (AreOf m i e (elements (head_at m d i e))) (sym z.2)
              (head_are (head_at m d i e) refl (class_tells (class_of (get_or m i 0)) d (get_or m i 0) (between m (i + 1) e)) ys u z.0 p z.1)

-- ---- the whole run
none_are : (m : List ℕ) (d i e : ℕ) (xs : Items) → e ≤ i → reads d (between m i e) ≡ says xs → AreOf m i e (elements_in m d i e) xs
unfolding kinds_of kinds
none_are m d i e xs h q =
    let s = sym (ap (reads d) (between_none m i e h) ∙ reads_nil d) ∙ q in
    let z : end ≡ xs = cc in
    subst (λ es. AreOf m i e es xs) (sym (elements_end m d i e h)) (subst (AreOf m i e []) z (refl, tt))

are_from : (f : ℕ) (m : List ℕ) (d i e : ℕ) (xs : Items) → e - i ≤ f → e ≤ length m → reads d (between m i e) ≡ says xs → AreOf m i e (elements_in m d i e) xs
are_from zero m d i e xs k l q = none_are m d i e xs (omega arith) q
are_from (suc f) m d i e xs k l q =
    split i e
    (λ h. step_are m i e h d (λ a z cs p r g. are_from f m (suc d) a z cs (omega arith) (omega arith) g) (λ j zs p g. are_from f m d j e zs (omega arith) l g) l xs q)
    (λ h. none_are m d i e xs h q)

pub elements_are : (m : List ℕ) (d i e : ℕ) (xs : Items) → reads d (between m i e) ≡ says xs → e ≤ length m → AreOf m i e (elements_in m d i e) xs
elements_are m d i e xs q l = are_from (e - i) m d i e xs (le_refl (e - i)) l q

pub elements_said : (m : List ℕ) (d i e : ℕ) (xs : Items) → reads d (between m i e) ≡ says xs → e ≤ length m → kinds_of (elements_in m d i e) ≡ kinds xs
elements_said m d i e xs q l = (elements_are m d i e xs q l).0

pub elements_there : (m : List ℕ) (d i e : ℕ) (xs : Items) → reads d (between m i e) ≡ says xs → e ≤ length m → AllThere m i e (elements_in m d i e)
elements_there m d i e xs q l = (elements_are m d i e xs q l).1
