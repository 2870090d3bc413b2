-- The evidence of a USTRUC or EDT from places among its elements and what the scan found to be first. Assumes nothing.
use Prim.Native.Nat.{ℕ}
use mathlib.Core.Path.{◌≡◌, refl, sym, ap, ◌∙◌, subst}
use mathlib.Core.List.{List, [], ◌∷◌}
use Rattle.std.specs.Prelude.{Option, Some, Ok, Err}
use Rattle.format.specs.declared.kinds.Kind.{Kind}
use Rattle.format.specs.declared.kinds.Kind.TheVariants as K
use lib.ListN.{drop}
use Rattle.format.specs.Choice.{pick, either}
use Rattle.format.specs.Refusals.{Fault}
use Rattle.format.specs.Items.{Leaf, int, bits, char, bool, empty, xtra, struc, edt, Items, end, leaf, group, leaf_kind, kinds, is_string, starts_int, starts_string}
use Rattle.format.specs.Objects as O
use Rattle.format.specs.Messages.{Outcome, refused, says}
use Rattle.format.proofs.Choices.{if_eq_yes, if_eq_no, split_eq, whether}
use Rattle.scan.specs.declared.summary.Summary.{Summary}
use Rattle.scan.specs.Sums.{leaf_named, lead, met_lead, MetKind, sum_of}
use Rattle.scan.proofs.Leads.{lead_told}
use Rattle.scan.specs.Answer.{answer}
use Rattle.explain.specs.declared.evidence.Evidence.{Evidence}
use Rattle.explain.specs.declared.evidence.Evidence.TheVariants.{Nothing}
use Rattle.explain.specs.declared.stretch.Stretch.{Stretch}
use Rattle.explain.specs.declared.elements.Places.{Places}
use Rattle.explain.specs.Reasons.{Stands, apart_from, kinds_apart, element_at, wrong_element, closed_wrong}
use Rattle.explain.specs.Facts.{kinds_of}
use Rattle.explain.specs.Told.{word_asked, elements_of, said_in, first_place, second_place, other_place, places_of, kinds_told, element_told, kind_by, leads_edt, FirstKind}
use Rattle.explain.proofs.ElementKinds.{elements_said}

-- ---- by places
apart_told : (x : Stands) (ys : List Stands) → kinds_told (Some x.place) (other_place x.kind ys) ≡ apart_from x ys
unfolding other_place apart_from
apart_told x [] = refl
apart_told x (y ∷ ys) =
    split_eq y.kind x.kind
    (λ e. ap (kinds_told (Some x.place)) (if_eq_yes _ _ _ _ e) ∙ apart_told x ys ∙ sym (if_eq_yes _ _ _ _ e))
    (λ e. ap (kinds_told (Some x.place)) (if_eq_no _ _ _ _ e) ∙ sym (if_eq_no _ _ _ _ e))

kinds_by : (k : ℕ) (es : List Stands) → FirstKind es k → kinds_told (first_place es) (other_place k es) ≡ kinds_apart es
unfolding other_place kinds_apart
kinds_by k [] f = refl
kinds_by k (x ∷ xs) f = ap (kinds_told (Some x.place)) (if_eq_yes _ _ _ _ f ∙ ap (λ j. other_place j xs) (sym f)) ∙ apart_told x xs

pub kinds_told_lem : (k : ℕ) (es : List Stands) (p : Places) (v : Evidence) → FirstKind es k → p ≡ places_of k es → v ≡ kinds_told p.first p.other → v ≡ kinds_apart es
kinds_told_lem k es p v f e q = q ∙ ap (λ (x : Places). kinds_told x.first x.other) e ∙ kinds_by k es f

element_at_lem : (n : ℕ) (es : List Stands) → element_told n (first_place es) ≡ element_at n es
unfolding element_at
element_at_lem n [] = refl
element_at_lem n (x ∷ xs) = refl

module _ (k : ℕ) (es : List Stands) (p : Places) (v : Evidence) (e : p ≡ places_of k es) where
  pub first_told : v ≡ element_told 1 p.first → v ≡ element_at 1 es
  first_told q = q ∙ ap (λ (x : Places). element_told 1 x.first) e ∙ element_at_lem 1 es

  pub second_told : v ≡ element_told 2 p.second → v ≡ element_at 2 (drop 1 es)
  second_told q = q ∙ ap (λ (x : Places). element_told 2 x.second) e ∙ go es
    where
      go : (es : List Stands) → element_told 2 (second_place es) ≡ element_at 2 (drop 1 es)
      go [] = element_at_lem 2 []
      go (x ∷ xs) = element_at_lem 2 xs

-- ---- by what the scan found to be first
leaf_by : (l : Leaf) → word_asked (kind_by (Some (leaf_named l))) ≡ leaf_kind l
unfolding leaf_named leaf_kind
leaf_by (int z) = refl
leaf_by (bits b) = refl
leaf_by (char c) = refl
leaf_by (bool b) = refl
leaf_by empty = refl
leaf_by (xtra n) = refl

first_by : (es : List Stands) (xs : Items) → kinds_of es ≡ kinds xs → FirstKind es (word_asked (kind_by (lead xs)))
unfolding kinds_of kinds lead
first_by [] xs e = tt
first_by (x ∷ es) end e = absurd (cc)
first_by (x ∷ es) (leaf l xs) e = let z : x.kind ≡ leaf_kind l = cc in z ∙ sym (leaf_by l)
first_by (x ∷ es) (group struc c xs) e =
    let z : x.kind ≡ 7 = cc in
    z ∙ sym (whether (is_string c) (λ q. ap (λ b. word_asked (kind_by (Some (pick b K.String K.Struc)))) q) (λ q. ap (λ b. word_asked (kind_by (Some (pick b K.String K.Struc)))) q))
first_by (x ∷ es) (group edt c xs) e = let z : x.kind ≡ 8 = cc in z

leads_leaf : (l : Leaf) (xs : Items) → leads_edt (Some (leaf_named l)) ≡ either (starts_int (leaf l xs)) (starts_string (leaf l xs))
unfolding leaf_named starts_int starts_string either
leads_leaf (int z) xs = refl
leads_leaf (bits b) xs = refl
leads_leaf (char c) xs = refl
leads_leaf (bool b) xs = refl
leads_leaf empty xs = refl
leads_leaf (xtra n) xs = refl

leads_is : (xs : Items) → leads_edt (lead xs) ≡ either (starts_int xs) (starts_string xs)
unfolding lead either starts_int starts_string
leads_is end = refl
leads_is (leaf l xs) = leads_leaf l xs
leads_is (group struc c xs) =
    whether (is_string c) (λ q. ap (λ b. leads_edt (Some (pick b K.String K.Struc))) q ∙ sym q) (λ q. ap (λ b. leads_edt (Some (pick b K.String K.Struc))) q ∙ sym q)
leads_is (group edt c xs) = refl

-- ---- a container, by what the scan answered for its contents
pub closed_refused : (w : O.Wrap) (es : List Stands) (o : Outcome) (f : Fault) → Err f ≡ answer o → Nothing ≡ closed_wrong w es o
unfolding answer closed_wrong
closed_refused w es (refused g) f e = refl
closed_refused w es (says xs) f e = absurd (cc)

-- what the scan accepted says something, and its first lead is that of the items
accepted_lead : (o : Outcome) (s : Summary) → Ok s ≡ answer o → (xs : Items) × (o ≡ says xs) × (s.first ≡ met_lead (lead xs))
unfolding answer sum_of
accepted_lead (refused f) s e = absurd (cc)
accepted_lead (says xs) s e = let q : s ≡ sum_of xs = cc in (xs, refl, ap (λ (x : Summary). x.first) q)

module _ (c : Stretch) (s : Summary) (a : Ok s ≡ answer (said_in c)) where
  what : (xs : Items) × (said_in c ≡ says xs) × (s.first ≡ met_lead (lead xs))
  what = accepted_lead (said_in c) s a

  abbrev closed : O.Wrap → Evidence
  closed w = closed_wrong w (elements_of c) (said_in c)

  pub closed_struc : Nothing ≡ closed O.as_struc
  unfolding closed_wrong
  closed_struc = sym (ap (closed_wrong O.as_struc (elements_of c)) what.1)

  pub closed_repeat : (n : ℕ) → Nothing ≡ closed (O.repeated n)
  unfolding closed_wrong
  closed_repeat n = sym (ap (closed_wrong (O.repeated n) (elements_of c)) what.1)

  pub closed_ustruc : (v : Evidence) → v ≡ kinds_apart (elements_of c) → v ≡ closed O.as_ustruc
  unfolding closed_wrong
  closed_ustruc v q = q ∙ sym (ap (closed_wrong O.as_ustruc (elements_of c)) what.1)

  -- by the kind of that lead
  module _ (l : Option Kind) (k : MetKind s.first l) where
    lead_is : l ≡ lead what.0
    lead_is = lead_told (lead what.0) l (subst (λ m. MetKind m l) what.2 k)

    pub first_kind : FirstKind (elements_of c) (word_asked (kind_by l))
    first_kind =
        let x = what in
        subst (λ y. FirstKind (elements_of c) (word_asked (kind_by y))) (sym lead_is)
        (first_by (elements_of c) x.0 (elements_said c.message.now c.depth c.from c.end x.0 x.1 c.within))

    pub closed_edt : (v : Evidence) → v ≡ pick (leads_edt l) (element_at 2 (drop 1 (elements_of c))) (element_at 1 (elements_of c)) → v ≡ closed O.as_edt
    unfolding closed_wrong wrong_element
    closed_edt v q =
        let x = what in
        q ∙ ap (λ b. pick b (element_at 2 (drop 1 (elements_of c))) (element_at 1 (elements_of c))) (ap leads_edt lead_is ∙ leads_is x.0)
        ∙ sym (ap (closed_wrong O.as_edt (elements_of c)) x.1)
