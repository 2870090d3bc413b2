-- A container that is refused for its elements: the fact that is told of it holds. Assumes nothing.
use Prim.Native.Nat.{ℕ, suc, ◌+◌, ◌<◌, ◌≤◌}
use native.Mathlib.Omega.{arith}
use mathlib.Core.Path.{◌≡◌, refl, sym, ap, ◌∙◌, subst}
use mathlib.Core.Logic.{◌≢◌}
use mathlib.Core.Bool.{true, false}
use mathlib.Core.List.{List, [], ◌∷◌, ◌++◌}
use lib.ListN.{length, get_or}
use Rattle.format.specs.declared.Class.TheVariants as C
use Rattle.format.specs.Choice.{either}
use Rattle.format.specs.Refusals.{Fault, several_kinds, bad_edt}
use Rattle.format.specs.Items.{Items, end, leaf, group, kinds, all_of, alike, uniform, edt_rule, starts_int, starts_string, behind}
use Rattle.format.specs.Classes.{class_of}
use Rattle.format.specs.Objects as O
use Rattle.format.specs.Messages.{says, Object, bad, got, closing}
use Rattle.format.proofs.Choices.{split_eq, by_pick, eq_true, if_eq_yes, if_eq_no, both_yes, clash}
use Rattle.explain.specs.declared.evidence.Evidence.{Evidence}
use Rattle.explain.specs.declared.evidence.Evidence.TheVariants.{Kinds}
use Rattle.explain.specs.Reasons.{Stands, apart_from, kinds_apart, element_at, wrong_element, closed_wrong}
use Rattle.explain.specs.Facts as F
use Rattle.explain.specs.Facts.{Fact, Contents, Elements, kinds_of, AllKind}
use Rattle.explain.proofs.Stopped.{Opening}

-- the earliest element of another kind than x
record Other (x : Stands) (es : List Stands) : Type 0 where
  pub same : List Stands
  pub it : Stands
  pub more : List Stands
  pub whole : es ≡ same ++ (it ∷ more)
  pub alike : AllKind x.kind same
  pub other : it.kind ≢ x.kind
  pub told : apart_from x es ≡ Kinds x.place it.place

other : (x : Stands) (es : List Stands) → all_of x.kind (kinds_of es) ≡ false → Other x es
unfolding all_of kinds_of apart_from
other x [] q = clash true refl q
other x (y ∷ es) q =
    split_eq y.kind x.kind
    (λ s.
    let o = other x es (sym (both_yes _ (all_of x.kind (kinds_of es)) (eq_true y.kind x.kind s)) ∙ q) in
    record {
      same = y ∷ o.same;
      it = o.it;
      more = o.more;
      whole = ap (λ l. y ∷ l) o.whole;
      alike = (s, o.alike);
      other = o.other;
      told = if_eq_yes y.kind x.kind _ _ s ∙ o.told;
    })
    (λ s. record { same = []; it = y; more = es; whole = refl; alike = tt; other = s; told = if_eq_no y.kind x.kind _ _ s })

module _ (m ps : List ℕ) (i e a z : ℕ) (inside : Contents m i e a z) where
  abbrev Of : Items → List Stands → Type 0
  Of xs es = Elements m (suc (length ps)) a z xs es

  ustruc_fact : class_of (get_or m i 0) ≡ C.Ustruc → (xs : Items) (es : List Stands) → Of xs es → alike (kinds_of es) ≡ false
      → Fact m ps i e several_kinds i ps (kinds_apart es)
  unfolding alike kinds_of kinds_apart
  ustruc_fact c xs [] o q = clash true refl q
  ustruc_fact c xs (x ∷ es) o q =
      let y = other x es q in
      subst (Fact m ps i e several_kinds i ps) (sym y.told)
      (F.kinds_apart_case a z xs x y.it y.same y.more c inside (subst (λ l. Of xs (x ∷ l)) y.whole o) y.alike y.other)

  no_items : (xs : Items) → [] ≡ kinds xs → xs ≡ end
  unfolding kinds
  no_items end q = refl
  no_items (leaf l xs) q = let n : ◌≡◌ {A = ℕ} 0 1 = cc in absurd (omega arith)
  no_items (group g c xs) q = let n : ◌≡◌ {A = ℕ} 0 1 = cc in absurd (omega arith)

  module _ (c : class_of (get_or m i 0) ≡ C.Edt) where
    second_fact : (xs : Items) (x : Stands) (es : List Stands) → Of xs (x ∷ es) → either (starts_int xs) (starts_string xs) ≡ true
        → starts_int (behind xs) ≡ false → Fact m ps i e bad_edt i ps (element_at 2 es)
    unfolding element_at
    second_fact xs x [] o q r = F.no_second a z xs x c inside o q
    second_fact xs x (y ∷ es) o q r = F.second_wrong a z xs x y es c inside o q r

    edt_fact : (xs : Items) (es : List Stands) → Of xs es → edt_rule xs ≡ false → Fact m ps i e bad_edt i ps (wrong_element xs es)
    unfolding wrong_element element_at edt_rule kinds_of starts_int starts_string either
    edt_fact xs [] o q =
        let n : xs ≡ end = no_items xs o.agree in
        subst (λ l. Fact m ps i e bad_edt i ps (wrong_element l [])) (sym n) (F.no_first a z c inside (subst (λ l. Of l []) n o))
    edt_fact xs (x ∷ es) o q =
        by_pick (Fact m ps i e bad_edt i ps) (either (starts_int xs) (starts_string xs))
        (λ r. second_fact xs x es o r (sym (both_yes (either (starts_int xs) (starts_string xs)) (starts_int (behind xs)) r) ∙ q))
        (λ r. F.first_wrong a z xs x es c inside o r)

-- ---- by how it closes
module _ (m ps : List ℕ) (i e : ℕ) (there : i < e) (to : e ≤ length m) (h n : ℕ) (xs : Items) (es : List Stands)
    (of : Elements m (suc (length ps)) (i + 1 + h) (i + 1 + h + n) xs es) where
  abbrev Closes : Evidence → Object → Type 0
  Closes v (bad g) = (g.place ≡ 0) × Fact m ps i e g.number i ps v
  Closes v (got ys u) = Unit {0}

  closes : (w : O.Wrap) (u : ℕ) → Opening m ps i e there to w h n → Closes (closed_wrong w es (says xs)) (closing w u xs)
  unfolding closing closed_wrong uniform
  closes O.as_struc u o = tt
  closes O.as_ustruc u o =
      by_pick (Closes (kinds_apart es)) (uniform xs) (λ q. tt)
      (λ q. (refl, ustruc_fact m ps i e (i + 1 + h) (i + 1 + h + n) o.1 o.0 xs es of (ap alike of.agree ∙ q)))
  closes O.as_edt u o =
      by_pick (Closes (wrong_element xs es)) (edt_rule xs) (λ q. tt)
      (λ q. (refl, edt_fact m ps i e (i + 1 + h) (i + 1 + h + n) o.1 o.0 xs es of q))
  closes (O.repeated k) u o = tt

  pub closed_fact : (w : O.Wrap) (u : ℕ) (g : Fault) → Opening m ps i e there to w h n → closing w u xs ≡ bad g
      → (g.place ≡ 0) × Fact m ps i e g.number i ps (closed_wrong w es (says xs))
  closed_fact w u g o q = subst (Closes (closed_wrong w es (says xs))) q (closes w u o)
