-- In the place of a length or count that is no integer: the first byte that is no padding, of another class than an integer's; or there is
-- only padding. Both ways. Assumes nothing.
use Prim.Native.Nat.{ℕ, zero, suc, ◌+◌, ◌-◌, ◌≤◌, ◌<◌}
use native.Mathlib.Omega.{arith}
use native.Mathlib.Nat.{le_refl}
use native.Mathlib.Numerals.{add-one}
use mathlib.Core.Path.{◌≡◌, refl, sym, ap, ◌∙◌, subst}
use mathlib.Core.Logic.{◌≢◌}
use mathlib.Core.List.{List, [], ◌∷◌}
use lib.ListN.{length, take, drop, get_or}
use lib.Seq.{drop-cons}
use Rattle.format.specs.declared.Class.{Class}
use Rattle.format.specs.declared.Class.TheVariants as C
use Rattle.format.specs.Classes.{class_of}
use Rattle.format.specs.Objects as O
use Rattle.format.proofs.Choices.{by_eq, by_lt, split, if_eq_yes, if_eq_no}
use Rattle.format.proofs.TypeBytes.{InClass, in_class}
use Rattle.explain.specs.declared.evidence.Evidence.{Evidence}
use Rattle.explain.specs.declared.evidence.Evidence.TheVariants.{Nothing, End, Byte, Number, Absent, Kinds, Element, NoElement, Wanted}
use Rattle.explain.specs.Reasons.{between, in_place}
use Rattle.explain.specs.Facts.{Padded}

-- an integer is not absent
abbrev Present : O.Leading → Type 0
Present O.absent = ⊥
Present (O.cut_int p k) = Unit {0}
Present (O.found z u) = Unit {0}

no_small : (b : ℕ) (c : List ℕ) → O.leading (b ∷ c) ≡ O.absent → class_of b ≢ C.Sinteger
unfolding O.leading O.leading_by
no_small b c q k = subst Present (sym (ap (λ x. O.leading_by x b c (O.leading c)) k) ∙ q) tt

no_long : (b : ℕ) (c : List ℕ) → O.leading (b ∷ c) ≡ O.absent → class_of b ≢ C.Linteger
unfolding O.leading O.leading_by
no_long b c q k =
    subst Present (sym (ap (λ x. O.leading_by x b c (O.leading c)) k) ∙ q) (by_lt Present (length c) (O.following b) (λ l. tt) (λ l. tt))

-- padding before it makes no difference
behind_padding : (b : ℕ) (c : List ℕ) → b ≡ 0xff → O.leading (b ∷ c) ≡ O.absent → O.leading c ≡ O.absent
unfolding O.leading O.leading_by O.later class_of
behind_padding b c k q = go (O.leading c) (sym (ap (λ x. O.leading_by (class_of x) x c (O.leading c)) k) ∙ q)
  where
    go : (x : O.Leading) → O.later x ≡ O.absent → x ≡ O.absent
    go O.absent e = refl
    go (O.cut_int p k) e = absurd (subst Present e tt)
    go (O.found z u) e = absurd (subst Present e tt)

-- a byte of another class
no_leading : (c : Class) (b : ℕ) (s : List ℕ) (more : O.Leading) → c ≢ C.Sinteger → c ≢ C.Linteger → c ≢ C.Padding → O.leading_by c b s more ≡ O.absent
unfolding O.leading_by
no_leading C.Sinteger b s more p q r = absurd (p refl)
no_leading C.Linteger b s more p q r = absurd (q refl)
no_leading C.Padding b s more p q r = absurd (r refl)
no_leading C.Char7 b s more p q r = refl
no_leading C.Sbitstr b s more p q r = refl
no_leading C.Lbitstr b s more p q r = refl
no_leading C.String b s more p q r = refl
no_leading C.Struc b s more p q r = refl
no_leading C.Ustruc b s more p q r = refl
no_leading C.Edt b s more p q r = refl
no_leading C.Repeat b s more p q r = refl
no_leading C.Xtra b s more p q r = refl
no_leading C.Bool b s more p q r = refl
no_leading C.Empty b s more p q r = refl
no_leading C.Reserved b s more p q r = refl

no_padding : (b : ℕ) → b < 256 → b ≢ 0xff → class_of b ≢ C.Padding
no_padding b l n k = let c = subst (InClass b) k (in_class b) in absurd (omega arith)

past_padding : (b : ℕ) (c : List ℕ) → b ≡ 0xff → O.leading c ≡ O.absent → O.leading (b ∷ c) ≡ O.absent
unfolding O.leading O.leading_by O.later class_of
past_padding b c k q = ap (λ x. O.leading_by (class_of x) x c (O.leading c)) k ∙ ap O.later q

module _ (m : List ℕ) where
  -- what stands from a to z
  abbrev pub FirstOther : ℕ → ℕ → Evidence → Type 0
  FirstOther a z (Byte v q) =
      (a ≤ q) × (q < z) × Padded m a q × (get_or m q 0 ≡ v) × (v ≢ 0xff) × (class_of v ≢ C.Sinteger) × (class_of v ≢ C.Linteger)
  FirstOther a z Absent = Padded m a z
  FirstOther a z Nothing = ⊥
  FirstOther a z (End e) = ⊥
  FirstOther a z (Number n) = ⊥
  FirstOther a z (Kinds p q) = ⊥
  FirstOther a z (Element k p) = ⊥
  FirstOther a z (NoElement k) = ⊥
  FirstOther a z (Wanted r w) = ⊥

  padded_more : (a z : ℕ) → get_or m a 0 ≡ 0xff → Padded m (a + 1) z → Padded m a z
  padded_more a z e p j k l = split a j (λ g. p j (omega arith) l) (λ g. let q : a ≡ j = omega arith in subst (λ x. get_or m x 0 ≡ 0xff) q e)

  other_more : (a z : ℕ) → get_or m a 0 ≡ 0xff → (x : Evidence) → FirstOther (a + 1) z x → FirstOther a z x
  other_more a z e (Byte v q) f = (omega (arith, f.0), f.1, padded_more a q e f.2, f.3, f.4, f.5, f.6)
  other_more a z e Absent f = padded_more a z e f
  other_more a z e Nothing f = f
  other_more a z e (End x) f = f
  other_more a z e (Number n) f = f
  other_more a z e (Kinds p q) f = f
  other_more a z e (Element k p) f = f
  other_more a z e (NoElement k) f = f
  other_more a z e (Wanted r w) f = f

  -- the bytes c stand from a on
  abbrev pub From : ℕ → List ℕ → Type 0
  From a [] = Unit {0}
  From a (b ∷ c) = (get_or m a 0 ≡ b) × From (a + 1) c

  from_part : (n a : ℕ) → a + n ≤ length m → From a (take n (drop a m))
  from_part zero a l = tt
  from_part (suc n) a l =
      subst (λ c. From a (take (suc n) c)) (sym (drop-cons m a 0 (omega arith)))
      (refl, subst (λ k. From (a + 1) (take n (drop k m))) (add-one a) (from_part n (a + 1) (omega arith)))

  pub from_between : (a z : ℕ) → a ≤ z → z ≤ length m → From a (between m a z)
  unfolding between
  from_between a z k l = from_part (z - a) a (omega arith)

  pub first_other : (c : List ℕ) (a z : ℕ) → From a c → a + length c ≡ z → O.leading c ≡ O.absent → FirstOther a z (in_place c a)
  unfolding in_place
  first_other [] a z s n q = λ j k l. absurd (omega arith)
  first_other (b ∷ c) a z s n q =
      by_eq (FirstOther a z) b 0xff
      (λ e. other_more a z (s.0 ∙ e) (in_place c (a + 1)) (first_other c (a + 1) z s.1 (omega arith) (behind_padding b c e q)))
      (λ e. (le_refl a, omega arith, λ j k l. absurd (omega arith), s.0, e, no_small b c q, no_long b c q))

  -- ---- the other way: such a byte, or none, and no integer is found
  abbrev InPlaceIs : List ℕ → ℕ → Evidence → Type 0
  InPlaceIs c a v = (O.leading c ≡ O.absent) × (in_place c a ≡ v)

  is_more : (b : ℕ) (c : List ℕ) (a : ℕ) (v : Evidence) → b ≡ 0xff → InPlaceIs c (a + 1) v → InPlaceIs (b ∷ c) a v
  unfolding in_place
  is_more b c a v k p = (past_padding b c k p.0, if_eq_yes b 0xff _ _ k ∙ p.1)

  pub byte_in_place : (c : List ℕ) (a z q : ℕ) → From a c → a + length c ≡ z → get_or m q 0 < 256 → a ≤ q → q < z → Padded m a q → get_or m q 0 ≢ 0xff
      → class_of (get_or m q 0) ≢ C.Sinteger → class_of (get_or m q 0) ≢ C.Linteger → InPlaceIs c a (Byte (get_or m q 0) q)
  unfolding in_place O.leading
  byte_in_place [] a z q s n t k l p x y w = absurd (omega arith)
  byte_in_place (b ∷ c) a z q s n t k l p x y w =
      split a q
      (λ g.
      is_more b c a (Byte (get_or m q 0) q) (sym s.0 ∙ p a (le_refl a) g)
      (byte_in_place c (a + 1) z q s.1 (omega arith) t (omega arith) l (λ j u v. p j (omega arith) v) x y w))
      (λ g.
      let e : a ≡ q = omega arith in
      let is : b ≡ get_or m q 0 = sym s.0 ∙ ap (λ j. get_or m j 0) e in (
        ap (λ j. O.leading_by (class_of j) j c (O.leading c)) is
            ∙ no_leading (class_of (get_or m q 0)) (get_or m q 0) c (O.leading c) y w (no_padding (get_or m q 0) t x),
        if_eq_no b 0xff _ _ (λ j. x (sym is ∙ j)) ∙ ap (λ j. Byte j a) is ∙ ap (Byte (get_or m q 0)) e,
      ))

  pub none_in_place : (c : List ℕ) (a z : ℕ) → From a c → a + length c ≡ z → Padded m a z → InPlaceIs c a Absent
  unfolding in_place O.leading
  none_in_place [] a z s n p = (refl, refl)
  none_in_place (b ∷ c) a z s n p =
      is_more b c a Absent (sym s.0 ∙ p a (le_refl a) (omega arith)) (none_in_place c (a + 1) z s.1 (omega arith) (λ j u v. p j (omega arith) v))
