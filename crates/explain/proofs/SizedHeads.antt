-- An LBITSTR or REPEAT that is refused for its length or count has its contents within its bytes. Assumes nothing.
use Prim.Native.Nat.{ℕ, zero, suc, ◌-◌, ◌≤◌, ◌<◌}
use native.Mathlib.Omega.{arith}
use mathlib.Core.Path.{◌≡◌, refl, sym, ap, ◌∙◌, subst}
use mathlib.Core.Logic.{◌≢◌, ◌⊎◌, inl, inr}
use mathlib.Core.List.{List, [], ◌∷◌}
use Rattle.std.specs.Prelude.{Ok, Err}
use lib.ListN.{length}
use Rattle.format.specs.declared.Class.{Class}
use Rattle.format.specs.declared.Class.TheVariants as C
use Rattle.format.specs.Refusals.{Fault, here, wants}
use Rattle.format.specs.Classes.{class_of}
use Rattle.format.specs.Objects as O
use Rattle.format.proofs.Choices.{if_lt_yes, if_lt_no, split, by_lt, by_eq}
use Rattle.format.proofs.Sizes.{SizeFits, size_fits}
use Rattle.format.proofs.TypeBytes.{InClass, in_class}
use Rattle.format.proofs.HeadCases.{past_range}
use Rattle.wire.specs.Extents.{ExtentIs}
use Rattle.wire.specs.declared.size.Extent.{Extent}
use Rattle.explain.specs.Told.{SizeIn}

-- the code's answer about a size that tells contents within the bytes
pub within_size : (s : List ℕ) (x : Extent) → ExtentIs s (Ok x) → O.size_of s ≡ O.size x.start x.size
unfolding O.sized O.within
within_size s x is = go (O.size_of s) (is.0 0 (O.opens O.as_struc))
  where
    go : (z : O.Size) → O.within 0 s (O.opens O.as_struc) z ≡ O.opens O.as_struc x.start x.size → z ≡ O.size x.start x.size
    go (O.cut k) e = let z : ◌≡◌ {A = ℕ} 0 1 = cc in absurd (omega arith)
    go (O.size i j) e =
        split (length s - i) j
        (λ l. let y = sym (if_lt_yes (length s - i) j _ _ l) ∙ e in let z : ◌≡◌ {A = ℕ} 0 1 = cc in absurd (omega arith))
        (λ l. let y = sym (if_lt_no (length s - i) j _ _ l) ∙ e in cc)

pub not_wanting : {X : Type 0} (s : List ℕ) (k : ℕ) → SizeIn s → ExtentIs s (Err k) → X
unfolding O.sized O.within
not_wanting s k (h, n, e, l) is =
    let x = sym (if_lt_no (length s - h) n _ _ (omega arith)) ∙ sym (ap (O.within 0 s (O.opens O.as_struc)) e) ∙ is 0 (O.opens O.as_struc) in
    let z : ◌≡◌ {A = ℕ} 0 1 = cc in
    absurd (omega arith)

-- a refusal for a length or count: not at the object's own place; 6 of an LBITSTR; 7 of a REPEAT that is not outermost
abbrev pub OfCount : ℕ → ℕ → Fault → Type 0
OfCount d b f = (0 < f.place) ⊎ (((f.number ≡ 6) × (b ≡ 0xc1)) ⊎ ((7 ≤ f.number) × (d ≢ 0)))

module _ (d b : ℕ) (s : List ℕ) where
  abbrev Fits : O.Head → Type 0
  Fits (O.stop f) = OfCount d b f → SizeIn s
  Fits (O.gives xs u) = Unit {0}
  Fits (O.opens w h n) = Unit {0}

  fits : SizeIn s → (x : O.Head) → Fits x
  fits z (O.stop f) = λ o. z
  fits z (O.gives xs u) = tt
  fits z (O.opens w h n) = tt

  -- refused at its own place, with a number that is no length's or count's
  plain : (f : Fault) → f.place ≡ 0 → (f.number ≡ 6 → b ≢ 0xc1) → (7 ≤ f.number → d ≡ 0) → Fits (O.stop f)
  plain f p q r (inl l) = absurd (omega (arith, l))
  plain f p q r (inr (inl x)) = absurd (q x.0 x.1)
  plain f p q r (inr (inr x)) = absurd (x.1 (r x.0))

  wanting : (k : ℕ) → Fits (O.stop (wants (O.past_end d) k))
  wanting k = plain (wants (O.past_end d) k) refl (λ e. absurd (omega (arith, (past_range d).1))) (λ e. absurd (omega (arith, (past_range d).1)))

  other : (n : ℕ) → n < 6 → Fits (O.stop (here n))
  other n p = plain (here n) refl (λ e. absurd (omega arith)) (λ e. absurd (omega arith))

  by_sized : (f : ℕ → ℕ → O.Head) → Fits (O.sized d s f)
  unfolding O.sized O.within
  by_sized f = go (O.size_of s) refl (size_fits s)
    where
      go : (z : O.Size) → O.size_of s ≡ z → SizeFits s z → Fits (O.within d s f z)
      go (O.cut k) e w = wanting k
      go (O.size h n) e w = by_lt Fits (length s - h) n (λ l. wanting (n - (length s - h))) (λ l. fits (h, n, e, omega (arith, w.0)) (f h n))

  by_container : (f : O.Head) → Fits f → Fits (O.container d f)
  unfolding O.container
  by_container f g = by_lt Fits d 16 (λ l. g) (λ l. other 5 (omega arith))

  by_fixed : (k : ℕ) (f : List ℕ → O.Head) → ((p : List ℕ) → Fits (f p)) → Fits (O.fixed d k s f)
  unfolding O.fixed
  by_fixed k f g = by_lt Fits (length s) k (λ l. wanting (k - length s)) (λ l. g _)

  by_sbits : b ≢ 0xc1 → (p : List ℕ) → Fits (O.sbitstr_head p)
  unfolding O.sbitstr_head
  by_sbits q [] = plain (here 6) refl (λ e. q) (λ e. absurd (omega arith))
  by_sbits q (x ∷ p) = by_eq Fits x 0 (λ e. plain (here 6) refl (λ e. q) (λ e. absurd (omega arith))) (λ e. tt)

by_repeat : (d b : ℕ) (s : List ℕ) → Fits d b s (O.repeat_head d s)
unfolding O.repeat_head
by_repeat zero b s = plain 0 b s (here 7) refl (λ e. absurd (omega arith)) (λ e. refl)
by_repeat (suc d) b s = by_container (suc d) b s _ (by_sized (suc d) b s _)

by_class : (c : Class) (d b : ℕ) (s : List ℕ) → InClass b c → Fits d b s (O.head_by c d b s)
unfolding O.head_by O.linteger_head O.lbitstr_head O.string_head O.group_head
by_class C.Char7 d b s r = tt
by_class C.Sinteger d b s r = tt
by_class C.Linteger d b s r = by_fixed d b s (O.following b) O.linteger_head (λ p. tt)
by_class C.Sbitstr d b s r = by_fixed d b s (O.following b) O.sbitstr_head (by_sbits d b s (omega arith))
by_class C.Lbitstr d b s r = by_sized d b s _
by_class C.String d b s r = by_container d b s _ (by_sized d b s _)
by_class C.Struc d b s r = by_container d b s _ (by_sized d b s _)
by_class C.Ustruc d b s r = by_container d b s _ (by_sized d b s _)
by_class C.Edt d b s r = by_container d b s _ (by_sized d b s _)
by_class C.Repeat d b s r = by_repeat d b s
by_class C.Xtra d b s r = tt
by_class C.Bool d b s r = tt
by_class C.Empty d b s r = tt
by_class C.Padding d b s r = tt
by_class C.Reserved d b s r = other d b s 4 (omega arith)

pub count_sized : (d b : ℕ) (s : List ℕ) (f : Fault) → O.head_of d b s ≡ O.stop f → OfCount d b f → SizeIn s
unfolding O.head_of
count_sized d b s f e = subst (Fits d b s) e (by_class (class_of b) d b s (in_class b))
