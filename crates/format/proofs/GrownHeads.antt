-- Bytes more behind the head of an object: it stays as it is, unless it wanted bytes; then it wants so many fewer. Bytes behind its own
-- extent make no difference to it. Assumes nothing.
use Prim.Native.Nat.{ℕ, zero, suc, ◌+◌, ◌-◌, ◌≤◌, ◌<◌}
use native.Mathlib.Omega.{arith}
use mathlib.Core.Path.{◌≡◌, refl, sym, ap, ◌∙◌, subst}
use mathlib.Core.Logic.{◌⊎◌, inl, inr}
use mathlib.Core.Option.{Option, some}
use mathlib.Core.List.{List, [], ◌∷◌, ◌++◌}
use lib.ListN.{length, take, drop, length-append, length-drop}
use lib.Seq.{take-append-le, drop-append-le}
use Rattle.format.specs.Numbers.{val}
use Rattle.format.specs.Refusals.{Fault, wants}
use Rattle.format.specs.Objects as O
use Rattle.format.specs.Extents.{extent_of}
use Rattle.format.proofs.Choices.{if_lt_yes, if_lt_no, by_lt, by_lt₂}
use Rattle.format.proofs.Extents.{Whole, Measure, fixedly, by_size, measured, Fits, extent_fits, Spans, measures, HeadSpans, head_spans}

-- ---- a size of which m bytes are there, with l more behind: the same; or so many fewer of its bytes wanting, till all have come
-- a size field of h bytes wants k, with m of them there: "one, if even its first byte is absent"
abbrev pub FieldWants : ℕ → ℕ → ℕ → Type 0
FieldWants zero h k = (k ≡ 1) × (0 < h)
FieldWants (suc m) h k = suc m + k ≡ h

abbrev pub Field : ℕ → ℕ → O.Size → Type 0
Field m k (O.cut j) = Unit {0}
Field m k (O.size h n) = FieldWants m h k

abbrev pub SizeGrown : ℕ → ℕ → O.Size → O.Size → Type 0
SizeGrown m l (O.size h n) z = z ≡ O.size h n
SizeGrown m l (O.cut k) z = (l < k → z ≡ O.cut (k - l)) × Field m k z

long_grown : (k : ℕ) (s t : List ℕ) → SizeGrown (suc (length s)) (length t) (O.long_size k s) (O.long_size k (s ++ t))
unfolding O.long_size
long_grown k s t =
    by_lt (λ x. SizeGrown (suc (length s)) (length t) x (O.long_size k (s ++ t))) (length s) k
    (λ l. (
      λ m.
          let e : k - length (s ++ t) ≡ k - length s - length t = omega (arith, length-append s t) in
          if_lt_yes (length (s ++ t)) k _ _ (omega (arith, length-append s t)) ∙ ap O.cut e,
      by_lt (Field (suc (length s)) (k - length s)) (length (s ++ t)) k (λ i. tt) (λ i. omega arith),
    ))
    (λ g.
    if_lt_no (length (s ++ t)) k _ _ (omega (arith, length-append s t))
    ∙ ap (λ p. O.size (1 + k) (val p)) (take-append-le k s t g))

none_grown : (t : List ℕ) → SizeGrown 0 (length t) (O.cut 1) (O.size_of t)
unfolding O.size_of O.long_size
none_grown [] = (λ l. refl, tt)
none_grown (b ∷ t) = (
  λ l. absurd (omega arith),
  by_lt (Field 0 1) b 0x80 (λ h. (refl, omega arith)) (λ g. by_lt (Field 0 1) (length t) _ (λ i. tt) (λ i. (refl, omega arith))),
)

size_grown : (s t : List ℕ) → SizeGrown (length s) (length t) (O.size_of s) (O.size_of (s ++ t))
unfolding O.size_of
size_grown [] t = none_grown t
size_grown (b ∷ s) t = by_lt₂ (SizeGrown (length (b ∷ s)) (length t)) b 0x80 (λ l. refl) (λ g. long_grown _ s t)

-- so the field has those that are there and those that it wants
field_ends : (m h k : ℕ) → FieldWants m h k → m + k ≤ h
field_ends zero h k w = omega (arith, w.0, w.1)
field_ends (suc m) h k w = omega arith

-- any extent, with bytes more behind
pub extent_grown : (m : Measure) (s t : List ℕ) → SizeGrown (length s) (length t) (measured m s) (measured m (s ++ t))
extent_grown (fixedly k) s t = refl
extent_grown by_size s t = size_grown s t

-- one that is told within s is told so by s alone
pub extent_less : (m : Measure) (s t : List ℕ) (h n : ℕ) → measured m (s ++ t) ≡ O.size h n → h ≤ length s → measured m s ≡ O.size h n
extent_less m s t h n q l = go (measured m s) (extent_fits m s) (subst (SizeGrown (length s) (length t) (measured m s)) q (extent_grown m s t))
  where
    go : (z : O.Size) → Fits s z → SizeGrown (length s) (length t) z (O.size h n) → z ≡ O.size h n
    go (O.cut k) f g = absurd (omega (arith, field_ends (length s) h k g.1))
    go (O.size i j) f g = sym g

pub contents_grown : (s t : List ℕ) (h n : ℕ) → h + n ≤ length s → O.contents (s ++ t) h n ≡ O.contents s h n
unfolding O.contents
contents_grown s t h n l =
    ap (take n) (drop-append-le h s t (omega arith)) ∙ take-append-le n (drop h s) t (omega (arith, length-drop h s))

-- ---- a head: the same, unless the object wants bytes
-- with l bytes more a head that was refused by f, for the want of some, is z: it wants so many fewer, while some are wanting
pub record Wanted (why l : ℕ) (f : Fault) (z : O.Head) : Type 0 where
  pub lack : ℕ
  pub told : f ≡ wants why lack
  pub still : l < lack → z ≡ O.stop (wants why (lack - l))

abbrev pub HeadGrown : ℕ → ℕ → O.Head → O.Head → Type 0
HeadGrown d l (O.stop f) z = ((2 < f.number) × (z ≡ O.stop f)) ⊎ Wanted (O.past_end d) l f z
HeadGrown d l (O.gives xs u) z = z ≡ O.gives xs u
HeadGrown d l (O.opens w h n) z = z ≡ O.opens w h n

head_same : (d l e : ℕ) (x z : O.Head) → z ≡ x → Whole e x → HeadGrown d l x z
head_same d l e (O.stop f) z q n = inl (n, q)
head_same d l e (O.gives xs u) z q n = q
head_same d l e (O.opens w h i) z q n = q

module _ (d : ℕ) (s t : List ℕ) (head : List ℕ → O.Head) (extent : List ℕ → Option O.Size) (o : Spans d head extent) where
  abbrev made : List ℕ → O.Size → O.Head
  made p z = O.within d p (λ h n. o.make h n (O.contents p h n)) z

  -- one whose extent lies within s is made of its own contents
  made_within : (p : List ℕ) (h n : ℕ) → h + n ≤ length p → made p (O.size h n) ≡ o.make h n (O.contents p h n)
  unfolding O.within
  made_within p h n l = if_lt_no (length p - h) n _ _ (omega arith)

  made_same : (h n : ℕ) → h + n ≤ length s → made (s ++ t) (O.size h n) ≡ o.make h n (O.contents s h n)
  made_same h n l = made_within (s ++ t) h n (omega (arith, length-append s t)) ∙ ap (o.make h n) (contents_grown s t h n l)

  made_grown : (x z : O.Size) → measured o.from s ≡ x → Fits s x → SizeGrown (length s) (length t) x z → HeadGrown d (length t) (made s x) (made (s ++ t) z)
  unfolding O.within
  made_grown (O.cut k) z p i e = inr (record { lack = k; told = refl; still = λ l. ap (made (s ++ t)) (e.0 l) })
  made_grown (O.size h n) z p i e =
      subst (λ y. HeadGrown d (length t) (made s (O.size h n)) (made (s ++ t) y)) (sym e)
      (by_lt (λ x. HeadGrown d (length t) x (made (s ++ t) (O.size h n))) (length s - h) n
      (λ l. inr (record {
        lack = n - (length s - h);
        told = refl;
        still = λ m.
            let q : n - (length (s ++ t) - h) ≡ n - (length s - h) - length t = omega (arith, length-append s t) in
            if_lt_yes (length (s ++ t) - h) n _ _ (omega (arith, length-append s t)) ∙ ap (λ j. O.stop (wants (O.past_end d) j)) q;
      }))
      (λ l. head_same d (length t) (h + n) (o.make h n (O.contents s h n)) _ (made_same h n (omega arith)) (o.whole s h n p (omega arith))))

module _ (d b : ℕ) (s t : List ℕ) where
  pub head_grown : HeadGrown d (length t) (O.head_of d b s) (O.head_of d b (s ++ t))
  head_grown = go (head_spans d b)
    where
      go : HeadSpans d b → HeadGrown d (length t) (O.head_of d b s) (O.head_of d b (s ++ t))
      go (inl r) = subst (λ y. HeadGrown d (length t) y (O.head_of d b (s ++ t))) (sym (r.stops s)) (inl (r.late, r.stops (s ++ t)))
      go (inr o) =
          subst (λ y. HeadGrown d (length t) y (O.head_of d b (s ++ t))) (sym (o.is s))
          (subst (HeadGrown d (length t) (made d s t _ _ o s (measured o.from s))) (sym (o.is (s ++ t)))
          (made_grown d s t _ _ o (measured o.from s) (measured o.from (s ++ t)) refl (extent_fits o.from s) (extent_grown o.from s t)))

  -- What a head says comes of the bytes of its own extent alone.
  pub head_own : (h n : ℕ) → extent_of b (s ++ t) ≡ some (O.size h n) → h + n ≤ length s → O.head_of d b s ≡ O.head_of d b (s ++ t)
  head_own h n x l = go (head_spans d b)
    where
      go : HeadSpans d b → O.head_of d b s ≡ O.head_of d b (s ++ t)
      go (inl r) = r.stops s ∙ sym (r.stops (s ++ t))
      go (inr o) =
          let e = measures d _ _ o (s ++ t) (O.size h n) x in
          o.is s ∙ ap (made d s t _ _ o s) (extent_less o.from s t h n e (omega arith)) ∙ made_within d s t _ _ o s h n l
          ∙ sym (made_same d s t _ _ o h n l) ∙ sym (ap (made d s t _ _ o (s ++ t)) e) ∙ sym (o.is (s ++ t))
