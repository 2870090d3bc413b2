-- An object's own extent: with bytes more behind it, or none, an object that lies in the input still does, and ends where it did; and one
-- that is read ends with it. Assumes nothing.
use Prim.Native.Nat.{ℕ, ◌+◌, ◌≤◌, ◌<◌}
use native.Mathlib.Omega.{arith}
use mathlib.Core.Path.{◌≡◌, refl, sym, ap, ◌∙◌, subst}
use mathlib.Core.Logic.{◌≢◌}
use mathlib.Core.Option.{Option, none, some}
use mathlib.Core.List.{List, ◌++◌}
use lib.ListN.{length, take, drop, length-append, take-append-drop}
use lib.Seq.{length-take-le}
use Rattle.format.specs.declared.Class.{Class}
use Rattle.format.specs.declared.Class.TheVariants as C
use Rattle.format.specs.Items.{Items}
use Rattle.format.specs.Classes.{class_of}
use Rattle.format.specs.Objects.{Size, cut, size, following}
use Rattle.format.specs.Messages.{got}
use Rattle.format.specs.Runs.{object_at}
use Rattle.format.specs.Extents.{extent_by, extent_of}
use Rattle.format.proofs.Choices.{by_lt, split, if_lt_yes, if_lt_no, if_eq_no}
use Rattle.format.proofs.Extents.{Measure, fixedly, by_size, measured}
use Rattle.format.proofs.GrownHeads.{SizeGrown, extent_grown, extent_less}
use Rattle.format.proofs.Apart.{got_extent}
use Rattle.salvage.specs.Mending.{own_extent, lying}
use Rattle.salvage.specs.Words.{IsOne}

-- ---- it comes from the type-byte alone, or from the size field; or it is not known, whatever stands behind the type-byte
pub data OwnBy (extent : List ℕ → Option Size) : Type 0 where
  unknown : ((s : List ℕ) → extent s ≡ none) → OwnBy extent
  known : (m : Measure) → ((s : List ℕ) → extent s ≡ some (measured m s)) → OwnBy extent

by_class : (c : Class) (b : ℕ) → OwnBy (λ s. extent_by c b s)
unfolding extent_by
by_class C.Char7 b = known (fixedly 0) (λ s. refl)
by_class C.Sinteger b = known (fixedly 0) (λ s. refl)
by_class C.Linteger b = known (fixedly (following b)) (λ s. refl)
by_class C.Sbitstr b = known (fixedly (following b)) (λ s. refl)
by_class C.Lbitstr b = known by_size (λ s. refl)
by_class C.String b = known by_size (λ s. refl)
by_class C.Struc b = known by_size (λ s. refl)
by_class C.Ustruc b = known by_size (λ s. refl)
by_class C.Edt b = known by_size (λ s. refl)
by_class C.Repeat b = known by_size (λ s. refl)
by_class C.Xtra b = known (fixedly 0) (λ s. refl)
by_class C.Bool b = known (fixedly 0) (λ s. refl)
by_class C.Empty b = known (fixedly 0) (λ s. refl)
by_class C.Padding b = known (fixedly 0) (λ s. refl)
by_class C.Reserved b = unknown (λ s. refl)

-- "C7 to DF have a size like every non-atomic object"
pub unassigned_own : (b : ℕ) (s : List ℕ) → 0xc7 ≤ b → b < 0xe0 → own_extent b s ≡ some (measured by_size s)
unfolding own_extent
unassigned_own b s l h = if_lt_no b 0xc7 _ _ l ∙ if_lt_yes b 0xe0 _ _ h

-- every other type-byte has what the table says of it
pub low_own : (b : ℕ) (s : List ℕ) → b < 0xc7 → own_extent b s ≡ extent_of b s
unfolding own_extent
low_own b s l = if_lt_yes b 0xc7 _ _ l

pub high_own : (b : ℕ) (s : List ℕ) → 0xe0 ≤ b → own_extent b s ≡ extent_of b s
unfolding own_extent
high_own b s l = if_lt_no b 0xc7 _ _ (omega arith) ∙ if_lt_no b 0xe0 _ _ l

alike : (f g : List ℕ → Option Size) → ((s : List ℕ) → f s ≡ g s) → OwnBy g → OwnBy f
alike f g e (unknown n) = unknown (λ s. e s ∙ n s)
alike f g e (known m k) = known m (λ s. e s ∙ k s)

own_by : (b : ℕ) → OwnBy (λ s. own_extent b s)
unfolding extent_of
own_by b =
    split b 0xc7 (λ l. alike _ _ (λ s. low_own b s l) (by_class (class_of b) b))
    (λ l. split b 0xe0 (λ h. known by_size (λ s. unassigned_own b s l h)) (λ h. alike _ _ (λ s. high_own b s h) (by_class (class_of b) b)))

-- ---- with bytes more behind
-- where it lies
lying_is : (s : List ℕ) (h n : ℕ) → h + n ≤ length s → lying s (some (size h n)) ≡ some (h + n)
unfolding lying
lying_is s h n l = if_lt_no (length s) (h + n) _ _ l

-- what tells that it lies in the input: h bytes of size field, and n behind them
lying_by : (s : List ℕ) (e : Option Size) (u : ℕ) → lying s e ≡ some u → (h : ℕ) × (n : ℕ) × (e ≡ some (size h n)) × (h + n ≡ u) × (h + n ≤ length s)
unfolding lying
lying_by s none u = λ q. let z : ◌≡◌ {A = ℕ} 0 1 = cc in absurd (omega arith)
lying_by s (some (cut k)) u = λ q. let z : ◌≡◌ {A = ℕ} 0 1 = cc in absurd (omega arith)
lying_by s (some (size h n)) u =
    by_lt (λ (x : Option ℕ). x ≡ some u → (i : ℕ) × (j : ℕ) × (some (size h n) ≡ some (size i j)) × (i + j ≡ u) × (i + j ≤ length s)) (length s) (h + n)
    (λ l q. let z : ◌≡◌ {A = ℕ} 0 1 = cc in absurd (omega arith))
    (λ l q. let z : h + n ≡ u = cc in (h, n, refl, z, l))

own_grown : (b : ℕ) (s t : List ℕ) (h n : ℕ) → own_extent b s ≡ some (size h n) → own_extent b (s ++ t) ≡ some (size h n)
own_grown b s t h n q = go (own_by b)
  where
    go : OwnBy (λ s. own_extent b s) → own_extent b (s ++ t) ≡ some (size h n)
    go (unknown f) = let e = sym (f s) ∙ q in let z : ◌≡◌ {A = ℕ} 0 1 = cc in absurd (omega arith)
    go (known m f) =
        let e = sym (f s) ∙ q in
        let k : measured m s ≡ size h n = cc in
        f (s ++ t) ∙ ap some (subst (λ z. SizeGrown (length s) (length t) z (measured m (s ++ t))) k (extent_grown m s t))

-- an object that lies in the input still does, and ends where it did
pub lying_grown : (b : ℕ) (s t : List ℕ) (u : ℕ) → lying s (own_extent b s) ≡ some u → lying (s ++ t) (own_extent b (s ++ t)) ≡ some u
lying_grown b s t u q =
    let x = lying_by s (own_extent b s) u q in
    ap (lying (s ++ t)) (own_grown b s t x.0 x.1 x.2) ∙ lying_is (s ++ t) x.0 x.1 (omega (arith, x.4, length-append s t)) ∙ ap some x.3

-- ---- with none behind
-- cut behind its last byte, an object is one still
pub lying_alone : (b : ℕ) (s : List ℕ) (u : ℕ) → lying s (own_extent b s) ≡ some u → IsOne b (take u s)
lying_alone b s u q = go (own_by b)
  where
    x : (h : ℕ) × (n : ℕ) × (own_extent b s ≡ some (size h n)) × (h + n ≡ u) × (h + n ≤ length s)
    x = lying_by s (own_extent b s) u q

    long : length (take u s) ≡ u
    long = length-take-le u s (omega (arith, x.3, x.4))

    go : OwnBy (λ s. own_extent b s) → IsOne b (take u s)
    go (unknown f) = let e = sym (f s) ∙ x.2 in let z : ◌≡◌ {A = ℕ} 0 1 = cc in absurd (omega arith)
    go (known m f) =
        let e = sym (f s) ∙ x.2 in
        let k : measured m s ≡ size x.0 x.1 = cc in
        let y = extent_less m (take u s) (drop u s) x.0 x.1 (ap (measured m) (take-append-drop u s) ∙ k) (omega (arith, x.3, long)) in
        let i : x.0 + x.1 ≡ length (take u s) = x.3 ∙ sym long in
        ap (lying (take u s)) (f (take u s) ∙ ap some y) ∙ lying_is (take u s) x.0 x.1 (omega arith) ∙ ap some i

-- ---- an object that is read ends with its own extent
pub unassigned_class : (b : ℕ) → 0xc7 ≤ b → b < 0xe0 → class_of b ≡ C.Reserved
unfolding class_of
unassigned_class b l h =
    let n0 : b ≢ 0xc0 = omega arith in
    let n1 : b ≢ 0xc1 = omega arith in
    let n2 : b ≢ 0xc2 = omega arith in
    let n3 : b ≢ 0xc3 = omega arith in
    let n4 : b ≢ 0xc4 = omega arith in
    let n5 : b ≢ 0xc5 = omega arith in
    let n6 : b ≢ 0xc6 = omega arith in
    if_lt_no b 0x80 _ _ (omega arith) ∙ if_lt_no b 0xc0 _ _ (omega arith) ∙ if_eq_no b 0xc0 _ _ n0 ∙ if_eq_no b 0xc1 _ _ n1 ∙ if_eq_no b 0xc2 _ _ n2
    ∙ if_eq_no b 0xc3 _ _ n3 ∙ if_eq_no b 0xc4 _ _ n4 ∙ if_eq_no b 0xc5 _ _ n5 ∙ if_eq_no b 0xc6 _ _ n6 ∙ if_lt_yes b 0xe0 _ _ h

-- where the table says something of a type-byte, that is its own extent
told_own : (b : ℕ) (s : List ℕ) (z : Size) → extent_of b s ≡ some z → own_extent b s ≡ some z
unfolding extent_of extent_by
told_own b s z e =
    split b 0xc7 (λ l. low_own b s l ∙ e)
    (λ l. split b 0xe0
    (λ h. let q = sym (ap (λ c. extent_by c b s) (unassigned_class b l h)) ∙ e in let y : ◌≡◌ {A = ℕ} 0 1 = cc in absurd (omega arith))
    (λ h. high_own b s h ∙ e))

pub got_lies : (d b : ℕ) (s t : List ℕ) (xs : Items) → object_at d b s ≡ got xs (length s) → lying (s ++ t) (own_extent b (s ++ t)) ≡ some (length s)
got_lies d b s t xs q =
    let x = got_extent d b s xs (length s) q in
    lying_grown b s t (length s)
    (ap (lying s) (told_own b s (size x.0 x.1) x.2) ∙ lying_is s x.0 x.1 (omega (arith, x.3)) ∙ ap some x.3)
