-- The head of an object by its extent. It is refused by its type-byte alone; or, where its extent passes the end, for the want of bytes; or
-- it is made of the bytes of its extent and of no others. Assumes nothing.
use Prim.Native.Nat.{ℕ, zero, suc, ◌+◌, ◌-◌, ◌≤◌, ◌<◌, zero-le}
use native.Mathlib.Omega.{arith}
use mathlib.Core.Path.{◌≡◌, refl, sym, ap, ◌∙◌, subst}
use mathlib.Core.Logic.{◌⊎◌, inl, inr}
use mathlib.Core.Option.{Option, some}
use mathlib.Core.List.{List, [], ◌∷◌}
use lib.ListN.{length, take, drop}
use lib.IntN.{pos, negsuc}
use Rattle.format.specs.declared.Class.{Class}
use Rattle.format.specs.declared.Class.TheVariants as C
use Rattle.format.specs.Bits.{bytes_for}
use Rattle.format.specs.Choice.{if_lt}
use Rattle.format.specs.Refusals.{here, wants, bad_bits, bad_repeat, depth_limit}
use Rattle.format.specs.Items.{Items, end, group, struc}
use Rattle.format.specs.Classes.{class_of}
use Rattle.format.specs.Objects as O
use Rattle.format.specs.Extents.{extent_by, extent_of}
use Rattle.format.proofs.Choices.{if_lt_no, split, by_eq, if_lt_yes}
use Rattle.format.proofs.Sizes.{SizeFits, size_fits, contents_length}
use Rattle.format.proofs.HeadCases.{Led, led}

-- refused with another number than 2, or with e bytes behind its type-byte
abbrev pub Whole : ℕ → O.Head → Type 0
Whole e (O.stop f) = 2 < f.number
Whole e (O.gives xs u) = u ≡ e
Whole e (O.opens w h n) = h + n ≡ e

-- where an extent comes from: the type-byte alone, or the size field
pub data Measure : Type 0 where
  fixedly : ℕ → Measure
  by_size : Measure

abbrev pub measured : Measure → List ℕ → O.Size
measured (fixedly k) s = O.size 0 k
measured by_size s = O.size_of s

-- it lies within the bytes that tell it, or some are wanting
abbrev pub Fits : List ℕ → O.Size → Type 0
Fits s (O.cut k) = 0 < k
Fits s (O.size h n) = h ≤ length s

pub extent_fits : (m : Measure) (s : List ℕ) → Fits s (measured m s)
extent_fits (fixedly k) s = zero-le
extent_fits by_size s = go (O.size_of s) (size_fits s)
  where
    go : (z : O.Size) → SizeFits s z → Fits s z
    go (O.cut k) f = f
    go (O.size h n) f = f.0

-- refused, whatever stands behind the type-byte
pub record Barred (head : List ℕ → O.Head) : Type 0 where
  pub why : ℕ
  pub late : 2 < why
  pub stops : (s : List ℕ) → head s ≡ O.stop (here why)

-- the meaning's own test that the extent lies within the end, and behind it what is made of the contents alone
pub record Spans (d : ℕ) (head : List ℕ → O.Head) (extent : List ℕ → Option O.Size) : Type 0 where
  pub from : Measure
  pub told : (s : List ℕ) → extent s ≡ some (measured from s)
  pub make : ℕ → ℕ → List ℕ → O.Head
  pub is : (s : List ℕ) → head s ≡ O.within d s (λ h n. make h n (O.contents s h n)) (measured from s)
  pub whole : (s : List ℕ) (h n : ℕ) → measured from s ≡ O.size h n → h + n ≤ length s → Whole (h + n) (make h n (O.contents s h n))

-- so what the extent is
pub measures : (d : ℕ) (head : List ℕ → O.Head) (extent : List ℕ → Option O.Size) (o : Spans d head extent) (s : List ℕ) (z : O.Size)
    → extent s ≡ some z → measured o.from s ≡ z
measures d head extent o s z e = let f = sym (o.told s) ∙ e in cc

abbrev pub ByExtent : ℕ → (List ℕ → O.Head) → (List ℕ → Option O.Size) → Type 0
ByExtent d head extent = Barred head ⊎ Spans d head extent

-- ---- the shapes of a head
module _ (d : ℕ) where
  barred : (why : ℕ) (extent : List ℕ → Option O.Size) → 2 < why → ByExtent d (λ s. O.stop (here why)) extent
  barred why extent l = inl (record { why = why; late = l; stops = λ s. refl })

  fixed_spans : (k : ℕ) (f : List ℕ → O.Head) → ((p : List ℕ) → Whole (length p) (f p)) → ByExtent d (λ s. O.fixed d k s f) (λ s. some (O.size 0 k))
  unfolding O.fixed O.within O.contents
  fixed_spans k f w = inr (record {
    from = fixedly k;
    told = λ s. refl;
    make = λ h n c. f c;
    is = λ s. let e : length s ≡ length s - 0 = omega arith in ap (λ j. if_lt j k (O.stop (wants (O.past_end d) (k - j))) (f (take k s))) e;
    whole = λ s h n e l.
        let z : 0 ≡ h = cc in
        let c = O.contents s h n in
        let q : length c ≡ h + n = omega (arith, contents_length s h n l) in
        subst (λ j. Whole j (f c)) q (w c);
  })

  -- one byte
  byte_spans : (xs : Items) → ByExtent d (λ s. O.gives xs 0) (λ s. some (O.size 0 0))
  unfolding O.within
  byte_spans xs = inr (record {
    from = fixedly 0;
    told = λ s. refl;
    make = λ h n c. O.gives xs 0;
    is = λ s. sym (if_lt_no (length s - 0) 0 _ _ zero-le);
    whole = λ s h n e l. let y : 0 ≡ h = cc in let z : 0 ≡ n = cc in omega arith;
  })

  sized_spans : (f : ℕ → ℕ → List ℕ → O.Head) → ((h n : ℕ) (c : List ℕ) → length c ≡ n → Whole (h + n) (f h n c))
      → ByExtent d (λ s. O.sized d s (λ h n. f h n (O.contents s h n))) (λ s. some (O.size_of s))
  unfolding O.sized
  sized_spans f w = inr (record {
    from = by_size;
    told = λ s. refl;
    make = f;
    is = λ s. refl;
    whole = λ s h n e l. w h n (O.contents s h n) (contents_length s h n l);
  })

  -- a seventeenth container is refused by its type-byte
  container_spans : (head : List ℕ → O.Head) (extent : List ℕ → Option O.Size) → ByExtent d head extent → ByExtent d (λ s. O.container d (head s)) extent
  unfolding O.container
  container_spans head extent x = split d depth_limit (λ l. within x l) (λ l. inl (record { why = 5; late = omega arith; stops = λ s. if_lt_no d depth_limit _ _ l }))
    where
      within : ByExtent d head extent → d < depth_limit → ByExtent d (λ s. O.container d (head s)) extent
      within (inl b) l = inl (record { why = b.why; late = b.late; stops = λ s. if_lt_yes d depth_limit _ _ l ∙ b.stops s })
      within (inr o) l =
          inr (record { from = o.from; told = o.told; make = o.make; is = λ s. if_lt_yes d depth_limit _ _ l ∙ o.is s; whole = o.whole })

  -- what a length or count at the front of the contents c leads on to
  counted_whole : (e why h : ℕ) (c : List ℕ) (f : ℕ → ℕ → O.Head) → 2 < why → ((k u : ℕ) → u ≤ length c → Whole e (f k u))
      → Whole e (O.counted why h f (O.leading c))
  unfolding O.counted
  counted_whole e why h c f l g = go (O.leading c) (led c)
    where
      go : (x : O.Leading) → Led c x → Whole e (O.counted why h f x)
      go O.absent q = l
      go (O.cut_int p k) q = omega arith
      go (O.found (pos k) u) q = g k u q.0
      go (O.found (negsuc k) u) q = l

sbitstr_whole : (p : List ℕ) → Whole (length p) (O.sbitstr_head p)
unfolding O.sbitstr_head
sbitstr_whole [] = omega arith
sbitstr_whole (b ∷ p) = by_eq (Whole (length (b ∷ p))) b 0 (λ e. omega arith) (λ e. refl)

lbitstr_whole : (c : List ℕ) (used k u : ℕ) → Whole used (O.lbitstr c used k u)
unfolding O.lbitstr
lbitstr_whole c used k u = by_eq (Whole used) (length (drop u c)) (bytes_for k) (λ e. refl) (λ e. omega arith)

group_spans : (w : O.Wrap) (d : ℕ) → ByExtent d (λ s. O.group_head w d s) (λ s. some (O.size_of s))
unfolding O.group_head
group_spans w d = container_spans d _ _ (sized_spans d (λ h n c. O.opens w h n) (λ h n c e. refl))

repeat_spans : (d : ℕ) → ByExtent d (λ s. O.repeat_head d s) (λ s. some (O.size_of s))
unfolding O.repeat_head
repeat_spans zero = barred 0 bad_repeat _ (omega arith)
repeat_spans (suc d) =
    container_spans (suc d) _ _
    (sized_spans (suc d) (λ h n c. O.counted bad_repeat h (λ k u. O.opens (O.repeated k) (h + u) (n - u)) (O.leading c))
    (λ h n c e. counted_whole (suc d) (h + n) bad_repeat h c _ (omega arith) (λ k u l. omega arith)))

-- ---- class by class
spans_by : (c : Class) (d b : ℕ) → ByExtent d (λ s. O.head_by c d b s) (λ s. extent_by c b s)
unfolding O.head_by extent_by O.linteger_head O.lbitstr_head O.string_head
spans_by C.Char7 d b = byte_spans d _
spans_by C.Sinteger d b = byte_spans d _
spans_by C.Linteger d b = fixed_spans d (O.following b) O.linteger_head (λ p. refl)
spans_by C.Sbitstr d b = fixed_spans d (O.following b) O.sbitstr_head sbitstr_whole
spans_by C.Lbitstr d b =
    sized_spans d (λ h n c. O.counted bad_bits h (O.lbitstr c (h + n)) (O.leading c))
    (λ h n c e. counted_whole d (h + n) bad_bits h c _ (omega arith) (λ k u l. lbitstr_whole c (h + n) k u))
spans_by C.String d b = container_spans d _ _ (sized_spans d (λ h n c. O.gives (group struc (O.characters c) end) (h + n)) (λ h n c e. refl))
spans_by C.Struc d b = group_spans O.as_struc d
spans_by C.Ustruc d b = group_spans O.as_ustruc d
spans_by C.Edt d b = group_spans O.as_edt d
spans_by C.Repeat d b = repeat_spans d
spans_by C.Xtra d b = byte_spans d _
spans_by C.Bool d b = byte_spans d _
spans_by C.Empty d b = byte_spans d _
spans_by C.Padding d b = byte_spans d _
spans_by C.Reserved d b = barred d 4 _ (omega arith)

-- every head, however deep the object stands
abbrev pub HeadSpans : ℕ → ℕ → Type 0
HeadSpans d b = ByExtent d (λ s. O.head_of d b s) (λ s. extent_of b s)

pub head_spans : (d b : ℕ) → HeadSpans d b
unfolding O.head_of extent_of
head_spans d b = spans_by (class_of b) d b

-- ---- a head that is not refused ends with its extent
abbrev pub Ends : ℕ → O.Head → Type 0
Ends u (O.stop f) = ⊥
Ends u (O.gives xs v) = v ≡ u
Ends u (O.opens w h n) = h + n ≡ u

whole_ends : (e u : ℕ) (x : O.Head) → Whole e x → Ends u x → e ≡ u
whole_ends e u (O.stop f) w i = absurd i
whole_ends e u (O.gives xs v) w i = sym w ∙ i
whole_ends e u (O.opens v h n) w i = sym w ∙ i

-- the extent by the type-byte and size: h bytes of size field, and n behind them
pub head_extent : (d b : ℕ) (s : List ℕ) (u : ℕ) → Ends u (O.head_of d b s) → (h : ℕ) × (n : ℕ) × (extent_of b s ≡ some (O.size h n)) × (h + n ≡ u)
unfolding O.within
head_extent d b s u i = go (head_spans d b)
  where
    Told : Type 0
    Told = (h : ℕ) × (n : ℕ) × (extent_of b s ≡ some (O.size h n)) × (h + n ≡ u)

    by : (o : Spans d (λ p. O.head_of d b p) (λ p. extent_of b p)) (z : O.Size) → measured o.from s ≡ z → Fits s z
        → O.head_of d b s ≡ O.within d s (λ h n. o.make h n (O.contents s h n)) z → Told
    by o (O.cut k) e f r = absurd (subst (Ends u) r i)
    by o (O.size h n) e f r =
        split (length s - h) n (λ l. absurd (subst (Ends u) (r ∙ if_lt_yes (length s - h) n _ _ l) i))
        (λ l.
        let k = subst (Ends u) (r ∙ if_lt_no (length s - h) n _ _ l) i in
        (h, n, o.told s ∙ ap some e, whole_ends (h + n) u (o.make h n (O.contents s h n)) (o.whole s h n e (omega arith)) k))

    go : HeadSpans d b → Told
    go (inl r) = absurd (subst (Ends u) (r.stops s) i)
    go (inr o) = by o (measured o.from s) refl (extent_fits o.from s) (o.is s)
