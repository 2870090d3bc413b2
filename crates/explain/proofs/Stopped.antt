-- An object that is refused by its head: the fact that is told of it holds, and is the one for which it is refused. And of a USTRUC or EDT
-- that is not, its class and contents. Assumes nothing.
use Prim.Native.Nat.{ℕ, zero, suc, ◌+◌, ◌-◌, ◌≤◌, ◌<◌}
use native.Mathlib.Omega.{arith}
use mathlib.Core.Path.{◌≡◌, refl, sym, ap, ◌∙◌, subst}
use mathlib.Core.Logic.{◌≢◌}
use mathlib.Core.Option.{some}
use mathlib.Core.List.{List, [], ◌∷◌, ◌++◌, append-nil}
use lib.ListN.{length, take, drop, get_or, length-drop}
use lib.Seq.{length-take-le, get_or-take}
use lib.IntN.{pos, negsuc}
use Rattle.format.specs.declared.Class.{Class}
use Rattle.format.specs.declared.Class.TheVariants as C
use Rattle.format.specs.Choice.{if_eq}
use Rattle.format.specs.Bits.{bytes_for}
use Rattle.format.specs.Refusals.{Fault, here, wants, further, past_enclosing, unassigned, too_deep, bad_bits, bad_repeat, depth_limit}
use Rattle.format.specs.Classes.{class_of}
use Rattle.format.specs.Objects as O
use Rattle.format.specs.Extents.{extent_by, extent_of}
use Rattle.format.proofs.Choices.{if_lt_yes, if_lt_no, if_eq_yes, if_eq_no, by_lt, by_eq}
use Rattle.format.proofs.Sizes.{SizeFits, size_fits}
use Rattle.format.proofs.TypeBytes.{InClass, in_class, following_range}
use Rattle.format.proofs.HeadCases.{Led, led, past_range}
use Rattle.explain.specs.declared.evidence.Evidence.{Evidence}
use Rattle.explain.specs.declared.evidence.Evidence.TheVariants.{Nothing, End, Byte, Number, Absent, Kinds, Element, NoElement, Wanted}
use Rattle.explain.specs.Reasons.{between, head_at, in_place, counted, counting, stopped, own_place}
use Rattle.explain.specs.Facts as F
use Rattle.explain.specs.Facts.{Fact, Passes, Contents, Counts, Holds}
use Rattle.explain.proofs.BetweenLaws.{between_cons, between_length, between_contents}
use Rattle.explain.proofs.InPlace.{FirstOther, from_between, first_other}

module _ (m ps : List ℕ) (i e : ℕ) (there : i < e) (to : e ≤ length m) where
  abbrev d : ℕ
  d = length ps

  abbrev byte : ℕ
  byte = get_or m i 0

  abbrev behind : List ℕ
  behind = between m (i + 1) e

  abbrev size : O.Size
  size = O.size_of behind

  long : length behind ≡ e - (i + 1)
  long = between_length m (i + 1) e to

  -- a container whose elements are looked at
  abbrev pub Opening : O.Wrap → ℕ → ℕ → Type 0
  Opening O.as_struc h n = Unit {0}
  Opening O.as_ustruc h n = (class_of byte ≡ C.Ustruc) × Contents m i e (i + 1 + h) (i + 1 + h + n)
  Opening O.as_edt h n = (class_of byte ≡ C.Edt) × Contents m i e (i + 1 + h) (i + 1 + h + n)
  Opening (O.repeated k) h n = Unit {0}

  -- a head that is refused is refused for its fact
  abbrev FactOf : O.Head → Type 0
  FactOf (O.stop g) = Fact m ps i e g.number (i + g.place) (ps ++ own_place m i (O.stop g)) (stopped m d i e g)
  FactOf (O.gives xs u) = Unit {0}
  FactOf (O.opens w h n) = Opening w h n

  -- at its own place
  at_own : (g : Fault) (v : Evidence) → g.place ≡ 0 → stopped m d i e g ≡ v → Fact m ps i e g.number i ps v → FactOf (O.stop g)
  unfolding own_place
  at_own g v z q f =
      let p : i ≡ i + g.place = omega arith in
      let own : ps ++ own_place m i (O.stop g) ≡ ps = ap (λ l. ps ++ l) (if_lt_no 0 g.place _ _ (omega arith)) ∙ append-nil ps in
      subst (λ x. Fact m ps i e g.number x (ps ++ own_place m i (O.stop g)) (stopped m d i e g)) p
      (subst (λ x. Fact m ps i e g.number i x (stopped m d i e g)) (sym own)
      (subst (Fact m ps i e g.number i ps) (sym q) f))

  -- ---- for the want of bytes
  wanting : (k : ℕ) → Passes m i e → FactOf (O.stop (wants (O.past_end d) k))
  unfolding stopped
  wanting k p = at_own (wants (O.past_end d) k) (End e) refl (if_lt_yes (O.past_end d) unassigned _ _ (omega (arith, (past_range d).1))) (F.own_end p)

  by_fixed : (k : ℕ) (f : List ℕ → O.Head) → extent_of byte behind ≡ some (O.size 0 k) → (k ≤ length behind → FactOf (f (take k behind))) → FactOf (O.fixed d k behind f)
  unfolding O.fixed
  by_fixed k f x g = by_lt FactOf (length behind) k (λ l. wanting (k - length behind) (F.in_contents_case 0 k x (omega (arith, long)))) g

  by_sized : (f : ℕ → ℕ → O.Head) → extent_of byte behind ≡ some size
      → ((h n : ℕ) → size ≡ O.size h n → i + 1 + h + n ≤ e → FactOf (f h n)) → FactOf (O.sized d behind f)
  unfolding O.sized O.within
  by_sized f x g = go size refl (size_fits behind)
    where
      go : (z : O.Size) → size ≡ z → SizeFits behind z → FactOf (O.within d behind f z)
      go (O.cut k) q w = wanting k (F.in_size k w (x ∙ ap some q))
      go (O.size h n) q w =
          by_lt FactOf (length behind - h) n (λ l. wanting (n - (length behind - h)) (F.in_contents_case h n (x ∙ ap some q) (omega (arith, long, w.0))))
          (λ l. g h n q (omega (arith, long, w.0)))

  -- ---- a seventeenth container
  by_container : (f : O.Head) → length ps ≤ depth_limit → Holds (class_of byte) → FactOf f → FactOf (O.container d f)
  unfolding O.container stopped
  by_container f k c g = by_lt FactOf d depth_limit (λ l. g) (λ l. at_own (here too_deep) Nothing refl refl (F.seventeenth c (omega arith)))

  -- ---- a length or count at the front of the contents
  module _ (h n : ℕ) (sized : size ≡ O.size h n) (fits : i + 1 + h + n ≤ e) where
    abbrev a : ℕ
    a = i + 1 + h

    abbrev z : ℕ
    z = i + 1 + h + n

    abbrev c : List ℕ
    c = between m a z

    inside : Contents m i e a z
    inside = F.from_to h n sized fits

    pub contents_here : O.contents behind h n ≡ c
    contents_here = between_contents m (i + 1) e h n (omega arith)

    pub contents_long : length c ≡ n
    contents_long = omega (arith, between_length m a z (omega arith))

    pub counting_by : (x : O.Leading) → O.leading c ≡ x → counting m i size ≡ counted c a x
    unfolding counting
    counting_by x q = ap (counting m i) sized ∙ ap (counted c a) q

    -- it is cut short, at its own place
    cut_short : (own : List ℕ) (p k : ℕ) → if_eq byte 0xc4 (i ∷ []) [] ≡ own → O.leading c ≡ O.cut_int p k
        → Fact m ps i e past_enclosing (a + p) (ps ++ own) (End z) → FactOf (O.stop (further (1 + h + p) (wants past_enclosing k)))
    unfolding own_place stopped counted further
    cut_short own p k o q f =
        let g : Fault = further (1 + h + p) (wants past_enclosing k) in
        let x : a + p ≡ i + g.place = omega arith in
        let y : own_place m i (O.stop g) ≡ own = if_lt_yes 0 g.place _ _ (omega arith) ∙ o in
        let v : stopped m d i e g ≡ End z =
        if_lt_yes 0 g.place _ _ (omega arith) ∙ counting_by (O.cut_int p k) q ∙ ap (λ l. End (a + l)) contents_long in
        subst (λ j. Fact m ps i e past_enclosing j (ps ++ own_place m i (O.stop g)) (stopped m d i e g)) x
        (subst (λ l. Fact m ps i e past_enclosing (a + p) (ps ++ l) (stopped m d i e g)) (sym y)
        (subst (Fact m ps i e past_enclosing (a + p) (ps ++ own)) (sym v) f))

    -- `why` is its number
    module _ (why : ℕ) (counts : Counts d byte why) where
      no_int : (x : Evidence) → FirstOther m a z x → Fact m ps i e why i ps x
      no_int (Byte v q) f =
          let is = f.3 in
          subst (λ b. Fact m ps i e why i ps (Byte b q)) is
          (F.other_byte why a z q counts inside f.0 f.1 f.2 (λ r. f.4 (sym is ∙ r)) (λ r. f.5 (ap class_of (sym is) ∙ r)) (λ r. f.6 (ap class_of (sym is) ∙ r)))
      no_int Absent f = F.no_object why a z counts inside f
      no_int Nothing f = absurd f
      no_int (End x) f = absurd f
      no_int (Number x) f = absurd f
      no_int (Kinds p q) f = absurd f
      no_int (Element k p) f = absurd f
      no_int (NoElement k) f = absurd f
      no_int (Wanted r w) f = absurd f

      by_counted : (f : ℕ → ℕ → O.Head) (own : List ℕ) → stopped m d i e (here why) ≡ counting m i size → if_eq byte 0xc4 (i ∷ []) [] ≡ own
          → ((p k : ℕ) → 0 < k → O.leading c ≡ O.cut_int p k → Fact m ps i e past_enclosing (a + p) (ps ++ own) (End z))
          → ((k u : ℕ) → O.leading c ≡ O.found (pos k) u → FactOf (f k u)) → FactOf (O.counted why h f (O.leading (O.contents behind h n)))
      unfolding O.counted counted
      by_counted f own s o short right = subst (λ l. FactOf (O.counted why h f (O.leading l))) (sym contents_here) (go (O.leading c) refl (led c))
        where
          go : (x : O.Leading) → O.leading c ≡ x → Led c x → FactOf (O.counted why h f x)
          go O.absent q w =
              at_own (here why) (in_place c a) refl (s ∙ counting_by O.absent q)
              (no_int (in_place c a) (first_other m c a z (from_between m a z (omega arith) (omega arith)) (omega (arith, contents_long)) q))
          go (O.cut_int p k) q w = cut_short own p k o q (short p k w.1 q)
          go (O.found (pos k) u) q w = right k u q
          go (O.found (negsuc k) u) q w = at_own (here why) (Number (negsuc k)) refl (s ∙ counting_by (O.found (negsuc k) u) q) (F.negative why a z k u counts inside q)

  -- ---- class by class
  pub sixth : byte ≡ 0xc1 → stopped m d i e (here bad_bits) ≡ counting m i size
  unfolding stopped
  sixth q = if_eq_yes byte 0xc1 _ _ q

  pub seventh : d ≢ 0 → stopped m d i e (here bad_repeat) ≡ counting m i size
  unfolding stopped
  seventh q = if_eq_no d 0 _ _ q

  by_sbitstr : class_of byte ≡ C.Sbitstr → (k : ℕ) → 0 < k → k ≤ length behind → (p : List ℕ) → take k behind ≡ p → FactOf (O.sbitstr_head p)
  unfolding O.sbitstr_head stopped
  by_sbitstr q k g l [] x = absurd (omega (arith, ap length x, length-take-le k behind l))
  by_sbitstr q k g l (b ∷ p) x =
      by_eq FactOf b 0 (λ y. at_own (here bad_bits) (Byte 0 (i + 1)) refl (if_eq_no byte 0xc1 _ _ other) (F.no_marker q (omega (arith, long)) (first ∙ y))) (λ y. tt)
    where
      other : byte ≢ 0xc1
      other = let c = subst (InClass byte) q (in_class byte) in omega arith

      first : get_or m (i + 1) 0 ≡ b
      first = ap (λ c. get_or c 0 0) (sym (between_cons m (i + 1) e (omega (arith, long)) to)) ∙ sym (get_or-take k behind 0 0 g) ∙ ap (λ c. get_or c 0 0) x

  by_lbitstr : byte ≡ 0xc1 → (h n : ℕ) → size ≡ O.size h n → i + 1 + h + n ≤ e
      → FactOf (O.counted bad_bits h (O.lbitstr (O.contents behind h n) (h + n)) (O.leading (O.contents behind h n)))
  unfolding O.lbitstr counted
  by_lbitstr q h n x l =
      let none : byte ≢ 0xc4 = omega arith in
      by_counted h n x l bad_bits counts (O.lbitstr (O.contents behind h n) (h + n)) [] (sixth q) (if_eq_no byte 0xc4 _ _ none)
      (λ p k g y. subst (λ own. Fact m ps i e past_enclosing (i + 1 + h + p) own (End (i + 1 + h + n))) (sym (append-nil ps)) (F.length_end (i + 1 + h) (i + 1 + h + n) p k q (F.from_to h n x l) g y))
      (λ k u y. by_eq FactOf (length (drop u (O.contents behind h n))) (bytes_for k) (λ r. tt)
      (λ r. at_own (here bad_bits) (Number (pos k)) refl (sixth q ∙ counting_by h n x l (O.found (pos k) u) y)
      (F.disagreeing (i + 1 + h) (i + 1 + h + n) k u q (F.from_to h n x l) y (λ w. r (lengths u ∙ w)))))
    where
      counts : Counts d byte bad_bits
      counts = subst (λ b. Counts d b bad_bits) (sym q) F.bits

      lengths : (u : ℕ) → length (drop u (O.contents behind h n)) ≡ i + 1 + h + n - (i + 1 + h + u)
      lengths u =
          let c = between m (i + 1 + h) (i + 1 + h + n) in
          let k : length (drop u c) ≡ i + 1 + h + n - (i + 1 + h + u) = omega (arith, length-drop u c, contents_long h n x l) in
          ap (λ c. length (drop u c)) (contents_here h n x l) ∙ k

  by_repeat : byte ≡ 0xc4 → d ≢ 0 → (h n : ℕ) → size ≡ O.size h n → i + 1 + h + n ≤ e
      → FactOf (O.counted bad_repeat h (λ k u. O.opens (O.repeated k) (h + u) (n - u)) (O.leading (O.contents behind h n)))
  by_repeat q g h n x l =
      let counts : Counts d byte bad_repeat = subst (λ b. Counts d b bad_repeat) (sym q) (F.copies (omega arith)) in
      by_counted h n x l bad_repeat counts (λ k u. O.opens (O.repeated k) (h + u) (n - u)) (i ∷ []) (seventh g) (if_eq_yes byte 0xc4 _ _ q)
      (λ p k g y. F.count_end (i + 1 + h) (i + 1 + h + n) p k q (F.from_to h n x l) g y) (λ k u y. tt)

  repeat_fact : (k : ℕ) → k ≡ d → byte ≡ 0xc4 → class_of byte ≡ C.Repeat → extent_of byte behind ≡ some size → length ps ≤ depth_limit → FactOf (O.repeat_head k behind)
  unfolding O.repeat_head stopped
  repeat_fact zero p q r x l = at_own (here bad_repeat) (Byte 0xc4 i) refl (if_eq_yes d 0 _ _ (sym p) ∙ ap (λ b. Byte b i) q) (F.outermost q (none ps (sym p)))
    where
      none : (qs : List ℕ) → length qs ≡ 0 → qs ≡ []
      none [] z = refl
      none (y ∷ qs) z = absurd (omega arith)
  repeat_fact (suc k) p q r x l =
      let g : d ≢ 0 = omega arith in
      subst (λ j. FactOf (O.container j (O.sized j behind (λ h n. O.counted bad_repeat h (λ k u. O.opens (O.repeated k) (h + u) (n - u)) (O.leading (O.contents behind h n))))))
      (sym p)
      (by_container _ l (subst Holds (sym r) F.repeat) (by_sized _ x (λ h n y f. by_repeat q g h n y f)))

  group_fact : (w : O.Wrap) → Holds (class_of byte) → extent_of byte behind ≡ some size → length ps ≤ depth_limit
      → ((h n : ℕ) → Contents m i e (i + 1 + h) (i + 1 + h + n) → Opening w h n) → FactOf (O.group_head w d behind)
  unfolding O.group_head
  group_fact w c x l g = by_container _ l c (by_sized (O.opens w) x (λ h n y f. g h n (F.from_to h n y f)))

  class_fact : (c : Class) → class_of byte ≡ c → length ps ≤ depth_limit → FactOf (O.head_by c d byte behind)
  unfolding O.head_by extent_of extent_by O.linteger_head O.lbitstr_head O.string_head stopped
  class_fact C.Char7 q l = tt
  class_fact C.Sinteger q l = tt
  class_fact C.Linteger q l = by_fixed (O.following byte) O.linteger_head (ap (λ c. extent_by c byte behind) q) (λ g. tt)
  class_fact C.Sbitstr q l =
      by_fixed (O.following byte) O.sbitstr_head (ap (λ c. extent_by c byte behind) q)
      (λ g. by_sbitstr q (O.following byte) (following_range byte).0 g (take (O.following byte) behind) refl)
  class_fact C.Lbitstr q l = by_sized _ (ap (λ c. extent_by c byte behind) q) (λ h n y f. by_lbitstr (subst (InClass byte) q (in_class byte)) h n y f)
  class_fact C.String q l = by_container _ l (subst Holds (sym q) F.string) (by_sized _ (ap (λ c. extent_by c byte behind) q) (λ h n y f. tt))
  class_fact C.Struc q l = group_fact O.as_struc (subst Holds (sym q) F.struc) (ap (λ c. extent_by c byte behind) q) l (λ h n c. tt)
  class_fact C.Ustruc q l = group_fact O.as_ustruc (subst Holds (sym q) F.ustruc) (ap (λ c. extent_by c byte behind) q) l (λ h n c. (q, c))
  class_fact C.Edt q l = group_fact O.as_edt (subst Holds (sym q) F.edt) (ap (λ c. extent_by c byte behind) q) l (λ h n c. (q, c))
  class_fact C.Repeat q l = repeat_fact d refl (subst (InClass byte) q (in_class byte)) q (ap (λ c. extent_by c byte behind) q) l
  class_fact C.Xtra q l = tt
  class_fact C.Bool q l = tt
  class_fact C.Empty q l = tt
  class_fact C.Padding q l = tt
  class_fact C.Reserved q l = at_own (here unassigned) (Byte byte i) refl refl (F.reserved q)

  pub head_fact : length ps ≤ depth_limit → (g : Fault) → head_at m (length ps) i e ≡ O.stop g
      → Fact m ps i e g.number (i + g.place) (ps ++ own_place m i (O.stop g)) (stopped m (length ps) i e g)
  unfolding head_at O.head_of
  head_fact l g q = subst FactOf q (class_fact (class_of byte) refl l)

  pub head_opens : length ps ≤ depth_limit → (w : O.Wrap) (h n : ℕ) → head_at m (length ps) i e ≡ O.opens w h n → Opening w h n
  unfolding head_at O.head_of
  head_opens l w h n q = subst FactOf q (class_fact (class_of byte) refl l)
