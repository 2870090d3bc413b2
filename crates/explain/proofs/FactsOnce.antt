-- A fact of an object, its number and its place tell the containers and the evidence: no other can be told for them. Assumes nothing.
use Prim.Native.Nat.{ℕ, zero, suc, ◌+◌, ◌-◌, ◌≤◌, ◌<◌}
use native.Mathlib.Omega.{arith}
use mathlib.Core.Path.{◌≡◌, refl, sym, ap, ap₂, ◌∙◌, subst}
use mathlib.Core.Logic.{◌≢◌, ◌⊎◌, inl, inr}
use mathlib.Core.List.{List, [], ◌∷◌, ◌++◌, append-nil}
use lib.ListN.{length, get_or}
use lib.IntN.{pos, negsuc}
use Rattle.format.specs.declared.Class.TheVariants as C
use Rattle.format.specs.Choice.{if_eq, either}
use Rattle.format.specs.Refusals.{Fault, here, past_enclosing, unassigned, too_deep, bad_bits, bad_repeat, several_kinds, bad_edt, depth_limit}
use Rattle.format.specs.Items.{Items, starts_int, starts_string}
use Rattle.format.specs.Classes.{class_of}
use Rattle.format.specs.Objects as O
use Rattle.format.specs.Messages.{says, bad, closing, reads}
use Rattle.format.proofs.Choices.{if_lt_yes, if_lt_no, if_eq_yes, if_eq_no, pick_yes, pick_no, by_lt}
use Rattle.format.proofs.TypeBytes.{InClass, in_class}
use Rattle.format.proofs.HeadCases.{past_range}
use Rattle.explain.specs.declared.evidence.Evidence.{Evidence}
use Rattle.explain.specs.declared.evidence.Evidence.TheVariants.{Nothing, End, Byte, Number, Absent, Kinds, Element, NoElement}
use Rattle.explain.specs.Reasons.{between, head_at, Stands, elements_in, apart_from, kinds_apart, element_at, wrong_element, closed_wrong, counted, counting, stopped, own_place}
use Rattle.explain.specs.Facts as F
use Rattle.explain.specs.Facts.{Fact, Contents, Counts, Elements, AllKind}
use Rattle.explain.proofs.InPlace.{from_between, byte_in_place, none_in_place}
use Rattle.explain.proofs.Stopped.{head_opens, contents_here, contents_long, counting_by, sixth, seventh}
use Rattle.explain.proofs.WhySteps.{Closing, closes}

-- refused by its head
abbrev pub Stops : O.Head → Type 0
Stops (O.stop g) = Unit {0}
Stops (O.gives xs u) = ⊥
Stops (O.opens w h n) = ⊥

-- with no number above 7
abbrev pub Low : O.Head → Type 0
Low (O.stop g) = g.number ≤ 7
Low (O.gives xs u) = Unit {0}
Low (O.opens w h n) = Unit {0}

group_low : (w : O.Wrap) (d : ℕ) (s : List ℕ) → Low (O.group_head w d s)
unfolding O.group_head O.container O.sized O.within
group_low w d s = by_lt Low d depth_limit (λ l. go (O.size_of s)) (λ l. omega arith)
  where
    go : (z : O.Size) → Low (O.within d s (O.opens w) z)
    go (O.cut k) = omega (arith, (past_range d).1)
    go (O.size h n) = by_lt Low (length s - h) n (λ l. omega (arith, (past_range d).1)) (λ l. tt)

counts_cases : (d b n : ℕ) → Counts d b n → ((b ≡ 0xc1) × (n ≡ bad_bits)) ⊎ ((b ≡ 0xc4) × (n ≡ bad_repeat) × (0 < d))
counts_cases d b n F.bits = inl (refl, refl)
counts_cases d b n (F.copies l) = inr (refl, refl, l)

contents_once : (m : List ℕ) (i e a z b y : ℕ) → Contents m i e a z → Contents m i e b y → (a ≡ b) × (z ≡ y)
contents_once m i e a z b y (F.from_to h n s f) c = go b y c
  where
    go : (b y : ℕ) → Contents m i e b y → (i + 1 + h ≡ b) × (i + 1 + h + n ≡ y)
    go b y (F.from_to k j t g) =
        let p : O.size h n ≡ O.size k j = sym s ∙ t in
        let u : h ≡ k = cc in
        let v : n ≡ j = cc in
        (omega arith, omega arith)

-- 8 is a USTRUC's, 9 an EDT's
closed_8 : (w : O.Wrap) (u : ℕ) (xs : Items) (g : Fault) → closing w u xs ≡ bad g → g.number ≡ several_kinds → w ≡ O.as_ustruc
closed_8 w u xs g q x = go (subst (Closing w u) q (closes w u xs)).1
  where
    go : ((g.number ≡ several_kinds) × (w ≡ O.as_ustruc)) ⊎ ((g.number ≡ bad_edt) × (w ≡ O.as_edt)) → w ≡ O.as_ustruc
    go (inl y) = y.1
    go (inr y) = absurd (omega (arith, y.0))

closed_9 : (w : O.Wrap) (u : ℕ) (xs : Items) (g : Fault) → closing w u xs ≡ bad g → g.number ≡ bad_edt → w ≡ O.as_edt
closed_9 w u xs g q x = go (subst (Closing w u) q (closes w u xs)).1
  where
    go : ((g.number ≡ several_kinds) × (w ≡ O.as_ustruc)) ⊎ ((g.number ≡ bad_edt) × (w ≡ O.as_edt)) → w ≡ O.as_edt
    go (inl y) = absurd (omega (arith, y.0))
    go (inr y) = y.1

-- the earliest of another kind
apart_is : (x y : Stands) (same more : List Stands) → AllKind x.kind same → y.kind ≢ x.kind → apart_from x (same ++ (y ∷ more)) ≡ Kinds x.place y.place
unfolding apart_from
apart_is x y [] more a n = if_eq_no y.kind x.kind _ _ n
apart_is x y (s ∷ same) more a n = if_eq_yes s.kind x.kind _ _ a.0 ∙ apart_is x y same more a.1 n

module _ (m qs : List ℕ) (i e : ℕ) (there : i < e) (to : e ≤ length m) where
  abbrev d : ℕ
  d = length qs

  abbrev byte : ℕ
  byte = get_or m i 0

  abbrev behind : List ℕ
  behind = between m (i + 1) e

  -- ---- a fact of the object by itself: where its head is refused so, this is told
  abbrev Tells : ℕ → ℕ → List ℕ → Evidence → Type 0
  Tells n p ps v = (g : Fault) → g.number ≡ n → i + g.place ≡ p → (ps ≡ qs ++ own_place m i (O.stop g)) × (v ≡ stopped m d i e g)

  abbrev pub ByHead : ℕ → ℕ → List ℕ → Evidence → Type 0
  ByHead n p ps v = (n ≤ 7) × ((p ≡ i) ⊎ Stops (head_at m d i e)) × Tells n p ps v

  -- number and place alone count
  by_numbers : (g : Fault) (n p : ℕ) → g.number ≡ n → g.place ≡ p → stopped m d i e g ≡ stopped m d i e (record { number = n; place = p; missing = 0 })
  unfolding stopped
  by_numbers g n p x y = ap₂ (λ a b. stopped m d i e (record { number = a; place = b; missing = 0 })) x y

  at_place : (n : ℕ) (v : Evidence) → n ≤ 7 → stopped m d i e (here n) ≡ v → ByHead n i qs v
  unfolding own_place
  at_place n v l q = (
    l,
    inl refl,
    λ g x y.
        let z : g.place ≡ 0 = omega arith in
        (sym (ap (λ k. qs ++ k) (if_lt_no 0 g.place _ _ (omega arith)) ∙ append-nil qs), sym (by_numbers g n 0 x z ∙ q)),
  )

  -- a length or count that is cut short
  module _ (h n p k : ℕ) (s : O.size_of behind ≡ O.size h n) (f : i + 1 + h + n ≤ e)
      (q : O.leading (between m (i + 1 + h) (i + 1 + h + n)) ≡ O.cut_int p k) where
    counted_stops : (why : ℕ) (made : ℕ → ℕ → O.Head) → Stops (O.counted why h made (O.leading (O.contents behind h n)))
    unfolding O.counted
    counted_stops why made =
        subst (λ c. Stops (O.counted why h made (O.leading c))) (sym (contents_here m qs i e there to h n s f))
        (subst (λ x. Stops (O.counted why h made x)) (sym q) tt)

    sized_stops : (c : ℕ) (made : ℕ → ℕ → O.Head) → Stops (made h n) → Stops (O.sized c behind made)
    unfolding O.sized O.within
    sized_stops c made g = subst (λ x. Stops (O.within c behind made x)) (sym s) (by_lt Stops (length behind - h) n (λ l. tt) (λ l. g))

    repeat_stops : (c : ℕ) → Stops (O.repeat_head c behind)
    unfolding O.repeat_head O.container
    repeat_stops zero = tt
    repeat_stops (suc c) = by_lt Stops (suc c) depth_limit (λ l. sized_stops (suc c) _ (counted_stops bad_repeat _)) (λ l. tt)

    head_stops : (byte ≡ 0xc4) ⊎ (byte ≡ 0xc1) → Stops (head_at m d i e)
    unfolding head_at O.head_of O.head_by class_of O.lbitstr_head
    head_stops (inl b) = subst (λ y. Stops (O.head_of d y behind)) (sym b) (repeat_stops d)
    head_stops (inr b) = subst (λ y. Stops (O.head_of d y behind)) (sym b) (sized_stops d _ (counted_stops bad_bits _))

    cut_short : (own : List ℕ) → if_eq byte 0xc4 (i ∷ []) [] ≡ own → (byte ≡ 0xc4) ⊎ (byte ≡ 0xc1) → ByHead past_enclosing (i + 1 + h + p) (qs ++ own) (End (i + 1 + h + n))
    unfolding own_place stopped counted
    cut_short own o b = (
      omega arith,
      inr (head_stops b),
      λ g x y.
          let l : 0 < g.place = omega arith in (
            ap (λ c. qs ++ c) (sym (if_lt_yes 0 g.place _ _ l ∙ o)),
            sym (if_lt_yes 0 g.place _ _ l ∙ counting_by m qs i e there to h n s f (O.cut_int p k) q ∙ ap (λ j. End (i + 1 + h + j)) (contents_long m qs i e there to h n s f)),
          ),
    )

  cut_by : (a z p k : ℕ) (own : List ℕ) → Contents m i e a z → O.leading (between m a z) ≡ O.cut_int p k → if_eq byte 0xc4 (i ∷ []) [] ≡ own
      → (byte ≡ 0xc4) ⊎ (byte ≡ 0xc1) → ByHead past_enclosing (a + p) (qs ++ own) (End z)
  cut_by a z p k own (F.from_to h n s f) q o b = cut_short h n p k s f q own o b

  -- one that is wrong
  counts_told : (n : ℕ) → Counts d byte n → (n ≤ 7) × (stopped m d i e (here n) ≡ counting m i (O.size_of behind))
  counts_told n c = go (counts_cases d byte n c)
    where
      go : ((byte ≡ 0xc1) × (n ≡ bad_bits)) ⊎ ((byte ≡ 0xc4) × (n ≡ bad_repeat) × (0 < d)) → (n ≤ 7) × (stopped m d i e (here n) ≡ counting m i (O.size_of behind))
      go (inl x) = (omega (arith, x.1), ap (λ k. stopped m d i e (here k)) x.1 ∙ sixth m qs i e there to x.0)
      go (inr x) =
          let g : d ≢ 0 = omega (arith, x.2) in
          (omega (arith, x.1), ap (λ k. stopped m d i e (here k)) x.1 ∙ seventh m qs i e there to g)

  wrong_by : (n a z : ℕ) (x : O.Leading) (v : Evidence) → Counts d byte n → Contents m i e a z → O.leading (between m a z) ≡ x → counted (between m a z) a x ≡ v → ByHead n i qs v
  wrong_by n a z x v c (F.from_to h k s f) q r =
      let t = counts_told n c in
      at_place n v t.0 (t.1 ∙ counting_by m qs i e there to h k s f x q ∙ r)

  contents_in : (a z : ℕ) → Contents m i e a z → (a ≤ z) × (z ≤ length m) × (a + length (between m a z) ≡ z)
  contents_in a z (F.from_to h n s f) = (omega arith, omega arith, omega (arith, contents_long m qs i e there to h n s f))

  -- ---- a fact of its elements: where it is refused when it closes, this is told
  abbrev pub ByElements : ℕ → ℕ → List ℕ → Evidence → Type 0
  ByElements n p ps v =
      (8 ≤ n) × (p ≡ i) × Low (head_at m d i e)
      × ((w : O.Wrap) (h k : ℕ) (cs : Items) (g : Fault) → head_at m d i e ≡ O.opens w h k → reads (suc d) (between m (i + 1 + h) (i + 1 + h + k)) ≡ says cs
      → closing w (h + k) cs ≡ bad g → g.number ≡ n → (ps ≡ qs) × (v ≡ closed_wrong w (elements_in m (suc d) (i + 1 + h) (i + 1 + h + k)) (says cs)))

  module _ (few : length qs ≤ depth_limit) (a z : ℕ) (inside : Contents m i e a z) (xs : Items) (es : List Stands) (of : Elements m (suc d) a z xs es) where
    same_elements : (b y : ℕ) (cs : Items) → Contents m i e b y → reads (suc d) (between m b y) ≡ says cs → (elements_in m (suc d) b y ≡ es) × (cs ≡ xs)
    same_elements b y cs c q =
        let o = contents_once m i e a z b y inside c in
        let r : says xs ≡ says cs = sym of.said ∙ ap₂ (λ j k. reads (suc d) (between m j k)) o.0 o.1 ∙ q in
        (ap₂ (λ j k. elements_in m (suc d) j k) (sym o.0) (sym o.1) ∙ of.are, cc)

    ustruc_by : (v : Evidence) → class_of byte ≡ C.Ustruc → kinds_apart es ≡ v → ByElements several_kinds i qs v
    unfolding head_at O.head_of O.head_by closed_wrong
    ustruc_by v c q = (
      omega arith,
      refl,
      subst (λ x. Low (O.head_by x d byte behind)) (sym c) (group_low O.as_ustruc d behind),
      λ w h k cs g p r t x.
          let is : w ≡ O.as_ustruc = closed_8 w (h + k) cs g t x in
          let c = (head_opens m qs i e there to few O.as_ustruc h k (p ∙ ap (λ y. O.opens y h k) is)).1 in
          let s = same_elements (i + 1 + h) (i + 1 + h + k) cs c r in
          (refl, subst (λ y. v ≡ closed_wrong y (elements_in m (suc d) (i + 1 + h) (i + 1 + h + k)) (says cs)) (sym is) (sym (ap kinds_apart s.0 ∙ q))),
    )

    edt_by : (v : Evidence) → class_of byte ≡ C.Edt → wrong_element xs es ≡ v → ByElements bad_edt i qs v
    unfolding head_at O.head_of O.head_by closed_wrong
    edt_by v c q = (
      omega arith,
      refl,
      subst (λ x. Low (O.head_by x d byte behind)) (sym c) (group_low O.as_edt d behind),
      λ w h k cs g p r t x.
          let is : w ≡ O.as_edt = closed_9 w (h + k) cs g t x in
          let c = (head_opens m qs i e there to few O.as_edt h k (p ∙ ap (λ y. O.opens y h k) is)).1 in
          let s = same_elements (i + 1 + h) (i + 1 + h + k) cs c r in
          (refl, subst (λ y. v ≡ closed_wrong y (elements_in m (suc d) (i + 1 + h) (i + 1 + h + k)) (says cs)) (sym is) (sym (ap₂ wrong_element s.1 s.0 ∙ q))),
    )

  -- ---- every fact
  pub fact_told : length qs ≤ depth_limit → ((j : ℕ) → get_or m j 0 < 256) → (n p : ℕ) (ps : List ℕ) (v : Evidence) → Fact m qs i e n p ps v
      → ByHead n p ps v ⊎ ByElements n p ps v
  unfolding stopped counted kinds_apart wrong_element element_at starts_int starts_string either
  fact_told few bytes n p ps v (F.own_end x) =
      inl (at_place (O.past_end d) (End e) (omega (arith, (past_range d).1)) (if_lt_yes (O.past_end d) unassigned _ _ (omega (arith, (past_range d).1))))
  fact_told few bytes n p ps v (F.count_end a z q k b c l x) = inl (cut_by a z q k (i ∷ []) c x (if_eq_yes byte 0xc4 _ _ b) (inl b))
  fact_told few bytes n p ps v (F.length_end a z q k b c l x) =
      let other : byte ≢ 0xc4 = omega arith in
      inl (subst (λ y. ByHead past_enclosing (a + q) y (End z)) (append-nil qs) (cut_by a z q k [] c x (if_eq_no byte 0xc4 _ _ other) (inr b)))
  fact_told few bytes n p ps v (F.reserved c) = inl (at_place unassigned (Byte byte i) (omega arith) refl)
  fact_told few bytes n p ps v (F.seventeenth c l) = inl (at_place too_deep Nothing (omega arith) refl)
  fact_told few bytes n p ps v (F.no_marker c l z) =
      let k = subst (InClass byte) c (in_class byte) in
      let other : byte ≢ 0xc1 = omega arith in
      inl (at_place bad_bits (Byte 0 (i + 1)) (omega arith) (if_eq_no byte 0xc1 _ _ other))
  fact_told few bytes n p ps v (F.outermost b z) =
      inl (at_place bad_repeat (Byte 0xc4 i) (omega arith) (if_eq_yes d 0 _ _ (ap length z) ∙ ap (λ y. Byte y i) b))
  fact_told few bytes n p ps v (F.other_byte why a z q c x k l y u t w) =
      let f = contents_in a z x in
      let is = byte_in_place m (between m a z) a z q (from_between m a z f.0 f.1) f.2 (bytes q) k l y u t w in
      inl (wrong_by why a z O.absent (Byte (get_or m q 0) q) c x is.0 is.1)
  fact_told few bytes n p ps v (F.no_object why a z c x y) =
      let f = contents_in a z x in
      let is = none_in_place m (between m a z) a z (from_between m a z f.0 f.1) f.2 y in
      inl (wrong_by why a z O.absent Absent c x is.0 is.1)
  fact_told few bytes n p ps v (F.negative why a z k u c x q) = inl (wrong_by why a z (O.found (negsuc k) u) (Number (negsuc k)) c x q refl)
  fact_told few bytes n p ps v (F.disagreeing a z k u b x q w) =
      inl (wrong_by bad_bits a z (O.found (pos k) u) (Number (pos k)) (subst (λ y. Counts d y bad_bits) (sym b) F.bits) x q refl)
  fact_told few bytes n p ps v (F.kinds_apart_case a z xs x y same more c k o q r) =
      inr (ustruc_by few a z k xs (x ∷ (same ++ (y ∷ more))) o (Kinds x.place y.place) c (apart_is x y same more q r))
  fact_told few bytes n p ps v (F.no_first a z c k o) = inr (edt_by few a z k _ [] o (NoElement 1) c refl)
  fact_told few bytes n p ps v (F.first_wrong a z xs x more c k o q) = inr (edt_by few a z k xs (x ∷ more) o (Element 1 x.place) c (pick_no _ _ _ q))
  fact_told few bytes n p ps v (F.no_second a z xs x c k o q) = inr (edt_by few a z k xs (x ∷ []) o (NoElement 2) c (pick_yes _ _ _ q))
  fact_told few bytes n p ps v (F.second_wrong a z xs x y more c k o q r) =
      inr (edt_by few a z k xs (x ∷ (y ∷ more)) o (Element 2 y.place) c (pick_yes _ _ _ q))
