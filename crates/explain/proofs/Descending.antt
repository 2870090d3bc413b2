-- The descent to the object at fault: what is known at each object on the way, and where it ends. Assumes nothing.
use Prim.Native.Nat.{ℕ, zero, suc, ◌+◌, ◌-◌, ◌≤◌, ◌<◌, zero-le}
use native.Mathlib.Omega.{arith}
use native.Mathlib.Nat.{add-zero, le_refl}
use mathlib.Core.Path.{◌≡◌, refl, sym, ap, ◌∙◌, subst}
use mathlib.Core.Bool.{true, false}
use mathlib.Core.Logic.{◌≢◌, ◌⊎◌}
use mathlib.Core.List.{List, [], ◌∷◌, ◌++◌, append-nil}
use Rattle.std.specs.Prelude.{Result, Ok, Err}
use lib.ListN.{length, take, get_or, length-append}
use lib.Seq.{take_all, length-take-le}
use Rattle.format.specs.Refusals.{Fault, further}
use Rattle.format.specs.Items.{Items}
use Rattle.format.specs.Objects as O
use Rattle.format.specs.Messages.{refused, bad, got, closing, reads, outcome}
use Rattle.format.proofs.Choices.{if_lt_yes, if_lt_no, if_eq_yes, if_eq_no}
use Rattle.format.proofs.Extents.{Ends}
use Rattle.format.specs.declared.fault.Fault as F
use Rattle.format.specs.Refused.{meant}
use Rattle.wire.specs.declared.size.Extent.{Extent}
use Rattle.explain.specs.declared.descent.Step.{Step}
use Rattle.explain.specs.declared.descent.Step.TheVariants as S
use Rattle.explain.specs.declared.trail.Trail.{Trail}
use Rattle.explain.specs.declared.stretch.Stretch.{Stretch}
use Rattle.format.specs.declared.Class.TheVariants.{Repeat}
use Rattle.format.specs.Classes.{class_of}
use Rattle.format.proofs.TypeBytes.{InClass, in_class}
use Rattle.explain.specs.Reasons.{between, head_at, object_in, Why, evidence_at, own_place, fault_at, why_from, why}
use Rattle.explain.specs.Told.{StepIs, RefusedAt, Descended, Singles, around_of}
use Rattle.explain.proofs.Counting.{part_fits}
use Rattle.explain.proofs.Singles.{single_head}
use Rattle.explain.proofs.WhySteps.{Faulty, fault_inside, past_step, closes, Closing, Turn, own, own_elements, past, into, turn}
use Rattle.explain.proofs.AroundFew.{Shallow, at_shallow}

-- a fault that is n bytes further on
moved : (at n place : ℕ) (g g₁ : Fault) → g ≡ further n g₁ → at + g.place ≡ place → at + n + g₁.place ≡ place
unfolding further
moved at n place g g₁ e p = let c = ap (λ (x : Fault). x.place) e in omega arith

-- what is open around the fault: the object's own place with a REPEAT's count
own_count : (m : List ℕ) (at : ℕ) (g : Fault) → 0 < g.place → get_or m at 0 ≡ 0xc4 → own_place m at (O.stop g) ≡ at ∷ []
unfolding own_place
own_count m at g l b = if_lt_yes 0 g.place _ _ l ∙ if_eq_yes (get_or m at 0) 0xc4 _ _ b

own_length : (m : List ℕ) (at : ℕ) (g : Fault) → 0 < g.place → get_or m at 0 ≢ 0xc4 → own_place m at (O.stop g) ≡ []
unfolding own_place
own_length m at g l b = if_lt_yes 0 g.place _ _ l ∙ if_eq_no (get_or m at 0) 0xc4 _ _ b

own_none : (m : List ℕ) (at : ℕ) (g : Fault) → g.place ≡ 0 → own_place m at (O.stop g) ≡ []
unfolding own_place
own_none m at g e = if_lt_no 0 g.place _ _ (omega arith)

own_open : (m : List ℕ) (at : ℕ) (w : O.Wrap) (a n : ℕ) → own_place m at (O.opens w a n) ≡ []
unfolding own_place
own_open m at w a n = refl

-- the head at `at`
head_here : (m : List ℕ) (d at end : ℕ) (x : O.Head) → O.head_of d (get_or m at 0) (between m (at + 1) end) ≡ x → head_at m d at end ≡ x
unfolding head_at
head_here m d at end x q = q

-- the containers ps are open around the object at `at`
pub record Descending (m : List ℕ) (place at end : ℕ) (ps : List ℕ) : Type 0 where
  pub fault : Fault
  pub there : Faulty m (length ps) at end fault
  pub place_is : at + fault.place ≡ place
  pub fuel : ℕ
  pub enough : end - at ≤ suc fuel
  pub so_far : why_from (suc fuel) m ps at end ≡ why m

-- with as many steps as there are bytes left
resumed : (m : List ℕ) (place at end : ℕ) (ps : List ℕ) (g : Fault) (f : ℕ) → Faulty m (length ps) at end g → at + g.place ≡ place
    → end - at ≤ f → why_from f m ps at end ≡ why m → Descending m place at end ps
resumed m place at end ps g f x p e w =
    let i = fault_inside x in
    let k : f ≡ suc (f - 1) = omega arith in
    record { fault = g; there = x; place_is = p; fuel = f - 1; enough = omega arith; so_far = ap (λ n. why_from n m ps at end) (sym k) ∙ w }

pub descend_start : (m : List ℕ) (place : ℕ) (t : Trail) → t.len ≡ 0 → RefusedAt m place → Descending m place 0 (length m) (around_of t)
descend_start m place t z (f, q, p) =
    subst (Descending m place 0 (length m)) (sym (ap (λ n. take n t.places) z))
    (resumed m place 0 (length m) [] f (length m) (record { said = whole; within = omega arith }) (omega arith) (omega arith) (unfold why in refl))
  where
    whole : reads 0 (between m 0 (length m)) ≡ refused f
    whole = unfold outcome between in ap (reads 0) (take_all (length m - 0) m (omega arith)) ∙ q

module _ {m : List ℕ} {place at end : ℕ} {ps : List ℕ} (v : Descending m place at end ps) where
  abbrev depth : ℕ
  depth = length ps

  pub bounds : (at < end) × (end ≤ length m) × (place < end)
  bounds = let i = fault_inside v.there in (omega arith, v.there.within, omega (arith, v.place_is))

  turned : (h : O.Head) → head_at m depth at end ≡ h → Turn m ps at end v.fault h
  turned h q = turn m ps at end v.fault v.there h q

  -- ---- the object at `at` is at fault, and the containers qs are open around the fault
  ended : (qs : List ℕ) → why m ≡ fault_at m ps at end → qs ≡ ps ++ own_place m at (head_at m depth at end)
      → (s : Stretch) → s.message.now ≡ m → s.from ≡ at → s.end ≡ end → s.depth ≡ depth → (t : Trail) → around_of t ≡ qs → Descended m s t
  ended qs w o s em ea ee ed t et =
      let a : (why m).around ≡ ps ++ own_place m at (head_at m depth at end) = ap (λ (y : Why). y.around) w ∙ (unfold fault_at in refl) in
      let e : (why m).evidence ≡ evidence_at m depth at end = ap (λ (y : Why). y.evidence) w ∙ (unfold fault_at in refl) in
      let b = bounds in
      record {
        message_is = em;
        inside = omega arith;
        around_is = et ∙ o ∙ sym a;
        evidence_is = ap (λ l. evidence_at l s.depth s.from s.end) em ∙ ap (λ n. evidence_at m n s.from s.end) ed
            ∙ ap (λ n. evidence_at m depth n s.end) ea ∙ ap (evidence_at m depth at) ee ∙ sym e;
      }

  -- told from what the turn says of its whys
  why_is : ((f : ℕ) → why_from (suc f) m ps at end ≡ fault_at m ps at end) → why m ≡ fault_at m ps at end
  why_is w = sym v.so_far ∙ w v.fuel

  stop_turn : (h : O.Head) (g : Fault) → h ≡ O.stop g → Turn m ps at end v.fault h → (g ≡ v.fault) × (why m ≡ fault_at m ps at end)
  stop_turn _ g q (own g₁ e w) = (cc, why_is w)
  stop_turn _ g q (own_elements x a n xs r c w) = let z : ◌≡◌ {A = ℕ} 0 1 = cc in absurd (omega arith)
  stop_turn h g q (past _ ys u g₁ o ends e x) = absurd (subst (Ends u) q ends)
  stop_turn _ g q (into x a n g₁ e y w) = let z : ◌≡◌ {A = ℕ} 0 1 = cc in absurd (omega arith)

  -- a container's own fault is at its own place
  own_place_lem : (w : O.Wrap) (u : ℕ) (xs : Items) → closing w u xs ≡ bad v.fault → v.fault.place ≡ 0
  own_place_lem w u xs c = (subst (Closing w u) c (closes w u xs)).0

  -- the object is right, and has u bytes past its type-byte
  onward : (j u : ℕ) (ys : Items) (g₁ : Fault) → j ≡ at + 1 + u → object_in m (length ps) at end ≡ got ys u → v.fault ≡ further (1 + u) g₁
      → Faulty m (length ps) (at + 1 + u) end g₁ → Descending m place j end ps
  onward j u ys g₁ k o e x =
      let c = moved at (1 + u) place v.fault g₁ e v.place_is in
      resumed m place j end ps g₁ v.fuel (subst (λ n. Faulty m (length ps) n end g₁) (sym k) x) (omega arith) (omega (arith, v.enough))
      (ap (λ n. why_from v.fuel m ps n end) k ∙ sym (past_step v.fuel m ps at end ys u o) ∙ v.so_far)

  -- ---- past an object that says something by itself
  module _ {u : ℕ} (p : StepIs depth (get_or m at 0) (between m (at + 1) end) (Ok (S.Over u))) where
    pub over_fits : at + 1 + u ≤ end
    over_fits =
        let q : u + 0 ≤ length (between m (at + 1) end) = omega (arith, p.2) in
        let z : at + 1 + u + 0 ≤ end = part_fits m at end u 0 bounds.0 q in
        omega arith

    pub step_over : Descending m place (at + (1 + u)) end ps
    step_over = go (O.gives p.0 u) refl (turned (O.gives p.0 u) (head_here m depth at end (O.gives p.0 u) p.1))
      where
        go : (x : O.Head) → x ≡ O.gives p.0 u → Turn m ps at end v.fault x → Descending m place (at + (1 + u)) end ps
        go _ q (own g₁ e w) = let z : ◌≡◌ {A = ℕ} 0 1 = cc in absurd (omega arith)
        go _ q (own_elements x a n xs r c w) = let z : ◌≡◌ {A = ℕ} 0 1 = cc in absurd (omega arith)
        go h q (past _ ys j g₁ o ends e x) = let k : u ≡ j = subst (Ends j) q ends in onward (at + (1 + u)) j ys g₁ (omega arith) o e x
        go _ q (into x a n g₁ e y w) = let z : ◌≡◌ {A = ℕ} 0 1 = cc in absurd (omega arith)

  -- ---- before the place is reached
  module _ (h : at < place) where
    later : 0 < v.fault.place
    later = omega (arith, v.place_is)

    module _ (f : F.Fault) (p : StepIs depth (get_or m at 0) (between m (at + 1) end) (Err f)) where
      head_is : head_at m depth at end ≡ O.stop (meant f)
      head_is = head_here m depth at end (O.stop (meant f)) p

      stop_told : (meant f ≡ v.fault) × (why m ≡ fault_at m ps at end)
      stop_told = stop_turn (O.stop (meant f)) (meant f) refl (turned (O.stop (meant f)) head_is)

      counts : 0 < f.place
      counts = let e = ap (λ (g : Fault). g.place) stop_told.0 in omega (arith, later)

      pub halt_shallow : get_or m at 0 ≡ 0xc4 → depth < 16
      halt_shallow b = subst (Shallow depth) head_is (at_shallow m depth at end b) counts

      pub halt_repeat : get_or m at 0 ≡ 0xc4 → (qs : List ℕ) → qs ≡ ps ++ (at ∷ []) → (s : Stretch) → s.message.now ≡ m → s.from ≡ at → s.end ≡ end → s.depth ≡ depth → (t : Trail)
          → around_of t ≡ qs → Descended m s t
      halt_repeat b qs q =
          let o : own_place m at (head_at m depth at end) ≡ at ∷ [] = ap (own_place m at) head_is ∙ own_count m at (meant f) counts b in
          ended qs stop_told.1 (q ∙ ap (λ l. ps ++ l) (sym o))

      pub halt_other : get_or m at 0 ≢ 0xc4 → (s : Stretch) → s.message.now ≡ m → s.from ≡ at → s.end ≡ end → s.depth ≡ depth → (t : Trail)
          → around_of t ≡ ps → Descended m s t
      halt_other b =
          let o : own_place m at (head_at m depth at end) ≡ [] = ap (own_place m at) head_is ∙ own_length m at (meant f) counts b in
          ended ps stop_told.1 (sym (ap (λ l. ps ++ l) o ∙ append-nil ps))

    module _ {x : Extent} (p : StepIs depth (get_or m at 0) (between m (at + 1) end) (Ok (S.Into x))) where
      abbrev a : ℕ
      a = x.start

      abbrev n : ℕ
      n = x.size

      pub into_fits : (at + 1 + a + n ≤ end) × (depth < 16)
      into_fits = (part_fits m at end a n bounds.0 p.2, p.3)

      opens_turn : Turn m ps at end v.fault (O.opens p.0 a n)
      opens_turn = turned (O.opens p.0 a n) (head_here m depth at end (O.opens p.0 a n) p.1)

      pub step_past : at + 1 + a + n ≤ place → Descending m place (at + 1 + a + n) end ps
      step_past l = go (O.opens p.0 a n) refl opens_turn
        where
          go : (x : O.Head) → x ≡ O.opens p.0 a n → Turn m ps at end v.fault x → Descending m place (at + 1 + a + n) end ps
          go _ q (own g₁ e w) = let z : ◌≡◌ {A = ℕ} 0 1 = cc in absurd (omega arith)
          go _ q (own_elements x b k xs r c w) = absurd (omega (arith, later, own_place_lem x (b + k) xs c))
          go h q (past _ ys j g₁ o ends e x) = let k : a + n ≡ j = subst (Ends j) q ends in onward (at + 1 + a + n) j ys g₁ (omega arith) o e x
          go _ q (into x b k g₁ e y w) =
              let i : b ≡ a = cc in
              let j : k ≡ n = cc in
              let c = moved at (1 + b) place v.fault g₁ e v.place_is in
              absurd (omega (arith, fault_inside y))

      pub step_into : place < at + 1 + a + n → Descending m place (at + 1 + a) (at + 1 + a + n) (ps ++ (at ∷ []))
      step_into l = go (O.opens p.0 a n) refl opens_turn
        where
          go : (x : O.Head) → x ≡ O.opens p.0 a n → Turn m ps at end v.fault x → Descending m place (at + 1 + a) (at + 1 + a + n) (ps ++ (at ∷ []))
          go _ q (own g₁ e w) = let z : ◌≡◌ {A = ℕ} 0 1 = cc in absurd (omega arith)
          go _ q (own_elements x b k xs r c w) = absurd (omega (arith, later, own_place_lem x (b + k) xs c))
          go h q (past _ ys j g₁ o ends e x) =
              let k : a + n ≡ j = subst (Ends j) q ends in
              let c = moved at (1 + j) place v.fault g₁ e v.place_is in
              absurd (omega arith)
          go _ q (into x b k g₁ e y w) =
              let i : b ≡ a = cc in
              let j : k ≡ n = cc in
              let c = moved at (1 + b) place v.fault g₁ e v.place_is in
              let d : suc (length ps) ≡ length (ps ++ (at ∷ [])) = omega (arith, length-append ps (at ∷ [])) in
              let f = into_fits in
              resumed m place (at + 1 + a) (at + 1 + a + n) (ps ++ (at ∷ [])) g₁ v.fuel
              (subst (λ h. Faulty m h (at + 1 + a) (at + 1 + a + n) g₁) d (rw (i, j) at y)) (omega arith) (omega (arith, v.enough, f.0))
              (sym (rw (i, j) at (w v.fuel)) ∙ v.so_far)

  -- ---- and where it is reached
  pub arrived : place ≤ at → (s : Stretch) → s.message.now ≡ m → s.from ≡ at → s.end ≡ end → s.depth ≡ depth → (t : Trail)
      → around_of t ≡ ps → Descended m s t
  arrived l = go (head_at m depth at end) refl (turned (head_at m depth at end) refl)
    where
      Told : Type 0
      Told = (s : Stretch) → s.message.now ≡ m → s.from ≡ at → s.end ≡ end → s.depth ≡ depth → (t : Trail)
          → around_of t ≡ ps → Descended m s t

      none : v.fault.place ≡ 0
      none = omega (arith, v.place_is)

      stays : (x : O.Head) → head_at m depth at end ≡ x → own_place m at x ≡ [] → ((f : ℕ) → why_from (suc f) m ps at end ≡ fault_at m ps at end) → Told
      stays x q o w = ended ps (why_is w) (sym (ap (λ h. ps ++ own_place m at h) q ∙ ap (λ l. ps ++ l) o ∙ append-nil ps))

      go : (x : O.Head) → head_at m depth at end ≡ x → Turn m ps at end v.fault x → Told
      go _ q (own g₁ e w) = stays (O.stop g₁) q (own_none m at g₁ (ap (λ (g : Fault). g.place) e ∙ none)) w
      go _ q (own_elements x a n xs r c w) = stays (O.opens x a n) q (own_open m at x a n) w
      go h q (past _ ys j g₁ o ends e x) = let c = moved at (1 + j) place v.fault g₁ e v.place_is in absurd (omega arith)
      go _ q (into x a n g₁ e y w) = let c = moved at (1 + a) place v.fault g₁ e v.place_is in absurd (omega arith)

-- ---- past many objects of one byte
many_over : {m : List ℕ} {place at end : ℕ} {ps : List ℕ} (n : ℕ) → Descending m place at end ps
    → ((j : ℕ) → at ≤ j → j < at + n → (get_or m j 0 < 0xc0) ⊎ (get_or m j 0 ≡ 0xff)) → Descending m place (at + n) end ps
many_over {m} {place} {at} {end} {ps} zero v g = subst (λ j. Descending m place j end ps) (sym (add-zero at)) v
many_over {m} {place} {at} {end} {ps} (suc n) v g =
    let x = single_head (length ps) (get_or m at 0) (between m (at + 1) end) (g at (le_refl at) (omega arith)) in
    let w : Descending m place (at + (1 + 0)) end ps = step_over v (x.0, x.1, zero-le) in
    let k : at + (1 + 0) + n ≡ at + suc n = omega arith in
    subst (λ j. Descending m place j end ps) k (many_over {at = at + (1 + 0)} n w (λ j p q. g j (omega arith) (omega arith)))

pub step_singles : {m : List ℕ} {place at end : ℕ} {ps : List ℕ} (r : ℕ) → Descending m place at end ps → Singles m at r end → Descending m place r end ps
step_singles {m} {place} {at} {end} {ps} r v s =
    let k : at + (r - at) ≡ r = omega (arith, s.0) in
    subst (λ j. Descending m place j end ps) k (many_over (r - at) v (λ j p q. s.2 j p (omega arith)))

-- ---- into a container's contents, which go from f up to e, or past them
module _ {m : List ℕ} {place at end : ℕ} {ps : List ℕ} (v : Descending m place at end ps) (h : at < place) {x : Extent} (f e : ℕ)
    (i : f ≡ at + 1 + x.start) (j : e ≡ at + 1 + x.start + x.size) (p : StepIs (length ps) (get_or m at 0) (between m (at + 1) end) (Ok (S.Into x))) where
  pub gone_into : (qs : List ℕ) → qs ≡ ps ++ (at ∷ []) → place < e → Descending m place f e qs
  gone_into qs q l =
      subst (Descending m place f e) (sym q)
      (subst (λ n. Descending m place n e (ps ++ (at ∷ []))) (sym i)
      (subst (λ n. Descending m place (at + 1 + x.start) n (ps ++ (at ∷ []))) (sym j) (step_into v h p (omega arith))))

  pub gone_past : e ≤ place → Descending m place e end ps
  gone_past l = subst (λ n. Descending m place n end ps) (sym j) (step_past v h p (omega arith))

-- ---- the containers of a trail
pub deep : (t : Trail) → length (around_of t) ≡ t.len
deep t = length-take-le t.len t.places (omega (arith, t.sixteen, t.few))

-- a step from the byte at `at` and those behind it as they are handed
pub step_here : (m : List ℕ) (t : Trail) (at end b : ℕ) (s : List ℕ) (r : Result Step F.Fault) → b ≡ get_or m at 0 → s ≡ between m (at + 1) end → StepIs t.len b s r
    → StepIs (length (around_of t)) (get_or m at 0) (between m (at + 1) end) r
step_here m t at end b s r x y p =
    subst (λ d. StepIs d (get_or m at 0) (between m (at + 1) end) r) (sym (deep t))
    (subst (λ c. StepIs t.len c (between m (at + 1) end) r) x (subst (λ l. StepIs t.len b l r) y p))

pub step_found : (m : List ℕ) (t : Trail) (at end b : ℕ) (s : List ℕ) (r x : Step) → b ≡ get_or m at 0 → s ≡ between m (at + 1) end → StepIs t.len b s (Ok r) → r ≡ x
    → StepIs (length (around_of t)) (get_or m at 0) (between m (at + 1) end) (Ok x)
step_found m t at end b s r x y z p q = subst (λ y. StepIs (length (around_of t)) (get_or m at 0) (between m (at + 1) end) (Ok y)) q (step_here m t at end b s (Ok r) y z p)

-- a REPEAT by its class
pub repeat_byte : (b c : ℕ) → c ≡ b → class_of c ≡ Repeat → b ≡ 0xc4
repeat_byte b c e q = let k = subst (InClass c) q (in_class c) in omega arith

pub no_repeat : (b c : ℕ) → c ≡ b → (class_of c ≡ Repeat → false ≡ true) → b ≢ 0xc4
unfolding class_of
no_repeat b c e q k = let z : false ≡ true = q (ap class_of (e ∙ k)) in cc
