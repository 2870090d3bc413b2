-- An object whose extent passes the end is refused for the want of bytes, and which are told; so is every beginning of a message that is one
-- object. Assumes nothing.
use Prim.Native.Nat.{ℕ, zero, suc, ◌+◌, ◌-◌, ◌≤◌, ◌<◌}
use native.Mathlib.Omega.{arith}
use mathlib.Core.Path.{◌≡◌, refl, sym, ap, ◌∙◌, subst}
use mathlib.Core.Logic.{◌≢◌, inl, inr}
use mathlib.Core.Option.{Option, some}
use mathlib.Core.List.{List, [], ◌∷◌, ◌++◌}
use lib.ListN.{length, drop, get_or, length-append}
use Rattle.format.specs.Choice.{if_lt, if_eq}
use Rattle.format.specs.declared.Class.{Class}
use Rattle.format.specs.declared.Class.TheVariants as C
use Rattle.format.specs.Refusals.{Fault, wants}
use Rattle.format.specs.Classes.{class_of}
use Rattle.format.specs.Objects as O
use Rattle.format.specs.Messages.{refused, object, next, reads, outcome}
use Rattle.format.specs.Runs.{object_at}
use Rattle.format.specs.Extents.{extent_by, extent_of, OneObject, single, Cut, wanting}
use Rattle.format.proofs.Choices.{if_lt_yes, if_lt_no, if_eq_no, split, by_lt}
use Rattle.format.proofs.TypeBytes.{following_range}
use Rattle.format.proofs.Steps.{reads_cons}
use Rattle.format.proofs.Extents.{measured, Barred, Fits, extent_fits, Spans, measures, HeadSpans, head_spans}
use Rattle.format.proofs.GrownHeads.{FieldWants, SizeGrown, extent_grown}

-- ---- what is told missing, where k bytes are left, the type-byte among them
-- where the size field is whole, those cut off
pub wanting_whole : (h k n : ℕ) → h < k → wanting h k n ≡ n
unfolding wanting
wanting_whole h k n l = if_lt_yes h k _ _ l

-- where not even its first byte is there, one
pub wanting_first : (h n : ℕ) → 0 < h → wanting h 1 n ≡ 1
unfolding wanting if_eq
wanting_first h n l = if_lt_no h 1 _ _ l

-- else those of the size field
pub wanting_field : (h k n : ℕ) → 1 < k → k ≤ h → wanting h k n ≡ 1 + h - k
unfolding wanting
wanting_field h k n p l = let z : k ≢ 1 = omega arith in if_lt_no h k _ _ l ∙ if_eq_no k 1 _ _ z

-- some, and not more than are cut off
wanting_some : (h k n : ℕ) → 0 < k → 0 < n → h < k + n → (0 < wanting h k n) × (wanting h k n ≤ n)
wanting_some h k n p q l =
    split h k (λ g. rw (wanting_whole h k n g) (q, omega arith))
    (λ g. split 1 k (λ i. rw (wanting_field h k n i g) (omega arith, omega arith))
    (λ i. let z : k ≡ 1 = omega arith in rw (z, wanting_first h n (omega arith)) (omega arith, omega arith)))

field_wanting : (m h k n : ℕ) → 0 < k → FieldWants m h k → wanting h (1 + m) n ≡ k
field_wanting zero h k n p w = wanting_first h n w.1 ∙ sym w.0
field_wanting (suc m) h k n p w = wanting_field h (1 + suc m) n (omega arith) (omega arith) ∙ (let e : 1 + h - (1 + suc m) ≡ k = omega arith in e)

-- ---- k bytes of l are there, and then as many more as were told missing
abbrev pub then_there : ℕ → ℕ → ℕ → ℕ
then_there h l k = k + wanting h k (l - k)

-- with the size field all; within it the size field; with the type-byte alone one more
then_all : (h l k : ℕ) → h < k → k ≤ l → then_there h l k ≡ l
then_all h l k p q = omega (arith, wanting_whole h k (l - k) p)

then_within : (h l k : ℕ) → 1 < k → k ≤ h → then_there h l k ≡ 1 + h
then_within h l k p q = omega (arith, wanting_field h k (l - k) p q)

then_two : (h l : ℕ) → 0 < h → then_there h l 1 ≡ 2
then_two h l p = omega (arith, wanting_first h (l - 1) p)

pub then_fits : (h l k : ℕ) → 0 < k → k ≤ l → h < l → (0 < then_there h l k) × (then_there h l k ≤ l)
then_fits h l k p q r =
    split h k (λ i. (omega arith, omega (arith, then_all h l k i q)))
    (λ i. split 1 k (λ j. (omega arith, omega (arith, then_within h l k j i)))
    (λ j. let z : k ≡ 1 = omega arith in (omega arith, omega (arith, ap (then_there h l) z, then_two h l (omega arith)))))

twice : (h l k : ℕ) → 1 < k → k ≤ l → h < l → then_there h l (then_there h l k) ≡ l
twice h l k p q r =
    split h k (λ i. ap (then_there h l) (then_all h l k i q) ∙ then_all h l l r (omega arith))
    (λ i. ap (then_there h l) (then_within h l k p i) ∙ then_all h l (1 + h) (omega arith) (omega arith))

-- all of them after three times
pub thrice : (h l k : ℕ) → 0 < k → k ≤ l → h < l → then_there h l (then_there h l (then_there h l k)) ≡ l
thrice h l k p q r =
    let stays = then_all h l l r (omega arith) in
    split h k (λ i. ap (λ n. then_there h l (then_there h l n)) (then_all h l k i q) ∙ ap (then_there h l) stays ∙ stays)
    (λ i. split 1 k (λ j. ap (then_there h l) (twice h l k j q r) ∙ stays)
    (λ j.
    let z : k ≡ 1 = omega arith in
    ap (λ n. then_there h l (then_there h l n)) (ap (then_there h l) z ∙ then_two h l (omega arith)) ∙ twice h l 2 (omega arith) (omega arith) r))

-- ---- an object whose extent passes the end: p is what is left behind its type-byte, and e is gone, or nothing
module _ (d : ℕ) (p e : List ℕ) (head : List ℕ → O.Head) (extent : List ℕ → Option O.Size) (o : Spans d head extent) (h n : ℕ) (passes : length p < h + n) where
  past : (z : O.Size) → Fits p z → SizeGrown (length p) (length e) z (O.size h n)
      → O.within d p (λ i j. o.make i j (O.contents p i j)) z ≡ O.stop (wants (O.past_end d) (wanting h (1 + length p) (h + n - length p)))
  unfolding O.within
  past (O.cut k) f g = ap (λ j. O.stop (wants (O.past_end d) j)) (sym (field_wanting (length p) h k (h + n - length p) f g.1))
  past (O.size i j) f g =
      let a : i ≡ h = cc in
      let b : j ≡ n = cc in
      let c : j - (length p - i) ≡ h + n - length p = omega arith in
      if_lt_yes (length p - i) j _ _ (omega arith)
      ∙ ap (λ k. O.stop (wants (O.past_end d) k)) (c ∙ sym (wanting_whole h (1 + length p) (h + n - length p) (omega arith)))

-- Where its type-byte alone is not refused: for the want of bytes, at its own place.
pub head_past : (d b h n : ℕ) (p e : List ℕ) → ¬ Barred (λ s. O.head_of d b s) → extent_of b (p ++ e) ≡ some (O.size h n) → length p < h + n
    → O.head_of d b p ≡ O.stop (wants (O.past_end d) (wanting h (1 + length p) (h + n - length p)))
head_past d b h n p e unbarred x l = go (head_spans d b)
  where
    go : HeadSpans d b → O.head_of d b p ≡ O.stop (wants (O.past_end d) (wanting h (1 + length p) (h + n - length p)))
    go (inl r) = absurd (unbarred r)
    go (inr o) =
        let m = o.from in
        let q = measures d _ _ o (p ++ e) (O.size h n) x in
        o.is p ∙ past d p e _ _ o h n l (measured m p) (extent_fits m p) (subst (SizeGrown (length p) (length e) (measured m p)) q (extent_grown m p e))

-- a run that begins with an object that is refused
stopped : (d b : ℕ) (s : List ℕ) (f : Fault) → O.head_of d b s ≡ O.stop f → reads d (b ∷ s) ≡ refused f
unfolding object_at object next
stopped d b s f e = reads_cons d b s ∙ ap (λ x. next (object (λ h n. reads (suc d) (O.contents s h n)) x) (λ u. reads d (drop u s))) e

-- ---- outermost, where of those that have an extent only REPEAT is refused by its type-byte alone
abbrev Early : O.Head → Type 0
Early (O.stop f) = f.number ≤ 2
Early (O.gives xs u) = Unit {0}
Early (O.opens w h n) = Unit {0}

early_fixed : (b : ℕ) (f : List ℕ → O.Head) → Early (O.fixed 0 (O.following b) [] f)
unfolding O.fixed O.past_end
early_fixed b f = by_lt Early 0 (O.following b) (λ l. omega arith) (λ l. absurd (omega (arith, following_range b)))

-- with no byte behind the type-byte
early : (c : Class) (b : ℕ) → c ≢ C.Repeat → c ≢ C.Reserved → Early (O.head_by c 0 b [])
unfolding O.head_by O.lbitstr_head O.string_head O.group_head O.container if_lt O.sized O.size_of O.within O.past_end
early C.Char7 b p q = tt
early C.Sinteger b p q = tt
early C.Linteger b p q = early_fixed b O.linteger_head
early C.Sbitstr b p q = early_fixed b O.sbitstr_head
early C.Lbitstr b p q = omega arith
early C.String b p q = omega arith
early C.Struc b p q = omega arith
early C.Ustruc b p q = omega arith
early C.Edt b p q = omega arith
early C.Repeat b p q = absurd (p refl)
early C.Xtra b p q = tt
early C.Bool b p q = tt
early C.Empty b p q = tt
early C.Padding b p q = tt
early C.Reserved b p q = absurd (q refl)

has_extent : (c : Class) (b : ℕ) (s : List ℕ) (z : O.Size) → extent_by c b s ≡ some z → c ≢ C.Reserved
unfolding extent_by
has_extent c b s z x e = let y = subst (λ k. extent_by k b s ≡ some z) e x in let n : ◌≡◌ {A = ℕ} 0 1 = cc in omega arith

-- An outermost object that passes the end, whatever is wrong in it: what is left of it is p, and e is gone, or nothing.
pub cut_outer : (b h n : ℕ) (p e : List ℕ) → class_of b ≢ C.Repeat → extent_of b (p ++ e) ≡ some (O.size h n) → length p < h + n
    → outcome (b ∷ p) ≡ refused (wants 2 (wanting h (1 + length p) (h + n - length p)))
unfolding outcome O.past_end O.head_of extent_of
cut_outer b h n p e no_repeat x l =
    let first = early (class_of b) b no_repeat (has_extent (class_of b) b (p ++ e) _ x) in
    stopped 0 b p _ (head_past 0 b h n p e (λ r. omega (arith, r.late, subst Early (r.stops []) first)) x l)

-- ---- a message that is one object
-- its size field lies within it
pub one_field : (m : List ℕ) (h : ℕ) → OneObject m h → h < length m
one_field _ h (single b i n s y x r) = omega arith

-- of a beginning some bytes are told missing, and never more than are cut off
pub wanting_cut : (m c e : List ℕ) (h : ℕ) → OneObject m h → Cut m c e → (0 < wanting h (length c) (length e)) × (wanting h (length c) (length e) ≤ length e)
wanting_cut m c e h o k =
    wanting_some h (length c) (length e) k.left k.lost (omega (arith, one_field m h o, ap length k.parts, length-append c e))

-- "Every beginning of it that has at least one byte and is not the whole is refused with 2 at place 0."
pub cut_outcome : (m c e : List ℕ) (h : ℕ) → OneObject m h → class_of (get_or m 0 0) ≢ C.Repeat → Cut m c e
    → outcome c ≡ refused (wants 2 (wanting h (length c) (length e)))
cut_outcome _ c e h (single b i n s y x r) no_repeat k = go c k.parts k.left
  where
    go : (c : List ℕ) → b ∷ s ≡ c ++ e → 0 < length c → outcome c ≡ refused (wants 2 (wanting h (length c) (length e)))
    go [] p l = absurd (omega arith)
    go (a ∷ c) p l =
        let v : b ≡ a = cc in
        let w : s ≡ c ++ e = cc in
        let f : h + n - length c ≡ length e = omega (arith, ap length w, length-append c e) in
        let g : 1 + length c ≡ length (a ∷ c) = omega arith in
        subst (λ j. outcome (j ∷ c) ≡ refused (wants 2 (wanting h (length (a ∷ c)) (length e)))) v
        (cut_outer b h n c e no_repeat (subst (λ j. extent_of b j ≡ some (O.size h n)) w x) (omega (arith, ap length w, length-append c e, k.lost))
        ∙ ap (λ j. refused (wants 2 (wanting h j (h + n - length c)))) g ∙ ap (λ j. refused (wants 2 (wanting h (length (a ∷ c)) j))) f)
