-- Whether a run says only CHARs, told object by object. Assumes nothing.
use Rattle.std.proofs.Common.{◌≡◌, ℕ, zero, suc, ◌+◌, ◌-◌, ◌<◌, ◌≤◌, Bool, true, false, IsTrue, ◌↔◌, nat_lt, Ok, Err, eqb, ◌≢◌, List, [], ◌∷◌, ◌++◌, length, get_or, take, drop, sym, refl, ap, ◌∙◌, subst, zero-le, arith, length-drop, length-take}
use Rattle.format.specs.Choice.{both}
use Rattle.format.specs.Items.{Group, Items, end, group, join, times, all_of, group_kind, kinds, is_string, CHAR}
use Rattle.format.specs.declared.Class.{Class}
use Rattle.format.specs.declared.Class.TheVariants as C
use Rattle.format.specs.Classes.{class_of}
use Rattle.format.specs.Objects as O
use Rattle.format.specs.Messages.{Object, says, bad, got, object, reads}
use Rattle.format.proofs.Choices.{split, whether, eq_true, eq_false, lt_true, lt_false}
use Rattle.format.proofs.Counts.{kinds_join, times_suc, times_zero}
use Rattle.format.proofs.HeadCases.{by_repeat}
use Rattle.format.proofs.OneKind.{KindsBy, class_tells_kind}
use Rattle.format.specs.Runs.{object_at, Piece}
use Rattle.format.proofs.TableLaws.{group_kind_lem}
use Rattle.format.proofs.TypeBytes.{InClass, in_class, char_class}
use Rattle.wire.proofs.ClassCases.{of_class}
use Rattle.wire.specs.Ranges.{Between}
use Rattle.wire.specs.declared.head.Wrap.{Wrap}
use Rattle.wire.specs.declared.head.Wrap.TheVariants.{Struc, Ustruc, Edt, Repeat}
use Rattle.format.specs.declared.fault.Fault.{Fault}
use Rattle.format.specs.Refused.{meant}
use Rattle.wire.specs.declared.size.Extent.{Extent}
use Rattle.wire.specs.declared.head.Head.{Head}
use Rattle.wire.specs.declared.head.Head.TheVariants.{Gap, Row, Sbits, Lbits, Text, Open}
use Rattle.wire.specs.Heads.{HeadIs, wrap_of}
use Rattle.fill.specs.Containers.{copies_of, closed_items}
use Rattle.fill.specs.Texts.{OnlyChars}
use Rattle.fill.proofs.ContainerLaws.{opened, opened_run, closed_none}
use Rattle.wire.proofs.Stretches.{chars_say, padding_says, between_from}
use Rattle.format.proofs.Over.{part_length}
use Rattle.format.proofs.Runs.{upto_end, Passed, passed_none, passed_piece, ahead}
use Rattle.format.proofs.ItemLaws.{chars_string}

-- ---- strings joined and repeated
all_append : (k : ℕ) (a b : List ℕ) → all_of k (a ++ b) ≡ both (all_of k a) (all_of k b)
unfolding all_of both
all_append k [] b = refl
all_append k (x ∷ a) b = go (eqb x k) (all_append k a b)
  where
    go : (t : Bool) → all_of k (a ++ b) ≡ both (all_of k a) (all_of k b) → both t (all_of k (a ++ b)) ≡ both (both t (all_of k a)) (all_of k b)
    go true e = e
    go false e = refl

pub string_join : (xs ys : Items) → is_string (join xs ys) ≡ both (is_string xs) (is_string ys)
unfolding is_string
string_join xs ys = ap (all_of CHAR) (kinds_join xs ys) ∙ all_append CHAR (kinds xs) (kinds ys)

both_same : (b : Bool) → both b b ≡ b
unfolding both
both_same true = refl
both_same false = refl

both_none : (b : Bool) → both b true ≡ b
unfolding both
both_none true = refl
both_none false = refl

pub string_end : is_string end ≡ true
unfolding is_string all_of kinds
string_end = refl

pub string_times : (k : ℕ) (xs : Items) → is_string (times (suc k) xs) ≡ is_string xs
string_times zero xs =
    ap is_string (times_suc 0 xs) ∙ string_join xs (times 0 xs) ∙ ap (λ z. both (is_string xs) (is_string z)) (times_zero xs)
    ∙ ap (both (is_string xs)) string_end ∙ both_none (is_string xs)
string_times (suc k) xs =
    ap is_string (times_suc (suc k) xs) ∙ string_join xs (times (suc k) xs) ∙ ap (both (is_string xs)) (string_times k xs) ∙ both_same (is_string xs)

-- ---- objects that are no characters
pub one_group : (g : Group) (c : Items) → is_string (group g c end) ≡ false
unfolding is_string all_of kinds both
one_group g c = let n : group_kind g ≢ 3 = (λ e. omega (arith, group_kind_lem g)) in rw (eq_false (group_kind g) 3 n) refl

-- the kind of an object's item is told by its class
pub no_chars : (d b : ℕ) (s : List ℕ) → 0x80 ≤ b → b ≢ 0xc4 → b < 0xff → (ys : Items) (u : ℕ) → object_at d b s ≡ got ys u → is_string ys ≡ false
unfolding is_string all_of both
no_chars d b s h n m ys u e = others (class_of b) (in_class b) (class_tells_kind d b s ys u e)
  where
    others : (c : Class) → InClass b c → KindsBy c (kinds ys) → all_of CHAR (kinds ys) ≡ false
    others C.Char7 i k = absurd (omega arith)
    others C.Sinteger i k = rw k refl
    others C.Linteger i k = rw k refl
    others C.Sbitstr i k = rw k refl
    others C.Lbitstr i k = rw k refl
    others C.String i k = rw k refl
    others C.Struc i k = rw k refl
    others C.Ustruc i k = rw k refl
    others C.Edt i k = rw k refl
    others C.Repeat i k = absurd (n i)
    others C.Xtra i k = rw k refl
    others C.Bool i k = rw k refl
    others C.Empty i k = rw k refl
    others C.Padding i k = absurd (omega arith)
    others C.Reserved i k = absurd k

-- ---- a repeat
abbrev RepeatLike : O.Head → Type 0
RepeatLike (O.stop f) = Unit {0}
RepeatLike (O.gives xs u) = ⊥
RepeatLike (O.opens O.as_struc a n) = ⊥
RepeatLike (O.opens O.as_ustruc a n) = ⊥
RepeatLike (O.opens O.as_edt a n) = ⊥
RepeatLike (O.opens (O.repeated k) a n) = Unit {0}

repeat_like : (d b : ℕ) (s : List ℕ) → b ≡ 0xc4 → RepeatLike (O.head_of d b s)
unfolding O.head_of O.head_by class_of
repeat_like d b s e = rw e (by_repeat RepeatLike d s (λ f w. tt) (λ l i n a g k u x y. tt))

module _ (d b : ℕ) (s : List ℕ) (c4 : b ≡ 0xc4) where
  like : (m : O.Head) → O.head_of d b s ≡ m → RepeatLike m
  like m e = subst RepeatLike e (repeat_like d b s c4)

  -- nothing but a container is accepted
  module _ (ys : Items) (u : ℕ) (f : object_at d b s ≡ got ys u) where
    pub repeat_stop : (x : Fault) → HeadIs s (Err x) (O.head_of d b s) → is_string ys ≡ false
    unfolding object_at object
    repeat_stop x e =
        let g : bad (meant x) ≡ got ys u = sym (ap (object (λ a m. reads (suc d) (O.contents s a m))) e) ∙ f in
        let z : ◌≡◌ {A = ℕ} 0 1 = cc in
        absurd (omega arith)

    pub repeat_none : (h : Head) → ((w : Wrap) (e : Extent) → h ≡ Open w e → ⊥) → HeadIs s (Ok h) (O.head_of d b s) → is_string ys ≡ false
    repeat_none Gap k e = absurd (like _ e)
    repeat_none (Row x v w) k e = absurd (like _ e.1)
    repeat_none (Sbits n w v) k e = absurd (like _ e.1)
    repeat_none (Lbits a n v) k e = absurd (like _ e.0)
    repeat_none (Text x) k e = absurd (like _ e.0)
    repeat_none (Open w x) k e = absurd (k w x refl)

  closed_string : (w : Wrap) (a n : ℕ) → RepeatLike (O.opens (wrap_of w) a n) → (xs : Items) → 0 < copies_of w → is_string (closed_items w xs) ≡ is_string xs
  unfolding wrap_of closed_items copies_of
  closed_string Struc a n r xs p = absurd r
  closed_string Ustruc a n r xs p = absurd r
  closed_string Edt a n r xs p = absurd r
  closed_string (Repeat zero) a n r xs p = absurd (omega arith)
  closed_string (Repeat (suc k)) a n r xs p = string_times k xs

  module _ (w : Wrap) (x : Extent) (e : HeadIs s (Ok (Open w x)) (O.head_of d b s)) where
    -- no copies
    repeat_gone : copies_of w ≡ 0 → (ys : Items) (u : ℕ) → object_at d b s ≡ got ys u → (u ≡ x.start + x.size) × (is_string ys ≡ true)
    repeat_gone z ys u f =
        let o = opened d b s w x ys u e f in
        (o.past, ap is_string (o.closes ∙ closed_none w o.xs z) ∙ string_end)

    -- as many as the pattern's own answer
    repeat_as : (r : Bool) → OnlyChars (d + 1) (O.contents s x.start x.size) r → 0 < copies_of w → (ys : Items) (u : ℕ) → object_at d b s ≡ got ys u
        → (u ≡ x.start + x.size) × (is_string ys ≡ r)
    repeat_as r q p ys u f =
        let o = opened d b s w x ys u e f in
        (o.past, ap is_string o.closes ∙ closed_string w x.start x.size (like _ e.0) o.xs p ∙ sym (q o.xs (opened_run o)))

-- ---- the loop: up to i a run that is accepted says only CHARs
pub record CharsTo (d : ℕ) (s : List ℕ) (all : Items) (i : ℕ) : Type 0 where
  pub xs : Items
  pub passed : Passed d s all xs i
  pub chars : is_string xs ≡ true

pub record Chars (d : ℕ) (s : List ℕ) (i : ℕ) : Type 0 where
  pub at : i ≤ length s
  pub so_far : (all : Items) → reads d s ≡ says all → CharsTo d s all i

pub chars_start : (d : ℕ) (s : List ℕ) → Chars d s 0
chars_start d s = record { at = zero-le; so_far = λ all e. record { xs = end; passed = passed_none d s all e; chars = string_end } }

pub chars_end : (d : ℕ) (s : List ℕ) (i : ℕ) → length s ≤ i → Chars d s i → OnlyChars d s true
chars_end d s i h v all e =
    let p = v.so_far all e in
    let q : says all ≡ says p.xs = sym e ∙ upto_end p.passed.upto h in
    let z : all ≡ p.xs = cc in
    sym (ap is_string z ∙ p.chars)

-- the object at i, as the code lends its bytes on
abbrev Here : ℕ → List ℕ → ℕ → Object
Here d s i = object_at d (get_or s i 0) (take (length s - (i + 1)) (drop (i + 1) s))

module _ {d : ℕ} {s : List ℕ} {i : ℕ} (v : Chars d s i) (h : i < length s) where
  -- the object at i says CHARs and ends at e
  chars_turn : (e : ℕ) → e ≤ length s → ((ys : Items) (u : ℕ) → Here d s i ≡ got ys u → (i + 1 + u ≡ e) × (is_string ys ≡ true)) → Chars d s e
  unfolding both
  chars_turn e l g =
      record {
        at = l;
        so_far = λ all q.
            let p = v.so_far all q in
            let a = ahead d s all p.xs i (get_or s i 0) p.passed h refl in
            let k = g a.ys a.past a.here in
            record {
              xs = join p.xs a.ys;
              passed = subst (Passed d s all (join p.xs a.ys)) k.0 a.further;
              chars = string_join p.xs a.ys ∙ rw (p.chars, k.1) refl;
            };
      }

  -- or something else
  pub chars_not : ((ys : Items) (u : ℕ) → Here d s i ≡ got ys u → is_string ys ≡ false) → OnlyChars d s false
  unfolding both
  chars_not g all q =
      let p = v.so_far all q in
      let a = ahead d s all p.xs i (get_or s i 0) p.passed h refl in
      let k = g a.ys a.past a.here in
      sym (ap is_string a.rest ∙ string_join (join p.xs a.ys) a.zs ∙ rw (string_join p.xs a.ys, p.chars, k) refl)

-- some objects together that say CHARs
chars_piece : {d : ℕ} {s : List ℕ} {i e : ℕ} {ys : Items} → Piece s i e ys → is_string ys ≡ true → Chars d s i → Chars d s e
unfolding both
chars_piece {ys = ys} b k v =
    record {
      at = b.to;
      so_far = λ all q.
          let p = v.so_far all q in
          record { xs = join p.xs ys; passed = passed_piece p.passed b; chars = string_join p.xs ys ∙ rw (p.chars, k) refl };
    }

-- many bytes that are all characters, or all padding
pub chars_bytes : (d : ℕ) (s : List ℕ) (i e : ℕ) → get_or s i 0 < 0x80 → (i + 1 ≤ e) × (e ≤ length s) × Between 0 0x7f (i + 1) e s → Chars d s i → Chars d s e
chars_bytes d s i e l w = chars_piece (chars_say s i e (omega (arith, w.0)) w.1 (between_from 0 0x7f i e s zero-le (omega arith) w.2)) (chars_string _)

pub chars_gaps : (d : ℕ) (s : List ℕ) (i e : ℕ) → get_or s i 0 ≡ 0xff → (i + 1 ≤ e) × (e ≤ length s) × Between 0xff 0xff (i + 1) e s → Chars d s i → Chars d s e
chars_gaps d s i e l w = chars_piece (padding_says s i e (omega (arith, w.0)) w.1 (between_from 0xff 0xff i e s (omega arith) (omega arith) w.2)) string_end

-- ---- as the code tells a type-byte, by its class
module _ {b : ℕ} where
  pub char_is : C.Char7 ≡ class_of b → b < 0x80
  char_is e = of_class b C.Char7 e

  pub gap_is : b < 256 → C.Padding ≡ class_of b → b ≡ 0xff
  gap_is h e = let m = of_class b C.Padding e in omega arith

  pub repeat_is : C.Repeat ≡ class_of b → b ≡ 0xc4
  repeat_is e = of_class b C.Repeat e

module _ {b : ℕ} {k : Class} (e : k ≡ class_of b) where
  pub char_not : (k ≡ C.Char7 → ⊥) → 0x80 ≤ b
  char_not n = split b 0x80 (λ l. absurd (n (e ∙ char_class b l))) (λ g. g)

  pub gap_not : b < 256 → (k ≡ C.Padding → ⊥) → b < 0xff
  unfolding class_of
  gap_not h n = split b 0xff (λ l. l) (λ g. let q : b ≡ 0xff = omega arith in absurd (n (e ∙ ap class_of q)))

  pub repeat_not : (k ≡ C.Repeat → ⊥) → b ≢ 0xc4
  unfolding class_of
  repeat_not n q = n (e ∙ ap class_of q)

-- as the code asks whether it is of a class
module _ (b : ℕ) {r : Bool} where
  pub char_told : IsTrue r ↔ (class_of b ≡ C.Char7) → r ≡ nat_lt b 0x80
  char_told e =
      whether r (λ y. y ∙ sym (lt_true b 0x80 (char_is (sym (e.0 y)))))
      (λ n. n ∙ sym (lt_false b 0x80 (char_not refl (λ q. let z = e.1 q in cc))))

  pub gap_told : b < 256 → IsTrue r ↔ (class_of b ≡ C.Padding) → r ≡ eqb b 0xff
  gap_told h e =
      whether r (λ y. y ∙ sym (eq_true b 0xff (gap_is h (sym (e.0 y)))))
      (λ n. let g = gap_not refl h (λ q. let z = e.1 q in cc) in n ∙ sym (eq_false b 0xff (omega arith)))

  pub repeat_told : IsTrue r ↔ (class_of b ≡ C.Repeat) → r ≡ eqb b 0xc4
  repeat_told e =
      whether r (λ y. y ∙ sym (eq_true b 0xc4 (repeat_is (sym (e.0 y)))))
      (λ n. n ∙ sym (eq_false b 0xc4 (repeat_not refl (λ q. let z = e.1 q in cc))))

-- ---- a repeat's pattern, as the code lends it on
pub record PatternAt (d : ℕ) (s : List ℕ) (i : ℕ) (w : Wrap) (x : Extent) : Type 0 where
  pub here : i < length s
  pub head : HeadIs (take (length s - (i + 1)) (drop (i + 1) s)) (Ok (Open w x)) (O.head_of d (get_or s i 0) (take (length s - (i + 1)) (drop (i + 1) s)))

module _ {d : ℕ} {s : List ℕ} {i : ℕ} {w : Wrap} {x : Extent} (p : PatternAt d s i w x) where
  -- the bytes behind the type-byte, where the pattern lies
  abbrev S : List ℕ
  S = take (length s - (i + 1)) (drop (i + 1) s)

  pub pattern_within : (x.start + x.size ≤ length S) × (i + 1 + (x.start + x.size) ≤ length s)
  pattern_within = (p.head.1, omega (arith, p.head.1, part_length (i + 1) s))

  pub pattern_shorter : length (O.contents S x.start x.size) + (i + 1) ≤ length s
  unfolding O.contents
  pattern_shorter = let q = pattern_within in simp (length-take, length-drop) (omega arith)

  module _ {e : ℕ} (ee : e ≡ x.start + x.size) (v : Chars d s i) (c4 : get_or s i 0 ≡ 0xc4) where
    ends : i + 1 + e ≤ length s
    ends = omega (arith, pattern_within.1)

    pub gone_turn : copies_of w ≡ 0 → Chars d s (i + 1 + e)
    gone_turn z =
        chars_turn v p.here (i + 1 + e) ends
        (λ ys u q. let k = repeat_gone d (get_or s i 0) S c4 w x p.head z ys u q in (omega (arith, k.0), k.1))

    module _ {r : Bool} (q : OnlyChars (d + 1) (O.contents S x.start x.size) r) (m : 0 < copies_of w) where
      pub more_turn : r ≡ true → Chars d s (i + 1 + e)
      more_turn y =
          chars_turn v p.here (i + 1 + e) ends
          (λ ys u f. let k = repeat_as d (get_or s i 0) S c4 w x p.head r q m ys u f in (omega (arith, k.0), k.1 ∙ y))

  -- or it says something else
  pub stop_turn : Chars d s i → get_or s i 0 ≡ 0xc4 → OnlyChars (d + 1) (O.contents S x.start x.size) false → 0 < copies_of w → OnlyChars d s false
  stop_turn v c4 q m = chars_not v p.here (λ ys u f. (repeat_as d (get_or s i 0) S c4 w x p.head false q m ys u f).1)
