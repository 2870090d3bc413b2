-- A run read piece by piece: an object and then the rest, some objects together, one piece behind another, and many bytes of which
-- each is an object. Assumes nothing.
use Prim.Native.Nat.{ℕ, zero, suc, ◌+◌, ◌-◌, ◌%◌, ◌≤◌, ◌<◌, zero-le}
use native.Mathlib.Omega.{arith}
use native.Mathlib.Nat.{add-zero, le_refl}
use native.Mathlib.Numerals.{add-one}
use mathlib.Core.Path.{◌≡◌, refl, sym, ap, ◌∙◌, subst, fun_ext}
use mathlib.Core.List.{List, [], ◌∷◌}
use lib.ListN.{length, take, drop, get_or, length-drop, drop_of_length-le}
use lib.Seq.{drop-cons, drop-drop}
use Rattle.format.specs.declared.Class.{Class}
use Rattle.format.specs.declared.Class.TheVariants as C
use Rattle.format.specs.Refusals.{Fault, further}
use Rattle.format.specs.Items.{Items, end, leaf, one, join, char, int}
use lib.IntN.{pos}
use Rattle.format.specs.Classes.{class_of}
use Rattle.format.specs.Objects.{gives, contents, head_by, head_of, characters}
use Rattle.format.specs.Messages.{Outcome, refused, says, Object, bad, got, object, onto, next, reads}
use Rattle.format.specs.Runs.{object_at, Piece}
use Rattle.format.proofs.Counts.{join_end, join_assoc}
use Rattle.format.proofs.Parts.{rest_part}
use Rattle.format.proofs.Steps.{reads_nil, reads_cons}
use Rattle.format.proofs.TypeBytes.{char_class, small_class}
use Rattle.format.proofs.Bounds.{ObjectWithin, at_within, got_within}

-- ---- faults moved outward
-- a fault at another place
abbrev elsewhere : Fault → ℕ → Fault
elsewhere f p = record { number = f.number; place = p; missing = f.missing }

further_none : (f : Fault) → f ≡ further 0 f
unfolding further
further_none f = ap (elsewhere f) (omega arith)

pub further_further : (i n : ℕ) (f : Fault) → further i (further n f) ≡ further (i + n) f
unfolding further
further_further i n f = ap (elsewhere f) (omega arith)

pub onto_none : (z : Outcome) → z ≡ onto end 0 z
unfolding onto join
onto_none (refused f) = ap refused (further_none f)
onto_none (says ys) = refl

pub onto_onto : (xs ys : Items) (i n : ℕ) (z : Outcome) → onto xs i (onto ys n z) ≡ onto (join xs ys) (i + n) z
unfolding onto
onto_onto xs ys i n (refused f) = ap refused (further_further i n f)
onto_onto xs ys i n (says zs) = ap says (sym (join_assoc xs ys zs))

-- ---- one object, and what is said past it
pub turn_at : (d : ℕ) (s : List ℕ) (i : ℕ) → i < length s → reads d (drop i s) ≡ next (object_at d (get_or s i 0) (drop (i + 1) s)) (λ u. reads d (drop (i + 1 + u) s))
turn_at d s i h =
    rw (drop-cons s i 0, add-one i)
    (reads_cons d (get_or s i 0) (drop (suc i) s)
    ∙ ap (next (object_at d (get_or s i 0) (drop (suc i) s))) (fun_ext (λ u. ap (reads d) (drop-drop u (suc i) s))))

-- an object by its head, where that gives its items
pub given_object : (d b : ℕ) (s : List ℕ) (xs : Items) (u : ℕ) → head_of d b s ≡ gives xs u → object_at d b s ≡ got xs u
unfolding object_at object
given_object d b s xs u e = ap (object (λ h n. reads (suc d) (contents s h n))) e

-- ---- some objects together, however deep they stand
module _ {s : List ℕ} where
  pub piece_none : (i : ℕ) → i ≤ length s → Piece s i i end
  piece_none i h = let k : i - i ≡ 0 = omega arith in record { from = le_refl i; to = h; said = λ d. rw k (onto_none (reads d (drop i s))) }

  pub piece_join : {i e f : ℕ} {xs ys : Items} → Piece s i e xs → Piece s e f ys → Piece s i f (join xs ys)
  piece_join {i} {e} {f} {xs} {ys} a b =
      let p = a.from in
      let q = b.from in
      let k : e - i + (f - e) ≡ f - i = omega arith in
      record {
        from = omega arith;
        to = b.to;
        said = λ d.
            a.said d ∙ ap (onto xs (e - i)) (b.said d) ∙ onto_onto xs ys (e - i) (f - e) (reads d (drop f s))
            ∙ ap (λ n. onto (join xs ys) n (reads d (drop f s))) k;
      }

  pub piece_object : (i u : ℕ) (xs : Items) → i < length s → ((d : ℕ) → object_at d (get_or s i 0) (drop (i + 1) s) ≡ got xs u) → Piece s i (i + 1 + u) xs
  unfolding next
  piece_object i u xs h o =
      let l = got_within 0 (get_or s i 0) (drop (i + 1) s) xs u (o 0) in
      let k : 1 + u ≡ i + 1 + u - i = omega arith in
      record {
        from = omega arith;
        to = omega (arith, length-drop (i + 1) s);
        said = λ d.
            turn_at d s i h ∙ ap (λ x. next x (λ v. reads d (drop (i + 1 + v) s))) (o d) ∙ ap (λ n. onto xs n (reads d (drop (i + 1 + u) s))) k;
      }

  pub piece_given : (i u : ℕ) (xs : Items) → i < length s → ((d : ℕ) → head_of d (get_or s i 0) (drop (i + 1) s) ≡ gives xs u) → Piece s i (i + 1 + u) xs
  piece_given i u xs h o = piece_object i u xs h (λ d. given_object d (get_or s i 0) (drop (i + 1) s) xs u (o d))

-- ---- many bytes of which each is an object
-- what bytes say that each say f
unfoldable pub each_of : (ℕ → Items) → List ℕ → Items
unfolding join
each_of f [] = end
each_of f (b ∷ s) = join (f b) (each_of f s)

-- an object of the type-byte b is that byte one_byte, and says f of it
abbrev pub OneByte : (ℕ → Items) → ℕ → Type 0
OneByte f b = (d : ℕ) (s : List ℕ) → object_at d b s ≡ got (f b) 0

pub piece_each : (f : ℕ → Items) (s : List ℕ) (n i : ℕ) → i + n ≤ length s → ((j : ℕ) → i ≤ j → j < i + n → OneByte f (get_or s j 0)) → Piece s i (i + n) (each_of f (take n (drop i s)))
unfolding each_of
piece_each f s zero i h g = subst (λ e. Piece s i e end) (sym (add-zero i)) (piece_none i (omega arith))
piece_each f s (suc n) i h g =
    let b = get_or s i 0 in
    let c = take n (drop (suc i) s) in
    let first = subst (λ e. Piece s i e (f b)) (add-zero (i + 1)) (piece_object i 0 (f b) (omega arith) (λ d. g i (le_refl i) (omega arith) d (drop (i + 1) s))) in
    let rest = piece_each f s n (suc i) (omega arith) (λ j p q. g j (omega arith) (omega arith)) in
    let e : suc i + n ≡ i + suc n = omega arith in
    let k : take (suc n) (drop i s) ≡ b ∷ c = rw (drop-cons s i 0 (omega arith)) refl in
    rw k (subst (λ m. Piece s i m (join (f b) (each_of f c))) e (piece_join first (rw (add-one i) rest)))

one_byte : (c : Class) (f : ℕ → Items) (b : ℕ) → class_of b ≡ c → ((d : ℕ) (s : List ℕ) → head_by c d b s ≡ gives (f b) 0) → OneByte f b
unfolding head_of
one_byte c f b e g d s = given_object d b s (f b) 0 (ap (λ k. head_by k d b s) e ∙ g d s)

-- bytes below 80 are characters
abbrev pub letter_of : ℕ → Items
letter_of b = one (char (b % 128))

pub each_letter : (s : List ℕ) → each_of letter_of s ≡ characters s
unfolding each_of characters join
each_letter [] = refl
each_letter (b ∷ s) = ap (leaf (char (b % 128))) (each_letter s)

pub char_one : (b : ℕ) → b < 0x80 → OneByte letter_of b
unfolding head_by
char_one b h = let e : b ≡ b % 128 = omega arith in one_byte C.Char7 letter_of b (char_class b h) (λ d s. ap (λ c. gives (one (char c)) 0) e)

-- those of SINTEGERs
abbrev pub small_of : ℕ → Items
small_of b = one (int (pos (b - 0x80)))

pub small_one : (b : ℕ) → 0x80 ≤ b → b < 0xc0 → OneByte small_of b
unfolding head_by
small_one b g h =
    let e : 0x80 + (b - 0x80) ≡ b = omega arith in
    one_byte C.Sinteger small_of b (rw e at (small_class (b - 0x80) (omega arith))) (λ d s. refl)

-- those of padding, which say nothing
abbrev pub none_of : ℕ → Items
none_of b = end

pub each_none : (s : List ℕ) → each_of none_of s ≡ end
unfolding each_of join
each_none [] = refl
each_none (b ∷ s) = each_none s

pub padding_one : (b : ℕ) → b ≡ 0xff → OneByte none_of b
unfolding head_by class_of
padding_one b e = one_byte C.Padding none_of b (ap class_of e) (λ d s. refl)

-- ---- what stands before a place of a run, d containers around it
pub record Upto (d : ℕ) (s : List ℕ) (i : ℕ) (xs : Items) : Type 0 where
  pub so_far : reads d s ≡ onto xs i (reads d (drop i s))
  pub within : i ≤ length s

pub upto_none : (d : ℕ) (s : List ℕ) → Upto d s 0 end
upto_none d s = record { so_far = onto_none (reads d s); within = zero-le }

module _ {d : ℕ} {s : List ℕ} {i : ℕ} {xs : Items} (v : Upto d s i xs) where
  -- more items, up to e
  upto_more : (ys : Items) (e n : ℕ) → i + n ≡ e → e ≤ length s → reads d (drop i s) ≡ onto ys n (reads d (drop e s)) → Upto d s e (join xs ys)
  upto_more ys e n k m r =
      record {
        so_far = v.so_far ∙ ap (onto xs i) r ∙ onto_onto xs ys i n (reads d (drop e s)) ∙ ap (λ z. onto (join xs ys) z (reads d (drop e s))) k;
        within = m;
      }

  pub upto_piece : {e : ℕ} {ys : Items} → Piece s i e ys → Upto d s e (join xs ys)
  upto_piece {e} {ys} b = let p = b.from in upto_more ys e (e - i) (omega arith) b.to (b.said d)

  pub upto_end : length s ≤ i → reads d s ≡ says xs
  unfolding onto
  upto_end h = v.so_far ∙ rw (drop_of_length-le s h, reads_nil d) (ap says (join_end xs))

  module _ (h : i < length s) where
    -- the object at i, as the code lends its bytes on
    abbrev pub object_here : Object
    object_here = object_at d (get_or s i 0) (take (length s - (i + 1)) (drop (i + 1) s))

    here_is : object_here ≡ object_at d (get_or s i 0) (drop (i + 1) s)
    here_is = ap (object_at d (get_or s i 0)) (rest_part s (i + 1))

    here_within : (x : Object) → object_here ≡ x → ObjectWithin d (length s - (i + 1)) x
    here_within x e =
        subst (ObjectWithin d (length s - (i + 1))) (sym here_is ∙ e)
        (subst (λ n. ObjectWithin d n (object_at d (get_or s i 0) (drop (i + 1) s))) (length-drop (i + 1) s) (at_within d (get_or s i 0) (drop (i + 1) s)))

    here_next : (x : Object) → object_here ≡ x → reads d (drop i s) ≡ next x (λ u. reads d (drop (i + 1 + u) s))
    here_next x e = turn_at d s i h ∙ ap (λ o. next o (λ u. reads d (drop (i + 1 + u) s))) (sym here_is ∙ e)

    pub upto_got : (ys : Items) (u : ℕ) → object_here ≡ got ys u → Upto d s (i + 1 + u) (join xs ys)
    unfolding next
    upto_got ys u e =
        let l : u ≤ length s - (i + 1) = here_within (got ys u) e in
        upto_more ys (i + 1 + u) (1 + u) (omega arith) (omega arith) (here_next (got ys u) e)

    pub upto_bad : (f : Fault) → object_here ≡ bad f → (i + f.place < length s) × (reads d s ≡ refused (further i f))
    unfolding next onto
    upto_bad f e =
        let l : f.place ≤ length s - (i + 1) = (here_within (bad f) e).0 in
        (omega arith, v.so_far ∙ ap (onto xs i) (here_next (bad f) e))

-- ---- in a run that is accepted
pub onto_says : (xs : Items) (i : ℕ) (o : Outcome) (all : Items) → onto xs i o ≡ says all → (zs : Items) × (o ≡ says zs) × (all ≡ join xs zs)
unfolding onto
onto_says xs i (refused f) all e = let z : ◌≡◌ {A = ℕ} 0 1 = cc in absurd (omega arith)
onto_says xs i (says zs) all e = (zs, refl, cc)

-- xs stand before i in a run that says `all`
pub record Passed (d : ℕ) (s : List ℕ) (all xs : Items) (i : ℕ) : Type 0 where
  pub said : reads d s ≡ says all
  pub upto : Upto d s i xs

pub passed_none : (d : ℕ) (s : List ℕ) (all : Items) → reads d s ≡ says all → Passed d s all end 0
passed_none d s all e = record { said = e; upto = upto_none d s }

pub passed_piece : {d : ℕ} {s : List ℕ} {all xs ys : Items} {i e : ℕ} → Passed d s all xs i → Piece s i e ys → Passed d s all (join xs ys) e
passed_piece p b = record { said = p.said; upto = upto_piece p.upto b }

pub passed_rest : {d : ℕ} {s : List ℕ} {all xs : Items} {i : ℕ} → Passed d s all xs i → (zs : Items) × (all ≡ join xs zs)
passed_rest {d} {s} {all} {xs} {i} p = let z = onto_says xs i (reads d (drop i s)) all (sym p.upto.so_far ∙ p.said) in (z.0, z.2)

-- the object at i, and zs behind it
pub record Ahead (d : ℕ) (s : List ℕ) (all xs : Items) (i b : ℕ) : Type 0 where
  pub ys : Items
  pub zs : Items
  pub past : ℕ
  pub here : object_at d b (take (length s - (i + 1)) (drop (i + 1) s)) ≡ got ys past
  pub rest : all ≡ join (join xs ys) zs
  pub further : Passed d s all (join xs ys) (i + 1 + past)

pub ahead : (d : ℕ) (s : List ℕ) (all xs : Items) (i b : ℕ) → Passed d s all xs i → i < length s → b ≡ get_or s i 0 → Ahead d s all xs i b
ahead d s all xs i b p h e = by (object_at d (get_or s i 0) (take (length s - (i + 1)) (drop (i + 1) s))) refl
  where
    by : (x : Object) → object_at d (get_or s i 0) (take (length s - (i + 1)) (drop (i + 1) s)) ≡ x → Ahead d s all xs i b
    by (bad f) q = let w : refused (further i f) ≡ says all = sym (upto_bad p.upto h f q).1 ∙ p.said in let z : ◌≡◌ {A = ℕ} 0 1 = cc in absurd (omega arith)
    by (got ys u) q =
        let on : Passed d s all (join xs ys) (i + 1 + u) = record { said = p.said; upto = upto_got p.upto h ys u q } in
        let z = passed_rest on in
        record { ys = ys; zs = z.0; past = u; here = rw e q; rest = z.1; further = on }
