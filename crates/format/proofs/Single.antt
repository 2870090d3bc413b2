-- One object that is no padding says one item, and the normal form of one item is one object. Assumes nothing.
use Prim.Native.Nat.{ℕ, suc, ◌+◌, ◌-◌, ◌≤◌, ◌<◌}
use native.Mathlib.Omega.{arith}
use mathlib.Core.Path.{◌≡◌, refl, sym, ap, ◌∙◌, subst}
use mathlib.Core.Logic.{◌≢◌, ◌↔◌}
use mathlib.Core.Bool.{true}
use mathlib.Core.Option.{Option, some}
use mathlib.Core.List.{List, [], ◌∷◌, ◌++◌}
use lib.ListN.{length, drop, get_or, length-append}
use lib.Seq.{drop-length}
use Rattle.format.specs.Choice.{if_eq}
use Rattle.format.specs.declared.Class.{Class}
use Rattle.format.specs.declared.Class.TheVariants as C
use Rattle.format.specs.Refusals.{byte_limit, depth_limit}
use Rattle.format.specs.Items.{Leaf, Items, end, leaf, group, one, join, kinds, proper}
use Rattle.format.specs.Classes.{class_of}
use Rattle.format.specs.Objects as O
use Rattle.format.specs.Messages.{says, Object, bad, got, object, next, reads, outcome}
use Rattle.format.specs.Tables.{count}
use Rattle.format.specs.Normal.{with_size, normal_leaf, group_byte, normal, depth}
use Rattle.format.specs.Runs.{object_at}
use Rattle.format.specs.Extents.{extent_by, extent_of, OneObject, single}
use Rattle.format.proofs.Choices.{by_lt}
use Rattle.format.proofs.Counts.{join_end}
use Rattle.format.proofs.Steps.{reads_nil, reads_cons}
use Rattle.format.proofs.Runs.{onto_says}
use Rattle.format.proofs.Sizes.{sized_length}
use Rattle.format.proofs.Extents.{Ends, head_extent}
use Rattle.format.proofs.Apart.{got_extent}
use Rattle.format.proofs.OneKind.{KindsBy, class_tells_kind}
use Rattle.format.proofs.ItemLaws.{leaf_proper, length_leaf}
use Rattle.format.proofs.NormalHeads.{Heads, leaf_head, group_head_lem}

-- ---- an object that is the whole of a run says all of it
sizes_alike : (h n i j : ℕ) → ◌≡◌ {A = Option O.Size} (some (O.size h n)) (some (O.size i j)) → h + n ≡ i + j
sizes_alike h n i j e = let a : h ≡ i = cc in let b : n ≡ j = cc in omega arith

whole_object : (d b : ℕ) (s : List ℕ) (all : Items) (h n : ℕ) → extent_of b s ≡ some (O.size h n) → h + n ≡ length s → reads d (b ∷ s) ≡ says all
    → object_at d b s ≡ got all (length s)
unfolding next
whole_object d b s all h n told whole q = go (object_at d b s) refl (sym (reads_cons d b s) ∙ q)
  where
    go : (x : Object) → object_at d b s ≡ x → next x (λ u. reads d (drop u s)) ≡ says all → object_at d b s ≡ got all (length s)
    go (bad f) e k = let z : ◌≡◌ {A = ℕ} 0 1 = cc in absurd (omega arith)
    go (got xs u) e k =
        let x = got_extent d b s xs u e in
        let l : u ≡ length s = omega (arith, x.3, sizes_alike h n x.0 x.1 (sym told ∙ x.2)) in
        let z = onto_says xs (1 + u) (reads d (drop u s)) all k in
        let y = sym (ap (reads d) (ap (λ v. drop v s) l ∙ drop-length s) ∙ reads_nil d) ∙ z.1 in
        let g : end ≡ z.0 = cc in
        e ∙ ap (got xs) l ∙ ap (λ a. got a (length s)) (sym (z.2 ∙ ap (join xs) (sym g) ∙ join_end xs))

-- ---- it is one item
kinds_count : (xs : Items) → length (kinds xs) ≡ count xs
unfolding kinds count
kinds_count end = refl
kinds_count (leaf l xs) = ap suc (kinds_count xs)
kinds_count (group g c xs) = ap suc (kinds_count xs)

-- outermost there is no REPEAT
object_one : (b : ℕ) (s : List ℕ) (xs : Items) (u : ℕ) → class_of b ≢ C.Padding → object_at 0 b s ≡ got xs u → count xs ≡ 1
unfolding object_at object O.head_of O.head_by O.repeat_head
object_one b s xs u p q = go (class_of b) p q (class_tells_kind 0 b s xs u q)
  where
    go : (c : Class) → c ≢ C.Padding → object (λ h n. reads 1 (O.contents s h n)) (O.head_by c 0 b s) ≡ got xs u → KindsBy c (kinds xs) → count xs ≡ 1
    go C.Char7 y e k = sym (kinds_count xs) ∙ ap length k
    go C.Sinteger y e k = sym (kinds_count xs) ∙ ap length k
    go C.Linteger y e k = sym (kinds_count xs) ∙ ap length k
    go C.Sbitstr y e k = sym (kinds_count xs) ∙ ap length k
    go C.Lbitstr y e k = sym (kinds_count xs) ∙ ap length k
    go C.String y e k = sym (kinds_count xs) ∙ ap length k
    go C.Struc y e k = sym (kinds_count xs) ∙ ap length k
    go C.Ustruc y e k = sym (kinds_count xs) ∙ ap length k
    go C.Edt y e k = sym (kinds_count xs) ∙ ap length k
    go C.Repeat y e k = let z : ◌≡◌ {A = ℕ} 0 1 = cc in absurd (omega arith)
    go C.Xtra y e k = sym (kinds_count xs) ∙ ap length k
    go C.Bool y e k = sym (kinds_count xs) ∙ ap length k
    go C.Empty y e k = sym (kinds_count xs) ∙ ap length k
    go C.Padding y e k = absurd (y refl)
    go C.Reserved y e k = absurd k

one_whole : (b h : ℕ) (s : List ℕ) (xs : Items) → OneObject (b ∷ s) h → outcome (b ∷ s) ≡ says xs → object_at 0 b s ≡ got xs (length s)
unfolding outcome
one_whole b h s xs (single _ i n _ y x r) q = whole_object 0 b s xs h n x r q

-- An accepted message that does not begin with padding is one object, by its bytes, exactly when its first object is read to its end.
pub one_exactly : (b : ℕ) (s : List ℕ) (xs : Items) → class_of b ≢ C.Padding → outcome (b ∷ s) ≡ says xs
    → ((h : ℕ) × OneObject (b ∷ s) h) ↔ (object_at 0 b s ≡ got xs (length s))
one_exactly b s xs p q = (
  λ o. one_whole b o.0 s xs o.1 q,
  λ e. let x = got_extent 0 b s xs (length s) e in (x.0, single b x.0 x.1 s p x.2 x.3),
)

pub one_item : (m : List ℕ) (h : ℕ) (xs : Items) → OneObject m h → outcome m ≡ says xs → count xs ≡ 1
one_item _ h xs (single b i n s y x r) q = object_one b s xs (length s) y (one_whole b h s xs (single b h n s y x r) q)

-- contents behind a size field of h bytes, one at least
abbrev pub SizedAs : List ℕ → ℕ → Type 0
SizedAs s h = (n : ℕ) × (O.size_of s ≡ O.size h n) × (0 < h) × (h + n ≡ length s)

field_some : (s : List ℕ) (h n : ℕ) → O.size_of s ≡ O.size h n → 0 < h
unfolding O.size_of O.long_size
field_some [] h n e = let z : ◌≡◌ {A = ℕ} 0 1 = cc in absurd (omega arith)
field_some (b ∷ s) h n e = go e
  where
    P : O.Size → Type 0
    P x = x ≡ O.size h n → 0 < h

    go : P (O.size_of (b ∷ s))
    go =
        by_lt P b 0x80 (λ l q. let z : 1 ≡ h = cc in omega arith)
        (λ l. by_lt P (length s) _ (λ k q. let z : ◌≡◌ {A = ℕ} 0 1 = cc in absurd (omega arith)) (λ k q. let z : 1 + if_eq b 0x80 128 (b - 0x80) ≡ h = cc in omega arith))

-- ---- class by class: its size field has h bytes, and s are those behind its type-byte. Of the rest there is no accepted message.
abbrev pub FormBy : Class → ℕ → List ℕ → ℕ → Type 0
FormBy C.Char7 b s h = (h ≡ 0) × (length s ≡ 0)
FormBy C.Sinteger b s h = (h ≡ 0) × (length s ≡ 0)
FormBy C.Linteger b s h = (h ≡ 0) × (length s ≡ O.following b)
FormBy C.Sbitstr b s h = (h ≡ 0) × (length s ≡ O.following b)
FormBy C.Lbitstr b s h = SizedAs s h
FormBy C.String b s h = SizedAs s h
FormBy C.Struc b s h = SizedAs s h
FormBy C.Ustruc b s h = SizedAs s h
FormBy C.Edt b s h = SizedAs s h
FormBy C.Repeat b s h = ⊥
FormBy C.Xtra b s h = (h ≡ 0) × (length s ≡ 0)
FormBy C.Bool b s h = (h ≡ 0) × (length s ≡ 0)
FormBy C.Empty b s h = (h ≡ 0) × (length s ≡ 0)
FormBy C.Padding b s h = ⊥
FormBy C.Reserved b s h = ⊥

fixed_form : (k h n : ℕ) (s : List ℕ) → ◌≡◌ {A = Option O.Size} (some (O.size 0 k)) (some (O.size h n)) → h + n ≡ length s → (h ≡ 0) × (length s ≡ k)
fixed_form k h n s x r = let a : 0 ≡ h = cc in let b : k ≡ n = cc in (omega arith, omega arith)

sized_form : (h n : ℕ) (s : List ℕ) → some (O.size_of s) ≡ some (O.size h n) → h + n ≡ length s → SizedAs s h
sized_form h n s x r = let e : O.size_of s ≡ O.size h n = cc in (n, e, field_some s h n e, r)

class_form : (c : Class) (b h n : ℕ) (s : List ℕ) (xs : Items) (u : ℕ) → c ≢ C.Padding → extent_by c b s ≡ some (O.size h n) → h + n ≡ length s
    → object (λ i j. reads 1 (O.contents s i j)) (O.head_by c 0 b s) ≡ got xs u → FormBy c b s h
unfolding extent_by object O.head_by O.repeat_head
class_form C.Char7 b h n s xs u p x r q = fixed_form 0 h n s x r
class_form C.Sinteger b h n s xs u p x r q = fixed_form 0 h n s x r
class_form C.Linteger b h n s xs u p x r q = fixed_form (O.following b) h n s x r
class_form C.Sbitstr b h n s xs u p x r q = fixed_form (O.following b) h n s x r
class_form C.Lbitstr b h n s xs u p x r q = sized_form h n s x r
class_form C.String b h n s xs u p x r q = sized_form h n s x r
class_form C.Struc b h n s xs u p x r q = sized_form h n s x r
class_form C.Ustruc b h n s xs u p x r q = sized_form h n s x r
class_form C.Edt b h n s xs u p x r q = sized_form h n s x r
class_form C.Repeat b h n s xs u p x r q = let z : ◌≡◌ {A = ℕ} 0 1 = cc in absurd (omega arith)
class_form C.Xtra b h n s xs u p x r q = fixed_form 0 h n s x r
class_form C.Bool b h n s xs u p x r q = fixed_form 0 h n s x r
class_form C.Empty b h n s xs u p x r q = fixed_form 0 h n s x r
class_form C.Padding b h n s xs u p x r q = p refl
class_form C.Reserved b h n s xs u p x r q = let z : ◌≡◌ {A = ℕ} 0 1 = cc in absurd (omega arith)

pub one_form : (b h : ℕ) (s : List ℕ) (xs : Items) → OneObject (b ∷ s) h → outcome (b ∷ s) ≡ says xs → FormBy (class_of b) b s h
unfolding extent_of object_at O.head_of
one_form b h s xs (single _ i n _ y x r) q = class_form (class_of b) b h n s xs (length s) y x r (one_whole b h s xs (single b h n s y x r) q)

-- so an accepted one is no REPEAT
pub one_no_repeat : (m : List ℕ) (h : ℕ) (xs : Items) → OneObject m h → outcome m ≡ says xs → class_of (get_or m 0 0) ≢ C.Repeat
one_no_repeat _ h xs (single b i n s y x r) q e = subst (λ c. FormBy c b s h) e (one_form b h s xs (single b h n s y x r) q)

-- ---- the normal form of one item is one object
-- a head that gives items, or opens a container, is not PADDING's
not_padding : (b : ℕ) (s : List ℕ) → O.head_of 0 b s ≢ O.gives end 0 → class_of b ≢ C.Padding
unfolding O.head_of O.head_by
not_padding b s e q = e (ap (λ c. O.head_by c 0 b s) q)

by_head : (b : ℕ) (s : List ℕ) (x : O.Head) → O.head_of 0 b s ≡ x → x ≢ O.gives end 0 → Ends (length s) x → (h : ℕ) × OneObject (b ∷ s) h
by_head b s x e y i =
    let z = head_extent 0 b s (length s) (subst (Ends (length s)) (sym e) i) in
    (z.0, single b z.0 z.1 s (not_padding b s (λ q. y (sym e ∙ q))) z.2 z.3)

leaf_one : (l : Leaf) (p : List ℕ) → Heads 0 (one l) [] p → (h : ℕ) × OneObject (p ++ []) h
leaf_one l [] q = absurd q
leaf_one l (b ∷ p) q =
    by_head b (p ++ []) (O.gives (one l) (length p)) q (λ e. let z : ◌≡◌ {A = ℕ} 0 1 = cc in absurd (omega arith)) (omega (arith, length-append p []))

pub normal_one : (xs : Items) → count xs ≡ 1 → proper xs ≡ true → depth xs ≤ depth_limit → length (normal xs) ≤ byte_limit → (h : ℕ) × OneObject (normal xs) h
unfolding count normal depth
normal_one end c o d l = absurd (omega arith)
normal_one (leaf x end) c o d l = leaf_one x (normal_leaf x) (leaf_head 0 x [] (leaf_proper x end o).0 (omega (arith, length_leaf x end)))
normal_one (leaf x (leaf y xs)) c o d l = absurd (omega arith)
normal_one (leaf x (group g e xs)) c o d l = absurd (omega arith)
normal_one (group g c end) k o d l =
    by_head (group_byte g c) (with_size (normal c) ++ []) _ (group_head_lem 0 g c (normal c) [] (omega arith))
    (λ e. let z : ◌≡◌ {A = ℕ} 0 1 = cc in absurd (omega arith)) (omega (arith, length-append (with_size (normal c)) [], sized_length (normal c)))
normal_one (group g c (leaf y xs)) k o d l = absurd (omega arith)
normal_one (group g c (group i e xs)) k o d l = absurd (omega arith)
