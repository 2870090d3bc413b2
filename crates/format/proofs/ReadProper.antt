-- What is read is a list of items of the format: proper, and no deeper than sixteen. Assumes nothing.
use mathlib.Core.Path.{◌≡◌, refl, subst}
use Prim.Native.Nat.{ℕ, zero, suc, ◌+◌, ◌-◌, ◌%◌, ◌^◌, ◌≤◌, ◌<◌}
use native.Mathlib.Omega.{arith}
use mathlib.Core.Bool.{Bool, true}
use mathlib.Core.List.{List, [], ◌∷◌}
use lib.ListN.{length, take, drop}
use lib.Seq.{length-take-le}
use lib.Signed.{mag}
use Rattle.format.specs.Numbers.{Bytes}
use Rattle.format.specs.Refusals.{Fault, depth_limit}
use Rattle.format.specs.Items.{Leaf, int, bits, char, empty, xtra, Group, struc, edt, Items, end, group, one, uniform, edt_rule, proper_leaf, proper_group, proper}
use Rattle.format.specs.declared.Class.{Class}
use Rattle.format.specs.declared.Class.TheVariants.{Char7, Sinteger, Linteger, Sbitstr, Lbitstr, String, Struc, Ustruc, Edt, Repeat, Xtra, Bool as Boolean, Empty, Padding, Reserved}
use Rattle.format.specs.Classes.{class_of}
use Rattle.format.specs.Objects.{Wrap, as_struc, as_ustruc, as_edt, repeated, Head, stop, gives, opens, following, integer, contents, characters, group_head, head_by, head_of}
use Rattle.format.specs.Messages.{Outcome, refused, says, Object, bad, got, closing, around, object, onto, next, run, reads, outcome}
use Rattle.format.specs.Normal.{depth}
use Rattle.format.proofs.Choices.{lt_true, by_pick}
use Rattle.format.proofs.Digits.{bytes_take, bytes_drop, pow_le}
use Rattle.format.proofs.Sizes.{contents_bytes}
use Rattle.format.proofs.TypeBytes.{InClass, in_class, following_range}
use Rattle.format.proofs.ItemLaws.{proper_leaf_lem, proper_group_lem, join_proper, join_depth, times_proper, times_depth}
use Rattle.format.proofs.Shortest.{integer_mag}
use Rattle.format.proofs.HeadCases.{FaultWithin, by_linteger, by_sbitstr, by_lbitstr, by_string, by_group, by_repeat}

-- a fact of the items, where there are any
abbrev pub WhereSaid : (Items → Type 0) → Outcome → Type 0
WhereSaid P (refused f) = Unit {0}
WhereSaid P (says xs) = P xs

-- items that bytes say with d containers around them
abbrev Sound : ℕ → List ℕ → Items → Type 0
Sound d s xs = (Bytes s → proper xs ≡ true) × (d + depth xs ≤ depth_limit)

-- ---- what one object gives by itself
abbrev Fine : ℕ → List ℕ → Head → Type 0
Fine d s (stop f) = Unit {0}
Fine d s (gives xs u) = Sound d s xs
Fine d s (opens w h n) = d < depth_limit

fine_stop : (d : ℕ) (s : List ℕ) (f : Fault) → FaultWithin d (length s) f → Fine d s (stop f)
fine_stop d s f w = tt

sound_leaf : (d : ℕ) (s : List ℕ) (l : Leaf) → d ≤ depth_limit → (Bytes s → proper_leaf l ≡ true) → Sound d s (one l)
sound_leaf d s l h p = (λ b. proper_leaf_lem l end (p b) (unfold proper in refl), unfold depth in omega arith)

-- a group whose elements are sound inside one container more
sound_group : (g : Group) (d : ℕ) (s : List ℕ) (c : Items) → proper_group g c ≡ true → (Bytes s → proper c ≡ true) → suc d + depth c ≤ depth_limit
    → Sound d s (group g c end)
unfolding depth
sound_group g d s c o p h = (λ b. proper_group_lem g c end o (p b) (unfold proper in refl), omega arith)

-- up to eight bytes make an integer in the range of INT
integer_proper : (p : List ℕ) → Bytes p → length p ≤ 8 → proper_leaf (int (integer p)) ≡ true
unfolding proper_leaf
integer_proper p b l = lt_true (mag (integer p)) (2 ^ 63) (omega (arith, integer_mag p b, pow_le l))

fine_linteger : (d k : ℕ) (s : List ℕ) → d ≤ depth_limit → k ≤ 8 → k ≤ length s → Sound d s (one (int (integer (take k s))))
fine_linteger d k s h l g =
    sound_leaf d s (int (integer (take k s))) h (λ b. integer_proper (take k s) (bytes_take k s b) (omega (arith, length-take-le k s g)))

sound_bits : (d : ℕ) (s : List ℕ) (bs : List Bool) → d ≤ depth_limit → Sound d s (one (bits bs))
sound_bits d s bs h = sound_leaf d s (bits bs) h (λ b. unfold proper_leaf in refl)

characters_proper : (s : List ℕ) → proper (characters s) ≡ true
unfolding characters
characters_proper [] = unfold proper in refl
characters_proper (b ∷ s) =
    proper_leaf_lem (char (b % 128)) (characters s) (unfold proper_leaf in lt_true (b % 128) 128 (omega arith)) (characters_proper s)

characters_depth : (s : List ℕ) → depth (characters s) ≡ 0
unfolding characters depth
characters_depth [] = refl
characters_depth (b ∷ s) = characters_depth s

fine_group : (w : Wrap) (d : ℕ) (s : List ℕ) → Fine d s (group_head w d s)
fine_group w d s = by_group (Fine d s) d s (fine_stop d s) w (λ h i n a b. h)

fine_by : (c : Class) (d b : ℕ) (s : List ℕ) → d ≤ depth_limit → InClass b c → Fine d s (head_by c d b s)
unfolding head_by
fine_by Char7 d b s h r = sound_leaf d s (char b) h (λ a. unfold proper_leaf in lt_true b 128 r)
fine_by Sinteger d b s h r = sound_leaf d s _ h (λ a. unfold proper_leaf in lt_true (b - 0x80) (2 ^ 63) (omega arith))
fine_by Linteger d b s h r = by_linteger (Fine d s) d s (fine_stop d s) b (fine_linteger d (following b) s h (following_range b).1)
fine_by Sbitstr d b s h r = by_sbitstr (Fine d s) d s (fine_stop d s) b (λ l x p e z. sound_bits d s _ h)
fine_by Lbitstr d b s h r = by_lbitstr (Fine d s) d s (fine_stop d s) (λ i n a g k u e f q. sound_bits d s _ h)
fine_by String d b s h r =
    by_string (Fine d s) d s (fine_stop d s)
    (λ l i n a g. let c = contents s i n in sound_group struc d s (characters c) (unfold proper_group in refl) (λ w. characters_proper c) (omega (arith, characters_depth c)))
fine_by Struc d b s h r = fine_group as_struc d s
fine_by Ustruc d b s h r = fine_group as_ustruc d s
fine_by Edt d b s h r = fine_group as_edt d s
fine_by Repeat d b s h r = by_repeat (Fine d s) d s (fine_stop d s) (λ l i n a g k u e f. l)
fine_by Xtra d b s h r = sound_leaf d s (xtra (b - 0xf8)) h (λ a. unfold proper_leaf in lt_true (b - 0xf8) 4 (omega arith))
fine_by Boolean d b s h r = sound_leaf d s _ h (λ a. unfold proper_leaf in refl)
fine_by Empty d b s h r = sound_leaf d s empty h (λ a. unfold proper_leaf in refl)
fine_by Padding d b s h r = (λ a. unfold proper in refl, unfold depth in omega arith)
fine_by Reserved d b s h r = tt

fine : (d b : ℕ) (s : List ℕ) → d ≤ depth_limit → Fine d s (head_of d b s)
unfolding head_of
fine d b s h = fine_by (class_of b) d b s h (in_class b)

-- ---- what an object gives, its contents read
abbrev Got : ℕ → List ℕ → Object → Type 0
Got d s (bad f) = Unit {0}
Got d s (got xs u) = Sound d s xs

got_closing : (w : Wrap) (d u : ℕ) (s : List ℕ) (xs : Items) → (Bytes s → proper xs ≡ true) → suc d + depth xs ≤ depth_limit
    → Got d s (closing w u xs)
unfolding closing proper_group
got_closing as_struc d u s xs p h = sound_group struc d s xs refl p h
got_closing as_ustruc d u s xs p h = by_pick (Got d s) (uniform xs) (λ e. sound_group struc d s xs refl p h) (λ e. tt)
got_closing as_edt d u s xs p h = by_pick (Got d s) (edt_rule xs) (λ e. sound_group edt d s xs e p h) (λ e. tt)
got_closing (repeated k) d u s xs p h = (λ b. times_proper k xs (p b), omega (arith, times_depth k xs))

got_around : (w : Wrap) (d i n : ℕ) (s : List ℕ) (o : Outcome) → WhereSaid (Sound (suc d) (contents s i n)) o → Got d s (around w i n o)
unfolding around
got_around w d i n s (refused f) g = tt
got_around w d i n s (says xs) g =
    got_closing w d (i + n) s xs (λ b. g.0 (contents_bytes s i n b)) g.1

got_object : (d : ℕ) (s : List ℕ) (inside : ℕ → ℕ → Outcome) (x : Head) → Fine d s x
    → (d < depth_limit → (i n : ℕ) → WhereSaid (Sound (suc d) (contents s i n)) (inside i n)) → Got d s (object inside x)
unfolding object
got_object d s inside (stop f) g r = tt
got_object d s inside (gives xs u) g r = g
got_object d s inside (opens w i n) g r = got_around w d i n s (inside i n) (r g i n)

sound_onto : (d b u n : ℕ) (s : List ℕ) (xs : Items) (o : Outcome) → Sound d s xs → WhereSaid (Sound d (drop u s)) o
    → WhereSaid (Sound d (b ∷ s)) (onto xs n o)
unfolding onto
sound_onto d b u n s xs (refused f) g r = tt
sound_onto d b u n s xs (says ys) g r =
    (λ a. join_proper xs ys (g.0 a.1) (r.0 (bytes_drop u s a.1)), omega (arith, join_depth xs ys))

sound_next : (d b : ℕ) (s : List ℕ) (rest : ℕ → Outcome) (x : Object) → Got d s x → ((u : ℕ) → WhereSaid (Sound d (drop u s)) (rest u))
    → WhereSaid (Sound d (b ∷ s)) (next x rest)
unfolding next
sound_next d b s rest (bad f) g r = tt
sound_next d b s rest (got xs u) g r = sound_onto d b u (1 + u) s xs (rest u) g (r u)

-- ---- what a run says
sound : (f d : ℕ) (s : List ℕ) → d ≤ depth_limit → WhereSaid (Sound d s) (run f d s)
unfolding run
sound zero d s h = (λ a. unfold proper in refl, unfold depth in omega arith)
sound (suc f) d [] h = (λ a. unfold proper in refl, unfold depth in omega arith)
sound (suc f) d (b ∷ s) h =
    sound_next d b s (λ u. run f d (drop u s)) (object (λ i n. run f (suc d) (contents s i n)) (head_of d b s))
    (got_object d s (λ i n. run f (suc d) (contents s i n)) (head_of d b s) (fine d b s h) (λ l i n. sound f (suc d) (contents s i n) l))
    (λ u. sound f d (drop u s) h)

reads_sound : (d : ℕ) (s : List ℕ) (xs : Items) → d ≤ depth_limit → reads d s ≡ says xs → Sound d s xs
unfolding reads
reads_sound d s xs h e = subst (WhereSaid (Sound d s)) e (sound (length s) d s h)

pub reads_proper : (d : ℕ) (s : List ℕ) (xs : Items) → d ≤ depth_limit → Bytes s → reads d s ≡ says xs → proper xs ≡ true
reads_proper d s xs h b e = (reads_sound d s xs h e).0 b

pub reads_depth : (d : ℕ) (s : List ℕ) (xs : Items) → d ≤ depth_limit → reads d s ≡ says xs → d + depth xs ≤ depth_limit
reads_depth d s xs h e = (reads_sound d s xs h e).1

pub read_proper : (m : List ℕ) (xs : Items) → Bytes m → outcome m ≡ says xs → proper xs ≡ true
unfolding outcome
read_proper m xs b e = reads_proper 0 m xs (omega arith) b e

pub read_depth : (m : List ℕ) (xs : Items) → outcome m ≡ says xs → depth xs ≤ depth_limit
unfolding outcome
read_depth m xs e = omega (arith, reads_depth 0 m xs (omega arith) e)
