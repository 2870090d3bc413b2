-- The kinds met, of lists of kinds joined and repeated; and what is told from them. Assumes nothing.
use Prim.Native.Nat.{ℕ, ◌<◌, ◌≤◌}
use native.Mathlib.Omega.{arith}
use lib.Dec.{eqb}
use mathlib.Core.Path.{◌≡◌, refl, sym, ap, ◌∙◌}
use mathlib.Core.Logic.{◌≢◌}
use mathlib.Core.Bool.{Bool, true, false}
use mathlib.Core.List.{List, [], ◌∷◌, ◌++◌}
use lib.ListN.{get_or}
use Rattle.std.proofs.Common.{◌⊎◌, inl, inr}
use Rattle.std.specs.Prelude.{map, ◌==◌, if◌then◌else◌}
use Rattle.format.specs.Choice.{pick}
use Rattle.format.specs.declared.kinds.Kind.{Kind}
use Rattle.format.specs.declared.kinds.Kind.TheVariants as K
use Rattle.format.specs.Kinds.{word_of}
use Rattle.format.specs.Items.{Leaf, int, bits, char, bool, empty, xtra, Group, struc, edt, Items, end, leaf, group, leaf_kind, group_kind, kinds, all_of, alike}
use Rattle.format.proofs.Choices.{eq_true, eq_false, split_eq}
use Rattle.scan.specs.Sums.{leaf_named, group_named, named, Mix, unmet, alone, several, together, mix_of, met_one, met_several, met_mix, mixed, struc_lead}

-- ---- the names of kinds, and their words
pub leaf_word : (l : Leaf) → word_of (leaf_named l) ≡ leaf_kind l
unfolding leaf_named leaf_kind
leaf_word (int z) = refl
leaf_word (bits bs) = refl
leaf_word (char c) = refl
leaf_word (bool b) = refl
leaf_word empty = refl
leaf_word (xtra n) = refl

group_word : (g : Group) → word_of (group_named g) ≡ group_kind g
unfolding group_named group_kind
group_word struc = refl
group_word edt = refl

pub named_words : (xs : Items) → map word_of (named xs) ≡ kinds xs
unfolding named kinds
named_words end = refl
named_words (leaf l xs) = rw (leaf_word l, named_words xs) refl
named_words (group g c xs) = rw (group_word g, named_words xs) refl

-- no two kinds have one word
kind_at : ℕ → Kind
kind_at n = get_or (K.Int ∷ K.Int ∷ K.Bits ∷ K.Char ∷ K.Bool ∷ K.Empty ∷ K.Xtra ∷ K.Struc ∷ K.Edt ∷ K.String ∷ []) n K.Int

kind_at_word : (k : Kind) → kind_at (word_of k) ≡ k
unfolding kind_at
kind_at_word K.Int = refl
kind_at_word K.Bits = refl
kind_at_word K.Char = refl
kind_at_word K.Bool = refl
kind_at_word K.Empty = refl
kind_at_word K.Xtra = refl
kind_at_word K.Struc = refl
kind_at_word K.Edt = refl
kind_at_word K.String = refl

word_bound : (k : Kind) → (0 < word_of k) × (word_of k ≤ 9)
word_bound K.Int = (omega arith, omega arith)
word_bound K.Bits = (omega arith, omega arith)
word_bound K.Char = (omega arith, omega arith)
word_bound K.Bool = (omega arith, omega arith)
word_bound K.Empty = (omega arith, omega arith)
word_bound K.Xtra = (omega arith, omega arith)
word_bound K.Struc = (omega arith, omega arith)
word_bound K.Edt = (omega arith, omega arith)
word_bound K.String = (omega arith, omega arith)

pub word_some : (k : Kind) → word_of k ≢ 0
word_some k e = let p = word_bound k in omega arith

word_few : (k : Kind) → word_of k ≢ 255
word_few k e = let p = word_bound k in omega arith

pub no_word : (k : Kind) → (word_of k ≡ 0) ⊎ (9 < word_of k) → ⊥
no_word k o = let p = word_bound k in elim o [ inl z ↦ omega arith | inr z ↦ omega arith ]

pub same_kind : (k l : Kind) → word_of k ≡ word_of l → k ≡ l
same_kind k l e = sym (kind_at_word k) ∙ ap kind_at e ∙ kind_at_word l

-- ---- the kinds met
pub together_none : (a : Mix) → together a unmet ≡ a
together_none unmet = refl
together_none (alone k) = refl
together_none several = refl

together_two : (k l : Kind) → word_of k ≢ word_of l → together (alone k) (alone l) ≡ several
together_two k l n = rw (eq_false (word_of k) (word_of l) n) refl

together_one : (k l : Kind) → word_of k ≡ word_of l → together (alone k) (alone l) ≡ alone k
together_one k l e = rw (eq_true (word_of k) (word_of l) e) refl

together_same : (a : Mix) → together a a ≡ a
together_same unmet = refl
together_same (alone k) = together_one k k refl
together_same several = refl

together_full : (a : Mix) → together a several ≡ several
together_full unmet = refl
together_full (alone k) = refl
together_full several = refl

together_assoc : (a b c : Mix) → together (together a b) c ≡ together a (together b c)
together_assoc unmet b c = refl
together_assoc several b c = refl
together_assoc (alone k) unmet c = refl
together_assoc (alone k) several c = refl
together_assoc (alone k) (alone l) unmet = together_none (together (alone k) (alone l))
together_assoc (alone k) (alone l) several = together_full (together (alone k) (alone l))
together_assoc (alone k) (alone l) (alone m) =
    split_eq (word_of k) (word_of l)
    (λ e. rw (same_kind k l e) (ap (λ a. together a (alone m)) (together_same (alone l)) ∙ again))
    (λ n. ap (λ a. together a (alone m)) (together_two k l n) ∙ sym (split_eq (word_of l) (word_of m)
    (λ e. ap (together (alone k)) (together_one l m e) ∙ together_two k l n)
    (λ o. ap (together (alone k)) (together_two l m o))))
  where
    again : together (alone l) (alone m) ≡ together (alone l) (together (alone l) (alone m))
    again =
        split_eq (word_of l) (word_of m)
        (λ e. rw (same_kind m l (sym e)) (ap (together (alone l)) (sym (together_same (alone l)))))
        (λ o. together_two l m o ∙ sym (ap (together (alone l)) (together_two l m o)))

pub mix_append : (a b : List Kind) → mix_of (a ++ b) ≡ together (mix_of a) (mix_of b)
unfolding mix_of
mix_append [] b = refl
mix_append (k ∷ a) b = ap (together (alone k)) (mix_append a b) ∙ sym (together_assoc (alone k) (mix_of a) (mix_of b))

-- the same kinds again change nothing
pub mix_again : (a b : List Kind) → mix_of b ≡ mix_of a → mix_of (a ++ b) ≡ mix_of a
mix_again a b e = mix_append a b ∙ ap (together (mix_of a)) e ∙ together_same (mix_of a)

-- ---- the rules
mix_cons : (k : Kind) (ks : List Kind) → mix_of (k ∷ ks) ≡ pick (all_of (word_of k) (map word_of ks)) (alone k) several
unfolding mix_of all_of pick
mix_cons k [] = refl
mix_cons k (l ∷ ks) =
    ap (together (alone k)) (mix_cons l ks)
    ∙ split_eq (word_of l) (word_of k)
    (λ e. rw (same_kind l k e, eq_true (word_of k) (word_of k) refl) (same (all_of (word_of k) (map word_of ks))))
    (λ n. rw (eq_false (word_of l) (word_of k) n) (other n (all_of (word_of l) (map word_of ks))))
  where
    same : (t : Bool) → together (alone k) (pick t (alone k) several) ≡ pick t (alone k) several
    same true = together_same (alone k)
    same false = refl

    other : word_of l ≢ word_of k → (t : Bool) → together (alone k) (pick t (alone l) several) ≡ several
    other n true = together_two k l (λ e. n (sym e))
    other n false = refl

-- several kinds are met exactly where they are not all one
pub several_met : {X : Type 0} (ks : List Kind) (x y : X) → (if (met_mix (mix_of ks)).word == 255 then y else x) ≡ pick (alike (map word_of ks)) x y
unfolding alike mix_of pick
several_met [] x y = refl
several_met {X} (k ∷ ks) x y = ap (λ m. if (met_mix m).word == 255 then y else x) (mix_cons k ks) ∙ go (all_of (word_of k) (map word_of ks))
  where
    go : (t : Bool) → ◌≡◌ {A = X} (if (met_mix (pick t (alone k) several)).word == 255 then y else x) (pick t x y)
    go true = rw (eq_false (word_of k) 255 (word_few k)) refl
    go false = refl

-- a string is met exactly where the kinds are all CHAR
pub struc_by_kinds : (ks : List Kind) → struc_lead (met_mix (mix_of ks)) ≡ pick (all_of 3 (map word_of ks)) K.String K.Struc
unfolding mix_of all_of pick
struc_by_kinds [] = refl
struc_by_kinds (k ∷ ks) = ap (λ m. struc_lead (met_mix m)) (mix_cons k ks) ∙ go k
  where
    chars : (t : Bool) → struc_lead (met_mix (pick t (alone K.Char) several)) ≡ pick t K.String K.Struc
    chars true = refl
    chars false = refl

    none : (k : Kind) → struc_lead (met_one k) ≡ K.Struc → (t : Bool) → struc_lead (met_mix (pick t (alone k) several)) ≡ K.Struc
    none k e true = e
    none k e false = refl

    go : (k : Kind) → struc_lead (met_mix (pick (all_of (word_of k) (map word_of ks)) (alone k) several)) ≡ pick (all_of 3 (map word_of (k ∷ ks))) K.String K.Struc
    go K.Char = chars (all_of 3 (map word_of ks))
    go K.Int = none K.Int refl (all_of 1 (map word_of ks))
    go K.Bits = none K.Bits refl (all_of 2 (map word_of ks))
    go K.Bool = none K.Bool refl (all_of 4 (map word_of ks))
    go K.Empty = none K.Empty refl (all_of 5 (map word_of ks))
    go K.Xtra = none K.Xtra refl (all_of 6 (map word_of ks))
    go K.Struc = none K.Struc refl (all_of 7 (map word_of ks))
    go K.Edt = none K.Edt refl (all_of 8 (map word_of ks))
    go K.String = none K.String refl (all_of 9 (map word_of ks))

-- the code's words for what two runs have met together
pub mixed_words : (a b : Mix) → mixed (met_mix a) (met_mix b) ≡ met_mix (together a b)
mixed_words unmet b = refl
mixed_words (alone k) unmet = rw (eq_false (word_of k) 0 (word_some k)) refl
mixed_words (alone k) (alone l) =
    rw (eq_false (word_of k) 0 (word_some k), eq_false (word_of l) 0 (word_some l)) (go (eqb (word_of k) (word_of l)))
  where
    go : (t : Bool) → (if t then met_one k else met_several) ≡ met_mix (if t then alone k else several)
    go true = refl
    go false = refl
mixed_words (alone k) several = rw (eq_false (word_of k) 0 (word_some k), eq_false (word_of k) 255 (word_few k)) refl
mixed_words several unmet = refl
mixed_words several (alone l) = rw (eq_false (word_of l) 0 (word_some l), eq_false 255 (word_of l) (λ e. word_few l (sym e))) refl
mixed_words several several = refl
