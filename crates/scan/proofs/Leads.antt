-- The leads of items joined and repeated; and an EDT's rule told from them. Assumes nothing.
use Prim.Native.Nat.{ℕ, suc}
use mathlib.Core.Path.{◌≡◌, refl, sym, ap, ◌∙◌}
use mathlib.Core.Bool.{Bool, true, false}
use Rattle.std.specs.Prelude.{Option, None, Some, ◌==◌, ◌&&◌, ◌||◌, if◌then◌else◌}
use Rattle.std.specs.Option.{option_or}
use Rattle.format.specs.Choice.{pick, both, either}
use Rattle.format.specs.declared.kinds.Kind.{Kind}
use Rattle.format.specs.declared.kinds.Kind.TheVariants as K
use Rattle.format.specs.Kinds.{word_of}
use Rattle.format.specs.Items.{int, bits, char, bool, empty, xtra, struc, edt, Items, end, leaf, group, join, times, leaf_kind, is_string, starts_int, starts_string, behind, edt_rule}
use Rattle.format.proofs.Choices.{by_pick, eq_false}
use Rattle.scan.specs.declared.summary.Met.{Met}
use Rattle.scan.specs.Sums.{leaf_named, named, mix_of, lead, met_mix, met_lead, MetKind, or_else, struc_lead}
use Rattle.scan.proofs.KindsMet.{named_words, struc_by_kinds, word_some, no_word, same_kind}

-- ---- one list after another
pub lead_join : (xs ys : Items) → lead (join xs ys) ≡ option_or (lead xs) (lead ys)
unfolding lead join
lead_join end ys = refl
lead_join (leaf l xs) ys = refl
lead_join (group struc c xs) ys = refl
lead_join (group edt c xs) ys = refl

-- the code's words: the first of two that is one
pub lead_words : (a b : Option Kind) → or_else (met_lead a) (met_lead b) ≡ met_lead (option_or a b)
lead_words None b = refl
lead_words (Some k) b = rw (eq_false (word_of k) 0 (word_some k)) refl

some_lead : (k : Kind) (x y : Met) → (if word_of k == 0 then x else y) ≡ y
some_lead k x y = rw (eq_false (word_of k) 0 (word_some k)) refl

-- the second lead of two lists, in words
pub second_join : (xs ys : Items)
    → met_lead (lead (behind (join xs ys)))
    ≡ (if (met_lead (lead xs)).word == 0 then met_lead (lead (behind ys)) else or_else (met_lead (lead (behind xs))) (met_lead (lead ys)))
unfolding behind join lead
second_join end ys = refl
second_join (leaf l xs) ys = ap met_lead (lead_join xs ys) ∙ sym (some_lead (leaf_named l) _ _ ∙ lead_words (lead xs) (lead ys))
second_join (group struc c xs) ys =
    ap met_lead (lead_join xs ys) ∙ sym (some_lead (pick (is_string c) K.String K.Struc) _ _ ∙ lead_words (lead xs) (lead ys))
second_join (group edt c xs) ys = ap met_lead (lead_join xs ys) ∙ sym (lead_words (lead xs) (lead ys))

-- ---- a repeat: one of them settles the first lead, and two the second
pub lead_times : (k : ℕ) (xs : Items) → lead (times (suc k) xs) ≡ lead xs
unfolding lead times join
lead_times k end = refl
lead_times k (leaf l xs) = refl
lead_times k (group struc c xs) = refl
lead_times k (group edt c xs) = refl

pub second_times : (k : ℕ) (xs : Items) → lead (behind (times (suc (suc k)) xs)) ≡ option_or (lead (behind xs)) (lead xs)
unfolding behind times join
second_times k end = unfold lead in refl
second_times k (leaf l xs) = lead_join xs (times (suc k) (leaf l xs)) ∙ ap (option_or (lead xs)) (lead_times k (leaf l xs))
second_times k (group g c xs) = lead_join xs (times (suc k) (group g c xs)) ∙ ap (option_or (lead xs)) (lead_times k (group g c xs))

-- ---- what a STRUC is to an EDT
pub struc_lead_lem : (c : Items) → struc_lead (met_mix (mix_of (named c))) ≡ pick (is_string c) K.String K.Struc
unfolding is_string
struc_lead_lem c = rw (← named_words c) (struc_by_kinds (named c))

-- ---- the rule
lead_int : (xs : Items) → (met_lead (lead xs)).word == 1 ≡ starts_int xs
unfolding lead leaf_named starts_int leaf_kind
lead_int end = refl
lead_int (leaf (int z) xs) = refl
lead_int (leaf (bits bs) xs) = refl
lead_int (leaf (char c) xs) = refl
lead_int (leaf (bool b) xs) = refl
lead_int (leaf empty xs) = refl
lead_int (leaf (xtra n) xs) = refl
lead_int (group struc c xs) = by_pick (λ k. word_of k == 1 ≡ false) (is_string c) (λ e. refl) (λ e. refl)
lead_int (group edt c xs) = refl

lead_string : (xs : Items) → (met_lead (lead xs)).word == 9 ≡ starts_string xs
unfolding lead leaf_named starts_string
lead_string end = refl
lead_string (leaf (int z) xs) = refl
lead_string (leaf (bits bs) xs) = refl
lead_string (leaf (char c) xs) = refl
lead_string (leaf (bool b) xs) = refl
lead_string (leaf empty xs) = refl
lead_string (leaf (xtra n) xs) = refl
lead_string (group struc c xs) = go (is_string c)
  where
    go : (t : Bool) → word_of (pick t K.String K.Struc) == 9 ≡ t
    go true = unfold pick in refl
    go false = unfold pick in refl
lead_string (group edt c xs) = refl

pub edt_leads : {X : Type 0} (xs : Items) (x y : X)
    → (if ((met_lead (lead xs)).word == 1 || (met_lead (lead xs)).word == 9) && (met_lead (lead (behind xs))).word == 1 then x else y) ≡ pick (edt_rule xs) x y
unfolding edt_rule pick both either
edt_leads {X} xs x y =
    rw (lead_int xs, lead_string xs, lead_int (behind xs)) (go (starts_int xs) (starts_string xs) (starts_int (behind xs)))
  where
    go : (p q r : Bool) → ◌≡◌ {A = X} (if (p || q) && r then x else y) (pick (both (either p q) r) x y)
    go true q true = refl
    go true q false = refl
    go false true true = refl
    go false true false = refl
    go false false r = refl

-- what the code tells of a lead is the lead
pub lead_told : (o r : Option Kind) → MetKind (met_lead o) r → r ≡ o
lead_told None None h = refl
lead_told None (Some k) h = absurd (word_some k (sym h))
lead_told (Some k) None h = absurd (no_word k h)
lead_told (Some k) (Some l) h = ap Some (same_kind l k (sym h))
