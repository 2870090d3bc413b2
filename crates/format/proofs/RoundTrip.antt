-- The normal form of items is read as those items, holds no repeats, and is theirs alone. Assumes nothing.
use mathlib.Core.Path.{◌≡◌, refl, ap, ap₂, ◌∙◌}
use Prim.Native.Nat.{ℕ, zero, suc, ◌+◌, ◌≤◌, ◌<◌}
use native.Mathlib.Omega.{arith}
use mathlib.Core.Bool.{true, false}
use mathlib.Core.List.{List, [], ◌∷◌, ◌++◌}
use lib.ListN.{length, drop}
use lib.Seq.{drop_at}
use lib.Dec.{eqb}
use Rattle.format.specs.Choice.{pick}
use Rattle.format.specs.Refusals.{byte_limit, depth_limit}
use Rattle.format.specs.Items.{Group, struc, edt, Items, end, leaf, group, one, join, CHAR, all_of, kinds, is_string, alike, uniform, edt_rule, proper_group, proper}
use Rattle.format.specs.Objects.{contents}
use Rattle.format.specs.Messages.{says, got, closing, around, object, onto, next, reads, outcome, is_repeat, plain_object, plain_run, without_repeats}
use Rattle.format.specs.Normal.{normal_size, with_size, normal_leaf, group_byte, normal, depth}
use Rattle.format.proofs.Choices.{pick_yes, both_left, both_right, both_true, by_pick, true_eq}
use Rattle.format.specs.Runs.{object_at}
use Rattle.format.proofs.Steps.{reads_nil, reads_cons}
use Rattle.format.proofs.Sizes.{sized_contents, sized_length}
use Rattle.format.proofs.ItemLaws.{leaf_proper, group_proper, length_leaf, length_group}
use Rattle.format.proofs.NormalHeads.{Heads, leaf_head, normal_wrap, group_head_lem}

-- ---- the container of a group closes over its elements
string_alike : (ks : List ℕ) → all_of CHAR ks ≡ true → alike ks ≡ true
unfolding alike all_of
string_alike [] e = refl
string_alike (k ∷ ks) e =
    let q : k ≡ CHAR = true_eq k CHAR (both_left (eqb k CHAR) (all_of CHAR ks) e) in
    rw q (both_right (eqb k CHAR) (all_of CHAR ks) e)

closes : (g : Group) (c : Items) (u : ℕ) → proper_group g c ≡ true → closing (normal_wrap g c) u c ≡ got (group g c end) u
unfolding normal_wrap closing proper_group
closes struc c u o =
    by_pick (λ w. closing w u c ≡ got (group struc c end) u) (is_string c)
    (λ e. pick_yes (uniform c) _ _ (unfold uniform is_string in string_alike (kinds c) (unfold is_string in e))) (λ e. refl)
closes edt c u o = pick_yes (edt_rule c) _ _ o

-- ---- one item, and then the rest
reads_leaf : (d : ℕ) (xs : Items) (p r : List ℕ) → Heads d xs r p → reads d (p ++ r) ≡ onto xs (length p) (reads d r)
unfolding object_at next object
reads_leaf d xs [] r e = absurd e
reads_leaf d xs (b ∷ p) r e =
    reads_cons d b (p ++ r)
    ∙ ap (λ h. next (object (λ i n. reads (suc d) (contents (p ++ r) i n)) h) (λ u. reads d (drop u (p ++ r)))) e
    ∙ ap₂ (λ n l. onto xs n (reads d l)) (omega arith) (drop_at p r (length p) refl)

sized_rest : (p r : List ℕ) → drop (length (normal_size (length p)) + length p) (with_size p ++ r) ≡ r
sized_rest p r = drop_at (with_size p) r (length (normal_size (length p)) + length p) (sized_length p)

reads_group : (d : ℕ) (g : Group) (c : Items) (p r : List ℕ) → d < depth_limit → proper_group g c ≡ true → reads (suc d) p ≡ says c
    → reads d (group_byte g c ∷ (with_size p ++ r)) ≡ onto (group g c end) (1 + (length (normal_size (length p)) + length p)) (reads d r)
unfolding object_at next object around
reads_group d g c p r h o e =
    let i = length (normal_size (length p)) in
    let s = with_size p ++ r in
    reads_cons d (group_byte g c) s
    ∙ ap (λ k. next (object (λ j n. reads (suc d) (contents s j n)) k) (λ u. reads d (drop u s))) (group_head_lem d g c p r h)
    ∙ ap (λ k. next (around (normal_wrap g c) i (length p) k) (λ u. reads d (drop u s))) (ap (reads (suc d)) (sized_contents p r) ∙ e)
    ∙ ap (λ k. next k (λ u. reads d (drop u s))) (closes g c (i + length p) o)
    ∙ ap (λ l. onto (group g c end) (1 + (i + length p)) (reads d l)) (sized_rest p r)

-- ---- all items
pub reads_normal : (d : ℕ) (xs : Items) → proper xs ≡ true → d + depth xs ≤ depth_limit → length (normal xs) ≤ byte_limit
    → reads d (normal xs) ≡ says xs
unfolding normal depth onto join
reads_normal d end o h l = reads_nil d
reads_normal d (leaf x xs) o h l =
    let q = leaf_proper x xs o in
    let n = length_leaf x xs in
    reads_leaf d (one x) (normal_leaf x) (normal xs) (leaf_head d x (normal xs) q.0 (omega arith))
    ∙ ap (onto (one x) (length (normal_leaf x))) (reads_normal d xs q.1 h (omega arith))
reads_normal d (group g c xs) o h l =
    let q = group_proper g c xs o in
    let n = length_group g c xs in
    let u = length (normal_size (length (normal c))) + length (normal c) in
    reads_group d g c (normal c) (normal xs) (omega arith) q.0 (reads_normal (suc d) c q.1 (omega arith) (omega arith))
    ∙ ap (onto (group g c end) (1 + u)) (reads_normal d xs q.2 (omega arith) (omega arith))

pub round_trip : (xs : Items) → proper xs ≡ true → depth xs ≤ depth_limit → length (normal xs) ≤ byte_limit → outcome (normal xs) ≡ says xs
unfolding outcome
round_trip xs o h l = reads_normal 0 xs o (omega arith) l

pub normal_inj : (xs ys : Items) → proper xs ≡ true → proper ys ≡ true → depth xs ≤ depth_limit → depth ys ≤ depth_limit
    → length (normal xs) ≤ byte_limit → normal xs ≡ normal ys → xs ≡ ys
normal_inj xs ys ox oy dx dy l e =
    let p = round_trip xs ox dx l in
    let q = round_trip ys oy dy (rw e at l) in
    cc

-- ---- no repeats
wrap_plain : (g : Group) (c : Items) → is_repeat (normal_wrap g c) ≡ false
unfolding is_repeat normal_wrap
wrap_plain struc c = by_pick (λ w. is_repeat w ≡ false) (is_string c) (λ e. refl) (λ e. refl)
wrap_plain edt c = refl

plain_leaf : (f d : ℕ) (xs : Items) (p r : List ℕ) → Heads d xs r p → plain_run f d r ≡ true → plain_run (suc f) d (p ++ r) ≡ true
unfolding plain_run plain_object
plain_leaf f d xs [] r e t = absurd e
plain_leaf f d xs (b ∷ p) r e t = rw (e, drop_at p r (length p) refl) t

plain_group : (f d : ℕ) (g : Group) (c : Items) (p r : List ℕ) → d < depth_limit → plain_run f (suc d) p ≡ true → plain_run f d r ≡ true
    → plain_run (suc f) d (group_byte g c ∷ (with_size p ++ r)) ≡ true
unfolding plain_run plain_object
plain_group f d g c p r h t u =
    rw (group_head_lem d g c p r h, wrap_plain g c, sized_contents p r, sized_rest p r)
    (unfold pick in both_true (plain_run f (suc d) p) (plain_run f d r) t u)

plain : (f d : ℕ) (xs : Items) → proper xs ≡ true → d + depth xs ≤ depth_limit → length (normal xs) ≤ byte_limit → plain_run f d (normal xs) ≡ true
unfolding normal depth
plain zero d xs o h l = unfold plain_run in refl
plain (suc f) d end o h l = unfold plain_run in refl
plain (suc f) d (leaf x xs) o h l =
    let q = leaf_proper x xs o in
    let n = length_leaf x xs in
    plain_leaf f d (one x) (normal_leaf x) (normal xs) (leaf_head d x (normal xs) q.0 (omega arith)) (plain f d xs q.1 h (omega arith))
plain (suc f) d (group g c xs) o h l =
    let q = group_proper g c xs o in
    let n = length_group g c xs in
    plain_group f d g c (normal c) (normal xs) (omega arith) (plain f (suc d) c q.1 (omega arith) (omega arith))
    (plain f d xs q.2 (omega arith) (omega arith))

pub normal_plain : (xs : Items) → proper xs ≡ true → depth xs ≤ depth_limit → length (normal xs) ≤ byte_limit → without_repeats (normal xs) ≡ true
unfolding without_repeats
normal_plain xs o h l = plain (length (normal xs)) 0 xs o (omega arith) l
