-- The differences of two lists of items the other way round. Assumes nothing.
use Prim.Native.Nat.{ℕ, ◌+◌}
use mathlib.Core.Path.{◌≡◌, refl, sym, ap, ap₂, ◌∙◌}
use mathlib.Core.Bool.{Bool, true, false, not}
use mathlib.Core.List.{List, ◌++◌, map-append}
use lib.Dec.{eqb}
use Rattle.format.specs.Choice.{both}
use Rattle.format.specs.Items.{Group, Items}
use Rattle.format.specs.Tables.{count, rows, is_text, container_kind}
use Rattle.format.proofs.Choices.{pick_yes, pick_no, if_eq_yes, if_eq_no, by_eq, split_eq, eq_true, eq_false}
use Rattle.format.proofs.SameLaws.{by_same, if_same_yes, if_same_no}
use Rattle.compare.specs.Differences.{Difference, gone_into, unequal, differences, changes}
use Rattle.compare.specs.Places.{entered, turned}
use Rattle.compare.proofs.Pairs.{Item, single, holder, cons, alone, inside, between, pair_on, by_pair, by_pairs}

-- ---- two items are gone into whichever stands first
both_swap : (a b c : Bool) → both a (both b c) ≡ both b (both a c)
unfolding both
both_swap true b c = refl
both_swap false true c = refl
both_swap false false c = refl

eqb_swap : (m n : ℕ) → eqb m n ≡ eqb n m
eqb_swap m n = split_eq m n (λ e. eq_true m n e ∙ sym (eq_true n m (sym e))) (λ d. eq_false m n d ∙ sym (eq_false n m (λ e. d (sym e))))

into_swap : (g h : Group) (c d : Items) → gone_into g c h d ≡ gone_into h d g c
unfolding gone_into
into_swap g h c d =
    both_swap (not (is_text g c)) (not (is_text h d)) _
    ∙ ap (λ z. both (not (is_text h d)) (both (not (is_text g c)) z)) (ap₂ both (eqb_swap (container_kind g) (container_kind h)) (eqb_swap (count c) (count d)))

entered_swap : (x y : Item) → entered (alone x) (alone y) ≡ entered (alone y) (alone x)
unfolding entered
entered_swap (single l) (single m) = refl
entered_swap (single l) (holder h d) = refl
entered_swap (holder g c) (single m) = refl
entered_swap (holder g c) (holder h d) = into_swap g h c d

-- ---- one pair, and then the rest
turned_append : (a b : List Difference) → turned (a ++ b) ≡ turned a ++ turned b
unfolding turned
turned_append a b = map-append _ a b

unequal_turned : (p q : ℕ) (x y : Items) → unequal q p y x ≡ turned (unequal p q x y)
unfolding unequal turned
unequal_turned p q x y =
    by_same (λ (r : List Difference). unequal q p y x ≡ turned r) x y (λ e. if_same_yes y x _ _ (sym e)) (λ n. if_same_no y x _ _ (λ e. n (sym e)))

between_turned : (p q : ℕ) (x y : Item)
    → (entered (alone x) (alone y) ≡ true → differences (q + 1) (p + 1) (inside y) (inside x) ≡ turned (differences (p + 1) (q + 1) (inside x) (inside y)))
    → between q p y x ≡ turned (between p q x y)
unfolding between
between_turned p q x y f =
    by_pair (λ (r : List Difference). between q p y x ≡ turned r) p q x y
    (λ t. pick_yes (entered (alone y) (alone x)) _ _ (sym (entered_swap x y) ∙ t) ∙ f t)
    (λ t. pick_no (entered (alone y) (alone x)) _ _ (sym (entered_swap x y) ∙ t) ∙ unequal_turned p q (alone x) (alone y))

turned_step : (p q : ℕ) (x y : Item) (xs ys : Items) → count xs ≡ count ys
    → (entered (alone x) (alone y) ≡ true → differences (q + 1) (p + 1) (inside y) (inside x) ≡ turned (differences (p + 1) (q + 1) (inside x) (inside y)))
    → differences (q + rows (alone y)) (p + rows (alone x)) ys xs ≡ turned (differences (p + rows (alone x)) (q + rows (alone y)) xs ys)
    → differences q p (cons y ys) (cons x xs) ≡ turned (differences p q (cons x xs) (cons y ys))
turned_step p q x y xs ys n f g =
    pair_on q p y x ys xs ∙ ap₂ ◌++◌ (between_turned p q x y f) g ∙ sym (turned_append (between p q x y) _) ∙ ap turned (sym (pair_on p q x y xs ys))

differences_turned : (p q : ℕ) (xs ys : Items) → count xs ≡ count ys → differences q p ys xs ≡ turned (differences p q xs ys)
differences_turned =
    by_pairs (λ p q xs ys. differences q p ys xs ≡ turned (differences p q xs ys)) (λ p q. unfold differences turned in refl) turned_step

-- compared the other way round: the same pairs turned round
pub changes_turned : (xs ys : Items) → changes ys xs ≡ turned (changes xs ys)
unfolding changes turned
changes_turned xs ys =
    by_eq (λ (r : List Difference). changes ys xs ≡ turned r) (count xs) (count ys)
    (λ e. if_eq_yes (count ys) (count xs) _ _ (sym e) ∙ differences_turned 0 0 xs ys e)
    (λ n. if_eq_no (count ys) (count xs) _ _ (λ e. n (sym e)))
