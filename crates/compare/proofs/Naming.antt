-- The places that the differences of two lists of items name: just those where a difference is due. Assumes nothing.
use Prim.Native.Nat.{ℕ, zero, suc, ◌+◌}
use mathlib.Core.Path.{◌≡◌, refl, sym, ap, ◌∙◌, subst}
use mathlib.Core.Logic.{◌≢◌, inl, inr, ⊎_elim}
use mathlib.Core.Bool.{true, false}
use mathlib.Core.Option.{some}
use mathlib.Core.List.{List, [], ◌∷◌, ◌++◌}
use Rattle.format.specs.Items.{Items}
use Rattle.format.specs.Tables.{count, rows}
use Rattle.format.proofs.Choices.{if_eq_yes, whether, clash}
use Rattle.format.proofs.SameLaws.{by_same}
use Rattle.compare.specs.Differences.{Difference, difference, unequal, differences, changes}
use Rattle.compare.specs.Places.{item_at, entered, PartAt, DueAt, difference_at, Among, DueFor, Under}
use Rattle.compare.proofs.Pairs.{Item, cons, alone, inside, between, pair_on, by_pair, by_pairs}
use Rattle.compare.proofs.DifferenceLaws.{alone_same}
use Rattle.compare.proofs.PlaceLaws.{item_first, item_inside, item_later, item_none, no_item, tell_first, tell_inside, tell_later}
use Rattle.compare.proofs.PlaceLaws.{part_moved, enter_first, entered_first, due_first, due_inside, inside_due, due_later, later_due}

-- ---- one of two lists
among_left : (c : Difference) (l m : List Difference) → Among c l → Among c (l ++ m)
among_left c [] m u = absurd u
among_left c (e ∷ l) m (inl u) = inl u
among_left c (e ∷ l) m (inr u) = inr (among_left c l m u)

among_right : (c : Difference) (l m : List Difference) → Among c m → Among c (l ++ m)
among_right c [] m u = u
among_right c (e ∷ l) m u = inr (among_right c l m u)

by_among : {X : Type 0} (c : Difference) (l m : List Difference) → (Among c l → X) → (Among c m → X) → Among c (l ++ m) → X
by_among c [] m f g u = g u
by_among c (e ∷ l) m f g (inl u) = f (inl u)
by_among c (e ∷ l) m f g (inr u) = by_among c l m (λ v. f (inr v)) g u

-- ---- what is named is due
module _ (p q : ℕ) (x y : Item) (xs ys : Items) (c : Difference) where
  for_first : alone x ≢ alone y → entered (alone x) (alone y) ≡ false → c ≡ difference p q → DueFor p q (cons x xs) (cons y ys) c
  for_first n t e = record { k = zero; i = []; due = due_first x y xs ys n t; is = e ∙ sym (tell_first p q x y xs ys) }

  for_inside : entered (alone x) (alone y) ≡ true → DueFor (p + 1) (q + 1) (inside x) (inside y) c → DueFor p q (cons x xs) (cons y ys) c
  for_inside t d =
      record { k = zero; i = d.k ∷ d.i; due = due_inside x y xs ys d.k d.i t d.due; is = d.is ∙ sym (tell_inside p q x y xs ys d.k d.i t) }

  for_later : DueFor (p + rows (alone x)) (q + rows (alone y)) xs ys c → DueFor p q (cons x xs) (cons y ys) c
  for_later d =
      record { k = suc d.k; i = d.i; due = due_later x y xs ys d.k d.i d.due; is = d.is ∙ sym (tell_later p q x y xs ys d.k d.i) }

  for_pair : (entered (alone x) (alone y) ≡ true → Among c (differences (p + 1) (q + 1) (inside x) (inside y)) → DueFor (p + 1) (q + 1) (inside x) (inside y) c)
      → Among c (between p q x y) → DueFor p q (cons x xs) (cons y ys) c
  unfolding unequal
  for_pair f =
      by_pair (λ (r : List Difference). Among c r → DueFor p q (cons x xs) (cons y ys) c) p q x y (λ t u. for_inside t (f t u))
      (λ t. by_same (λ (r : List Difference). Among c r → DueFor p q (cons x xs) (cons y ys) c) (alone x) (alone y)
      (λ e u. absurd u) (λ n u. for_first n t (⊎_elim (λ e. e) absurd u)))

abbrev AllDue : ℕ → ℕ → Items → Items → Type 0
AllDue p q xs ys = (c : Difference) → Among c (differences p q xs ys) → DueFor p q xs ys c

named_step : (p q : ℕ) (x y : Item) (xs ys : Items) → count xs ≡ count ys
    → (entered (alone x) (alone y) ≡ true → AllDue (p + 1) (q + 1) (inside x) (inside y))
    → AllDue (p + rows (alone x)) (q + rows (alone y)) xs ys → AllDue p q (cons x xs) (cons y ys)
named_step p q x y xs ys n f g c u =
    by_among c (between p q x y) (differences (p + rows (alone x)) (q + rows (alone y)) xs ys)
    (for_pair p q x y xs ys c (λ t. f t c)) (λ v. for_later p q x y xs ys c (g c v)) (subst (Among c) (pair_on p q x y xs ys) u)

all_due : (p q : ℕ) (xs ys : Items) → count xs ≡ count ys → AllDue p q xs ys
all_due = by_pairs AllDue (λ p q c u. unfold differences in absurd u) named_step

each_pair : (xs ys : Items) → count xs ≡ count ys → changes xs ys ≡ differences 0 0 xs ys
unfolding changes
each_pair xs ys n = if_eq_yes (count xs) (count ys) _ _ n

-- "told by its row in each table": what is told are the rows of two items at one place; they are unlike and not gone into, and all
-- pairs around are
pub named : (xs ys : Items) → count xs ≡ count ys → (c : Difference) → Among c (changes xs ys) → DueFor 0 0 xs ys c
named xs ys n c u = all_due 0 0 xs ys n c (subst (Among c) (each_pair xs ys n) u)

-- ---- what is due is named
unlike_first : (x y : Item) (xs ys : Items) → PartAt (cons x xs) (cons y ys) zero [] → alone x ≢ alone y
unlike_first x y xs ys u e = u.unlike (item_first x xs ∙ ap some e ∙ sym (item_first y ys))

module _ (p q : ℕ) (x y : Item) (xs ys : Items) where
  told_first : DueAt (cons x xs) (cons y ys) zero [] → Among (difference p q) (between p q x y)
  unfolding unequal
  told_first d =
      by_pair (Among (difference p q)) p q x y (λ t. absurd (d.part.shut (enter_first x y xs ys t)))
      (λ t. by_same (Among (difference p q)) (alone x) (alone y) (λ e. absurd (unlike_first x y xs ys d.part e)) (λ n. inl refl))

  told_inside : (c : Difference) → entered (alone x) (alone y) ≡ true → Among c (differences (p + 1) (q + 1) (inside x) (inside y)) → Among c (between p q x y)
  told_inside c t u = by_pair (Among c) p q x y (λ s. u) (λ s. clash (entered (alone x) (alone y)) t s)

  told_pair : (c : Difference) → Among c (between p q x y) → Among c (differences p q (cons x xs) (cons y ys))
  told_pair c u = rw pair_on (among_left c (between p q x y) (differences (p + rows (alone x)) (q + rows (alone y)) xs ys) u)

  told_later : (c : Difference) → Among c (differences (p + rows (alone x)) (q + rows (alone y)) xs ys) → Among c (differences p q (cons x xs) (cons y ys))
  told_later c u = rw pair_on (among_right c (between p q x y) (differences (p + rows (alone x)) (q + rows (alone y)) xs ys) u)

abbrev AllTold : ℕ → ℕ → Items → Items → Type 0
AllTold p q xs ys = (k : ℕ) (i : List ℕ) → DueAt xs ys k i → Among (difference_at p q xs ys k i) (differences p q xs ys)

told_step : (p q : ℕ) (x y : Item) (xs ys : Items) → count xs ≡ count ys
    → (entered (alone x) (alone y) ≡ true → AllTold (p + 1) (q + 1) (inside x) (inside y))
    → AllTold (p + rows (alone x)) (q + rows (alone y)) xs ys → AllTold p q (cons x xs) (cons y ys)
told_step p q x y xs ys n f g zero [] d =
    subst (λ (c : Difference). Among c (differences p q (cons x xs) (cons y ys))) (sym (tell_first p q x y xs ys))
    (told_pair p q x y xs ys (difference p q) (told_first p q x y xs ys d))
told_step p q x y xs ys n f g zero (j ∷ i) d =
    let t = entered_first x y xs ys (d.around [] i j refl) in
    subst (λ (c : Difference). Among c (differences p q (cons x xs) (cons y ys))) (sym (tell_inside p q x y xs ys j i t))
    (told_pair p q x y xs ys _ (told_inside p q x y xs ys _ t (f t j i (inside_due x y xs ys j i d))))
told_step p q x y xs ys n f g (suc k) i d =
    subst (λ (c : Difference). Among c (differences p q (cons x xs) (cons y ys))) (sym (tell_later p q x y xs ys k i))
    (told_later p q x y xs ys _ (g k i (later_due x y xs ys k i d)))

all_told : (p q : ℕ) (xs ys : Items) → count xs ≡ count ys → AllTold p q xs ys
all_told = by_pairs AllTold (λ p q k i d. no_item d.x (sym (item_none k i) ∙ d.left)) told_step

-- and every one is told: with `named`, exactly the places where a difference is due
pub named_exactly : (xs ys : Items) → count xs ≡ count ys → (k : ℕ) (i : List ℕ) → DueAt xs ys k i → Among (difference_at 0 0 xs ys k i) (changes xs ys)
named_exactly xs ys n k i d = rw (each_pair xs ys n) (all_told 0 0 xs ys n k i d)

-- ---- whatever parts lies under what is due
record Beneath (xs ys : Items) (k : ℕ) (i : List ℕ) : Type 0 where
  a : List ℕ
  b : List ℕ
  begins : a ++ b ≡ i
  due : DueAt xs ys k a

abbrev AllBeneath : ℕ → ℕ → Items → Items → Type 0
AllBeneath p q xs ys = (k : ℕ) (i : List ℕ) → PartAt xs ys k i → Beneath xs ys k i

-- a pair that parts inside is not the same
unlike_inside : (x y : Item) (j : ℕ) (i : List ℕ) → PartAt (inside x) (inside y) j i → alone x ≢ alone y
unlike_inside x y j i u e = u.unlike (ap (λ z. item_at j i (inside z)) (alone_same x y e))

module _ (x y : Item) (xs ys : Items) where
  beneath_first : (i : List ℕ) → alone x ≢ alone y → entered (alone x) (alone y) ≡ false → Beneath (cons x xs) (cons y ys) zero i
  beneath_first i n t = record { a = []; b = i; begins = refl; due = due_first x y xs ys n t }

  beneath_inside : (j : ℕ) (i : List ℕ) → entered (alone x) (alone y) ≡ true → Beneath (inside x) (inside y) j i → Beneath (cons x xs) (cons y ys) zero (j ∷ i)
  beneath_inside j i t u = record { a = j ∷ u.a; b = u.b; begins = ap (◌∷◌ j) u.begins; due = due_inside x y xs ys j u.a t u.due }

  beneath_later : (k : ℕ) (i : List ℕ) → Beneath xs ys k i → Beneath (cons x xs) (cons y ys) (suc k) i
  beneath_later k i u = record { a = u.a; b = u.b; begins = u.begins; due = due_later x y xs ys k u.a u.due }

  inside_part : (j : ℕ) (i : List ℕ) → PartAt (cons x xs) (cons y ys) zero (j ∷ i) → PartAt (inside x) (inside y) j i
  inside_part j i = part_moved (cons x xs) (cons y ys) (inside x) (inside y) zero j (j ∷ i) i (item_inside x xs j i) (item_inside y ys j i)

  later_part : (k : ℕ) (i : List ℕ) → PartAt (cons x xs) (cons y ys) (suc k) i → PartAt xs ys k i
  later_part k i = part_moved (cons x xs) (cons y ys) xs ys (suc k) k i i (item_later x xs k i) (item_later y ys k i)

beneath_step : (p q : ℕ) (x y : Item) (xs ys : Items) → count xs ≡ count ys
    → (entered (alone x) (alone y) ≡ true → AllBeneath (p + 1) (q + 1) (inside x) (inside y))
    → AllBeneath (p + rows (alone x)) (q + rows (alone y)) xs ys → AllBeneath p q (cons x xs) (cons y ys)
beneath_step p q x y xs ys n f g zero [] u =
    whether (entered (alone x) (alone y)) (λ t. absurd (u.shut (enter_first x y xs ys t))) (λ t. beneath_first x y xs ys [] (unlike_first x y xs ys u) t)
beneath_step p q x y xs ys n f g zero (j ∷ i) u =
    let v = inside_part x y xs ys j i u in
    whether (entered (alone x) (alone y)) (λ t. beneath_inside x y xs ys j i t (f t j i v))
    (λ t. beneath_first x y xs ys (j ∷ i) (unlike_inside x y j i v) t)
beneath_step p q x y xs ys n f g (suc k) i u = beneath_later x y xs ys k i (g k i (later_part x y xs ys k i u))

all_beneath : (p q : ℕ) (xs ys : Items) → count xs ≡ count ys → AllBeneath p q xs ys
all_beneath = by_pairs AllBeneath (λ p q k i u. absurd (u.unlike refl)) beneath_step

-- every place where the two lists part ways lies under one that is told
pub parted : (xs ys : Items) → count xs ≡ count ys → (k : ℕ) (i : List ℕ) → PartAt xs ys k i → Under xs ys k i
parted xs ys n k i u =
    let v = all_beneath 0 0 xs ys n k i u in
    record { a = v.a; b = v.b; begins = v.begins; due = v.due; told = named_exactly xs ys n k v.a v.due }
