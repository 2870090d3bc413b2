-- Places among elements that are joined and repeated, from the places of each; and the walk that finds them. Assumes nothing.
use Prim.Native.Nat.{ℕ, zero, suc}
use native.Mathlib.Omega.{arith}
use mathlib.Core.Path.{◌≡◌, refl, sym, ap, ◌∙◌}
use mathlib.Core.Bool.{Bool, true, false}
use mathlib.Core.List.{List, [], ◌∷◌, ◌++◌, append-nil}
use Rattle.std.specs.Prelude.{Option, Some, None, ◌&&◌}
use Rattle.std.specs.Option.{option_or, is_some}
use Rattle.format.specs.Choice.{if_eq}
use Rattle.format.proofs.Choices.{if_eq_yes, if_eq_no, split_eq}
use Rattle.explain.specs.declared.elements.Places.{Places}
use Rattle.explain.specs.Reasons.{Stands, again}
use Rattle.explain.specs.Told.{second_of, first_place, second_place, other_place, places_of, nothing_of, plus_of, copies_of}

-- ---- the first that is there
or_none : (a : Option ℕ) → option_or a None ≡ a
or_none None = refl
or_none (Some p) = refl

or_same : (a : Option ℕ) → option_or a a ≡ a
or_same None = refl
or_same (Some p) = refl

or_some : (a b : Option ℕ) → is_some a ≡ true → option_or a b ≡ a
or_some None b h = cc
or_some (Some p) b h = refl

-- ---- elements joined
first_join : (xs ys : List Stands) → first_place (xs ++ ys) ≡ option_or (first_place xs) (first_place ys)
first_join [] ys = refl
first_join (x ∷ xs) ys = refl

second_join : (xs ys : List Stands) → second_place (xs ++ ys) ≡ second_of (first_place xs) (second_place xs) (first_place ys) (second_place ys)
second_join [] ys = refl
second_join (x ∷ xs) ys = first_join xs ys

other_join : (k : ℕ) (xs ys : List Stands) → other_place k (xs ++ ys) ≡ option_or (other_place k xs) (other_place k ys)
unfolding other_place
other_join k [] ys = refl
other_join k (x ∷ xs) ys =
    split_eq x.kind k
    (λ e. if_eq_yes _ _ _ _ e ∙ other_join k xs ys ∙ ap (λ a. option_or a (other_place k ys)) (sym (if_eq_yes _ _ _ _ e)))
    (λ e. if_eq_no _ _ _ _ e ∙ sym (ap (λ a. option_or a (other_place k ys)) (if_eq_no _ _ _ _ e)))

abbrev three : Option ℕ → Option ℕ → Option ℕ → Places
three a b c = record { first = a; second = b; other = c }

pub three_same : {a b c p q r : Option ℕ} → a ≡ p → b ≡ q → c ≡ r → three a b c ≡ three p q r
three_same {a} {b} {c} {p} {q} {r} i j k = ap (λ x. three x b c) i ∙ ap (λ x. three p x c) j ∙ ap (three p q) k

pub places_join : (k : ℕ) (xs ys : List Stands) → places_of k (xs ++ ys) ≡ plus_of (places_of k xs) (places_of k ys)
places_join k xs ys = three_same (first_join xs ys) (second_join xs ys) (other_join k xs ys)

-- ---- elements repeated
first_again : (n : ℕ) (es : List Stands) → first_place (again (suc n) es) ≡ first_place es
unfolding again
first_again n [] = refl
first_again n (x ∷ xs) = refl

other_again : (k n : ℕ) (es : List Stands) → other_place k (again (suc n) es) ≡ other_place k es
unfolding again
other_again k n [] = refl
other_again k zero (x ∷ xs) = ap (other_place k) (append-nil (x ∷ xs))
other_again k (suc n) (x ∷ xs) =
    other_join k (x ∷ xs) (again (suc n) (x ∷ xs)) ∙ ap (option_or (other_place k (x ∷ xs))) (other_again k n (x ∷ xs)) ∙ or_same (other_place k (x ∷ xs))

second_again : (n : ℕ) (es : List Stands) → second_place (again (suc (suc n)) es) ≡ second_of (first_place es) (second_place es) (first_place es) (second_place es)
unfolding again
second_again n [] = refl
second_again n (x ∷ xs) = first_join xs (again (suc n) (x ∷ xs)) ∙ ap (option_or (first_place xs)) (first_again n (x ∷ xs))

none_again : (es : List Stands) → again 0 es ≡ []
unfolding again
none_again [] = refl
none_again (x ∷ xs) = refl

once_again : (es : List Stands) → again 1 es ≡ es
unfolding again
once_again [] = refl
once_again (x ∷ xs) = append-nil (x ∷ xs)

none : (k : ℕ) (a : Places) → places_of k [] ≡ copies_of 0 a
unfolding copies_of other_place
none k a = sym (if_eq_yes 0 0 nothing_of (if_eq 0 1 a (plus_of a a)) refl)

once : (a : Places) → a ≡ copies_of 1 a
unfolding copies_of
once a = sym (if_eq_no 1 0 nothing_of (if_eq 1 1 a (plus_of a a)) (omega arith) ∙ if_eq_yes 1 1 a (plus_of a a) refl)

more : (n : ℕ) (a : Places) → plus_of a a ≡ copies_of (suc (suc n)) a
unfolding copies_of
more n a = sym (if_eq_no (suc (suc n)) 0 nothing_of (if_eq (suc (suc n)) 1 a (plus_of a a)) (omega arith) ∙ if_eq_no (suc (suc n)) 1 a (plus_of a a) (omega arith))

pub places_again : (k n : ℕ) (es : List Stands) → places_of k (again n es) ≡ copies_of n (places_of k es)
places_again k zero es = ap (places_of k) (none_again es) ∙ none k (places_of k es)
places_again k (suc zero) es = ap (places_of k) (once_again es) ∙ once (places_of k es)
places_again k (suc (suc n)) es = twice ∙ more n (places_of k es)
  where
    twice : places_of k (again (suc (suc n)) es) ≡ plus_of (places_of k es) (places_of k es)
    twice = three_same (first_again (suc n) es ∙ sym (or_same (first_place es))) (second_again n es) (other_again k (suc n) es ∙ sym (or_same (other_place k es)))

-- what follows makes no difference, where a second and another are there
pub both_true : (a b : Bool) → (a && b) ≡ true → (a ≡ true) × (b ≡ true)
both_true true b e = (refl, e)
both_true false b e = cc

pub settled_plus : (k : ℕ) (es rest : List Stands) → is_some (second_place es) ≡ true → is_some (other_place k es) ≡ true
    → plus_of (places_of k es) (places_of k rest) ≡ places_of k es
settled_plus k [] rest p q = cc
settled_plus k (x ∷ xs) rest p q =
    three_same refl (or_some (first_place xs) (first_place rest) p) (or_some (other_place k (x ∷ xs)) (other_place k rest) q)

-- nor does one more of the kind asked for, where a second is there
pub quiet_plus : (k : ℕ) (es : List Stands) (x : Stands) → is_some (second_place es) ≡ true → x.kind ≡ k → places_of k (es ++ (x ∷ [])) ≡ places_of k es
unfolding other_place
quiet_plus k [] x p q = cc
quiet_plus k (y ∷ ys) x p q =
    places_join k (y ∷ ys) (x ∷ [])
    ∙ three_same refl (or_some (first_place ys) (Some x.place) p)
    (ap (option_or (other_place k (y ∷ ys))) (if_eq_yes x.kind k _ _ q) ∙ or_none (other_place k (y ∷ ys)))
