-- A sheet and its items: which sheet items are. Assumes nothing.
use Prim.Native.Nat.{ℕ}
use mathlib.Core.Path.{◌≡◌, refl, ap, ◌∙◌, subst}
use mathlib.Core.Logic.{◌≢◌, inl, inr}
use mathlib.Core.Bool.{Bool, true, false}
use mathlib.Core.Option.{Option, none, some}
use native.Mathlib.Omega.{arith}
use Rattle.format.specs.Items.{xtra, Items, starts_int}
use Rattle.format.proofs.SameLaws.{by_same, if_same_yes, if_same_no}
use Rattle.measure.specs.Sheets.{Scale, tenths, eighths, scale_code, Figure, figure, ask, figure_item, Sheet, by_number, by_name, elements_of, scale_in, figure_in, parts_of, sheet_with, sheet_of}
use Rattle.measure.specs.Words.{AsSheet, NoSheet}

scale_back : (u : Scale) → scale_in (xtra (scale_code u)) ≡ u
unfolding scale_in scale_code
scale_back tenths = refl
scale_back eighths = refl

figure_back : (f : Figure) → figure_in (figure_item f) ≡ f
unfolding figure_in figure_item
figure_back (figure z) = refl
figure_back ask = refl

-- the parts of a sheet's items are the sheet, however its type is given
numbered_parts : (s : Sheet) → parts_of (elements_of (by_number s)) ≡ s
unfolding parts_of elements_of by_number
numbered_parts s = rw (scale_back s.unit, figure_back s.chest, figure_back s.waist, figure_back s.sleeve) refl

named_parts : (s : Sheet) → parts_of (elements_of (by_name s)) ≡ s
unfolding parts_of elements_of by_name
named_parts s = rw (scale_back s.unit, figure_back s.chest, figure_back s.waist, figure_back s.sleeve) refl

-- a type by name is another than one by number
not_numbered : (s : Sheet) → by_name s ≢ by_number s
unfolding by_number by_name elements_of starts_int
not_numbered s e = let z : ◌≡◌ {A = Bool} false true = ap (λ x. starts_int (elements_of x)) e in let n : ◌≡◌ {A = ℕ} 0 1 = cc in absurd (omega arith)

-- items are a sheet exactly when they are its items, by number or by name
pub sent_sheet : (xs : Items) (s : Sheet) → AsSheet xs s → sheet_of xs ≡ some s
unfolding sheet_of sheet_with
sent_sheet xs s (inl e) =
    ap (λ x. sheet_with (parts_of (elements_of x)) x) e ∙ ap (λ p. sheet_with p (by_number s)) (numbered_parts s)
    ∙ if_same_yes (by_number s) (by_number s) _ _ refl
sent_sheet xs s (inr e) =
    ap (λ x. sheet_with (parts_of (elements_of x)) x) e ∙ ap (λ p. sheet_with p (by_name s)) (named_parts s)
    ∙ if_same_no (by_name s) (by_number s) (some s) _ (not_numbered s) ∙ if_same_yes (by_name s) (by_name s) (some s) none refl

-- `some s` of a claim that holds
Claim : Items → Option Sheet → Type 0
Claim xs none = Unit {0}
Claim xs (some s) = AsSheet xs s

pub sheet_sent : (xs : Items) (s : Sheet) → sheet_of xs ≡ some s → AsSheet xs s
unfolding sheet_of sheet_with Claim
sheet_sent xs s e =
    let p = parts_of (elements_of xs) in
    subst (Claim xs) e (by_same (Claim xs) xs (by_number p) inl (λ n. by_same (Claim xs) xs (by_name p) inr (λ k. tt)))

pub no_sheet_lem : (xs : Items) → sheet_of xs ≡ none → NoSheet xs
no_sheet_lem xs e s a = let f = sent_sheet xs s a in let z : ◌≡◌ {A = ℕ} 0 1 = cc in absurd (omega arith)

pub not_sheet : (xs : Items) → NoSheet xs → sheet_of xs ≡ none
not_sheet xs n = go (sheet_of xs) refl
  where
    go : (o : Option Sheet) → sheet_of xs ≡ o → sheet_of xs ≡ none
    go none e = e
    go (some s) e = absurd (n s (sheet_sent xs s e))
