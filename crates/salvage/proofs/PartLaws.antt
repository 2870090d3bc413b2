-- The parts of any bytes, one step at a time, and what is kept and listed of each. Assumes nothing.
use Prim.Native.Nat.{ℕ, zero, suc, ◌+◌, ◌≤◌}
use native.Mathlib.Omega.{arith}
use native.Mathlib.Nat.{le_refl}
use mathlib.Core.Path.{◌≡◌, refl, ap, ◌∙◌, fun_ext}
use mathlib.Core.Logic.{◌≢◌}
use mathlib.Core.Option.{Option, none, some}
use mathlib.Core.List.{List, [], ◌∷◌, ◌++◌}
use lib.ListN.{length, take, drop, length-drop}
use lib.Seq.{length-take-le}
use Rattle.format.specs.Objects.{Size, cut, size}
use Rattle.format.proofs.Choices.{by_lt, if_eq_yes, if_eq_no}
use Rattle.format.proofs.Steps.{rest_fits}
use Rattle.salvage.specs.Mending.{own_extent, lying, Part, whole, rest, part_at, walked, outermost, met_alone, mended_part, mended_parts, mended}
use Rattle.salvage.specs.Mending.{Change, change, bytes_of, change_of, changes_from, changes_in}

-- an object that lies in the input ends within it
pub lies_within : (s : List ℕ) (e : Option Size) (u : ℕ) → lying s e ≡ some u → u ≤ length s
unfolding lying
lies_within s none u = λ q. let z : ◌≡◌ {A = ℕ} 0 1 = cc in absurd (omega arith)
lies_within s (some (cut k)) u = λ q. let z : ◌≡◌ {A = ℕ} 0 1 = cc in absurd (omega arith)
lies_within s (some (size h n)) u =
    by_lt (λ (x : Option ℕ). x ≡ some u → u ≤ length s) (length s) (h + n) (λ l q. let z : ◌≡◌ {A = ℕ} 0 1 = cc in absurd (omega arith))
    (λ l q. let z : h + n ≡ u = cc in omega arith)

-- ---- the parts
-- with enough steps, more of them change nothing
enough : (f g : ℕ) (s : List ℕ) → length s ≤ f → length s ≤ g → walked f s ≡ walked g s
unfolding walked
enough zero zero s p q = refl
enough zero (suc g) [] p q = refl
enough zero (suc g) (b ∷ s) p q = absurd (omega arith)
enough (suc f) zero [] p q = refl
enough (suc f) zero (b ∷ s) p q = absurd (omega arith)
enough (suc f) (suc g) [] p q = refl
enough (suc f) (suc g) (b ∷ s) p q =
    ap (λ (w : ℕ → List Part). part_at b s w (lying s (own_extent b s)))
    (fun_ext (λ u. enough f g (drop u s) (omega (arith, rest_fits u s)) (omega (arith, rest_fits u s))))

outer_step : (b : ℕ) (s : List ℕ) → outermost (b ∷ s) ≡ part_at b s (λ u. outermost (drop u s)) (lying s (own_extent b s))
unfolding outermost walked
outer_step b s =
    ap (λ (w : ℕ → List Part). part_at b s w (lying s (own_extent b s)))
    (fun_ext (λ u. enough (length s) (length (drop u s)) (drop u s) (rest_fits u s) (le_refl (length (drop u s)))))

pub outer_none : outermost [] ≡ []
unfolding outermost walked
outer_none = refl

pub outer_rest : (b : ℕ) (s : List ℕ) → lying s (own_extent b s) ≡ none → outermost (b ∷ s) ≡ rest (b ∷ s) ∷ []
unfolding part_at
outer_rest b s e = outer_step b s ∙ ap (part_at b s (λ u. outermost (drop u s))) e

pub outer_whole : (b : ℕ) (s : List ℕ) (u : ℕ) → lying s (own_extent b s) ≡ some u → outermost (b ∷ s) ≡ whole (b ∷ take u s) ∷ outermost (drop u s)
unfolding part_at
outer_whole b s u e = outer_step b s ∙ ap (part_at b s (λ v. outermost (drop v s))) e

-- an object lies in the input, or what begins here is the rest
pub by_part {ℓ} : {X : Type ℓ} (b : ℕ) (s : List ℕ) → (lying s (own_extent b s) ≡ none → X) → ((u : ℕ) → lying s (own_extent b s) ≡ some u → X) → X
by_part {X = X} b s r w = go (lying s (own_extent b s)) refl
  where
    go : (x : Option ℕ) → lying s (own_extent b s) ≡ x → X
    go none e = r e
    go (some u) e = w u e

-- A fact of no bytes, of a rest, and of an object where it is one of the bytes behind it, is a fact of all bytes.
module _ (P : List ℕ → Type 0) (n : P []) (r : (b : ℕ) (s : List ℕ) → lying s (own_extent b s) ≡ none → P (b ∷ s))
    (w : (b : ℕ) (s : List ℕ) (u : ℕ) → lying s (own_extent b s) ≡ some u → P (drop u s) → P (b ∷ s)) where
  part_by_part : (f : ℕ) (s : List ℕ) → length s ≤ f → P s
  part_by_part zero [] l = n
  part_by_part zero (b ∷ s) l = absurd (omega arith)
  part_by_part (suc f) [] l = n
  part_by_part (suc f) (b ∷ s) l = by_part b s (r b s) (λ u e. w b s u e (part_by_part f (drop u s) (omega (arith, length-drop u s))))

  pub by_parts : (s : List ℕ) → P s
  by_parts s = part_by_part (length s) s (le_refl (length s))

-- ---- what comes out
pub mended_none : mended [] ≡ []
unfolding mended mended_parts
mended_none = ap mended_parts outer_none

pub mended_rest : (b : ℕ) (s : List ℕ) → lying s (own_extent b s) ≡ none → mended (b ∷ s) ≡ []
unfolding mended mended_parts mended_part
mended_rest b s e = ap mended_parts (outer_rest b s e)

module _ (b : ℕ) (s : List ℕ) (u : ℕ) (e : lying s (own_extent b s) ≡ some u) where
  pub mended_kept : met_alone (b ∷ take u s) ≡ 0 → mended (b ∷ s) ≡ (b ∷ take u s) ++ mended (drop u s)
  unfolding mended mended_parts mended_part
  mended_kept z = ap mended_parts (outer_whole b s u e) ∙ ap (λ x. x ++ mended_parts (outermost (drop u s))) (if_eq_yes (met_alone (b ∷ take u s)) 0 _ _ z)

  pub mended_bad : met_alone (b ∷ take u s) ≢ 0 → mended (b ∷ s) ≡ 0xfe ∷ mended (drop u s)
  unfolding mended mended_parts mended_part
  mended_bad n = ap mended_parts (outer_whole b s u e) ∙ ap (λ x. x ++ mended_parts (outermost (drop u s))) (if_eq_no (met_alone (b ∷ take u s)) 0 _ _ n)

-- ---- what is listed, of bytes that stand at the place p
abbrev pub changes_at : ℕ → List ℕ → List Change
changes_at p s = changes_from p (outermost s)

pub changes_none : (p : ℕ) → changes_at p [] ≡ []
unfolding changes_from
changes_none p = ap (changes_from p) outer_none

pub changes_rest : (p b : ℕ) (s : List ℕ) → lying s (own_extent b s) ≡ none → changes_at p (b ∷ s) ≡ change p (b ∷ s) ∷ []
unfolding changes_from change_of
changes_rest p b s e = ap (changes_from p) (outer_rest b s e)

module _ (p b : ℕ) (s : List ℕ) (u : ℕ) (e : lying s (own_extent b s) ≡ some u) where
  changes_step : changes_at p (b ∷ s) ≡ change_of p (whole (b ∷ take u s)) ++ changes_at (p + suc u) (drop u s)
  unfolding changes_from bytes_of
  changes_step =
      let n : p + length (b ∷ take u s) ≡ p + suc u = omega (arith, length-take-le u s (lies_within s (own_extent b s) u e)) in
      ap (changes_from p) (outer_whole b s u e) ∙ ap (λ q. change_of p (whole (b ∷ take u s)) ++ changes_at q (drop u s)) n

  pub changes_kept : met_alone (b ∷ take u s) ≡ 0 → changes_at p (b ∷ s) ≡ changes_at (p + suc u) (drop u s)
  unfolding change_of
  changes_kept z = changes_step ∙ ap (λ x. x ++ changes_at (p + suc u) (drop u s)) (if_eq_yes (met_alone (b ∷ take u s)) 0 _ _ z)

  pub changes_bad : met_alone (b ∷ take u s) ≢ 0 → changes_at p (b ∷ s) ≡ change p (b ∷ take u s) ∷ changes_at (p + suc u) (drop u s)
  unfolding change_of
  changes_bad n = changes_step ∙ ap (λ x. x ++ changes_at (p + suc u) (drop u s)) (if_eq_no (met_alone (b ∷ take u s)) 0 _ _ n)

-- those of a whole input
pub changes_whole : (m : List ℕ) → changes_in m ≡ changes_at 0 m
unfolding changes_in
changes_whole m = refl
