-- The part at a place of the input, as the code finds it. Assumes nothing.
use Prim.Native.Nat.{ℕ, suc, ◌+◌, ◌-◌, ◌≤◌, ◌<◌}
use native.Mathlib.Omega.{arith}
use mathlib.Core.Path.{◌≡◌, sym, ap, ◌∙◌}
use mathlib.Core.List.{List, ◌∷◌}
use Rattle.std.specs.Prelude.{Some, None, Ok, Err}
use lib.ListN.{length, take, drop, get_or, length-drop}
use lib.Seq.{drop-cons}
use Rattle.format.specs.Messages.{outcome}
use Rattle.format.proofs.Parts.{rest_part, middle_part}
use Rattle.salvage.specs.Mending.{own_extent, lying}
use Rattle.salvage.specs.declared.parts.Amount.{Amount}
use Rattle.salvage.specs.Told.{bytes_told, met_of, object_in, SoundFront, BadFront, BadRest}
use Rattle.salvage.proofs.PartCases.{by_object, by_rest, bad_fits, sound_met}
use Rattle.salvage.proofs.Sound.{rest_bad}

-- ---- what is told of the byte at p and of the slice behind it
module _ (m : List ℕ) (p : ℕ) (here : p < length m) where
  abbrev first : ℕ
  first = get_or m p 0

  abbrev behind : List ℕ
  behind = drop (suc p) m

  front : drop p m ≡ first ∷ behind
  front = drop-cons m p 0 here

  abbrev seen : List ℕ
  seen = take (length m - (p + 1)) (drop (p + 1) m)

  told : bytes_told (lying seen (own_extent first seen)) ≡ object_in (drop p m)
  unfolding object_in
  told =
      let e : p + 1 ≡ suc p = omega arith in
      ap (λ s. bytes_told (lying s (own_extent first s))) (rest_part m (p + 1) ∙ ap (λ i. drop i m) e) ∙ sym (ap object_in front)

  -- n bytes of an object
  module _ (n : ℕ) (q : Some n ≡ bytes_told (lying seen (own_extent first seen))) where
    object : object_in (drop p m) ≡ Some n
    object = sym (q ∙ told)

    pub part_fits : p + n ≤ length m
    part_fits = omega (arith, bad_fits (drop p m) n object, length-drop p m)

    some_bytes : 0 < n
    some_bytes = by_object first behind n (sym (ap object_in front) ∙ object) (λ u i e. omega arith)

    pub part_kept : (a : Amount) → Ok a ≡ met_of (outcome (take (p + n - p) (drop p m))) → SoundFront (drop p m) n a
    part_kept a w =
        record { some_bytes = some_bytes; fits = bad_fits (drop p m) n object; sound = sym (w ∙ ap (λ s. met_of (outcome s)) (middle_part m p n)) }

    pub part_bad : (k : ℕ) → Err k ≡ met_of (outcome (take (p + n - p) (drop p m))) → BadFront (drop p m) n k
    part_bad k w = record { object = object; bad = sym (w ∙ ap (λ s. met_of (outcome s)) (middle_part m p n)) }

  -- or the rest
  module _ (q : None ≡ bytes_told (lying seen (own_extent first seen))) where
    rest : object_in (drop p m) ≡ None
    rest = sym (q ∙ told)

    pub part_rest : (k : ℕ) → Err k ≡ met_of (outcome (take (length m - p) (drop p m))) → BadRest (drop p m) k
    part_rest k w = record { object = rest; bad = sym (w ∙ ap (λ s. met_of (outcome s)) (rest_part m p)) }

    -- which is never sound
    pub rest_unsound : (a : Amount) → Ok a ≡ met_of (outcome (take (length m - p) (drop p m))) → ⊥
    rest_unsound a w =
        rest_bad first behind (by_rest first behind (sym (ap object_in front) ∙ rest))
        (sound_met (first ∷ behind) a (sym (w ∙ ap (λ s. met_of (outcome s)) (rest_part m p ∙ front))))
