-- What stands in the place of a length or count, byte by byte; and the contents that a size tells. Assumes nothing.
use Prim.Native.Nat.{ℕ, zero, suc, ◌+◌, ◌-◌, ◌≤◌, ◌<◌}
use native.Mathlib.Omega.{arith}
use native.Mathlib.Nat.{add-zero}
use mathlib.Core.Path.{◌≡◌, refl, sym, ap, ◌∙◌}
use mathlib.Core.Logic.{◌≢◌}
use mathlib.Core.List.{List, [], ◌∷◌}
use lib.ListN.{length, drop, get_or, length-take, length-drop}
use lib.IntN.{ℤ}
use Rattle.format.proofs.Choices.{if_eq_yes, if_eq_no}
use Rattle.format.specs.Objects as O
use Rattle.explain.specs.declared.evidence.Evidence.{Evidence}
use Rattle.explain.specs.declared.evidence.Evidence.TheVariants.{End, Absent, Byte, Number}
use Rattle.explain.specs.Reasons.{between, in_place, counted, counting}

pub in_place_byte : (c : List ℕ) (a i : ℕ) → (i < length c) × (get_or c i 0 ≢ 0xff) × ((k : ℕ) → k < i → get_or c k 0 ≡ 0xff)
    → Byte (get_or c i 0) (a + i) ≡ in_place c a
unfolding in_place
in_place_byte [] a i f = absurd (omega arith)
in_place_byte (b ∷ c) a zero f = ap (Byte b) (add-zero a) ∙ sym (if_eq_no _ _ _ _ f.1)
in_place_byte (b ∷ c) a (suc i) f =
    let k : a + suc i ≡ a + 1 + i = omega arith in
    ap (Byte (get_or c i 0)) k ∙ in_place_byte c (a + 1) i (omega (arith, f.0), f.1, λ j l. f.2 (suc j) (omega arith)) ∙ sym (if_eq_yes _ _ _ _ (f.2 0 (omega arith)))

pub in_place_none : (c : List ℕ) (a : ℕ) → ((k : ℕ) → k < length c → get_or c k 0 ≡ 0xff) → Absent ≡ in_place c a
unfolding in_place
in_place_none [] a f = refl
in_place_none (b ∷ c) a f = in_place_none c (a + 1) (λ k l. f (suc k) (omega arith)) ∙ sym (if_eq_yes _ _ _ _ (f 0 (omega arith)))

-- ---- by what stands at the front of contents
module _ (c : List ℕ) (a : ℕ) where
  pub counted_absent : (v : Evidence) → O.leading c ≡ O.absent → v ≡ in_place c a → v ≡ counted c a (O.leading c)
  unfolding counted
  counted_absent v e q = q ∙ sym (ap (counted c a) e)

  pub counted_cut : (p k : ℕ) → (O.leading c ≡ O.cut_int p k) × (p < length c) → End (a + length c) ≡ counted c a (O.leading c)
  unfolding counted
  counted_cut p k e = sym (ap (counted c a) e.0)

  pub counted_found : (z : ℤ) (u : ℕ) → (O.leading c ≡ O.found z u) × (u ≤ length c) → Number z ≡ counted c a (O.leading c)
  unfolding counted
  counted_found z u e = sym (ap (counted c a) e.0)

-- ---- by a size that is there
pub counting_sized : (m : List ℕ) (i : ℕ) (s : List ℕ) (h n : ℕ) → O.size_of s ≡ O.size h n
    → counting m i (O.size_of s) ≡ counted (between m (i + 1 + h) (i + 1 + h + n)) (i + 1 + h) (O.leading (between m (i + 1 + h) (i + 1 + h + n)))
unfolding counting
counting_sized m i s h n e = ap (counting m i) e

-- contents within the bytes behind a type-byte
pub part_fits : (m : List ℕ) (i e h n : ℕ) → i < e → h + n ≤ length (between m (i + 1) e) → i + 1 + h + n ≤ e
unfolding between
part_fits m i e h n l f = omega (arith, length-take (e - (i + 1)) (drop (i + 1) m))

-- a part is no longer than what is behind its start
pub part_small : (m : List ℕ) (i e : ℕ) → i ≤ length m → i + length (between m i e) ≤ length m
unfolding between
part_small m i e l = omega (arith, length-take (e - i) (drop i m), length-drop i m)
