-- Signed numbers as the code holds them: a word read as one, one written as a word, and magnitudes. Assumes nothing.
use mathlib.Core.Path.{◌≡◌, refl, sym, ap, ◌∙◌}
use mathlib.Core.Bool.{Bool, true, false}
use Prim.Native.Nat.{ℕ, suc, ◌-◌, ◌*◌, ◌^◌, ◌<◌}
use native.Mathlib.Nat.{mod-eq_of_lt}
use native.Mathlib.Omega.{arith}
use lib.Dec.{ltb→lt}
use lib.IntN.{ℤ, pos, negsuc, nat_abs}
use lib.Signed.{mag, lt_z}
use mir.Syntax.{w64}
use mir.Val.{SFits, of_z, to_z}
use mir.Facts.{to_z-of_z}
use Rattle.format.specs.Numbers.{signed, twos}
use Rattle.format.proofs.Choices.{if_lt_yes, if_lt_no, lt_true, lt_false, split}

-- ---- a word read as a signed number
pub to_pos : (v : ℕ) → v < 2 ^ 63 → to_z w64 v ≡ pos v
to_pos v h = rw (lt_true v (2 ^ 63) h) refl

pub to_signed : (v : ℕ) → v < 2 ^ 63 → to_z w64 v ≡ signed 8 v
unfolding signed
to_signed v h = to_pos v h ∙ sym (if_lt_yes (2 * v) (256 ^ 8) _ _ (omega arith))

pub cast_signed_is : (v : ℕ) → v < 2 ^ 64 → to_z w64 v ≡ signed 8 v
unfolding signed
cast_signed_is v l =
    split v (2 ^ 63) (λ h. to_signed v h)
    (λ h.
    let e : 2 ^ 64 - suc v ≡ 256 ^ 8 - 1 - v = omega arith in
    rw (lt_false v (2 ^ 63) h) (ap negsuc e ∙ sym (if_lt_no (2 * v) (256 ^ 8) _ _ (omega arith))))

-- ---- a signed number written as a word
pub cast_unsigned_is : (z : ℤ) → mag z < 2 ^ 63 → of_z w64 z ≡ twos 8 z
unfolding twos
cast_unsigned_is (pos n) h = sym (mod-eq_of_lt (let g : n < 256 ^ 8 = omega arith in g))
cast_unsigned_is (negsuc n) h =
    let e : 2 ^ 64 - suc n ≡ 256 ^ 8 - 1 - n = omega arith in
    e ∙ ap (λ m. 256 ^ 8 - 1 - m) (sym (mod-eq_of_lt (let g : n < 256 ^ 8 = omega arith in g)))

-- ---- a number that one function hands to another
pub handed : (y z : ℤ) → mag z < 2 ^ 63 → z ≡ y → to_z w64 (of_z w64 z) ≡ y
handed y z f e = to_z-of_z {w = w64} (record { sfits = f }) ∙ e

pub handed_word : (y z : ℤ) (v : ℕ) → mag z < 2 ^ 63 → z ≡ y → v ≡ twos 8 (to_z w64 (of_z w64 z)) → v ≡ twos 8 y
handed_word y z v f e ev = ev ∙ ap (twos 8) (handed y z f e)

-- ---- a number and its magnitude
below : (z : ℤ) → lt_z z (pos 0) ≡ true → z ≡ negsuc (mag z)
below (pos n) e = absurd (omega (arith, ltb→lt n 0 (rw e tt)))
below (negsuc n) e = refl

not_below : (z : ℤ) → lt_z z (pos 0) ≡ false → z ≡ pos (mag z)
not_below (pos n) e = refl
not_below (negsuc n) e = let z : ◌≡◌ {A = ℕ} 0 1 = cc in absurd (omega arith)

pub cast_is : (y : ℤ) (m : ℕ) → y ≡ pos m → nat_abs y ≡ m
cast_is y m e = rw e refl

-- ---- a number as a local holds it, tested and cast
module _ (z : ℤ) (f : SFits w64 z) where
  same : to_z w64 (of_z w64 z) ≡ z
  same = to_z-of_z f

  told : {b : Bool} → lt_z (to_z w64 (of_z w64 z)) (pos 0) ≡ b → lt_z z (pos 0) ≡ b
  told e = sym (ap (λ y. lt_z y (pos 0)) same) ∙ e

  pub found_negative : lt_z (to_z w64 (of_z w64 z)) (pos 0) ≡ true → z ≡ negsuc (mag z)
  found_negative e = below z (told e)

  pub kept : lt_z (to_z w64 (of_z w64 z)) (pos 0) ≡ false → to_z w64 (of_z w64 z) ≡ pos (mag z)
  kept e = same ∙ not_below z (told e)

  pub found_natural : lt_z (to_z w64 (of_z w64 z)) (pos 0) ≡ false → (z ≡ pos (nat_abs (to_z w64 (of_z w64 z)))) × (nat_abs (to_z w64 (of_z w64 z)) < 2 ^ 63)
  found_natural e = rw (cast_is (to_z w64 (of_z w64 z)) (mag z) (kept e)) (not_below z (told e), f.sfits)
