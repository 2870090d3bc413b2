-- Type-bytes told by a match on their class. Assumes nothing.
use Prim.Native.Nat.{ℕ, ◌+◌, ◌-◌, ◌≤◌, ◌<◌}
use native.Mathlib.Omega.{arith}
use mathlib.Core.Path.{◌≡◌, refl, sym, subst}
use Rattle.format.specs.declared.Class.{Class}
use Rattle.format.specs.declared.Class.TheVariants as C
use Rattle.format.specs.Classes.{class_of}
use Rattle.format.proofs.Choices.{Each, each}
use Rattle.format.proofs.TypeBytes.{InClass, in_class, small_class}

-- what a class that is told says of its byte
pub of_class : (b : ℕ) (c : Class) → c ≡ class_of b → InClass b c
of_class b c e = subst (InClass b) (sym e) (in_class b)

-- ---- the class of all bytes of a range
pub within_class : (c : Class) (lo n : ℕ) → Each (λ k. class_of (lo + k) ≡ c) n → (b : ℕ) → lo ≤ b → b < lo + n → class_of b ≡ c
within_class c lo n w b g h =
    let e : lo + (b - lo) ≡ b = omega arith in
    rw e at (each (λ k. class_of (lo + k) ≡ c) n w (b - lo) (omega arith))

pub small_class_at : (b : ℕ) → 0x80 ≤ b → b < 0xc0 → class_of b ≡ C.Sinteger
small_class_at b g h = let e : 0x80 + (b - 0x80) ≡ b = omega arith in rw e at (small_class (b - 0x80) (omega arith))

pub long_class_at : (b : ℕ) → 0xe0 ≤ b → b < 0xe8 → class_of b ≡ C.Linteger
unfolding class_of
long_class_at = within_class C.Linteger 0xe0 8 (refl, (refl, (refl, (refl, (refl, (refl, (refl, (refl, tt))))))))

pub sbitstr_class_at : (b : ℕ) → 0xf0 ≤ b → b < 0xf8 → class_of b ≡ C.Sbitstr
unfolding class_of
sbitstr_class_at = within_class C.Sbitstr 0xf0 8 (refl, (refl, (refl, (refl, (refl, (refl, (refl, (refl, tt))))))))
