-- Parts of a slice, as the code lends them on. Assumes nothing.
use Prim.Native.Nat.{ℕ, zero, suc, ◌+◌, ◌-◌}
use mathlib.Core.Path.{◌≡◌, refl, sym}
use mathlib.Core.List.{List, [], ◌∷◌}
use native.Mathlib.Omega.{arith}
use native.Mathlib.Nat.{le_refl}
use lib.ListN.{length, take, drop, length-drop}
use lib.Seq.{take_all, take-nil}

-- `&s[i..]`
pub rest_part {ℓ} : {A : Type ℓ} (s : List A) (i : ℕ) → take (length s - i) (drop i s) ≡ drop i s
rest_part s i = take_all (length s - i) (drop i s) (rw (length-drop i s) (le_refl (length s - i)))

-- `&s[a..a + n]`
pub middle_part {ℓ} : {A : Type ℓ} (s : List A) (a n : ℕ) → take (a + n - a) (drop a s) ≡ take n (drop a s)
middle_part s a n = let e : a + n - a ≡ n = omega arith in rw e refl

pub drop_take {ℓ} : {A : Type ℓ} (u n : ℕ) (s : List A) → drop u (take n s) ≡ take (n - u) (drop u s)
drop_take zero n s = let e : n - 0 ≡ n = omega arith in rw e refl
drop_take (suc u) zero s = let e : 0 - suc u ≡ 0 = omega arith in rw e refl
drop_take (suc u) (suc n) [] = sym (take-nil (suc n - suc u))
drop_take (suc u) (suc n) (x ∷ s) = let e : suc n - suc u ≡ n - u = omega arith in rw e (drop_take u n s)
