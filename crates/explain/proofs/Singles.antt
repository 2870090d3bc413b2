-- Objects of one byte, and what each says. Assumes nothing.
use Prim.Native.Nat.{ℕ, ◌+◌, ◌-◌, ◌≤◌, ◌<◌}
use native.Mathlib.Omega.{arith}
use mathlib.Core.Path.{◌≡◌, refl, sym, ap, ◌∙◌}
use mathlib.Core.Logic.{◌⊎◌, inl, inr}
use mathlib.Core.List.{List, [], ◌∷◌}
use lib.IntN.{pos}
use Rattle.format.specs.declared.Class.TheVariants.{Sinteger}
use Rattle.format.specs.Classes.{class_of}
use Rattle.format.specs.Items.{int, char, Items, end, one, leaf_kind, kinds, INT, CHAR}
use Rattle.format.specs.Objects as O
use Rattle.format.proofs.Choices.{split}
use Rattle.format.proofs.TypeBytes.{char_class, small_class}

-- ---- what such a byte says by itself
module _ (d b : ℕ) (s : List ℕ) where
  pub single_padding : b ≡ 0xff → O.head_of d b s ≡ O.gives end 0
  unfolding O.head_of O.head_by class_of
  single_padding e = ap (λ c. O.head_by (class_of c) d c s) e

  pub single_char : b < 0x80 → (xs : Items) × (O.head_of d b s ≡ O.gives xs 0) × (kinds xs ≡ CHAR ∷ [])
  unfolding O.head_of O.head_by kinds leaf_kind
  single_char h = (one (char b), ap (λ c. O.head_by c d b s) (char_class b h), refl)

  pub single_int : 0x80 ≤ b → b < 0xc0 → (xs : Items) × (O.head_of d b s ≡ O.gives xs 0) × (kinds xs ≡ INT ∷ [])
  unfolding O.head_of O.head_by kinds leaf_kind
  single_int g h =
      let e : 0x80 + (b - 0x80) ≡ b = omega arith in
      let k : class_of b ≡ Sinteger = ap class_of (sym e) ∙ small_class (b - 0x80) (omega arith) in
      (one (int (pos (b - 0x80))), ap (λ c. O.head_by c d b s) k, refl)

  pub single_head : (b < 0xc0) ⊎ (b ≡ 0xff) → (xs : Items) × (O.head_of d b s ≡ O.gives xs 0)
  single_head (inl l) = split b 0x80 (λ h. let x = single_char h in (x.0, x.1)) (λ h. let x = single_int h l in (x.0, x.1))
  single_head (inr e) = (end, single_padding e)
