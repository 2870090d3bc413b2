-- Whether two lists of items are the same, as a test.
use Rattle.std.proofs.Math.Decide.{ℕ_discrete}
use Rattle.std.proofs.Common.{ap, sym}
use Rattle.std.proofs.Math.Bool.{Bool-discrete}
use mathlib.Core.List.{List-discrete}
use Rattle.std.specs.Prelude.{ℤ, pos, negsuc}
use Rattle.std.proofs.Math.IntN.{pos-ne-negsuc}
use Rattle.std.specs.Int.Signed.{mag}
use Rattle.format.specs.Items.{Leaf-discrete, Group-discrete, Items, Items-discrete}

-- Equality of numbers by cases, so that examples with INTs compute. What is decided is equality itself, by its type.
unfoldable pub same_int : Discrete ℤ
unfolding ℕ_discrete
same_int (pos m) (pos n) = elim (ℕ_discrete m n) [ yes e ↦ yes (ap pos e) | no f ↦ no (λ q. f (ap mag q)) ]
same_int (pos m) (negsuc n) = no (pos-ne-negsuc m n)
same_int (negsuc m) (pos n) = no (λ q. pos-ne-negsuc n m (sym q))
same_int (negsuc m) (negsuc n) = elim (ℕ_discrete m n) [ yes e ↦ yes (ap negsuc e) | no f ↦ no (λ q. f (ap mag q)) ]

-- "The same items are: two INTs of one value; two BITS of as many bits with the same bits; two CHARs, two BOOLs or two XTRAs of
-- one code; two EMPTYs; two STRUCs or two EDTs with the same elements in order."
abbrev pub same_items : Discrete Items
same_items = Items-discrete (Leaf-discrete same_int (List-discrete Bool-discrete) ℕ_discrete Bool-discrete) Group-discrete

-- x if the two are the same, else y
unfoldable pub if_same {ℓ} : {X : Type ℓ} → Items → Items → X → X → X
unfolding same_int ℕ_discrete
if_same xs ys x y = elim (same_items xs ys) [ yes e ↦ x | no n ↦ y ]
