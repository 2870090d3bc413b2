-- The laws of choosing by whether two lists of items are the same. Assumes nothing.
use mathlib.Core.Path.{◌≡◌, refl}
use mathlib.Core.Logic.{◌≢◌}
use Rattle.format.specs.Items.{Items}
use Rattle.format.specs.Same.{same_items, if_same}

-- a fact of either outcome is a fact of the choice
pub by_same {ℓ κ} : {X : Type ℓ} (P : X → Type κ) (xs ys : Items) {x y : X} → (xs ≡ ys → P x) → (xs ≢ ys → P y) → P (if_same xs ys x y)
unfolding if_same
by_same P xs ys {x} {y} f g = go (same_items xs ys)
  where
    go : (d : Dec (xs ≡ ys)) → P (elim d [ yes e ↦ x | no n ↦ y ])
    go (yes e) = f e
    go (no n) = g n

pub if_same_yes {ℓ} : {X : Type ℓ} (xs ys : Items) (x y : X) → xs ≡ ys → if_same xs ys x y ≡ x
if_same_yes xs ys x y e = by_same (λ z. z ≡ x) xs ys (λ q. refl) (λ n. absurd (n e))

pub if_same_no {ℓ} : {X : Type ℓ} (xs ys : Items) (x y : X) → xs ≢ ys → if_same xs ys x y ≡ y
if_same_no xs ys x y n = by_same (λ z. z ≡ y) xs ys (λ e. absurd (n e)) (λ q. refl)
