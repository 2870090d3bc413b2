-- A string: its normal form is its codes, and no container stands in it. Assumes nothing.
use mathlib.Core.Path.{◌≡◌, refl, ◌∙◌, ap, ap₂}
use mathlib.Core.List.{[], ◌∷◌, ◌++◌}
use mathlib.Core.Bool.{true}
use native.Mathlib.Omega.{arith}
use lib.ListN.{length}
use Rattle.format.specs.Items.{Leaf, int, bits, char, bool, empty, xtra, Items, CHAR, leaf_kind, is_string}
use Rattle.format.specs.Tables.{count, leaf_b, codes}
use Rattle.format.specs.Normal.{normal_leaf, normal}
use Rattle.format.proofs.TableLaws.{by_chars, codes_length}

char_normal : (l : Leaf) → leaf_kind l ≡ CHAR → normal_leaf l ≡ leaf_b 0 l ∷ []
unfolding leaf_kind normal_leaf leaf_b
char_normal (int z) k = absurd (omega arith)
char_normal (bits bs) k = absurd (omega arith)
char_normal (char c) k = refl
char_normal (bool b) k = absurd (omega arith)
char_normal empty k = absurd (omega arith)
char_normal (xtra n) k = absurd (omega arith)

pub string_normal : (c : Items) → is_string c ≡ true → normal c ≡ codes c
unfolding normal codes
string_normal = by_chars (λ c. normal c ≡ codes c) refl (λ l xs k e. ap₂ ◌++◌ (char_normal l k) e)

pub string_size : (c : Items) → is_string c ≡ true → length (normal c) ≡ count c
string_size c t = ap length (string_normal c t) ∙ codes_length c
