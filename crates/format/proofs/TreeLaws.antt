-- The tree, the list of 256 and the paper's classes say the same of every type-byte: one test over the whole list. Assumes nothing.
use Prim.Native.Nat.{ℕ, ◌/◌, ◌%◌, ◌<◌}
use mathlib.Core.Path.{◌≡◌, refl, sym, ◌∙◌}
use mathlib.Core.Logic.{◌≢◌}
use mathlib.Core.Bool.{Bool, true}
use mathlib.Core.List.{List, [], ◌∷◌}
use lib.Dec.{eqb}
use lib.ListN.{get_or}
use Rattle.format.specs.declared.Class.{Class}
use Rattle.format.specs.declared.Class.TheVariants as C
use Rattle.format.specs.Choice.{if_eq, both}
use Rattle.format.specs.Bits.{bits_of}
use Rattle.format.specs.Classes.{class_of}
use Rattle.format.specs.Codes.{code_of}
use Rattle.format.specs.Ones.{front_ones, high_ones}
use Rattle.format.proofs.Choices.{if_eq_no, both_left, both_right, true_eq, below, passes}
use Rattle.format.proofs.ClassCodes.{by_code}

-- the list of the source
unfoldable pub classes : List ℕ
classes =
    0 ∷ 0 ∷ 0 ∷ 0 ∷ 0 ∷ 0 ∷ 0 ∷ 0 ∷ 0 ∷ 0 ∷ 0 ∷ 0 ∷ 0 ∷ 0 ∷ 0 ∷ 0 ∷ 0 ∷ 0 ∷ 0 ∷ 0 ∷ 0 ∷ 0 ∷ 0 ∷ 0 ∷ 0 ∷ 0 ∷ 0 ∷ 0 ∷ 0 ∷ 0 ∷ 0 ∷ 0 ∷
    0 ∷ 0 ∷ 0 ∷ 0 ∷ 0 ∷ 0 ∷ 0 ∷ 0 ∷ 0 ∷ 0 ∷ 0 ∷ 0 ∷ 0 ∷ 0 ∷ 0 ∷ 0 ∷ 0 ∷ 0 ∷ 0 ∷ 0 ∷ 0 ∷ 0 ∷ 0 ∷ 0 ∷ 0 ∷ 0 ∷ 0 ∷ 0 ∷ 0 ∷ 0 ∷ 0 ∷ 0 ∷
    0 ∷ 0 ∷ 0 ∷ 0 ∷ 0 ∷ 0 ∷ 0 ∷ 0 ∷ 0 ∷ 0 ∷ 0 ∷ 0 ∷ 0 ∷ 0 ∷ 0 ∷ 0 ∷ 0 ∷ 0 ∷ 0 ∷ 0 ∷ 0 ∷ 0 ∷ 0 ∷ 0 ∷ 0 ∷ 0 ∷ 0 ∷ 0 ∷ 0 ∷ 0 ∷ 0 ∷ 0 ∷
    0 ∷ 0 ∷ 0 ∷ 0 ∷ 0 ∷ 0 ∷ 0 ∷ 0 ∷ 0 ∷ 0 ∷ 0 ∷ 0 ∷ 0 ∷ 0 ∷ 0 ∷ 0 ∷ 0 ∷ 0 ∷ 0 ∷ 0 ∷ 0 ∷ 0 ∷ 0 ∷ 0 ∷ 0 ∷ 0 ∷ 0 ∷ 0 ∷ 0 ∷ 0 ∷ 0 ∷ 0 ∷
    1 ∷ 1 ∷ 1 ∷ 1 ∷ 1 ∷ 1 ∷ 1 ∷ 1 ∷ 1 ∷ 1 ∷ 1 ∷ 1 ∷ 1 ∷ 1 ∷ 1 ∷ 1 ∷ 1 ∷ 1 ∷ 1 ∷ 1 ∷ 1 ∷ 1 ∷ 1 ∷ 1 ∷ 1 ∷ 1 ∷ 1 ∷ 1 ∷ 1 ∷ 1 ∷ 1 ∷ 1 ∷
    1 ∷ 1 ∷ 1 ∷ 1 ∷ 1 ∷ 1 ∷ 1 ∷ 1 ∷ 1 ∷ 1 ∷ 1 ∷ 1 ∷ 1 ∷ 1 ∷ 1 ∷ 1 ∷ 1 ∷ 1 ∷ 1 ∷ 1 ∷ 1 ∷ 1 ∷ 1 ∷ 1 ∷ 1 ∷ 1 ∷ 1 ∷ 1 ∷ 1 ∷ 1 ∷ 1 ∷ 1 ∷
    14 ∷ 4 ∷ 6 ∷ 8 ∷ 9 ∷ 7 ∷ 5 ∷ 14 ∷ 14 ∷ 14 ∷ 14 ∷ 14 ∷ 14 ∷ 14 ∷ 14 ∷ 14 ∷ 14 ∷ 14 ∷ 14 ∷ 14 ∷ 14 ∷ 14 ∷ 14 ∷ 14 ∷ 14 ∷ 14 ∷ 14 ∷ 14 ∷ 14 ∷ 14 ∷ 14 ∷ 14 ∷
    2 ∷ 2 ∷ 2 ∷ 2 ∷ 2 ∷ 2 ∷ 2 ∷ 2 ∷ 14 ∷ 14 ∷ 14 ∷ 14 ∷ 14 ∷ 14 ∷ 14 ∷ 14 ∷ 3 ∷ 3 ∷ 3 ∷ 3 ∷ 3 ∷ 3 ∷ 3 ∷ 3 ∷ 10 ∷ 10 ∷ 10 ∷ 10 ∷ 11 ∷ 11 ∷ 12 ∷ 13 ∷ []

-- ---- the tree of the source: what it makes of a type-byte b with n ones at its high end
unfoldable pub non_atomic : ℕ → Class
unfolding if_eq
non_atomic m = if_eq m 1 C.Lbitstr (if_eq m 2 C.Struc (if_eq m 3 C.Edt (if_eq m 4 C.Repeat (if_eq m 5 C.Ustruc (if_eq m 6 C.String C.Reserved)))))

unfoldable pub tree_at : ℕ → ℕ → Class
unfolding if_eq non_atomic
tree_at n b =
    if_eq n 0 C.Char7
    (if_eq n 1 C.Sinteger
    (if_eq n 2 (non_atomic (b % 32))
    (if_eq n 3 (if_eq (b / 8 % 2) 0 C.Linteger C.Reserved)
    (if_eq n 4 C.Sbitstr
    (if_eq n 5 C.Xtra
    (if_eq n 6 C.Bool
    (if_eq n 7 C.Empty C.Padding)))))))

right : ℕ → Bool
right b = both (eqb (get_or classes b 0) (code_of (class_of b))) (eqb (get_or classes b 0) (code_of (tree_at (high_ones b) b)))

all_right : below right 256 ≡ true
unfolding below both right classes class_of code_of tree_at high_ones front_ones bits_of
all_right = refl

pub listed_class : (b : ℕ) → b < 256 → get_or classes b 0 ≡ code_of (class_of b)
unfolding right
listed_class b h = true_eq (get_or classes b 0) (code_of (class_of b)) (both_left _ _ (passes right 256 all_right b h))

pub listed_tree : (b : ℕ) → b < 256 → get_or classes b 0 ≡ code_of (tree_at (high_ones b) b)
unfolding right
listed_tree b h = true_eq (get_or classes b 0) (code_of (tree_at (high_ones b) b)) (both_right _ _ (passes right 256 all_right b h))

-- what the tree says is the class, since the list says both
tree_class : (b : ℕ) → b < 256 → tree_at (high_ones b) b ≡ class_of b
tree_class b h = by_code (class_of b) (tree_at (high_ones b) b) (get_or classes b 0) (listed_class b h) (listed_tree b h)

-- the same, as a `match` on the count goes
pub at_ones : (b n k : ℕ) → b < 256 → n ≡ high_ones b → n ≡ k → tree_at k b ≡ class_of b
at_ones b n k h e q = let w : high_ones b ≡ k = sym e ∙ q in rw w at (tree_class b h)

-- and one on the low five bits after two ones
pub at_low : (b n k : ℕ) → b < 256 → n ≡ high_ones b → n ≡ 2 → b % 32 ≡ k → non_atomic k ≡ class_of b
unfolding tree_at
at_low b n k h e q w = rw w at (at_ones b n 2 h e q)

pub unassigned : (m : ℕ) → m ≢ 1 → m ≢ 2 → m ≢ 3 → m ≢ 4 → m ≢ 5 → m ≢ 6 → non_atomic m ≡ C.Reserved
unfolding non_atomic
unassigned m n1 n2 n3 n4 n5 n6 =
    if_eq_no m 1 _ _ n1 ∙ if_eq_no m 2 _ _ n2 ∙ if_eq_no m 3 _ _ n3 ∙ if_eq_no m 4 _ _ n4 ∙ if_eq_no m 5 _ _ n5 ∙ if_eq_no m 6 _ _ n6

-- and one on the bit behind three ones and a 0
pub at_next : (b n : ℕ) → b < 256 → n ≡ high_ones b → n ≡ 3 → if_eq (b / 8 % 2) 0 C.Linteger C.Reserved ≡ class_of b
unfolding tree_at
at_next b n h e q = at_ones b n 3 h e q
