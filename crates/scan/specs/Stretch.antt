-- A stretch of small objects of one kind.
use Rattle.std.specs.Prelude.{ℕ, ◌+◌, ◌≤◌, ◌<◌, ◌≡◌, List, Option, IfSome}
use Rattle.format.specs.Items.{Items}
use Rattle.format.specs.Runs.{Piece}
use Rattle.format.specs.declared.kinds.Kind.TheVariants as K
use Rattle.scan.specs.declared.summary.Summary.{Summary}
use Rattle.scan.specs.declared.stretch.Leap.{Leap}
use Rattle.scan.specs.Sums.{sum_of, one_of, power_of}

-- from i to e the bytes say items that come to a, however deep they stand
pub record Comes (s : List ℕ) (i e : ℕ) (a : Summary) : Type 0 where
  pub items : Items
  pub piece : Piece s i e items
  pub sum_is : sum_of items ≡ a

-- from i to e they say n integers
pub record Integers (s : List ℕ) (i e n : ℕ) : Type 0 where
  pub comes : Comes s i e (power_of n (one_of K.Int 1 0))
  pub few : i + n ≤ e

-- what a leap from i is: it goes on, and up to where it ends the bytes say items that come to its sum
abbrev pub Leapt : List ℕ → ℕ → Option Leap → Type 0
Leapt s i r = IfSome r (λ l. (i < l.upto) × Comes s i l.upto l.sum)
