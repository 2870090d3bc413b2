-- Text put at a place of a lent output, the rest of it left as it was.
use Rattle.std.specs.Prelude.{ℕ, ◌+◌, ◌≤◌, ◌≡◌, List, length}
use Rattle.format.specs.Lent.{over_at}
use Rattle.listing.specs.declared.output.Output.{Output}

-- from t to u the text l was put at p, and e is the place behind it
pub record Wrote (p : ℕ) (l t : List ℕ) (e : ℕ) (u : List ℕ) : Type 0 where
  pub room : p + length l ≤ length t
  pub next : e ≡ p + length l
  pub is : u ≡ over_at p l t

-- there is room for the text l behind what is written
pub record Fits (l : List ℕ) (a : Output) : Type 0 where
  pub room : a.at + length l ≤ length a.lent.now

-- from a to b the text l was put behind what was written before, in the same lent bytes
pub record Put (l : List ℕ) (a b : Output) : Type 0 where
  pub same : b.lent.ghost_name ≡ a.lent.ghost_name
  pub wrote : Wrote a.at l a.lent.now b.at b.lent.now
