-- The room for a normal form, where so many containers may stand inside one another.
use Rattle.std.specs.Prelude.{ℕ, suc, ◌+◌, ◌≤◌, List, length, take, drop}
use Rattle.format.specs.Choice.{if_eq}
use Rattle.format.specs.Lent.{over_at}
use Rattle.format.specs.Normal.{with_size, normal, depth}
use Rattle.table.specs.Rows.{Run, items_at, rows_of}

-- the items of a run are at most d deep, and their normal form has room in n bytes
pub record RunWritable (w : List ℕ) (p e d n : ℕ) : Type 0 where
  pub run : Run w p e
  pub within : e ≤ rows_of w
  pub shallow : depth (items_at w p e) ≤ d
  pub room : length (normal (items_at w p e)) ≤ n

-- so are the items of a container, itself counted
pub record ContainerWritable (w : List ℕ) (p e d n : ℕ) : Type 0 where
  pub run : Run w p e
  pub within : e ≤ rows_of w
  pub shallow : suc (depth (items_at w p e)) ≤ d
  pub room : 1 + length (with_size (normal (items_at w p e))) ≤ n

-- the type-byte of a container by its row's kind
unfoldable pub head_byte : ℕ → ℕ
unfolding if_eq
head_byte k = if_eq k 8 0xc3 0xc2

-- n bytes from a on, moved k bytes on
unfoldable pub moved : ℕ → ℕ → ℕ → List ℕ → List ℕ
unfolding over_at
moved a n k t = over_at (a + k) (take n (drop a t)) t
