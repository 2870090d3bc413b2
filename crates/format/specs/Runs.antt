-- How a contract says what a run of bytes comes to piece by piece: one object of it, and some of its objects together. No meaning cites
-- this file.
use Rattle.std.specs.Prelude.{ℕ, suc, ◌-◌, ◌≤◌, ◌≡◌, List, length, drop}
use Rattle.format.specs.Items.{Items}
use Rattle.format.specs.Objects.{head_of, contents}
use Rattle.format.specs.Messages.{Object, object, onto, reads}

-- the object of the type-byte b, with d containers around it and the bytes s behind its type-byte
unfoldable pub object_at : ℕ → ℕ → List ℕ → Object
unfolding object head_of reads contents
object_at d b s = object (λ h n. reads (suc d) (contents s h n)) (head_of d b s)

-- from i to e the bytes say xs, however deep they stand
pub record Piece (s : List ℕ) (i e : ℕ) (xs : Items) : Type 0 where
  pub from : i ≤ e
  pub to : e ≤ length s
  pub said : (d : ℕ) → reads d (drop i s) ≡ onto xs (e - i) (reads d (drop e s))
