-- How a contract says what becomes of a lent slice of which a part is written. No meaning cites this file.
use Rattle.std.specs.Prelude.{ℕ, List, ◌++◌, take, drop}
use Rattle.format.specs.Answers.{over}

-- the slice lent, with another list over it from the place `at` on
unfoldable pub over_at : ℕ → List ℕ → List ℕ → List ℕ
unfolding over
over_at at l t = take at t ++ over l (drop at t)
