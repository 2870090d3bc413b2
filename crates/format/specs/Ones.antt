-- "The count of ones at the high end of the byte". No meaning cites this file; it is here because contracts of the code do.
use Rattle.std.specs.Prelude.{ℕ, suc, Bool, true, false, List, [], ◌∷◌}
use Rattle.format.specs.Bits.{bits_of}

-- the ones that stand at the front of bits
unfoldable pub front_ones : List Bool → ℕ
front_ones [] = 0
front_ones (true ∷ bs) = suc (front_ones bs)
front_ones (false ∷ bs) = 0

unfoldable pub high_ones : ℕ → ℕ
unfolding front_ones bits_of
high_ones b = front_ones (bits_of 8 b)
