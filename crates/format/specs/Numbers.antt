-- Whole numbers in bytes, the high byte first. A byte is a number below 256, and a run of bytes a list.
use Rattle.std.specs.Prelude.{ℕ, zero, suc, ◌+◌, ◌-◌, ◌*◌, ◌/◌, ◌%◌, ◌^◌, ◌<◌, List, [], ◌∷◌, length, ℤ, pos, negsuc}
use Rattle.format.specs.Choice.{if_lt}

-- every element is a byte
abbrev pub Bytes : List ℕ → Type 0
Bytes [] = Unit {0}
Bytes (b ∷ s) = (b < 256) × Bytes s

-- the number that bytes make
unfoldable pub val : List ℕ → ℕ
val [] = 0
val (b ∷ s) = b * 256 ^ length s + val s

-- a number below 256 ^ k in k bytes
unfoldable pub be : ℕ → ℕ → List ℕ
be zero n = []
be (suc k) n = n / 256 ^ k ∷ be k (n % 256 ^ k)

-- the fewest bytes, one at least, that hold a number; as many tries as the first argument says
unfoldable pub width_f : ℕ → ℕ → ℕ
unfolding if_lt
width_f zero n = 1
width_f (suc f) n = let more = suc (width_f f (n / 256)) in if_lt n 256 1 more

unfoldable pub width : ℕ → ℕ
unfolding width_f
width n = width_f n n

-- "two's complement, high byte first: a signed whole number": what k bytes that make v stand for.
-- `negsuc n` is the negative number -(n + 1).
unfoldable pub signed : ℕ → ℕ → ℤ
unfolding if_lt
signed k v = if_lt (2 * v) (256 ^ k) (pos v) (negsuc (256 ^ k - 1 - v))

-- a whole number modulo 256 ^ k: what its k bytes make
unfoldable pub twos : ℕ → ℤ → ℕ
twos k (pos n) = n % 256 ^ k
twos k (negsuc n) = 256 ^ k - 1 - n % 256 ^ k
