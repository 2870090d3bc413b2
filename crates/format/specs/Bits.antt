-- Bits, the high bit first, and the bytes or words that hold them.
use Rattle.std.specs.Prelude.{ℕ, zero, suc, ◌+◌, ◌*◌, ◌/◌, ◌%◌, ◌^◌, Bool, true, false, List, [], ◌∷◌, ◌++◌, length, drop}
use Rattle.format.specs.Choice.{if_eq}

unfoldable pub bit : Bool → ℕ
bit true = 1
bit false = 0

unfoldable pub is_one : ℕ → Bool
unfolding if_eq
is_one n = if_eq n 1 true false

-- the w bits of a number below 2 ^ w
unfoldable pub bits_of : ℕ → ℕ → List Bool
unfolding is_one
bits_of zero n = []
bits_of (suc w) n = is_one (n / 2 ^ w) ∷ bits_of w (n % 2 ^ w)

-- the bits of numbers of w bits each, one after another
unfoldable pub spread : ℕ → List ℕ → List Bool
unfolding bits_of
spread w [] = []
spread w (n ∷ s) = bits_of w n ++ spread w s

-- the first w bits as a number, left-adjusted: bits that are not there are 0
unfoldable pub adjusted : ℕ → List Bool → ℕ
unfolding bit
adjusted zero bs = 0
adjusted (suc w) [] = 0
adjusted (suc w) (b ∷ bs) = bit b * 2 ^ w + adjusted w bs

-- the number that bits make
unfoldable pub num : List Bool → ℕ
unfolding adjusted
num bs = adjusted (length bs) bs

-- bits in k numbers of w bits each, left-adjusted
unfoldable pub packed : ℕ → ℕ → List Bool → List ℕ
unfolding adjusted
packed w zero bs = []
packed w (suc k) bs = adjusted w bs ∷ packed w k (drop w bs)

-- "exactly the bytes needed for n bits", and as many data words
unfoldable pub bytes_for : ℕ → ℕ
bytes_for n = (n + 7) / 8

unfoldable pub words_for : ℕ → ℕ
words_for n = (n + 63) / 64

-- "the first 1 .. is a marker; the bits after it .. are the stream"
unfoldable pub after_marker : List Bool → List Bool
after_marker [] = []
after_marker (true ∷ bs) = bs
after_marker (false ∷ bs) = after_marker bs
