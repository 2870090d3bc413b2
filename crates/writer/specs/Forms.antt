-- The parts of a normal form that the code measures and writes one by one.
use Rattle.std.specs.Prelude.{ℕ, zero, suc, ◌+◌, ◌*◌, ◌/◌, ◌≤◌, ◌<◌, ◌≡◌, true, List, [], ◌∷◌, ◌++◌, length, get_or, pos}
use Rattle.format.specs.Choice.{if_lt, if_eq}
use Rattle.format.specs.Bits.{num, bytes_for}
use Rattle.format.specs.Items.{bits}
use Rattle.format.specs.Normal.{normal_size, normal_int, normal_leaf}
use Rattle.format.specs.Tables.{from_words}
use Rattle.table.specs.Rows.{kind_at, b_at, data_of, kept_bytes}

-- the contents of an LBITSTR of n bits have this size
unfoldable pub lbits_size : ℕ → ℕ
unfolding normal_int bytes_for
lbits_size n = length (normal_int (pos n)) + bytes_for n

-- the bytes of a BITS of n bits
unfoldable pub bits_length : ℕ → ℕ
unfolding if_lt lbits_size normal_size
bits_length n = if_lt n 64 (2 + n / 8) (1 + length (normal_size (lbits_size n)) + lbits_size n)

-- these are data words from b on
abbrev pub Held : List ℕ → ℕ → List ℕ → Type 0
Held w b ws = (i : ℕ) → i < length ws → get_or ws i 0 ≡ get_or w (3 * get_or w 0 0 + 4 + b + i) 0

-- n bits that stand in the data words from b on, with the marker before them, as a number
unfoldable pub marker : List ℕ → ℕ → ℕ → ℕ
unfolding num from_words
marker w b n = num (true ∷ from_words n b (data_of w))

-- the normal form of a BITS of them
unfoldable pub bits_form : List ℕ → ℕ → ℕ → List ℕ
unfolding normal_leaf from_words
bits_form w b n = normal_leaf (bits (from_words n b (data_of w)))

-- their number, and then the bits
unfoldable pub numbered : List ℕ → ℕ → ℕ → List ℕ
unfolding normal_int kept_bytes
numbered w b n = normal_int (pos n) ++ kept_bytes w b n

-- CHAR, BOOL, EMPTY and XTRA by kind and code
unfoldable pub plain_byte : ℕ → ℕ → ℕ
unfolding if_eq
plain_byte k b = if_eq k 3 b (if_eq k 4 (0xfc + b) (if_eq k 5 0xfe (0xf8 + b)))

-- the k rows from p on, each as the byte that is its last word above `low`
unfoldable pub codes_from : List ℕ → ℕ → ℕ → ℕ → List ℕ
codes_from w low p zero = []
codes_from w low p (suc k) = (low + b_at w p) ∷ codes_from w low (p + 1) k

-- the rows p up to q, not past `to`, are of one kind, and their last words are below `most`; they are one at least if row p is so
pub record Alike (w : List ℕ) (kind most p to q : ℕ) : Type 0 where
  pub start : p ≤ q
  pub within : q ≤ to
  pub each : (i : ℕ) → p ≤ i → i < q → (kind_at w i ≡ kind) × (b_at w i < most)
  pub moves : p < to → kind_at w p ≡ kind → b_at w p < most → p < q
