-- Bytes that lie within a range.
use Rattle.std.specs.Prelude.{ℕ, ◌+◌, ◌≤◌, ◌<◌, List, length, get_or}
use Rattle.wire.specs.WordsAt.{word_at}

-- the bytes from i to e are lo to hi
abbrev pub Between : ℕ → ℕ → ℕ → ℕ → List ℕ → Type 0
Between lo hi i e s = (j : ℕ) → i ≤ j → j < e → (lo ≤ get_or s j 0) × (get_or s j 0 ≤ hi)

-- they are so up to e, which lies within them
abbrev pub Ranged : ℕ → ℕ → ℕ → ℕ → List ℕ → Type 0
Ranged lo hi i e s = (i ≤ e) × (e ≤ length s) × Between lo hi i e s

-- up to e, which lies within them, each byte is one of eight that make a word of which P holds
abbrev pub Passed : (ℕ → Type 0) → ℕ → ℕ → List ℕ → Type 0
Passed P i e s = (i ≤ e) × (e ≤ length s) × ((j : ℕ) → i ≤ j → j < e → (k : ℕ) × (k ≤ j) × (j < k + 8) × (k + 8 ≤ length s) × P (word_at k s))
