-- The number that eight bytes make, high byte first.
use Rattle.std.specs.Prelude.{ℕ, ◌+◌, ◌*◌, List, get_or}

abbrev pub four_at : ℕ → List ℕ → ℕ
four_at i s = ((get_or s i 0 * 256 + get_or s (i + 1) 0) * 256 + get_or s (i + 2) 0) * 256 + get_or s (i + 3) 0

-- from i on
abbrev pub word_at : ℕ → List ℕ → ℕ
word_at i s = (((four_at i s * 256 + get_or s (i + 4) 0) * 256 + get_or s (i + 5) 0) * 256 + get_or s (i + 6) 0) * 256 + get_or s (i + 7) 0
