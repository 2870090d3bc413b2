-- What the code's answer about a size field says of the object's meaning.
use Rattle.std.specs.Prelude.{ℕ, ◌+◌, ◌-◌, ◌≤◌, ◌≡◌, List, length, Result, Ok, Err}
use Rattle.format.specs.Choice.{if_lt, if_eq}
use Rattle.format.specs.Refusals.{wants}
use Rattle.format.specs.Objects.{Head, stop, past_end, sized}
use Rattle.wire.specs.declared.size.Extent.{Extent}

-- of `len` bytes, h are the size and n are asked for behind them
unfoldable pub extent_at : ℕ → ℕ → ℕ → Result Extent ℕ
unfolding if_lt
extent_at len h n = if_lt (len - h) n (Err (n - (len - h))) (Ok (record { start = h; size = n }))

unfoldable pub long_count : ℕ → ℕ
unfolding if_eq
long_count b = if_eq b 0x80 128 (b - 0x80)

-- whatever the object makes of its contents, and however deep it stands
abbrev pub ExtentIs : List ℕ → Result Extent ℕ → Type 0
ExtentIs s (Err k) = (d : ℕ) (f : ℕ → ℕ → Head) → sized d s f ≡ stop (wants (past_end d) k)
ExtentIs s (Ok e) = ((d : ℕ) (f : ℕ → ℕ → Head) → sized d s f ≡ f e.start e.size) × (e.start + e.size ≤ length s)
