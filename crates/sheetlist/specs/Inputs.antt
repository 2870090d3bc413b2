-- What the contracts of the input's reading cite. Assumes nothing.
use Rattle.std.specs.Prelude.{ℕ, zero, suc, ◌+◌, min, Option, Some, None, Result, Ok, Err}

-- so many bytes came after d others; none is the end
abbrev pub came : ℕ → ℕ → Option ℕ
came d zero = None
came d (suc k) = Some (d + suc k)

-- what the answer of a read into n bytes says, d bytes having come before: an error is a failure, whatever came
abbrev pub stepped : {E : Type 0} → ℕ → Result ℕ E → ℕ → Result (Option ℕ) E
stepped d (Ok k) n = Ok (came d (min k n))
stepped d (Err e) n = Err e
