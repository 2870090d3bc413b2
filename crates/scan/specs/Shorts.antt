-- Containers and strings whose size is one byte: what they are and what the scan answers, from their contents alone.
use Rattle.std.specs.Prelude.{ℕ, suc, ◌+◌, List, length, Result, Ok, Err}
use Rattle.format.specs.Choice.{if_eq}
use Rattle.format.specs.Refusals.{Fault}
use Rattle.format.specs.Items.{struc, end, group}
use Rattle.format.specs.Objects.{characters}
use Rattle.format.specs.Messages as M
use Rattle.wire.specs.Heads.{wrap_of, wrap_by}
use Rattle.scan.specs.declared.summary.Summary.{Summary}

-- the object of the type-byte C2, C3, C5 or C6 whose contents are c, with d containers around it
unfoldable pub short_object : ℕ → ℕ → List ℕ → M.Object
unfolding if_eq characters wrap_of wrap_by M.around M.reads
short_object d b c = if_eq b 0xc6 (M.got (group struc (characters c) end) (1 + length c)) (M.around (wrap_of (wrap_by b)) 1 (length c) (M.reads (suc d) c))

-- an answer about one item, as one about an object of u bytes past its type-byte
abbrev pub as_object : ℕ → Result Summary Fault → Result (Summary × ℕ) Fault
as_object u (Err f) = Err f
as_object u (Ok a) = Ok (a, u)
