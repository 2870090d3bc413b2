-- What is known of a table before there is an output, in the order 12, 13, 14; and writing's answer as the code gives it.
use Rattle.std.proofs.Math.Option.{Option, none, some}
use Rattle.std.specs.Prelude.{List, ℕ, length, Result, Ok, Err}
use Rattle.format.specs.declared.fault.Refusal.{Refusal}
use Rattle.format.specs.declared.fault.Refusal.TheVariants.{NotATable, TooNested, NormalLong}
use Rattle.writer.specs.declared.Unwritten.{Unwritten}
use Rattle.writer.specs.declared.Unwritten.TheVariants.{Refused, Short}
use Rattle.format.specs.Choice.{if_lt}
use Rattle.format.specs.Refusals.{byte_limit, depth_limit, output_short}
use Rattle.format.specs.Refused.{number_of}
use Rattle.format.specs.Items.{Items}
use Rattle.format.specs.Tables.{items_of}
use Rattle.format.specs.Normal.{normal, depth}
use Rattle.format.specs.Answers.{Writing, unwritten}

-- the length of the normal form, or why there is none
unfoldable pub verdict_of : Option Items → Result ℕ Refusal
unfolding if_lt normal depth
verdict_of none = Err NotATable
verdict_of (some xs) =
    if_lt depth_limit (depth xs) (Err TooNested)
    (if_lt byte_limit (length (normal xs)) (Err NormalLong) (Ok (length (normal xs))))

unfoldable pub verdict : List ℕ → Result ℕ Refusal
unfolding verdict_of items_of
verdict w = verdict_of (items_of w)

-- the number, the length written or needed, and the output
abbrev pub written : Result ℕ Unwritten → List ℕ → Writing
written (Ok n) o = unwritten 0 n o
written (Err (Refused r)) o = unwritten (number_of r) 0 o
written (Err (Short n)) o = unwritten output_short n o
