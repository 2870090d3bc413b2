-- What the lines are told of a table: its items, and how much room their text needs.
use Rattle.std.specs.Prelude.{ℕ, ◌≤◌, List, [], length}
use Rattle.std.proofs.Math.Option.{Option, none, some}
use Rattle.format.specs.Choice.{if_lt}
use Rattle.format.specs.Items.{Items}
use Rattle.format.specs.Tables.{words_needed}
use Rattle.format.specs.Normal.{depth}
use Rattle.format.specs.Answers.{reading}
use Rattle.listing.specs.Lines.{accepted_text}

-- words that are a table, with at most sixteen containers inside one another, in 8,000 words: those of every accepted message
abbrev pub Listable : Option Items → Type 0
Listable none = ⊥
Listable (some xs) = (depth xs ≤ 16) × (words_needed xs ≤ 8000)

unfoldable pub accepted_of : Option Items → List ℕ
unfolding accepted_text
accepted_of none = []
accepted_of (some xs) = accepted_text xs

-- no text is longer
abbrev pub text_limit : ℕ
text_limit = 524288

-- the table after a message is listed: as lent, or as reading leaves it
unfoldable pub listed_table : List ℕ → List ℕ → List ℕ
unfolding if_lt reading
listed_table m t = if_lt 32768 (length m) t (reading m t).table
