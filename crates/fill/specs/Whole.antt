-- The whole table of a message.
use Rattle.std.specs.Prelude.{◌≡◌, ℕ, ◌≤◌, List, ◌++◌, length}
use Rattle.format.specs.Messages.{Outcome, refused, says}
use Rattle.format.specs.Refusals.{row_limit, word_limit}
use Rattle.format.specs.Tables.{rows, count, data_words, row_words, table_of, words_needed}
use Rattle.format.specs.Answers.{over}
use Rattle.format.specs.Lent.{over_at}

-- accepted, with so many rows and data words, within the limits, and the table is long enough
unfoldable pub Roomy : Outcome → ℕ → ℕ → ℕ → Type 0
unfolding rows data_words words_needed
Roomy (refused f) r w len = ⊥
Roomy (says xs) r w len =
    (r ≡ rows xs) × (w ≡ length (data_words xs)) × (rows xs ≤ row_limit) × (length (data_words xs) ≤ word_limit) × (words_needed xs ≤ len)

-- rows and data words behind the header, and how many items are outermost
unfoldable pub ItemsPut : Outcome → List ℕ → List ℕ → ℕ → Type 0
unfolding count row_words data_words over_at
ItemsPut (refused f) t t' n = Unit {0}
ItemsPut (says xs) t t' n = (n ≡ count xs) × (t' ≡ over_at 4 (row_words 0 xs ++ data_words xs) t)

-- the table lent, afterwards
unfoldable pub laid_out : Outcome → List ℕ → List ℕ
unfolding table_of over
laid_out (refused f) t = t
laid_out (says xs) t = over (table_of xs) t
