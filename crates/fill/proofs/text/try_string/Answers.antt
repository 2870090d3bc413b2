-- `try_string` meets its contract: contents that are a string's are laid out, and of others nothing is. Assumes nothing.
use Rattle.std.proofs.Common.{◌≡◌, false, subst}
use Rattle.format.specs.Objects.{characters}
use Rattle.format.specs.Messages.{says}
use Rattle.wire.specs.Ranges.{Between}
use Rattle.fill.specs.Texts.{contents_say}
use Rattle.fill.proofs.TextLaws.{low_said, bytes_fit, bytes_tried, run_fits, run_none}
use Rattle.fill.proofs.text.try_string.Goals as goal
use Rattle.fill.proofs.text.try_string.Goals.{Then-chars_end-c}

-- each byte is below 80 hex
bytes_at : (c : Then-chars_end-c) → contents_say false c.args.depth c.args.c.now ≡ says (characters c.args.c.now)
bytes_at c = low_said _ _ (subst (λ k. Between 0 0x7f 0 k c.args.c.now) c.if-chars_end-c.true c.chars_end.ensures.2)

pub put_bytes-words-requires : goal.put_bytes-words-requires
put_bytes-words-requires c = bytes_fit _ _ (bytes_at (goal.at.put_bytes-words-requires c).Then-chars_end-c) c.requires.1

pub returns-then-chars_end-c : goal.returns-then-chars_end-c
returns-then-chars_end-c c = bytes_tried _ _ (bytes_at (goal.at.returns-then-chars_end-c c).Then-chars_end-c) c.put_bytes-words.ensures

pub put_run-requires : goal.put_run-requires
put_run-requires c = (c.requires.0, run_fits _ _ c.requires.1 (rw c.if-only_chars.true at c.only_chars.ensures))

pub returns-else-only_chars : goal.returns-else-only_chars
returns-else-only_chars c = run_none _ _ (rw c.if-only_chars.false at c.only_chars.ensures)
