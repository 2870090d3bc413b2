-- `short_string` meets its contract: only a STRUC, USTRUC or STRING is tried. Assumes nothing.
use Rattle.std.proofs.Common.{◌≡◌, ◌+◌, true, sym, ◌∙◌, arith}
use Rattle.format.specs.Objects.{characters}
use Rattle.format.specs.Messages.{says}
use Rattle.wire.specs.Heads.{wrap_by}
use Rattle.fill.specs.Containers.{is_struc}
use Rattle.fill.specs.Contents.{inside_of}
use Rattle.fill.proofs.TextLaws.{bytes_fit, bytes_tried}
use Rattle.fill.proofs.TryLaws.{string_told, inside_raw, inside_run, inside_low, like_none, room_as, tried_as, tried_not}
use Rattle.fill.proofs.tries.short_string.Goals as goal
use Rattle.fill.proofs.tries.short_string.Goals.{Else-not-is_group, Joined-then-is, then-is-via-then-is, then-is-via-else-is+then-all_chars}

-- a STRUC, USTRUC or STRING
struc_at : (c : Else-not-is_group) → is_struc (wrap_by c.args.b) ≡ true
struc_at c = sym (rw c.wrap_by.ensures at c.is_group.ensures) ∙ c.if-not-is_group.false

-- each byte is a character
bytes_at : (c : Joined-then-is) → inside_of c.args.depth c.args.b c.args.c.now ≡ says (characters c.args.c.now)
bytes_at c =
    let e = sym (string_told _ _ c.is.ensures) in
    elim c.then-is.branch [
      | then-is-via-then-is w ↦ inside_raw _ _ _ (e ∙ w.if-is.true)
      | then-is-via-else-is+then-all_chars w ↦ inside_low _ _ _ (e ∙ w.if-is.false) (w.all_chars.ensures w.if-all_chars.true)
    ]

pub put_bytes-requires : goal.put_bytes-requires
put_bytes-requires c =
    let k = goal.at.put_bytes-requires c in
    bytes_fit _ _ (bytes_at k.Joined-then-is) (room_as _ (struc_at k.Else-not-is_group) c.requires.1)

pub returns-then-is : goal.returns-then-is
returns-then-is c =
    let k = goal.at.returns-then-is c in
    tried_as _ (struc_at k.Else-not-is_group) (bytes_tried _ _ (bytes_at k.Joined-then-is) c.put_bytes.ensures)

pub try_string-requires : goal.try_string-requires
try_string-requires c =
    let p = c.requires in
    let r = inside_run c.args.depth c.args.b c.args.c.now (sym (string_told _ _ c.is.ensures) ∙ c.if-is.false) in
    (omega (arith, p.0), rw (← r) (room_as _ (struc_at (goal.at.try_string-requires c).Else-not-is_group) p.1))

pub returns-then-text_like : goal.returns-then-text_like
returns-then-text_like c =
    let r = inside_run c.args.depth c.args.b c.args.c.now (sym (string_told _ _ c.is.ensures) ∙ c.if-is.false) in
    tried_as _ (struc_at (goal.at.returns-then-text_like c).Else-not-is_group) (rw (← r) at c.try_string.ensures)

pub returns-then-not-is_group : goal.returns-then-not-is_group
returns-then-not-is_group c = tried_not _ (sym (rw c.wrap_by.ensures at c.is_group.ensures) ∙ c.if-not-is_group.true) _

pub returns : goal.returns
returns c =
    let r = inside_run c.args.depth c.args.b c.args.c.now (sym (string_told _ _ c.is.ensures) ∙ c.if-is.false) in
    tried_as _ (struc_at (goal.at.returns c).Else-not-is_group) (rw (← r) at (like_none (c.args.depth + 1) c.args.c.now c.text_like.ensures c.if-text_like.false c.args.place.base c.args.place.gap c.args.table.now))
