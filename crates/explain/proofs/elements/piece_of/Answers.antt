-- `piece_of` meets its contract, head by head. Assumes nothing.
use mathlib.Core.Path.{sym, subst}
use Rattle.std.specs.Prelude.{Ok}
use Rattle.format.specs.declared.kinds.Kind.TheVariants.{Struc}
use Rattle.explain.specs.declared.elements.Piece.TheVariants.{Item}
use Rattle.explain.specs.Told.{PieceIs}
use Rattle.explain.proofs.Heads.{piece_row, piece_bits, piece_text, piece_open}
use Rattle.explain.proofs.elements.piece_of.Goals as goal

pub returns-in-Row : goal.returns-in-Row
returns-in-Row c = piece_row _ _ _ c.in_ok-head.head c.in_ok-head.ensures _ _ _ c.in-Row.is

pub returns-in-Sbits : goal.returns-in-Sbits
returns-in-Sbits c = piece_bits _ _ _ c.in_ok-head.head c.in_ok-head.ensures _ c.in-Sbits.is

pub returns-in-Sbits-2 : goal.returns-in-Sbits-2
returns-in-Sbits-2 c = piece_bits _ _ _ c.in_ok-head.head c.in_ok-head.ensures _ c.in-Sbits.is

pub returns-in-Text : goal.returns-in-Text
returns-in-Text c =
    subst (λ u. PieceIs c.args.depth c.args.b c.args.s.now (Ok (Item Struc u))) (sym c.end.ensures) (piece_text _ _ _ c.in_ok-head.head c.in_ok-head.ensures _ c.in-Text.is)

pub returns-in-Open : goal.returns-in-Open
returns-in-Open c =
    subst (λ p. PieceIs c.args.depth c.args.b c.args.s.now (Ok p)) (sym c.wrapped.ensures) (piece_open _ _ _ c.in_ok-head.head c.in_ok-head.ensures _ _ c.in-Open.is)
