-- `listing::refused` meets its contract: the line in its five parts. Assumes nothing.
use mathlib.Core.Path.{◌∙◌}
use native.Mathlib.Omega.{arith}
use Rattle.std.proofs.Common.{rules}
use Rattle.listing.specs.Puts.{Fits}
use Rattle.listing.specs.Lines.{refused_text}
use Rattle.listing.proofs.Putting.{then, fits_first, fits_next}
use Rattle.listing.proofs.WholeText.{whole_length, whole_bytes, refused_fits}
use Rattle.listing.proofs.refused.Goals as goal
use Rattle.listing.proofs.refused.Goals.{After-new-out}

fits : (c : After-new-out) → Fits (refused_text c.args.number c.args.place) c.new-out.result
fits c = refused_fits c.args.number c.args.place c.new-out.result (omega arith) (omega arith) c.new-out.ensures.at (rw c.new-out.ensures.lent c.requires)

pub decimal-requires : goal.decimal-requires
unfolding refused_text
decimal-requires c = fits_first _ (fits_next c.text.ensures (fits (goal.at.decimal-requires c).After-new-out))

pub text-requires-2 : goal.text-requires-2
unfolding refused_text
text-requires-2 c = fits_first _ (fits_next c.decimal.ensures (fits_next c.text.ensures (fits (goal.at.text-requires-2 c).After-new-out)))

pub decimal-requires-2 : goal.decimal-requires-2
unfolding refused_text
decimal-requires-2 c =
    fits_first _ (fits_next c.text-2.ensures (fits_next c.decimal.ensures (fits_next c.text.ensures (fits (goal.at.decimal-requires-2 c).After-new-out))))

pub byte-requires : goal.byte-requires
unfolding refused_text
byte-requires c =
    fits_next c.decimal-2.ensures (fits_next c.text-2.ensures (fits_next c.decimal.ensures (fits_next c.text.ensures (fits (goal.at.byte-requires c).After-new-out))))

pub returns : goal.returns
unfolding refused_text
returns c =
    let w = then c.text.ensures (then c.decimal.ensures (then c.text-2.ensures (then c.decimal-2.ensures c.byte.ensures))) in
    record {
      value = c.length.ensures ∙ whole_length w c.new-out.ensures.at c.new-out.ensures.lent;
      out_after = whole_bytes w c.new-out.ensures.at c.new-out.ensures.lent c.new-out.ensures.same (search rules);
    }
