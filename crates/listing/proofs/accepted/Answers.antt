-- `listing::accepted` meets its contract: the first line, then the lines of the items, has room and is the text of the table.
-- Assumes nothing.
use mathlib.Core.Path.{◌∙◌}
use native.Mathlib.Omega.{arith}
use Rattle.std.proofs.Common.{rules}
use Rattle.listing.specs.Puts.{Fits}
use Rattle.listing.proofs.Putting.{then, fits_first, fits_next}
use Rattle.listing.proofs.WholeText.{told, TextReady, ready, whole_length, whole_bytes}
use Rattle.listing.proofs.accepted.Goals as goal
use Rattle.listing.proofs.accepted.Goals.{After-new-out}

table_ready : (c : After-new-out) → TextReady c.args.table.now
table_ready c = ready c.args.table.now c.requires.0

fits : (c : After-new-out) → Fits (told c.args.table.now) c.new-out.result
fits c = let s = (table_ready c).short in record { room = rw (c.new-out.ensures.at, c.new-out.ensures.lent) (omega (arith, c.requires.1)) }

pub bounds-table-1 : goal.bounds-table-1
bounds-table-1 c = let y = ready _ c.requires.0 in omega (arith, y.four)

pub decimal-requires : goal.decimal-requires
decimal-requires c = fits_first _ (fits_next c.text.ensures (fits (goal.at.decimal-requires c).After-new-out))

pub text-requires-2 : goal.text-requires-2
text-requires-2 c = fits_first _ (fits_next c.decimal.ensures (fits_next c.text.ensures (fits (goal.at.text-requires-2 c).After-new-out)))

pub bounds-table-0 : goal.bounds-table-0
bounds-table-0 c = let y = ready _ c.requires.0 in omega (arith, y.four)

pub decimal-requires-2 : goal.decimal-requires-2
decimal-requires-2 c =
    fits_first _ (fits_next c.text-2.ensures (fits_next c.decimal.ensures (fits_next c.text.ensures (fits (goal.at.decimal-requires-2 c).After-new-out))))

pub text-requires-3 : goal.text-requires-3
text-requires-3 c =
    fits_first _ (fits_next c.decimal-2.ensures (fits_next c.text-2.ensures (fits_next c.decimal.ensures (fits_next c.text.ensures
    (fits (goal.at.text-requires-3 c).After-new-out)))))

pub bounds-table-0-2 : goal.bounds-table-0-2
bounds-table-0-2 c = let y = ready _ c.requires.0 in omega (arith, y.four)

pub put_run-requires : goal.put_run-requires
put_run-requires c =
    let y = ready c.args.table.now c.requires.0 in
    record {
      run = (y.run, y.shallow);
      room = fits_next c.text-3.ensures (fits_next c.decimal-2.ensures (fits_next c.text-2.ensures (fits_next c.decimal.ensures (fits_next c.text.ensures
          (fits (goal.at.put_run-requires c).After-new-out)))));
    }

pub returns : goal.returns
returns c =
    let y = ready c.args.table.now c.requires.0 in
    let w = then c.text.ensures (then c.decimal.ensures (then c.text-2.ensures (then c.decimal-2.ensures (then c.text-3.ensures c.put_run.ensures)))) in
    rw y.text (record {
      value = c.length.ensures ∙ whole_length w c.new-out.ensures.at c.new-out.ensures.lent;
      out_after = whole_bytes w c.new-out.ensures.at c.new-out.ensures.lent c.new-out.ensures.same (search rules);
    })
