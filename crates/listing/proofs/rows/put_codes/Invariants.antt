use mathlib.Core.Path.{◌≡◌}
use lib.ListN.{drop}
use Rattle.format.specs.Tables.{codes}
use Rattle.table.specs.Rows.{a_at, text_at}
use Rattle.listing.specs.Lines.{codes_column}
use Rattle.listing.proofs.Putting.{Part}
use Rattle.listing.proofs.rows.put_codes.Given as goal

abbrev pub invariant-loop-i : goal.invariant-loop-i
invariant-loop-i l =
    let cs = codes (text_at l.row.table.now l.row.p) in
    record {
      end : l.i-end ≡ a_at l.row.table.now l.row.p;
      part : Part (codes_column cs) (codes_column (drop l.i cs)) l.initial.out l.out;
    }
