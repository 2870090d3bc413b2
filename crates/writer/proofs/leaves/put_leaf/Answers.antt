-- `writer::leaves::put_leaf` meets its contract. Assumes nothing.
use Rattle.writer.proofs.LeafForms.{bits_row_kept}
use Rattle.writer.proofs.leaves.put_leaf.Goals as goal

pub invariant_of-put_bits : goal.invariant_of-put_bits
invariant_of-put_bits c =
    let row = c.row-row.ensures in record { kept = bits_row_kept _ c.args.p _ _ _ row.kind row.a row.b c.requires.leaf.0 c.in-2.is }
