-- `list_sheet` meets its contract. Assumes nothing.
use Rattle.std.proofs.Math.ListN.{replicate}
use Rattle.std.proofs.lemmas.List.{length-replicate}
use Rattle.std.proofs.Common.{ℕ, ◌≤◌, ◌≡◌, sym, ap, List, length, drop, arith, length-append, length-take-le}
use Rattle.format.specs.Answers.{over}
use Rattle.listing.specs.Lines.{listing}
use Rattle.sheetlist.proofs.list_sheet.Goals as goal

-- zeros are as long as they are many
zeros_long : (n : ℕ) → n ≤ length (replicate {A = ℕ} n 0)
zeros_long n = omega (arith, length-replicate {A = ℕ} n 0)

-- a text that was laid over a buffer lies within it
text_within : (l t u : List ℕ) (r : ℕ) → r ≡ length l → u ≡ over l t → r ≤ length u
unfolding over
text_within l t u r e o = omega (arith, e, ap length o, length-append l (drop (length l) t))

pub slice_bounds-list-end-2 : goal.slice_bounds-list-end-2
slice_bounds-list-end-2 g c = sym (length-replicate {A = ℕ} 524288 0)

pub list-length-requires : goal.list-length-requires
list-length-requires g c = (length-replicate {A = ℕ} 8000 0, zeros_long 524288)

pub slice_bounds-text-end : goal.slice_bounds-text-end
slice_bounds-text-end g c =
    let l = c.list-length in text_within (listing _) _ l.new.out l.result l.ensures.value l.ensures.out_after

pub slice_bounds-write_all-end : goal.slice_bounds-write_all-end
slice_bounds-write_all-end g c =
    let l = c.list-length in
    sym (length-take-le l.result l.new.out (text_within (listing _) _ l.new.out l.result l.ensures.value l.ensures.out_after))
