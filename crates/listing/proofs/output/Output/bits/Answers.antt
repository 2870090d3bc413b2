-- `listing::output::Output::bits` meets its contract. Assumes nothing.
use mathlib.Core.Path.{◌≡◌, refl}
use native.Mathlib.Omega.{arith}
use lib.ListN.{length, take}
use Rattle.format.specs.Bits.{spread}
use Rattle.listing.specs.Lines.{bit_text}
use Rattle.listing.proofs.BitTexts.{chars_length, chars_put}
use Rattle.listing.proofs.output.Output.bits.Goals as goal
use Rattle.listing.proofs.output.Output.bits.Goals.{Start}

count_is : (c : Start) → length (bit_text (take c.args.count (spread 64 c.args.words.now))) ≡ c.args.count
count_is c = chars_length c.args.words.now c.args.count c.requires.enough

pub overflow_add-self : goal.overflow_add-self
overflow_add-self c = let n = count_is (goal.at.overflow_add-self c).Start in let r = c.requires.room.room in omega arith

pub slice_bounds-put_bits-end : goal.slice_bounds-put_bits-end
slice_bounds-put_bits-end c = let n = count_is (goal.at.slice_bounds-put_bits-end c).Start in let r = c.requires.room.room in omega arith

pub returns : goal.returns
returns c =
    let n = count_is (goal.at.returns c).Start in
    let r = c.requires.room.room in
    record {
      same = refl;
      wrote = record {
        room = r;
        next = omega arith;
        is = chars_put c.args.words.now c.args.count c.requires.enough c.args.self.now.at c.args.self.now.lent.now _ r c.put_bits.ensures;
      };
    }
