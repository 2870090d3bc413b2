-- `listing::output::Output::decimal` meets its contract: the digits from `i` on stand already, and the rest are those of what is left.
-- Assumes nothing.
use Prim.Native.Nat.{◌+◌, ◌-◌}
use mathlib.Core.Path.{◌≡◌, refl, sym, ap, ◌∙◌}
use native.Mathlib.Omega.{arith}
use lib.ListN.{length-set}
use Rattle.listing.specs.Lines.{decimal}
use Rattle.format.specs.Lent.{over_at}
use Rattle.format.proofs.Over.{at_none}
use Rattle.listing.proofs.Decimals.{last_digits, all_digits, digit_turn}
use Rattle.listing.proofs.output.Output.decimal.Goals as goal

pub loop-i-init : goal.loop-i-init
loop-i-init c =
    let e : c.args.self.now.at + c.digits.result - c.args.self.now.at ≡ c.digits.result = omega arith in
    record {
      at = refl;
      same = refl;
      size = refl;
      end = omega (arith, c.digits.ensures);
      digits = rw e (ap (λ l. over_at c.args.self.now.at l c.args.self.now.lent.now) (sym (all_digits c.digits.result c.args.n c.digits.ensures)));
    }

pub loop-i-preserved : goal.loop-i-preserved
loop-i-preserved c =
    record {
      at = c.loop-i.invariant.at;
      same = c.loop-i.invariant.same;
      size = simp length-set c.loop-i.invariant.size;
      end = c.loop-i.invariant.end;
      digits = c.loop-i.invariant.digits ∙ digit_turn c.loop-i.self.at c.loop-i.i c.loop-i.x c.loop-i.self.lent.now (omega arith) (omega arith);
    }

pub returns : goal.returns
unfolding last_digits
returns c =
    let p = c.loop-i.self.at in
    let z : c.loop-i.i - p ≡ 0 = omega arith in
    let d : over_at p (decimal c.args.n) c.args.self.now.lent.now ≡ over_at p (last_digits 0 c.loop-i.x) c.loop-i.self.lent.now = rw z at c.loop-i.invariant.digits in
    record {
      same = c.loop-i.invariant.same;
      wrote = record { room = omega arith; next = omega arith; is = rw (sym c.loop-i.invariant.at) (sym (d ∙ at_none p c.loop-i.self.lent.now)) };
    }
