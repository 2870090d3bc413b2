-- `size::extent_of` meets its contract. Assumes nothing.
use Prim.Native.Nat.{◌+◌, ◌-◌, min}
use mathlib.Core.Path.{◌≡◌, refl, sym, subst}
use native.Mathlib.Omega.{arith}
use lib.ListN.{length, take, drop, get_or}
use Rattle.format.specs.Numbers.{val}
use Rattle.wire.specs.Extents.{ExtentIs}
use Rattle.wire.proofs.Sizes.{extent_cut, extent_is, size_none, size_zero, size_short, size_long, size_long_cut}
use Rattle.wire.proofs.size.extent_of.Goals as goal

pub returns-in_default : goal.returns-in_default
returns-in_default c = extent_cut c.args.s.now 1 (size_none c.args.s.now (omega arith))

pub returns-then-b-eq0 : goal.returns-then-b-eq0
returns-then-b-eq0 c =
    let s = c.args.s.now in
    subst (ExtentIs s) (sym c.extent_at.ensures)
    (extent_is s 1 128 128 (size_zero s (omega arith) c.if-b-eq0.true) refl (omega arith) (omega arith))

pub returns-then-b-lt128 : goal.returns-then-b-lt128
returns-then-b-lt128 c =
    let s = c.args.s.now in
    let e : c.from.result ≡ min (get_or s 0 0) 131072 = omega arith in
    subst (ExtentIs s) (sym c.extent_at-then-b-lt128.ensures)
    (extent_is s 1 (get_or s 0 0) c.from.result (size_short s (omega arith) c.if-b-lt128.true c.if-b-eq0.false) e (omega arith) (omega arith))

pub returns-then-there-k : goal.returns-then-there-k
returns-then-there-k c =
    let s = c.args.s.now in
    extent_cut s (c.long_count-k.result - (length s - 1)) (size_long_cut s c.long_count-k.result (omega arith) (omega arith) c.long_count-k.ensures (omega arith))

pub returns : goal.returns
returns c =
    let s = c.args.s.now in
    let k = c.long_count-k.result in
    subst (ExtentIs s) (sym c.extent_at-2.ensures)
    (extent_is s (1 + k) (val (take k (drop 1 s))) c.long_size-n.result
    (size_long s k (omega arith) (omega arith) c.long_count-k.ensures (omega arith)) c.long_size-n.ensures (omega arith) (omega arith))
