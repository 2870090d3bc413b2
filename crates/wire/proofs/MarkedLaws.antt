-- The head of an SBITSTR that is whole and has its marker. Assumes nothing.
use Prim.Native.Nat.{ℕ, ◌-◌, ◌*◌, ◌%◌, ◌^◌, ◌≤◌}
use mathlib.Core.Path.{◌≡◌, refl, sym}
use mathlib.Core.Logic.{◌≢◌}
use mathlib.Core.List.{List}
use Rattle.std.specs.Prelude.{Ok}
use native.Mathlib.Omega.{arith}
use lib.Count.{count_leading_zeros}
use lib.ListN.{length, take, get_or}
use Rattle.format.specs.declared.Class.TheVariants as C
use Rattle.format.specs.Numbers.{Bytes, val}
use Rattle.format.specs.Objects as O
use Rattle.wire.specs.declared.head.Head.TheVariants.{Sbits}
use Rattle.wire.specs.Heads.{HeadIs, BitsAt, marked_word}
use Rattle.wire.proofs.ClassCases.{sbitstr_class_at}
use Rattle.wire.proofs.HeadLaws.{sbitstr_sbits, by_class}

-- a number moved up by a whole word leaves nothing in it
pushed_out : (v n : ℕ) → n ≡ 0 → v * 2 ^ (64 - n) % 2 ^ 64 ≡ 0
pushed_out v n e = rw e (omega arith)

pub bits_at : (b n : ℕ) (s : List ℕ) → Bytes s → 0xf0 ≤ b → b ≤ 0xf7 → O.following b ≤ length s → get_or s 0 0 ≢ 0 → n ≡ 8 * O.following b - 1 - count_leading_zeros 8 (get_or s 0 0) → BitsAt b s n
unfolding marked_word
bits_at b n s hb lo hi hl z en =
    let h : (d : ℕ) → HeadIs s (Ok (Sbits n (val (take (O.following b) s) * 2 ^ (64 - n) % 2 ^ 64) (O.following b))) (O.head_of d b s)
    = λ d.
    by_class d b s (Ok (Sbits n (val (take (O.following b) s) * 2 ^ (64 - n) % 2 ^ 64) (O.following b))) C.Sbitstr (sym (sbitstr_class_at b lo (omega arith)))
    (sbitstr_sbits d b (O.following b) n (val (take (O.following b) s)) _ s hb refl hl z en refl (pushed_out (val (take (O.following b) s)) n) (λ p. refl)) in
    record { head = h; within = hl; few = (h 0).2.few }
