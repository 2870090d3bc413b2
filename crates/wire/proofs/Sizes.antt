-- What the code finds at a size field is what its meaning says. Assumes nothing.
use Prim.Native.Nat.{ℕ, ◌+◌, ◌-◌, ◌*◌, ◌≤◌, ◌<◌, min}
use mathlib.Core.Path.{◌≡◌, refl, sym, ap, ◌∙◌, subst}
use mathlib.Core.Logic.{◌≢◌}
use mathlib.Core.List.{List, [], ◌∷◌}
use native.Mathlib.Omega.{arith}
use native.Mathlib.Numerals.{add-one}
use lib.ListN.{length, take, drop, get_or}
use Rattle.std.specs.Prelude.{Err}
use Rattle.format.specs.Numbers.{val}
use Rattle.format.specs.Refusals.{wants}
use Rattle.format.specs.Objects.{Head, stop, past_end, cut, size, long_size, size_of, within, sized}
use Rattle.format.proofs.Choices.{if_lt_yes, if_lt_no, if_eq_yes, if_eq_no, split}
use Rattle.format.proofs.Digits.{val_take_suc}
use Rattle.format.proofs.Faults.{wants_alike}
use Rattle.wire.specs.Extents.{extent_at, long_count, ExtentIs}

pub extent_cut : (s : List ℕ) (k : ℕ) → size_of s ≡ cut k → ExtentIs s (Err k)
unfolding sized within
extent_cut s k e = λ d f. rw e refl

-- of a size that is capped at twice what any message holds, as many bytes are missing as of the size itself
missing_capped : (d n m l : ℕ) → m ≡ min n 131072 → l ≤ 65536 → stop (wants (past_end d) (n - l)) ≡ stop (wants (past_end d) (m - l))
missing_capped d n m l e h = ap stop (wants_alike (past_end d) (n - l) (m - l) (omega arith))

-- and it is as good as the size itself
pub extent_is : (s : List ℕ) (h n m : ℕ) → size_of s ≡ size h n → m ≡ min n 131072 → h ≤ length s → length s ≤ 65536 → ExtentIs s (extent_at (length s) h m)
unfolding extent_at sized within
extent_is s h n m e em hh hl =
    split (length s - h) m
    (λ l. rw (if_lt_yes (length s - h) m) (λ d f. rw e (if_lt_yes (length s - h) n _ _ (omega arith) ∙ missing_capped d n m (length s - h) em (omega arith))))
    (λ g.
    let en : m ≡ n = omega arith in
    rw (if_lt_no (length s - h) m)
    (subst (λ x. ((d : ℕ) (f : ℕ → ℕ → Head) → within d s f (size_of s) ≡ f h x) × (h + x ≤ length s)) (sym en)
    (λ d f. rw e (if_lt_no (length s - h) n _ _ (omega arith)), omega arith)))

pub size_none : (s : List ℕ) → length s ≡ 0 → size_of s ≡ cut 1
unfolding size_of
size_none [] h = refl
size_none (b ∷ s) h = absurd (omega arith)

pub size_zero : (s : List ℕ) → 0 < length s → get_or s 0 0 ≡ 0 → size_of s ≡ size 1 128
unfolding size_of
size_zero [] h e = absurd (omega arith)
size_zero (b ∷ s) h e = let l : b < 128 = omega arith in rw (if_lt_yes b 128, if_eq_yes b 0) refl

pub size_short : (s : List ℕ) → 0 < length s → get_or s 0 0 < 128 → get_or s 0 0 ≢ 0 → size_of s ≡ size 1 (get_or s 0 0)
unfolding size_of
size_short [] h l e = absurd (omega arith)
size_short (b ∷ s) h l e = rw (if_lt_yes b 128, if_eq_no b 0) refl

pub size_long : (s : List ℕ) (k : ℕ) → 0 < length s → 128 ≤ get_or s 0 0 → k ≡ long_count (get_or s 0 0) → k ≤ length s - 1
    → size_of s ≡ size (1 + k) (val (take k (drop 1 s)))
unfolding size_of long_count long_size
size_long [] k h g e l = absurd (omega arith)
size_long (b ∷ s) k h g e l = let j : k ≤ length s = omega arith in rw (if_lt_no b 128, ← e, if_lt_no (length s) k) refl

pub size_long_cut : (s : List ℕ) (k : ℕ) → 0 < length s → 128 ≤ get_or s 0 0 → k ≡ long_count (get_or s 0 0) → length s - 1 < k
    → size_of s ≡ cut (k - (length s - 1))
unfolding size_of long_count long_size
size_long_cut [] k h g e l = absurd (omega arith)
size_long_cut (b ∷ s) k h g e l = let j : length s < k = omega arith in rw (if_lt_no b 128, ← e, if_lt_yes (length s) k) (ap cut (omega arith))

-- one size byte more of those in p
pub size_step : (p : List ℕ) (i n b : ℕ) → i < length p → n ≡ min (val (take i p)) 131072 → b ≡ get_or p i 0 → min (n * 256 + b) 131072 ≡ min (val (take (i + 1) p)) 131072
size_step p i n b h en eb = rw (add-one i, val_take_suc p i h) (omega arith)
