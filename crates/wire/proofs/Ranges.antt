-- Bytes within a range, more of them at a time. Assumes nothing.
use Prim.Native.Nat.{ℕ, ◌+◌, ◌-◌, ◌≤◌}
use native.Mathlib.Omega.{arith}
use mathlib.Core.Path.{◌≡◌, subst}
use mathlib.Core.List.{List}
use lib.ListN.{length, get_or}
use Rattle.format.proofs.Choices.{split, Each, each}
use Rattle.wire.specs.Ranges.{Between, Ranged, Passed}
use Rattle.wire.specs.WordsAt.{word_at}

pub between_none : (lo hi i : ℕ) (s : List ℕ) → Between lo hi i i s
between_none lo hi i s j p q = absurd (omega arith)

pub between_join : (lo hi i e f : ℕ) (s : List ℕ) → Between lo hi i e s → Between lo hi e f s → Between lo hi i f s
between_join lo hi i e f s v w j p q = split j e (λ l. v j p l) (λ g. w j g q)

pub between_next : (lo hi i e : ℕ) (s : List ℕ) → Between lo hi i e s → lo ≤ get_or s e 0 → get_or s e 0 ≤ hi → Between lo hi i (e + 1) s
between_next lo hi i e s w a b j p q =
    split j e (λ l. w j p l) (λ g. let k : e ≡ j = omega arith in subst (λ m. (lo ≤ get_or s m 0) × (get_or s m 0 ≤ hi)) k (a, b))

pub between_each : (lo hi e n : ℕ) (s : List ℕ) → Each (λ k. (lo ≤ get_or s (e + k) 0) × (get_or s (e + k) 0 ≤ hi)) n → Between lo hi e (e + n) s
between_each lo hi e n s w j p q =
    let k : e + (j - e) ≡ j = omega arith in
    subst (λ m. (lo ≤ get_or s m 0) × (get_or s m 0 ≤ hi)) k (each (λ k. (lo ≤ get_or s (e + k) 0) × (get_or s (e + k) 0 ≤ hi)) n w (j - e) (omega arith))

-- ---- up to a place within the bytes
pub ranged_join : (lo hi i e f : ℕ) (s : List ℕ) → Ranged lo hi i e s → e ≤ f → f ≤ length s → Between lo hi e f s → Ranged lo hi i f s
ranged_join lo hi i e f s v p q w = (omega (arith, v.0), q, between_join lo hi i e f s v.2 w)

-- ---- eight at a time
module _ (P : ℕ → Type 0) (i e : ℕ) (s : List ℕ) (v : Passed P i e s) where
  pub passed_next : e + 8 ≤ length s → P (word_at e s) → Passed P i (e + 8) s
  passed_next h a =
      (omega (arith, v.0), h, λ j p q. split j e (λ l. v.2 j p l) (λ g. (e, g, q, h, a)))
