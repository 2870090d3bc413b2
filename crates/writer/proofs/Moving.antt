-- Bytes that are moved on, and a container's head before contents that were written first. Assumes nothing.
use mathlib.Core.Path.{◌≡◌, sym, ◌∙◌, ap, ap₂}
use mathlib.Core.List.{List, ◌∷◌, ◌++◌, append_assoc}
use Rattle.std.specs.List.{copy_within}
use Prim.Native.Nat.{ℕ, ◌+◌, ◌-◌, ◌≤◌}
use native.Mathlib.Omega.{arith}
use lib.ListN.{length, take, drop, length-append, length-drop, take-append-drop}
use lib.Seq.{drop_at, drop-drop, take_at, length-take-le}
use Rattle.format.specs.Answers.{over}
use Rattle.format.specs.Lent.{over_at}
use Rattle.format.proofs.Over.{over_self, over_over, over_fronted, at_length, at_as_front}
use Rattle.writer.specs.Measures.{moved}

pub moved_still : (a n k : ℕ) (t : List ℕ) → k ≡ 0 → moved a n k t ≡ t
unfolding moved over_at
moved_still a n k t e = let x : a + k ≡ a = omega arith in rw x (ap (λ z. take a t ++ z) (over_self n (drop a t)) ∙ take-append-drop a t)

-- as the library moves them
pub copied : (a n k i j d : ℕ) (t : List ℕ) → i ≡ a → j ≡ a + n → d ≡ a + k → a + k + n ≤ length t → copy_within t i j d ≡ moved a n k t
unfolding moved over_at over
copied a n k i j d t ei ej ed h =
    let l : length (take n (drop a t)) ≡ n = length-take-le n (drop a t) (omega (arith, length-drop a t)) in
    let m : j - i ≡ n = omega arith in
    ap₂ (λ x y. (take x t ++ take (j - i) (drop y t)) ++ drop (x + (j - i)) t) ed ei
    ∙ ap (λ x. (take (a + k) t ++ take x (drop a t)) ++ drop (a + k + x) t) m
    ∙ append_assoc (take (a + k) t) (take n (drop a t)) (drop (a + k + n) t)
    ∙ ap (λ x. take (a + k) t ++ (take n (drop a t) ++ x)) (sym (drop-drop n (a + k) t) ∙ ap (λ x. drop x (drop (a + k) t)) (sym l))

pub still : (a n k : ℕ) (t : List ℕ) → k ≡ 0 → t ≡ moved a n k t
still a n k t e = sym (moved_still a n k t e)

pub ruleset shifting = (copied, still)

-- contents were written behind room for g bytes of size, are moved on for h of them, and get their head
pub container_written : (t c s size : List ℕ) (b g h : ℕ) → h ≡ length size → g ≤ h → 1 + h + length c ≤ length t → s ≡ over_at (1 + g) c t →
    over (b ∷ size) (moved (1 + g) (length c) (h - g) s) ≡ over (b ∷ (size ++ c)) t
unfolding moved
container_written t c s size b g h eh l r es =
    let n : ℕ = length c in
    let x : 1 + g + (h - g) ≡ 1 + h = omega arith in
    let y : take n (drop (1 + g) s) ≡ c =
    ap (λ z. take n (drop (1 + g) z)) es ∙ (unfold over_at over in ap (take n) (drop_at (take (1 + g) t) _ (1 + g) (length-take-le (1 + g) t (omega arith))) ∙ take_at c _ n (omega arith)) in
    let k : length s ≡ length t = ap length es ∙ at_length (1 + g) c t (omega arith) in
    let j : length (take (1 + h) s) ≡ 1 + h = length-take-le (1 + h) s (omega arith) in
    let i : length (take (1 + g) t) ≡ 1 + g = length-take-le (1 + g) t (omega arith) in
    ap (over (b ∷ size)) (ap₂ (λ p z. over_at p z s) x y ∙ at_as_front (1 + h) c s (omega arith))
    ∙ over_fronted (take (1 + h) s) (b ∷ size) c s (omega arith)
    ∙ ap (over (b ∷ (size ++ c))) (es ∙ at_as_front (1 + g) c t (omega arith))
    ∙ over_over (take (1 + g) t ++ c) (b ∷ (size ++ c)) t (omega (arith, length-append (take (1 + g) t) c, length-append size c))
