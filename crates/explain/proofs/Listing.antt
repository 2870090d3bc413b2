-- Places put into the lent list, one after another. Assumes nothing.
use Prim.Native.Nat.{ℕ, ◌+◌, ◌<◌}
use native.Mathlib.Omega.{arith}
use native.Mathlib.Numerals.{add-one}
use mathlib.Core.Path.{◌≡◌, sym, ap, ◌∙◌}
use mathlib.Core.List.{List}
use lib.ListN.{length, take, get_or, set}
use lib.Seq.{take-suc, length-take-le}
use Rattle.format.specs.Answers.{over}
use Rattle.format.proofs.Over.{at_front, set_next}

pub place_next : (trail t u : List ℕ) (i : ℕ) → i < length trail → i < length t → u ≡ over (take i trail) t → set u i (get_or trail i 0) ≡ over (take (i + 1) trail) t
place_next trail t u i h l e =
    let v : ℕ = get_or trail i 0 in
    let k : length (take i trail) ≡ i = length-take-le i trail (omega arith) in
    let j : i ≡ 0 + length (take i trail) = omega arith in
    ap (λ n. set u n v) j ∙ set_next 0 v (take i trail) t u (e ∙ sym (at_front (take i trail) t)) (omega arith) ∙ at_front _ t
    ∙ ap (λ p. over p t) (sym (ap (λ n. take n trail) (add-one i) ∙ take-suc trail i 0 h))
