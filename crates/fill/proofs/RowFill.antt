-- Rows without data words: one of them stored again and again, every row so far being the first, and any copied as plain words.
-- Assumes nothing.
use Rattle.std.proofs.Common.{◌≡◌, ℕ, zero, suc, ◌+◌, ◌*◌, ◌^◌, ◌<◌, ◌≤◌, List, [], ◌∷◌, ◌++◌, length, get_or, take, set, sym, refl, ap, ◌∙◌, ap₂, mod-eq_of_lt, mul-zero, mul-one, arith, length-take-le}
use Rattle.format.proofs.Choices.{by_pick}
use Rattle.format.specs.Answers.{over}
use Rattle.fill.specs.Copies.{in_data, shift, rebased, copies, again}
use Rattle.format.proofs.Over.{over_length, over_next, set_three}
use Rattle.fill.proofs.CopyLaws.{copies_length}
use Rattle.fill.proofs.Doubling.{copies_add, Doubled, doubled_start}

-- with no data words before it, a row's last word stays
stays : (k b : ℕ) → b < 2 ^ 64 → shift 0 k b ≡ b
unfolding shift
stays k b h =
    let z : b + 0 ≡ b = omega arith in
    by_pick (λ (x : ℕ). x ≡ b) (in_data k) (λ t. rw z (mod-eq_of_lt h)) (λ t. refl)

-- the first row, once more
row_again : (j : ℕ) (t : List ℕ) → 3 ≤ length t → get_or t 2 0 < 2 ^ 64 → rebased (j * 0) (copies 0 1 (take (3 * 1) t)) ≡ get_or t 0 0 ∷ get_or t 1 0 ∷ get_or t 2 0 ∷ []
unfolding rebased copies
row_again j [] h s = absurd (omega arith)
row_again j (x ∷ []) h s = absurd (omega arith)
row_again j (x ∷ y ∷ []) h s = absurd (omega arith)
row_again j (x ∷ y ∷ z ∷ t) h s = rw (mul-zero j) (ap (λ b. x ∷ y ∷ b ∷ []) (stays x z s))

-- the filling loop's invariant, with j rows there; these are the words of the first
pub record Filling (k v0 v1 v2 : ℕ) (t₀ t : List ℕ) (j : ℕ) : Type 0 where
  pub copied : Doubled 0 1 k t₀ t j
  pub small : get_or t₀ 2 0 < 2 ^ 64
  pub first0 : v0 ≡ get_or t₀ 0 0
  pub first1 : v1 ≡ get_or t₀ 1 0
  pub first2 : v2 ≡ get_or t₀ 2 0

pub filling_start : (k : ℕ) (t : List ℕ) → 0 < k → get_or t 2 0 < 2 ^ 64 → Filling k (get_or t 0 0) (get_or t 1 0) (get_or t 2 0) t t 1
filling_start k t z s = record { copied = doubled_start 0 1 k t z; small = s; first0 = refl; first1 = refl; first2 = refl }

pub filling_step : (k v0 v1 v2 : ℕ) (t₀ t : List ℕ) (j : ℕ) → 3 * (k * 1) ≤ length t₀ → j < k → Filling k v0 v1 v2 t₀ t j
    → Filling k v0 v1 v2 t₀ (set (set (set t (3 * j) v0) (3 * j + 1) v1) (3 * j + 2) v2) (j + 1)
filling_step k v0 v1 v2 t₀ t j room h f =
    let c = f.copied in
    let some = c.some in
    let long = c.long in
    let l : List ℕ = take (3 * 1) t₀ in
    let ll : length l ≡ 3 * 1 = length-take-le (3 * 1) t₀ (omega arith) in
    let lj : length (copies 0 j l) ≡ 3 * (j * 1) = copies_length 0 1 j l ll in
    let ls : length (copies 0 (j + 1) l) ≡ 3 * ((j + 1) * 1) = copies_length 0 1 (j + 1) l ll in
    let u : List ℕ = set (set (set t (3 * j) v0) (3 * j + 1) v1) (3 * j + 2) v2 in
    let row : v0 ∷ v1 ∷ v2 ∷ [] ≡ rebased (j * 0) (copies 0 1 l) =
    ap₂ (λ x y. x ∷ v1 ∷ y ∷ []) f.first0 f.first2 ∙ ap (λ x. get_or t₀ 0 0 ∷ x ∷ get_or t₀ 2 0 ∷ []) f.first1 ∙ sym (row_again j t₀ (omega arith) f.small) in
    let tb : u ≡ over (copies 0 (j + 1) l) t₀ =
    set_three (3 * j) t v0 v1 v2 (omega arith)
    ∙ over_next (copies 0 j l) (v0 ∷ v1 ∷ v2 ∷ []) t₀ t (3 * j) c.table_is (omega (arith, mul-one j))
    ∙ ap (λ z. over z t₀) (ap (λ z. copies 0 j l ++ z) row ∙ sym (copies_add 0 1 j 1 l c.some ll)) in
    record {
      copied = record { some = omega arith; upto = omega arith; long = ap length tb ∙ over_length (copies 0 (j + 1) l) t₀ (omega (arith, mul-one (j + 1))); table_is = tb };
      small = f.small;
      first0 = f.first0;
      first1 = f.first1;
      first2 = f.first2;
    }

-- ---- rows as plain words
abbrev Small : List ℕ → Type 0
Small l = (i : ℕ) → get_or l i 0 < 2 ^ 64

small_take : (n : ℕ) (l : List ℕ) → Small l → Small (take n l)
small_take zero l s i = omega arith
small_take (suc n) [] s i = omega arith
small_take (suc n) (x ∷ l) s zero = s 0
small_take (suc n) (x ∷ l) s (suc i) = small_take n l (λ j. s (suc j)) i

rebased_none : (l : List ℕ) → Small l → rebased 0 l ≡ l
unfolding rebased
rebased_none [] s = refl
rebased_none (k ∷ []) s = refl
rebased_none (k ∷ a ∷ []) s = refl
rebased_none (k ∷ a ∷ b ∷ l) s = ap₂ (λ x y. k ∷ a ∷ x ∷ y) (stays k b (s 2)) (rebased_none l (λ j. s (suc (suc (suc j)))))

copies_none : (k : ℕ) (l : List ℕ) → Small l → copies 0 k l ≡ again k l
unfolding copies again
copies_none zero l s = refl
copies_none (suc k) l s = ap (λ x. l ++ x) (ap (copies 0 k) (rebased_none l s) ∙ copies_none k l s)

pub plain_goal : (w r k : ℕ) (t u : List ℕ) → w ≡ 0 → ((i : ℕ) → get_or t i 0 < 2 ^ 64) → u ≡ over (again k (take (3 * r) t)) t → u ≡ over (copies w k (take (3 * r) t)) t
plain_goal w r k t u e s h = rw e (h ∙ ap (λ l. over l t) (sym (copies_none k (take (3 * r) t) (small_take (3 * r) t s))))
