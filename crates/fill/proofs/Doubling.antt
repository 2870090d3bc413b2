-- Copies doubled: some copies and then some more are all of them, and what a round of copying does. Assumes nothing.
use Rattle.std.proofs.Common.{◌≡◌, ℕ, zero, suc, ◌+◌, ◌-◌, ◌*◌, ◌/◌, ◌%◌, ◌^◌, ◌<◌, ◌≤◌, Bool, true, false, List, [], ◌∷◌, ◌++◌, length, get_or, take, set, sym, refl, ap, ◌∙◌, ap₂, append_assoc, append-nil, mul-le-mul_right, suc-mul, one-mul, add-one, arith, length-take-le, get_or-take, take-suc, take_at}
use native.Mathlib.Nat.{mod-add-mod}
use Rattle.format.specs.Answers.{over}
use Rattle.format.specs.Choice.{pick}
use Rattle.fill.specs.Copies.{in_data, shift, rebased, copies}
use Rattle.format.specs.Lent.{over_at}
use Rattle.format.proofs.Over.{over_self, over_length, over_part, over_next, at_none, at_length, at_next, set_at, set_three}
use Rattle.fill.proofs.Regions.{before_at}
use Rattle.fill.proofs.CopyLaws.{rebased_length, rebased_append, copies_length, rebased_copies}

-- ---- rebased twice
shift_shift : (a b k x : ℕ) → shift a k (shift b k x) ≡ shift (b + a) k x
unfolding shift pick
shift_shift a b k x = go (in_data k)
  where
    go : (t : Bool) → pick t ((pick t ((x + b) % 2 ^ 64) x + a) % 2 ^ 64) (pick t ((x + b) % 2 ^ 64) x) ≡ pick t ((x + (b + a)) % 2 ^ 64) x
    go true = let e : x + b + a ≡ x + (b + a) = omega arith in mod-add-mod (x + b) (2 ^ 64) a ∙ ap (λ n. n % 2 ^ 64) e
    go false = refl

pub rebased_rebased : (a b : ℕ) (l : List ℕ) → rebased a (rebased b l) ≡ rebased (b + a) l
unfolding rebased
rebased_rebased a b [] = refl
rebased_rebased a b (k ∷ []) = refl
rebased_rebased a b (k ∷ x ∷ []) = refl
rebased_rebased a b (k ∷ x ∷ y ∷ l) = ap₂ (λ v r. k ∷ x ∷ v ∷ r) (shift_shift a b k y) (rebased_rebased a b l)

-- ---- some copies, and then some more
module _ (w r : ℕ) where
  copies_more : (j k : ℕ) (l : List ℕ) → length l ≡ 3 * r → copies w (suc (j + k)) l ≡ copies w (suc j) l ++ rebased (suc j * w) (copies w k l)
  unfolding copies
  copies_more zero k l e =
      let z : 0 + k ≡ k = omega arith in
      ap (λ n. l ++ copies w n (rebased w l)) z ∙ ap (λ z. l ++ z) (sym (rebased_copies w r k l e))
      ∙ ap₂ (λ a b. a ++ rebased b (copies w k l)) (sym (append-nil l)) (sym (one-mul w))
  copies_more (suc j) k l e =
      let z : suc j + k ≡ suc (j + k) = omega arith in
      let n : w + suc j * w ≡ suc (suc j) * w = omega (arith, suc-mul (suc j) w) in
      ap (λ n. l ++ copies w n (rebased w l)) z
      ∙ ap (λ z. l ++ z)
      (copies_more j k (rebased w l) (rebased_length w l ∙ e)
      ∙ ap (λ z. copies w (suc j) (rebased w l) ++ z)
      (ap (rebased (suc j * w)) (sym (rebased_copies w r k l e)) ∙ rebased_rebased (suc j * w) w (copies w k l) ∙ ap (λ m. rebased m (copies w k l)) n))
      ∙ sym (append_assoc l (copies w (suc j) (rebased w l)) (rebased (suc (suc j) * w) (copies w k l)))

  pub copies_add : (j k : ℕ) (l : List ℕ) → 0 < j → length l ≡ 3 * r → copies w (j + k) l ≡ copies w j l ++ rebased (j * w) (copies w k l)
  copies_add zero k l p e = absurd (omega arith)
  copies_add (suc j) k l p e =
      let z : suc j + k ≡ suc (j + k) = omega arith in
      ap (λ n. copies w n l) z ∙ copies_more j k l e

-- ---- a round of copying: the first words stand again from `to` on
-- what is read before `to` is what was there
unread : (t₀ m t : List ℕ) (to i : ℕ) → i < to → to ≤ length t₀ → t ≡ over_at to m t₀ → get_or t i 0 ≡ get_or t₀ i 0
unread t₀ m t to i h g e = sym (get_or-take to t i 0 h) ∙ ap (λ z. get_or z i 0) (ap (take to) e ∙ before_at to m t₀ g) ∙ get_or-take to t₀ i 0 h

take_row : (t : List ℕ) (i : ℕ) → i + 3 ≤ length t → take (i + 3) t ≡ take i t ++ (get_or t i 0 ∷ get_or t (i + 1) 0 ∷ get_or t (i + 2) 0 ∷ [])
take_row t i h =
    let a : i + 3 ≡ suc (i + 2) = omega arith in
    let b : i + 2 ≡ suc (i + 1) = omega arith in
    let c : i + 1 ≡ suc i = omega arith in
    ap (λ n. take n t) a ∙ take-suc t (i + 2) 0 (omega arith)
    ∙ ap (λ z. z ++ (get_or t (i + 2) 0 ∷ []))
    (ap (λ n. take n t) b ∙ take-suc t (i + 1) 0 (omega arith) ∙ ap (λ z. z ++ (get_or t (i + 1) 0 ∷ [])) (ap (λ n. take n t) c ∙ take-suc t i 0 (omega arith)))
    ∙ append_assoc (take i t ++ (get_or t i 0 ∷ [])) (get_or t (i + 1) 0 ∷ []) (get_or t (i + 2) 0 ∷ [])
    ∙ append_assoc (take i t) (get_or t i 0 ∷ []) (get_or t (i + 1) 0 ∷ get_or t (i + 2) 0 ∷ [])

rebased_more : (w : ℕ) (t : List ℕ) (i : ℕ) → i % 3 ≡ 0 → i + 3 ≤ length t
    → rebased w (take (i + 3) t) ≡ rebased w (take i t) ++ (get_or t i 0 ∷ get_or t (i + 1) 0 ∷ shift w (get_or t i 0) (get_or t (i + 2) 0) ∷ [])
rebased_more w t i d h =
    let l : length (take i t) ≡ 3 * (i / 3) = omega (arith, length-take-le i t (omega arith)) in
    ap (rebased w) (take_row t i h) ∙ rebased_append w (i / 3) (take i t) (get_or t i 0 ∷ get_or t (i + 1) 0 ∷ get_or t (i + 2) 0 ∷ []) l ∙ (unfold rebased in refl)

-- so many rows of the round are there
pub record Rebasing (w to r : ℕ) (t₀ t : List ℕ) (j : ℕ) : Type 0 where
  pub upto : j ≤ r
  pub long : length t ≡ length t₀
  pub table_is : t ≡ over_at to (rebased w (take (3 * j) t₀)) t₀

pub rebasing_start : (w to r : ℕ) (t : List ℕ) → Rebasing w to r t t 0
unfolding rebased
rebasing_start w to r t =
    record { upto = omega arith; long = refl; table_is = sym (at_none to t) }

pub rebasing_step : (w to r : ℕ) (t₀ t : List ℕ) (j v0 v1 v2 : ℕ) → 3 * r ≤ to → to + 3 * r ≤ length t₀ → j < r → Rebasing w to r t₀ t j
    → v0 ≡ get_or t (3 * j) 0 → v1 ≡ get_or t (3 * j + 1) 0 → v2 ≡ shift w (get_or t (3 * j) 0) (get_or t (3 * j + 2) 0)
    → Rebasing w to r t₀ (set (set (set t (to + 3 * j) v0) (to + 3 * j + 1) v1) (to + 3 * j + 2) v2) (j + 1)
rebasing_step w to r t₀ t j v0 v1 v2 g h q c p0 p1 p2 =
    let i : ℕ = 3 * j in
    let m : List ℕ = rebased w (take i t₀) in
    let u0 = unread t₀ m t to i (omega arith) (omega arith) c.table_is in
    let u1 = unread t₀ m t to (i + 1) (omega arith) (omega arith) c.table_is in
    let u2 = unread t₀ m t to (i + 2) (omega arith) (omega arith) c.table_is in
    let lm : length m ≡ i = rebased_length w (take i t₀) ∙ length-take-le i t₀ (omega arith) in
    let x0 : ℕ = get_or t₀ i 0 in
    let x2 : ℕ = get_or t₀ (i + 2) 0 in
    let n : i + 3 ≡ 3 * (j + 1) = omega arith in
    let tb : set (set (set t (to + i) v0) (to + i + 1) v1) (to + i + 2) v2 ≡ over_at to (rebased w (take (i + 3) t₀)) t₀ =
    set_three (to + i) t v0 v1 v2 (omega arith)
    ∙ at_next to m (v0 ∷ v1 ∷ v2 ∷ []) t₀ t (to + i) (omega arith) c.table_is (omega arith)
    ∙ ap (λ z. over_at to z t₀)
    (ap (λ z. m ++ z) (ap₂ (λ y z. y ∷ v1 ∷ z ∷ []) (p0 ∙ u0) (p2 ∙ ap₂ (shift w) u0 u2) ∙ ap (λ y. x0 ∷ y ∷ shift w x0 x2 ∷ []) (p1 ∙ u1))
    ∙ sym (rebased_more w t₀ i (omega arith) (omega arith))) in
    let l3 : length (rebased w (take (i + 3) t₀)) ≡ i + 3 = rebased_length w (take (i + 3) t₀) ∙ length-take-le (i + 3) t₀ (omega arith) in
    record {
      upto = omega arith;
      long = ap length tb ∙ at_length to (rebased w (take (i + 3) t₀)) t₀ (omega arith);
      table_is = tb ∙ ap (λ z. over_at to (rebased w (take z t₀)) t₀) n;
    }

-- of words alone
pub record Taking (to n : ℕ) (t₀ t : List ℕ) (i : ℕ) : Type 0 where
  pub upto : i ≤ n
  pub long : length t ≡ length t₀
  pub table_is : t ≡ over_at to (take i t₀) t₀

pub taking_start : (to n : ℕ) (t : List ℕ) → Taking to n t t 0
taking_start to n t =
    record { upto = omega arith; long = refl; table_is = sym (at_none to t) }

pub taking_step : (to n : ℕ) (t₀ t : List ℕ) (i v : ℕ) → n ≤ to → to + n ≤ length t₀ → i < n → Taking to n t₀ t i → v ≡ get_or t i 0
    → Taking to n t₀ (set t (to + i) v) (i + 1)
taking_step to n t₀ t i v g h q c p =
    let u = unread t₀ (take i t₀) t to i (omega arith) (omega arith) c.table_is in
    let a = length-take-le i t₀ (omega arith) in
    let b = length-take-le (i + 1) t₀ (omega arith) in
    let e : take i t₀ ++ (get_or t₀ i 0 ∷ []) ≡ take (i + 1) t₀ = sym (ap (λ m. take m t₀) (add-one i) ∙ take-suc t₀ i 0 (omega arith)) in
    let tb : set t (to + i) v ≡ over_at to (take (i + 1) t₀) t₀ =
    set_at (to + i) v t (omega arith) ∙ at_next to (take i t₀) (v ∷ []) t₀ t (to + i) (omega arith) c.table_is (omega arith)
    ∙ ap (λ z. over_at to z t₀) (ap (λ y. take i t₀ ++ (y ∷ [])) (p ∙ u) ∙ e) in
    record {
      upto = omega arith;
      long = ap length tb ∙ at_length to (take (i + 1) t₀) t₀ (omega arith);
      table_is = tb;
    }

-- ---- round after round
-- so many copies are there
pub record Doubled (w r k : ℕ) (t₀ t : List ℕ) (j : ℕ) : Type 0 where
  pub some : 0 < j
  pub upto : j ≤ k
  pub long : length t ≡ length t₀
  pub table_is : t ≡ over (copies w j (take (3 * r) t₀)) t₀

pub doubled_start : (w r k : ℕ) (t : List ℕ) → 0 < k → Doubled w r k t t 1
unfolding copies
doubled_start w r k t p =
    record { some = omega arith; upto = omega arith; long = refl; table_is = sym (ap (λ l. over l t) (append-nil (take (3 * r) t)) ∙ over_self (3 * r) t) }

-- what a round asks for
abbrev pub RoundRoom : ℕ → ℕ → ℕ → ℕ → Type 0
RoundRoom r j m len = (3 * (m * r) ≤ 3 * (j * r)) × (3 * (j * r) + 3 * (m * r) ≤ len)

pub round_room : (r k j m len : ℕ) → 3 * (k * r) ≤ len → j + m ≤ k → m ≤ j → RoundRoom r j m len
round_room r k j m len h g q =
    let a = mul-le-mul_right r g in
    let b = mul-le-mul_right r q in
    (omega arith, omega arith)

pub doubled_step : (w r k : ℕ) (t₀ t t' : List ℕ) (j m : ℕ) → 3 * (k * r) ≤ length t₀ → 0 < m → j + m ≤ k → m ≤ j → Doubled w r k t₀ t j
    → t' ≡ over_at (3 * (j * r)) (rebased (j * w) (take (3 * (m * r)) t)) t → Doubled w r k t₀ t' (j + m)
doubled_step w r k t₀ t t' j m h p g q c e =
    let rr = round_room r k j m (length t₀) h g q in
    let one = mul-le-mul_right r c.some in
    let l : List ℕ = take (3 * r) t₀ in
    let ll : length l ≡ 3 * r = length-take-le (3 * r) t₀ (omega (arith, one-mul r)) in
    let lj : length (copies w j l) ≡ 3 * (j * r) = copies_length w r j l ll in
    let lm : length (copies w m l) ≡ 3 * (m * r) = copies_length w r m l ll in
    let d : m + (j - m) ≡ j = omega arith in
    let f : take (3 * (m * r)) t ≡ copies w m l =
    ap (take (3 * (m * r))) c.table_is ∙ over_part (3 * (m * r)) (copies w j l) t₀ (omega arith)
    ∙ ap (take (3 * (m * r))) (ap (λ n. copies w n l) (sym d) ∙ copies_add w r m (j - m) l p ll)
    ∙ take_at (copies w m l) (rebased (m * w) (copies w (j - m) l)) (3 * (m * r)) lm in
    let tb : t' ≡ over (copies w (j + m) l) t₀ =
    e ∙ ap (λ z. over_at (3 * (j * r)) (rebased (j * w) z) t) f
    ∙ over_next (copies w j l) (rebased (j * w) (copies w m l)) t₀ t (3 * (j * r)) c.table_is (sym lj)
    ∙ ap (λ z. over z t₀) (sym (copies_add w r j m l c.some ll)) in
    let ls : length (copies w (j + m) l) ≡ 3 * ((j + m) * r) = copies_length w r (j + m) l ll in
    let some = c.some in
    record { some = omega arith; upto = g; long = ap length tb ∙ over_length (copies w (j + m) l) t₀ (omega arith); table_is = tb }
