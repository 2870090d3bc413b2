-- A table as rows and, `gap` words on, the data: what a part that was lent and words over it do to either. Assumes nothing.
use Rattle.std.proofs.Common.{◌≡◌, ℕ, ◌+◌, ◌-◌, ◌≤◌, List, ◌++◌, length, take, drop, sym, ap, ◌∙◌, ap₂, arith, length-take-le, take-take, drop-drop, take_at, drop_at}
use lib.Seq.{take-append-le, drop-append-le, take-append-add, drop-append-add}
use Rattle.format.specs.Answers.{over}
use Rattle.format.specs.Lent.{over_at}
use Rattle.format.proofs.Parts.{rest_part, drop_take}
use Rattle.format.proofs.Over.{over_over, over_fronted, at_as_front, back_is}

-- ---- a list over the front, no longer than the rows' part
module _ (gap : ℕ) (l t : List ℕ) (h : length l ≤ gap) where
  pub front_over : take gap (over l t) ≡ over l (take gap t)
  unfolding over
  front_over =
      let e : gap ≡ length l + (gap - length l) = omega arith in
      ap (λ n. take n (l ++ drop (length l) t)) e ∙ take-append-add l (drop (length l) t) (gap - length l)
      ∙ ap (λ z. l ++ z) (sym (drop_take (length l) gap t))

  pub back_over : drop gap (over l t) ≡ drop gap t
  unfolding over
  back_over =
      let e : gap ≡ length l + (gap - length l) = omega arith in
      ap (λ n. drop n (l ++ drop (length l) t)) e ∙ drop-append-add l (drop (length l) t) (gap - length l)
      ∙ drop-drop (gap - length l) (length l) t ∙ ap (λ n. drop n t) (sym e)

-- ---- the part from u on is lent, and comes back as ys
module _ (gap u : ℕ) (t : List ℕ) (h : u ≤ gap) (g : gap ≤ length t) where
  abbrev P : List ℕ
  P = take (length t - u) (drop u t)

  -- what the call finds
  front_in : take (gap - u) P ≡ drop u (take gap t)
  front_in = ap (take (gap - u)) (rest_part t u) ∙ sym (drop_take u gap t)

  pub back_in : drop (gap - u) P ≡ drop gap t
  back_in = let e : u + (gap - u) ≡ gap = omega arith in ap (drop (gap - u)) (rest_part t u) ∙ drop-drop (gap - u) u t ∙ ap (λ n. drop n t) e

  module _ (ys : List ℕ) where
    abbrev T : List ℕ
    T = take u t ++ (ys ++ drop (length t - u) (drop u t))

    at_gap : gap ≡ length (take u t) + (gap - u)
    at_gap = omega (arith, length-take-le u t (omega arith))

    pub back_out : drop gap T ≡ drop (gap - u) ys
    back_out = ap (drop gap) (back_is u t ys) ∙ ap (λ n. drop n (take u t ++ ys)) at_gap ∙ drop-append-add (take u t) ys (gap - u)

    -- rows m that the call wrote over its front
    pub front_lent : (m : List ℕ) → take (gap - u) ys ≡ over m (take (gap - u) P) → take gap T ≡ over_at u m (take gap t)
    unfolding over_at
    front_lent m e =
        ap (take gap) (back_is u t ys) ∙ ap (λ n. take n (take u t ++ ys)) at_gap ∙ take-append-add (take u t) ys (gap - u)
        ∙ ap₂ ◌++◌ (sym (take-take u gap t h)) (e ∙ ap (over m) front_in)

-- ---- words over it from a place on
module _ (n : ℕ) (l t : List ℕ) (h : n ≤ length t) where
  pub before_at : take n (over_at n l t) ≡ take n t
  unfolding over_at
  before_at = take_at (take n t) (over l (drop n t)) n (length-take-le n t h)

  pub from_at : drop n (over_at n l t) ≡ over l (drop n t)
  unfolding over_at
  from_at = drop_at (take n t) (over l (drop n t)) n (length-take-le n t h)

  -- more words hide fewer
  pub at_over : (m : List ℕ) → length l ≤ length m → over_at n m (over_at n l t) ≡ over_at n m t
  unfolding over_at
  at_over m g = ap₂ (λ a d. a ++ over m d) before_at from_at ∙ ap (λ z. take n t ++ z) (over_over l m (drop n t) g)

  -- words before the place
  pub fronted : (r : List ℕ) → length r ≡ n → over r (over_at n l t) ≡ over (r ++ l) t
  fronted r e = ap (over r) (at_as_front n l t h) ∙ over_fronted (take n t) r l t (length-take-le n t h ∙ sym e)

-- from the data's word `base` on
module _ (gap base : ℕ) (l t : List ℕ) (h : gap + base ≤ length t) where
  pub front_at : take gap (over_at (gap + base) l t) ≡ take gap t
  unfolding over_at
  front_at = take-append-le gap (take (gap + base) t) _ (omega (arith, length-take-le (gap + base) t h)) ∙ take-take gap (gap + base) t (omega arith)

  pub back_at : drop gap (over_at (gap + base) l t) ≡ over_at base l (drop gap t)
  unfolding over_at
  back_at =
      let c : gap + base - gap ≡ base = omega arith in
      drop-append-le gap (take (gap + base) t) _ (omega (arith, length-take-le (gap + base) t h))
      ∙ ap₂ (λ a d. a ++ over l d) (drop_take gap (gap + base) t ∙ ap (λ i. take i (drop gap t)) c) (sym (drop-drop base gap t))
