-- Every byte of the input is accounted for, once and in order; what each change tells is so; and what comes out says. Assumes nothing.
use Prim.Native.Nat.{ℕ, suc, ◌+◌, ◌≤◌}
use native.Mathlib.Omega.{arith}
use mathlib.Core.Path.{◌≡◌, refl, sym, ap, ◌∙◌, subst}
use mathlib.Core.Logic.{◌≢◌, inl, inr, ◌↔◌}
use mathlib.Core.Option.{some}
use mathlib.Core.List.{List, [], ◌∷◌, ◌++◌, append_assoc, append-nil}
use lib.ListN.{length, take, drop, length-append, length-take, length-drop, take-append-drop}
use lib.Seq.{length-take-le, take_at, drop_at}
use Rattle.format.specs.Refusals.{byte_limit}
use Rattle.format.specs.Answers.{reading}
use Rattle.format.proofs.Choices.{split_eq}
use Rattle.salvage.specs.Mending.{own_extent, lying, met_alone, mended, Change, change, changes_in}
use Rattle.salvage.specs.Words.{Ample, Accounts, done, copied, replaced, dropped, Listed, bytes_at, TrueOf, InTurn}
use Rattle.salvage.proofs.PartLaws.{lies_within, by_parts, mended_none, mended_rest, mended_kept, mended_bad}
use Rattle.salvage.proofs.PartLaws.{changes_at, changes_none, changes_rest, changes_kept, changes_bad, changes_whole}
use Rattle.salvage.proofs.OwnExtents.{lying_alone}
use Rattle.salvage.proofs.Sound.{sound_mended, sound_changes, bad_mended, bad_changes, rest_bad}
use Rattle.salvage.proofs.Ample.{met_ample}

-- ---- each byte once
alike : (p : ℕ) {m n r q : List ℕ} {l k : List Change} → m ≡ n → r ≡ q → l ≡ k → Accounts p m r l → Accounts p n q k
alike p {m} {n} {r} {q} {l} {k} x y z a = subst (λ i. Accounts p i q k) x (subst (λ i. Accounts p m i k) y (subst (λ i. Accounts p m r i) z a))

accounted : (s : List ℕ) (p : ℕ) → Accounts p s (mended s) (changes_at p s)
accounted =
    by_parts (λ s. (p : ℕ) → Accounts p s (mended s) (changes_at p s)) (λ p. alike p refl (sym mended_none) (sym (changes_none p)) (done p))
    (λ b s e p. alike p refl (sym (mended_rest b s e)) (sym (changes_rest p b s e)) (dropped p b s e)) at_whole
  where
    at_whole : (b : ℕ) (s : List ℕ) (u : ℕ) → lying s (own_extent b s) ≡ some u → ((p : ℕ) → Accounts p (drop u s) (mended (drop u s)) (changes_at p (drop u s)))
        → (p : ℕ) → Accounts p (b ∷ s) (mended (b ∷ s)) (changes_at p (b ∷ s))
    at_whole b s u e more p =
        let c = take u s in
        let one = lying_alone b s u e in
        let n : p + suc u ≡ p + length (b ∷ c) = omega (arith, length-take-le u s (lies_within s (own_extent b s) u e)) in
        let whole : (b ∷ c) ++ drop u s ≡ b ∷ s = ap (λ l. b ∷ l) (take-append-drop u s) in
        let after : Accounts (p + length (b ∷ c)) (drop u s) (mended (drop u s)) (changes_at (p + suc u) (drop u s)) =
        subst (λ q. Accounts q (drop u s) (mended (drop u s)) (changes_at (p + suc u) (drop u s))) n (more (p + suc u))
        in
        split_eq (met_alone (b ∷ c)) 0
        (λ z. alike p whole (sym (mended_kept b s u e z)) (sym (changes_kept p b s u e z)) (copied p b c (drop u s) _ _ one z after))
        (λ z. alike p whole (sym (mended_bad b s u e z)) (sym (changes_bad p b s u e z)) (replaced p b c (drop u s) _ _ one z after))

-- "place, number of bytes": what is listed, with what is copied, makes up the whole input
pub all_accounted : (m : List ℕ) → Accounts 0 m (mended m) (changes_in m)
all_accounted m = subst (Accounts 0 m (mended m)) (sym (changes_whole m)) (accounted m 0)

-- and there is no other way to take an input apart so
only : (p : ℕ) (m r : List ℕ) (l : List Change) → Accounts p m r l → (r ≡ mended m) × (l ≡ changes_at p m)
only _ _ _ _ (done p) = (sym mended_none, sym (changes_none p))
only _ _ _ _ (copied p b s m r l one z k) =
    let x = only (p + length (b ∷ s)) m r l k in
    (ap (λ i. (b ∷ s) ++ i) x.0 ∙ sym (sound_mended (b ∷ s) m z), x.1 ∙ sym (sound_changes p (b ∷ s) m z))
only _ _ _ _ (replaced p b s m r l one z k) =
    let x = only (p + length (b ∷ s)) m r l k in
    (ap (λ i. 0xfe ∷ i) x.0 ∙ sym (bad_mended b s m one z), ap (λ i. change p (b ∷ s) ∷ i) x.1 ∙ sym (bad_changes b s m one z p))
only _ _ _ _ (dropped p b s e) = (sym (mended_rest b s e), sym (changes_rest p b s e))

pub accounted_once : (m r : List ℕ) (l : List Change) → Accounts 0 m r l ↔ ((r ≡ mended m) × (l ≡ changes_in m))
accounted_once m r l = (
  λ a. let x = only 0 m r l a in (x.0, x.1 ∙ sym (changes_whole m)),
  λ e. alike 0 refl (sym e.0) (sym e.1) (all_accounted m),
)

-- ---- the spans of the changes
earlier : (q p n : ℕ) (l : List Change) → q ≤ p → InTurn p n l → InTurn q n l
earlier q p n [] h t = tt
earlier q p n (c ∷ l) h t = (omega (arith, t.0), t.1, t.2, t.3)

in_turn : (n p : ℕ) (m r : List ℕ) (l : List Change) → Accounts p m r l → p + length m ≡ n → InTurn p n l
in_turn n _ _ _ _ (done p) e = tt
in_turn n _ _ _ _ (copied p b s m r l one z k) e =
    earlier p (p + length (b ∷ s)) n l (omega arith) (in_turn n (p + length (b ∷ s)) m r l k (omega (arith, length-append (b ∷ s) m)))
in_turn n _ _ _ _ (replaced p b s m r l one z k) e = (
  omega arith,
  omega arith,
  omega (arith, length-append (b ∷ s) m),
  in_turn n (p + length (b ∷ s)) m r l k (omega (arith, length-append (b ∷ s) m)),
)
in_turn n _ _ _ _ (dropped p b s i) e = (omega arith, omega arith, omega arith, tt)

-- they come in order, none is empty, no two overlap, and all lie in the input
pub changes_rising : (m : List ℕ) → InTurn 0 (length m) (changes_in m)
changes_rising m = in_turn (length m) 0 m (mended m) (changes_in m) (all_accounted m) (omega arith)

-- ---- what each change tells
-- of the bytes o, which stand behind a and before m
true_of : (p : ℕ) (a o m : List ℕ) → length a ≡ p → met_alone o ≢ 0 → TrueOf (a ++ (o ++ m)) (change p o)
true_of p a o m e n =
    record {
      inside = omega (arith, length-append a (o ++ m), length-append o m);
      alone = ap (λ l. met_alone (take (length o) l)) (drop_at a (o ++ m) p e) ∙ ap met_alone (take_at o m (length o) refl);
      bad = n;
    }

-- and of what stands behind o too
true_behind : (p : ℕ) (a o m : List ℕ) (c : Change) → length a ≡ p → ((x : List ℕ) → length x ≡ p + length o → TrueOf (x ++ m) c) → TrueOf (a ++ (o ++ m)) c
true_behind p a o m c e f = subst (λ i. TrueOf i c) (append_assoc a o m) (f (a ++ o) (omega (arith, length-append a o)))

all_true : (p : ℕ) (m r : List ℕ) (l : List Change) → Accounts p m r l → (c : Change) → Listed c l → (a : List ℕ) → length a ≡ p → TrueOf (a ++ m) c
all_true _ _ _ _ (done p) c u a e = absurd u
all_true _ _ _ _ (copied p b s m r l one z k) c u a e = true_behind p a (b ∷ s) m c e (λ x q. all_true (p + length (b ∷ s)) m r l k c u x q)
all_true _ _ _ _ (replaced p b s m r l one z k) c (inl u) a e = subst (TrueOf (a ++ ((b ∷ s) ++ m))) (sym u) (true_of p a (b ∷ s) m e z)
all_true _ _ _ _ (replaced p b s m r l one z k) c (inr u) a e = true_behind p a (b ∷ s) m c e (λ x q. all_true (p + length (b ∷ s)) m r l k c u x q)
all_true _ _ _ _ (dropped p b s i) c (inl u) a e =
    subst (TrueOf (a ++ (b ∷ s))) (sym u)
    (subst (λ x. TrueOf (a ++ x) (change p (b ∷ s))) (append-nil (b ∷ s)) (true_of p a (b ∷ s) [] e (rest_bad b s i)))
all_true _ _ _ _ (dropped p b s i) c (inr u) a e = absurd u

-- "the refusal number with which that object, or the dropped rest, is met alone"
pub change_true : (m : List ℕ) (c : Change) → Listed c (changes_in m) → TrueOf m c
change_true m c u = all_true 0 m (mended m) (changes_in m) (all_accounted m) c u [] refl

-- which is reading's for those bytes, given ample table
pub change_read : (m t : List ℕ) (c : Change) → length m ≤ byte_limit → Ample t → Listed c (changes_in m) → (reading (bytes_at m c) t).number ≡ c.number
change_read m t c l a u =
    let x = change_true m c u in
    met_ample (bytes_at m c) t (omega (arith, length-take c.bytes (drop c.place m), length-drop c.place m)) a ∙ x.alone
