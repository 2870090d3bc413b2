-- Ask 2: "the desk cannot tell a late tail from a bad sheet". What the answer for a message says of it with bytes more behind:
-- theorems about the function that the contract of the public operation cites, as in Demands.antt. Assumes nothing.
use Prim.Native.Nat.{ℕ, ◌+◌, ◌≤◌, ◌<◌}
use mathlib.Core.Path.{◌≡◌, refl, sym, ◌∙◌, subst}
use mathlib.Core.Logic.{◌⊎◌, inl, inr, ⊎_elim}
use mathlib.Core.List.{List, ◌++◌}
use native.Mathlib.Omega.{arith}
use lib.ListN.{length, length-append}
use Rattle.format.specs.Refusals.{Fault, byte_limit}
use Rattle.format.specs.Items.{Items, join}
use Rattle.format.specs.Messages.{refused, outcome}
use Rattle.format.specs.Tables.{rows, data_words}
use Rattle.format.specs.Answers.{Reading, reading}
use Rattle.format.proofs.Choices.{split, split_eq}
use Rattle.format.proofs.Counts.{rows_join, words_join}
use Rattle.format.proofs.Runs.{onto_says}
use Rattle.format.proofs.Growing.{says_more, refused_more, waits}
use Rattle.message.specs.Words.{Says, Accepted, NoneDue, OverLimits}
use Rattle.message.proofs.Cases.{not_both, read_by, read_fault}
use Rattle.message.proofs.ReadExactly.{told_fault, fault_told}
use Rattle.message.proofs.Demands.{accepted_exactly}

-- The desk's wait. With 2, and fewer bytes more than are told missing, it is 2 at the same place again. So many fewer are told then,
-- or where 65,536 were told, which may be more, at the least so many.
pub late_tail : (m e t u : List ℕ) → (reading m t).number ≡ 2 → length e < (reading m t).missing → length (m ++ e) ≤ byte_limit
    → ((reading (m ++ e) u).number ≡ 2)
    × ((reading (m ++ e) u).place ≡ (reading m t).place)
    × ((reading m t).missing < byte_limit → (reading m t).missing ≡ (reading (m ++ e) u).missing + length e)
    × ((reading m t).missing ≤ (reading (m ++ e) u).missing + length e)
late_tail m e t u n h l =
    let x = waits m e (told_fault (reading m t)) (fault_told m t (omega arith) (omega arith)) n h in
    subst
    (λ (r : Reading).
    (r.number ≡ 2) × (r.place ≡ (reading m t).place) × ((reading m t).missing < byte_limit → (reading m t).missing ≡ r.missing + length e)
    × ((reading m t).missing ≤ r.missing + length e))
    (sym (read_fault (m ++ e) u x.0 l x.1)) (x.2.still, x.2.there, x.2.fewer, x.2.least)

-- A bad sheet. With 3 to 9, bytes that come later change nothing of the answer, whatever they are.
pub bad_sheet : (m e t : List ℕ) → 3 ≤ (reading m t).number → (reading m t).number ≤ 9 → length (m ++ e) ≤ byte_limit → reading (m ++ e) t ≡ reading m t
bad_sheet m e t a b l =
    let f = fault_told m t (omega arith) b in
    read_fault (m ++ e) t (told_fault (reading m t)) l (refused_more m e (told_fault (reading m t)) f (omega arith))
    ∙ sym (read_fault m t (told_fault (reading m t)) (omega (arith, length-append m e)) f)

-- items that are over the limits stay so with more behind them
joined_over : (xs ys zs : Items) → zs ≡ join xs ys → OverLimits xs → OverLimits zs
joined_over xs ys zs e (inl h) = inl (subst (λ w. 16384 < rows w) (sym e) (omega (arith, rows_join xs ys)))
joined_over xs ys zs e (inr h) = inr (subst (λ w. 16384 < length (data_words w)) (sym e) (omega (arith, words_join xs ys)))

-- accepted; or for want of table words; or with 2, and no more than n bytes told missing
abbrev Begins : ℕ → Reading → Type 0
Begins n r = (r.number ≡ 0) ⊎ ((r.number ≡ 11) ⊎ ((r.number ≡ 2) × (r.missing ≤ n)))

module _ (m e : List ℕ) (n : ℕ) (zs : Items) (d : NoneDue (m ++ e) zs n) where
  faulted : (f : Fault) → outcome m ≡ refused f → (f.number ≡ 2) × (f.missing ≤ length e)
  faulted f q =
      split_eq f.number 2
      (λ y. split (length e) f.missing (λ l. let x = waits m e f q y l in absurd (not_both (m ++ e) zs x.0 d.said x.1)) (λ l. (y, l)))
      (λ y. absurd (not_both (m ++ e) zs f d.said (refused_more m e f q y)))

  not_over : (xs : Items) → Says m xs → ¬ OverLimits xs
  not_over xs s v =
      let x = onto_says xs (length m) (outcome e) zs (sym (says_more m e xs s) ∙ d.said) in
      ⊎_elim (λ h. omega (arith, d.few_rows)) (λ h. omega (arith, d.few_words)) (joined_over xs x.0 zs x.2 v)

  begins : (t : List ℕ) → Begins (length e) (reading m t)
  begins t =
      read_by m t (Begins (length e)) (λ h. absurd (omega (arith, d.short, length-append m e)))
      (λ f l q. inr (inr (faulted f q))) (λ xs l s v. absurd (not_over xs s v)) (λ xs y h. inr (inl refl)) (λ xs y. inl refl)

-- Every beginning of an accepted message is accepted, or wants a larger table, or is 2 and tells no more bytes missing than are
-- still to come. So with 1 and 3 to 10 no bytes more make a message accepted, and with 2 not fewer than are told.
pub good_beginning : (m e t u : List ℕ) → Accepted (m ++ e) u
    → ((reading m t).number ≡ 0) ⊎ (((reading m t).number ≡ 11) ⊎ (((reading m t).number ≡ 2) × ((reading m t).missing ≤ length e)))
good_beginning m e t u a = let x = (accepted_exactly (m ++ e) u).0 a in begins m e (length u) x.0 x.1 t
