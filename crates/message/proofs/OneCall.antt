-- Ask 10, "One call to write": what writing answers where only the length is wanted, and what it then writes. Theorems about the
-- function that the contract of the public operation cites, as in Demands.antt. The words used are in specs/Words.antt. Assumes
-- nothing.
use Prim.Native.Nat.{ℕ, ◌≤◌, ◌<◌}
use mathlib.Core.Path.{◌≡◌, refl, sym, ap, ◌∙◌, subst}
use mathlib.Core.Logic.{◌≢◌, ◌⊎◌, inl, inr, ⊎_elim, ◌↔◌}
use mathlib.Core.List.{List, [], ◌++◌, append-nil}
use native.Mathlib.Omega.{arith}
use lib.ListN.{length, drop_of_length-le}
use Rattle.format.specs.Refusals.{byte_limit}
use Rattle.format.specs.Items.{Items, end}
use Rattle.format.specs.Normal.{normal, depth}
use Rattle.format.specs.Answers.{over, Writing, unwritten, put, writing}
use Rattle.format.proofs.Choices.{by_lt, split}
use Rattle.format.proofs.ItemLaws.{length_end, bytes_none}
use Rattle.message.specs.Words.{IsTable, Unwritable, no_table, too_deep, too_long, Writable, Asked, alike, needed, nothing}
use Rattle.message.proofs.Cases.{same_length, JudgedFirst, no_form, form, judged}
use Rattle.message.proofs.Demands.{written_exactly, written_normal}
use Rattle.message.proofs.WriteExactly.{writing_15, length_needed}

unwritable_number : (w : List ℕ) (n : ℕ) → Unwritable w n → (12 ≤ n) × (n ≤ 14)
unwritable_number w n (no_table x) = (omega arith, omega arith)
unwritable_number w n (too_deep xs i d) = (omega arith, omega arith)
unwritable_number w n (too_long xs i d l) = (omega arith, omega arith)

put_number : (o l : List ℕ) → ((put o l).number ≡ 0) ⊎ ((put o l).number ≡ 15)
unfolding put
put_number o l = by_lt (λ (r : Writing). (r.number ≡ 0) ⊎ (r.number ≡ 15)) (length o) (length l) (λ h. inr refl) (λ h. inl refl)

put_length : (o l : List ℕ) → (put o l).length ≡ length l
unfolding put
put_length o l = by_lt (λ (r : Writing). r.length ≡ length l) (length o) (length l) (λ h. refl) (λ h. refl)

-- 12, 13 and 14 "alike": whatever output is lent, and with length 0
pub one_refusal : (w o p : List ℕ) → 12 ≤ (writing w o).number → (writing w o).number ≤ 14 → writing w p ≡ unwritten (writing w o).number 0 p
one_refusal w o p = go (judged w)
  where
    go : JudgedFirst w → 12 ≤ (writing w o).number → (writing w o).number ≤ 14 → writing w p ≡ unwritten (writing w o).number 0 p
    go (no_form n u f) h k = f p ∙ ap (λ z. unwritten z 0 p) (sym (ap (λ (r : Writing). r.number) (f o)))
    go (form xs i c f) h k =
        let e = ap (λ (r : Writing). r.number) (f o) in
        absurd (⊎_elim (λ z. omega arith) (λ z. omega arith) (put_number o (normal xs)))

-- The length hangs on the table alone: it is told the same whatever output is lent.
pub one_length : (w o p : List ℕ) → (writing w o).length ≡ (writing w p).length
one_length w o p = go (judged w)
  where
    go : JudgedFirst w → (writing w o).length ≡ (writing w p).length
    go (no_form n u f) = ap (λ (r : Writing). r.length) (f o) ∙ sym (ap (λ (r : Writing). r.length) (f p))
    go (form xs i c f) =
        ap (λ (r : Writing). r.length) (f o) ∙ put_length o (normal xs)
        ∙ sym (ap (λ (r : Writing). r.length) (f p) ∙ put_length p (normal xs))

-- ---- "15 with the length needed": lend what was told, and it is written.

-- what the length is told of, with 0 and with 15
told_form : (w o : List ℕ) → ((writing w o).number ≡ 0) ⊎ ((writing w o).number ≡ 15)
    → (xs : Items) × IsTable w xs × Writable xs (length (normal xs)) × ((writing w o).length ≡ length (normal xs))
told_form w o = go (judged w)
  where
    go : JudgedFirst w → ((writing w o).number ≡ 0) ⊎ ((writing w o).number ≡ 15)
        → (xs : Items) × IsTable w xs × Writable xs (length (normal xs)) × ((writing w o).length ≡ length (normal xs))
    go (no_form n u f) t =
        let e = ap (λ (r : Writing). r.number) (f o) in
        absurd (⊎_elim (λ z. omega (arith, (unwritable_number w n u).0)) (λ z. omega (arith, (unwritable_number w n u).1)) t)
    go (form xs i c f) t = (xs, i, c, ap (λ (r : Writing). r.length) (f o) ∙ put_length o (normal xs))

-- 15 tells more than was lent, and at most 65,536: so lending what was told, even while the table changes, comes to an end.
pub short_by : (w o : List ℕ) → (writing w o).number ≡ 15 → (length o < (writing w o).length) × ((writing w o).length ≤ byte_limit)
short_by w o e =
    let x = (writing_15 w o).0 e in
    let l = length_needed w o x.0 x.1 e in
    (omega (arith, x.3), omega (arith, x.2.short))

-- Room is enough exactly from the length told on; one that is shorter is 15 again.
pub enough : (w o p : List ℕ) → ((writing w o).number ≡ 0) ⊎ ((writing w o).number ≡ 15)
    → ((writing w p).number ≡ 0) ↔ ((writing w o).length ≤ length p)
enough w o p t =
    let x = told_form w o t in (
      λ e. let y = (written_exactly w p).0 e in omega (arith, x.3, y.2.room, same_length w x.0 y.0 x.1 y.1),
      λ h. (written_exactly w p).1 (x.0, x.1, record { shallow = x.2.shallow; short = x.2.short; room = omega (arith, x.3) }),
    )

pub not_enough : (w o p : List ℕ) → ((writing w o).number ≡ 0) ⊎ ((writing w o).number ≡ 15)
    → ((writing w p).number ≡ 15) ↔ (length p < (writing w o).length)
not_enough w o p t =
    let x = told_form w o t in (
      λ e. let y = (writing_15 w p).0 e in omega (arith, x.3, y.3, same_length w x.0 y.0 x.1 y.1),
      λ h. (writing_15 w p).1 (x.0, x.1, x.2, omega (arith, x.3)),
    )

-- What is written into room of that length is exactly that long: the normal form, and it fills the room.
fills_form : (w o : List ℕ) (xs : Items) → IsTable w xs → Writable xs (length (normal xs)) → length o ≡ length (normal xs)
    → writing w o ≡ record { number = 0; length = length o; output = normal xs }
fills_form w o xs i f n =
    written_normal w o xs i (record { shallow = f.shallow; short = f.short; room = omega arith })
    ∙ ap (λ l. made (length (normal xs)) (normal xs ++ l)) (drop_of_length-le o {i = length (normal xs)} (omega arith))
    ∙ ap (λ l. made (length (normal xs)) l) (append-nil (normal xs))
    ∙ ap (λ k. made k (normal xs)) (sym n)
  where
    made : ℕ → List ℕ → Writing
    made k l = record { number = 0; length = k; output = l }

pub fills : (w o p : List ℕ) → ((writing w o).number ≡ 0) ⊎ ((writing w o).number ≡ 15) → length p ≡ (writing w o).length
    → (xs : Items) × IsTable w xs × (writing w p ≡ record { number = 0; length = length p; output = normal xs })
fills w o p t e = let x = told_form w o t in (x.0, x.1, fills_form w p x.0 x.1 x.2 (e ∙ x.3))

-- ---- "A caller that wants only the length lends an empty output"

-- "it receives 15 with the length needed": exactly for a table of some items, for which none of 12, 13 and 14 is due
pub asked_15 : (w : List ℕ) → ((writing w []).number ≡ 15) ↔ ((xs : Items) × IsTable w xs × Writable xs (length (normal xs)) × (xs ≢ end))
asked_15 w = (
  λ e.
      let x = (writing_15 w []).0 e in
      (x.0, x.1, x.2, λ z. omega (arith, x.3, length_end, ap (λ ys. length (normal ys)) z)),
  λ x. (writing_15 w []).1 (x.0, x.1, x.2, split 0 (length (normal x.0)) (λ h. h) (λ h. absurd (x.3 (bytes_none x.0 (omega arith))))),
)

-- "or length 0 with result 0 for a table of no items": exactly for that
pub asked_0 : (w : List ℕ) → ((writing w []).number ≡ 0) ↔ IsTable w end
unfolding depth
asked_0 w = (
  λ e. let x = (written_exactly w []).0 e in subst (IsTable w) (bytes_none x.0 (omega (arith, x.2.room))) x.1,
  λ i. (written_exactly w []).1 (end, i, record { shallow = omega arith; short = omega (arith, length_end); room = omega (arith, length_end) }),
)

-- the length told is that of the normal form, with 15, and with 0 too
pub asked_length : (w : List ℕ) (xs : Items) → IsTable w xs → Writable xs (length (normal xs)) → (writing w []).length ≡ length (normal xs)
asked_length w xs i f = one_length w [] (normal xs) ∙ ap (λ (r : Writing). r.length) (written_normal w (normal xs) xs i f)

-- All of it in one, for any words.
pub asked : (w : List ℕ) → Asked w (writing w [])
unfolding put over normal
asked w = go (judged w)
  where
    formed : (xs : Items) → IsTable w xs → Writable xs (length (normal xs)) → Asked w (put [] (normal xs))
    formed xs i f =
        by_lt (Asked w) 0 (length (normal xs))
        (λ h. needed xs i (λ z. omega (arith, length_end, ap (λ ys. length (normal ys)) z)) (λ o n. fills_form w o xs i f n))
        (λ h.
        let e = bytes_none xs (omega arith) in
        subst (λ ys. Asked w (record { number = 0; length = length (normal ys); output = over (normal ys) [] })) (sym e) (nothing (subst (IsTable w) e i)))

    go : JudgedFirst w → Asked w (writing w [])
    go (no_form n u f) = subst (Asked w) (sym (f [])) (alike n u f)
    go (form xs i c f) = subst (Asked w) (sym (f [])) (formed xs i c)
