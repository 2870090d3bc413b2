-- Exactly when reading a sheet gives each number, and with what: theorems about the function that the contract of the public operation
-- cites, `measuring` (specs/Sheets.antt). The words used are in specs/Words.antt. Assumes nothing.
use Prim.Native.Nat.{ℕ, ◌*◌, ◌^◌, ◌≤◌, ◌<◌}
use mathlib.Core.Path.{◌≡◌, refl, sym, ap, ◌∙◌, subst, subst₂}
use mathlib.Core.Logic.{◌≢◌, ◌⊎◌, inl, inr, ⊎_elim, ◌↔◌}
use mathlib.Core.Bool.{Bool, true, false}
use mathlib.Core.Option.{Option, none, some}
use mathlib.Core.List.{List, [], ◌∷◌}
use native.Mathlib.Omega.{arith}
use lib.ListN.{length}
use lib.IntN.{ℤ, pos}
use lib.Signed.{mag}
use Rattle.format.specs.Numbers.{Bytes}
use Rattle.format.specs.Choice.{pick}
use Rattle.format.specs.Refusals.{byte_limit}
use Rattle.format.specs.Items.{int, empty, xtra, struc, edt, Items, end, text, proper_leaf, proper}
use Rattle.format.specs.Messages.{Outcome, refused, says, outcome}
use Rattle.format.specs.Tables.{rows, table_of, words_needed}
use Rattle.format.specs.Answers.{Reading, over, reading}
use Rattle.format.proofs.Choices.{if_eq_yes, pick_yes, pick_no, by_eq, by_pick, whether, clash, true_lt}
use Rattle.format.proofs.ItemLaws.{leaf_proper, group_proper}
use Rattle.format.proofs.ReadProper.{read_proper}
use Rattle.message.specs.Words.{Says, NoneDue}
use Rattle.message.proofs.Cases.{both_hold, both_fail, not_both, said_once, read_due}
use Rattle.message.proofs.Demands.{reading_number, refused_reading, accepted_exactly}
use Rattle.measure.specs.Sheets.{Scale, tenths, eighths, scale_code, Figure, ask, Sheet, behind_type, by_number, by_name, sheet_of, Measuring, figureless, passed_on, no_sheet, any_empty, all_in_range, figure_number, micrometres, measured, measured_as, measuring_of, measuring, sheet_from}
use Rattle.measure.specs.Words.{AsSheet, NoSheet, AnEmpty, Fair, Fit, EmptyIn, NoFigures, fit_answer, Micrometres, SameTold}
use Rattle.measure.proofs.SheetLaws.{sent_sheet, sheet_sent, no_sheet_lem, not_sheet}
use Rattle.measure.proofs.SheetForm.{numbered_rows, named_rows, numbered_words, named_words, range_fits, fits_range, some_empty, empty_some, fits_full, unit_most}

-- ---- The cases.

measured_fit : (m t : List ℕ) (xs : Items) (s : Sheet) → NoneDue m xs (length t) → (f : Fit s) → measured s (reading m t) ≡ fit_answer xs s f t
unfolding measured figure_number
measured_fit m t xs s d f =
    ap (λ x. measured x (reading m t)) f.is
    ∙ ap (measured (sheet_from s.order s.unit f.chest f.waist f.sleeve)) (read_due m t xs d)

-- A fact of each answer that reading a sheet can give, with what makes it due, is a fact of its answer: the base's 1 to 11; 20; 21; 22; 0.
pub measured_by : (m t : List ℕ) (P : Measuring → Type 0) → ((reading m t).number ≢ 0 → P (passed_on (reading m t)))
    → ((xs : Items) → NoneDue m xs (length t) → NoSheet xs → P (no_sheet 20 (reading m t)))
    → ((xs : Items) (s : Sheet) → NoneDue m xs (length t) → AsSheet xs s → AnEmpty s → P (no_sheet 21 (reading m t)))
    → ((xs : Items) (s : Sheet) → NoneDue m xs (length t) → AsSheet xs s → ¬ AnEmpty s → ¬ Fit s → P (no_sheet 22 (reading m t)))
    → ((xs : Items) (s : Sheet) → NoneDue m xs (length t) → AsSheet xs s → (f : Fit s) → P (fit_answer xs s f t))
    → P (measuring m t)
unfolding measuring measuring_of
measured_by m t P base other ask_for off all = go (outcome m) refl
  where
    sheet : (xs : Items) → NoneDue m xs (length t) → (o : Option Sheet) → sheet_of xs ≡ o → P (measured_as o (reading m t))
    sheet xs d none e = unfold measured_as in other xs d (no_sheet_lem xs e)
    sheet xs d (some s) e =
        let a = sheet_sent xs s e in
        unfold measured_as in
        by_pick P (any_empty s) (λ y. ask_for xs s d a (some_empty s y))
        (λ n. by_pick P (all_in_range s) (λ y. subst P (sym (measured_fit m t xs s d (range_fits s y))) (all xs s d a (range_fits s y)))
        (λ k. off xs s d a (λ y. clash (any_empty s) (empty_some s y) n) (λ f. clash (all_in_range s) (fits_range s f) k)))

    go : (o : Outcome) → outcome m ≡ o → P (measuring_of o (reading m t))
    go (refused f) e = base (λ z. let x = (accepted_exactly m t).0 z in not_both m x.0 f x.1.said e)
    go (says xs) e =
        by_eq P (reading m t).number 0
        (λ z. let x = (accepted_exactly m t).0 z in sheet xs (subst (λ ys. NoneDue m ys (length t)) (said_once m x.0 xs x.1.said e) x.1) (sheet_of xs) refl)
        base

-- what is answered for an accepted message hangs on the sheet that its items are
accepted_as : (m t : List ℕ) (xs : Items) → NoneDue m xs (length t) → (o : Option Sheet) → sheet_of xs ≡ o → measuring m t ≡ measured_as o (reading m t)
unfolding measuring measuring_of
accepted_as m t xs d o e =
    ap (λ x. measuring_of x (reading m t)) d.said ∙ if_eq_yes (reading m t).number 0 _ _ ((accepted_exactly m t).1 (xs, d))
    ∙ ap (λ x. measured_as x (reading m t)) e

accepted_sheet : (m t : List ℕ) (xs : Items) (s : Sheet) → NoneDue m xs (length t) → AsSheet xs s → measuring m t ≡ measured_as (some s) (reading m t)
accepted_sheet m t xs s d a = accepted_as m t xs d (some s) (sent_sheet xs s a)

-- ---- Demand 1, for sheets: "it answers and ends".

-- every answer is one of the numbers listed: the base's, and 20, 21 and 22
pub measuring_number : (m t : List ℕ) → ((measuring m t).number ≤ 11) ⊎ ((20 ≤ (measuring m t).number) × ((measuring m t).number ≤ 22))
measuring_number m t =
    measured_by m t (λ (r : Measuring). (r.number ≤ 11) ⊎ ((20 ≤ r.number) × (r.number ≤ 22))) (λ n. inl (reading_number m t))
    (λ xs d n. inr (omega arith, omega arith)) (λ xs s d a e. inr (omega arith, omega arith)) (λ xs s d a e f. inr (omega arith, omega arith))
    (λ xs s d a f. inl (omega arith))

-- 20, 21 and 22: "the lent table holding the base reading, as with 0". With every number the table is the base's.
pub measured_table : (m t : List ℕ) → (measuring m t).table ≡ (reading m t).table
measured_table m t =
    measured_by m t (λ (r : Measuring). r.table ≡ (reading m t).table) (λ n. refl) (λ xs d n. refl) (λ xs s d a e. refl) (λ xs s d a e f. refl)
    (λ xs s d a f. sym (ap (λ (r : Reading). r.table) (read_due m t xs d)))

-- "Here and later, base refusals pass through with all they answer."
pub base_passes : (m t : List ℕ) → (reading m t).number ≢ 0 → measuring m t ≡ passed_on (reading m t)
base_passes m t n =
    measured_by m t (λ r. r ≡ passed_on (reading m t)) (λ k. refl) (λ xs d k. absurd (n ((accepted_exactly m t).1 (xs, d))))
    (λ xs s d a e. absurd (n ((accepted_exactly m t).1 (xs, d)))) (λ xs s d a e f. absurd (n ((accepted_exactly m t).1 (xs, d))))
    (λ xs s d a f. absurd (n ((accepted_exactly m t).1 (xs, d))))

-- 1 to 11 are given exactly where the base refuses
pub base_exactly : (m t : List ℕ) → ((1 ≤ (measuring m t).number) × ((measuring m t).number ≤ 11)) ↔ ((reading m t).number ≢ 0)
base_exactly m t =
    measured_by m t (λ (r : Measuring). ((1 ≤ r.number) × (r.number ≤ 11)) ↔ ((reading m t).number ≢ 0))
    (λ n. both_hold (omega arith, reading_number m t) n)
    (λ xs d n. both_fail (λ h. omega (arith, h.1)) (λ k. k ((accepted_exactly m t).1 (xs, d))))
    (λ xs s d a e. both_fail (λ h. omega (arith, h.1)) (λ k. k ((accepted_exactly m t).1 (xs, d))))
    (λ xs s d a e f. both_fail (λ h. omega (arith, h.1)) (λ k. k ((accepted_exactly m t).1 (xs, d))))
    (λ xs s d a f. both_fail (λ h. omega (arith, h.0)) (λ k. k ((accepted_exactly m t).1 (xs, d))))

-- "demand 1's refused reading is the base's": with 1 to 11 the table is as lent
pub refused_measuring : (m t : List ℕ) → 1 ≤ (measuring m t).number → (measuring m t).number ≤ 11 → (measuring m t).table ≡ t
refused_measuring m t a b = measured_table m t ∙ refused_reading m t ((base_exactly m t).0 (a, b))

-- ---- Exactly when a sheet is read, or refused with 20, 21 or 22, and the whole answer.

-- "It answers order number, unit, the figures, and these in micrometres": the whole answer for a sheet that fits, by number or by name
pub measured_answer : (m t : List ℕ) (xs : Items) (s : Sheet) → NoneDue m xs (length t) → AsSheet xs s → (f : Fit s) → measuring m t ≡ fit_answer xs s f t
unfolding measured_as
measured_answer m t xs s d a f =
    accepted_sheet m t xs s d a ∙ pick_no (any_empty s) _ _ (fits_full s f) ∙ pick_yes (all_in_range s) _ _ (fits_range s f) ∙ measured_fit m t xs s d f

-- 0: exactly for a message that says such a sheet
pub measured_exactly : (m t : List ℕ)
    → ((measuring m t).number ≡ 0) ↔ ((xs : Items) × (s : Sheet) × NoneDue m xs (length t) × AsSheet xs s × Fit s)
measured_exactly m t = (
  measured_by m t (λ (r : Measuring). r.number ≡ 0 → (xs : Items) × (s : Sheet) × NoneDue m xs (length t) × AsSheet xs s × Fit s)
      (λ n z. absurd (n z)) (λ xs d n z. absurd (omega arith)) (λ xs s d a e z. absurd (omega arith)) (λ xs s d a e f z. absurd (omega arith))
      (λ xs s d a f z. (xs, s, d, a, f)),
  λ x. ap (λ (r : Measuring). r.number) (measured_answer m t x.0 x.1 x.2 x.3 x.4),
)

-- so the sheet of a message for which 0 is given fits
pub measured_fits : (m t : List ℕ) (xs : Items) (s : Sheet) → Says m xs → AsSheet xs s → (measuring m t).number ≡ 0 → NoneDue m xs (length t) × Fit s
measured_fits m t xs s p a e =
    let x = (measured_exactly m t).0 e in
    let q = said_once m x.0 xs x.2.said p in
    let f = sent_sheet x.0 x.1 x.3 in
    let g = sent_sheet xs s a in
    let e : x.1 ≡ s = cc in
    (subst (λ ys. NoneDue m ys (length t)) q x.2, subst Fit e x.4)

-- "not such a sheet, a figure neither INT nor EMPTY included": the whole answer
pub no_sheet_answer : (m t : List ℕ) (xs : Items) → NoneDue m xs (length t) → NoSheet xs → measuring m t ≡ no_sheet 20 (reading m t)
unfolding measured_as
no_sheet_answer m t xs d n = accepted_as m t xs d none (not_sheet xs n)

-- 20: exactly then
pub measuring_20 : (m t : List ℕ) → ((measuring m t).number ≡ 20) ↔ ((xs : Items) × NoneDue m xs (length t) × NoSheet xs)
measuring_20 m t = (
  measured_by m t (λ (r : Measuring). r.number ≡ 20 → (xs : Items) × NoneDue m xs (length t) × NoSheet xs)
      (λ n z. absurd (omega (arith, reading_number m t))) (λ xs d n z. (xs, d, n)) (λ xs s d a e z. absurd (omega arith))
      (λ xs s d a e f z. absurd (omega arith)) (λ xs s d a f z. absurd (omega arith)),
  λ x. ap (λ (r : Measuring). r.number) (no_sheet_answer m t x.0 x.1 x.2),
)

-- "a figure EMPTY", when 20 is not due, "stop and ask": the whole answer
pub empty_asks : (m t : List ℕ) (xs : Items) (s : Sheet) → NoneDue m xs (length t) → AsSheet xs s → AnEmpty s → measuring m t ≡ no_sheet 21 (reading m t)
unfolding measured_as
empty_asks m t xs s d a e = accepted_sheet m t xs s d a ∙ pick_yes (any_empty s) _ _ (empty_some s e)

-- 21: exactly then
pub measuring_21 : (m t : List ℕ)
    → ((measuring m t).number ≡ 21) ↔ ((xs : Items) × (s : Sheet) × NoneDue m xs (length t) × AsSheet xs s × AnEmpty s)
measuring_21 m t = (
  measured_by m t (λ (r : Measuring). r.number ≡ 21 → (xs : Items) × (s : Sheet) × NoneDue m xs (length t) × AsSheet xs s × AnEmpty s)
      (λ n z. absurd (omega (arith, reading_number m t))) (λ xs d n z. absurd (omega arith)) (λ xs s d a e z. (xs, s, d, a, e))
      (λ xs s d a e f z. absurd (omega arith)) (λ xs s d a f z. absurd (omega arith)),
  λ x. ap (λ (r : Measuring). r.number) (empty_asks m t x.0 x.1 x.2 x.3 x.4),
)

-- "a figure out of range", when neither 20 nor 21 is due: the whole answer
pub range_answer : (m t : List ℕ) (xs : Items) (s : Sheet) → NoneDue m xs (length t) → AsSheet xs s → ¬ AnEmpty s → ¬ Fit s
    → measuring m t ≡ no_sheet 22 (reading m t)
unfolding measured_as
range_answer m t xs s d a e f =
    accepted_sheet m t xs s d a ∙ pick_no (any_empty s) _ _ (whether (any_empty s) (λ y. absurd (e (some_empty s y))) (λ n. n))
    ∙ pick_no (all_in_range s) _ _ (whether (all_in_range s) (λ y. absurd (f (range_fits s y))) (λ n. n))

-- 22: exactly then
pub measuring_22 : (m t : List ℕ)
    → ((measuring m t).number ≡ 22) ↔ ((xs : Items) × (s : Sheet) × NoneDue m xs (length t) × AsSheet xs s × (¬ AnEmpty s) × (¬ Fit s))
measuring_22 m t = (
  measured_by m t (λ (r : Measuring). r.number ≡ 22 → (xs : Items) × (s : Sheet) × NoneDue m xs (length t) × AsSheet xs s × (¬ AnEmpty s) × (¬ Fit s))
      (λ n z. absurd (omega (arith, reading_number m t))) (λ xs d n z. absurd (omega arith)) (λ xs s d a e z. absurd (omega arith))
      (λ xs s d a e f z. (xs, s, d, a, e, f)) (λ xs s d a f z. absurd (omega arith)),
  λ x. ap (λ (r : Measuring). r.number) (range_answer m t x.0 x.1 x.2 x.3 x.4 x.5),
)

-- ---- "stop and ask": a refusal has no figures, and a message with an EMPTY in it is never answered with any.

-- "Any number not told is 0": with a refusal that is the order number, the unit, and every figure
pub refused_figureless : (m t : List ℕ) → (measuring m t).number ≢ 0 → NoFigures (measuring m t)
refused_figureless m t =
    measured_by m t (λ r. r.number ≢ 0 → NoFigures r) (λ n z. record { refused = z; none = refl }) (λ xs d n z. record { refused = z; none = refl })
    (λ xs s d a e z. record { refused = z; none = refl }) (λ xs s d a e f z. record { refused = z; none = refl }) (λ xs s d a f z. absurd (z refl))

-- no EMPTY among the items of a sheet whose figures are all in range
int_full : (z : ℤ) → int z ≢ empty
int_full z e = let n : ◌≡◌ {A = ℕ} 0 1 = cc in absurd (omega arith)

xtra_full : (k : ℕ) → xtra k ≢ empty
xtra_full k e = let n : ◌≡◌ {A = ℕ} 0 1 = cc in absurd (omega arith)

text_full : (cs : List ℕ) → ¬ EmptyIn (text cs)
unfolding text
text_full [] e = e
text_full (c ∷ cs) e = ⊎_elim (λ q. let n : ◌≡◌ {A = ℕ} 0 1 = cc in absurd (omega arith)) (text_full cs) e

behind_full : (z : ℤ) (u : Scale) (c w l : ℕ) → ¬ EmptyIn (behind_type (sheet_from z u c w l))
unfolding behind_type
behind_full z u c w l =
    ⊎_elim (int_full (pos 1)) (⊎_elim (int_full z) (⊎_elim (xtra_full (scale_code u))
    (⊎_elim (int_full (pos c)) (⊎_elim (int_full (pos w)) (⊎_elim (int_full (pos l)) (λ e. e))))))

fits_no_empty : (xs : Items) (s : Sheet) → AsSheet xs s → Fit s → ¬ EmptyIn xs
unfolding by_number by_name
fits_no_empty xs s a f e =
    let k = behind_full s.order s.unit f.chest f.waist f.sleeve in
    ⊎_elim (λ q. ⊎_elim (⊎_elim (int_full (pos 12)) k) (λ z. z) (subst EmptyIn (q ∙ ap by_number f.is) e))
    (λ q. ⊎_elim (⊎_elim (text_full (0x4d ∷ 0x45 ∷ 0x41 ∷ 0x53 ∷ 0x55 ∷ 0x52 ∷ 0x45 ∷ [])) k) (λ z. z) (subst EmptyIn (q ∙ ap by_name f.is) e)) a

-- "EMPTY: stop and ask." The accident: a message with an EMPTY in it, wherever that stands and whatever is lent, is refused, and no figure is
-- answered for it.
pub stop_and_ask : (m t : List ℕ) (xs : Items) → Says m xs → EmptyIn xs → NoFigures (measuring m t)
stop_and_ask m t xs p e =
    refused_figureless m t
    (λ z. let x = (measured_exactly m t).0 z in fits_no_empty x.0 x.1 x.3 x.4 (subst EmptyIn (said_once m xs x.0 p x.2.said) e))

-- ---- A table of 29 words is enough for a sheet, one of 28 for a sheet by number.

sheet_room : (m t : List ℕ) (xs : Items) → rows xs ≡ 8 → words_needed xs ≤ 29 → Says m xs → length m ≤ byte_limit → words_needed xs ≤ length t
    → NoneDue m xs (length t)
unfolding words_needed
sheet_room m t xs r w p l h = record { short = l; said = p; few_rows = omega arith; few_words = omega arith; room = h }

-- none of 1 to 11 is then due for a message that says a sheet, whatever its figures
pub room_enough : (m t : List ℕ) (xs : Items) (s : Sheet) → AsSheet xs s → Says m xs → length m ≤ byte_limit → 29 ≤ length t → NoneDue m xs (length t)
room_enough m t xs s (inl e) p l h =
    let w : words_needed xs ≡ 28 = ap words_needed e ∙ numbered_words s in
    sheet_room m t xs (ap rows e ∙ numbered_rows s) (omega arith) p l (omega arith)
room_enough m t xs s (inr e) p l h =
    let w : words_needed xs ≡ 29 = ap words_needed e ∙ named_words s in
    sheet_room m t xs (ap rows e ∙ named_rows s) (omega arith) p l (omega arith)

-- by number, with 28 words
pub numbered_room : (m t : List ℕ) (s : Sheet) → Says m (by_number s) → length m ≤ byte_limit → 28 ≤ length t → NoneDue m (by_number s) (length t)
numbered_room m t s p l h =
    let w = numbered_words s in
    sheet_room m t (by_number s) (numbered_rows s) (omega arith) p l (omega arith)

-- So a sheet with EMPTY for the chest, the accident's, is answered with 21 and nothing else, whatever its order number, unit, waist and
-- sleeve, by number or by name, and however it was sent. The table holds the reading.
pub empty_chest : (m t : List ℕ) (xs : Items) (z : ℤ) (u : Scale) (w l : Figure)
    → AsSheet xs (record { order = z; unit = u; chest = ask; waist = w; sleeve = l }) → Says m xs → length m ≤ byte_limit → 29 ≤ length t
    → measuring m t ≡ figureless 21 0 0 0 (over (table_of xs) t)
empty_chest m t xs z u w l a p k h =
    let s : Sheet = record { order = z; unit = u; chest = ask; waist = w; sleeve = l } in
    let d = room_enough m t xs s a p k h in
    empty_asks m t xs s d a (inl refl) ∙ ap (no_sheet 21) (read_due m t xs d)

-- ---- The figures answered, and their micrometres.

-- "Each of the three figures is an INT from 1 to 20,000", "The unit is XTRA 0 (tenths of a centimetre) or XTRA 1 (eighths of an inch)."
pub figures_told : (m t : List ℕ) → (measuring m t).number ≡ 0
    → Fair (measuring m t).chest × Fair (measuring m t).waist × Fair (measuring m t).sleeve × ((measuring m t).unit ≤ 1)
figures_told m t =
    measured_by m t (λ (r : Measuring). r.number ≡ 0 → Fair r.chest × Fair r.waist × Fair r.sleeve × (r.unit ≤ 1))
    (λ n z. absurd (n z)) (λ xs d n z. absurd (omega arith)) (λ xs s d a e z. absurd (omega arith)) (λ xs s d a e f z. absurd (omega arith))
    (λ xs s d a f z. (f.chest_in, f.waist_in, f.sleeve_in, unit_most s.unit))

behind_order : (s : Sheet) → proper (behind_type s) ≡ true → mag s.order < 2 ^ 63
unfolding behind_type proper_leaf
behind_order s p =
    let q = (leaf_proper (int (pos 1)) _ p).1 in
    true_lt (mag s.order) (2 ^ 63) (leaf_proper (int s.order) _ q).0

-- "The order number is any INT": so "from -2^63 to 2^63 - 1", in the sheet that a message says
pub order_small : (m : List ℕ) (xs : Items) (s : Sheet) → Bytes m → Says m xs → AsSheet xs s → mag s.order < 2 ^ 63
unfolding by_number by_name
order_small m xs s b p (inl e) =
    behind_order s (leaf_proper (int (pos 12)) (behind_type s) (group_proper edt _ end (subst (λ y. proper y ≡ true) e (read_proper m xs b p))).1).1
order_small m xs s b p (inr e) =
    behind_order s (group_proper struc _ (behind_type s) (group_proper edt _ end (subst (λ y. proper y ≡ true) e (read_proper m xs b p))).1).2

-- and in every answer
pub order_told : (m t : List ℕ) → Bytes m → mag (measuring m t).order < 2 ^ 63
order_told m t b =
    measured_by m t (λ (r : Measuring). mag r.order < 2 ^ 63) (λ n. omega arith) (λ xs d n. omega arith) (λ xs s d a e. omega arith)
    (λ xs s d a e f. omega arith) (λ xs s d a f. order_small m xs s b d.said a)

by_scale : (u : Scale) (c w l : ℕ)
    → ((scale_code u ≡ 0) × (micrometres u * c ≡ 1000 * c) × (micrometres u * w ≡ 1000 * w) × (micrometres u * l ≡ 1000 * l))
    ⊎ ((scale_code u ≡ 1) × (micrometres u * c ≡ 3175 * c) × (micrometres u * w ≡ 3175 * w) × (micrometres u * l ≡ 3175 * l))
unfolding scale_code micrometres
by_scale tenths c w l = inl (refl, refl, refl, refl)
by_scale eighths c w l = inr (refl, refl, refl, refl)

-- "in micrometres: 1,000 or 3,175 for each, by the unit": with 0 it is one or the other
pub micrometres_told : (m t : List ℕ) → (measuring m t).number ≡ 0 → Micrometres 0 1000 (measuring m t) ⊎ Micrometres 1 3175 (measuring m t)
micrometres_told m t =
    measured_by m t (λ (r : Measuring). r.number ≡ 0 → Micrometres 0 1000 r ⊎ Micrometres 1 3175 r)
    (λ n z. absurd (n z)) (λ xs d n z. absurd (omega arith)) (λ xs s d a e z. absurd (omega arith)) (λ xs s d a e f z. absurd (omega arith))
    (λ xs s d a f z. by_scale s.unit f.chest f.waist f.sleeve)

pub scaled_most : (u : Scale) (n : ℕ) → Fair n → micrometres u * n ≤ 63500000
unfolding micrometres
scaled_most tenths n h = omega (arith, h.1)
scaled_most eighths n h = omega (arith, h.1)

-- They are at most 63,500,000, whatever is read, so that no machine word overflows.
pub micrometres_small : (m t : List ℕ)
    → ((measuring m t).chest_um ≤ 63500000) × ((measuring m t).waist_um ≤ 63500000) × ((measuring m t).sleeve_um ≤ 63500000)
micrometres_small m t =
    measured_by m t (λ (r : Measuring). (r.chest_um ≤ 63500000) × (r.waist_um ≤ 63500000) × (r.sleeve_um ≤ 63500000))
    (λ n. omega arith) (λ xs d n. omega arith) (λ xs s d a e. omega arith) (λ xs s d a e f. omega arith)
    (λ xs s d a f. (scaled_most s.unit f.chest f.chest_in, scaled_most s.unit f.waist f.waist_in, scaled_most s.unit f.sleeve f.sleeve_in))

-- ---- How a sheet was sent makes no difference.

same_told : (s : Sheet) (r q : Reading) → r.number ≡ q.number → SameTold (measured_as (some s) r) (measured_as (some s) q)
unfolding measured_as measured
same_told s r q e = go (any_empty s) (all_in_range s)
  where
    go : (a b : Bool)
        → SameTold (pick a (no_sheet 21 r) (pick b (measured s r) (no_sheet 22 r))) (pick a (no_sheet 21 q) (pick b (measured s q) (no_sheet 22 q)))
    go true b = unfold pick in (refl, refl, refl, refl, refl, refl, refl, refl, refl)
    go false true = unfold pick in (e, refl, refl, refl, refl, refl, refl, refl, refl)
    go false false = unfold pick in (refl, refl, refl, refl, refl, refl, refl, refl, refl)

-- Two messages that say the same sheet, one by number and the other by name, or sent in other ways, are answered alike.
pub sent_alike : (m n t u : List ℕ) (xs ys : Items) (s : Sheet) → NoneDue m xs (length t) → NoneDue n ys (length u) → AsSheet xs s → AsSheet ys s
    → SameTold (measuring m t) (measuring n u)
sent_alike m n t u xs ys s d e a b =
    subst₂ SameTold (sym (accepted_sheet m t xs s d a)) (sym (accepted_sheet n u ys s e b))
    (same_told s (reading m t) (reading n u) ((accepted_exactly m t).1 (xs, d) ∙ sym ((accepted_exactly n u).1 (ys, e))))
