-- Exactly when writing a sheet gives each number, and with what; that what is written reads back the same, and that the same bytes are
-- written exactly for the same sheet: theorems about the function that the contract of the public operation cites, `measure_writing`
-- (specs/Sheets.antt). The words used are in specs/Words.antt. Assumes nothing.
use Prim.Native.Nat.{ℕ, ◌^◌, ◌≤◌, ◌<◌}
use mathlib.Core.Path.{◌≡◌, refl, sym, ap, ap₂, ◌∙◌, subst}
use mathlib.Core.Logic.{◌≢◌, ◌⊎◌, inl, inr, ◌↔◌}
use mathlib.Core.Option.{none, some}
use mathlib.Core.List.{List}
use native.Mathlib.Omega.{arith}
use lib.ListN.{length}
use lib.IntN.{ℤ}
use lib.Signed.{mag}
use Rattle.format.specs.Numbers.{Bytes}
use Rattle.format.specs.Items.{Items}
use Rattle.format.specs.Tables.{table_of}
use Rattle.format.specs.Normal.{normal}
use Rattle.format.specs.Answers.{over, Writing, unwritten, put, normalising}
use Rattle.format.proofs.Choices.{if_eq_no, if_lt_yes, if_lt_no, pick_yes, pick_no, split, whether, clash}
use Rattle.format.proofs.Over.{over_front}
use Rattle.format.proofs.RoundTrip.{round_trip, normal_inj}
use Rattle.message.specs.Words.{Says, given}
use Rattle.message.proofs.Demands.{normalised}
use Rattle.measure.specs.Sheets.{Scale, tenths, eighths, scale_code, Sheet, by_number, all_in_range, figure_number, micrometres, measuring, scale_for, sheet_from, sheet_writing, writing_by, measure_writing}
use Rattle.measure.specs.Words.{AsSheet, AllFair, Fit, sheet_answer, fit_answer, sheet_bytes, written_bytes, written_from}
use Rattle.measure.proofs.SheetLaws.{sent_sheet}
use Rattle.measure.proofs.SheetForm.{numbered_words, range_fair, fair_range, unit_most, sheet_proper, sheet_depth, sheet_length}
use Rattle.measure.proofs.MeasuredExactly.{measured_answer, measured_exactly, measured_fits, numbered_room, order_small, order_told}

-- ---- The cases.

-- "XTRA 0 (tenths of a centimetre) or XTRA 1 (eighths of an inch)": a number is the code of one of these units, or above 1
by_unit : {X : Type 0} (u : ℕ) → ((k : Scale) → scale_code k ≡ u → X) → (1 < u → X) → X
unfolding scale_code
by_unit u f g = split 1 u g (λ h. split 0 u (λ p. f eighths (omega arith)) (λ p. f tenths (omega arith)))

scale_for_lem : (k : Scale) → scale_for (scale_code k) ≡ some k
unfolding scale_for scale_code
scale_for_lem tenths = refl
scale_for_lem eighths = refl

no_scale : (u : ℕ) → 1 < u → scale_for u ≡ none
unfolding scale_for
no_scale u h = if_eq_no u 0 _ _ (omega arith) ∙ if_eq_no u 1 _ _ (omega arith)

pub in_unit : (z : ℤ) (u c w l : ℕ) (o : List ℕ) (k : Scale) → scale_code k ≡ u → measure_writing z u c w l o ≡ sheet_writing (sheet_from z k c w l) o
unfolding measure_writing writing_by
in_unit z u c w l o k e = ap (λ s. writing_by s z c w l o) (ap scale_for (sym e) ∙ scale_for_lem k)

pub formed : (z : ℤ) (u c w l : ℕ) (o : List ℕ) (k : Scale) → scale_code k ≡ u → AllFair c w l → measure_writing z u c w l o ≡ put o (sheet_bytes z k c w l)
unfolding sheet_writing
formed z u c w l o k e r = in_unit z u c w l o k e ∙ pick_yes (all_in_range (sheet_from z k c w l)) _ _ (fair_range z k c w l r)

-- ---- Writing, "20 another unit, then 22, then 15 with the length needed": exactly when each is given, and the whole answer.

-- "another unit": the whole answer, the output as lent
pub unit_refused : (z : ℤ) (u c w l : ℕ) (o : List ℕ) → 1 < u → measure_writing z u c w l o ≡ unwritten 20 0 o
unfolding measure_writing writing_by
unit_refused z u c w l o h = ap (λ s. writing_by s z c w l o) (no_scale u h)

-- then a figure out of range: the whole answer, the output as lent
pub figures_refused : (z : ℤ) (u c w l : ℕ) (o : List ℕ) → u ≤ 1 → ¬ AllFair c w l → measure_writing z u c w l o ≡ unwritten 22 0 o
unfolding sheet_writing
figures_refused z u c w l o h n =
    by_unit u
    (λ k e.
    let s = sheet_from z k c w l in
    in_unit z u c w l o k e ∙ pick_no (all_in_range s) _ _ (whether (all_in_range s) (λ y. absurd (n (range_fair z k c w l y))) (λ f. f)))
    (λ g. absurd (omega arith))

-- "then 15 with the length needed": the whole answer, the output as lent
pub output_refused : (z : ℤ) (u c w l : ℕ) (o : List ℕ) (k : Scale) → scale_code k ≡ u → AllFair c w l → length o < length (sheet_bytes z k c w l)
    → measure_writing z u c w l o ≡ unwritten 15 (length (sheet_bytes z k c w l)) o
unfolding put
output_refused z u c w l o k e r h = formed z u c w l o k e r ∙ if_lt_yes (length o) (length (sheet_bytes z k c w l)) _ _ h

-- "Writing a sheet from order number, unit and figures gives the normal form with type 12": the whole answer, the bytes past it unchanged
pub sheet_written : (z : ℤ) (u c w l : ℕ) (o : List ℕ) (k : Scale) → scale_code k ≡ u → AllFair c w l → length (sheet_bytes z k c w l) ≤ length o
    → measure_writing z u c w l o ≡ record { number = 0; length = length (sheet_bytes z k c w l); output = over (sheet_bytes z k c w l) o }
unfolding put
sheet_written z u c w l o k e r h = formed z u c w l o k e r ∙ if_lt_no (length o) (length (sheet_bytes z k c w l)) _ _ h

-- A fact of each answer that writing a sheet can give, with what makes it due, is a fact of its answer: 20; 22; 15; 0.
pub sheet_written_by : (z : ℤ) (u c w l : ℕ) (o : List ℕ) (P : Writing → Type 0) → (1 < u → P (unwritten 20 0 o))
    → (u ≤ 1 → ¬ AllFair c w l → P (unwritten 22 0 o))
    → ((k : Scale) → scale_code k ≡ u → AllFair c w l → length o < length (sheet_bytes z k c w l) → P (unwritten 15 (length (sheet_bytes z k c w l)) o))
    → ((k : Scale) → scale_code k ≡ u → AllFair c w l → length (sheet_bytes z k c w l) ≤ length o
    → P (record { number = 0; length = length (sheet_bytes z k c w l); output = over (sheet_bytes z k c w l) o }))
    → P (measure_writing z u c w l o)
sheet_written_by z u c w l o P unit range short all =
    by_unit u
    (λ k e. whether (all_in_range (sheet_from z k c w l)) (λ y.
    let r = range_fair z k c w l y in
    split (length o) (length (sheet_bytes z k c w l)) (λ h. subst P (sym (output_refused z u c w l o k e r h)) (short k e r h))
    (λ h. subst P (sym (sheet_written z u c w l o k e r h)) (all k e r h)))
    (λ n.
    let r : ¬ AllFair c w l = λ r. clash (all_in_range (sheet_from z k c w l)) (fair_range z k c w l r) n in
    let h : u ≤ 1 = omega (arith, unit_most k) in
    subst P (sym (figures_refused z u c w l o h r)) (range h r)))
    (λ h. subst P (sym (unit_refused z u c w l o h)) (unit h))

-- 20: "another unit"
pub measure_written_20 : (z : ℤ) (u c w l : ℕ) (o : List ℕ) → ((measure_writing z u c w l o).number ≡ 20) ↔ (1 < u)
measure_written_20 z u c w l o = (
  sheet_written_by z u c w l o (λ (r : Writing). r.number ≡ 20 → 1 < u) (λ h e. h) (λ h n e. absurd (omega arith))
      (λ k q r h e. absurd (omega arith)) (λ k q r h e. absurd (omega arith)),
  λ h. ap (λ (r : Writing). r.number) (unit_refused z u c w l o h),
)

-- 22: "a figure out of range", when 20 is not due
pub measure_written_22 : (z : ℤ) (u c w l : ℕ) (o : List ℕ) → ((measure_writing z u c w l o).number ≡ 22) ↔ ((u ≤ 1) × (¬ AllFair c w l))
measure_written_22 z u c w l o = (
  sheet_written_by z u c w l o (λ (r : Writing). r.number ≡ 22 → (u ≤ 1) × (¬ AllFair c w l)) (λ h e. absurd (omega arith)) (λ h n e. (h, n))
      (λ k q r h e. absurd (omega arith)) (λ k q r h e. absurd (omega arith)),
  λ x. ap (λ (r : Writing). r.number) (figures_refused z u c w l o x.0 x.1),
)

-- 15: "lent output too short", when neither is due: it is shorter than the normal form
pub measure_written_15 : (z : ℤ) (u c w l : ℕ) (o : List ℕ)
    → ((measure_writing z u c w l o).number ≡ 15) ↔ ((k : Scale) × (scale_code k ≡ u) × AllFair c w l × (length o < length (sheet_bytes z k c w l)))
measure_written_15 z u c w l o = (
  sheet_written_by z u c w l o
      (λ (r : Writing). r.number ≡ 15 → (k : Scale) × (scale_code k ≡ u) × AllFair c w l × (length o < length (sheet_bytes z k c w l)))
      (λ h e. absurd (omega arith)) (λ h n e. absurd (omega arith)) (λ k q r h e. (k, q, r, h)) (λ k q r h e. absurd (omega arith)),
  λ x. ap (λ (r : Writing). r.number) (output_refused z u c w l o x.0 x.1 x.2 x.3),
)

-- 0: the unit is one of the two, each figure is in range, and the normal form has room
pub measure_written_0 : (z : ℤ) (u c w l : ℕ) (o : List ℕ)
    → ((measure_writing z u c w l o).number ≡ 0) ↔ ((k : Scale) × (scale_code k ≡ u) × AllFair c w l × (length (sheet_bytes z k c w l) ≤ length o))
measure_written_0 z u c w l o = (
  sheet_written_by z u c w l o
      (λ (r : Writing). r.number ≡ 0 → (k : Scale) × (scale_code k ≡ u) × AllFair c w l × (length (sheet_bytes z k c w l) ≤ length o))
      (λ h e. absurd (omega arith)) (λ h n e. absurd (omega arith)) (λ k q r h e. absurd (omega arith)) (λ k q r h e. (k, q, r, h)),
  λ x. ap (λ (r : Writing). r.number) (sheet_written z u c w l o x.0 x.1 x.2 x.3),
)

-- Demand 1, for sheets: every answer is one of the numbers listed
pub measure_written_number : (z : ℤ) (u c w l : ℕ) (o : List ℕ)
    → ((measure_writing z u c w l o).number ≡ 0) ⊎ ((measure_writing z u c w l o).number ≡ 15) ⊎ ((measure_writing z u c w l o).number ≡ 20) ⊎ ((measure_writing z u c w l o).number ≡ 22)
measure_written_number z u c w l o =
    sheet_written_by z u c w l o (λ (r : Writing). (r.number ≡ 0) ⊎ (r.number ≡ 15) ⊎ (r.number ≡ 20) ⊎ (r.number ≡ 22)) (λ h. inr (inr (inl refl)))
    (λ h n. inr (inr (inr refl))) (λ k q r h. inr (inl refl)) (λ k q r h. inl refl)

-- "A refusal leaves all that is lent untouched"
pub refused_measure_writing : (z : ℤ) (u c w l : ℕ) (o : List ℕ) → (measure_writing z u c w l o).number ≢ 0 → (measure_writing z u c w l o).output ≡ o
refused_measure_writing z u c w l o =
    sheet_written_by z u c w l o (λ (r : Writing). r.number ≢ 0 → r.output ≡ o) (λ h n. refl) (λ h n e. refl) (λ k q r h n. refl) (λ k q r h n. absurd (n refl))

-- ---- "and, room lent, it reads back the same"

abbrev from_fits : (z : ℤ) (k : Scale) (c w l : ℕ) → AllFair c w l → Fit (sheet_from z k c w l)
from_fits z k c w l r = record { chest = c; waist = w; sleeve = l; is = refl; chest_in = r.0; waist_in = r.1; sleeve_in = r.2 }

-- an output of 23 bytes is always enough
pub sheet_enough : (z : ℤ) (u c w l : ℕ) (o : List ℕ) → mag z < 2 ^ 63 → 23 ≤ length o → (measure_writing z u c w l o).number ≢ 15
sheet_enough z u c w l o m h e =
    let x = (measure_written_15 z u c w l o).0 e in
    omega (arith, (sheet_length (sheet_from z x.0 c w l) m (from_fits z x.0 c w l x.2)).1, x.3)

-- what is written is the normal form
written_bytes_lem : (z : ℤ) (u c w l : ℕ) (o : List ℕ) (k : Scale) → scale_code k ≡ u → AllFair c w l → length (sheet_bytes z k c w l) ≤ length o
    → written_bytes (measure_writing z u c w l o) ≡ sheet_bytes z k c w l
written_bytes_lem z u c w l o k e r h =
    ap written_bytes (sheet_written z u c w l o k e r h) ∙ over_front (sheet_bytes z k c w l) o (length (sheet_bytes z k c w l)) refl

-- it says the sheet
form_says : (s : Sheet) → mag s.order < 2 ^ 63 → Fit s → Says (normal (by_number s)) (by_number s)
form_says s m f =
    let n = (sheet_length s m f).1 in
    round_trip (by_number s) (sheet_proper s m f) (omega (arith, sheet_depth s)) (omega arith)

form_read : (s : Sheet) (t : List ℕ) → mag s.order < 2 ^ 63 → (f : Fit s) → 28 ≤ length t → measuring (normal (by_number s)) t ≡ fit_answer (by_number s) s f t
form_read s t m f h =
    let n = (sheet_length s m f).1 in
    measured_answer (normal (by_number s)) t (by_number s) s (numbered_room (normal (by_number s)) t s (form_says s m f) (omega arith) h) (inl refl) f

-- any sheet that was written is read, with room lent, as the same order number, unit and figures: the whole answer
pub written_reads_back : (z : ℤ) (u c w l : ℕ) (o t : List ℕ) → mag z < 2 ^ 63 → (measure_writing z u c w l o).number ≡ 0 → 28 ≤ length t
    → (k : Scale) × (scale_code k ≡ u)
    × (measuring (written_bytes (measure_writing z u c w l o)) t ≡ sheet_answer z u (micrometres k) c w l 28 (over (table_of (by_number (sheet_from z k c w l))) t))
written_reads_back z u c w l o t m e h =
    let x = (measure_written_0 z u c w l o).0 e in
    let k = x.0 in
    let s = sheet_from z k c w l in (
      k,
      x.1,
      ap (λ b. measuring b t) (written_bytes_lem z u c w l o k x.1 x.2 x.3) ∙ form_read s t m (from_fits z k c w l x.2) h
          ∙ ap₂ (λ v n. sheet_answer z v (micrometres k) c w l n (over (table_of (by_number s)) t)) x.1 (numbered_words s),
    )

-- ---- The same bytes are written exactly for the same order number, unit and figures.

one_scale : (j k : Scale) → scale_code j ≡ scale_code k → j ≡ k
one_scale j k e =
    let a = scale_for_lem j in
    let b = scale_for_lem k in
    let q : scale_for (scale_code j) ≡ scale_for (scale_code k) = ap scale_for e in
    cc

form_items : (s r : Sheet) → mag s.order < 2 ^ 63 → mag r.order < 2 ^ 63 → Fit s → Fit r → normal (by_number s) ≡ normal (by_number r)
    → by_number s ≡ by_number r
form_items s r hs hr fs fr e =
    normal_inj (by_number s) (by_number r) (sheet_proper s hs fs) (sheet_proper r hr fr) (omega (arith, sheet_depth s)) (omega (arith, sheet_depth r))
    (omega (arith, (sheet_length s hs fs).1)) e

one_sheet : (s r : Sheet) → by_number s ≡ by_number r → s ≡ r
one_sheet s r q =
    let a = sent_sheet (by_number s) s (inl refl) in
    let b = sent_sheet (by_number s) r (inl q) in
    cc

same_parts : (y z : ℤ) (j k : Scale) (c d w v l n : ℕ) → sheet_from y j c w l ≡ sheet_from z k d v n → (y ≡ z) × (j ≡ k) × (c ≡ d) × (w ≡ v) × (l ≡ n)
unfolding figure_number
same_parts y z j k c d w v l n e = (
  ap (λ (s : Sheet). s.order) e,
  ap (λ (s : Sheet). s.unit) e,
  ap (λ (s : Sheet). figure_number s.chest) e,
  ap (λ (s : Sheet). figure_number s.waist) e,
  ap (λ (s : Sheet). figure_number s.sleeve) e,
)

-- two sheets that are both written
pub same_written : (y z : ℤ) (t u c d w v l n : ℕ) (o p : List ℕ) → mag y < 2 ^ 63 → mag z < 2 ^ 63
    → (measure_writing y t c w l o).number ≡ 0 → (measure_writing z u d v n p).number ≡ 0
    → (written_bytes (measure_writing y t c w l o) ≡ written_bytes (measure_writing z u d v n p)) ↔ ((y ≡ z) × (t ≡ u) × (c ≡ d) × (w ≡ v) × (l ≡ n))
same_written y z t u c d w v l n o p hy hz e f =
    let x = (measure_written_0 y t c w l o).0 e in
    let g = (measure_written_0 z u d v n p).0 f in
    let a = written_bytes_lem y t c w l o x.0 x.1 x.2 x.3 in
    let b = written_bytes_lem z u d v n p g.0 g.1 g.2 g.3 in (
      λ q.
          let s = sheet_from y x.0 c w l in
          let r = sheet_from z g.0 d v n in
          let i = form_items s r hy hz (from_fits y x.0 c w l x.2) (from_fits z g.0 d v n g.2) (sym a ∙ q ∙ b) in
          let h = same_parts y z x.0 g.0 c d w v l n (one_sheet s r i) in
          (h.0, sym x.1 ∙ ap scale_code h.1 ∙ g.1, h.2, h.3, h.4),
      λ h. a ∙ (λ i. sheet_bytes (h.0 i) (one_scale x.0 g.0 (x.1 ∙ h.1 ∙ sym g.1) i) (h.2 i) (h.3 i) (h.4 i)) ∙ sym b,
    )

-- ---- Demand 3, for sheets: what is written from the answer for a message is the normal form of its sheet, with type 12.

-- "The result is the normal form": the whole answer, with room lent, whether the message gave the type by number or by name
pub measured_written : (m t o : List ℕ) (xs : Items) (s : Sheet) → Says m xs → AsSheet xs s → (measuring m t).number ≡ 0 → length (normal (by_number s)) ≤ length o
    → written_from (measuring m t) o ≡ record { number = 0; length = length (normal (by_number s)); output = over (normal (by_number s)) o }
measured_written m t o xs s p a e h =
    let y = measured_fits m t xs s p a e in
    let f = y.1 in
    let n = ap (λ x. length (normal (by_number x))) f.is in
    ap (λ r. written_from r o) (measured_answer m t xs s y.0 a f)
    ∙ sheet_written s.order (scale_code s.unit) f.chest f.waist f.sleeve o s.unit refl (f.chest_in, f.waist_in, f.sleeve_in) (omega arith)
    ∙ ap (λ x. record { number = 0; length = length (normal (by_number x)); output = over (normal (by_number x)) o }) (sym f.is)

-- 23 bytes are room enough
written_ready : (m t o : List ℕ) → Bytes m → (measuring m t).number ≡ 0 → 23 ≤ length o → (written_from (measuring m t) o).number ≡ 0
written_ready m t o b e h =
    let x = (measured_exactly m t).0 e in
    let n = (sheet_length x.1 (order_small m x.0 x.1 b x.2.said x.3) x.4).1 in
    ap (λ (r : Writing). r.number) (measured_written m t o x.0 x.1 x.2.said x.3 e (omega arith))

-- "Two accepted messages normalise to the same bytes exactly when they say the same items": two messages with a sheet each are written to
-- the same bytes exactly when the same order number, unit and figures are answered for them
pub measured_same : (m n t u o p : List ℕ) → Bytes m → Bytes n → (measuring m t).number ≡ 0 → (measuring n u).number ≡ 0 → 23 ≤ length o → 23 ≤ length p
    → (written_bytes (written_from (measuring m t) o) ≡ written_bytes (written_from (measuring n u) p))
    ↔ (((measuring m t).order ≡ (measuring n u).order) × ((measuring m t).unit ≡ (measuring n u).unit) × ((measuring m t).chest ≡ (measuring n u).chest)
    × ((measuring m t).waist ≡ (measuring n u).waist) × ((measuring m t).sleeve ≡ (measuring n u).sleeve))
measured_same m n t u o p b c e f ho hp =
    let r = measuring m t in
    let q = measuring n u in
    same_written r.order q.order r.unit q.unit r.chest q.chest r.waist q.waist r.sleeve q.sleeve o p
    (order_told m t b) (order_told n u c) (written_ready m t o b e ho) (written_ready n u p c f hp)

-- for a message that gave the type by number these are the bytes that normalising gives
pub normalised_written : (m t o p : List ℕ) (s : Sheet) → Bytes m → Says m (by_number s) → (measuring m t).number ≡ 0 → 23 ≤ length o → 23 ≤ length p
    → given (normalising m t o) ≡ written_bytes (written_from (measuring m t) p)
normalised_written m t o p s b q e ho hp =
    let y = measured_fits m t (by_number s) s q (inl refl) e in
    let n = (sheet_length s (order_small m (by_number s) s b q (inl refl)) y.1).1 in
    (normalised m t o (by_number s) b (record { read = y.0; short = omega arith; room = omega arith })).1
    ∙ sym (ap written_bytes (measured_written m t p (by_number s) s q (inl refl) e (omega arith)) ∙ over_front (normal (by_number s)) p (length (normal (by_number s))) refl)
