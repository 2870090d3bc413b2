-- The answer by what the message is: over 65,536 bytes, refused, or neither; and what the code tells in each case. Assumes nothing.
use Prim.Native.Nat.{ℕ, zero, suc, ◌+◌, ◌*◌, ◌≤◌, ◌<◌, min, zero-le}
use native.Mathlib.Omega.{arith}
use mathlib.Core.Path.{◌≡◌, refl, sym, ap, ap₂, ◌∙◌}
use mathlib.Core.Logic.{◌≢◌, inl, inr}
use mathlib.Core.List.{List, []}
use lib.ListN.{length}
use Rattle.format.specs.Refusals.{Fault, byte_limit, row_limit, word_limit}
use Rattle.format.specs.Items.{Items}
use Rattle.format.specs.Messages.{Outcome, refused, says, outcome}
use Rattle.format.specs.Tables.{rows, data_words, words_needed}
use Rattle.format.specs.Answers.{over, laid, reading_of, reading}
use Rattle.format.proofs.Choices.{if_lt_yes, if_lt_no, if_eq_yes, if_eq_no, split}
use Rattle.message.specs.declared.Reading.{Reading}
use Rattle.message.specs.Told.{fault_answer, read_answer}
use Rattle.message.proofs.Cases.{read_fault}
use Rattle.scan.specs.declared.summary.Summary.{Summary}
use Rattle.std.specs.Prelude.{Ok, Err}
use Rattle.scan.specs.Sums.{sum_of}
use Rattle.scan.specs.Answer.{answer}
use Rattle.explain.specs.declared.Explaining as Code
use Rattle.explain.specs.declared.evidence.Evidence.{Evidence}
use Rattle.explain.specs.declared.evidence.Evidence.TheVariants.{Nothing, Wanted}
use Rattle.explain.specs.declared.stretch.Stretch.{Stretch}
use Rattle.explain.specs.declared.trail.Trail.{Trail}
use Rattle.explain.specs.Reasons.{Why, why}
use Rattle.explain.specs.Explanations.{blank, answer_of, reading_in, wanted, why_by, why_refused, explained, explaining, in_numbers}
use Rattle.explain.specs.Told.{Descended, around_of, evidence_in, explain_told, told_of, refused_told, measured_of}
use Rattle.explain.proofs.Faultless as F

pub blank_long : (w : ℕ) → length (blank w) ≡ w
unfolding blank
blank_long zero = refl
blank_long (suc w) = ap suc (blank_long w)

-- nothing is listed
abbrev pub bare : Evidence → Why
bare v = record { around = []; evidence = v }

module _ (m : List ℕ) (w : ℕ) where
  pub long_reading : byte_limit < length m → reading_in m w ≡ read_answer 1 0
  unfolding reading_in reading
  long_reading l = ap answer_of (if_lt_yes byte_limit (length m) _ _ l)

  pub long_why : byte_limit < length m → why_refused m w ≡ bare Nothing
  unfolding why_refused
  long_why l = if_lt_yes byte_limit (length m) _ _ l

  pub fault_reading : (f : Fault) → length m ≤ byte_limit → outcome m ≡ refused f → reading_in m w ≡ fault_answer f
  unfolding reading_in
  fault_reading f l q = ap answer_of (read_fault m (blank w) f l q)

  pub fault_why : (f : Fault) → length m ≤ byte_limit → outcome m ≡ refused f → why_refused m w ≡ why m
  unfolding why_refused why_by
  fault_why f l q = if_lt_no byte_limit (length m) _ _ l ∙ ap (why_by m (reading_in m w).number) q

  pub said_why : (xs : Items) → length m ≤ byte_limit → outcome m ≡ says xs → why_refused m w ≡ bare (wanted (reading_in m w).number xs)
  unfolding why_refused why_by
  said_why xs l q = if_lt_no byte_limit (length m) _ _ l ∙ ap (why_by m (reading_in m w).number) q

  module _ (xs : Items) (short : length m ≤ byte_limit) (q : outcome m ≡ says xs) where
    laid_in : reading_in m w ≡ answer_of (laid xs (blank w))
    unfolding reading_in reading reading_of
    laid_in = ap answer_of (if_lt_no byte_limit (length m) _ _ short ∙ ap (λ o. reading_of o (blank w)) q)

    read_rows : row_limit < rows xs → reading_in m w ≡ read_answer 10 0
    unfolding laid
    read_rows h = laid_in ∙ ap answer_of (if_lt_yes row_limit (rows xs) _ _ h)

    read_words : rows xs ≤ row_limit → word_limit < length (data_words xs) → reading_in m w ≡ read_answer 10 0
    unfolding laid
    read_words g h = laid_in ∙ ap answer_of (if_lt_no row_limit (rows xs) _ _ g ∙ if_lt_yes word_limit (length (data_words xs)) _ _ h)

    read_short : rows xs ≤ row_limit → length (data_words xs) ≤ word_limit → w < words_needed xs → reading_in m w ≡ read_answer 11 (words_needed xs)
    unfolding laid
    read_short g h l =
        laid_in
        ∙ ap answer_of (if_lt_no row_limit (rows xs) _ _ g ∙ if_lt_no word_limit (length (data_words xs)) _ _ h ∙ if_lt_yes (length (blank w)) (words_needed xs) _ _ (omega (arith, blank_long w)))

    read_full : rows xs ≤ row_limit → length (data_words xs) ≤ word_limit → words_needed xs ≤ w → reading_in m w ≡ read_answer 0 (words_needed xs)
    unfolding laid
    read_full g h l =
        laid_in
        ∙ ap answer_of (if_lt_no row_limit (rows xs) _ _ g ∙ if_lt_no word_limit (length (data_words xs)) _ _ h ∙ if_lt_no (length (blank w)) (words_needed xs) _ _ (omega (arith, blank_long w)))

-- ---- what the code tells
-- nothing is listed, and the list is as lent
bare_told : (m : List ℕ) (w : ℕ) (l : List ℕ) (v : Evidence) (q : Reading) → reading_in m w ≡ q → why_refused m w ≡ bare v
    → explain_told (told_of 0 0 q v) l ≡ in_numbers (explaining m w l)
unfolding explaining explained over in_numbers told_of
bare_told m w l v q e y =
    sym (ap in_numbers (ap₂ (λ r x. explained r x l) e y ∙ if_lt_no (length l) 0 _ _ zero-le))

pub long_told : (m : List ℕ) (w : ℕ) (l : List ℕ) (r : Code.Explaining) (q : Reading) → byte_limit < length m → r ≡ told_of 0 0 q Nothing → q ≡ read_answer 1 0
    → explain_told r l ≡ in_numbers (explaining m w l)
long_told m w l r q h e i = ap (λ x. explain_told x l) (e ∙ ap (λ y. told_of 0 0 y Nothing) i) ∙ bare_told m w l Nothing (read_answer 1 0) (long_reading m w h) (long_why m w h)

pub fault_told : (m : List ℕ) (w : ℕ) (l : List ℕ) (f : Fault) → length m ≤ byte_limit → outcome m ≡ refused f → refused_told m f l ≡ in_numbers (explaining m w l)
unfolding explaining refused_told
fault_told m w l f h q = ap in_numbers (ap₂ (λ r x. explained r x l) (sym (fault_reading m w f h q)) (sym (fault_why m w f h q)))

-- rows and data words as the scan counted them
module _ (m : List ℕ) (w : ℕ) (l : List ℕ) (s : Summary) (short : length m ≤ byte_limit) where
  nothing_wanted : (xs : Items) (n : ℕ) → n ≡ 0 → wanted n xs ≡ Nothing
  unfolding wanted
  nothing_wanted xs n e = if_eq_yes n 0 _ _ e

  are_wanted : (xs : Items) (n a b : ℕ) → n ≢ 0 → a ≡ min (rows xs) 65536 → b ≡ min (length (data_words xs)) 65536 → wanted n xs ≡ Wanted a b
  unfolding wanted
  are_wanted xs n a b e i j = if_eq_no n 0 _ _ e ∙ sym (ap₂ Wanted i j)

  -- read with q, and told v
  by_reading : (xs : Items) → outcome m ≡ says xs → (q : Reading) (v : Evidence) → reading_in m w ≡ q → wanted q.number xs ≡ v → measured_of s.rows s.words w ≡ told_of 0 0 q v
      → explain_told (measured_of s.rows s.words w) l ≡ in_numbers (explaining m w l)
  by_reading xs o q v e i j =
      ap (λ x. explain_told x l) j
      ∙ bare_told m w l v q e (said_why m w xs short o ∙ ap (λ n. bare (wanted n xs)) (ap (λ (r : Reading). r.number) e) ∙ ap bare i)

  said_told : (xs : Items) → outcome m ≡ says xs → s.rows ≡ min (rows xs) 524288 → s.words ≡ min (length (data_words xs)) 65536
      → explain_told (measured_of s.rows s.words w) l ≡ in_numbers (explaining m w l)
  unfolding words_needed
  said_told xs o er ew =
      split row_limit (rows xs)
      (λ h. by_reading xs o (read_answer 10 0) (Wanted (min s.rows 65536) (min s.words 65536)) (read_rows m w xs short o h)
      (are_wanted xs 10 _ _ (omega arith) (omega arith) (omega arith)) (sym (F.many s.rows s.words w _ (read_answer 10 0) _ _ refl refl refl refl (inl (omega arith)))))
      (λ h. split word_limit (length (data_words xs))
      (λ g. by_reading xs o (read_answer 10 0) (Wanted (min s.rows 65536) (min s.words 65536)) (read_words m w xs short o h g)
      (are_wanted xs 10 _ _ (omega arith) (omega arith) (omega arith)) (sym (F.many s.rows s.words w _ (read_answer 10 0) _ _ refl refl refl refl (inr (omega arith)))))
      (λ g.
      let n : 4 + 3 * s.rows + s.words ≡ words_needed xs = omega arith in
      split w (words_needed xs)
      (λ k. by_reading xs o (read_answer 11 (4 + 3 * s.rows + s.words)) (Wanted s.rows s.words) (read_short m w xs short o h g k ∙ ap (read_answer 11) (sym n))
      (are_wanted xs 11 _ _ (omega arith) (omega arith) (omega arith)) (sym (F.short_table s.rows s.words w _ _ (omega arith, omega arith) refl refl (omega arith))))
      (λ k. by_reading xs o (read_answer 0 (4 + 3 * s.rows + s.words)) Nothing (read_full m w xs short o h g k ∙ ap (read_answer 0) (sym n)) (nothing_wanted xs 0 refl)
      (sym (F.enough_words s.rows s.words w _ _ (omega arith, omega arith) refl refl (omega arith))))))

  pub accepted_told : Ok s ≡ answer (outcome m) → explain_told (measured_of s.rows s.words w) l ≡ in_numbers (explaining m w l)
  accepted_told = go (outcome m) refl
    where
      go : (o : Outcome) → outcome m ≡ o → Ok s ≡ answer o → explain_told (measured_of s.rows s.words w) l ≡ in_numbers (explaining m w l)
      go (refused f) e a = unfold answer in let z : ◌≡◌ {A = ℕ} 0 1 = cc in absurd (omega arith)
      go (says xs) e a = let q = summed xs a in said_told xs e q.0 q.1
        where
          summed : (xs : Items) → Ok s ≡ answer (says xs) → (s.rows ≡ min (rows xs) 524288) × (s.words ≡ min (length (data_words xs)) 65536)
          summed xs a = unfold answer sum_of in let k : s ≡ sum_of xs = cc in (ap (λ (x : Summary). x.rows) k, ap (λ (x : Summary). x.words) k)

-- ---- a message with a fault, from where the descent ended, with the places ps
module _ (m : List ℕ) (f : Fault) (l ps : List ℕ) (s : Stretch) (y : Trail) (x : Descended m s y) (p : ps ≡ around_of y) (r : Code.Explaining) where
  listed : ps ≡ (why m).around
  listed = p ∙ x.around_is

  pub short_told : length l < length ps → r ≡ told_of 16 (length ps) (read_answer 0 0) Nothing → explain_told r l ≡ refused_told m f l
  unfolding refused_told in_numbers explained told_of
  short_told h e =
      ap (λ y. explain_told y l) (e ∙ ap (λ q. told_of 16 (length q) (read_answer 0 0) Nothing) listed)
      ∙ sym (ap in_numbers (if_lt_yes (length l) (length (why m).around) _ _ (omega (arith, ap length listed))))

  pub listed_told : (q : Reading) (v : Evidence) (t : List ℕ) → length ps ≤ length l → r ≡ told_of 0 (length ps) q v → q ≡ fault_answer f → v ≡ evidence_in s
      → t ≡ over ps l → explain_told r t ≡ refused_told m f l
  unfolding refused_told in_numbers explained told_of
  listed_told q v t h e i j k =
      ap₂ explain_told (e ∙ ap (λ n. told_of 0 (length n) q v) listed ∙ ap₂ (λ y z. told_of 0 (length (why m).around) y z) i (j ∙ x.evidence_is)) (k ∙ ap (λ p. over p l) listed)
      ∙ sym (ap in_numbers (if_lt_no (length l) (length (why m).around) _ _ (omega (arith, ap length listed))))

-- a refusal of the scan is the message's fault
pub scan_refused : (o : Outcome) (f : Fault) → Err f ≡ answer o → o ≡ refused f
unfolding answer
scan_refused (refused g) f e = let k : g ≡ f = cc in ap refused k
scan_refused (says xs) f e = let z : ◌≡◌ {A = ℕ} 0 1 = cc in absurd (omega arith)
