-- What explaining answers, and when: theorems about the function that the contract of the public operation cites. Assumes nothing.
use Prim.Native.Nat.{ℕ, ◌≤◌, ◌<◌, min, zero-le}
use native.Mathlib.Omega.{arith}
use mathlib.Core.Path.{◌≡◌, refl, sym, ap, ◌∙◌, subst}
use mathlib.Core.Logic.{◌≢◌, ◌⊎◌, inl, inr, ⊎_elim, ◌↔◌}
use mathlib.Core.List.{List, []}
use lib.ListN.{length}
use Rattle.format.specs.Choice.{if_lt}
use Rattle.format.specs.Refusals.{Fault, byte_limit, row_limit, word_limit, depth_limit}
use Rattle.format.specs.Items.{Items}
use Rattle.format.specs.Messages.{Outcome, refused, says, outcome}
use Rattle.format.specs.Tables.{rows, data_words, table_of, words_needed}
use Rattle.format.specs.Answers as A
use Rattle.format.specs.Answers.{over, unread, laid, reading_of, reading}
use Rattle.format.proofs.Choices.{if_lt_yes, if_lt_no, if_eq_yes, if_eq_no, split, by_lt, by_lt₂}
use Rattle.format.proofs.Faults.{fault_inside}
use Rattle.message.specs.declared.Reading.{Reading}
use Rattle.explain.specs.declared.evidence.Evidence.{Evidence}
use Rattle.explain.specs.declared.evidence.Evidence.TheVariants.{Nothing, Wanted}
use Rattle.explain.specs.Reasons.{Why, why}
use Rattle.explain.specs.Facts.{Because}
use Rattle.explain.specs.Explanations.{blank, answer_of, reading_in, wanted, why_refused, Explaining, unanswered, explained, explaining}
use Rattle.explain.proofs.Explained.{told_why}
use Rattle.explain.proofs.AroundFew.{why_few}
use Rattle.explain.proofs.Answering.{blank_long, long_reading, long_why, fault_reading, fault_why, said_why}

-- ---- reading's answer depends on the length of the table lent, and on nothing else of it
abbrev SameAnswer : A.Reading → A.Reading → Type 0
SameAnswer r s = answer_of r ≡ answer_of s

laid_alike : (xs : Items) (t s : List ℕ) → length t ≡ length s → SameAnswer (laid xs t) (laid xs s)
unfolding laid
laid_alike xs t s k =
    by_lt₂ SameAnswer row_limit (rows xs) (λ l. refl)
    (λ l. by_lt₂ SameAnswer word_limit (length (data_words xs)) (λ g. refl)
    (λ g. subst
    (λ n. SameAnswer (if_lt (length t) (words_needed xs) (unread 11 (words_needed xs) t) (full t)) (if_lt n (words_needed xs) (unread 11 (words_needed xs) s) (full s))) k
    (by_lt₂ SameAnswer (length t) (words_needed xs) (λ h. refl) (λ h. refl))))
  where
    full : List ℕ → A.Reading
    full l = record { number = 0; place = 0; words = words_needed xs; missing = 0; table = over (table_of xs) l }

pub read_alike : (m t : List ℕ) (w : ℕ) → length t ≡ w → reading_in m w ≡ answer_of (reading m t)
unfolding reading_in reading reading_of
read_alike m t w k =
    by_lt₂ SameAnswer byte_limit (length m) (λ l. refl) (λ l. go (outcome m))
  where
    go : (o : Outcome) → SameAnswer (reading_of o (blank w)) (reading_of o t)
    go (refused f) = refl
    go (says xs) = laid_alike xs (blank w) t (blank_long w ∙ sym k)

-- ---- by what the message is: over 65,536 bytes, refused, or neither
module _ (m : List ℕ) (w : ℕ) where
  abbrev told : ℕ
  told = (reading_in m w).number

  said_number : (xs : Items) → length m ≤ byte_limit → outcome m ≡ says xs → (told ≡ 0) ⊎ (9 < told)
  unfolding reading_in reading reading_of laid
  said_number xs l q =
      subst Number (sym (if_lt_no byte_limit (length m) _ _ l ∙ ap (λ o. reading_of o (blank w)) q))
      (by_lt Number row_limit (rows xs) (λ h. inr (omega arith))
      (λ h. by_lt Number word_limit (length (data_words xs)) (λ g. inr (omega arith))
      (λ g. by_lt Number (length (blank w)) (words_needed xs) (λ k. inr (omega arith)) (λ k. inl refl))))
    where
      Number : A.Reading → Type 0
      Number r = (r.number ≡ 0) ⊎ (9 < r.number)

  -- a fact of each is a fact
  cases {ℓ} : {X : Type ℓ} → (byte_limit < length m → X) → ((f : Fault) → length m ≤ byte_limit → outcome m ≡ refused f → X)
      → ((xs : Items) → length m ≤ byte_limit → outcome m ≡ says xs → X) → X
  cases {X = X} long fault said = split byte_limit (length m) long (λ l. go (outcome m) refl l)
    where
      go : (o : Outcome) → outcome m ≡ o → length m ≤ byte_limit → X
      go (refused f) q l = fault f l q
      go (says xs) q l = said xs l q

  -- sixteen containers at the most are told
  pub around_few : length (why_refused m w).around ≤ depth_limit
  around_few =
      cases (λ l. few (sym (long_why m w l)) (omega arith)) (λ f l q. few (sym (fault_why m w f l q)) (why_few m)) (λ xs l q. few (sym (said_why m w xs l q)) (omega arith))
    where
      few : {y : Why} → y ≡ why_refused m w → length y.around ≤ depth_limit → length (why_refused m w).around ≤ depth_limit
      few q l = subst (λ (y : Why). length y.around ≤ depth_limit) q l

  -- ---- the answer's own number: 16 for a short list, and else 0
  module _ (l : List ℕ) where
    abbrev answer : Explaining
    answer = explaining m w l

    abbrev needed : ℕ
    needed = length (why_refused m w).around

    -- with 16 the places needed are told and nothing else, and the list is as lent
    pub refused_explaining : length l < needed → answer ≡ record { number = 16; entries = needed; reading = unanswered; evidence = Nothing; list = l }
    unfolding explaining explained
    refused_explaining h = if_lt_yes (length l) needed _ _ h

    -- with 0, by what is told of the message
    by_why : (y : Why) → why_refused m w ≡ y → length y.around ≤ length l
        → answer ≡ record { number = 0; entries = length y.around; reading = reading_in m w; evidence = y.evidence; list = over y.around l }
    unfolding explaining explained
    by_why y q h = ap (λ x. explained (reading_in m w) x l) q ∙ if_lt_no (length l) (length y.around) _ _ h

    pub explaining_0 : needed ≤ length l
        → answer ≡ record { number = 0; entries = needed; reading = reading_in m w; evidence = (why_refused m w).evidence; list = over (why_refused m w).around l }
    explaining_0 h = by_why (why_refused m w) refl h

    number_16 : length l < needed → answer.number ≡ 16
    number_16 h = ap (λ (x : Explaining). x.number) (refused_explaining h)

    number_0 : needed ≤ length l → answer.number ≡ 0
    number_0 h = ap (λ (x : Explaining). x.number) (explaining_0 h)

    pub explaining_number : (answer.number ≡ 0) ⊎ (answer.number ≡ 16)
    explaining_number = split (length l) needed (λ h. inr (number_16 h)) (λ h. inl (number_0 h))

    pub explaining_16 : (answer.number ≡ 16) ↔ (length l < needed)
    explaining_16 = (λ q. split (length l) needed (λ h. h) (λ h. absurd (omega (arith, number_0 h))), number_16)

    -- a list of sixteen words is always enough
    pub list_enough : 16 ≤ length l → answer.number ≡ 0
    list_enough h = number_0 (omega (arith, around_few))

    -- ---- 1: "an input refused with 1 is only named"
    pub explained_1 : byte_limit < length m
        → answer ≡ record { number = 0; entries = 0; reading = record { number = 1; place = 0; words = 0; missing = 0 }; evidence = Nothing; list = l }
    unfolding over
    explained_1 h =
        by_why (record { around = []; evidence = Nothing }) (long_why m w h) zero-le
        ∙ ap (λ r. record { number = 0; entries = 0; reading = r; evidence = Nothing; list = l }) (long_reading m w h)

    -- ---- 0, 10 and 11: "10 and 11 are explained by the rows and data words wanted, each told as 65,536 if larger"; an accepted message has
    -- nothing to explain
    explained_said : (xs : Items) → length m ≤ byte_limit → outcome m ≡ says xs
        → answer ≡ record { number = 0; entries = 0; reading = reading_in m w; evidence = wanted told xs; list = l }
    unfolding over
    explained_said xs h q = by_why (record { around = []; evidence = wanted told xs }) (said_why m w xs h q) zero-le

    pub explained_read : told ≡ 0 → answer ≡ record { number = 0; entries = 0; reading = reading_in m w; evidence = Nothing; list = l }
    unfolding wanted
    explained_read z =
        cases (λ h. absurd (omega (arith, ap (λ (r : Reading). r.number) (long_reading m w h))))
        (λ f h q. absurd (omega (arith, ap (λ (r : Reading). r.number) (fault_reading m w f h q), (fault_inside m f q).0)))
        (λ xs h q. explained_said xs h q ∙ ap (λ v. record { number = 0; entries = 0; reading = reading_in m w; evidence = v; list = l }) (if_eq_yes told 0 _ _ z))

    pub explained_10_11 : 9 < told
        → (xs : Items) × (outcome m ≡ says xs)
        × (answer ≡ record { number = 0; entries = 0; reading = reading_in m w; evidence = Wanted (min (rows xs) 65536) (min (length (data_words xs)) 65536); list = l })
    unfolding wanted
    explained_10_11 z =
        cases (λ h. absurd (omega (arith, ap (λ (r : Reading). r.number) (long_reading m w h))))
        (λ f h q. absurd (omega (arith, ap (λ (r : Reading). r.number) (fault_reading m w f h q), (fault_inside m f q).1)))
        (λ xs h q. (
          xs,
          q,
          explained_said xs h q
              ∙ ap (λ v. record { number = 0; entries = 0; reading = reading_in m w; evidence = v; list = l })
              (let n : told ≢ 0 = omega arith in if_eq_no told 0 _ _ n),
        ))

    -- with 0, 1, 10 and 11 no place is listed, and the list is as lent
    pub unlisted : (told < 2) ⊎ (9 < told) → (answer.number ≡ 0) × (answer.entries ≡ 0) × (answer.list ≡ l) × (answer.reading ≡ reading_in m w)
    unlisted z =
        cases (λ h. parts (explained_1 h ∙ ap (λ r. record { number = 0; entries = 0; reading = r; evidence = Nothing; list = l }) (sym (long_reading m w h))))
        (λ f h q.
        let n = fault_inside m f q in
        let k = ap (λ (r : Reading). r.number) (fault_reading m w f h q) in
        absurd (⊎_elim (λ a. omega arith) (λ a. omega arith) z))
        (λ xs h q. parts (explained_said xs h q))
      where
        parts : {v : Evidence} → answer ≡ record { number = 0; entries = 0; reading = reading_in m w; evidence = v; list = l }
            → (answer.number ≡ 0) × (answer.entries ≡ 0) × (answer.list ≡ l) × (answer.reading ≡ reading_in m w)
        parts q =
            (ap (λ (x : Explaining). x.number) q, ap (λ (x : Explaining). x.entries) q, ap (λ (x : Explaining). x.list) q, ap (λ (x : Explaining). x.reading) q)

    -- ---- 2 to 9: "the fact named holds of the input and is the one for which reading refused"
    pub explained_2_to_9 : (f : Fault) → length m ≤ byte_limit → outcome m ≡ refused f → needed ≤ length l
        → (ps : List ℕ) × (v : Evidence) × Because m f.number f.place ps v
        × (answer ≡ record {
          number = 0;
          entries = length ps;
          reading = record { number = f.number; place = f.place; words = 0; missing = f.missing };
          evidence = v;
          list = over ps l;
        })
    explained_2_to_9 f h q k =
        let y = fault_why m w f h q in (
          (why m).around,
          (why m).evidence,
          told_why m f q,
          by_why (why m) y (omega (arith, ap (λ (x : Why). length x.around) y))
              ∙ ap (λ r. record { number = 0; entries = length (why m).around; reading = r; evidence = (why m).evidence; list = over (why m).around l }) (fault_reading m w f h q),
        )
