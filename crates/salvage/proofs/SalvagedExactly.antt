-- Exactly when salvaging gives each number, what it tells, and what is lent afterwards: theorems about the function that the contract of
-- the public operation cites. The words used are in specs/Words.antt. Assumes nothing.
use Prim.Native.Nat.{ℕ, ◌*◌, ◌/◌, ◌≤◌, ◌<◌}
use native.Mathlib.Omega.{arith}
use mathlib.Core.Path.{◌≡◌, refl, sym, ap, ap₂, ◌∙◌, subst}
use mathlib.Core.Logic.{◌≢◌, ◌⊎◌, inl, inr, ⊎_elim, ◌↔◌}
use mathlib.Core.List.{List}
use lib.ListN.{length}
use Rattle.format.specs.Choice.{if_lt}
use Rattle.format.specs.Refusals.{byte_limit}
use Rattle.format.specs.Answers.{over}
use Rattle.format.proofs.Choices.{by_lt, by_eq, if_lt_yes, if_lt_no, if_eq_yes, if_eq_no}
use Rattle.message.proofs.Cases.{both_hold, both_fail}
use Rattle.salvage.specs.Mending.{met_alone, mended, Change, changes_in, change_words, Salvaging, unmended, salvaging}
use Rattle.salvage.specs.Words.{HasRoom, Due, long_input, short_output, short_list, many_items, mends}
use Rattle.salvage.proofs.PartLaws.{changes_whole}
use Rattle.salvage.proofs.MendedLaws.{mended_shorter, changes_fewer}
use Rattle.salvage.proofs.Ample.{result_met}

module _ (m o t : List ℕ) where
  -- what is answered with 0: the bytes that come out over the front of the output, the changes over the front of the list
  abbrev mended_answer : Salvaging
  mended_answer =
      record { number = 0; length = length (mended m); entries = length (changes_in m); output = over (mended m) o; list = over (change_words (changes_in m)) t }

  -- A fact of each answer, with what makes it due, is a fact of the answer: 1, 15, 16, 10, 0.
  salvage_by : (P : Salvaging → Type 0) → (byte_limit < length m → P (unmended 1 0 0 o t))
      → (length m ≤ byte_limit → length o < length (mended m) → P (unmended 15 (length (mended m)) 0 o t))
      → (length m ≤ byte_limit → length (mended m) ≤ length o → length t < 3 * length (changes_in m) → P (unmended 16 0 (length (changes_in m)) o t))
      → (HasRoom m (length o) (length t) → met_alone (mended m) ≡ 10 → P (unmended 10 0 0 o t))
      → (HasRoom m (length o) (length t) → met_alone (mended m) ≡ 0 → P mended_answer)
      → P (salvaging m o t)
  unfolding salvaging
  salvage_by P one room places many all =
      by_lt P byte_limit (length m) one
      (λ s. by_lt P (length o) (length (mended m)) (room s)
      (λ r. by_lt P (length t / 3) (length (changes_in m)) (λ h. places s r (omega arith))
      (λ h.
      let fits : HasRoom m (length o) (length t) = record { short = s; room = r; places = omega arith } in
      by_eq P (met_alone (mended m)) 10 (many fits) (λ n. all fits (⊎_elim (λ e. e) (λ e. absurd (n e)) (result_met m))))))

  -- ---- every answer exactly when it is due, and whole
  pub salvaging_exactly : (r : Salvaging) → (salvaging m o t ≡ r) ↔ Due m o t r
  unfolding salvaging
  salvaging_exactly r = (λ e. subst (Due m o t) e (salvage_by (Due m o t) long_input short_output short_list many_items mends), back r)
    where
      past : {X : Salvaging} → HasRoom m (length o) (length t)
          → if_lt byte_limit (length m) (unmended 1 0 0 o t) (if_lt (length o) (length (mended m)) (unmended 15 (length (mended m)) 0 o t)
          (if_lt (length t / 3) (length (changes_in m)) (unmended 16 0 (length (changes_in m)) o t) X))
          ≡ X
      past f = if_lt_no byte_limit (length m) _ _ f.short ∙ if_lt_no (length o) (length (mended m)) _ _ f.room ∙ if_lt_no (length t / 3) (length (changes_in m)) _ _ (omega (arith, f.places))

      back : (r : Salvaging) → Due m o t r → salvaging m o t ≡ r
      back _ (long_input h) = if_lt_yes byte_limit (length m) _ _ h
      back _ (short_output s h) = if_lt_no byte_limit (length m) _ _ s ∙ if_lt_yes (length o) (length (mended m)) _ _ h
      back _ (short_list s r h) =
          if_lt_no byte_limit (length m) _ _ s ∙ if_lt_no (length o) (length (mended m)) _ _ r ∙ if_lt_yes (length t / 3) (length (changes_in m)) _ _ (omega arith)
      back _ (many_items f e) = past f ∙ if_eq_yes (met_alone (mended m)) 10 _ _ e
      back _ (mends f e) = let n : met_alone (mended m) ≢ 10 = omega arith in past f ∙ if_eq_no (met_alone (mended m)) 10 _ _ n

  -- ---- "Give it anything: it answers and ends": one of the numbers listed, and a refusal leaves "both lent buffers untouched"
  pub salvaging_number : let n = (salvaging m o t).number in (n ≡ 0) ⊎ ((n ≡ 1) ⊎ ((n ≡ 10) ⊎ ((n ≡ 15) ⊎ (n ≡ 16))))
  salvaging_number =
      salvage_by (λ (r : Salvaging). (r.number ≡ 0) ⊎ ((r.number ≡ 1) ⊎ ((r.number ≡ 10) ⊎ ((r.number ≡ 15) ⊎ (r.number ≡ 16)))))
      (λ h. inr (inl refl)) (λ s h. inr (inr (inr (inl refl)))) (λ s r h. inr (inr (inr (inr refl)))) (λ f e. inr (inr (inl refl))) (λ f e. inl refl)

  pub refused_salvaging : (salvaging m o t).number ≢ 0 → ((salvaging m o t).output ≡ o) × ((salvaging m o t).list ≡ t)
  refused_salvaging =
      salvage_by (λ (r : Salvaging). r.number ≢ 0 → (r.output ≡ o) × (r.list ≡ t)) (λ h n. (refl, refl)) (λ s h n. (refl, refl)) (λ s r h n. (refl, refl))
      (λ f e n. (refl, refl)) (λ f e n. absurd (n refl))

  -- ---- each number exactly when it is due: "1; then 15 for a short output, then 16 for a short list, then 10 for the result"
  pub salvaging_1 : ((salvaging m o t).number ≡ 1) ↔ (byte_limit < length m)
  salvaging_1 =
      salvage_by (λ (r : Salvaging). (r.number ≡ 1) ↔ (byte_limit < length m)) (λ h. both_hold refl h) (λ s h. both_fail (λ z. omega arith) (λ x. omega arith))
      (λ s r h. both_fail (λ z. omega arith) (λ x. omega arith)) (λ f e. both_fail (λ z. omega arith) (λ x. omega (arith, f.short)))
      (λ f e. both_fail (λ z. omega arith) (λ x. omega (arith, f.short)))

  abbrev ShortOutput : Type 0
  ShortOutput = (length m ≤ byte_limit) × (length o < length (mended m))

  pub salvaging_15 : ((salvaging m o t).number ≡ 15) ↔ ((length m ≤ byte_limit) × (length o < length (mended m)))
  salvaging_15 =
      salvage_by (λ (r : Salvaging). (r.number ≡ 15) ↔ ShortOutput) (λ h. both_fail (λ z. omega arith) (λ x. omega (arith, x.0)))
      (λ s h. both_hold refl (s, h)) (λ s r h. both_fail (λ z. omega arith) (λ x. omega (arith, x.1)))
      (λ f e. both_fail (λ z. omega arith) (λ x. omega (arith, x.1, f.room))) (λ f e. both_fail (λ z. omega arith) (λ x. omega (arith, x.1, f.room)))

  abbrev ShortList : Type 0
  ShortList = (length m ≤ byte_limit) × (length (mended m) ≤ length o) × (length t < 3 * length (changes_in m))

  pub salvaging_16 : ((salvaging m o t).number ≡ 16) ↔ ((length m ≤ byte_limit) × (length (mended m) ≤ length o) × (length t < 3 * length (changes_in m)))
  salvaging_16 =
      salvage_by (λ (r : Salvaging). (r.number ≡ 16) ↔ ShortList) (λ h. both_fail (λ z. omega arith) (λ x. omega (arith, x.0)))
      (λ s h. both_fail (λ z. omega arith) (λ x. omega (arith, x.1))) (λ s r h. both_hold refl (s, r, h))
      (λ f e. both_fail (λ z. omega arith) (λ x. omega (arith, x.2, f.places))) (λ f e. both_fail (λ z. omega arith) (λ x. omega (arith, x.2, f.places)))

  module _ (n : ℕ) where
    abbrev Comes : Type 0
    Comes = HasRoom m (length o) (length t) × (met_alone (mended m) ≡ n)

    not_long : byte_limit < length m → ¬ Comes
    not_long h x = omega (arith, x.0.short)

    not_out : length o < length (mended m) → ¬ Comes
    not_out h x = omega (arith, x.0.room)

    not_listed : length t < 3 * length (changes_in m) → ¬ Comes
    not_listed h x = omega (arith, x.0.places)

  -- where there is room, by the number of what comes out
  comes : (n : ℕ) → n ≢ 1 → n ≢ 15 → n ≢ 16 → ((salvaging m o t).number ≡ n) ↔ Comes n
  comes n a b c =
      salvage_by (λ (r : Salvaging). (r.number ≡ n) ↔ Comes n) (λ h. both_fail (λ z. a (sym z)) (not_long n h)) (λ s h. both_fail (λ z. b (sym z)) (not_out n h))
      (λ s r h. both_fail (λ z. c (sym z)) (not_listed n h)) (λ f e. (λ z. (f, e ∙ z), λ x. sym e ∙ x.1)) (λ f e. (λ z. (f, e ∙ z), λ x. sym e ∙ x.1))

  pub salvaging_10 : ((salvaging m o t).number ≡ 10) ↔ (HasRoom m (length o) (length t) × (met_alone (mended m) ≡ 10))
  salvaging_10 = comes 10 (omega arith) (omega arith) (omega arith)

  pub salvaging_0 : ((salvaging m o t).number ≡ 0) ↔ (HasRoom m (length o) (length t) × (met_alone (mended m) ≡ 0))
  salvaging_0 = comes 0 (omega arith) (omega arith) (omega arith)

-- the whole answer with 0, by what comes out and what is listed
pub answer_by : (m o t b : List ℕ) (l : List Change) → mended m ≡ b → changes_in m ≡ l → length m ≤ byte_limit → met_alone b ≡ 0 → length b ≤ length o
    → 3 * length l ≤ length t
    → salvaging m o t ≡ record { number = 0; length = length b; entries = length l; output = over b o; list = over (change_words l) t }
answer_by m o t b l e f short sound room places =
    (salvaging_exactly m o t _).1
    (mends (record { short = short; room = omega (arith, ap length e); places = omega (arith, ap length f) }) (ap met_alone e ∙ sound))
    ∙ ap₂ (λ (x : List ℕ) (y : List Change). record { number = 0; length = length x; entries = length y; output = over x o; list = over (change_words y) t }) e f

-- ---- to lend what 15 and 16 tell is enough
pub lend_output : (m o t u : List ℕ) → (salvaging m o t).number ≡ 15 → (salvaging m o t).length ≤ length u → (salvaging m u t).number ≢ 15
lend_output m o t u e h z =
    let x = (salvaging_15 m o t).0 e in
    omega (arith, h, ap (λ (r : Salvaging). r.length) ((salvaging_exactly m o t _).1 (short_output x.0 x.1)), ((salvaging_15 m u t).0 z).1)

pub lend_list : (m o t u : List ℕ) → (salvaging m o t).number ≡ 16 → 3 * (salvaging m o t).entries ≤ length u
    → ((salvaging m o u).number ≢ 15) × ((salvaging m o u).number ≢ 16)
lend_list m o t u e h =
    let x = (salvaging_16 m o t).0 e in (
      λ z. omega (arith, x.1, ((salvaging_15 m o u).0 z).1),
      λ z. omega (arith, h, ap (λ (r : Salvaging). r.entries) ((salvaging_exactly m o t _).1 (short_list x.0 x.1 x.2)), ((salvaging_16 m o u).0 z).2),
    )

-- an output as long as the input, and a list of three words for each of its bytes, are always enough
pub room_enough : (m o t : List ℕ) → length m ≤ length o → 3 * length m ≤ length t → ((salvaging m o t).number ≢ 15) × ((salvaging m o t).number ≢ 16)
room_enough m o t a b = (
  λ z. omega (arith, ((salvaging_15 m o t).0 z).1, mended_shorter m),
  λ z. omega (arith, ((salvaging_16 m o t).0 z).2, changes_fewer 0 m, ap length (changes_whole m)),
)
