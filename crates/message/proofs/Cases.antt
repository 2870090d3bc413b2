-- What holds of the three answers case by case: the ground of the theorems in Demands.antt, ReadExactly.antt,
-- WriteExactly.antt, OneCall.antt and NormaliseExactly.antt. Assumes nothing.
use Prim.Native.Nat.{ℕ, ◌≤◌, ◌<◌}
use mathlib.Core.Path.{◌≡◌, refl, sym, ap, ◌∙◌, subst}
use mathlib.Core.Logic.{inl, inr, ◌↔◌}
use mathlib.Core.Option.{Option, none, some}
use mathlib.Core.List.{List, ◌++◌}
use native.Mathlib.Omega.{arith}
use lib.ListN.{length, drop, take-append-drop}
use Rattle.format.specs.Refusals.{Fault, byte_limit, row_limit, word_limit, depth_limit}
use Rattle.format.specs.Items.{Items}
use Rattle.format.specs.Messages.{Outcome, refused, says, outcome}
use Rattle.format.specs.Tables.{rows, data_words, table_of, words_needed, items_of}
use Rattle.format.specs.Normal.{normal, depth}
use Rattle.format.specs.Answers.{Reading, unread, faulty, over, laid, reading_of, reading, Writing, unwritten, put, writing_of, writing}
use Rattle.format.proofs.Choices.{if_lt_yes, if_lt_no, by_lt, split}
use Rattle.format.proofs.Faults.{fault_inside, few_missing}
use Rattle.format.proofs.TableLaws.{table_back, table_only}
use Rattle.message.specs.Words.{Says, NoneDue, OverLimits, IsTable, NoTable, Unwritable, no_table, too_deep, too_long, Writable}

-- two things that both hold, or that both fail
pub both_hold {ℓ κ} : {A : Type ℓ} {B : Type κ} → A → B → A ↔ B
both_hold a b = (λ x. b, λ x. a)

pub both_fail {ℓ κ} : {A : Type ℓ} {B : Type κ} → ¬ A → ¬ B → A ↔ B
both_fail a b = (λ x. absurd (a x), λ x. absurd (b x))

-- ---- reading
-- what is said is not refused, and is said alone
pub not_both : (m : List ℕ) (xs : Items) (f : Fault) → Says m xs → ¬ (outcome m ≡ refused f)
not_both m xs f s e = let z : ◌≡◌ {A = ℕ} 0 1 = cc in absurd (omega arith)

pub said_once : (m : List ℕ) (xs ys : Items) → Says m xs → Says m ys → xs ≡ ys
said_once m xs ys s e = cc

-- A fact of each answer that reading can give, with what makes it due, is a fact of its answer: 1; 2 to 9; 10; 11; 0.
pub read_by : (m t : List ℕ) (P : Reading → Type 0) → (byte_limit < length m → P (unread 1 0 t))
    → ((f : Fault) → length m ≤ byte_limit → outcome m ≡ refused f → P (faulty f t))
    → ((xs : Items) → length m ≤ byte_limit → Says m xs → OverLimits xs → P (unread 10 0 t))
    → ((xs : Items) → NoneDue m xs (words_needed xs) → length t < words_needed xs → P (unread 11 (words_needed xs) t))
    → ((xs : Items) → NoneDue m xs (length t) → P (record { number = 0; place = 0; words = words_needed xs; missing = 0; table = over (table_of xs) t }))
    → P (reading m t)
unfolding reading
read_by m t P one fault many room all = by_lt P byte_limit (length m) one (λ l. go (outcome m) l refl)
  where
    go : (o : Outcome) → length m ≤ byte_limit → outcome m ≡ o → P (reading_of o t)
    go (refused f) l e = unfold reading_of in fault f l e
    go (says xs) l e =
        unfold reading_of laid in
        by_lt P row_limit (rows xs) (λ h. many xs l e (inl h))
        (λ r. by_lt P word_limit (length (data_words xs)) (λ h. many xs l e (inr h))
        (λ w. by_lt P (length t) (words_needed xs)
        (room xs (record { short = l; said = e; few_rows = r; few_words = w; room = omega arith }))
        (λ n. all xs (record { short = l; said = e; few_rows = r; few_words = w; room = n }))))

-- accepted, with everything determined; or refused with one of the numbers 1 to 11, at most 65,536 bytes missing, and the table as
-- lent
pub data Read (m t : List ℕ) : Reading → Type 0 where
  accepted : (xs : Items) → NoneDue m xs (length t)
      → Read m t (record { number = 0; place = 0; words = words_needed xs; missing = 0; table = over (table_of xs) t })
  no_reading : (n p w k : ℕ) → 1 ≤ n → n ≤ 11 → k ≤ byte_limit → Read m t (record { number = n; place = p; words = w; missing = k; table = t })

pub read_cases : (m t : List ℕ) → Read m t (reading m t)
read_cases m t =
    read_by m t (Read m t) (λ h. no_reading 1 0 0 0 (omega arith) (omega arith) (omega arith))
    (λ f l e.
    let n = fault_inside m f e in
    no_reading f.number f.place 0 f.missing (omega arith) (omega arith) (few_missing m f e))
    (λ xs l s h. no_reading 10 0 0 0 (omega arith) (omega arith) (omega arith))
    (λ xs d h. no_reading 11 0 (words_needed xs) 0 (omega arith) (omega arith) (omega arith))
    accepted

pub read_due : (m t : List ℕ) (xs : Items) → NoneDue m xs (length t)
    → reading m t ≡ record { number = 0; place = 0; words = words_needed xs; missing = 0; table = over (table_of xs) t }
unfolding reading reading_of laid
read_due m t xs f =
    if_lt_no byte_limit (length m) _ _ f.short ∙ ap (λ o. reading_of o t) f.said
    ∙ if_lt_no row_limit (rows xs) _ _ f.few_rows ∙ if_lt_no word_limit (length (data_words xs)) _ _ f.few_words
    ∙ if_lt_no (length t) (words_needed xs) _ _ f.room

pub read_fault : (m t : List ℕ) (f : Fault) → length m ≤ byte_limit → outcome m ≡ refused f → reading m t ≡ faulty f t
unfolding reading reading_of
read_fault m t f l e = if_lt_no byte_limit (length m) _ _ l ∙ ap (λ o. reading_of o t) e

-- ---- writing
-- a table is judged to be the table of some items exactly when it is
pub items_of_table : (w : List ℕ) (xs : Items) → IsTable w xs → items_of w ≡ some xs
items_of_table w xs i =
    subst (λ l. items_of l ≡ some xs) (ap (λ l. l ++ drop (length (table_of xs)) w) (sym i.exact) ∙ take-append-drop (length (table_of xs)) w)
    (table_back xs (drop (length (table_of xs)) w) i.lawful)

pub table_of_items : (w : List ℕ) (xs : Items) → items_of w ≡ some xs → IsTable w xs
table_of_items w xs e = let h = table_only w xs e in record { lawful = h.0; exact = h.2 }

pub no_items : (w : List ℕ) → items_of w ≡ none → NoTable w
no_items w e xs i = let s = items_of_table w xs i in let z : ◌≡◌ {A = ℕ} 0 1 = cc in absurd (omega arith)

-- words are the table of one list of items at most
pub one_table : (w : List ℕ) (xs ys : Items) → IsTable w xs → IsTable w ys → xs ≡ ys
one_table w xs ys i j =
    let e = items_of_table w xs i in
    let f = items_of_table w ys j in
    cc

pub same_depth : (w : List ℕ) (xs ys : Items) → IsTable w xs → IsTable w ys → depth xs ≡ depth ys
same_depth w xs ys i j = ap depth (one_table w xs ys i j)

pub same_length : (w : List ℕ) (xs ys : Items) → IsTable w xs → IsTable w ys → length (normal xs) ≡ length (normal ys)
same_length w xs ys i j = ap (λ z. length (normal z)) (one_table w xs ys i j)

-- A table is judged before its output is looked at: it is refused alike whatever is lent, or its normal form is put there.
pub data JudgedFirst (w : List ℕ) : Type 0 where
  no_form : (n : ℕ) → Unwritable w n → ((o : List ℕ) → writing w o ≡ unwritten n 0 o) → JudgedFirst w
  form : (xs : Items) → IsTable w xs → Writable xs (length (normal xs)) → ((o : List ℕ) → writing w o ≡ put o (normal xs)) → JudgedFirst w

pub judged : (w : List ℕ) → JudgedFirst w
unfolding writing
judged w = go (items_of w) refl
  where
    go : (i : Option Items) → items_of w ≡ i → JudgedFirst w
    go none e = no_form 12 (no_table (no_items w e)) (λ o. ap (λ i. writing_of i o) e ∙ (unfold writing_of in refl))
    go (some xs) e =
        let t = table_of_items w xs e in
        split depth_limit (depth xs)
        (λ h. no_form 13 (too_deep xs t h) (λ o. ap (λ i. writing_of i o) e ∙ (unfold writing_of in if_lt_yes depth_limit (depth xs) _ _ h)))
        (λ d. split byte_limit (length (normal xs))
        (λ h. no_form 14 (too_long xs t d h) (λ o.
        ap (λ i. writing_of i o) e ∙ (unfold writing_of in if_lt_no depth_limit (depth xs) _ _ d ∙ if_lt_yes byte_limit (length (normal xs)) _ _ h)))
        (λ l. form xs t (record { shallow = d; short = l; room = omega arith }) (λ o.
        ap (λ i. writing_of i o) e ∙ (unfold writing_of in if_lt_no depth_limit (depth xs) _ _ d ∙ if_lt_no byte_limit (length (normal xs)) _ _ l))))

-- A fact of each answer that writing can give, with what makes it due, is a fact of its answer: 12; 13; 14; 15; 0.
pub write_by : (w o : List ℕ) (P : Writing → Type 0) → (NoTable w → P (unwritten 12 0 o))
    → ((xs : Items) → IsTable w xs → depth_limit < depth xs → P (unwritten 13 0 o))
    → ((xs : Items) → IsTable w xs → depth xs ≤ depth_limit → byte_limit < length (normal xs) → P (unwritten 14 0 o))
    → ((xs : Items) → IsTable w xs → Writable xs (length (normal xs)) → length o < length (normal xs)
    → P (unwritten 15 (length (normal xs)) o))
    → ((xs : Items) → IsTable w xs → Writable xs (length o)
    → P (record { number = 0; length = length (normal xs); output = over (normal xs) o }))
    → P (writing w o)
write_by w o P wrong deep long room all = go (judged w)
  where
    refuse : (n : ℕ) → Unwritable w n → P (unwritten n 0 o)
    refuse n (no_table x) = wrong x
    refuse n (too_deep xs i d) = deep xs i d
    refuse n (too_long xs i d l) = long xs i d l

    go : JudgedFirst w → P (writing w o)
    go (no_form n u f) = subst P (sym (f o)) (refuse n u)
    go (form xs i c f) =
        subst P (sym (f o))
        (unfold put in
        by_lt P (length o) (length (normal xs)) (room xs i c) (λ r. all xs i (record { shallow = c.shallow; short = c.short; room = r })))

-- written, with everything determined; or refused with one of the numbers 12 to 15, and the output as lent
pub data WriteCase (w o : List ℕ) : Writing → Type 0 where
  written : (xs : Items) → IsTable w xs → Writable xs (length o)
      → WriteCase w o (record { number = 0; length = length (normal xs); output = over (normal xs) o })
  no_writing : (n l : ℕ) → 12 ≤ n → n ≤ 15 → WriteCase w o (record { number = n; length = l; output = o })

pub write_cases : (w o : List ℕ) → WriteCase w o (writing w o)
write_cases w o =
    write_by w o (WriteCase w o) (λ n. no_writing 12 0 (omega arith) (omega arith)) (λ xs t d. no_writing 13 0 (omega arith) (omega arith))
    (λ xs t d l. no_writing 14 0 (omega arith) (omega arith))
    (λ xs t f r. no_writing 15 (length (normal xs)) (omega arith) (omega arith))
    written

pub write_writable : (w o : List ℕ) (xs : Items) → items_of w ≡ some xs → Writable xs (length o)
    → writing w o ≡ record { number = 0; length = length (normal xs); output = over (normal xs) o }
unfolding writing writing_of put
write_writable w o xs e f =
    ap (λ i. writing_of i o) e
    ∙ if_lt_no depth_limit (depth xs) _ _ f.shallow ∙ if_lt_no byte_limit (length (normal xs)) _ _ f.short
    ∙ if_lt_no (length o) (length (normal xs)) _ _ f.room
