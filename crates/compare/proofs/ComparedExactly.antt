-- Exactly when comparing gives each number, what it tells, and what the lent list holds: theorems about the function that the contract
-- of the public operation cites. The words used are in specs/Places.antt, and in the specs of the crate message. Assumes nothing.
use Prim.Native.Nat.{ℕ, ◌*◌, ◌/◌, ◌≤◌, ◌<◌}
use mathlib.Core.Path.{◌≡◌, refl, sym, ap, ap₂, ◌∙◌}
use mathlib.Core.Logic.{◌≢◌, ◌↔◌, ◌⊎◌, inl, inr}
use mathlib.Core.Option.{Option, none, some}
use mathlib.Core.List.{List, [], ◌++◌}
use native.Mathlib.Omega.{arith}
use lib.ListN.{length, take, drop}
use Rattle.format.specs.Items.{Items}
use Rattle.format.specs.Tables.{items_of}
use Rattle.format.specs.Answers.{over}
use Rattle.format.proofs.Choices.{by_lt, if_lt_no}
use Rattle.format.proofs.TableLaws.{lawful_rows}
use Rattle.message.specs.Words.{IsTable, NoTable, headed}
use Rattle.message.proofs.Cases.{both_hold, both_fail, no_items, items_of_table, table_of_items, one_table}
use Rattle.message.proofs.WriteExactly.{same_items_lem}
use Rattle.compare.specs.Differences.{changes, entries, Comparing, answered, differing, comparing_of, comparing}
use Rattle.compare.specs.Places.{turned}
use Rattle.compare.proofs.DifferenceLaws.{changes_none, changes_few}
use Rattle.compare.proofs.Turning.{changes_turned}
use Rattle.compare.proofs.ListLaws.{entries_length, no_length}

-- ---- the cases
-- two tables are compared by their items
pub of_tables : (w v t : List ℕ) (xs ys : Items) → IsTable w xs → IsTable v ys → comparing w v t ≡ differing (changes xs ys) t
unfolding comparing comparing_of
of_tables w v t xs ys i j = rw (items_of_table w xs i, items_of_table v ys j) refl

-- a fact of each answer, with what makes it due, is a fact of the answer: 12 for the left, 12 for the right, 16, 0
compare_by : (w v t : List ℕ) (P : Comparing → Type 0) → (NoTable w → P (answered 12 0 t)) → (NoTable v → P (answered 12 0 t))
    → ((xs ys : Items) → IsTable w xs → IsTable v ys → length t / 2 < length (changes xs ys) → P (answered 16 (length (changes xs ys)) t))
    → ((xs ys : Items) → IsTable w xs → IsTable v ys → length (changes xs ys) ≤ length t / 2
    → P (answered 0 (length (changes xs ys)) (over (entries (changes xs ys)) t)))
    → P (comparing w v t)
unfolding comparing
compare_by w v t P f g h k = go (items_of w) (items_of v) refl refl
  where
    go : (x y : Option Items) → items_of w ≡ x → items_of v ≡ y → P (comparing_of x y t)
    go none y i j = unfold comparing_of in f (no_items w i)
    go (some xs) none i j = unfold comparing_of in g (no_items v j)
    go (some xs) (some ys) i j =
        unfold comparing_of differing in
        by_lt P (length t / 2) (length (changes xs ys)) (h xs ys (table_of_items w xs i) (table_of_items v ys j)) (k xs ys (table_of_items w xs i) (table_of_items v ys j))

-- ---- Demand 1: anything gets an answer, one of the numbers listed, and a refusal leaves the list untouched
pub comparing_number : (w v t : List ℕ) → let n = (comparing w v t).number in (n ≡ 0) ⊎ ((n ≡ 12) ⊎ (n ≡ 16))
comparing_number w v t =
    compare_by w v t (λ (r : Comparing). (r.number ≡ 0) ⊎ ((r.number ≡ 12) ⊎ (r.number ≡ 16))) (λ n. inr (inl refl)) (λ n. inr (inl refl))
    (λ xs ys i j h. inr (inr refl)) (λ xs ys i j h. inl refl)

pub refused_comparing : (w v t : List ℕ) → (comparing w v t).number ≢ 0 → (comparing w v t).list ≡ t
refused_comparing w v t =
    compare_by w v t (λ (r : Comparing). r.number ≢ 0 → r.list ≡ t) (λ n e. refl) (λ n e. refl) (λ xs ys i j h e. refl) (λ xs ys i j h e. absurd (e refl))

-- ---- each number exactly when it is due: "12 for either table, then 16 if the lent list is too short"
pub comparing_12 : (w v t : List ℕ) → ((comparing w v t).number ≡ 12) ↔ (NoTable w ⊎ NoTable v)
comparing_12 w v t =
    compare_by w v t (λ (r : Comparing). (r.number ≡ 12) ↔ (NoTable w ⊎ NoTable v)) (λ n. both_hold refl (inl n)) (λ n. both_hold refl (inr n))
    (λ xs ys i j h. both_fail (λ z. omega arith) (not_either xs ys i j)) (λ xs ys i j h. both_fail (λ z. omega arith) (not_either xs ys i j))
  where
    not_either : (xs ys : Items) → IsTable w xs → IsTable v ys → ¬ (NoTable w ⊎ NoTable v)
    not_either xs ys i j (inl n) = n xs i
    not_either xs ys i j (inr n) = n ys j

-- two tables have one number of differences
one_number : (w v : List ℕ) (xs xs' ys ys' : Items) → IsTable w xs → IsTable w xs' → IsTable v ys → IsTable v ys' → length (changes xs ys) ≡ length (changes xs' ys')
one_number w v xs xs' ys ys' i i' j j' = ap₂ (λ a b. length (changes a b)) (one_table w xs xs' i i') (one_table v ys ys' j j')

pub comparing_16 : (w v t : List ℕ)
    → ((comparing w v t).number ≡ 16) ↔ ((xs : Items) × ((ys : Items) × (IsTable w xs × IsTable v ys × (length t / 2 < length (changes xs ys)))))
comparing_16 w v t =
    compare_by w v t (λ (r : Comparing). (r.number ≡ 16) ↔ ((xs : Items) × ((ys : Items) × (IsTable w xs × IsTable v ys × (length t / 2 < length (changes xs ys))))))
    (λ n. both_fail (λ z. omega arith) (λ x. n x.0 x.1.1.0)) (λ n. both_fail (λ z. omega arith) (λ x. n x.1.0 x.1.1.1))
    (λ xs ys i j h. both_hold refl (xs, (ys, (i, j, h))))
    (λ xs ys i j h. both_fail (λ z. omega arith)
    (λ x. omega (arith, h, x.1.1.2, one_number w v xs x.0 ys x.1.0 i x.1.1.0 j x.1.1.1)))

pub comparing_0 : (w v t : List ℕ)
    → ((comparing w v t).number ≡ 0) ↔ ((xs : Items) × ((ys : Items) × (IsTable w xs × IsTable v ys × (length (changes xs ys) ≤ length t / 2))))
comparing_0 w v t =
    compare_by w v t (λ (r : Comparing). (r.number ≡ 0) ↔ ((xs : Items) × ((ys : Items) × (IsTable w xs × IsTable v ys × (length (changes xs ys) ≤ length t / 2)))))
    (λ n. both_fail (λ z. omega arith) (λ x. n x.0 x.1.1.0)) (λ n. both_fail (λ z. omega arith) (λ x. n x.1.0 x.1.1.1))
    (λ xs ys i j h. both_fail (λ z. omega arith)
    (λ x. omega (arith, h, x.1.1.2, one_number w v xs x.0 ys x.1.0 i x.1.1.0 j x.1.1.1)))
    (λ xs ys i j h. both_hold refl (xs, (ys, (i, j, h))))

-- ---- what is told: the entries of the list with 0, those needed with 16, none with 12
pub entries_told : (w v t : List ℕ) (xs ys : Items) → IsTable w xs → IsTable v ys → (comparing w v t).entries ≡ length (changes xs ys)
unfolding differing
entries_told w v t xs ys i j =
    ap (λ (r : Comparing). r.entries) (of_tables w v t xs ys i j)
    ∙ by_lt (λ (r : Comparing). r.entries ≡ length (changes xs ys)) (length t / 2) (length (changes xs ys)) (λ h. refl) (λ h. refl)

pub no_entries : (w v t : List ℕ) → (comparing w v t).number ≡ 12 → (comparing w v t).entries ≡ 0
no_entries w v t =
    compare_by w v t (λ (r : Comparing). r.number ≡ 12 → r.entries ≡ 0) (λ n e. refl) (λ n e. refl) (λ xs ys i j h e. absurd (omega arith)) (λ xs ys i j h e. absurd (omega arith))

-- with 0 the list begins with the differences, and nothing past them changes
pub list_told : (w v t : List ℕ) (xs ys : Items) → IsTable w xs → IsTable v ys → length (changes xs ys) ≤ length t / 2
    → comparing w v t ≡ answered 0 (length (changes xs ys)) (entries (changes xs ys) ++ drop (2 * length (changes xs ys)) t)
unfolding differing over
list_told w v t xs ys i j h =
    of_tables w v t xs ys i j ∙ if_lt_no (length t / 2) (length (changes xs ys)) _ _ h
    ∙ ap (λ n. answered 0 (length (changes xs ys)) (entries (changes xs ys) ++ drop n t)) (entries_length (changes xs ys))

-- to lend what 16 tells is enough
pub lend_told : (w v t u : List ℕ) → (comparing w v t).number ≡ 16 → 2 * (comparing w v t).entries ≤ length u → (comparing w v u).number ≡ 0
lend_told w v t u e h =
    let x = (comparing_16 w v t).0 e in
    (comparing_0 w v u).1 (x.0, (x.1.0, (x.1.1.0, x.1.1.1, omega (arith, h, entries_told w v t x.0 x.1.0 x.1.1.0 x.1.1.1))))

-- 16 tells more entries than there was room for, so to lend what was told comes to an end
pub told_more : (w v t : List ℕ) → (comparing w v t).number ≡ 16 → (length t / 2 < (comparing w v t).entries) × ((comparing w v t).entries ≤ 16384)
told_more w v t e =
    let x = (comparing_16 w v t).0 e in
    let n = entries_told w v t x.0 x.1.0 x.1.1.0 x.1.1.1 in
    (omega (arith, n, x.1.1.2), omega (arith, n, changes_few 16384 x.0 x.1.0 (omega arith) (lawful_rows x.0 x.1.1.0.lawful)))

-- 16,384 entries are always enough
pub list_enough : (w v t : List ℕ) → 32768 ≤ length t → (comparing w v t).number ≢ 16
list_enough w v t h e = let m = told_more w v t e in omega (arith, m.0, m.1)

none_differing : (t : List ℕ) → differing [] t ≡ answered 0 0 t
unfolding differing over entries
none_differing t = if_lt_no (length t / 2) 0 _ _ (omega arith)

-- ---- "it is empty exactly when the items are the same": number 0, no entries, and the list as lent
pub nothing_changed : (w v t : List ℕ) (xs ys : Items) → IsTable w xs → IsTable v ys → (comparing w v t ≡ answered 0 0 t) ↔ (xs ≡ ys)
unfolding over entries
nothing_changed w v t xs ys i j = (
  λ e. (changes_none xs ys).0 (no_length (changes xs ys) (sym (entries_told w v t xs ys i j) ∙ ap (λ (r : Comparing). r.entries) e)),
  λ e. of_tables w v t xs ys i j ∙ ap (λ l. differing l t) ((changes_none xs ys).1 e) ∙ none_differing t,
)

-- ---- comparing the other way round
pub turned_answer : (w v t : List ℕ) (xs ys : Items) → IsTable w xs → IsTable v ys → comparing v w t ≡ differing (turned (changes xs ys)) t
turned_answer w v t xs ys i j = of_tables v w t ys xs j i ∙ ap (λ l. differing l t) (changes_turned xs ys)

-- ---- "Words past the data belong to the caller and are neither read nor changed."
pub left_past : (w v u t : List ℕ) → take (headed w) w ≡ take (headed w) u → comparing w v t ≡ comparing u v t
unfolding comparing
left_past w v u t e = ap (λ i. comparing_of i (items_of v) t) (same_items_lem w u e)

pub right_past : (w v u t : List ℕ) → take (headed v) v ≡ take (headed v) u → comparing w v t ≡ comparing w u t
unfolding comparing
right_past w v u t e = ap (λ i. comparing_of (items_of w) i t) (same_items_lem v u e)
