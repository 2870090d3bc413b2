-- Ask 5: "8 is given less often." What messages said while strings were a kind of their own is what they say now, unless they were
-- refused with 8. Assumes nothing.
use Prim.Native.Nat.{ℕ, zero, suc, ◌+◌}
use native.Mathlib.Omega.{arith}
use mathlib.Core.Path.{◌≡◌, refl, sym, ap, ap₂, ◌∙◌, subst}
use mathlib.Core.Logic.{◌≢◌}
use mathlib.Core.Bool.{Bool, true, false}
use mathlib.Core.List.{List, [], ◌∷◌}
use lib.ListN.{length, drop}
use lib.Dec.{eqb}
use Rattle.format.specs.Choice.{pick, if_eq, both, either}
use Rattle.format.specs.Refusals.{several_kinds, bad_edt, here, further}
use Rattle.format.specs.Items.{struc, edt, Items, end, leaf, group, times, INT, CHAR, STRUC, EDT, leaf_kind, group_kind, kinds, all_of, alike, is_string, uniform, starts_int, starts_string, behind, edt_rule}
use Rattle.format.specs.Objects.{Wrap, as_struc, as_ustruc, as_edt, repeated, Head, stop, gives, opens, contents, head_of}
use Rattle.format.specs.Messages.{Outcome, refused, says, Object, bad, got, closing, around, object, onto, next, run, reads, outcome}
use Rattle.format.proofs.Choices.{pick_yes, if_eq_no, by_pick, true_eq, eq_true, eq_false, both_left, both_right, both_true}
use Rattle.format.proofs.TableLaws.{leaf_kind_lem}

-- ---- as it was before
-- the kinds, 9 for a string, and the rules by them
unfoldable pub kinds_before : Items → List ℕ
unfolding leaf_kind all_of pick
kinds_before end = []
kinds_before (leaf l xs) = leaf_kind l ∷ kinds_before xs
kinds_before (group struc c xs) = pick (all_of CHAR (kinds_before c)) 9 STRUC ∷ kinds_before xs
kinds_before (group edt c xs) = EDT ∷ kinds_before xs

unfoldable pub edt_before : List ℕ → Bool
unfolding both either
edt_before [] = false
edt_before (k ∷ []) = false
edt_before (k ∷ l ∷ ks) = both (either (eqb k INT) (eqb k 9)) (eqb l INT)

unfoldable pub closing_before : Wrap → ℕ → Items → Object
unfolding pick alike edt_before kinds_before times
closing_before as_struc u xs = got (group struc xs end) u
closing_before as_ustruc u xs = pick (alike (kinds_before xs)) (got (group struc xs end) u) (bad (here several_kinds))
closing_before as_edt u xs = pick (edt_before (kinds_before xs)) (got (group edt xs end) u) (bad (here bad_edt))
closing_before (repeated k) u xs = got (times k xs) u

unfoldable pub around_before : Wrap → ℕ → ℕ → Outcome → Object
unfolding further closing_before
around_before w h n (refused f) = bad (further (1 + h) f)
around_before w h n (says xs) = closing_before w (h + n) xs

unfoldable pub object_before : (ℕ → ℕ → Outcome) → Head → Object
unfolding around_before
object_before inside (stop f) = bad f
object_before inside (gives xs u) = got xs u
object_before inside (opens w h n) = around_before w h n (inside h n)

unfoldable pub run_before : ℕ → ℕ → List ℕ → Outcome
unfolding next object_before head_of contents
run_before zero d s = says end
run_before (suc f) d [] = says end
run_before (suc f) d (b ∷ s) = next (object_before (λ h n. run_before f (suc d) (contents s h n)) (head_of d b s)) (λ u. run_before f d (drop u s))

unfoldable pub outcome_before : List ℕ → Outcome
unfolding run_before
outcome_before m = run_before (length m) 0 m

-- ---- a string then is a string now
pub same_string : (xs : Items) → all_of CHAR (kinds_before xs) ≡ is_string xs
unfolding is_string all_of kinds kinds_before group_kind
same_string end = refl
same_string (leaf l xs) = ap (both (eqb (leaf_kind l) CHAR)) (same_string xs)
same_string (group struc c xs) = by_pick (λ k. both (eqb k CHAR) (all_of CHAR (kinds_before xs)) ≡ false) (all_of CHAR (kinds_before c)) (λ e. refl) (λ e. refl)
same_string (group edt c xs) = refl

-- ---- of one kind then, of one kind now: the two codes of a STRUC have become one
unfoldable merge : ℕ → ℕ
unfolding if_eq
merge k = if_eq k 9 STRUC k

unfoldable merged : List ℕ → List ℕ
unfolding merge
merged [] = []
merged (k ∷ ks) = merge k ∷ merged ks

kinds_merged : (xs : Items) → kinds xs ≡ merged (kinds_before xs)
unfolding kinds group_kind kinds_before merged merge
kinds_merged end = refl
kinds_merged (leaf l xs) =
    ap₂ (λ k ks. k ∷ ks) (sym (if_eq_no (leaf_kind l) 9 _ _ (λ (z : leaf_kind l ≡ 9). omega (arith, leaf_kind_lem l)))) (kinds_merged xs)
kinds_merged (group struc c xs) = ap₂ (λ k ks. k ∷ ks) (by_pick (λ k. STRUC ≡ merge k) (all_of CHAR (kinds_before c)) (λ e. refl) (λ e. refl)) (kinds_merged xs)
kinds_merged (group edt c xs) = ap (λ ks. EDT ∷ ks) (kinds_merged xs)

all_merged : (k : ℕ) (ks : List ℕ) → all_of k ks ≡ true → all_of (merge k) (merged ks) ≡ true
unfolding all_of merged
all_merged k [] e = refl
all_merged k (l ∷ ks) e =
    both_true (eqb (merge l) (merge k)) (all_of (merge k) (merged ks))
    (eq_true (merge l) (merge k) (ap merge (true_eq l k (both_left (eqb l k) (all_of k ks) e)))) (all_merged k ks (both_right (eqb l k) (all_of k ks) e))

alike_merged : (ks : List ℕ) → alike ks ≡ true → alike (merged ks) ≡ true
unfolding alike merged
alike_merged [] e = refl
alike_merged (k ∷ ks) e = all_merged k ks e

pub still_uniform : (xs : Items) → alike (kinds_before xs) ≡ true → uniform xs ≡ true
unfolding uniform
still_uniform xs e = ap alike (kinds_merged xs) ∙ alike_merged (kinds_before xs) e

-- ---- an EDT's first two elements, then and now: the first is an INT or a string, the second an INT
first_int : (k : ℕ) (xs : Items) → edt_before (k ∷ kinds_before xs) ≡ both (either (eqb k INT) (eqb k 9)) (starts_int xs)
unfolding edt_before kinds_before starts_int
first_int k end = unfold both in by_bool (either (eqb k INT) (eqb k 9))
  where
    by_bool : (t : Bool) → false ≡ both t false
    by_bool true = unfold both in refl
    by_bool false = unfold both in refl
first_int k (leaf l xs) = refl
first_int k (group struc c xs) = by_pick (λ l. both (either (eqb k INT) (eqb k 9)) (eqb l INT) ≡ both (either (eqb k INT) (eqb k 9)) false) (all_of CHAR (kinds_before c)) (λ e. refl) (λ e. refl)
first_int k (group edt c xs) = refl

pub same_edt : (xs : Items) → edt_before (kinds_before xs) ≡ edt_rule xs
unfolding kinds_before edt_rule starts_int starts_string behind either
same_edt end = unfold edt_before both in refl
same_edt (leaf l xs) =
    first_int (leaf_kind l) xs
    ∙ ap (λ t. both (either (eqb (leaf_kind l) INT) t) (starts_int xs)) (eq_false (leaf_kind l) 9 (λ (z : leaf_kind l ≡ 9). omega (arith, leaf_kind_lem l)))
same_edt (group struc c xs) =
    first_int (pick (all_of CHAR (kinds_before c)) 9 STRUC) xs
    ∙ ap (λ t. both t (starts_int xs)) (told (all_of CHAR (kinds_before c)) ∙ ap (either false) (same_string c))
  where
    told : (t : Bool) → either (eqb (pick t 9 STRUC) INT) (eqb (pick t 9 STRUC) 9) ≡ either false t
    told true = unfold pick either in refl
    told false = unfold pick either in refl
same_edt (group edt c xs) = first_int EDT xs

-- ---- whole messages
-- the same, unless it was refused with 8
abbrev pub KeptOutcome : Outcome → Outcome → Type 0
KeptOutcome (refused f) o = f.number ≢ several_kinds → refused f ≡ o
KeptOutcome (says xs) o = says xs ≡ o

abbrev KeptObject : Object → Object → Type 0
KeptObject (bad f) o = f.number ≢ several_kinds → bad f ≡ o
KeptObject (got xs u) o = got xs u ≡ o

kept_same : (o : Object) → KeptObject o o
kept_same (bad f) = λ n. refl
kept_same (got xs u) = refl

kept_closing : (w : Wrap) (u : ℕ) (xs : Items) → KeptObject (closing_before w u xs) (closing w u xs)
unfolding closing_before closing
kept_closing as_struc u xs = refl
kept_closing as_ustruc u xs =
    by_pick (λ o. KeptObject o (closing as_ustruc u xs)) (alike (kinds_before xs)) (λ e. sym (pick_yes (uniform xs) _ _ (still_uniform xs e))) (λ e n. absurd (n refl))
kept_closing as_edt u xs = rw (same_edt xs) (kept_same (closing as_edt u xs))
kept_closing (repeated k) u xs = refl

kept_around : (w : Wrap) (h n : ℕ) (o p : Outcome) → KeptOutcome o p → KeptObject (around_before w h n o) (around w h n p)
unfolding around_before around further
kept_around w h n (refused f) p e = λ q. ap (around w h n) (e q)
kept_around w h n (says xs) p e = subst (λ o. KeptObject (closing_before w (h + n) xs) (around w h n o)) e (kept_closing w (h + n) xs)

kept_object : (before now : ℕ → ℕ → Outcome) (x : Head) → ((h n : ℕ) → KeptOutcome (before h n) (now h n)) → KeptObject (object_before before x) (object now x)
unfolding object_before object
kept_object before now (stop f) e = λ n. refl
kept_object before now (gives xs u) e = refl
kept_object before now (opens w h n) e = kept_around w h n (before h n) (now h n) (e h n)

kept_onto : (xs : Items) (n : ℕ) (o p : Outcome) → KeptOutcome o p → KeptOutcome (onto xs n o) (onto xs n p)
unfolding onto further
kept_onto xs n (refused f) p e = λ q. ap (onto xs n) (e q)
kept_onto xs n (says ys) p e = ap (onto xs n) e

kept_next : (o p : Object) (before now : ℕ → Outcome) → KeptObject o p → ((u : ℕ) → KeptOutcome (before u) (now u)) → KeptOutcome (next o before) (next p now)
unfolding next
kept_next (bad f) p before now e r = λ q. ap (λ x. next x now) (e q)
kept_next (got xs u) p before now e r = subst (λ x. KeptOutcome (onto xs (1 + u) (before u)) (next x now)) e (kept_onto xs (1 + u) (before u) (now u) (r u))

kept_run : (f d : ℕ) (s : List ℕ) → KeptOutcome (run_before f d s) (run f d s)
unfolding run_before run
kept_run zero d s = refl
kept_run (suc f) d [] = refl
kept_run (suc f) d (b ∷ s) =
    let before : ℕ → ℕ → Outcome = λ h n. run_before f (suc d) (contents s h n) in
    let now : ℕ → ℕ → Outcome = λ h n. run f (suc d) (contents s h n) in
    kept_next (object_before before (head_of d b s)) (object now (head_of d b s)) (λ u. run_before f d (drop u s)) (λ u. run f d (drop u s))
    (kept_object before now (head_of d b s) (λ h n. kept_run f (suc d) (contents s h n))) (λ u. kept_run f d (drop u s))

pub kept : (m : List ℕ) → KeptOutcome (outcome_before m) (outcome m)
unfolding outcome_before outcome reads
kept m = kept_run (length m) 0 m

-- and less often it is: the ask's own message was refused with 8 at 0
pub refused_before : outcome_before (0xc5 ∷ 0x06 ∷ 0xc5 ∷ 0x01 ∷ 0x41 ∷ 0xc2 ∷ 0x01 ∷ 0x81 ∷ []) ≡ refused (here several_kinds)
unfolding outcome_before
refused_before = refl
