-- Ask 5: "For a USTRUC, strings and other STRUCs are one kind; an EDT stays its own." Assumes nothing.
use Prim.Native.Nat.{ℕ, suc}
use native.Mathlib.Omega.{arith}
use mathlib.Core.Path.{◌≡◌, refl, sym, ap, ◌∙◌, subst}
use mathlib.Core.Bool.{true}
use mathlib.Core.List.{List, [], ◌∷◌, ◌++◌}
use lib.ListN.{length}
use lib.Dec.{eqb}
use Rattle.format.specs.Refusals.{Fault}
use Rattle.format.specs.Items.{Group, struc, edt, Items, group, join, INT, BITS, CHAR, BOOL, EMPTY, XTRA, STRUC, EDT, leaf_kind, group_kind, kinds, all_of, alike, uniform, edt_rule}
use Rattle.format.specs.declared.Class.{Class}
use Rattle.format.specs.declared.Class.TheVariants as C
use Rattle.format.specs.Classes.{class_of}
use Rattle.format.specs.Objects.{Wrap, as_struc, as_ustruc, as_edt, repeated, Head, stop, gives, opens, contents, head_by, head_of}
use Rattle.format.specs.Messages.{Outcome, refused, says, Object, bad, got, closing, around, object, reads}
use Rattle.format.proofs.Choices.{by_pick, true_eq, both_left, both_right}
use Rattle.format.proofs.Counts.{kinds_join}
use Rattle.format.proofs.HeadCases.{FaultWithin, by_linteger, by_sbitstr, by_lbitstr, by_string, by_group}
use Rattle.format.specs.Runs.{object_at}

-- ---- the class of an object tells the kind of its item, whatever it holds
-- What a class tells of the kinds of the items that stand there. A REPEAT has no item of its own, and nothing is claimed of it;
-- what is reserved is never accepted.
abbrev pub KindsBy : Class → List ℕ → Type 0
KindsBy C.Char7 ks = ks ≡ CHAR ∷ []
KindsBy C.Sinteger ks = ks ≡ INT ∷ []
KindsBy C.Linteger ks = ks ≡ INT ∷ []
KindsBy C.Sbitstr ks = ks ≡ BITS ∷ []
KindsBy C.Lbitstr ks = ks ≡ BITS ∷ []
KindsBy C.String ks = ks ≡ STRUC ∷ []
KindsBy C.Struc ks = ks ≡ STRUC ∷ []
KindsBy C.Ustruc ks = ks ≡ STRUC ∷ []
KindsBy C.Edt ks = ks ≡ EDT ∷ []
KindsBy C.Repeat ks = Unit {0}
KindsBy C.Xtra ks = ks ≡ XTRA ∷ []
KindsBy C.Bool ks = ks ≡ BOOL ∷ []
KindsBy C.Empty ks = ks ≡ EMPTY ∷ []
KindsBy C.Padding ks = ks ≡ []
KindsBy C.Reserved ks = ⊥

-- the same of a head, of a container and of an object, where it is not refused
abbrev ClosesAs : List ℕ → Wrap → Type 0
ClosesAs ks as_struc = STRUC ∷ [] ≡ ks
ClosesAs ks as_ustruc = STRUC ∷ [] ≡ ks
ClosesAs ks as_edt = EDT ∷ [] ≡ ks
ClosesAs ks (repeated k) = ⊥

abbrev HeadAs : List ℕ → Head → Type 0
HeadAs ks (stop f) = Unit {0}
HeadAs ks (gives xs u) = kinds xs ≡ ks
HeadAs ks (opens w h n) = ClosesAs ks w

abbrev GivesAs : List ℕ → Object → Type 0
GivesAs ks (bad f) = Unit {0}
GivesAs ks (got xs u) = kinds xs ≡ ks

abbrev Bad : Object → Type 0
Bad (bad f) = Unit {0}
Bad (got xs u) = ⊥

closing_as : (ks : List ℕ) (w : Wrap) (u : ℕ) (xs : Items) → ClosesAs ks w → GivesAs ks (closing w u xs)
unfolding closing kinds group_kind
closing_as ks as_struc u xs e = e
closing_as ks as_ustruc u xs e = by_pick (GivesAs ks) (uniform xs) (λ q. e) (λ q. tt)
closing_as ks as_edt u xs e = by_pick (GivesAs ks) (edt_rule xs) (λ q. e) (λ q. tt)
closing_as ks (repeated k) u xs e = absurd e

around_as : (ks : List ℕ) (w : Wrap) (h n : ℕ) (o : Outcome) → ClosesAs ks w → GivesAs ks (around w h n o)
unfolding around
around_as ks w h n (refused f) e = tt
around_as ks w h n (says xs) e = closing_as ks w _ xs e

object_as : (ks : List ℕ) (inside : ℕ → ℕ → Outcome) (x : Head) → HeadAs ks x → GivesAs ks (object inside x)
unfolding object
object_as ks inside (stop f) e = tt
object_as ks inside (gives xs u) e = e
object_as ks inside (opens w h n) e = around_as ks w h n (inside h n) e

module _ (d b : ℕ) (s : List ℕ) (xs : Items) (u : ℕ) where
  -- by a head of which the kinds are known
  known : (c : Class) (ks : List ℕ) → HeadAs ks (head_by c d b s) → object (λ h n. reads (suc d) (contents s h n)) (head_by c d b s) ≡ got xs u → kinds xs ≡ ks
  known c ks e q = subst (GivesAs ks) q (object_as ks (λ h n. reads (suc d) (contents s h n)) (head_by c d b s) e)

  stopped : (ks : List ℕ) (f : Fault) → FaultWithin d (length s) f → HeadAs ks (stop f)
  stopped ks f w = tt

  by_class : (c : Class) → object (λ h n. reads (suc d) (contents s h n)) (head_by c d b s) ≡ got xs u → KindsBy c (kinds xs)
  unfolding head_by kinds leaf_kind group_kind object
  by_class C.Char7 q = known C.Char7 (CHAR ∷ []) refl q
  by_class C.Sinteger q = known C.Sinteger (INT ∷ []) refl q
  by_class C.Linteger q = let ks = INT ∷ [] in known C.Linteger ks (by_linteger (HeadAs ks) d s (stopped ks) b (λ l. refl)) q
  by_class C.Sbitstr q = let ks = BITS ∷ [] in known C.Sbitstr ks (by_sbitstr (HeadAs ks) d s (stopped ks) b (λ l x p e z. refl)) q
  by_class C.Lbitstr q = let ks = BITS ∷ [] in known C.Lbitstr ks (by_lbitstr (HeadAs ks) d s (stopped ks) (λ h n a g k v e f z. refl)) q
  by_class C.String q = let ks = STRUC ∷ [] in known C.String ks (by_string (HeadAs ks) d s (stopped ks) (λ l h n a g. refl)) q
  by_class C.Struc q = let ks = STRUC ∷ [] in known C.Struc ks (by_group (HeadAs ks) d s (stopped ks) as_struc (λ l h n a g. refl)) q
  by_class C.Ustruc q = let ks = STRUC ∷ [] in known C.Ustruc ks (by_group (HeadAs ks) d s (stopped ks) as_ustruc (λ l h n a g. refl)) q
  by_class C.Edt q = let ks = EDT ∷ [] in known C.Edt ks (by_group (HeadAs ks) d s (stopped ks) as_edt (λ l h n a g. refl)) q
  by_class C.Repeat q = tt
  by_class C.Xtra q = known C.Xtra (XTRA ∷ []) refl q
  by_class C.Bool q = known C.Bool (BOOL ∷ []) refl q
  by_class C.Empty q = known C.Empty (EMPTY ∷ []) refl q
  by_class C.Padding q = known C.Padding [] refl q
  by_class C.Reserved q = subst Bad q tt

  pub class_tells_kind : object_at d b s ≡ got xs u → KindsBy (class_of b) (kinds xs)
  unfolding object_at head_of
  class_tells_kind q = by_class (class_of b) q

-- ---- strings and other STRUCs are one kind: a STRUC's elements make no difference to the USTRUC around it
pub struc_for_struc : (xs c e ys : Items) → uniform (join xs (group struc c ys)) ≡ uniform (join xs (group struc e ys))
unfolding uniform kinds
struc_for_struc xs c e ys = ap alike (kinds_join xs (group struc c ys) ∙ sym (kinds_join xs (group struc e ys)))

-- ---- an EDT stays its own: of two groups in a USTRUC both are STRUCs or both are EDTs
all_rest : (k : ℕ) (ks ls : List ℕ) → all_of k (ks ++ ls) ≡ true → all_of k ls ≡ true
unfolding all_of
all_rest k [] ls e = e
all_rest k (l ∷ ks) ls e = all_rest k ks ls (both_right (eqb l k) (all_of k (ks ++ ls)) e)

all_first : (k l : ℕ) (ks : List ℕ) → all_of k (l ∷ ks) ≡ true → l ≡ k
unfolding all_of
all_first k l ks e = true_eq l k (both_left (eqb l k) (all_of k ks) e)

alike_two : (ks : List ℕ) (k : ℕ) (ls : List ℕ) (l : ℕ) (ms : List ℕ) → alike (ks ++ (k ∷ (ls ++ (l ∷ ms)))) ≡ true → k ≡ l
unfolding alike
alike_two [] k ls l ms e = sym (all_first k l ms (all_rest k ls (l ∷ ms) e))
alike_two (j ∷ ks) k ls l ms e =
    let f : all_of j (k ∷ (ls ++ (l ∷ ms))) ≡ true = all_rest j ks (k ∷ (ls ++ (l ∷ ms))) e in
    all_first j k (ls ++ (l ∷ ms)) f ∙ sym (all_first j l ms (all_rest j (k ∷ ls) (l ∷ ms) f))

same_group : (g h : Group) → group_kind g ≡ group_kind h → g ≡ h
unfolding group_kind
same_group struc struc e = refl
same_group struc edt e = absurd (omega arith)
same_group edt struc e = absurd (omega arith)
same_group edt edt e = refl

pub groups_alike : (xs : Items) (g : Group) (c ys : Items) (h : Group) (e zs : Items) → uniform (join xs (group g c (join ys (group h e zs)))) ≡ true → g ≡ h
unfolding uniform
groups_alike xs g c ys h e zs q =
    same_group g h (alike_two (kinds xs) (group_kind g) (kinds ys) (group_kind h) (kinds zs) (sym (ap alike laid) ∙ q))
  where
    laid : kinds (join xs (group g c (join ys (group h e zs)))) ≡ kinds xs ++ (group_kind g ∷ (kinds ys ++ (group_kind h ∷ kinds zs)))
    laid = kinds_join xs _ ∙ ap (λ l. kinds xs ++ l) (unfold kinds in ap (λ l. group_kind g ∷ l) (kinds_join ys _))
