-- An object by its own bytes alone: what stands behind it makes no difference to what it says, so that a run that says something is its
-- objects one after another, each a run that says its own items. Assumes nothing.
use Prim.Native.Nat.{ℕ, zero, suc, ◌+◌, ◌≤◌}
use native.Mathlib.Omega.{arith}
use native.Mathlib.Nat.{le_refl}
use mathlib.Core.Path.{◌≡◌, refl, sym, ap, ◌∙◌, subst}
use mathlib.Core.Logic.{◌↔◌}
use mathlib.Core.Option.{some}
use mathlib.Core.List.{List, [], ◌∷◌, ◌++◌}
use lib.ListN.{length, take, drop, length-drop, take-append-drop}
use lib.Seq.{length-take-le, drop-length}
use Rattle.format.specs.Items.{Items, end, join, uniform, edt_rule}
use Rattle.format.specs.Objects as O
use Rattle.format.specs.Messages.{Outcome, refused, says, Object, bad, got, closing, around, object, onto, next, reads}
use Rattle.format.specs.Runs.{object_at}
use Rattle.format.specs.Extents.{extent_of}
use Rattle.format.proofs.Choices.{by_pick}
use Rattle.format.proofs.Counts.{join_end}
use Rattle.format.proofs.Steps.{reads_nil, reads_cons}
use Rattle.format.proofs.Runs.{onto_says}
use Rattle.format.proofs.Bounds.{got_within}
use Rattle.format.proofs.Extents.{Ends, head_extent}
use Rattle.format.proofs.GrownHeads.{contents_grown, head_own}
use Rattle.format.proofs.Growing.{inside, reads_more}

-- ---- an object ends with its extent
closing_ends : (w : O.Wrap) (v : ℕ) (ys xs : Items) (u : ℕ) → closing w v ys ≡ got xs u → v ≡ u
unfolding closing
closing_ends O.as_struc v ys xs u = λ e. cc
closing_ends O.as_ustruc v ys xs u = by_pick (λ x. x ≡ got xs u → v ≡ u) (uniform ys) (λ p e. cc) (λ p e. let z : ◌≡◌ {A = ℕ} 0 1 = cc in absurd (omega arith))
closing_ends O.as_edt v ys xs u = by_pick (λ x. x ≡ got xs u → v ≡ u) (edt_rule ys) (λ p e. cc) (λ p e. let z : ◌≡◌ {A = ℕ} 0 1 = cc in absurd (omega arith))
closing_ends (O.repeated k) v ys xs u = λ e. cc

around_ends : (w : O.Wrap) (h n : ℕ) (o : Outcome) (xs : Items) (u : ℕ) → around w h n o ≡ got xs u → h + n ≡ u
unfolding around
around_ends w h n (refused f) xs u e = let z : ◌≡◌ {A = ℕ} 0 1 = cc in absurd (omega arith)
around_ends w h n (says ys) xs u e = closing_ends w (h + n) ys xs u e

got_ends : (d b : ℕ) (s : List ℕ) (xs : Items) (u : ℕ) → object_at d b s ≡ got xs u → Ends u (O.head_of d b s)
unfolding object_at object
got_ends d b s xs u q = go (O.head_of d b s) q
  where
    go : (x : O.Head) → object (inside d s) x ≡ got xs u → Ends u x
    go (O.stop f) e = let z : ◌≡◌ {A = ℕ} 0 1 = cc in absurd (omega arith)
    go (O.gives ys v) e = cc
    go (O.opens w h n) e = around_ends w h n (inside d s h n) xs u e

-- by its type-byte and size alone: h bytes of size field, and n behind them
pub got_extent : (d b : ℕ) (s : List ℕ) (xs : Items) (u : ℕ) → object_at d b s ≡ got xs u
    → (h : ℕ) × (n : ℕ) × (extent_of b s ≡ some (O.size h n)) × (h + n ≡ u)
got_extent d b s xs u q = head_extent d b s u (got_ends d b s xs u q)

-- ---- an object, by the bytes that it has itself
-- one that ends within s is that of s alone
own_bytes : (d b : ℕ) (s t : List ℕ) (xs : Items) (u : ℕ) → u ≤ length s → object_at d b (s ++ t) ≡ got xs u → object_at d b s ≡ got xs u
unfolding object_at object
own_bytes d b s t xs u l q = go (O.head_of d b (s ++ t)) refl q
  where
    same : O.head_of d b s ≡ O.head_of d b (s ++ t)
    same = let x = got_extent d b (s ++ t) xs u q in head_own d b s t x.0 x.1 x.2 (omega (arith, x.3))

    go : (z : O.Head) → O.head_of d b (s ++ t) ≡ z → object (inside d (s ++ t)) z ≡ got xs u → object_at d b s ≡ got xs u
    go (O.stop f) e k = let z : ◌≡◌ {A = ℕ} 0 1 = cc in absurd (omega arith)
    go (O.gives ys v) e k = ap (object (inside d s)) (same ∙ e) ∙ k
    go (O.opens w h n) e k =
        let i : h + n ≡ u = around_ends w h n (inside d (s ++ t) h n) xs u k in
        ap (object (inside d s)) (same ∙ e) ∙ ap (λ c. around w h n (reads (suc d) c)) (sym (contents_grown s t h n (omega arith))) ∙ k

-- cut behind its last byte, an object is the same
pub object_alone : (d b : ℕ) (s : List ℕ) (xs : Items) (u : ℕ) → object_at d b s ≡ got xs u → object_at d b (take u s) ≡ got xs u
object_alone d b s xs u e =
    let l = got_within d b s xs u e in
    own_bytes d b (take u s) (drop u s) xs u (omega (arith, length-take-le u s l)) (ap (object_at d b) (take-append-drop u s) ∙ e)

-- ---- a run, object by object
-- one object alone, whose type-byte is b and whose other bytes are c
pub one_object : (d b : ℕ) (c : List ℕ) (xs : Items) → object_at d b c ≡ got xs (length c) → reads d (b ∷ c) ≡ says xs
unfolding next onto
one_object d b c xs e =
    reads_cons d b c ∙ ap (λ x. next x (λ u. reads d (drop u c))) e ∙ ap (λ p. onto xs (1 + length c) (reads d p)) (drop-length c)
    ∙ ap (onto xs (1 + length c)) (reads_nil d) ∙ ap says (join_end xs)

-- objects one after another, each by its own bytes alone
pub data Objects (d : ℕ) : List ℕ → Items → Type 0 where
  none : Objects d [] end
  more : (b : ℕ) (c s : List ℕ) (xs ys : Items) → object_at d b c ≡ got xs (length c) → Objects d s ys → Objects d (b ∷ (c ++ s)) (join xs ys)

-- taken apart, from the first object on
no_objects : (d : ℕ) (xs : Items) → reads d [] ≡ says xs → Objects d [] xs
no_objects d xs e =
    let q = sym (reads_nil d) ∙ e in
    let z : end ≡ xs = cc in
    subst (Objects d []) z none

apart_by : (d b : ℕ) (s : List ℕ) (all : Items) (x : Object) → ((u : ℕ) (zs : Items) → reads d (drop u s) ≡ says zs → Objects d (drop u s) zs)
    → object_at d b s ≡ x → next x (λ u. reads d (drop u s)) ≡ says all → Objects d (b ∷ s) all
unfolding next
apart_by d b s all (bad f) r i q = let z : ◌≡◌ {A = ℕ} 0 1 = cc in absurd (omega arith)
apart_by d b s all (got xs u) r i q =
    let z = onto_says xs (1 + u) (reads d (drop u s)) all q in
    let k : length (take u s) ≡ u = length-take-le u s (got_within d b s xs u i) in
    subst (λ p. Objects d (b ∷ p) all) (take-append-drop u s)
    (subst (Objects d (b ∷ (take u s ++ drop u s))) (sym z.2)
    (more b (take u s) (drop u s) xs z.0 (object_alone d b s xs u i ∙ ap (got xs) (sym k)) (r u z.0 z.1)))

apart : (f d : ℕ) (s : List ℕ) (all : Items) → length s ≤ f → reads d s ≡ says all → Objects d s all
apart zero d [] all l e = no_objects d all e
apart zero d (b ∷ s) all l e = absurd (omega arith)
apart (suc f) d [] all l e = no_objects d all e
apart (suc f) d (b ∷ s) all l e =
    apart_by d b s all (object_at d b s) (λ u zs. apart f d (drop u s) zs (omega (arith, length-drop u s))) refl (sym (reads_cons d b s) ∙ e)

-- and put end to end again
end_to_end : (d : ℕ) (s : List ℕ) (all : Items) → Objects d s all → reads d s ≡ says all
unfolding onto
end_to_end d s all none = reads_nil d
end_to_end d s all (more b c r xs ys e o) = reads_more d r (b ∷ c) xs (one_object d b c xs e) ∙ ap (onto xs (length (b ∷ c))) (end_to_end d r ys o)

-- a run says what its objects say, each by its own bytes alone
pub by_objects : (d : ℕ) (s : List ℕ) (all : Items) → (reads d s ≡ says all) ↔ Objects d s all
by_objects d s all = (apart (length s) d s all (le_refl (length s)), end_to_end d s all)
