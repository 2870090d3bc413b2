-- What is read lies within the bytes, and containers within sixteen; a refusal lies there too, and is for the want of bytes with 2
-- and 3 alone. Assumes nothing.
use Prim.Native.Nat.{ℕ, zero, suc, ◌+◌, ◌-◌, ◌≤◌, ◌<◌, zero-le}
use native.Mathlib.Omega.{arith}
use mathlib.Core.Path.{◌≡◌, ap, subst}
use mathlib.Core.Logic.{inl, inr}
use mathlib.Core.List.{List, [], ◌∷◌}
use lib.ListN.{length, drop, length-drop}
use lib.Seq.{length-take-le}
use Rattle.format.specs.declared.Class.{Class}
use Rattle.format.specs.declared.Class.TheVariants as C
use Rattle.format.specs.Items.{Items, uniform, edt_rule}
use Rattle.format.specs.Classes.{class_of}
use Rattle.format.specs.Refusals.{Fault, further}
use Rattle.format.specs.Objects as O
use Rattle.format.specs.Messages.{Outcome, refused, says, Object, bad, got, closing, around, object, onto, next, run, reads}
use Rattle.format.specs.Runs.{object_at}
use Rattle.format.proofs.Choices.{by_pick}
use Rattle.format.proofs.Sizes.{contents_length}
use Rattle.format.proofs.HeadCases.{Lacking, FaultWithin, past_range, other, by_linteger, by_sbitstr, by_lbitstr, by_string, by_group, by_repeat}

-- one container further out
outer : (d : ℕ) (f : Fault) → Lacking (suc d) f → Lacking d f
unfolding O.past_end
outer d f (inl h) = inl (omega (arith, h.0, past_range d), h.1, h.2, h.3)
outer d f (inr h) = inr h

-- ---- a head, with n bytes behind the type-byte and d containers around it
abbrev pub HeadWithin : ℕ → ℕ → O.Head → Type 0
HeadWithin d n (O.stop f) = FaultWithin d n f
HeadWithin d n (O.gives xs u) = u ≤ n
HeadWithin d n (O.opens w h m) = (h + m ≤ n) × (d < 16)

module _ (d : ℕ) (s : List ℕ) where
  within_stop : (f : Fault) → FaultWithin d (length s) f → HeadWithin d (length s) (O.stop f)
  within_stop f w = w

  abbrev In : O.Head → Type 0
  In = HeadWithin d (length s)

  group_within : (w : O.Wrap) → In (O.group_head w d s)
  group_within w = by_group In d s within_stop w (λ g h n l b. (l, g))

  head_by_lem : (c : Class) (b : ℕ) → In (O.head_by c d b s)
  unfolding O.head_by
  head_by_lem C.Char7 b = zero-le
  head_by_lem C.Sinteger b = zero-le
  head_by_lem C.Linteger b = by_linteger In d s within_stop b (λ l. omega (arith, length-take-le (O.following b) s l))
  head_by_lem C.Sbitstr b = by_sbitstr In d s within_stop b (λ l x p e z. omega (arith, length-take-le (O.following b) s l, ap length e))
  head_by_lem C.Lbitstr b = by_lbitstr In d s within_stop (λ h n l a k u e f q. l)
  head_by_lem C.String b = by_string In d s within_stop (λ g h n l a. l)
  head_by_lem C.Struc b = group_within O.as_struc
  head_by_lem C.Ustruc b = group_within O.as_ustruc
  head_by_lem C.Edt b = group_within O.as_edt
  head_by_lem C.Repeat b = by_repeat In d s within_stop (λ g h n l a k u e f. (omega (arith, contents_length s h n l), g))
  head_by_lem C.Xtra b = zero-le
  head_by_lem C.Bool b = zero-le
  head_by_lem C.Empty b = zero-le
  head_by_lem C.Padding b = zero-le
  head_by_lem C.Reserved b = other d (length s) 4 (omega arith) (omega arith)

pub head_within : (d b : ℕ) (s : List ℕ) → HeadWithin d (length s) (O.head_of d b s)
unfolding O.head_of
head_within d b s = head_by_lem d s (class_of b) b

-- ---- a run of n bytes; an object with n bytes behind its type-byte; d containers around them
abbrev pub RunWithin : ℕ → ℕ → Outcome → Type 0
RunWithin d n (refused f) = (f.place < n) × Lacking d f
RunWithin d n (says xs) = Unit {0}

abbrev pub ObjectWithin : ℕ → ℕ → Object → Type 0
ObjectWithin d n (bad f) = (f.place ≤ n) × Lacking d f
ObjectWithin d n (got xs u) = u ≤ n

closing_within : (d n u : ℕ) (w : O.Wrap) (xs : Items) → u ≤ n → ObjectWithin d n (closing w u xs)
unfolding closing
closing_within d n u O.as_struc xs l = l
closing_within d n u O.as_ustruc xs l = by_pick (ObjectWithin d n) (uniform xs) (λ e. l) (λ e. other d n 8 (omega arith) (omega arith))
closing_within d n u O.as_edt xs l = by_pick (ObjectWithin d n) (edt_rule xs) (λ e. l) (λ e. other d n 9 (omega arith) (omega arith))
closing_within d n u (O.repeated k) xs l = l

around_within : (d n : ℕ) (w : O.Wrap) (h m : ℕ) (z : Outcome) → h + m ≤ n → RunWithin (suc d) m z → ObjectWithin d n (around w h m z)
unfolding around further
around_within d n w h m (refused f) l y = (omega (arith, y.0), outer d f y.1)
around_within d n w h m (says xs) l y = closing_within d n (h + m) w xs l

object_within : (d n : ℕ) (inside : ℕ → ℕ → Outcome) (x : O.Head) → HeadWithin d n x → ((h m : ℕ) → h + m ≤ n → RunWithin (suc d) m (inside h m))
    → ObjectWithin d n (object inside x)
unfolding object
object_within d n inside (O.stop f) q y = q
object_within d n inside (O.gives xs u) q y = q
object_within d n inside (O.opens w h m) q y = around_within d n w h m (inside h m) q.0 (y h m q.0)

onto_within : (d n u : ℕ) (xs : Items) (z : Outcome) → RunWithin d (n - u) z → RunWithin d (suc n) (onto xs (1 + u) z)
unfolding onto further
onto_within d n u xs (refused f) w = (omega (arith, w.0), w.1)
onto_within d n u xs (says ys) w = tt

next_within : (d n : ℕ) (x : Object) (rest : ℕ → Outcome) → ObjectWithin d n x → ((u : ℕ) → RunWithin d (n - u) (rest u)) → RunWithin d (suc n) (next x rest)
unfolding next
next_within d n (bad f) rest q y = (omega (arith, q.0), q.1)
next_within d n (got xs u) rest q y = onto_within d n u xs (rest u) (y u)

run_within : (f d : ℕ) (s : List ℕ) → RunWithin d (length s) (run f d s)
unfolding run
run_within zero d s = tt
run_within (suc f) d [] = tt
run_within (suc f) d (b ∷ s) =
    next_within d (length s) (object (λ h n. run f (suc d) (O.contents s h n)) (O.head_of d b s)) (λ u. run f d (drop u s))
    (object_within d (length s) (λ h n. run f (suc d) (O.contents s h n)) (O.head_of d b s) (head_within d b s)
    (λ h m l. subst (λ k. RunWithin (suc d) k (run f (suc d) (O.contents s h m))) (contents_length s h m l) (run_within f (suc d) (O.contents s h m))))
    (λ u. subst (λ k. RunWithin d k (run f d (drop u s))) (length-drop u s) (run_within f d (drop u s)))

pub reads_within : (d : ℕ) (s : List ℕ) → RunWithin d (length s) (reads d s)
unfolding reads
reads_within d s = run_within (length s) d s

pub at_within : (d b : ℕ) (s : List ℕ) → ObjectWithin d (length s) (object_at d b s)
unfolding object_at
at_within d b s =
    object_within d (length s) (λ h n. reads (suc d) (O.contents s h n)) (O.head_of d b s) (head_within d b s)
    (λ h m l. subst (λ k. RunWithin (suc d) k (reads (suc d) (O.contents s h m))) (contents_length s h m l) (reads_within (suc d) (O.contents s h m)))

pub got_within : (d b : ℕ) (s : List ℕ) (xs : Items) (u : ℕ) → object_at d b s ≡ got xs u → u ≤ length s
got_within d b s xs u e = subst (ObjectWithin d (length s)) e (at_within d b s)
