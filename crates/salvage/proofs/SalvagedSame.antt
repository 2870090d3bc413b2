-- Demand 3 with salvage in it: what comes out of salvaging normalises to the normal form of the items that are left, so to the same bytes
-- exactly where the same are left. Assumes nothing.
use Prim.Native.Nat.{ℕ, ◌≤◌}
use native.Mathlib.Omega.{arith}
use mathlib.Core.Path.{◌≡◌, sym, ap, ◌∙◌, subst}
use mathlib.Core.Logic.{◌↔◌}
use mathlib.Core.List.{List, ◌∷◌}
use lib.ListN.{length, take, drop}
use Rattle.format.specs.Numbers.{Bytes}
use Rattle.format.specs.Refusals.{byte_limit}
use Rattle.format.specs.Items.{Items}
use Rattle.format.specs.Messages.{outcome}
use Rattle.format.specs.Normal.{normal}
use Rattle.format.specs.Answers.{normalising}
use Rattle.format.proofs.Choices.{split_eq}
use Rattle.format.proofs.Digits.{bytes_take, bytes_drop, bytes_append}
use Rattle.message.specs.Words.{NoneDue, Ready, given}
use Rattle.message.proofs.Cases.{said_once}
use Rattle.message.proofs.Demands.{accepted_exactly, normalised, same_exactly}
use Rattle.salvage.specs.Mending.{outermost, met_alone, mended, salvaging}
use Rattle.salvage.specs.Words.{Ample, came_out, items_left}
use Rattle.salvage.proofs.PartLaws.{by_parts, mended_none, mended_rest, mended_kept, mended_bad}
use Rattle.salvage.proofs.ItemsLeft.{mended_items}
use Rattle.salvage.proofs.Salvaged.{came_out_lem, comes_out_accepted}

-- ---- what comes out of bytes are bytes
mended_bytes : (m : List ℕ) → Bytes m → Bytes (mended m)
mended_bytes =
    by_parts (λ s. Bytes s → Bytes (mended s)) (λ h. subst Bytes (sym mended_none) tt) (λ b s e h. subst Bytes (sym (mended_rest b s e)) tt)
    (λ b s u e more h.
    let after = more (bytes_drop u s h.1) in
    split_eq (met_alone (b ∷ take u s)) 0
    (λ z. subst Bytes (sym (mended_kept b s u e z)) (h.0, bytes_append (take u s) (mended (drop u s)) (bytes_take u s h.1) after))
    (λ z. subst Bytes (sym (mended_bad b s u e z)) (omega arith, after)))

came_out_bytes : (m o l : List ℕ) → Bytes m → (salvaging m o l).number ≡ 0 → Bytes (came_out (salvaging m o l))
came_out_bytes m o l b e = subst Bytes (sym (came_out_lem m o l e)) (mended_bytes m b)

-- ---- with an ample table, and room for the normal form of what is left, what comes out is ready to be normalised
salvaged_ready : (m o l t q : List ℕ) → (salvaging m o l).number ≡ 0 → Ample t
    → let xs = items_left (outermost m) in
    length (normal xs) ≤ byte_limit → length (normal xs) ≤ length q → Ready (came_out (salvaging m o l)) xs t q
salvaged_ready m o l t q e a short room =
    let b = came_out (salvaging m o l) in
    let x = (accepted_exactly b t).0 (comes_out_accepted m o l t e a) in
    let says = ap outcome (came_out_lem m o l e) ∙ mended_items m in
    let same = said_once b x.0 (items_left (outermost m)) x.1.said says in
    record { read = subst (λ (xs : Items). NoneDue b xs (length t)) same x.1; short = short; room = room }

-- "Under demand 3 normalising returns number 0", and "The result is the normal form" of the items that are left.
pub salvaged_normal : (m o l t q : List ℕ) → Bytes m → (salvaging m o l).number ≡ 0 → Ample t
    → let xs = items_left (outermost m) in
    let r = normalising (came_out (salvaging m o l)) t q in
    length (normal xs) ≤ byte_limit → length (normal xs) ≤ length q → (r.number ≡ 0) × (given r ≡ normal xs)
salvaged_normal m o l t q b e a short room =
    normalised (came_out (salvaging m o l)) t q (items_left (outermost m)) (came_out_bytes m o l b e) (salvaged_ready m o l t q e a short room)

-- "Two accepted messages normalise to the same bytes exactly when they say the same items in the same order": what comes out of two inputs
-- does exactly when the same items are left of both, in the same order.
pub salvaged_same : (m n o p l k t u q r : List ℕ) → Bytes m → Bytes n → (salvaging m o l).number ≡ 0 → (salvaging n p k).number ≡ 0 → Ample t → Ample u
    → let xs = items_left (outermost m) in
    let ys = items_left (outermost n) in
    length (normal xs) ≤ byte_limit → length (normal ys) ≤ byte_limit → length (normal xs) ≤ length q → length (normal ys) ≤ length r
    → (given (normalising (came_out (salvaging m o l)) t q) ≡ given (normalising (came_out (salvaging n p k)) u r)) ↔ (xs ≡ ys)
salvaged_same m n o p l k t u q r b c e f at au sx sy hx hy =
    same_exactly (came_out (salvaging m o l)) (came_out (salvaging n p k)) t u q r (items_left (outermost m)) (items_left (outermost n))
    (came_out_bytes m o l b e) (came_out_bytes n p k c f) (salvaged_ready m o l t q e at sx hx) (salvaged_ready n p k u r f au sy hy)
