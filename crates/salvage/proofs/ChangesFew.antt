-- No byte is refused alone where it is an object, so that there are at most half as many changes as bytes, rounded up. Assumes nothing.
use Prim.Native.Nat.{ℕ, ◌+◌, ◌*◌, ◌≤◌}
use native.Mathlib.Omega.{arith}
use mathlib.Core.Path.{◌≡◌, refl, sym, ap, ◌∙◌}
use mathlib.Core.Logic.{◌≢◌}
use mathlib.Core.Option.{none, some}
use mathlib.Core.List.{List, [], ◌∷◌}
use lib.ListN.{length, length-append}
use Rattle.format.specs.declared.Class.{Class}
use Rattle.format.specs.declared.Class.TheVariants as C
use Rattle.format.specs.Classes.{class_of}
use Rattle.format.specs.Objects as O
use Rattle.format.specs.Messages.{outcome}
use Rattle.format.specs.Extents.{extent_by, extent_of}
use Rattle.format.specs.Tables.{rows, leaf_words, data_words}
use Rattle.format.proofs.Choices.{split, if_lt_yes}
use Rattle.format.proofs.TypeBytes.{following_range}
use Rattle.format.proofs.Runs.{given_object}
use Rattle.format.proofs.Apart.{one_object}
use Rattle.salvage.specs.Mending.{lying, met_alone, mended, Change, changes_in, salvaging}
use Rattle.salvage.specs.Words.{IsOne, Accounts, done, copied, replaced, dropped}
use Rattle.salvage.proofs.MendedLaws.{says_met}
use Rattle.salvage.proofs.OwnExtents.{low_own, high_own, unassigned_own}
use Rattle.salvage.proofs.Accounted.{all_accounted}
use Rattle.salvage.proofs.SalvagedExactly.{salvaging_16}

-- ---- one byte
-- a head that gives one item at most, and no data words
abbrev Light : O.Head → Type 0
Light (O.stop f) = ⊥
Light (O.gives xs u) = (u ≡ 0) × (rows xs ≤ 1) × (length (data_words xs) ≡ 0)
Light (O.opens w h n) = ⊥

no_extent : ¬ (lying [] none ≡ some 0)
unfolding lying
no_extent q = let z : ◌≡◌ {A = ℕ} 0 1 = cc in omega arith

no_size : ¬ (lying [] (some (O.size_of [])) ≡ some 0)
unfolding lying O.size_of
no_size q = let z : ◌≡◌ {A = ℕ} 0 1 = cc in omega arith

no_following : (b : ℕ) → ¬ (lying [] (some (O.size 0 (O.following b))) ≡ some 0)
unfolding lying
no_following b q =
    let y = sym (if_lt_yes 0 (0 + O.following b) _ _ (omega (arith, following_range b))) ∙ q in
    let z : ◌≡◌ {A = ℕ} 0 1 = cc in
    omega arith

byte_by : (c : Class) (b : ℕ) → lying [] (extent_by c b []) ≡ some 0 → Light (O.head_by c 0 b [])
unfolding extent_by O.head_by rows data_words leaf_words
byte_by C.Char7 b q = (refl, omega arith, refl)
byte_by C.Sinteger b q = (refl, omega arith, refl)
byte_by C.Linteger b q = absurd (no_following b q)
byte_by C.Sbitstr b q = absurd (no_following b q)
byte_by C.Lbitstr b q = absurd (no_size q)
byte_by C.String b q = absurd (no_size q)
byte_by C.Struc b q = absurd (no_size q)
byte_by C.Ustruc b q = absurd (no_size q)
byte_by C.Edt b q = absurd (no_size q)
byte_by C.Repeat b q = absurd (no_size q)
byte_by C.Xtra b q = (refl, omega arith, refl)
byte_by C.Bool b q = (refl, omega arith, refl)
byte_by C.Empty b q = (refl, omega arith, refl)
byte_by C.Padding b q = (refl, omega arith, refl)
byte_by C.Reserved b q = absurd (no_extent q)

-- a byte that is an object is accepted alone
byte_sound : (b : ℕ) → IsOne b [] → met_alone (b ∷ []) ≡ 0
unfolding extent_of O.head_of outcome
byte_sound b one =
    split b 0xc7 (λ l. light (ap (lying []) (sym (low_own b [] l)) ∙ one))
    (λ l. split b 0xe0 (λ h. absurd (no_size (ap (lying []) (sym (unassigned_own b [] l h)) ∙ one))) (λ h. light (ap (lying []) (sym (high_own b [] h)) ∙ one)))
  where
    go : (x : O.Head) → O.head_of 0 b [] ≡ x → Light x → met_alone (b ∷ []) ≡ 0
    go (O.stop f) e i = absurd i
    go (O.gives xs u) e i =
        says_met (b ∷ []) xs (one_object 0 b [] xs (given_object 0 b [] xs 0 (e ∙ ap (O.gives xs) i.0))) (omega (arith, i.1)) (omega (arith, i.2))
    go (O.opens w h n) e i = absurd i

    light : lying [] (extent_by (class_of b) b []) ≡ some 0 → met_alone (b ∷ []) ≡ 0
    light q = go (O.head_of 0 b []) refl (byte_by (class_of b) b q)

-- ---- so one that is replaced has two at least
replaced_long : (b : ℕ) (s : List ℕ) → IsOne b s → met_alone (b ∷ s) ≢ 0 → 2 ≤ length (b ∷ s)
replaced_long b [] one bad = absurd (bad (byte_sound b one))
replaced_long b (c ∷ s) one bad = omega arith

few : (p : ℕ) (m r : List ℕ) (l : List Change) → Accounts p m r l → 2 * length l ≤ length m + 1
few _ _ _ _ (done p) = omega arith
few _ _ _ _ (copied p b s m r l one z k) = omega (arith, few (p + length (b ∷ s)) m r l k, length-append (b ∷ s) m)
few _ _ _ _ (replaced p b s m r l one z k) = omega (arith, few (p + length (b ∷ s)) m r l k, length-append (b ∷ s) m, replaced_long b s one z)
few _ _ _ _ (dropped p b s i) = omega arith

pub changes_few : (m : List ℕ) → 2 * length (changes_in m) ≤ length m + 1
changes_few m = few 0 m (mended m) (changes_in m) (all_accounted m)

-- 32,768 entries, three words each, are always enough
pub list_enough : (m o t : List ℕ) → 98304 ≤ length t → (salvaging m o t).number ≢ 16
list_enough m o t h e = let x = (salvaging_16 m o t).0 e in omega (arith, h, x.0, x.2, changes_few m)
