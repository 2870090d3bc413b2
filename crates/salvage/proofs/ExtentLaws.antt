-- The bytes of an outermost object, as the code tells them from its type-byte and size. Assumes nothing.
use Prim.Native.Nat.{ℕ, suc, ◌+◌, ◌-◌, ◌≤◌, ◌<◌}
use native.Mathlib.Omega.{arith}
use mathlib.Core.Path.{◌≡◌, refl, sym, ap, ◌∙◌, subst}
use mathlib.Core.Logic.{◌⊎◌, inl, inr}
use mathlib.Core.Option.{some}
use Rattle.std.specs.Prelude as P
use Rattle.std.specs.Prelude.{Result, Some, None, Ok, Err, MatchOption}
use Rattle.std.specs.Option.{IsSomeAnd}
use Rattle.std.specs.Result.{result_ok}
use mathlib.Core.List.{List}
use lib.ListN.{length}
use Rattle.format.specs.declared.Class.{Class}
use Rattle.format.specs.declared.Class.TheVariants as C
use Rattle.format.specs.Refusals.{wants}
use Rattle.format.specs.Classes.{class_of}
use Rattle.format.specs.Objects as O
use Rattle.format.specs.Extents.{extent_by, extent_of}
use Rattle.format.proofs.Choices.{if_lt_yes, if_lt_no, split}
use Rattle.format.proofs.Sizes.{SizeFits, size_fits}
use Rattle.wire.specs.declared.size.Extent.{Extent}
use Rattle.wire.specs.Extents.{ExtentIs}
use Rattle.salvage.specs.Mending.{own_extent, lying}
use Rattle.salvage.specs.Told.{bytes_told}
use Rattle.salvage.proofs.OwnExtents.{low_own, high_own, unassigned_own, unassigned_class}

-- ---- told by how many bytes there are
told_past : (s : List ℕ) (h n : ℕ) → length s < h + n → None ≡ bytes_told (lying s (some (O.size h n)))
unfolding bytes_told lying
told_past s h n l = ap bytes_told (sym (if_lt_yes (length s) (h + n) _ _ l))

told_lying : (s : List ℕ) (h n : ℕ) → h + n ≤ length s → Some (suc (h + n)) ≡ bytes_told (lying s (some (O.size h n)))
unfolding bytes_told lying
told_lying s h n l = ap bytes_told (sym (if_lt_no (length s) (h + n) _ _ l))

-- of a fixed length
pub fixed_past : (s : List ℕ) (k : ℕ) → length s < k → None ≡ bytes_told (lying s (some (O.size 0 k)))
fixed_past s k l = told_past s 0 k (omega arith)

pub fixed_lying : (s : List ℕ) (k : ℕ) → k ≤ length s → Some (1 + k) ≡ bytes_told (lying s (some (O.size 0 k)))
fixed_lying s k l = let e : 1 + k ≡ suc (0 + k) = omega arith in ap Some e ∙ told_lying s 0 k (omega arith)

-- ---- an object with a size, as any object makes of it
sized_past : (s : List ℕ) (k : ℕ) → ((d : ℕ) (f : ℕ → ℕ → O.Head) → O.sized d s f ≡ O.stop (wants (O.past_end d) k))
    → None ≡ bytes_told (lying s (some (O.size_of s)))
unfolding O.sized bytes_told lying O.within
sized_past s k q = go (O.size_of s) (size_fits s) (q 0 (O.opens O.as_struc))
  where
    go : (z : O.Size) → SizeFits s z → O.within 0 s (O.opens O.as_struc) z ≡ O.stop (wants (O.past_end 0) k) → None ≡ bytes_told (lying s (some z))
    go (O.cut j) f e = refl
    go (O.size h n) f e =
        split (length s - h) n (λ l. told_past s h n (omega (arith, f.0)))
        (λ l. let x = sym (if_lt_no (length s - h) n _ _ l) ∙ e in let z : ◌≡◌ {A = ℕ} 0 1 = cc in absurd (omega arith))

sized_lying : (s : List ℕ) (h n : ℕ) → ((d : ℕ) (f : ℕ → ℕ → O.Head) → O.sized d s f ≡ f h n) → h + n ≤ length s
    → Some (suc (h + n)) ≡ bytes_told (lying s (some (O.size_of s)))
unfolding O.sized O.within
sized_lying s h n q l = go (O.size_of s) (q 0 (O.opens O.as_struc))
  where
    go : (z : O.Size) → O.within 0 s (O.opens O.as_struc) z ≡ O.opens O.as_struc h n → Some (suc (h + n)) ≡ bytes_told (lying s (some z))
    go (O.cut j) e = let z : ◌≡◌ {A = ℕ} 0 1 = cc in absurd (omega arith)
    go (O.size i j) e =
        split (length s - i) j
        (λ g. let x = sym (if_lt_yes (length s - i) j _ _ g) ∙ e in let z : ◌≡◌ {A = ℕ} 0 1 = cc in absurd (omega arith))
        (λ g.
        let x = sym (if_lt_no (length s - i) j _ _ g) ∙ e in
        let a : i ≡ h = cc in
        let b : j ≡ n = cc in
        rw (a, b) (told_lying s h n l))

-- as the code is told it
pub past_told : (s : List ℕ) (k : ℕ) → ExtentIs s (Err k) → None ≡ bytes_told (lying s (some (O.size_of s)))
past_told s k x = sized_past s k x

pub within_told : (s : List ℕ) (e : Extent) (n : ℕ) → n ≡ e.start + e.size → ExtentIs s (Ok e) → Some (1 + n) ≡ bytes_told (lying s (some (O.size_of s)))
within_told s e n q x = let z : 1 + n ≡ suc (e.start + e.size) = omega arith in ap Some z ∙ sized_lying s e.start e.size x.0 x.1

pub sized_told : (s : List ℕ) (r : Result Extent ℕ) (o : P.Option Extent) (m : P.Option ℕ) (Q : Extent → ℕ → Type 0) → o ≡ result_ok r
    → MatchOption o (m ≡ None) (λ e. IsSomeAnd m (Q e)) → ((e : Extent) (n : ℕ) → Q e n → n ≡ 1 + (e.start + e.size)) → ExtentIs s r
    → m ≡ bytes_told (lying s (some (O.size_of s)))
sized_told s (Err k) None m Q q h f x = h ∙ past_told s k x
sized_told s (Ok e) (Some d) (Some n) Q q h f x = let z : d ≡ e = cc in ap Some (f d n h ∙ ap (λ (y : Extent). 1 + (y.start + y.size)) z) ∙ within_told s e _ refl x
sized_told s (Ok e) (Some d) None Q q h f x = absurd h
sized_told s (Ok e) None m Q q h f x = absurd (cc)
sized_told s (Err k) (Some d) m Q q h f x = absurd (cc)

-- ---- the extent by the class
pub reserved_low : (b : ℕ) (s : List ℕ) → class_of b ≡ C.Reserved → b < 0xc7 → bytes_told (lying s (own_extent b s)) ≡ None
unfolding extent_of extent_by lying bytes_told
reserved_low b s e l = ap (λ x. bytes_told (lying s x)) (low_own b s l ∙ ap (λ c. extent_by c b s) e)

pub reserved_high : (b : ℕ) (s : List ℕ) → class_of b ≡ C.Reserved → 0xe0 ≤ b → bytes_told (lying s (own_extent b s)) ≡ None
unfolding extent_of extent_by lying bytes_told
reserved_high b s e l = ap (λ x. bytes_told (lying s x)) (high_own b s l ∙ ap (λ c. extent_by c b s) e)

pub unassigned_told : (b : ℕ) (s : List ℕ) → 0xc7 ≤ b → b < 0xe0 → bytes_told (lying s (own_extent b s)) ≡ bytes_told (lying s (some (O.size_of s)))
unassigned_told b s l g = ap (λ x. bytes_told (lying s x)) (unassigned_own b s l g)

-- any class but the reserved
abbrev pub Known : Class → Type 0
Known C.Char7 = Unit {0}
Known C.Sinteger = Unit {0}
Known C.Linteger = Unit {0}
Known C.Sbitstr = Unit {0}
Known C.Lbitstr = Unit {0}
Known C.String = Unit {0}
Known C.Struc = Unit {0}
Known C.Ustruc = Unit {0}
Known C.Edt = Unit {0}
Known C.Repeat = Unit {0}
Known C.Xtra = Unit {0}
Known C.Bool = Unit {0}
Known C.Empty = Unit {0}
Known C.Padding = Unit {0}
Known C.Reserved = ⊥

-- has the extent that its objects have
known_told : (b : ℕ) (s : List ℕ) (c k : Class) → c ≡ class_of b → Known k → c ≡ k → bytes_told (lying s (extent_by k b s)) ≡ bytes_told (lying s (own_extent b s))
unfolding extent_of
known_told b s c k e r q =
    let same : extent_by k b s ≡ extent_by (class_of b) b s = ap (λ x. extent_by x b s) (sym q ∙ e) in
    ap (λ x. bytes_told (lying s x))
    (split b 0xc7 (λ l. same ∙ sym (low_own b s l))
    (λ g. split b 0xe0 (λ l. absurd (subst Known (sym q ∙ e ∙ unassigned_class b g l) r)) (λ l. same ∙ sym (high_own b s l))))

-- ---- n bytes are told of an object of the class c, which b has
module _ (b : ℕ) (s : List ℕ) (c : Class) (e : c ≡ class_of b) where
  abbrev Told : P.Option ℕ → Type 0
  Told n = n ≡ bytes_told (lying s (own_extent b s))

  -- it is one byte
  module _ (k : Class) (r : Known k) (i : extent_by k b s ≡ some (O.size 0 0)) where
    one : c ≡ k → Told (Some 1)
    one q = fixed_lying s 0 (omega arith) ∙ ap (λ x. bytes_told (lying s x)) (sym i) ∙ known_told b s c k e r q

  pub byte_told : (c ≡ C.Char7) ⊎ ((c ≡ C.Sinteger) ⊎ ((c ≡ C.Xtra) ⊎ ((c ≡ C.Bool) ⊎ (c ≡ C.Empty)))) → Told (Some 1)
  unfolding extent_by
  byte_told (inl q) = one C.Char7 tt refl q
  byte_told (inr (inl q)) = one C.Sinteger tt refl q
  byte_told (inr (inr (inl q))) = one C.Xtra tt refl q
  byte_told (inr (inr (inr (inl q)))) = one C.Bool tt refl q
  byte_told (inr (inr (inr (inr q)))) = one C.Empty tt refl q

  pub padding_told : c ≡ C.Padding → Told (Some 1)
  unfolding extent_by
  padding_told q = one C.Padding tt refl q

  -- its type-byte tells how many follow
  pub following_told : (n : P.Option ℕ) (k : ℕ) → n ≡ bytes_told (lying s (some (O.size 0 k))) → k ≡ O.following b → (c ≡ C.Linteger) ⊎ (c ≡ C.Sbitstr) → Told n
  unfolding extent_by
  following_told n k i f (inl q) = i ∙ ap (λ x. bytes_told (lying s (some (O.size 0 x)))) f ∙ known_told b s c C.Linteger e tt q
  following_told n k i f (inr q) = i ∙ ap (λ x. bytes_told (lying s (some (O.size 0 x)))) f ∙ known_told b s c C.Sbitstr e tt q

  -- it has a size
  pub size_told : (n : P.Option ℕ) → n ≡ bytes_told (lying s (some (O.size_of s)))
      → (c ≡ C.Lbitstr) ⊎ ((c ≡ C.String) ⊎ ((c ≡ C.Struc) ⊎ ((c ≡ C.Ustruc) ⊎ ((c ≡ C.Edt) ⊎ (c ≡ C.Repeat))))) → Told n
  unfolding extent_by
  size_told n i (inl q) = i ∙ known_told b s c C.Lbitstr e tt q
  size_told n i (inr (inl q)) = i ∙ known_told b s c C.String e tt q
  size_told n i (inr (inr (inl q))) = i ∙ known_told b s c C.Struc e tt q
  size_told n i (inr (inr (inr (inl q)))) = i ∙ known_told b s c C.Ustruc e tt q
  size_told n i (inr (inr (inr (inr (inl q))))) = i ∙ known_told b s c C.Edt e tt q
  size_told n i (inr (inr (inr (inr (inr q))))) = i ∙ known_told b s c C.Repeat e tt q
