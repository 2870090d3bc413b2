-- The head of a container or a string whose size is one byte. Assumes nothing.
use Prim.Native.Nat.{ℕ, ◌+◌, ◌-◌, ◌≤◌, ◌<◌}
use mathlib.Core.Path.{◌≡◌, refl, sym, ap, ◌∙◌}
use mathlib.Core.Logic.{◌≢◌, ◌⊎◌, inl, inr}
use mathlib.Core.Bool.{true, false, false≢true}
use mathlib.Core.List.{List}
use native.Mathlib.Omega.{arith}
use lib.ListN.{length, get_or}
use Rattle.format.specs.declared.Class.{Class}
use Rattle.format.specs.declared.Class.TheVariants as C
use Rattle.format.specs.Classes.{class_of}
use Rattle.format.specs.Objects as O
use Rattle.format.proofs.Choices.{if_lt_yes, if_lt_no, if_eq_yes, if_eq_no, eq_false, split_eq, by_eq}
use Rattle.wire.specs.declared.head.Wrap.{Wrap}
use Rattle.wire.specs.declared.head.Wrap.TheVariants.{Struc, Ustruc, Edt}
use Rattle.wire.specs.Heads.{has_elements, wrap_of, wrap_by, short_head, ShortAt}
use Rattle.wire.proofs.ClassCases.{of_class}
use Rattle.wire.proofs.Sizes.{size_short}

-- a byte that is one of the four
pub one_of : (b : ℕ) → has_elements b ≡ true → (0xc2 ≤ b) × (b ≤ 0xc6) × (b ≢ 0xc4)
unfolding has_elements
one_of b h =
    split_eq b 0xc2 (λ e. (omega arith, omega arith, λ q. absurd (omega arith)))
    (λ n2.
    split_eq b 0xc3 (λ e. (omega arith, omega arith, λ q. absurd (omega arith)))
    (λ n3.
    split_eq b 0xc5 (λ e. (omega arith, omega arith, λ q. absurd (omega arith)))
    (λ n5.
    split_eq b 0xc6 (λ e. (omega arith, omega arith, λ q. absurd (omega arith)))
    (λ n6. absurd (false≢true (rw (eq_false b 0xc2 n2, eq_false b 0xc3 n3, eq_false b 0xc5 n5, eq_false b 0xc6 n6) at h))))))

-- by its class
pub has_class : (c : Class) → (c ≡ C.Struc) ⊎ ((c ≡ C.Edt) ⊎ ((c ≡ C.Ustruc) ⊎ (c ≡ C.String))) → (b : ℕ) → c ≡ class_of b → true ≡ has_elements b
unfolding has_elements
has_class c (inl e) b k = let f : b ≡ 0xc2 = of_class b C.Struc (sym e ∙ k) in rw f refl
has_class c (inr (inl e)) b k = let f : b ≡ 0xc3 = of_class b C.Edt (sym e ∙ k) in rw f refl
has_class c (inr (inr (inl e))) b k = let f : b ≡ 0xc5 = of_class b C.Ustruc (sym e ∙ k) in rw f refl
has_class c (inr (inr (inr e))) b k = let f : b ≡ 0xc6 = of_class b C.String (sym e ∙ k) in rw f refl

pub has_none : (b : ℕ) → (class_of b ≡ C.Struc → ⊥) → (class_of b ≡ C.Edt → ⊥) → (class_of b ≡ C.Ustruc → ⊥) → (class_of b ≡ C.String → ⊥) → false ≡ has_elements b
unfolding has_elements class_of
has_none b n2 n3 n5 n6 =
    let a2 = eq_false b 0xc2 (λ e. n2 (ap class_of e)) in
    let a3 = eq_false b 0xc3 (λ e. n3 (ap class_of e)) in
    let a5 = eq_false b 0xc5 (λ e. n5 (ap class_of e)) in
    let a6 = eq_false b 0xc6 (λ e. n6 (ap class_of e)) in
    rw (a2, a3, a5, a6) refl

-- what holds of each way to close that a type-byte tells
pub each_wrap : (P : Wrap → Type 0) (b : ℕ) → P Struc → P Ustruc → P Edt → P (wrap_by b)
unfolding wrap_by
each_wrap P b s u e = by_eq P b 0xc3 (λ q. e) (λ n. by_eq P b 0xc5 (λ q. u) (λ m. s))

-- by the class of the byte
pub wrap_edt : (b : ℕ) → class_of b ≡ C.Edt → Edt ≡ wrap_by b
unfolding wrap_by
wrap_edt b e = sym (if_eq_yes b 0xc3 _ _ (of_class b C.Edt (sym e)))

pub wrap_ustruc : (b : ℕ) → class_of b ≡ C.Ustruc → Ustruc ≡ wrap_by b
unfolding wrap_by
wrap_ustruc b e =
    let f : b ≡ 0xc5 = of_class b C.Ustruc (sym e) in
    sym (if_eq_no b 0xc3 _ _ (λ q. absurd (omega arith)) ∙ if_eq_yes b 0xc5 _ _ f)

pub wrap_other : (b : ℕ) → (class_of b ≡ C.Edt → ⊥) → (class_of b ≡ C.Ustruc → ⊥) → Struc ≡ wrap_by b
unfolding wrap_by class_of
wrap_other b n m =
    sym (if_eq_no b 0xc3 _ _ (λ e. n (ap class_of e)) ∙ if_eq_no b 0xc5 _ _ (λ e. m (ap class_of e)))

-- whatever the object makes of its contents
contained : (d : ℕ) (s : List ℕ) (n : ℕ) (f : ℕ → ℕ → O.Head) → d < 16 → 0 < n → n < 128 → get_or s 0 0 ≡ n → 1 + n ≤ length s
    → O.container d (O.sized d s f) ≡ f 1 n
unfolding O.container O.sized O.within
contained d s n f hd hn hs e hl =
    let z : O.size_of s ≡ O.size 1 n = size_short s (omega arith) (omega arith) (λ q. absurd (omega arith)) ∙ ap (O.size 1) e in
    if_lt_yes d 16 _ _ hd ∙ ap (O.within d s f) z ∙ if_lt_no (length s - 1) n _ _ (omega arith)

-- one type-byte after the other
abbrev Heads : ℕ → ℕ → List ℕ → ℕ → Type 0
Heads d b s n = O.head_of d b s ≡ short_head b s n

heads : (d b : ℕ) (s : List ℕ) (n : ℕ) → 0xc2 ≤ b → b ≤ 0xc6 → b ≢ 0xc4 → ((f : ℕ → ℕ → O.Head) → O.container d (O.sized d s f) ≡ f 1 n) → Heads d b s n
unfolding O.head_of O.head_by O.group_head O.string_head class_of short_head wrap_by wrap_of
heads d b s n lo hi no4 c =
    split_eq b 0xc2
    (λ e. rw e (c _))
    (λ n2.
    split_eq b 0xc3
    (λ e. rw e (c _))
    (λ n3.
    split_eq b 0xc5
    (λ e. rw e (c _))
    (λ n5. let e : b ≡ 0xc6 = omega arith in rw e (c _))))

pub short_at : (d b : ℕ) (s : List ℕ) (n : ℕ) → 0xc2 ≤ b → b ≤ 0xc6 → b ≢ 0xc4 → d < 16 → 0 < n → n < 128 → get_or s 0 0 ≡ n → 1 + n ≤ length s → ShortAt d b s n
short_at d b s n lo hi no4 hd hn hs e hl =
    record { head = heads d b s n lo hi no4 (λ f. contained d s n f hd hn hs e hl); within = hl; shallow = hd; some = hn; few = omega arith }
