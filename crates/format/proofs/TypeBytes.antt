-- Type-bytes: what a class says of its bytes, and the classes of the bytes that the normal form uses. Assumes nothing.
use mathlib.Core.Path.{◌≡◌, refl}
use mathlib.Core.Logic.{◌≢◌}
use Prim.Native.Nat.{ℕ, ◌+◌, ◌%◌, ◌≤◌, ◌<◌}
use native.Mathlib.Omega.{arith}
use mathlib.Core.Bool.{Bool, true, false}
use Rattle.format.specs.Bits.{bit}
use Rattle.format.specs.declared.Class.{Class}
use Rattle.format.specs.declared.Class.TheVariants.{Char7, Sinteger, Linteger, Sbitstr, Lbitstr, String, Struc, Ustruc, Edt, Repeat, Xtra, Bool as Boolean, Empty, Padding, Reserved}
use Rattle.format.specs.Classes.{class_of}
use Rattle.format.specs.Objects.{following}
use Rattle.format.proofs.Choices.{if_lt_yes, if_lt_no, by_lt, by_eq, each}

-- what is known of a byte by its class
abbrev pub InClass : ℕ → Class → Type 0
InClass b Char7 = b < 0x80
InClass b Sinteger = (0x80 ≤ b) × (b < 0xc0)
InClass b Linteger = (0xe0 ≤ b) × (b < 0xe8)
InClass b Sbitstr = (0xf0 ≤ b) × (b < 0xf8)
InClass b Lbitstr = b ≡ 0xc1
InClass b String = b ≡ 0xc6
InClass b Struc = b ≡ 0xc2
InClass b Ustruc = b ≡ 0xc5
InClass b Edt = b ≡ 0xc3
InClass b Repeat = b ≡ 0xc4
InClass b Xtra = (0xf8 ≤ b) × (b < 0xfc)
InClass b Boolean = (0xfc ≤ b) × (b < 0xfe)
InClass b Empty = b ≡ 0xfe
InClass b Padding = 0xff ≤ b
InClass b Reserved = 0xc0 ≤ b

above : (b : ℕ) → 0xfe ≤ b → b ≢ 0xfe → 0xff ≤ b
above b h n = omega arith

pub in_class : (b : ℕ) → InClass b (class_of b)
unfolding class_of
in_class b =
    by_lt P b 0x80 (λ h. h) (λ h0. by_lt P b 0xc0 (λ h. (h0, h)) (λ h1. by_eq P b 0xc0 (λ e. h1) (λ n0. by_eq P b 0xc1 (λ e. e)
    (λ n1. by_eq P b 0xc2 (λ e. e) (λ n2. by_eq P b 0xc3 (λ e. e) (λ n3. by_eq P b 0xc4 (λ e. e) (λ n4. by_eq P b 0xc5 (λ e. e)
    (λ n5. by_eq P b 0xc6 (λ e. e) (λ n6. by_lt P b 0xe0 (λ h. h1) (λ h2. by_lt P b 0xe8 (λ h. (h2, h)) (λ h3. by_lt P b 0xf0 (λ h. h1)
    (λ h4. by_lt P b 0xf8 (λ h. (h4, h)) (λ h5. by_lt P b 0xfc (λ h. (h5, h)) (λ h6. by_lt P b 0xfe (λ h. (h6, h))
    (λ h7. by_eq P b 0xfe (λ e. e) (λ n7. above b h7 n7))))))))))))))))
  where
    P : Class → Type 0
    P = InClass b

-- an integer or a short bit string has one to eight bytes
pub following_range : (b : ℕ) → (0 < following b) × (following b ≤ 8)
unfolding following
following_range b = by_eq (λ n. (0 < n) × (n ≤ 8)) (b % 8) 0 (λ e. (omega arith, omega arith)) (λ z. (omega arith, omega arith))

pub char_class : (c : ℕ) → c < 128 → class_of c ≡ Char7
unfolding class_of
char_class c h = rw (if_lt_yes c 0x80) refl

pub small_class : (n : ℕ) → n < 64 → class_of (0x80 + n) ≡ Sinteger
unfolding class_of
small_class n h =
    let g : 0x80 ≤ 0x80 + n = omega arith in
    let l : 0x80 + n < 0xc0 = omega arith in
    rw (if_lt_no (0x80 + n) 0x80, if_lt_yes (0x80 + n) 0xc0) refl

-- a type-byte for w bytes behind it, w from one to eight
abbrev pub Follows : Class → ℕ → ℕ → Type 0
Follows c first w = (class_of (first + w % 8) ≡ c) × (following (first + w % 8) ≡ w)

follows : (first w : ℕ) → (first + w % 8) % 8 ≡ w % 8 → 0 < w → w ≤ 8 → following (first + w % 8) ≡ w
unfolding following
follows first w e p h = rw e (by_eq (λ n. n ≡ w) (w % 8) 0 (λ z. omega arith) (λ z. omega arith))

pub integer_class : (w : ℕ) → 0 < w → w ≤ 8 → Follows Linteger 0xe0 w
unfolding class_of
integer_class w p h =
    let c = each (λ k. class_of (0xe0 + k) ≡ Linteger) 8 (refl, (refl, (refl, (refl, (refl, (refl, (refl, (refl, tt)))))))) (w % 8) (omega arith) in
    (c, follows 0xe0 w (omega arith) p h)

pub marked_class : (w : ℕ) → 0 < w → w ≤ 8 → Follows Sbitstr 0xf0 w
unfolding class_of
marked_class w p h =
    let c = each (λ k. class_of (0xf0 + k) ≡ Sbitstr) 8 (refl, (refl, (refl, (refl, (refl, (refl, (refl, (refl, tt)))))))) (w % 8) (omega arith) in
    (c, follows 0xf0 w (omega arith) p h)

pub xtra_class : (n : ℕ) → n < 4 → class_of (0xf8 + n) ≡ Xtra
unfolding class_of
xtra_class n h = each (λ k. class_of (0xf8 + k) ≡ Xtra) 4 (refl, (refl, (refl, (refl, tt)))) n h

pub bool_class : (b : Bool) → class_of (0xfc + bit b) ≡ Boolean
unfolding class_of bit
bool_class true = refl
bool_class false = refl
