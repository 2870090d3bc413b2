-- The code of a class, as the list of 256 has it, tells the class. Assumes nothing.
use Prim.Native.Nat.{ℕ, zero, suc, ◌≤◌}
use mathlib.Core.Path.{◌≡◌, refl, sym, ap, ◌∙◌}
use mathlib.Core.List.{List, [], ◌∷◌}
use native.Mathlib.Omega.{arith}
use lib.ListN.{get_or}
use Rattle.format.specs.declared.Class.{Class}
use Rattle.format.specs.declared.Class.TheVariants as C
use Rattle.format.specs.Codes.{code_of}

-- the classes in the order of their codes, and the class of a code
classes : List Class
classes =
    C.Char7 ∷ C.Sinteger ∷ C.Linteger ∷ C.Sbitstr ∷ C.Lbitstr ∷ C.String ∷ C.Struc ∷ C.Ustruc ∷ C.Edt ∷ C.Repeat ∷ C.Xtra ∷ C.Bool ∷ C.Empty
    ∷ C.Padding ∷ []

named : ℕ → Class
unfolding classes
named n = get_or classes n C.Reserved

named_code : (c : Class) → named (code_of c) ≡ c
unfolding named code_of
named_code C.Char7 = refl
named_code C.Sinteger = refl
named_code C.Linteger = refl
named_code C.Sbitstr = refl
named_code C.Lbitstr = refl
named_code C.String = refl
named_code C.Struc = refl
named_code C.Ustruc = refl
named_code C.Edt = refl
named_code C.Repeat = refl
named_code C.Xtra = refl
named_code C.Bool = refl
named_code C.Empty = refl
named_code C.Padding = refl
named_code C.Reserved = refl

-- classes of one code are one class
pub by_code : (c e : Class) (x : ℕ) → x ≡ code_of c → x ≡ code_of e → e ≡ c
by_code c e x p q = sym (named_code e) ∙ ap named (sym q ∙ p) ∙ named_code c

-- x is none of the numbers below n, as a `match` tells it
abbrev pub NoneBelow : ℕ → ℕ → Type 0
NoneBelow zero x = Unit {0}
NoneBelow (suc n) x = NoneBelow n x × (x ≡ n → ⊥)

pub none_below : (n x : ℕ) → NoneBelow n x → n ≤ x
none_below zero x r = omega arith
none_below (suc n) x r = let h = none_below n x r.0 in let e = r.1 in omega arith
