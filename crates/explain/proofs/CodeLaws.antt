-- The numbers of an evidence tell it: no two that are told have the same. Assumes nothing.
use Prim.Native.Nat.{ℕ, ◌-◌, ◌^◌, ◌≤◌, ◌<◌}
use native.Mathlib.Omega.{arith}
use mathlib.Core.Path.{◌≡◌, refl, sym, ap, ◌∙◌, subst}
use mathlib.Core.List.{List, [], ◌∷◌}
use lib.ListN.{length, take, drop}
use lib.Seq.{length-take-le}
use lib.IntN.{ℤ, pos, negsuc}
use lib.Signed.{mag}
use Rattle.format.specs.Choice.{if_eq}
use Rattle.format.specs.Numbers.{Bytes, signed}
use Rattle.format.specs.declared.Class.{Class}
use Rattle.format.specs.declared.Class.TheVariants as C
use Rattle.format.specs.Classes.{class_of}
use Rattle.format.specs.Objects as O
use Rattle.format.proofs.Choices.{by_lt}
use Rattle.format.proofs.Digits.{signed_twos, pow_le, bytes_take, bytes_drop}
use Rattle.format.proofs.TypeBytes.{InClass, in_class, following_range}
use Rattle.format.proofs.Shortest.{integer_mag}
use Rattle.explain.specs.declared.evidence.Evidence.{Evidence}
use Rattle.explain.specs.declared.evidence.Evidence.TheVariants.{Nothing, End, Byte, Number, Absent, Kinds, Element, NoElement, Wanted}
use Rattle.explain.specs.declared.evidence.Code.{Code}
use Rattle.explain.specs.Reasons.{between}
use Rattle.explain.specs.Facts as F
use Rattle.explain.specs.Facts.{Fact, Because}
use Rattle.explain.specs.Explanations.{coded}

-- a number "from -2^63 to 2^63 - 1"
abbrev pub Fitting : Evidence → Type 0
Fitting (Number z) = mag z < 2 ^ 63
Fitting Nothing = Unit {0}
Fitting (End e) = Unit {0}
Fitting (Byte b p) = Unit {0}
Fitting Absent = Unit {0}
Fitting (Kinds p q) = Unit {0}
Fitting (Element k p) = Unit {0}
Fitting (NoElement k) = Unit {0}
Fitting (Wanted r d) = Unit {0}

unfoldable uncoded : Code → Evidence
unfolding if_eq signed
uncoded c =
    if_eq c.evidence 0 Nothing
    (if_eq c.evidence 1 (End c.first)
    (if_eq c.evidence 2 (Byte c.first c.second)
    (if_eq c.evidence 3 (Number (signed 8 c.first))
    (if_eq c.evidence 4 Absent
    (if_eq c.evidence 5 (Kinds c.first c.second)
    (if_eq c.evidence 6 (Element c.first c.second)
    (if_eq c.evidence 7 (NoElement c.first) (Wanted c.first c.second))))))))

coded_back : (v : Evidence) → Fitting v → uncoded (coded v) ≡ v
unfolding coded uncoded
coded_back Nothing f = refl
coded_back (End e) f = refl
coded_back (Byte b p) f = refl
coded_back (Number z) f = ap Number (signed_twos 8 z (omega arith) (omega arith))
coded_back Absent f = refl
coded_back (Kinds p q) f = refl
coded_back (Element k p) f = refl
coded_back (NoElement k) f = refl
coded_back (Wanted r d) f = refl

pub coded_once : (v u : Evidence) → Fitting v → Fitting u → coded v ≡ coded u → v ≡ u
coded_once v u f g q = sym (coded_back v f) ∙ ap uncoded q ∙ coded_back u g

-- ---- the numbers told are in that range: an integer has eight bytes at the most
abbrev FoundFits : O.Leading → Type 0
FoundFits O.absent = Unit {0}
FoundFits (O.cut_int p k) = Unit {0}
FoundFits (O.found z u) = mag z < 2 ^ 63

fits_later : (x : O.Leading) → FoundFits x → FoundFits (O.later x)
unfolding O.later
fits_later O.absent f = f
fits_later (O.cut_int p k) f = f
fits_later (O.found z u) f = f

fits_by : (c : Class) (b : ℕ) (s : List ℕ) → InClass b c → Bytes s → FoundFits (O.leading s) → FoundFits (O.leading_by c b s (O.leading s))
unfolding O.leading_by
fits_by C.Sinteger b s r h f = omega arith
fits_by C.Linteger b s r h f =
    by_lt FoundFits (length s) (O.following b) (λ l. tt)
    (λ l.
    let p = take (O.following b) s in
    let k : length p ≡ O.following b = length-take-le (O.following b) s l in
    let j : length p ≤ 8 = omega (arith, (following_range b).1) in
    omega (arith, integer_mag p (bytes_take (O.following b) s h), pow_le j))
fits_by C.Padding b s r h f = fits_later (O.leading s) f
fits_by C.Char7 b s r h f = tt
fits_by C.Sbitstr b s r h f = tt
fits_by C.Lbitstr b s r h f = tt
fits_by C.String b s r h f = tt
fits_by C.Struc b s r h f = tt
fits_by C.Ustruc b s r h f = tt
fits_by C.Edt b s r h f = tt
fits_by C.Repeat b s r h f = tt
fits_by C.Xtra b s r h f = tt
fits_by C.Bool b s r h f = tt
fits_by C.Empty b s r h f = tt
fits_by C.Reserved b s r h f = tt

found_fits : (s : List ℕ) → Bytes s → FoundFits (O.leading s)
unfolding O.leading
found_fits [] h = tt
found_fits (b ∷ s) h = fits_by (class_of b) b s (in_class b) h.1 (found_fits s h.1)

module _ (m : List ℕ) (bytes : Bytes m) where
  number_fits : (a z : ℕ) (n : ℤ) (u : ℕ) → O.leading (between m a z) ≡ O.found n u → mag n < 2 ^ 63
  unfolding between
  number_fits a z n u q = subst FoundFits q (found_fits (between m a z) (bytes_take (z - a) (drop a m) (bytes_drop a m bytes)))

  fact_fits : (ps : List ℕ) (i e n p : ℕ) (qs : List ℕ) (v : Evidence) → Fact m ps i e n p qs v → Fitting v
  fact_fits ps i e n p qs v (F.own_end x) = tt
  fact_fits ps i e n p qs v (F.count_end a z q k b c l x) = tt
  fact_fits ps i e n p qs v (F.length_end a z q k b c l x) = tt
  fact_fits ps i e n p qs v (F.reserved c) = tt
  fact_fits ps i e n p qs v (F.seventeenth c l) = tt
  fact_fits ps i e n p qs v (F.no_marker c l z) = tt
  fact_fits ps i e n p qs v (F.outermost b z) = tt
  fact_fits ps i e n p qs v (F.other_byte w a z q c x k l y u t o) = tt
  fact_fits ps i e n p qs v (F.no_object w a z c x y) = tt
  fact_fits ps i e n p qs v (F.negative w a z k u c x q) = number_fits a z (negsuc k) u q
  fact_fits ps i e n p qs v (F.disagreeing a z k u b x q w) = number_fits a z (pos k) u q
  fact_fits ps i e n p qs v (F.kinds_apart_case a z xs x y same more c k o q r) = tt
  fact_fits ps i e n p qs v (F.no_first a z c k o) = tt
  fact_fits ps i e n p qs v (F.first_wrong a z xs x more c k o q) = tt
  fact_fits ps i e n p qs v (F.no_second a z xs x c k o q) = tt
  fact_fits ps i e n p qs v (F.second_wrong a z xs x y more c k o q r) = tt

  pub because_fits : (n p : ℕ) (ps : List ℕ) (v : Evidence) → Because m n p ps v → Fitting v
  because_fits n p ps v (F.because qs i e g r l o a b f) = fact_fits qs i e n p ps v f
