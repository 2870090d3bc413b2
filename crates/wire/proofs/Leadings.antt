-- The INT at the front of contents, found as its meaning says. Assumes nothing.
use Prim.Native.Nat.{ℕ, zero, suc, ◌+◌, ◌-◌, ◌%◌, ◌≤◌, ◌<◌}
use mathlib.Core.Path.{◌≡◌, refl, sym, ap, ◌∙◌}
use mathlib.Core.Logic.{◌≢◌}
use mathlib.Core.List.{List, ◌∷◌}
use native.Mathlib.Numerals.{add-one}
use native.Mathlib.Omega.{arith}
use lib.ListN.{length, take, drop, get_or, length-drop, drop_of_length-le}
use lib.Seq.{drop-cons}
use lib.IntN.{ℤ, pos}
use Rattle.format.specs.declared.Class.{Class}
use Rattle.format.specs.declared.Class.TheVariants as C
use Rattle.format.specs.Classes.{class_of}
use Rattle.format.specs.Objects as O
use Rattle.format.proofs.Choices.{if_lt_yes, if_lt_no, split}
use Rattle.format.proofs.Parts.{rest_part}
use Rattle.format.proofs.TypeBytes.{InClass}
use Rattle.std.specs.Prelude.{Result, Ok, Err}
use Rattle.wire.specs.declared.integer.Integer.{Integer}
use Rattle.wire.specs.declared.integer.NoInteger.{NoInteger}
use Rattle.wire.specs.declared.integer.NoInteger.TheVariants.{Cut}
use Rattle.wire.proofs.ClassCases.{of_class}
use Rattle.wire.specs.Heads.{LeadingIs, onward, Unpadded, linteger_at}
use Rattle.wire.specs.Ranges.{Ranged}

onward_later : (i : ℕ) (l : O.Leading) → onward i (O.later l) ≡ onward (suc i) l
unfolding onward O.later
onward_later i O.absent = refl
onward_later i (O.cut_int p k) = ap (λ q. O.cut_int q k) (omega arith)
onward_later i (O.found z u) = ap (O.found z) (omega arith)

onward_none : (l : O.Leading) → onward 0 l ≡ l
unfolding onward
onward_none O.absent = refl
onward_none (O.cut_int p k) = ap (λ q. O.cut_int q k) (omega arith)
onward_none (O.found z u) = ap (O.found z) (omega arith)

pub skip_none : (s : List ℕ) → O.leading s ≡ onward 0 (O.leading (drop 0 s))
skip_none s = sym (onward_none (O.leading s))

-- one byte of padding more
pub skip_one : (s : List ℕ) (i : ℕ) → i < length s → get_or s i 0 ≡ 0xff → O.leading s ≡ onward i (O.leading (drop i s))
    → O.leading s ≡ onward (i + 1) (O.leading (drop (i + 1) s))
unfolding O.leading
skip_one s i h e k =
    k ∙ ap (λ l. onward i (O.leading l)) (drop-cons s i 0 h ∙ ap (λ b. b ∷ drop (suc i) s) e)
    ∙ onward_later i (O.leading (drop (suc i) s))
    ∙ (rw (add-one i) refl)

-- all of it up to i
pub skip_ranged : (s : List ℕ) (i : ℕ) → Ranged 0xff 0xff 0 i s → O.leading s ≡ onward i (O.leading (drop i s))
skip_ranged s zero r = skip_none s
skip_ranged s (suc i) r =
    let b = r.2 i (omega arith) (omega arith) in
    rw (add-one i) at (skip_one s i (omega (arith, r.1)) (omega (arith, b.0, b.1)) (skip_ranged s i (omega arith, omega (arith, r.1), λ j p q. r.2 j p (omega arith))))

pub skip_all : (s : List ℕ) (i : ℕ) → length s ≤ i → Unpadded s i → O.leading s ≡ O.absent
unfolding O.leading onward
skip_all s i h u = u.skipped ∙ ap (λ l. onward i (O.leading l)) (drop_of_length-le s h)

-- what the type-byte behind the padding makes it
at_class : (s : List ℕ) (i b : ℕ) (c : Class) → i < length s → b ≡ get_or s i 0 → c ≡ class_of b → Unpadded s i
    → O.leading s ≡ onward i (O.leading_by c b (drop (suc i) s) (O.leading (drop (suc i) s)))
unfolding O.leading
at_class s i b c h eb ec u =
    u.skipped ∙ ap (λ l. onward i (O.leading l)) (drop-cons s i 0 h ∙ ap (λ x. x ∷ drop (suc i) s) (sym eb))
    ∙ ap (λ k. onward i (O.leading_by k b (drop (suc i) s) (O.leading (drop (suc i) s)))) (sym ec)

pub leading_small : (s : List ℕ) (i b : ℕ) (n : Integer) → n.value ≡ pos (b % 64) → n.bytes ≡ i + 1 → i < length s → b ≡ get_or s i 0 → C.Sinteger ≡ class_of b → Unpadded s i
    → LeadingIs s (Ok n)
unfolding O.leading_by onward
leading_small s i b n ez en h eb ec u =
    let r = of_class b C.Sinteger ec in
    let e : b % 64 ≡ b - 128 = omega (arith, r.0, r.1) in
    (at_class s i b C.Sinteger h eb ec u ∙ ap (λ y. O.found y (i + 1)) (ap pos (sym e) ∙ sym ez) ∙ ap (O.found n.value) (sym en), omega arith)

-- where an LINTEGER ends too early, and what it is
abbrev pub cut_at : ℕ → ℕ → Result Integer NoInteger
cut_at i k = Err (Cut i k)

abbrev pub found_at : ℤ → ℕ → Result Integer NoInteger
found_at z u = Ok (record { value = z; bytes = u })

pub linteger_cut : (s : List ℕ) (i b k : ℕ) → k ≡ O.following b → length s - (i + 1) < k → cut_at i (k - (length s - (i + 1))) ≡ linteger_at s i b
unfolding linteger_at
linteger_cut s i b k ek l =
    ap (λ j. cut_at i (j - (length s - (i + 1)))) ek ∙ sym (if_lt_yes (length s - (i + 1)) (O.following b) _ _ (rw ek at l))

pub linteger_found : (s : List ℕ) (i b k : ℕ) (z : ℤ) → k ≡ O.following b → k ≤ length s - (i + 1)
    → z ≡ O.integer (take k (take (length s - (i + 1)) (drop (i + 1) s))) → found_at z (i + 1 + k) ≡ linteger_at s i b
unfolding linteger_at
linteger_found s i b k z ek g ez =
    rw (ez, rest_part s (i + 1), ek) (sym (if_lt_no (length s - (i + 1)) (O.following b) _ _ (rw ek at g)))

pub leading_long : (s : List ℕ) (i b : ℕ) → i < length s → b ≡ get_or s i 0 → C.Linteger ≡ class_of b → Unpadded s i
    → LeadingIs s (linteger_at s i b)
unfolding O.leading_by onward linteger_at
leading_long s i b h eb ec u =
    let e = at_class s i b C.Linteger h eb ec u in
    let n : length (drop (suc i) s) ≡ length s - (i + 1) = length-drop (suc i) s ∙ omega arith in
    split (length s - (i + 1)) (O.following b)
    (λ l.
    let m : length (drop (suc i) s) < O.following b = omega arith in
    rw (if_lt_yes (length s - (i + 1)) (O.following b)) (
      rw (if_lt_yes (length (drop (suc i) s)) (O.following b)) at e ∙ ap (λ q. O.cut_int q (O.following b - length (drop (suc i) s))) (let z : i + 0 ≡ i = omega arith in z)
          ∙ ap (λ k. O.cut_int i (O.following b - k)) n,
      h,
    ))
    (λ g.
    let m : O.following b ≤ length (drop (suc i) s) = omega arith in
    rw (if_lt_no (length s - (i + 1)) (O.following b), add-one i)
    ((rw (if_lt_no (length (drop (suc i) s)) (O.following b)) at e) ∙ ap (O.found (O.integer (take (O.following b) (drop (suc i) s)))) (omega arith), omega arith))

-- a class that is no integer's, of a byte that is no padding
no_integer : (c : Class) (b : ℕ) (s : List ℕ) (more : O.Leading) → InClass b c → (C.Sinteger ≡ c → ⊥) → (C.Linteger ≡ c → ⊥) → b < 256 → b ≢ 0xff
    → O.leading_by c b s more ≡ O.absent
unfolding O.leading_by
no_integer C.Char7 b s more k m l h p = refl
no_integer C.Sinteger b s more k m l h p = absurd (m refl)
no_integer C.Linteger b s more k m l h p = absurd (l refl)
no_integer C.Sbitstr b s more k m l h p = refl
no_integer C.Lbitstr b s more k m l h p = refl
no_integer C.String b s more k m l h p = refl
no_integer C.Struc b s more k m l h p = refl
no_integer C.Ustruc b s more k m l h p = refl
no_integer C.Edt b s more k m l h p = refl
no_integer C.Repeat b s more k m l h p = refl
no_integer C.Xtra b s more k m l h p = refl
no_integer C.Bool b s more k m l h p = refl
no_integer C.Empty b s more k m l h p = refl
no_integer C.Padding b s more k m l h p = absurd (p (omega (arith, k)))
no_integer C.Reserved b s more k m l h p = refl

pub leading_other : (s : List ℕ) (i b : ℕ) (c : Class) → i < length s → b ≡ get_or s i 0 → c ≡ class_of b → (C.Sinteger ≡ c → ⊥) → (C.Linteger ≡ c → ⊥)
    → b < 256 → Unpadded s i → O.leading s ≡ O.absent
unfolding onward
leading_other s i b c h eb ec m l hb u =
    at_class s i b c h eb ec u
    ∙ ap (onward i) (no_integer c b (drop (suc i) s) (O.leading (drop (suc i) s)) (of_class b c ec) m l hb (λ e. u.there h (sym eb ∙ e)))
