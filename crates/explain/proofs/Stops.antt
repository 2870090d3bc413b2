-- The evidence of an object that is refused by itself, test by test. Assumes nothing.
use Prim.Native.Nat.{ℕ, ◌+◌, ◌≤◌, ◌<◌}
use native.Mathlib.Omega.{arith}
use mathlib.Core.Path.{◌≡◌, refl, sym, ap, ◌∙◌, subst}
use mathlib.Core.Bool.{true, false}
use mathlib.Core.Logic.{◌≢◌, inl, inr}
use mathlib.Core.List.{List}
use lib.ListN.{length, get_or}
use Rattle.format.specs.Refusals.{Fault}
use Rattle.format.specs.declared.fault.Refusal.{Refusal}
use Rattle.format.specs.declared.fault.Refusal.TheVariants as F
use Rattle.format.specs.Refused.{number_of}
use Rattle.format.specs.Objects as O
use Rattle.format.specs.Objects.{size_of}
use Rattle.format.specs.Classes.{class_of}
use Rattle.format.specs.declared.Class.TheVariants.{Lbitstr}
use Rattle.format.proofs.TypeBytes.{InClass, in_class}
use Rattle.format.proofs.HeadCases.{Lacking, past_range}
use Rattle.format.proofs.Bounds.{HeadWithin, head_within}
use Rattle.format.proofs.Choices.{if_lt_yes, if_lt_no, if_eq_yes, if_eq_no}
use Rattle.explain.specs.declared.evidence.Evidence.{Evidence}
use Rattle.explain.specs.declared.evidence.Evidence.TheVariants.{Nothing, End, Byte}
use Rattle.explain.specs.Reasons.{between, head_at, counting, stopped}

module _ (m : List ℕ) (d i e : ℕ) (f : Fault) where
  abbrev count : Evidence
  count = counting m i (size_of (between m (i + 1) e))

  pub not_own : 0 < f.place → count ≡ stopped m d i e f
  unfolding stopped
  not_own h = sym (if_lt_yes _ _ _ _ h)

  module _ (own : f.place ≤ 0) where
    pub end_passed : f.number < 4 → End e ≡ stopped m d i e f
    unfolding stopped
    end_passed h = sym (if_lt_no _ _ _ _ own ∙ if_lt_yes _ _ _ _ h)

    module _ (late : 4 ≤ f.number) where
      pub type_byte : f.number ≡ 4 → Byte (get_or m i 0) i ≡ stopped m d i e f
      unfolding stopped
      type_byte h = sym (if_lt_no _ _ _ _ own ∙ if_lt_no _ _ _ _ late ∙ if_eq_yes _ _ _ _ h)

      module _ (four : f.number ≢ 4) where
        pub containers : f.number ≡ 5 → Nothing ≡ stopped m d i e f
        unfolding stopped
        containers h = sym (if_lt_no _ _ _ _ own ∙ if_lt_no _ _ _ _ late ∙ if_eq_no _ _ _ _ four ∙ if_eq_yes _ _ _ _ h)

        module _ (five : f.number ≢ 5) where
          pub bit_length : f.number ≡ 6 → get_or m i 0 ≡ 0xc1 → count ≡ stopped m d i e f
          unfolding stopped
          bit_length h b =
              sym (if_lt_no _ _ _ _ own ∙ if_lt_no _ _ _ _ late ∙ if_eq_no _ _ _ _ four ∙ if_eq_no _ _ _ _ five ∙ if_eq_yes _ _ _ _ h ∙ if_eq_yes _ _ _ _ b)

          pub no_marker : f.number ≡ 6 → get_or m i 0 ≢ 0xc1 → Byte 0 (i + 1) ≡ stopped m d i e f
          unfolding stopped
          no_marker h b =
              sym (if_lt_no _ _ _ _ own ∙ if_lt_no _ _ _ _ late ∙ if_eq_no _ _ _ _ four ∙ if_eq_no _ _ _ _ five ∙ if_eq_yes _ _ _ _ h ∙ if_eq_no _ _ _ _ b)

          pub outermost : f.number ≢ 6 → d ≡ 0 → Byte (get_or m i 0) i ≡ stopped m d i e f
          unfolding stopped
          outermost h z =
              sym (if_lt_no _ _ _ _ own ∙ if_lt_no _ _ _ _ late ∙ if_eq_no _ _ _ _ four ∙ if_eq_no _ _ _ _ five ∙ if_eq_no _ _ _ _ h ∙ if_eq_yes _ _ _ _ z)

          pub repeat_count : f.number ≢ 6 → d ≢ 0 → count ≡ stopped m d i e f
          unfolding stopped
          repeat_count h z =
              sym (if_lt_no _ _ _ _ own ∙ if_lt_no _ _ _ _ late ∙ if_eq_no _ _ _ _ four ∙ if_eq_no _ _ _ _ five ∙ if_eq_no _ _ _ _ h ∙ if_eq_no _ _ _ _ z)

-- a refusal from 2 on that none of the others is, is a REPEAT's
pub repeat_number : (r : Refusal) → 2 ≤ number_of r → (r ≡ F.PastInput → ⊥) → (r ≡ F.PastEnclosing → ⊥) → (r ≡ F.Unassigned → ⊥) → (r ≡ F.TooDeep → ⊥) → (r ≡ F.BadBits → ⊥)
    → 7 ≤ number_of r
repeat_number F.TooLong l a b c d e = absurd (omega arith)
repeat_number F.PastInput l a b c d e = absurd (a refl)
repeat_number F.PastEnclosing l a b c d e = absurd (b refl)
repeat_number F.Unassigned l a b c d e = absurd (c refl)
repeat_number F.TooDeep l a b c d e = absurd (d refl)
repeat_number F.BadBits l a b c d e = absurd (e refl)
repeat_number F.BadRepeat l a b c d e = omega arith
repeat_number F.SeveralKinds l a b c d e = omega arith
repeat_number F.BadEdt l a b c d e = omega arith
repeat_number F.TooMany l a b c d e = omega arith
repeat_number F.TableShort l a b c d e = omega arith
repeat_number F.NotATable l a b c d e = omega arith
repeat_number F.TooNested l a b c d e = omega arith
repeat_number F.NormalLong l a b c d e = omega arith
repeat_number F.OutputShort l a b c d e = omega arith
repeat_number F.ListShort l a b c d e = omega arith
repeat_number F.NotASheet l a b c d e = omega arith
repeat_number F.FigureEmpty l a b c d e = omega arith
repeat_number F.FigureRange l a b c d e = omega arith

-- a head is refused with 2 or more
pub head_number : (m : List ℕ) (d i e : ℕ) (f : Fault) → head_at m d i e ≡ O.stop f → 2 ≤ f.number
unfolding head_at
head_number m d i e f q =
    go (subst (HeadWithin d (length (between m (i + 1) e))) q (head_within d (get_or m i 0) (between m (i + 1) e))).1
  where
    go : Lacking d f → 2 ≤ f.number
    go (inl l) = omega (arith, (past_range d).0, l)
    go (inr l) = omega (arith, l)

-- ---- the type-byte, by its class
pub lbitstr_byte : (b c : ℕ) → c ≡ b → class_of c ≡ Lbitstr → b ≡ 0xc1
lbitstr_byte b c e q = let k = subst (InClass c) q (in_class c) in omega arith

pub no_lbitstr : (b c : ℕ) → c ≡ b → (class_of c ≡ Lbitstr → false ≡ true) → b ≢ 0xc1
unfolding class_of
no_lbitstr b c e q k = let z : false ≡ true = q (ap class_of (e ∙ k)) in cc
