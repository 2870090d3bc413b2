-- How containers close: what the scan answers is what the meaning says, by what their contents come to. Assumes nothing.
use Prim.Native.Nat.{ℕ, ◌*◌, ◌≤◌, ◌<◌}
use native.Mathlib.Omega.{arith}
use mathlib.Core.Path.{◌≡◌, refl, sym, ap, ◌∙◌}
use mathlib.Core.Logic.{◌≢◌}
use mathlib.Core.Bool.{Bool, true, false}
use Rattle.std.specs.Prelude.{Result, Ok, Err, ⊤, ◌==◌, if◌then◌else◌}
use Rattle.format.specs.Choice.{pick}
use Rattle.format.specs.Refusals.{Fault, here}
use Rattle.format.specs.declared.fault.Refusal.{Refusal}
use Rattle.format.specs.declared.fault.Refusal.TheVariants.{SeveralKinds, BadEdt}
use Rattle.format.specs.declared.kinds.Kind.TheVariants as K
use Rattle.format.specs.Refused.{number_of}
use Rattle.format.specs.Tables.{is_text}
use Rattle.format.specs.Items.{Items, edt, uniform, edt_rule, alike}
use Rattle.format.specs.Messages.{bad, got, closing}
use Rattle.format.proofs.Choices.{eq_false}
use Rattle.wire.specs.declared.head.Wrap.{Wrap}
use Rattle.wire.specs.declared.head.Wrap.TheVariants.{Struc, Ustruc, Edt, Repeat}
use Rattle.wire.specs.Heads.{wrap_of, wrap_by}
use Rattle.wire.proofs.ShortLaws.{each_wrap}
use Rattle.scan.specs.declared.summary.Summary.{Summary}
use Rattle.scan.specs.Sums.{cap_words, cap_rows, named, lead, met_none, met_one, sum_of, one_of, text_of, power_of}
use Rattle.scan.specs.Answer.{answer_object, fault_of, closed_by, closed_of}
use Rattle.scan.specs.Shorts.{as_object}
use Rattle.scan.proofs.KindsMet.{named_words, several_met}
use Rattle.scan.proofs.Leads.{edt_leads}
use Rattle.scan.proofs.SumLaws.{sum_group, sum_struc, sum_times}

-- a container under a rule: what the meaning says, and what the scan answers
ruled : (t : Bool) (why : Refusal) (u : ℕ) (xs : Items) (a : Summary) (r : Result ⊤ Refusal) → r ≡ pick t (Ok tt) (Err why) → sum_of xs ≡ a
    → answer_object (pick t (got xs u) (bad (here (number_of why)))) ≡ as_object u (closed_by r a)
unfolding pick answer_object
ruled true why u xs a r e f = rw (e, f) refl
ruled false why u xs a r e f = rw e refl

pub closed_answer : (w : Wrap) (u : ℕ) (xs : Items) → answer_object (closing (wrap_of w) u xs) ≡ as_object u (closed_of w (sum_of xs))
unfolding closing wrap_of answer_object uniform lead
closed_answer Struc u xs = ap (λ a. Ok (a, u)) (sum_struc xs)
closed_answer Ustruc u xs =
    ruled (uniform xs) _ u _ _ _
    (unfold sum_of in (several_met (named xs) (Ok tt) (Err SeveralKinds) ∙ ap (λ ks. pick (alike ks) (Ok tt) (Err SeveralKinds)) (named_words xs)))
    (sum_struc xs)
closed_answer Edt u xs =
    ruled (edt_rule xs) _ u _ _ _ (unfold sum_of in edt_leads xs (Ok tt) (Err BadEdt)) (sum_group edt xs K.Edt K.Edt refl refl (unfold is_text in refl))
closed_answer (Repeat k) u xs = ap (λ a. Ok (a, u)) (sum_times k xs)

-- the same refusal, whatever it comes to
pub closed_err : (r : Result ⊤ Refusal) (a b : Summary) (f : Fault) → closed_by r a ≡ Err f → closed_by r b ≡ Err f
closed_err (Ok x) a b f e = cc
closed_err (Err why) a b f e = e

pub closed_ok : (r : Result ⊤ Refusal) (a b x : Summary) → closed_by r a ≡ Ok x → closed_by r b ≡ Ok b
closed_ok (Ok x) a b y e = refl
closed_ok (Err why) a b y e = cc

-- ---- contents that are all CHARs
-- what n of them come to
unfoldable chars : ℕ → Summary
chars n = record { rows = n; words = 0; mix = met_one K.Char; first = met_one K.Char; second = if n == 1 then met_none else met_one K.Char }

chars_sum : (n : ℕ) → 0 < n → n ≤ 127 → power_of n (one_of K.Char 1 0) ≡ chars n
unfolding chars power_of
chars_sum n g h =
    let r : cap_rows (cap_rows n * cap_rows 1) ≡ n = omega arith in
    let w : cap_words (cap_words n * cap_words 0) ≡ 0 = omega arith in
    let z : n ≢ 0 = omega arith in
    rw (eq_false n 0 z, r, w) refl

-- a container of them is refused as it would be for one, and else a string
pub chars_closed : (b n : ℕ) → 0 < n → n ≤ 127 → (a : Summary) → a ≡ power_of n (one_of K.Char 1 0)
    → closed_by (fault_of (wrap_by b) (one_of K.Char 1 0)) (text_of n) ≡ closed_of (wrap_by b) a
unfolding chars
chars_closed b n g h a e =
    let r : cap_rows n ≡ n = omega arith in
    let s : ◌≡◌ {A = Result Summary Fault} (Ok (text_of n)) (Ok (text_of (cap_rows n))) = ap (λ x. Ok (text_of x)) (sym r) in
    rw (e, chars_sum n g h)
    (each_wrap (λ w. closed_by (fault_of w (one_of K.Char 1 0)) (text_of n) ≡ closed_of w (chars n)) b s s refl)
