-- What an answer tells of the meaning: of a run, and of an object. Assumes nothing.
use Prim.Native.Nat.{ℕ}
use mathlib.Core.Path.{◌≡◌, refl, sym, ap}
use Rattle.std.specs.Prelude.{Ok, Err}
use Rattle.format.specs.Refusals.{Fault}
use Rattle.format.specs.Items.{Items}
use Rattle.format.specs.Messages.{Outcome, refused, says, Object, bad, got}
use Rattle.scan.specs.declared.summary.Summary.{Summary}
use Rattle.scan.specs.Sums.{sum_of}
use Rattle.scan.specs.Answer.{answer, answer_object}

pub refused_run : (x : Fault) (z : Outcome) → Err x ≡ answer z → z ≡ refused x
unfolding answer
refused_run x (refused f) e = let a : x ≡ f = cc in ap refused (sym a)
refused_run x (says xs) e = cc

pub accepted_run : (a : Summary) (z : Outcome) → Ok a ≡ answer z → (xs : Items) × (z ≡ says xs) × (a ≡ sum_of xs)
unfolding answer
accepted_run a (refused f) e = absurd (cc)
accepted_run a (says xs) e = (xs, refl, cc)

pub bad_object : (x : Fault) (o : Object) → Err x ≡ answer_object o → o ≡ bad x
unfolding answer_object
bad_object x (bad f) e = let a : x ≡ f = cc in ap bad (sym a)
bad_object x (got xs u) e = cc

pub got_object : (a : Summary) (u : ℕ) (x : Object) → Ok (a, u) ≡ answer_object x → (xs : Items) × (x ≡ got xs u) × (a ≡ sum_of xs)
unfolding answer_object
got_object a u (bad f) e = absurd (cc)
got_object a u (got xs v) e =
    let p : ◌≡◌ {A = Summary × ℕ} (a, u) (sum_of xs, v) = cc in
    (xs, ap (got xs) (sym (ap (λ (q : Summary × ℕ). q.1) p)), ap (λ (q : Summary × ℕ). q.0) p)
