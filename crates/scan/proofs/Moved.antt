-- What `map_err` makes of an answer, back to the answer. Assumes nothing.
use mathlib.Core.Path.{◌≡◌, refl}
use Rattle.std.specs.Prelude.{Result, Ok, Err, MatchResult}
use Rattle.std.specs.Result.{IsErrAnd}

pub mapped_ok : {T E F : Type 0} (r : Result T E) (m : Result T F) (P : E → F → Type 0) → MatchResult r (λ x. m ≡ Ok x) (λ e. IsErrAnd m (P e)) → (x : T) → m ≡ Ok x → r ≡ Ok x
mapped_ok (Ok y) m P h x e = cc
mapped_ok (Err f) (Ok y) P h x e = absurd h
mapped_ok (Err f) (Err g) P h x e = cc

pub mapped_err : {T E F : Type 0} (r : Result T E) (m : Result T F) (P : E → F → Type 0) → MatchResult r (λ x. m ≡ Ok x) (λ e. IsErrAnd m (P e)) → (x : F) → m ≡ Err x → (f : E) × (r ≡ Err f) × P f x
mapped_err (Ok y) m P h x e = absurd (cc)
mapped_err (Err f) (Ok y) P h x e = absurd h
mapped_err (Err f) (Err g) P h x e = let p : g ≡ x = cc in (f, refl, rw p at h)
