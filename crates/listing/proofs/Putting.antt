-- Text put behind what is written in an output: nothing, one byte, one text behind another, and a text part by part. Assumes nothing.
use mathlib.Core.Path.{◌≡◌, refl, sym, ap, subst, ◌∙◌}
use mathlib.Core.List.{List, [], ◌∷◌, ◌++◌, append_assoc, append-nil}
use Prim.Native.Nat.{ℕ, ◌+◌, ◌≤◌, ◌<◌}
use native.Mathlib.Numerals.{add-one}
use native.Mathlib.Omega.{arith}
use lib.ListN.{length, drop, get_or, length-append}
use lib.Seq.{drop-cons}
use Rattle.format.proofs.Over.{at_none, at_length, at_next}
use Rattle.listing.specs.declared.output.Output.{Output}
use Rattle.listing.specs.Puts.{Fits, Put}

pub put_length : {l : List ℕ} {a b : Output} → Put l a b → length b.lent.now ≡ length a.lent.now
put_length {l} {a} x = ap length x.wrote.is ∙ at_length a.at l a.lent.now x.wrote.room

pub nothing : (a : Output) → a.at ≤ length a.lent.now → Put [] a a
nothing a h = record { same = refl; wrote = record { room = omega arith; next = omega arith; is = sym (at_none a.at a.lent.now) } }

-- one text, and another behind it
pub then : {l k : List ℕ} {a b d : Output} → Put l a b → Put k b d → Put (l ++ k) a d
then {l} {k} {a} {b} x y =
    let u = put_length x in
    let v = length-append l k in
    let xn = x.wrote.next in
    let xr = x.wrote.room in
    let yr = y.wrote.room in
    let yn = y.wrote.next in
    record {
      same = y.same ∙ x.same;
      wrote = record { room = omega arith; next = omega arith; is = y.wrote.is ∙ at_next a.at l k a.lent.now b.lent.now b.at (omega arith) x.wrote.is x.wrote.next };
    }

-- there is room for the first of two, and then for the second
pub fits_first : {l : List ℕ} (k : List ℕ) {a : Output} → Fits (l ++ k) a → Fits l a
fits_first {l} k h = record { room = omega (arith, length-append l k) }

pub fits_byte : {b : ℕ} {k : List ℕ} {a : Output} → Fits (b ∷ k) a → Fits (b ∷ []) a
fits_byte h = record { room = omega arith }

pub fits_next : {l k : List ℕ} {a b : Output} → Put l a b → Fits (l ++ k) a → Fits k b
fits_next {l} {k} x h = let u = put_length x in let n = x.wrote.next in record { room = omega (arith, length-append l k) }

-- a text of which a part stands already
pub record Part (whole rest : List ℕ) (a b : Output) : Type 0 where
  pub done : List ℕ
  pub put : Put done a b
  pub all : done ++ rest ≡ whole

pub part_start : (l : List ℕ) (a : Output) → Fits l a → Part l l a a
part_start l a h = record { done = []; put = nothing a (omega arith); all = refl }

pub part_step : {whole rest l more_rest : List ℕ} {a b d : Output} → Part whole rest a b → rest ≡ l ++ more_rest → Put l b d → Part whole more_rest a d
part_step {l = l} {more_rest = r} x e y =
    record { done = x.done ++ l; put = then x.put y; all = append_assoc x.done l r ∙ ap (λ z. x.done ++ z) (sym e) ∙ x.all }

pub part_end : {whole rest : List ℕ} {a b : Output} → Part whole rest a b → rest ≡ [] → Put whole a b
part_end {whole} {rest} {a} {b} x e = subst (λ (l : List ℕ). Put l a b) (sym (append-nil x.done) ∙ ap (λ z. x.done ++ z) (sym e) ∙ x.all) x.put

pub part_room : {whole rest : List ℕ} {a b : Output} → Fits whole a → Part whole rest a b → Fits rest b
part_room {whole} {rest} {a} h x = fits_next x.put (rw x.all h)

-- the first of what is left
pub part_first : {whole rest l : List ℕ} (k : List ℕ) {a b : Output} → Fits whole a → Part whole rest a b → rest ≡ l ++ k → Fits l b
part_first k h x e = fits_first k (rw e at (part_room h x))

-- one more of a text
pub drop_on : (t : List ℕ) (i : ℕ) → i < length t → drop i t ≡ (get_or t i 0 ∷ []) ++ drop (i + 1) t
drop_on t i h = drop-cons t i 0 h ∙ ap (λ n. get_or t i 0 ∷ drop n t) (sym (add-one i))
