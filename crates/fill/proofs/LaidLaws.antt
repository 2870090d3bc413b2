-- What is laid out: nothing at all, and that the table keeps its length. Assumes nothing.
use Rattle.std.proofs.Common.{◌≡◌, ℕ, ◌-◌, List, length, take, drop, sym, refl, ap, ◌∙◌, ap₂, arith, length-append, length-drop, take-append-drop, length-take-le}
use Rattle.format.specs.Items.{Items, end}
use Rattle.format.specs.Tables.{count, rows, data_words, row_words}
use Rattle.format.proofs.TableLaws.{row_length}
use Rattle.fill.specs.declared.place.Filled.{Filled}
use Rattle.fill.specs.Walks.{Fits, Laid}
use Rattle.format.proofs.Over.{over_none, over_length, at_none, at_length}

-- nothing at all, as the code makes it
pub nothing : (f : Filled) → (f.rows ≡ 0) × ((f.count ≡ 0) × (f.words ≡ 0)) → f ≡ record { rows = 0; count = 0; words = 0 }
nothing f e =
    ap (λ n. record { rows = n; count = f.count; words = f.words }) e.0 ∙ ap₂ (λ m n. record { rows = 0; count = m; words = n }) e.1.0 e.1.1

pub laid_none : (base gap : ℕ) (t : List ℕ) → Laid end base gap t t 0 0 0
unfolding rows count data_words row_words
laid_none base gap t =
    record {
      rows_are = refl;
      count_is = refl;
      words_are = refl;
      front_is = sym (over_none (take gap t));
      back_is = sym (at_none base (drop gap t));
    }

pub laid_long : {xs : Items} {base gap : ℕ} {t t' : List ℕ} {r c w : ℕ} → Laid xs base gap t t' r c w → Fits xs base gap (length t) → length t' ≡ length t
laid_long {xs} {base} {gap} {t} {t'} l f =
    let D : List ℕ = drop gap t in
    let a : length (take gap t) ≡ gap = length-take-le gap t (omega arith) in
    let b : length D ≡ length t - gap = length-drop gap t in
    let x = ap length l.front_is ∙ over_length (row_words base xs) (take gap t) (omega (arith, row_length base xs)) in
    let y = ap length l.back_is ∙ at_length base (data_words xs) D (omega arith) in
    sym (ap length (take-append-drop gap t')) ∙ length-append (take gap t') (drop gap t') ∙ omega arith
