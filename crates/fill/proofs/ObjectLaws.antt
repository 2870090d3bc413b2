-- One object of the walk: what it asks, and what it writes. Assumes nothing.
use Rattle.std.proofs.Common.{◌≡◌, ℕ, suc, ◌+◌, ◌-◌, ◌≤◌, Bool, Ok, Err, List, ◌++◌, length, take, drop, sym, ap, ◌∙◌, ap₂, arith}
use Rattle.format.specs.Items.{end}
use Rattle.format.specs.Objects as O
use Rattle.format.specs.Messages.{bad, got, object, reads}
use Rattle.format.specs.Runs.{object_at}
use Rattle.format.specs.Refused.{meant}
use Rattle.format.specs.declared.fault.Fault.{Fault}
use Rattle.format.specs.Answers.{over}
use Rattle.format.proofs.TableLaws.{row_length}
use Rattle.wire.specs.declared.size.Extent.{Extent}
use Rattle.wire.specs.declared.head.Head.{Head}
use Rattle.wire.specs.declared.head.Head.TheVariants.{Text, Open}
use Rattle.wire.specs.declared.head.Wrap.{Wrap}
use Rattle.wire.specs.Heads.{HeadIs}
use Rattle.fill.specs.declared.place.Filled.{Filled}
use Rattle.fill.specs.declared.place.Placed.{Placed}
use Rattle.fill.specs.Plain.{plain_rows, plain_words, placed_as, plain_placed}
use Rattle.fill.specs.Containers.{copies_of, closed_items}
use Rattle.fill.specs.Contents.{ContentsFit}
use Rattle.fill.specs.Walks.{ObjectFits, Laid, ObjectFilled}
use Rattle.format.specs.Lent.{over_at}
use Rattle.format.proofs.Over.{over_length, part_length, lent, back_length}
use Rattle.fill.proofs.Regions.{front_over, back_over, front_at, back_at}
use Rattle.fill.proofs.PlainLaws.{Shown, object_shown}
use Rattle.fill.proofs.LaidLaws.{laid_none}
use Rattle.fill.proofs.ContainerLaws.{Opened, closed_none}

module _ {d b : ℕ} {s : List ℕ} {base gap : ℕ} {t : List ℕ} (f : ObjectFits d b s base gap t) where
  pub data_at_lem : (gap + base ≤ length t) × (gap + base ≤ 65536)
  data_at_lem = (omega arith, omega arith)

  -- it has a head
  pub stopped : (x : Fault) → HeadIs s (Err x) (O.head_of d b s) → ⊥
  unfolding object_at object
  stopped x e =
      let g : bad (meant x) ≡ got f.items f.past = sym (ap (object (λ i n. reads (suc d) (O.contents s i n))) e) ∙ f.said in
      let z : ◌≡◌ {A = ℕ} 0 1 = cc in
      omega arith

  -- no container and no string
  module _ (h : Head) (nt : (x : Extent) → h ≡ Text x → ⊥) (ko : (w : Wrap) (x : Extent) → h ≡ Open w x → ⊥) (e : HeadIs s (Ok h) (O.head_of d b s)) where
    shown : Shown s h f.items f.past
    shown = object_shown d b s f.items f.past f.said h nt ko e

    pub plain_words_lem : length (plain_words s h) ≤ length (take (length t - (gap + base)) (drop (gap + base) t))
    plain_words_lem = rw (← shown.words_are, part_length (gap + base) t) (omega arith)

    module _ {ys : List ℕ} (w : ys ≡ over (plain_words s h) (take (length t - (gap + base)) (drop (gap + base) t))) where
      abbrev T : List ℕ
      T = take (gap + base) t ++ (ys ++ drop (length t - (gap + base)) (drop (gap + base) t))

      rows_few : length (plain_rows s base h) ≤ gap
      rows_few = rw (← shown.rows_are base) (omega (arith, row_length base f.items))

      came : T ≡ over_at (gap + base) (plain_words s h) t
      came = lent (gap + base) (plain_words s h) t ys w

      pub plain_rows_lem : length (plain_rows s base h) ≤ length T
      plain_rows_lem =
          let l = ap length w ∙ over_length (plain_words s h) (take (length t - (gap + base)) (drop (gap + base) t)) plain_words_lem in
          rw (back_length (gap + base) t ys data_at_lem.0 l) (omega (arith, rows_few, data_at_lem.0))

      pub plain_filled : {r : Placed} {t' : List ℕ} → r ≡ plain_placed h → t' ≡ over (plain_rows s base h) T → ObjectFilled d b s base gap t t' r
      plain_filled p q =
          let m = p ∙ shown.placed_is in
          record {
            items = f.items;
            said = f.said ∙ ap (got f.items) (sym (ap (λ x. x.past) m));
            laid = record {
              rows_are = ap (λ x. x.filled.rows) m;
              count_is = ap (λ x. x.filled.count) m;
              words_are = ap (λ x. x.filled.words) m;
              front_is = ap (take gap) q ∙ front_over gap (plain_rows s base h) T rows_few
                  ∙ ap₂ over (sym (shown.rows_are base)) (ap (take gap) came ∙ front_at gap base (plain_words s h) t data_at_lem.0);
              back_is = ap (drop gap) q ∙ back_over gap (plain_rows s base h) T rows_few ∙ ap (drop gap) came
                  ∙ back_at gap base (plain_words s h) t data_at_lem.0 ∙ ap (λ l. over_at base l (drop gap t)) (sym shown.words_are);
            };
          }

  -- a container or a STRING, by its contents
  module _ {raw : Bool} {w : Wrap} {a n : ℕ} (o : Opened raw d s w a n f.items f.past) where
    abbrev pub contents : ContentsFit raw (d + 1) (O.contents s a n) w base gap t
    contents = record { items = o.xs; said = o.said; fits = rw o.closes at f.fits; struc = o.struc }

    pub none_filled : {e k : ℕ} → e ≡ a + n → k ≡ copies_of w → k ≡ 0 → ObjectFilled d b s base gap t t (placed_as 0 0 0 e)
    none_filled ee ek z =
        record {
          items = end;
          said = f.said ∙ ap₂ got (o.closes ∙ closed_none w o.xs (sym ek ∙ z)) (o.past ∙ sym ee);
          laid = laid_none base gap t;
        }

    -- laid out, in the table as it was after a try
    pub open_filled : {t₀ t' : List ℕ} {r : Filled} {e : ℕ} → t₀ ≡ t → Laid (closed_items w o.xs) base gap t₀ t' r.rows r.count r.words → e ≡ a + n
        → ObjectFilled d b s base gap t t' (record { filled = r; past = e })
    open_filled q l ee = record { items = closed_items w o.xs; said = f.said ∙ ap₂ got o.closes (o.past ∙ sym ee); laid = rw q at l }
