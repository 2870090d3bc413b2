-- An SBITSTR put in place without its head: what it asks, and what it writes. Assumes nothing.
use Rattle.std.proofs.Common.{◌≡◌, ℕ, ◌+◌, ◌/◌, ◌<◌, ◌≤◌, ◌≢◌, List, [], ◌∷◌, length, take, drop, set, sym, ap, ◌∙◌, ap₂, arith, length-drop}
use lib.Seq.{take-set-le, drop-set-add}
use Rattle.format.specs.Bits.{words_for}
use Rattle.format.specs.Tables.{rows, data_words}
use Rattle.format.specs.Messages.{got}
use Rattle.format.specs.Answers.{over}
use Rattle.format.specs.Objects as O
use Rattle.wire.specs.Heads.{BitsAt, marked_word}
use Rattle.fill.specs.declared.place.Placed.{Placed}
use Rattle.fill.specs.Plain.{plain_rows, placed_as, plain_placed, sbits_head, PlainPut}
use Rattle.fill.specs.Walks.{ObjectFits, ObjectFilled}
use Rattle.format.specs.Lent.{over_at}
use Rattle.format.proofs.Over.{at_none, set_at}
use Rattle.fill.proofs.Regions.{front_over, back_over}
use Rattle.fill.proofs.PlainLaws.{Shown, object_shown, sbits_no_text, sbits_no_open, sbits_none, sbits_one}

-- ---- what is written
-- the place of its word
pub word_place : (n base gap len : ℕ) → n ≢ 0 → gap + (base + words_for n) ≤ len → gap + base < len
unfolding words_for
word_place n base gap len z h = omega arith

module _ (b : ℕ) (s : List ℕ) (n base gap : ℕ) (t : List ℕ) (h : 3 ≤ gap) (t₁ : List ℕ) (w₁ : t₁ ≡ over (2 ∷ n ∷ base ∷ []) t) (u : ℕ)
    (eu : u ≡ O.following b) (r : Placed) where
  abbrev row : List ℕ
  row = 2 ∷ n ∷ base ∷ []

  pub none_put : n ≡ 0 → r ≡ placed_as 1 1 0 u → PlainPut s (sbits_head b s n) base gap t t₁ r
  unfolding plain_placed plain_rows words_for
  none_put z p =
      let e : (n + 63) / 64 ≡ 0 = omega arith in
      let w = sbits_none s n (marked_word b s n) (O.following b) z in
      record {
        placed = p ∙ ap₂ (placed_as 1 1) (sym e) eu;
        front_is = ap (take gap) w₁ ∙ front_over gap row t h;
        back_is = ap (drop gap) w₁ ∙ back_over gap row t h ∙ sym (ap (λ l. over_at base l (drop gap t)) w ∙ at_none base (drop gap t));
      }

  pub one_put : 0 < n → n ≤ 63 → gap + base < length t → r ≡ placed_as 1 1 1 u → (v : ℕ) → v ≡ marked_word b s n
      → PlainPut s (sbits_head b s n) base gap t (set t₁ (gap + base) v) r
  unfolding plain_placed plain_rows words_for
  one_put z m g p v ev =
      let e : (n + 63) / 64 ≡ 1 = omega arith in
      let w = sbits_one s n (marked_word b s n) (O.following b) z m in
      record {
        placed = p ∙ ap₂ (placed_as 1 1) (sym e) eu;
        front_is = take-set-le gap t₁ (gap + base) v (omega arith) ∙ ap (take gap) w₁ ∙ front_over gap row t h;
        back_is = drop-set-add gap t₁ base v ∙ ap (λ l. set l base v) (ap (drop gap) w₁ ∙ back_over gap row t h)
            ∙ set_at base v (drop gap t) (omega (arith, length-drop gap t))
            ∙ ap (λ l. over_at base l (drop gap t)) (ap (λ x. x ∷ []) ev ∙ sym w);
      }

-- ---- as an object of the walk
module _ {d b : ℕ} {s : List ℕ} {base gap : ℕ} {t : List ℕ} (f : ObjectFits d b s base gap t) {n : ℕ} (x : BitsAt b s n) where
  shown : Shown s (sbits_head b s n) f.items f.past
  shown = object_shown d b s f.items f.past f.said (sbits_head b s n) (sbits_no_text _ _ _) (sbits_no_open _ _ _) (x.head d)

  pub sbits_room : (n ≤ 63) × (O.following b ≤ length s) × (3 ≤ gap) × (gap + (base + words_for n) ≤ length t)
  unfolding plain_placed
  sbits_room =
      let one : 1 ≡ rows f.items = ap (λ p. p.filled.rows) shown.placed_is in
      let many : words_for n ≡ length (data_words f.items) = ap (λ p. p.filled.words) shown.placed_is in
      (x.few, x.within, omega arith, omega arith)

  pub sbits_filled : {t' : List ℕ} {r : Placed} → PlainPut s (sbits_head b s n) base gap t t' r → ObjectFilled d b s base gap t t' r
  sbits_filled p =
      let m = p.placed ∙ shown.placed_is in
      record {
        items = f.items;
        said = f.said ∙ ap (got f.items) (sym (ap (λ y. y.past) m));
        laid = record {
          rows_are = ap (λ y. y.filled.rows) m;
          count_is = ap (λ y. y.filled.count) m;
          words_are = ap (λ y. y.filled.words) m;
          front_is = p.front_is ∙ ap (λ l. over l (take gap t)) (sym (shown.rows_are base));
          back_is = p.back_is ∙ ap (λ l. over_at base l (drop gap t)) (sym shown.words_are);
        };
      }
