-- A stretch of rows of one kind whose items take one byte each: its bytes one by one, and the run behind it. Assumes nothing.
use mathlib.Core.Path.{◌≡◌, refl, sym, ap, ◌∙◌, subst}
use mathlib.Core.List.{List, [], ◌∷◌, ◌++◌}
use Prim.Native.Nat.{ℕ, zero, suc, ◌+◌, ◌-◌, ◌<◌, ◌≤◌}
use native.Mathlib.Omega.{arith}
use lib.ListN.{length, take, drop, set, length-set}
use Rattle.format.specs.Normal.{normal_leaf, normal, depth}
use Rattle.format.proofs.Choices.{split, if_eq_yes}
use Rattle.format.proofs.ItemLaws.{rows_least}
use Rattle.table.specs.Rows.{kind_at, b_at, items_at, Run, leaf_at, LeafAt}
use Rattle.writer.specs.Forms.{codes_from, plain_byte, Alike}
use Rattle.writer.proofs.NumberLaws.{int_small}
use Rattle.table.proofs.RowData.{int_at_lem, plain_code}
use Rattle.writer.proofs.LeafForms.{plain_form}
use Rattle.table.proofs.RunLaws.{leaf_step, leaf_depth}
use Rattle.format.specs.Answers.{over}
use Rattle.format.proofs.Over.{at_front, set_next, back_length, lent}
use Rattle.writer.proofs.WriteLaws.{leaf_normal, Going, going_on}

-- ---- the bytes of a stretch
codes_length : (k p low : ℕ) (w : List ℕ) → length (codes_from w low p k) ≡ k
unfolding codes_from
codes_length zero p low w = refl
codes_length (suc k) p low w = ap suc (codes_length k (p + 1) low w)

codes_snoc : (k p low : ℕ) (w : List ℕ) → codes_from w low p (suc k) ≡ codes_from w low p k ++ ((low + b_at w (p + k)) ∷ [])
unfolding codes_from
codes_snoc zero p low w = let z : p + 0 ≡ p = omega arith in ap (λ i. (low + b_at w i) ∷ []) (sym z)
codes_snoc (suc k) p low w =
    let z : p + 1 + k ≡ p + suc k = omega arith in
    ap (λ l. (low + b_at w p) ∷ l) (codes_snoc k (p + 1) low w ∙ ap (λ i. codes_from w low (p + 1) k ++ ((low + b_at w i) ∷ [])) z)

-- ---- as they are written over the front of an output
-- the rows p up to q are of a kind, and their bytes stand
pub record Strung (w : List ℕ) (kind most low p : ℕ) (old out : List ℕ) (q : ℕ) : Type 0 where
  pub start : p ≤ q
  pub same : length out ≡ length old
  pub each : (i : ℕ) → p ≤ i → i < q → (kind_at w i ≡ kind) × (b_at w i < most)
  pub written : out ≡ over (codes_from w low p (q - p)) old

module _ (w : List ℕ) (kind most low p : ℕ) (old : List ℕ) where
  pub strung_starts : Strung w kind most low p old old p
  unfolding codes_from over
  strung_starts =
      let z : p - p ≡ 0 = omega arith in
      record {
        start = omega arith;
        same = refl;
        each = λ i a b. absurd (omega arith);
        written = rw z refl;
      }

  pub strung_on : (out : List ℕ) (q k b : ℕ) → Strung w kind most low p old out q → k ≡ kind_at w q → b ≡ b_at w q → k ≡ kind → b < most → q - p < length old →
      Strung w kind most low p old (set out (q - p) (low + b)) (q + 1)
  strung_on out q k b s ek eb is low_b h =
      let a = s.start in
      let l = codes_from w low p (q - p) in
      let m = codes_length (q - p) p low w in
      let z : q - p ≡ 0 + length l = omega arith in
      let e : p + (q - p) ≡ q = omega arith in
      let f : suc (q - p) ≡ q + 1 - p = omega arith in
      let g : l ++ ((low + b) ∷ []) ≡ codes_from w low p (q + 1 - p) =
      ap (λ i. l ++ ((low + i) ∷ [])) (eb ∙ ap (b_at w) (sym e)) ∙ sym (codes_snoc (q - p) p low w) ∙ ap (codes_from w low p) f in
      let r : kind_at w q ≡ kind = omega arith in
      record {
        start = omega arith;
        same = length-set out (q - p) (low + b) ∙ s.same;
        each = λ i x y. split i q (λ lt. s.each i x lt) (λ ge. let z : q ≡ i = omega arith in subst (λ (j : ℕ). (kind_at w j ≡ kind) × (b_at w j < most)) z (r, omega arith));
        written = ap (λ i. set out i (low + b)) z ∙ set_next 0 (low + b) l old out (s.written ∙ sym (at_front l old)) (omega arith) ∙ at_front (l ++ ((low + b) ∷ [])) old
            ∙ ap (λ x. over x old) g;
      }

  -- it ends at q, where the row q is not of the kind, or nothing is left
  strung_ends : (out : List ℕ) (to q : ℕ) → Strung w kind most low p old out q → q ≤ to → (q < to → kind_at w q ≡ kind → b_at w q < most → ⊥) → Alike w kind most p to (p + (q - p))
  strung_ends out to q s h stop =
      let a = s.start in
      let z : q ≡ p + (q - p) = omega arith in
      subst (λ (j : ℕ). Alike w kind most p to j) z
      (record {
        start = a;
        within = h;
        each = s.each;
        moves = λ l k b. split p q (λ lt. lt) (λ ge. let z : p ≡ q = omega arith in absurd (stop (rw z at l) (rw z at k) (rw z at b)));
      })

  pub strung_all : (out : List ℕ) (to q : ℕ) → Strung w kind most low p old out q → q ≡ to → Alike w kind most p to (p + (q - p))
  strung_all out to q s h = strung_ends out to q s (omega arith) (λ l k b. omega arith)

  pub strung_kind : (out : List ℕ) (to q k : ℕ) → Strung w kind most low p old out q → q ≤ to → k ≡ kind_at w q → (k ≡ kind → ⊥) → Alike w kind most p to (p + (q - p))
  strung_kind out to q k s h ek n = strung_ends out to q s h (λ l i b. n (ek ∙ i))

  pub strung_bound : (out : List ℕ) (to q b : ℕ) → Strung w kind most low p old out q → q ≤ to → b ≡ b_at w q → most ≤ b → Alike w kind most p to (p + (q - p))
  strung_bound out to q b s h eb n = strung_ends out to q s h (λ l i m. omega arith)

pub ruleset stringing = (strung_starts, strung_on, strung_all, strung_kind, strung_bound)

-- ---- what they are
-- the items of a kind whose last word is below `most` take the byte `low` and that word added
pub record ItemByte (w : List ℕ) (kind most low : ℕ) : Type 0 where
  pub leaf : kind < 7
  pub form : (i : ℕ) → LeafAt w i → kind_at w i ≡ kind → b_at w i < most → normal_leaf (leaf_at w i) ≡ (low + b_at w i) ∷ []

pub char_byte : (w : List ℕ) → ItemByte w 3 128 0
unfolding plain_byte
char_byte w =
    record {
      leaf = omega arith;
      form = λ i r k b.
          let z : b_at w i ≡ 0 + b_at w i = omega arith in
          plain_form w r.before i (leaf_at w i) r.row (λ e. omega arith) (λ e. omega arith) ∙ ap (λ x. x ∷ []) (if_eq_yes (kind_at w i) 3 _ _ k ∙ z);
    }

pub int_byte : (w : List ℕ) → ItemByte w 1 64 0x80
unfolding normal_leaf
int_byte w = record { leaf = omega arith; form = λ i r k b. ap normal_leaf (int_at_lem w i k) ∙ int_small (b_at w i) b }

-- the row of a CHAR holds a code
pub char_code : (w : List ℕ) (p e : ℕ) → Run w p e → p < e → kind_at w p ≡ 3 → b_at w p < 128
char_code w p e r h k =
    let s = leaf_step w p e r h (omega arith) in
    (plain_code w s.here.before p (leaf_at w p) s.here.row (λ z. omega arith) (λ z. omega arith)).0 k

-- ---- a run behind such a stretch
pub record Behind (w : List ℕ) (low p k e : ℕ) : Type 0 where
  pub run : Run w (p + k) e
  pub is : normal (items_at w p e) ≡ codes_from w low p k ++ normal (items_at w (p + k) e)
  pub flat : depth (items_at w p e) ≡ depth (items_at w (p + k) e)

behind : (k p : ℕ) (w : List ℕ) (kind most low e : ℕ) → ItemByte w kind most low → Run w p e → p + k ≤ e →
    ((i : ℕ) → p ≤ i → i < p + k → (kind_at w i ≡ kind) × (b_at w i < most)) → Behind w low p k e
unfolding codes_from
behind zero p w kind most low e o r h each = let z : p + 0 ≡ p = omega arith in record { run = rw z r; is = rw z refl; flat = rw z refl }
behind (suc k) p w kind most low e o r h each =
    let z : p + 1 + k ≡ p + suc k = omega arith in
    let row = each p (omega arith) (omega arith) in
    let g = o.leaf in
    let s = leaf_step w p e r (omega arith) (omega (arith, row.0)) in
    let t = behind k (p + 1) w kind most low e o s.next (omega arith) (λ i a b. each i (omega arith) (omega arith)) in
    let m : List ℕ = normal (items_at w (p + 1 + k) e) in
    record {
      run = rw z at t.run;
      is = leaf_normal w p e s ∙ ap (λ l. l ++ normal (items_at w (p + 1) e)) (o.form p s.here row.0 row.1) ∙ ap (λ l. (low + b_at w p) ∷ l) t.is
          ∙ ap (λ i. (low + b_at w p) ∷ (codes_from w low (p + 1) k ++ normal (items_at w i e))) z;
      flat = leaf_depth w p e s ∙ t.flat ∙ ap (λ i. depth (items_at w i e)) z;
    }

-- ---- writing a run
module _ {w : List ℕ} {from to d : ℕ} {old out : List ℕ} {p n : ℕ} (s : Going w from to d old out p n) where
  -- every row left has room for a byte
  pub going_rows : n + (to - p) ≤ length out
  going_rows =
      let a = s.room in
      let b = s.number in
      let c = s.same in
      omega (arith, rows_least (items_at w p to), s.run.stands.number)

  -- they come back in the part that was lent for them
  pub going_singles : (kind most low k : ℕ) (ys : List ℕ) → ItemByte w kind most low → Alike w kind most p to (p + k) → length ys ≡ length (take (length out - n) (drop n out)) →
      ys ≡ over (codes_from w low p k) (take (length out - n) (drop n out)) → Going w from to d old (take n out ++ (ys ++ drop (length out - n) (drop n out))) (p + k) (n + k)
  going_singles kind most low k ys o a l e =
      let y = a.within in
      let r = going_rows in
      let f = behind k p w kind most low to o s.run y (λ i u v. a.each i u v) in
      let g = s.shallow in
      going_on s (codes_from w low p k) _ (p + k) k f.is y f.run (omega (arith, f.flat)) (back_length n out ys (omega arith) l) (lent n (codes_from w low p k) out ys e) (sym (codes_length k p low w))
