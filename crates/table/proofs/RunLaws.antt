-- A run of rows one item on: the item by its row, the run behind it, and how deep they are. Assumes nothing.
use mathlib.Core.Path.{◌≡◌, refl, sym, ◌∙◌, ap, ap₂, subst}
use mathlib.Core.List.{List}
use mathlib.Core.Bool.{true, false}
use Prim.Native.Nat.{ℕ, suc, ◌+◌, ◌<◌, ◌≤◌, max}
use native.Mathlib.Omega.{arith}
use lib.ListN.{length}
use Rattle.format.specs.Items.{is_string, Leaf, Group, struc, Items, end, leaf, group}
use Rattle.format.specs.Tables.{rows, is_text, data_words, row_kind}
use Rattle.format.specs.Normal.{depth}
use Rattle.format.proofs.Choices.{whether}
use Rattle.format.proofs.TableLaws.{by_chars, leaf_kind_lem, text_kind, other_kind}
use Rattle.table.specs.Rows.{kind_at, b_at, Stands, items_at, Run, LeafRow, TextRow, leaf_at, LeafAt, text_at, TextAt}
use Rattle.table.proofs.Standing.{group_kind_lem, leaf_parts, group_parts, text_parts, stands_is, run_of, leaf_is, text_is}
use Rattle.table.proofs.KindLaws.{group_row}

-- a run's first item by its row, and the run behind it: a leaf, a group that is no string, and a string
pub record LeafStep (w : List ℕ) (p e : ℕ) : Type 0 where
  pub here : LeafAt w p
  pub next : Run w (p + 1) e
  pub is : items_at w p e ≡ leaf (leaf_at w p) (items_at w (p + 1) e)

pub record GroupStep (w : List ℕ) (p e : ℕ) : Type 0 where
  pub kind : Group
  pub plain : is_text kind (items_at w (p + 1) (p + 1 + b_at w p)) ≡ false
  pub row : kind_at w p ≡ row_kind kind (items_at w (p + 1) (p + 1 + b_at w p))
  pub within : p + 1 + b_at w p ≤ e
  pub inside : Run w (p + 1) (p + 1 + b_at w p)
  pub next : Run w (p + 1 + b_at w p) e
  pub is : items_at w p e ≡ group kind (items_at w (p + 1) (p + 1 + b_at w p)) (items_at w (p + 1 + b_at w p) e)

pub record TextStep (w : List ℕ) (p e : ℕ) : Type 0 where
  pub here : TextAt w p
  pub next : Run w (p + 1) e
  pub is : items_at w p e ≡ group struc (text_at w p) (items_at w (p + 1) e)

module _ (w : List ℕ) (p e : ℕ) where
  step_leaf : (d : ℕ) (xs : Items) → items_at w p e ≡ xs → Stands w d p e xs → p < e → kind_at w p < 7 → LeafStep w p e
  unfolding rows
  step_leaf d end q s h k = absurd (omega (arith, s.number))
  step_leaf d (group g c xs) q s h k = absurd (omega (arith, (group_row w d p e g c xs s).0, group_kind_lem g c))
  step_leaf d (leaf l xs) q s h k =
      let r = leaf_parts w d p e l xs s in
      let i = leaf_is w d p e l r.0 in
      record {
        here = record { before = d; row = subst (λ (x : Leaf). LeafRow w d p x) (sym i) r.0 };
        next = run_of w _ (p + 1) e xs r.1;
        is = q ∙ ap₂ leaf (sym i) (sym (stands_is w _ (p + 1) e xs r.1));
      }

  step_group : (d : ℕ) (xs : Items) → items_at w p e ≡ xs → Stands w d p e xs → p < e → 7 ≤ kind_at w p → (kind_at w p ≡ 9 → ⊥) → GroupStep w p e
  unfolding rows
  step_group d end q s h k n9 = absurd (omega (arith, s.number))
  step_group d (leaf l xs) q s h k n9 = absurd (omega (arith, (leaf_parts w d p e l xs s).0.kind, leaf_kind_lem l))
  step_group d (group g c xs) q s h k n9 =
      whether (is_text g c) (λ y. absurd (n9 (text_parts w d p e g c xs y s).0.kind))
      (λ y.
      let r = group_parts w d p e g c xs y s in
      let b = r.second in
      let n = r.after.number in
      let z : p + 1 + rows c ≡ p + 1 + b_at w p = omega arith in
      let a : Stands w d (p + 1) (p + 1 + b_at w p) c = rw z at r.inside in
      let t : Stands w (d + length (data_words c)) (p + 1 + b_at w p) e xs = rw z at r.after in
      let i = stands_is w d (p + 1) (p + 1 + b_at w p) c a in
      record {
        kind = g;
        plain = ap (is_text g) i ∙ y;
        row = r.kind ∙ ap (row_kind g) (sym i);
        within = omega arith;
        inside = run_of w d (p + 1) (p + 1 + b_at w p) c a;
        next = run_of w _ (p + 1 + b_at w p) e xs t;
        is = q ∙ ap₂ (group g) (sym i) (sym (stands_is w _ (p + 1 + b_at w p) e xs t));
      })

  step_text : (d : ℕ) (xs : Items) → items_at w p e ≡ xs → Stands w d p e xs → p < e → kind_at w p ≡ 9 → TextStep w p e
  unfolding rows
  step_text d end q s h k = absurd (omega (arith, s.number))
  step_text d (leaf l xs) q s h k = absurd (omega (arith, (leaf_parts w d p e l xs s).0.kind, leaf_kind_lem l))
  step_text d (group g c xs) q s h k =
      whether (is_text g c)
      (λ y.
      let r = text_parts w d p e g c xs y s in
      let i = text_is w d p c r.0 in
      record {
        here = record { before = d; row = subst (λ (x : Items). TextRow w d p x) (sym i) r.0 };
        next = run_of w _ (p + 1) e xs r.1;
        is = q ∙ ap (λ z. group z c xs) (text_kind g c y).0 ∙ ap₂ (group struc) (sym i) (sym (stands_is w _ (p + 1) e xs r.1));
      })
      (λ y. absurd (other_kind g c y (sym (group_row w d p e g c xs s).0 ∙ k)))

  pub leaf_step : Run w p e → p < e → kind_at w p < 7 → LeafStep w p e
  leaf_step r h k = step_leaf r.before (items_at w p e) refl r.stands h k

  pub group_step : Run w p e → p < e → 7 ≤ kind_at w p → (kind_at w p ≡ 9 → ⊥) → GroupStep w p e
  group_step r h k n9 = step_group r.before (items_at w p e) refl r.stands h k n9

  pub text_step : Run w p e → p < e → kind_at w p ≡ 9 → TextStep w p e
  text_step r h k = step_text r.before (items_at w p e) refl r.stands h k

  pub run_end : Run w p e → e ≤ p → items_at w p e ≡ end
  run_end r h = go (items_at w p e) r.stands
    where
      go : (xs : Items) → Stands w r.before p e xs → xs ≡ end
      go end s = refl
      go (leaf l xs) s = absurd (unfold rows in omega (arith, s.number))
      go (group g c xs) s = absurd (unfold rows in omega (arith, s.number))

-- ---- how deep they are
pub string_flat : (c : Items) → is_string c ≡ true → depth c ≡ 0
unfolding depth
string_flat = by_chars (λ c. depth c ≡ 0) refl (λ l xs k e. e)

module _ (w : List ℕ) (p e : ℕ) where
  pub leaf_depth : LeafStep w p e → depth (items_at w p e) ≡ depth (items_at w (p + 1) e)
  unfolding depth
  leaf_depth s = ap depth s.is

  pub text_depth : TextStep w p e → depth (items_at w p e) ≡ max 1 (depth (items_at w (p + 1) e))
  unfolding depth
  text_depth s = ap depth s.is ∙ ap (λ k. max (suc k) (depth (items_at w (p + 1) e))) (string_flat (text_at w p) s.here.row.chars)

  pub group_depth : GroupStep w p e → depth (items_at w p e) ≡ max (suc (depth (items_at w (p + 1) (p + 1 + b_at w p)))) (depth (items_at w (p + 1 + b_at w p) e))
  unfolding depth
  group_depth s = ap depth s.is
