-- The first item of a run of rows, and the others: where each stands, and the row behind the first. Assumes nothing.
use mathlib.Core.Path.{◌≡◌, sym, ap, ◌∙◌, subst}
use mathlib.Core.Bool.{false}
use mathlib.Core.List.{List}
use Prim.Native.Nat.{ℕ, ◌+◌}
use native.Mathlib.Omega.{arith}
use Rattle.format.specs.Items.{Group, Items, end, group}
use Rattle.format.specs.Tables.{rows, is_text}
use Rattle.format.proofs.Choices.{whether}
use Rattle.format.proofs.TableLaws.{leaf_kind_lem, text_kind, other_kind}
use Rattle.table.specs.Rows.{kind_at, Stands, single, next_row}
use Rattle.table.proofs.Standing as Standing
use Rattle.table.proofs.Standing.{group_kind_lem, leaf_parts, GroupParts, group_parts, text_parts, join_leaf, join_group, join_text, none_stands}
use Rattle.table.proofs.RowLaws.{single_leaf, single_text, single_not, next_one, next_more}
use Rattle.compare.proofs.Pairs as P
use Rattle.compare.proofs.Pairs.{Item, holder, cons, alone, plain_rows_lem}

stands_none : (w : List ℕ) (d p e : ℕ) (xs : Items) → Stands w d p e xs → Stands w d p p end
stands_none w d p e xs s =
    let n = s.number in
    let h = s.within in
    let f = s.few in
    let l = s.little in
    let o = s.stored in
    none_stands w d p (omega arith) (omega arith) (omega arith) (omega arith)

-- the first stands in the rows up to m, and the others behind it
pub record Parts (w : List ℕ) (d p e : ℕ) (x : Item) (xs : Items) : Type 0 where
  pub m : ℕ
  pub next : ℕ
  pub first : Stands w d p m (alone x)
  pub rest : Stands w next m e xs

pub parts : (w : List ℕ) (d p e : ℕ) (x : Item) (xs : Items) → Stands w d p e (cons x xs) → Parts w d p e x xs
parts w d p e (P.single l) xs s =
    let t = leaf_parts w d p e l xs s in
    record { m = p + 1; next = _; first = join_leaf w d p (p + 1) l end t.0 (stands_none w _ (p + 1) e xs t.1); rest = t.1 }
parts w d p e (holder g c) xs s =
    whether (is_text g c)
    (λ y.
    let t = text_parts w d p e g c xs y s in
    let u = join_text w d p (p + 1) c end t.0 (stands_none w _ (p + 1) e xs t.1) in
    record { m = p + 1; next = _; first = subst (λ (z : Group). Stands w d p (p + 1) (group z c end)) (sym (text_kind g c y).0) u; rest = t.1 })
    (λ y.
    let t = group_parts w d p e g c xs y s in
    let u : GroupParts w d p (p + 1 + rows c) g c end = record {
      plain = y;
      kind = t.kind;
      first = t.first;
      second = t.second;
      good = t.good;
      inside = t.inside;
      after = stands_none w _ (p + 1 + rows c) e xs t.after;
    } in
    record { m = p + 1 + rows c; next = _; first = join_group w d p (p + 1 + rows c) g c end u; rest = t.after })

-- the others, from the row behind the first item on
pub record After (w : List ℕ) (p m : ℕ) (xs : Items) : Type 0 where
  pub before : ℕ
  pub stands : Stands w before p m xs

pub behind_item : (w : List ℕ) (d p m : ℕ) (x : Item) (xs : Items) → Stands w d p m (cons x xs) → After w (p + rows (alone x)) m xs
behind_item w d p m x xs s = let t = parts w d p m x xs s in record { before = t.next; stands = rw (← t.first.number) at t.rest }

-- that row, as the code finds it
pub next_item : (w : List ℕ) (d p m : ℕ) (x : Item) (xs : Items) → Stands w d p m (cons x xs) → next_row w p ≡ p + rows (alone x)
unfolding rows
next_item w d p m (P.single l) xs s = next_one w p (single_leaf (kind_at w p) (omega (arith, (leaf_parts w d p m l xs s).0.kind, leaf_kind_lem l)))
next_item w d p m (holder g c) xs s =
    whether (is_text g c)
    (λ i. next_one w p (single_text (kind_at w p) (text_parts w d p m g c xs i s).0.kind) ∙ ap (λ z. p + z) (sym (Standing.text_rows g c end i)))
    (λ i.
    let r = group_parts w d p m g c xs i s in
    let k : single (kind_at w p) ≡ false = single_not (kind_at w p) (omega (arith, r.kind, group_kind_lem g c)) (λ z. other_kind g c i (sym r.kind ∙ z)) in
    next_more w p k ∙ ap (λ z. p + 1 + z) r.second ∙ omega (arith, plain_rows_lem g c i))
