-- The lines of a run of rows, one item on. Assumes nothing.
use mathlib.Core.Path.{◌≡◌, refl, sym, ap, subst, ◌∙◌}
use mathlib.Core.List.{List, [], ◌++◌, append_assoc}
use Prim.Native.Nat.{ℕ, suc, ◌+◌, ◌-◌, ◌≤◌, ◌<◌}
use native.Mathlib.Numerals.{add-one}
use native.Mathlib.Omega.{arith}
use Rattle.format.specs.Items.{Items, struc}
use Rattle.format.specs.Tables.{count, is_text, codes, claimed}
use Rattle.format.specs.Normal.{depth}
use Rattle.format.proofs.Choices.{pick_yes, pick_no, split, split_eq}
use Rattle.table.specs.Rows.{kind_at, a_at, b_at, Stands, items_at, Run, Room, next_row, leaf_at, text_at}
use Rattle.table.proofs.Standing.{text_struc, group_parts}
use Rattle.table.proofs.RunLaws.{LeafStep, GroupStep, TextStep, leaf_step, group_step, text_step, run_end, leaf_depth, text_depth, group_depth}
use Rattle.table.proofs.RowLaws.{single_leaf, single_text, single_not, next_one, next_more}
use Rattle.listing.specs.Lines.{group_columns, text_columns, line, lines}
use Rattle.listing.specs.RowTexts.{row_text, RowInOrder}
use Rattle.listing.proofs.RowLines.{known_leaf, known_group, leaf_line, group_line, text_line}

-- a run's first item, and those from the row n behind it on
pub record ItemStep (w : List ℕ) (p e n d : ℕ) : Type 0 where
  pub here : RowInOrder w p
  pub start : p < n
  pub within : n ≤ e
  pub inside : p + 1 < n → Run w (p + 1) n × (suc (depth (items_at w (p + 1) n)) ≤ depth (items_at w p e))
  pub next : Run w n e
  pub shallow : depth (items_at w n e) ≤ depth (items_at w p e)
  pub is : lines d (items_at w p e) ≡ row_text d w p ++ (lines (d + 1) (items_at w (p + 1) n) ++ lines d (items_at w n e))

-- the code finds that row
pub room_behind : {w : List ℕ} {p e n d : ℕ} → ItemStep w p e n d → Room w (p + 1) n
room_behind s =
    let i = s.next.stands.within in
    let f = s.next.stands.few in
    let t = s.start in
    let l = s.within in
    record { start = omega arith; within = omega arith; few = omega arith }

none_lines : (w : List ℕ) (d q : ℕ) → lines d (items_at w q q) ≡ []
unfolding lines items_at claimed
none_lines w d q = let z : q - q ≡ 0 = omega arith in rw z refl

-- an item that has no rows beneath it
pub lines_alone : {w : List ℕ} {p e n d : ℕ} → ItemStep w p e n d → n ≤ p + 1 → lines d (items_at w p e) ≡ row_text d w p ++ lines d (items_at w n e)
lines_alone {w} {p} {e} {n} {d} s h =
    let t = s.start in
    let z : n ≡ p + 1 = omega arith in
    s.is ∙ ap (λ x. row_text d w p ++ (x ++ lines d (items_at w n e))) (ap (λ m. lines (d + 1) (items_at w (p + 1) m)) z ∙ none_lines w (d + 1) (p + 1))

module _ (w : List ℕ) (p e : ℕ) where
  row_at : Run w p e → p < e → RowInOrder w p
  row_at r h =
      let i = r.stands.within in
      let P : ℕ → Type 0 = λ k. (0 < k) × (k ≤ 9) in
      record {
        within = omega arith;
        known =
            split (kind_at w p) 7
            (λ k. subst P (sym (leaf_step w p e r h k).here.row.kind) (known_leaf (leaf_at w p)))
            (λ k. split_eq (kind_at w p) 9
            (λ n. (omega arith, omega arith))
            (λ n. let g = group_step w p e r h k n in (omega arith, omega (arith, g.row, known_group g.kind (items_at w (p + 1) (p + 1 + b_at w p))))));
        leaf = λ k. (leaf_step w p e r h k).here;
        text = λ k. (text_step w p e r h k).here;
      }

  group_count : (r : Run w p e) (s : GroupStep w p e) → a_at w p ≡ count (items_at w (p + 1) (p + 1 + b_at w p))
  group_count r s = (group_parts w r.before p e s.kind _ _ s.plain (subst (λ (xs : Items). Stands w r.before p e xs) s.is r.stands)).first

  leaf_lines : (d : ℕ) (s : LeafStep w p e) → lines d (items_at w p e) ≡ row_text d w p ++ lines d (items_at w (p + 1) e)
  unfolding lines
  leaf_lines d s = ap (lines d) s.is ∙ ap (λ z. z ++ lines d (items_at w (p + 1) e)) (sym (leaf_line w p d s.here))

  group_lines : (d : ℕ) (r : Run w p e) (s : GroupStep w p e) →
      lines d (items_at w p e) ≡ row_text d w p ++ (lines (d + 1) (items_at w (p + 1) (p + 1 + b_at w p)) ++ lines d (items_at w (p + 1 + b_at w p) e))
  unfolding lines
  group_lines d r s =
      let c = items_at w (p + 1) (p + 1 + b_at w p) in
      let xs = items_at w (p + 1 + b_at w p) e in
      let l = line d (group_columns s.kind (count c)) in
      rw (add-one d) (ap (lines d) s.is ∙ ap (λ z. z ++ lines d xs) (pick_no (is_text s.kind c) (line d (text_columns (codes c))) (l ++ lines (suc d) c) s.plain)
      ∙ append_assoc l (lines (suc d) c) (lines d xs)
      ∙ ap (λ z. z ++ (lines (suc d) c ++ lines d xs)) (sym (group_line w p d s.kind c (count c) s.plain s.row (group_count r s))))

  text_lines : (d : ℕ) → kind_at w p ≡ 9 → (s : TextStep w p e) → lines d (items_at w p e) ≡ row_text d w p ++ lines d (items_at w (p + 1) e)
  unfolding lines
  text_lines d k s =
      let c = text_at w p in
      let l = line d (text_columns (codes c)) in
      ap (lines d) s.is ∙ ap (λ z. z ++ lines d (items_at w (p + 1) e)) (pick_yes (is_text struc c) l (line d (group_columns struc (count c)) ++ lines (suc d) c)
      (text_struc c s.here.row.chars) ∙ sym (text_line w p d k))

  one_row : (d : ℕ) → Run w p e → p < e → next_row w p ≡ p + 1 → Run w (p + 1) e → depth (items_at w (p + 1) e) ≤ depth (items_at w p e)
      → lines d (items_at w p e) ≡ row_text d w p ++ lines d (items_at w (p + 1) e) → ItemStep w p e (next_row w p) d
  one_row d r h n x y l =
      rw n (record {
        here = row_at r h;
        start = omega arith;
        within = omega arith;
        inside = λ i. absurd (omega arith);
        next = x;
        shallow = y;
        is = rw (none_lines w (d + 1) (p + 1)) l;
      })

  pub item_step : (d : ℕ) → Run w p e → p < e → ItemStep w p e (next_row w p) d
  item_step d r h =
      split (kind_at w p) 7
      (λ k.
      let s = leaf_step w p e r h k in
      one_row d r h (next_one w p (single_leaf (kind_at w p) k)) s.next (omega (arith, leaf_depth w p e s)) (leaf_lines d s))
      (λ k. split_eq (kind_at w p) 9
      (λ n.
      let s = text_step w p e r h n in
      one_row d r h (next_one w p (single_text (kind_at w p) n)) s.next (omega (arith, text_depth w p e s)) (text_lines d n s))
      (λ n.
      let s = group_step w p e r h k n in
      rw (next_more w p (single_not (kind_at w p) k n)) (record {
        here = row_at r h;
        start = omega arith;
        within = s.within;
        inside = λ i. (s.inside, omega (arith, group_depth w p e s));
        next = s.next;
        shallow = omega (arith, group_depth w p e s);
        is = group_lines d r s;
      })))

  pub no_lines : (d : ℕ) → Run w p e → e ≤ p → lines d (items_at w p e) ≡ []
  unfolding lines
  no_lines d r h = ap (lines d) (run_end w p e r h)
