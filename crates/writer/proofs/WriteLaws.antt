-- The normal form of a run, item by item, as it is written over the front of a list. Assumes nothing.
use mathlib.Core.Path.{◌≡◌, refl, sym, ◌∙◌, ap}
use mathlib.Core.List.{List, ◌∷◌, ◌++◌}
use mathlib.Core.Bool.{false}
use Prim.Native.Nat.{ℕ, suc, ◌+◌, ◌-◌, ◌<◌, ◌≤◌}
use native.Mathlib.Omega.{arith}
use lib.ListN.{length, take, drop, length-append}
use Rattle.format.specs.Choice.{pick, if_eq}
use Rattle.format.specs.Items.{Group, struc, edt, Items, is_string}
use Rattle.format.specs.Tables.{rows, is_text, container_kind, row_kind}
use Rattle.format.specs.Normal.{normal_size, with_size, normal_leaf, group_byte, normal, depth}
use Rattle.format.specs.Answers.{over}
use Rattle.format.proofs.Choices.{pick_yes, split}
use Rattle.format.proofs.Digits.{width_mono}
use Rattle.format.proofs.ItemLaws.{rows_least, rows_none}
use Rattle.table.specs.Rows.{kind_at, b_at, items_at, Run, leaf_at, text_at}
use Rattle.writer.specs.Measures.{RunWritable, head_byte}
use Rattle.table.proofs.RunLaws.{LeafStep, GroupStep, TextStep, leaf_step, group_step, text_step, run_end, leaf_depth, text_depth, group_depth}
use Rattle.format.specs.Lent.{over_at}
use Rattle.format.proofs.Over.{at_none, at_next, back_length, lent}
use Rattle.format.proofs.Sizes.{size_small, size_large}

head_is : (g : Group) (c : Items) → is_text g c ≡ false → group_byte g c ≡ head_byte (row_kind g c)
unfolding group_byte head_byte row_kind container_kind is_text is_string if_eq pick
head_is struc c t = rw t refl
head_is edt c t = refl

-- what the item of a row adds to a normal form: a leaf, a group that is no string, and a string
pub leaf_normal : (w : List ℕ) (p e : ℕ) → LeafStep w p e → normal (items_at w p e) ≡ normal_leaf (leaf_at w p) ++ normal (items_at w (p + 1) e)
unfolding normal
leaf_normal w p e s = ap normal s.is

group_normal : (w : List ℕ) (p e : ℕ) → GroupStep w p e →
    normal (items_at w p e) ≡ (head_byte (kind_at w p) ∷ with_size (normal (items_at w (p + 1) (p + 1 + b_at w p)))) ++ normal (items_at w (p + 1 + b_at w p) e)
unfolding normal
group_normal w p e s =
    let c = items_at w (p + 1) (p + 1 + b_at w p) in
    ap normal s.is ∙ ap (λ z. z ∷ (with_size (normal c) ++ normal (items_at w (p + 1 + b_at w p) e))) (head_is s.kind c s.plain ∙ ap head_byte (sym s.row))

text_normal : (w : List ℕ) (p e : ℕ) → TextStep w p e → normal (items_at w p e) ≡ (0xc5 ∷ with_size (normal (text_at w p))) ++ normal (items_at w (p + 1) e)
unfolding normal group_byte
text_normal w p e s = ap normal s.is ∙ ap (λ z. z ∷ (with_size (normal (text_at w p)) ++ normal (items_at w (p + 1) e))) (pick_yes (is_string (text_at w p)) 0xc5 0xc2 s.here.row.chars)

-- ---- how few bytes a size can take
sizes_grow : (a b : ℕ) → 0 < a → a ≤ b → length (normal_size a) ≤ length (normal_size b)
sizes_grow a b p h =
    split b 129 (λ l. omega (arith, size_small a (λ z. omega arith) (omega arith), size_small b (λ z. omega arith) (omega arith)))
    (λ g. split a 129 (λ l. omega (arith, size_small a (λ z. omega arith) (omega arith), size_large b (omega arith)))
    (λ k. omega (arith, size_large a (omega arith), size_large b (omega arith), width_mono a b h)))

-- so a run's size takes at least as many bytes as that of its number of rows
pub least_size : (w : List ℕ) (p e : ℕ) → Run w p e → length (normal_size (e - p)) ≤ length (normal_size (length (normal (items_at w p e))))
least_size w p e r =
    let xs = items_at w p e in
    let n : e - p ≡ rows xs = omega (arith, r.stands.number) in
    rw n
    (split 0 (rows xs) (λ h. sizes_grow (rows xs) (length (normal xs)) h (rows_least xs))
    (λ z.
    let a : rows xs ≡ 0 = omega arith in
    let b : length (normal xs) ≡ rows xs = rows_none xs a ∙ sym a in
    omega (arith, ap (λ k. length (normal_size k)) b)))

-- ---- writing a run
-- a run's items up to p are written, in n bytes
pub record Going (w : List ℕ) (from to d : ℕ) (old out : List ℕ) (p n : ℕ) : Type 0 where
  pub within : p ≤ to
  pub run : Run w p to
  pub shallow : depth (items_at w p to) ≤ d
  pub same : length out ≡ length old
  pub number : n + length (normal (items_at w p to)) ≡ length (normal (items_at w from to))
  pub room : length (normal (items_at w from to)) ≤ length old
  pub left : over (normal (items_at w from to)) old ≡ over_at n (normal (items_at w p to)) out

pub going_starts : (w : List ℕ) (from to d : ℕ) (old : List ℕ) → RunWritable w from to d (length old) → Going w from to d old old from 0
going_starts w from to d old f =
    let n = f.run.stands.number in
    record { within = omega arith; run = f.run; shallow = f.shallow; same = refl; number = omega arith; room = f.room; left = unfold over_at in refl }

pub going_ends : (w : List ℕ) (from to d : ℕ) (old out : List ℕ) (p n : ℕ) → Going w from to d old out p n → to ≤ p →
    (n ≡ length (normal (items_at w from to))) × (out ≡ over (normal (items_at w from to)) old)
unfolding normal
going_ends w from to d old out p n s h =
    let e = run_end w p to s.run h in
    (sym (sym s.number ∙ ap (λ xs. n + length (normal xs)) e ∙ omega arith), sym (s.left ∙ ap (λ xs. over_at n (normal xs) out) e ∙ at_none n out))

-- the next item by its row, and room for it behind n bytes
pub record LeafTurn (w : List ℕ) (p to n : ℕ) (out : List ℕ) : Type 0 where
  pub step : LeafStep w p to
  pub room : n + length (normal_leaf (leaf_at w p)) ≤ length out

pub record TextTurn (w : List ℕ) (p to n : ℕ) (out : List ℕ) : Type 0 where
  pub step : TextStep w p to
  pub room : n + (1 + length (with_size (normal (text_at w p)))) ≤ length out

pub record GroupTurn (w : List ℕ) (p to d n : ℕ) (out : List ℕ) : Type 0 where
  pub step : GroupStep w p to
  pub room : n + (1 + length (with_size (normal (items_at w (p + 1) (p + 1 + b_at w p))))) ≤ length out
  pub deep : suc (depth (items_at w (p + 1) (p + 1 + b_at w p))) ≤ d
  pub rest : depth (items_at w (p + 1 + b_at w p) to) ≤ d

-- one item on, whose bytes are l, to the row q
module _ {w : List ℕ} {from to d : ℕ} {old out : List ℕ} {p n : ℕ} (s : Going w from to d old out p n) where
  -- there is room for it
  going_room : (l : List ℕ) (q : ℕ) → normal (items_at w p to) ≡ l ++ normal (items_at w q to) → n + length l ≤ length out
  going_room l q e =
      let r = s.room in
      let m = s.number in
      let z = s.same in
      omega (arith, ap length e, length-append l (normal (items_at w q to)))

  pub leaf_turn : p < to → kind_at w p < 7 → LeafTurn w p to n out
  leaf_turn h k = let t = leaf_step w p to s.run h k in record { step = t; room = going_room (normal_leaf (leaf_at w p)) (p + 1) (leaf_normal w p to t) }

  pub group_turn : p < to → 7 ≤ kind_at w p → (kind_at w p ≡ 9 → ⊥) → GroupTurn w p to d n out
  group_turn h k n9 =
      let t = group_step w p to s.run h k n9 in
      let g = s.shallow in
      let a = group_depth w p to t in
      let r = going_room (head_byte (kind_at w p) ∷ with_size (normal (items_at w (p + 1) (p + 1 + b_at w p)))) (p + 1 + b_at w p) (group_normal w p to t) in
      record { step = t; room = omega arith; deep = omega arith; rest = omega arith }

  pub text_turn : p < to → kind_at w p ≡ 9 → TextTurn w p to n out
  text_turn h k =
      let t = text_step w p to s.run h k in
      let r = going_room (0xc5 ∷ with_size (normal (text_at w p))) (p + 1) (text_normal w p to t) in
      record { step = t; room = omega arith }

  pub going_on : (l after : List ℕ) (q b : ℕ) → normal (items_at w p to) ≡ l ++ normal (items_at w q to) → q ≤ to → Run w q to → depth (items_at w q to) ≤ d →
      length after ≡ length out → after ≡ over_at n l out → b ≡ length l → Going w from to d old after q (n + b)
  going_on l after q b e h r g k a bl =
      let m : List ℕ = normal (items_at w q to) in
      let c = s.number in
      record {
        within = h;
        run = r;
        shallow = g;
        same = k ∙ s.same;
        number = omega (arith, ap length e, length-append l m);
        room = s.room;
        left = s.left ∙ ap (λ z. over_at n z out) e ∙ sym (at_next n l m out after (n + b) (omega (arith, going_room l q e)) a (ap (λ k. n + k) bl));
      }

  -- the item comes back in the part that was lent for it
  pub going_leaf : LeafTurn w p to n out → p < to → (b : ℕ) (ys : List ℕ) → b ≡ length (normal_leaf (leaf_at w p)) → length ys ≡ length (take (length out - n) (drop n out)) →
      ys ≡ over (normal_leaf (leaf_at w p)) (take (length out - n) (drop n out)) → Going w from to d old (take n out ++ (ys ++ drop (length out - n) (drop n out))) (p + 1) (n + b)
  going_leaf r h b ys e k y =
      let t = r.step in
      let g = s.shallow in
      let a = leaf_depth w p to t in
      let m = r.room in
      going_on (normal_leaf (leaf_at w p)) _ (p + 1) b (leaf_normal w p to t) (omega arith) t.next (omega arith) (back_length n out ys (omega arith) k) (lent n (normal_leaf (leaf_at w p)) out ys y) e

  pub going_group : GroupTurn w p to d n out → (b : ℕ) (ys : List ℕ) → b ≡ 1 + length (with_size (normal (items_at w (p + 1) (p + 1 + b_at w p)))) →
      length ys ≡ length (take (length out - n) (drop n out)) →
      ys ≡ over (head_byte (kind_at w p) ∷ with_size (normal (items_at w (p + 1) (p + 1 + b_at w p)))) (take (length out - n) (drop n out)) →
      Going w from to d old (take n out ++ (ys ++ drop (length out - n) (drop n out))) (p + 1 + b_at w p) (n + b)
  going_group r b ys e k y =
      let t = r.step in
      let m = head_byte (kind_at w p) ∷ with_size (normal (items_at w (p + 1) (p + 1 + b_at w p))) in
      let q = r.room in
      going_on m _ (p + 1 + b_at w p) b (group_normal w p to t) t.within t.next r.rest (back_length n out ys (omega arith) k) (lent n m out ys y) (e ∙ omega arith)

  pub going_text : TextTurn w p to n out → p < to → (b : ℕ) (ys : List ℕ) → b ≡ 1 + length (with_size (normal (text_at w p))) → length ys ≡ length (take (length out - n) (drop n out)) →
      ys ≡ over (0xc5 ∷ with_size (normal (text_at w p))) (take (length out - n) (drop n out)) → Going w from to d old (take n out ++ (ys ++ drop (length out - n) (drop n out))) (p + 1) (n + b)
  going_text r h b ys e k y =
      let t = r.step in
      let m : List ℕ = 0xc5 ∷ with_size (normal (text_at w p)) in
      let g = s.shallow in
      let a = text_depth w p to t in
      let q = r.room in
      going_on m _ (p + 1) b (text_normal w p to t) (omega arith) t.next (omega arith) (back_length n out ys (omega arith) k) (lent n m out ys y) (e ∙ omega arith)
