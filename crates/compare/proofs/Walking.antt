-- Two tables walked side by side, one pair of rows on: into two containers, past two items that are the same, or past a difference.
-- Assumes nothing.
use mathlib.Core.Path.{◌≡◌, refl, sym, ap, ap₂, ◌∙◌, subst}
use mathlib.Core.Logic.{◌≢◌, ◌⊎◌, inl, inr, ⊎_elim}
use Prim.Native.Nat.{ℕ, ◌+◌, ◌*◌, ◌/◌, ◌≤◌, ◌<◌}
use native.Mathlib.Omega.{arith}
use mathlib.Core.Bool.{true, false}
use mathlib.Core.List.{List, [], ◌∷◌, ◌++◌}
use lib.ListN.{length}
use Rattle.format.specs.Bits.{spread, words_for}
use Rattle.format.specs.Items.{bits, Group, Items, end, leaf, group, join}
use Rattle.format.specs.Tables.{count, rows, is_text, in_words, leaf_words, codes, row_kind, container_kind}
use Rattle.format.proofs.Choices.{pick_yes, pick_no, whether, clash}
use Rattle.format.proofs.SameLaws.{if_same_yes, if_same_no}
use Rattle.format.proofs.Counts.{count_join}
use Rattle.format.proofs.TableLaws.{leaf_kind_lem, text_kind, other_kind}
use Rattle.table.specs.Rows.{kind_at, a_at, rows_of, Stands, LeafRow, next_row}
use Rattle.table.proofs.Standing as Standing
use Rattle.table.proofs.Standing.{group_kind_lem, leaf_parts, group_parts, text_parts}
use Rattle.table.proofs.KindLaws.{group_row}
use Rattle.table.proofs.CodeLaws.{text_words_lem}
use Rattle.compare.specs.Differences.{Difference, difference, gone_into, unequal, differences}
use Rattle.compare.specs.Places.{entered}
use Rattle.compare.specs.Walks.{rows_alike, DataIn, Walk, Here, InRows}
use Rattle.compare.proofs.Pairs as P
use Rattle.compare.proofs.Pairs.{Item, holder, cons, alone, inside, into, gone_into_lem, same_kind, between, pair_on, count_on}
use Rattle.compare.proofs.DifferenceLaws.{alone_same, alone_rows, into_rows, differences_join}
use Rattle.compare.proofs.ItemRows.{behind_item, next_item}
use Rattle.compare.proofs.RowPairs.{eights, kept_data, kept_few, bits_of, bits_keeps, text_keeps, alike_parts, alike_is, for_group, leaf_alike, alike_leaf, text_alike, alike_text}

-- ---- the rows are alike exactly when the items are gone into or are the same
plain_kind : (g : Group) (c : Items) → is_text g c ≡ false → row_kind g c ≡ container_kind g
unfolding row_kind
plain_kind g c t = pick_no (is_text g c) 9 (container_kind g) t

module _ (w v : List ℕ) (d e p q m n : ℕ) where
  -- two containers that are no strings
  groups_alike : (g : Group) (a b xs ys : Items) → is_text g a ≡ false → is_text g b ≡ false → count a ≡ count b
      → Stands w d p m (group g a xs) → Stands v e q n (group g b ys) → rows_alike w v p q ≡ true
  groups_alike g a b xs ys i j k s t =
      let r = group_parts w d p m g a xs i s in
      let o = group_parts v e q n g b ys j t in
      alike_is w v p q (r.kind ∙ plain_kind g a i ∙ sym (plain_kind g b j) ∙ sym o.kind) (r.first ∙ k ∙ sym o.first)
      ∙ (for_group w v p q (omega (arith, r.kind, group_kind_lem g a)) (λ z. other_kind g a i (sym r.kind ∙ z)))

  into_alike : (x y : Item) (xs ys : Items) → Stands w d p m (cons x xs) → Stands v e q n (cons y ys) → entered (alone x) (alone y) ≡ true → rows_alike w v p q ≡ true
  into_alike x y xs ys s t h =
      let i = into x y h in
      groups_alike i.kind i.c i.d xs ys i.plain i.plain_too i.number
      (subst (λ (z : Item). Stands w d p m (cons z xs)) i.left s) (subst (λ (z : Item). Stands v e q n (cons z ys)) i.right t)

  same_alike : (x : Item) (xs ys : Items) → Stands w d p m (cons x xs) → Stands v e q n (cons x ys) → rows_alike w v p q ≡ true
  same_alike (P.single l) xs ys s t = alike_leaf w v d e p q l (leaf_parts w d p m l xs s).0 (leaf_parts v e q n l ys t).0
  same_alike (holder g c) xs ys s t =
      whether (is_text g c)
      (λ i. alike_text w v d e p q c (text_parts w d p m g c xs i s).0 (text_parts v e q n g c ys i t).0)
      (λ i. groups_alike g c c xs ys i i refl s t)

  groups_are : (g h : Group) (a b xs ys : Items) → Stands w d p m (group g a xs) → Stands v e q n (group h b ys) → rows_alike w v p q ≡ true
      → (entered (group g a end) (group h b end) ≡ true) ⊎ (holder g a ≡ holder h b)
  unfolding entered
  groups_are g h a b xs ys s t r =
      let k = alike_parts w v p q r in
      let kinds : row_kind g a ≡ row_kind h b = sym (group_row w d p m g a xs s).0 ∙ k.0 ∙ (group_row v e q n h b ys t).0 in
      whether (is_text g a)
      (λ i. whether (is_text h b)
      (λ j. inr (ap₂ holder ((text_kind g a i).0 ∙ sym (text_kind h b j).0) (text_alike w v d e p q a b (text_parts w d p m g a xs i s).0 (text_parts v e q n h b ys j t).0 r)))
      (λ j. absurd (other_kind h b j (sym kinds ∙ (text_kind g a i).2))))
      (λ i. whether (is_text h b) (λ j. absurd (other_kind g a i (kinds ∙ (text_kind h b j).2)))
      (λ j.
      let z : g ≡ h = same_kind g h (sym (plain_kind g a i) ∙ kinds ∙ plain_kind h b j) in
      let c : count a ≡ count b = sym (group_parts w d p m g a xs i s).first ∙ k.1 ∙ (group_parts v e q n h b ys j t).first in
      inl (ap (λ o. gone_into o a h b) z ∙ gone_into_lem h a b (subst (λ (o : Group). is_text o a ≡ false) z i) j c)))

  alike_items : (x y : Item) (xs ys : Items) → Stands w d p m (cons x xs) → Stands v e q n (cons y ys) → rows_alike w v p q ≡ true
      → (entered (alone x) (alone y) ≡ true) ⊎ (x ≡ y)
  alike_items (P.single l) (P.single o) xs ys s t r = inr (ap P.single (leaf_alike w v d e p q l o (leaf_parts w d p m l xs s).0 (leaf_parts v e q n o ys t).0 r))
  alike_items (P.single l) (holder h b) xs ys s t r =
      absurd (omega (arith, (alike_parts w v p q r).0, (leaf_parts w d p m l xs s).0.kind, leaf_kind_lem l, (group_row v e q n h b ys t).0, group_kind_lem h b))
  alike_items (holder g a) (P.single o) xs ys s t r =
      absurd (omega (arith, (alike_parts w v p q r).0, (leaf_parts v e q n o ys t).0.kind, leaf_kind_lem o, (group_row w d p m g a xs s).0, group_kind_lem g a))
  alike_items (holder g a) (holder h b) xs ys s t r = groups_are g h a b xs ys s t r

-- ---- what stands inside an item
-- the elements of a container and what stands behind it
into_stands : (w : List ℕ) (d p m : ℕ) (g : Group) (c xs : Items) → is_text g c ≡ false → Stands w d p m (group g c xs) → Stands w d (p + 1) m (join c xs)
into_stands w d p m g c xs i s =
    let r = group_parts w d p m g c xs i s in
    Standing.join_runs w d (p + 1) m (p + 1 + rows c) c xs r.inside r.after

-- ---- one pair on
differences_into : (p q : ℕ) (x y : Item) (xs ys : Items) → entered (alone x) (alone y) ≡ true
    → differences p q (cons x xs) (cons y ys) ≡ differences (p + 1) (q + 1) (join (inside x) xs) (join (inside y) ys)
unfolding between
differences_into p q x y xs ys h =
    let i = into x y h in
    let r = into_rows x y i in
    let a : p + rows (alone x) ≡ p + 1 + rows (inside x) = omega (arith, r.0) in
    let b : q + rows (alone y) ≡ q + 1 + rows (inside y) = omega (arith, r.1) in
    let n : count (inside x) ≡ count (inside y) = ap (λ z. count (inside z)) i.left ∙ i.number ∙ sym (ap (λ z. count (inside z)) i.right) in
    pair_on p q x y xs ys ∙ ap₂ (λ l m. l ++ m) (pick_yes (entered (alone x) (alone y)) _ _ h) (ap₂ (λ k l. differences k l xs ys) a b)
    ∙ sym (differences_join (p + 1) (q + 1) (inside x) (inside y) n xs ys)

differences_past : (p q : ℕ) (x y : Item) (xs ys : Items) → entered (alone x) (alone y) ≡ false → x ≢ y
    → differences p q (cons x xs) (cons y ys) ≡ difference p q ∷ differences (p + rows (alone x)) (q + rows (alone y)) xs ys
unfolding between unequal
differences_past p q x y xs ys h n =
    pair_on p q x y xs ys
    ∙ ap (λ l. l ++ differences (p + rows (alone x)) (q + rows (alone y)) xs ys)
    (pick_no (entered (alone x) (alone y)) _ _ h ∙ if_same_no (alone x) (alone y) [] (difference p q ∷ []) (λ e. n (alone_same x y e)))

differences_same : (p q : ℕ) (x : Item) (xs ys : Items) → entered (alone x) (alone x) ≡ false
    → differences p q (cons x xs) (cons x ys) ≡ differences (p + rows (alone x)) (q + rows (alone x)) xs ys
unfolding between unequal
differences_same p q x xs ys h =
    pair_on p q x x xs ys
    ∙ ap (λ l. l ++ differences (p + rows (alone x)) (q + rows (alone x)) xs ys)
    (pick_no (entered (alone x) (alone x)) _ _ h ∙ if_same_yes (alone x) (alone x) [] (difference p q ∷ []) refl)

-- an item that is not gone into with itself has one row
shut_rows : (x : Item) → entered (alone x) (alone x) ≡ false → rows (alone x) ≡ 1
unfolding rows entered
shut_rows (P.single l) h = refl
shut_rows (holder g c) h = whether (is_text g c) (λ i. Standing.text_rows g c end i) (λ i. clash _ (gone_into_lem g c c i i refl) h)

-- ---- the walk
-- the pair of items at the rows p and q, and what stands behind them
record Meeting (w v : List ℕ) (p q : ℕ) (rest : List Difference) : Type 0 where
  d : ℕ
  e : ℕ
  x : Item
  y : Item
  xs : Items
  ys : Items
  left : Stands w d p (rows_of w) (cons x xs)
  right : Stands v e q (rows_of v) (cons y ys)
  number : count xs ≡ count ys
  told : rest ≡ differences p q (cons x xs) (cons y ys)

-- a list that is not empty begins with an item
begins : (xs : Items) → 0 < count xs → (x : Item) × ((ys : Items) × (xs ≡ cons x ys))
unfolding count
begins end h = absurd (omega arith)
begins (leaf l xs) h = (P.single l, (xs, refl))
begins (group g c xs) h = (holder g c, (xs, refl))

some_rows : (xs : Items) → 0 < rows xs → 0 < count xs
unfolding rows count
some_rows end h = h
some_rows (leaf l xs) h = omega arith
some_rows (group g c xs) h = omega arith

meeting : (w v : List ℕ) (p q : ℕ) (rest : List Difference) → Walk w v p q rest → p < rows_of w → Meeting w v p q rest
meeting w v p q rest k h =
    let n = some_rows k.xs (omega (arith, k.left.number)) in
    let a = begins k.xs n in
    let b = begins k.ys (omega (arith, k.number)) in
    record {
      d = k.d;
      e = k.e;
      x = a.0;
      y = b.0;
      xs = a.1.0;
      ys = b.1.0;
      left = subst (Stands w k.d p (rows_of w)) a.1.1 k.left;
      right = subst (Stands v k.e q (rows_of v)) b.1.1 k.right;
      number = omega (arith, k.number, ap count a.1.1, ap count b.1.1, count_on a.0 a.1.0, count_on b.0 b.1.0);
      told = k.told ∙ ap₂ (differences p q) a.1.1 b.1.1;
    }

-- past two items
behind_pair : (w v : List ℕ) (d e p q : ℕ) (x y : Item) (xs ys : Items) → Stands w d p (rows_of w) (cons x xs) → Stands v e q (rows_of v) (cons y ys) → count xs ≡ count ys
    → Walk w v (p + rows (alone x)) (q + rows (alone y)) (differences (p + rows (alone x)) (q + rows (alone y)) xs ys)
behind_pair w v d e p q x y xs ys s t n =
    let a = behind_item w d p (rows_of w) x xs s in
    let b = behind_item v e q (rows_of v) y ys t in
    record { d = a.before; e = b.before; xs = xs; ys = ys; left = a.stands; right = b.stands; number = n; told = refl }

-- two that are the same and have one row
behind_same : (w v : List ℕ) (p q : ℕ) (rest : List Difference) (m : Meeting w v p q rest) → entered (alone m.x) (alone m.y) ≡ false → m.x ≡ m.y → Walk w v (p + 1) (q + 1) rest
behind_same w v p q rest m z o =
    let z_same : entered (alone m.x) (alone m.x) ≡ false = ap (λ i. entered (alone m.x) (alone i)) o ∙ z in
    let n : rows (alone m.x) ≡ 1 = shut_rows m.x z_same in
    let r : Stands v m.e q (rows_of v) (cons m.x m.ys) = subst (λ (i : Item). Stands v m.e q (rows_of v) (cons i m.ys)) (sym o) m.right in
    let e : rest ≡ differences (p + rows (alone m.x)) (q + rows (alone m.x)) m.xs m.ys =
    m.told ∙ ap (λ i. differences p q (cons m.x m.xs) (cons i m.ys)) (sym o) ∙ differences_same p q m.x m.xs m.ys z_same in
    subst (λ i. Walk w v (p + i) (q + i) rest) n (subst (Walk w v (p + rows (alone m.x)) (q + rows (alone m.x))) (sym e)
    (behind_pair w v m.d m.e p q m.x m.x m.xs m.ys m.left r m.number))

-- into two containers
inside_pair : (w v : List ℕ) (p q : ℕ) (rest : List Difference) (m : Meeting w v p q rest) → entered (alone m.x) (alone m.y) ≡ true → Walk w v (p + 1) (q + 1) rest
inside_pair w v p q rest m z =
    let i = into m.x m.y z in
    record {
      d = m.d;
      e = m.e;
      xs = join i.c m.xs;
      ys = join i.d m.ys;
      left = into_stands w m.d p (rows_of w) i.kind i.c m.xs i.plain (subst (λ (o : Item). Stands w m.d p (rows_of w) (cons o m.xs)) i.left m.left);
      right = into_stands v m.e q (rows_of v) i.kind i.d m.ys i.plain_too (subst (λ (o : Item). Stands v m.e q (rows_of v) (cons o m.ys)) i.right m.right);
      number = omega (arith, count_join i.c m.xs, count_join i.d m.ys, i.number, m.number);
      told = m.told ∙ differences_into p q m.x m.y m.xs m.ys z
          ∙ ap₂ (λ a b. differences (p + 1) (q + 1) (join (inside a) m.xs) (join (inside b) m.ys)) i.left i.right;
    }

-- a difference is told, and the walk goes on behind both items
pub record Past (w v : List ℕ) (p q : ℕ) (rest : List Difference) : Type 0 where
  pub more : List Difference
  pub told : rest ≡ difference p q ∷ more
  pub walk : Walk w v (next_row w p) (next_row v q) more

module _ (w v : List ℕ) (p q : ℕ) (rest : List Difference) (k : Walk w v p q rest) (h : p < rows_of w) where
  pub walk_on : rows_alike w v p q ≡ true → Walk w v (p + 1) (q + 1) rest
  walk_on t =
      let m = meeting w v p q rest k h in
      whether (entered (alone m.x) (alone m.y)) (λ z. inside_pair w v p q rest m z)
      (λ z. behind_same w v p q rest m z
      (⊎_elim (λ o. clash _ o z) (λ o. o) (alike_items w v m.d m.e p q (rows_of w) (rows_of v) m.x m.y m.xs m.ys m.left m.right t)))

  pub walk_past : rows_alike w v p q ≡ false → Past w v p q rest
  walk_past t =
      let m = meeting w v p q rest k h in
      let a = next_item w m.d p (rows_of w) m.x m.xs m.left in
      let b = next_item v m.e q (rows_of v) m.y m.ys m.right in
      let z : entered (alone m.x) (alone m.y) ≡ false = whether (entered (alone m.x) (alone m.y))
      (λ o. clash _ (into_alike w v m.d m.e p q (rows_of w) (rows_of v) m.x m.y m.xs m.ys m.left m.right o) t) (λ o. o) in
      let n : m.x ≢ m.y = λ o. clash _ (same_alike w v m.d m.e p q (rows_of w) (rows_of v) m.x m.xs m.ys m.left
      (subst (λ (i : Item). Stands v m.e q (rows_of v) (cons i m.ys)) (sym o) m.right)) t in
      record {
        more = _;
        told = m.told ∙ differences_past p q m.x m.y m.xs m.ys z n;
        walk = rw (a, b) (behind_pair w v m.d m.e p q m.x m.y m.xs m.ys m.left m.right m.number);
      }

  pub in_rows : InRows w v p q
  in_rows =
      let m = meeting w v p q rest k h in
      let a = next_item w m.d p (rows_of w) m.x m.xs m.left in
      let b = next_item v m.e q (rows_of v) m.y m.ys m.right in
      let c = (behind_item w m.d p (rows_of w) m.x m.xs m.left).stands.number in
      let d = (behind_item v m.e q (rows_of v) m.y m.ys m.right).stands.number in
      let f = k.left.few in
      let g = k.right.few in
      let i = k.left.within in
      let j = k.right.within in
      record {
        left = record { start = omega (arith, alone_rows m.x); within = omega arith; few = omega arith };
        right = record { start = omega (arith, alone_rows m.y); within = omega arith; few = omega arith };
      }

-- ---- the data words that are read
record Kept (w : List ℕ) (p n : ℕ) : Type 0 where
  there : DataIn w p (words_for n)
  few : n ≤ 1048576

bits_there : (w : List ℕ) (d p : ℕ) (x : Item) (xs : Items) → Stands w d p (rows_of w) (cons x xs) → kind_at w p ≡ 2 → Kept w p (a_at w p)
unfolding leaf_words
bits_there w d p (holder g c) xs s k = absurd (omega (arith, (group_row w d p (rows_of w) g c xs s).0, group_kind_lem g c))
bits_there w d p (P.single l) xs s k =
    let r = (leaf_parts w d p (rows_of w) l xs s).0 in
    let b = bits_of l (sym r.kind ∙ k) in
    let o : LeafRow w d p (bits b.0) = subst (LeafRow w d p) b.1 r in
    let i = bits_keeps w d p b.0 o in
    record { there = kept_data w d p (a_at w p) b.0 i s.few r.within; few = kept_few w d p (a_at w p) b.0 i o.little }

text_there : (w : List ℕ) (d p : ℕ) (x : Item) (xs : Items) → Stands w d p (rows_of w) (cons x xs) → kind_at w p ≡ 9 → Kept w p (8 * a_at w p)
text_there w d p (P.single l) xs s k = absurd (omega (arith, (leaf_parts w d p (rows_of w) l xs s).0.kind, leaf_kind_lem l))
text_there w d p (holder g c) xs s k =
    whether (is_text g c)
    (λ i.
    let r = (text_parts w d p (rows_of w) g c xs i s).0 in
    let b = text_keeps w d p c r in
    let o : d + length (in_words (spread 8 (codes c))) ≤ 16384 = rw (text_words_lem c) at r.little in
    record { there = kept_data w d p (8 * a_at w p) (spread 8 (codes c)) b s.few r.within; few = kept_few w d p (8 * a_at w p) (spread 8 (codes c)) b o })
    (λ i. absurd (other_kind g c i (sym (group_parts w d p (rows_of w) g c xs i s).kind ∙ k)))

-- both rows of a pair
pub record BothKept (w v : List ℕ) (p q a n : ℕ) : Type 0 where
  pub left : DataIn w p n
  pub right : DataIn v q n
  pub few : a ≤ 1048576

module _ (w v : List ℕ) (p q : ℕ) (h : Here w v p q) where
  pub here_rows : InRows w v p q
  here_rows = in_rows w v p q h.going.rest h.going.walk h.row

  pub here_bits : kind_at w p ≡ 2 → kind_at w p ≡ kind_at v q → a_at w p ≡ a_at v q → BothKept w v p q (a_at w p) ((a_at w p + 63) / 64)
  unfolding words_for
  here_bits k e a =
      let m = meeting w v p q h.going.rest h.going.walk h.row in
      let i = bits_there w m.d p m.x m.xs m.left k in
      let j = bits_there v m.e q m.y m.ys m.right (sym e ∙ k) in
      record { left = i.there; right = subst (λ z. DataIn v q (words_for z)) (sym a) j.there; few = i.few }

  pub here_text : kind_at w p ≡ 9 → kind_at w p ≡ kind_at v q → a_at w p ≡ a_at v q → BothKept w v p q (a_at w p) ((a_at w p + 7) / 8)
  here_text k e a =
      let m = meeting w v p q h.going.rest h.going.walk h.row in
      let i = text_there w m.d p m.x m.xs m.left k in
      let j = text_there v m.e q m.y m.ys m.right (sym e ∙ k) in
      let n = eights (a_at w p) in
      record {
        left = subst (DataIn w p) n i.there;
        right = subst (DataIn v q) n (subst (λ z. DataIn v q (words_for (8 * z))) (sym a) j.there);
        few = omega (arith, i.few);
      }
