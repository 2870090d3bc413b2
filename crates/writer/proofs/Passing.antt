-- Rows passed one after another: items that stand in them, and what they add to what stands behind them. Assumes nothing.
use mathlib.Core.Path.{◌≡◌, refl, sym, ◌∙◌, ap, subst}
use mathlib.Core.List.{List}
use Prim.Native.Nat.{ℕ, suc, ◌+◌, ◌-◌, ◌<◌, ◌≤◌}
use native.Mathlib.Omega.{arith}
use lib.ListN.{length, length-append}
use Rattle.format.specs.Items.{Leaf, Group, struc, Items, end, leaf, group}
use Rattle.format.specs.Tables.{count, rows, is_text, leaf_words, text_words, data_words}
use Rattle.format.specs.Normal.{normal_size, with_size, normal_leaf, normal, depth}
use Rattle.format.proofs.Choices.{whether}
use Rattle.format.proofs.TableLaws.{leaf_kind_lem, other_kind}
use Rattle.table.specs.Rows.{kind_at, a_at, b_at, Stands, LeafRow, TextRow, Header}
use Rattle.writer.specs.Surveys.{RowsPlaced, Longer, Shorter, RowsPassed}
use Rattle.table.proofs.KindLaws.{group_row, string_is, edt_is}
use Rattle.table.proofs.Standing.{group_kind_lem, group_data, text_data, text_struc, leaf_parts, group_parts, text_parts, join_leaf, join_group, join_text, stands_is, leaf_is, text_is, none_stands}
use Rattle.table.proofs.Judging.{GroupKind, KindOk}
use Rattle.table.proofs.RunLaws.{string_flat}
use Rattle.writer.proofs.StringLaws.{string_size}
use Rattle.writer.proofs.Lengths.{normal_bound, container_length}
use Rattle.format.proofs.Counts.{count_rows}

pub passed_none : (w : List ℕ) (D d u p : ℕ) → u ≤ D → RowsPassed w D d u p u p 0 0
passed_none w D d u p h =
    record {
      onward = omega arith;
      fits = h;
      forth = λ e ys y. record { items = ys; placed = y; number = omega arith; size = omega arith; words = refl; shallow = omega arith };
      back = λ e xs l x. record { items = xs; placed = x; shallow = omega arith };
    }

pub passed_join : (w : List ℕ) (D d u p v q x r a b m n : ℕ) → RowsPassed w D d u p v q a m → RowsPassed w D d v q x r b n → RowsPassed w D d u p x r (a + b) (m + n)
passed_join w D d u p v q x r a b m n f g =
    let o = f.onward in
    let k = g.onward in
    record {
      onward = omega arith;
      fits = g.fits;
      forth = λ e ys y.
          let s = g.forth e ys y in
          let t = f.forth e s.items s.placed in
          record {
            items = t.items;
            placed = t.placed;
            number = omega (arith, t.number, s.number);
            size = omega (arith, t.size, s.size);
            words = t.words ∙ s.words;
            shallow = omega (arith, t.shallow, s.shallow);
          };
      back = λ e xs l y.
          let s = f.back e xs (omega arith) y in
          let t = g.back e s.items l s.placed in
          record { items = t.items; placed = t.placed; shallow = omega (arith, t.shallow, s.shallow) };
    }

pub passed_deeper : (w : List ℕ) (D d u p v q c n : ℕ) → RowsPassed w D 0 u p v q c n → RowsPassed w D d u p v q c n
passed_deeper w D d u p v q c n f =
    record {
      onward = f.onward;
      fits = f.fits;
      forth = λ e ys y.
          let t = f.forth e ys y in
          record { items = t.items; placed = t.placed; number = t.number; size = t.size; words = t.words; shallow = omega (arith, t.shallow) };
      back = f.back;
    }

-- ---- one leaf
module _ (w : List ℕ) (D u p : ℕ) where
  leaf_back_on : (l : Leaf) → LeafRow w u p l → (e : ℕ) (xs : Items) → p + 1 ≤ e → RowsPlaced w D u p e xs → Shorter w D (u + length (leaf_words l)) (p + 1) e xs
  unfolding rows data_words depth
  leaf_back_on l r e end h x = absurd (omega (arith, x.stands.number))
  leaf_back_on l r e (group g c xs) h x = absurd (omega (arith, r.kind, leaf_kind_lem l, group_kind_lem g c, (group_row w u p e g c xs x.stands).0))
  leaf_back_on l r e (leaf k xs) h x =
      let s = leaf_parts w u p e k xs x.stands in
      let q : k ≡ l = sym (leaf_is w u p e k s.0) ∙ leaf_is w u p e l r in
      let f = x.fits in
      let n = length-append (leaf_words k) (data_words xs) in
      let m : u + length (leaf_words k) ≡ u + length (leaf_words l) = ap (λ z. u + length (leaf_words z)) q in
      record { items = xs; placed = record { stands = rw m at s.1; fits = omega arith }; shallow = omega arith }

  leaf_passed : (l : Leaf) → LeafRow w u p l → u + length (leaf_words l) ≤ D → RowsPassed w D 0 u p (u + length (leaf_words l)) (p + 1) 1 (length (normal_leaf l))
  unfolding count normal data_words depth
  leaf_passed l r h =
      record {
        onward = omega arith;
        fits = h;
        forth = λ e ys y.
            let f = y.fits in
            let n = length-append (leaf_words l) (data_words ys) in
            record {
              items = leaf l ys;
              placed = record { stands = join_leaf w u p e l ys r y.stands; fits = omega arith };
              number = omega arith;
              size = length-append (normal_leaf l) (normal ys);
              words = omega arith;
              shallow = omega arith;
            };
        back = leaf_back_on l r;
      }

  pub passed_leaf : (l : Leaf) (v n : ℕ) → LeafRow w u p l → v ≡ u + length (leaf_words l) → v ≤ D → n ≡ length (normal_leaf l) → RowsPassed w D 0 u p v (p + 1) 1 n
  passed_leaf l v n r e h m = rw (e, m) (leaf_passed l r (omega arith))

  pub no_leaf : (e : ℕ) → p < e → kind_at w p < 7 → ((l : Leaf) → LeafRow w u p l → u + length (leaf_words l) ≤ D → ⊥) → (xs : Items) → RowsPlaced w D u p e xs → ⊥
  unfolding rows data_words
  no_leaf e h k f end x = absurd (omega (arith, x.stands.number))
  no_leaf e h k f (group g c xs) x = absurd (omega (arith, group_kind_lem g c, (group_row w u p e g c xs x.stands).0))
  no_leaf e h k f (leaf l xs) x =
      let b = x.fits in
      f l (leaf_parts w u p e l xs x.stands).0 (omega (arith, length-append (leaf_words l) (data_words xs)))

-- ---- one string
module _ (w : List ℕ) (D u p : ℕ) where
  text_back_on : (c : Items) → TextRow w u p c → (e : ℕ) (xs : Items) → p + 1 ≤ e → RowsPlaced w D u p e xs → Shorter w D (u + length (text_words c)) (p + 1) e xs
  unfolding rows depth
  text_back_on c r e end h x = absurd (omega (arith, x.stands.number))
  text_back_on c r e (leaf l xs) h x = absurd (omega (arith, r.kind, leaf_kind_lem l, (leaf_parts w u p e l xs x.stands).0.kind))
  text_back_on c r e (group g k xs) h x =
      whether (is_text g k)
      (λ t.
      let s = text_parts w u p e g k xs t x.stands in
      let q : k ≡ c = sym (text_is w u p k s.0) ∙ text_is w u p c r in
      let f = x.fits in
      let n = ap length (text_data g k xs t) ∙ length-append (text_words k) (data_words xs) in
      let m : u + length (text_words k) ≡ u + length (text_words c) = ap (λ z. u + length (text_words z)) q in
      record { items = xs; placed = record { stands = rw m at s.1; fits = omega arith }; shallow = omega arith })
      (λ t. absurd (other_kind g k t (sym (group_row w u p e g k xs x.stands).0 ∙ r.kind)))

  text_passed : (d : ℕ) (c : Items) → TextRow w u p c → u + length (text_words c) ≤ D → RowsPassed w D (suc d) u p (u + length (text_words c)) (p + 1) 1 (1 + length (normal_size (count c)) + count c)
  unfolding count normal depth
  text_passed d c r h =
      let z = string_size c r.chars in
      let b = container_length c in
      let i : length (normal_size (length (normal c))) ≡ length (normal_size (count c)) = ap (λ k. length (normal_size k)) z in
      let y = string_flat c r.chars in
      record {
        onward = omega arith;
        fits = h;
        forth = λ e ys f.
            let g = f.fits in
            let n = ap length (text_data struc c ys (text_struc c r.chars)) ∙ length-append (text_words c) (data_words ys) in
            record {
              items = group struc c ys;
              placed = record { stands = join_text w u p e c ys r f.stands; fits = omega arith };
              number = omega arith;
              size = omega (arith, length-append (with_size (normal c)) (normal ys));
              words = omega arith;
              shallow = omega arith;
            };
        back = text_back_on c r;
      }

  pub passed_text : (d : ℕ) (c : Items) (v n m : ℕ) → TextRow w u p c → v ≡ u + length (text_words c) → v ≤ D → m ≡ count c → n ≡ length (normal_size m)
      → RowsPassed w D (suc d) u p v (p + 1) 1 (1 + n + m)
  passed_text d c v n m r e h k z = rw (e, z, k) (text_passed d c r (omega arith))

  pub no_text : (e : ℕ) → p < e → kind_at w p ≡ 9 → ((c : Items) → TextRow w u p c → u + length (text_words c) ≤ D → ⊥) → (xs : Items) → RowsPlaced w D u p e xs → ⊥
  unfolding rows
  no_text e h k f end x = absurd (omega (arith, x.stands.number))
  no_text e h k f (leaf l xs) x = absurd (omega (arith, leaf_kind_lem l, (leaf_parts w u p e l xs x.stands).0.kind))
  no_text e h k f (group g c xs) x =
      whether (is_text g c)
      (λ t.
      let b = x.fits in
      f c (text_parts w u p e g c xs t x.stands).0 (omega (arith, ap length (text_data g c xs t), length-append (text_words c) (data_words xs))))
      (λ t. absurd (other_kind g c t (sym (group_row w u p e g c xs x.stands).0 ∙ k)))

-- a container has depth
pub some_depth : (w : List ℕ) (D u p e : ℕ) → p < e → 7 ≤ kind_at w p → (xs : Items) → RowsPlaced w D u p e xs → 0 < depth xs
unfolding rows depth
some_depth w D u p e h k end x = absurd (omega (arith, x.stands.number))
some_depth w D u p e h k (leaf l xs) x = absurd (omega (arith, leaf_kind_lem l, (leaf_parts w u p e l xs x.stands).0.kind))
some_depth w D u p e h k (group g c xs) x = omega arith

-- ---- one container
-- what stands inside the first container of items
pub record Inside (w : List ℕ) (D u p e : ℕ) (xs : Items) : Type 0 where
  pub kind : Group
  pub items : Items
  pub after : Items
  pub row : GroupKind w p kind items
  pub number : a_at w p ≡ count items
  pub within : p + 1 + b_at w p ≤ e
  pub placed : RowsPlaced w D u (p + 1) (p + 1 + b_at w p) items
  pub behind : RowsPlaced w D (u + length (data_words items)) (p + 1 + b_at w p) e after
  pub deep : suc (depth items) ≤ depth xs
  pub rest : depth after ≤ depth xs

pub inside : (w : List ℕ) (D u p e : ℕ) → p < e → 7 ≤ kind_at w p → (kind_at w p ≡ 9 → ⊥) → (xs : Items) → RowsPlaced w D u p e xs → Inside w D u p e xs
unfolding rows depth
inside w D u p e h k n9 end x = absurd (omega (arith, x.stands.number))
inside w D u p e h k n9 (leaf l xs) x = absurd (omega (arith, leaf_kind_lem l, (leaf_parts w u p e l xs x.stands).0.kind))
inside w D u p e h k n9 (group g c xs) x =
    whether (is_text g c) (λ t. absurd (n9 (text_parts w u p e g c xs t x.stands).0.kind))
    (λ t.
    let s = group_parts w u p e g c xs t x.stands in
    let f = x.fits in
    let n = ap length (group_data g c xs t) ∙ length-append (data_words c) (data_words xs) in
    let b = s.second in
    let q : p + 1 + rows c ≡ p + 1 + b_at w p = omega arith in
    let a = s.after.number in
    record {
      kind = g;
      items = c;
      after = xs;
      row = record { plain = t; is = s.kind; good = s.good };
      number = s.first;
      within = omega arith;
      placed = record { stands = rw q at s.inside; fits = omega arith };
      behind = record { stands = rw q at s.after; fits = omega arith };
      deep = omega arith;
      rest = omega arith;
    })

-- ---- rows passed, by themselves
module _ (w : List ℕ) (R D : ℕ) (h : Header w R D) where
  abbrev pub Alone : ℕ → ℕ → ℕ → ℕ → ℕ → ℕ → ℕ → Type 0
  Alone d u p v q c n = Longer w D d u p q v c n end

  pub alone : (d u p v q c n : ℕ) → q ≤ R → RowsPassed w D d u p v q c n → Alone d u p v q c n
  unfolding data_words
  alone d u p v q c n l f =
      let b = f.fits in
      let r = h.rows in
      let s = h.within in
      let i = h.few in
      let j = h.little in
      f.forth q end (record { stands = none_stands w v q (omega arith) (omega arith) (omega arith) (omega arith); fits = omega arith })

  pub passed_bound : (d u p v q c n : ℕ) → q ≤ R → RowsPassed w D d u p v q c n → (n ≤ 458752) × (c ≤ q - p)
  unfolding count normal data_words
  passed_bound d u p v q c n l f =
      let a = alone d u p v q c n l f in
      let s = a.placed.stands in
      let m = s.number in
      let y = s.few in
      let t = s.little in
      let z = normal_bound a.items s.good (omega arith) (omega arith) in
      (omega (arith, a.size), omega (arith, a.number, count_rows a.items))

  -- the items are the only ones there
  pub alone_is : (d u p v q c n : ℕ) → (a : Alone d u p v q c n) → (xs : Items) → RowsPlaced w D u p q xs → xs ≡ a.items
  alone_is d u p v q c n a xs x = sym (stands_is w u p q xs x.stands) ∙ stands_is w u p q a.items a.placed.stands

  container_with : (d u p v n : ℕ) (xs : Items) → Stands w u (p + 1) (p + 1 + b_at w p) xs → n ≡ length (normal xs) → v ≡ u + length (data_words xs) → v ≤ D → depth xs ≤ d →
      7 ≤ kind_at w p → (kind_at w p ≡ 9 → ⊥) → a_at w p ≡ count xs → KindOk w p (p + 1 + b_at w p) → RowsPassed w D (suc d) u p v (p + 1 + b_at w p) 1 (1 + length (normal_size n) + n)
  unfolding count normal depth
  container_with d u p v n xs s y x t i k n9 z o =
      let kk = o.rule xs (string_is w u (p + 1) (p + 1 + b_at w p) xs s) (edt_is w u (p + 1) (p + 1 + b_at w p) xs s) in
      let b : b_at w p ≡ rows xs = omega (arith, s.number) in
      let q : p + 1 + b_at w p ≡ p + 1 + rows xs = omega arith in
      record {
        onward = omega arith;
        fits = t;
        forth = λ e ys f.
            let g = f.fits in
            let m = ap length (group_data o.kind xs ys kk.plain) ∙ length-append (data_words xs) (data_words ys) in
            record {
              items = group o.kind xs ys;
              placed = record {
                stands = join_group w u p e o.kind xs ys (record {
                  plain = kk.plain;
                  kind = kk.is;
                  first = z;
                  second = b;
                  good = kk.good;
                  inside = rw q at s;
                  after = rw (q, x) at f.stands;
                });
                fits = omega arith;
              };
              number = omega arith;
              size = omega (arith, length-append (with_size (normal xs)) (normal ys), container_length xs, ap (λ j. length (normal_size j)) y);
              words = omega arith;
              shallow = omega arith;
            };
        back = λ e ys g f.
            let j = inside w D u p e (omega arith) k n9 ys f in
            let m : j.items ≡ xs = sym (stands_is w u (p + 1) (p + 1 + b_at w p) j.items j.placed.stands) ∙ stands_is w u (p + 1) (p + 1 + b_at w p) xs s in
            let a : u + length (data_words j.items) ≡ v = ap (λ c. u + length (data_words c)) m ∙ sym x in
            record { items = j.after; placed = subst (λ (c : ℕ). RowsPlaced w D c (p + 1 + b_at w p) e j.after) a j.behind; shallow = j.rest };
      }

  pub passed_container : (d u p v c n : ℕ) → p + 1 + b_at w p ≤ R → 7 ≤ kind_at w p → (kind_at w p ≡ 9 → ⊥) → a_at w p ≡ c → KindOk w p (p + 1 + b_at w p)
      → RowsPassed w D d u (p + 1) v (p + 1 + b_at w p) c n → RowsPassed w D (suc d) u p v (p + 1 + b_at w p) 1 (1 + length (normal_size n) + n)
  unfolding count data_words normal depth
  passed_container d u p v c n l k n9 e o f =
      let a = alone d u (p + 1) v (p + 1 + b_at w p) c n l f in
      container_with d u p v n a.items a.placed.stands (omega (arith, a.size)) (omega (arith, a.words)) f.fits (omega (arith, a.shallow)) k n9 (omega (arith, a.number)) o
