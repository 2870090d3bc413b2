-- Words are a table exactly where the judge finds the header and each row in order. Assumes nothing.
use mathlib.Core.Path.{◌≡◌, refl, sym, ◌∙◌, ap, ap₂, subst}
use mathlib.Core.List.{List}
use mathlib.Core.Bool.{true, false, not}
use Prim.Native.Nat.{ℕ, zero, suc, ◌+◌, ◌-◌, ◌*◌, ◌^◌, ◌<◌, ◌≤◌}
use native.Mathlib.Omega.{arith}
use lib.ListN.{length, get_or, length-append}
use Rattle.format.specs.Choice.{pick}
use Rattle.format.specs.Items.{Group, struc, edt, Items, end, leaf, group, is_string, edt_rule, proper_group}
use Rattle.format.specs.Tables.{count, rows, is_text, leaf_words, text_words, data_words, container_kind, row_kind}
use Rattle.format.proofs.Choices.{split, split_eq, whether, true_eq, eq_true, clash}
use Rattle.format.proofs.TableLaws.{leaf_kind_lem, other_kind}
use Rattle.table.specs.Rows.{kind_at, a_at, b_at, Stands, single, lands, data_to}
use Rattle.table.specs.InOrder.{all_chars, edt_rows, kind_ok, group_ok, row_ok}
use Rattle.table.proofs.RowLaws.{single_leaf, single_text, single_not, lands_end, lands_out, lands_leaf, lands_beyond, lands_group}
use Rattle.table.proofs.RowLaws.{group_missed, group_landed, kind_struc, kind_edt, kind_other, data_suc, data_none, row_group, row_text_lem}
use Rattle.table.proofs.LeafRows.{LeafFound, leaf_found, leaf_right, TextFound, text_found, text_ok_lem}
use Rattle.table.proofs.KindLaws.{string_is, edt_is}
use Rattle.table.proofs.Standing.{group_kind_lem, group_data, text_data, text_struc, leaf_data, leaf_parts, group_parts, text_parts, join_leaf, join_group, join_text, none_stands}

abbrev pub AllOk : List ℕ → ℕ → ℕ → ℕ → Type 0
AllOk w R p e = (i : ℕ) → p ≤ i → i < e → row_ok w R i ≡ true

-- ---- a group's row
-- a STRUC that is no string
struc_kind : (c : Items) → is_string c ≡ false → row_kind struc c ≡ 7
unfolding row_kind container_kind is_text is_string pick
struc_kind c h = rw h refl

-- a row with the kind of a group that is no string, if its elements c stand up to e
pub record GroupKind (w : List ℕ) (p : ℕ) (g : Group) (c : Items) : Type 0 where
  pub plain : is_text g c ≡ false
  pub is : kind_at w p ≡ row_kind g c
  pub good : proper_group g c ≡ true

pub record KindOk (w : List ℕ) (p e : ℕ) : Type 0 where
  pub kind : Group
  pub rule : (c : Items) → all_chars w (p + 1) e ≡ is_string c → edt_rows w (p + 1) e ≡ edt_rule c → GroupKind w p kind c

pub kind_true : (w : List ℕ) (p e : ℕ) → kind_ok w p e ≡ true → KindOk w p e
unfolding is_text proper_group
kind_true w p e t =
    split_eq (kind_at w p) 7
    (λ k. whether (all_chars w (p + 1) e) (λ y. clash (kind_ok w p e) t (kind_struc w p e k ∙ ap not y))
    (λ n. record { kind = struc; rule = λ c s q. record { plain = sym s ∙ n; is = k ∙ sym (struc_kind c (sym s ∙ n)); good = refl } }))
    (λ n. split_eq (kind_at w p) 8
    (λ k. record { kind = edt; rule = λ c s q. record { plain = refl; is = unfold row_kind container_kind is_text pick in k; good = sym q ∙ sym (kind_edt w p e k) ∙ t } })
    (λ m. clash (kind_ok w p e) t (kind_other w p e n m)))

pub kind_right : (w : List ℕ) (p e : ℕ) (g : Group) (c : Items) → GroupKind w p g c → all_chars w (p + 1) e ≡ is_string c → edt_rows w (p + 1) e ≡ edt_rule c → kind_ok w p e ≡ true
unfolding is_text proper_group
kind_right w p e struc c k s q = kind_struc w p e (k.is ∙ struc_kind c k.plain) ∙ ap not (s ∙ k.plain)
kind_right w p e edt c k s q = kind_edt w p e (unfold row_kind container_kind is_text pick in k.is) ∙ q ∙ k.good

-- its kind is one of 7 and 8
group_kinds : (w : List ℕ) (p : ℕ) (g : Group) (c : Items) → is_text g c ≡ false → kind_at w p ≡ row_kind g c → (7 ≤ kind_at w p) × (kind_at w p ≡ 9 → ⊥)
group_kinds w p g c t k = let z = group_kind_lem g c in (omega arith, λ y. other_kind g c t (sym k ∙ y))

-- a row from 7 up that is in order
record GroupOk (w : List ℕ) (p : ℕ) : Type 0 where
  ok : KindOk w p (p + 1 + b_at w p)
  landed : lands w (a_at w p) (p + 1) (p + 1 + b_at w p) ≡ true

group_true : (w : List ℕ) (R p : ℕ) → b_at w p ≤ R - (p + 1) → group_ok w R p ≡ true → GroupOk w p
group_true w R p s t =
    whether (lands w (a_at w p) (p + 1) (p + 1 + b_at w p))
    (λ l. record { ok = kind_true w p (p + 1 + b_at w p) (sym (group_landed w R p s l) ∙ t); landed = l })
    (λ l. clash (group_ok w R p) t (group_missed w R p l))

-- ---- data words before a row
data_mono : (w : List ℕ) (k p : ℕ) → data_to w p ≤ data_to w (p + k)
data_mono w zero p = let e : p + 0 ≡ p = omega arith in rw e (omega arith)
data_mono w (suc k) p =
    let e : p + suc k ≡ p + k + 1 = omega arith in
    rw (e, data_suc w (p + k)) (omega (arith, data_mono w k p))

data_le : (w : List ℕ) (p q : ℕ) → p ≤ q → data_to w p ≤ data_to w q
data_le w p q h = let e : p + (q - p) ≡ q = omega arith in rw e at (data_mono w (q - p) p)

-- ---- rows in order are those of items
pub record Found (w : List ℕ) (n p e : ℕ) : Type 0 where
  pub items : Items
  pub stands : Stands w (data_to w p) p e items
  pub number : count items ≡ n
  pub many : data_to w p + length (data_words items) ≡ data_to w e

module _ (w : List ℕ) (R : ℕ) (few : R ≤ 16384) (little : get_or w 3 0 ≤ 16384) (room : 3 * get_or w 0 0 + 4 + get_or w 3 0 ≤ length w) (fits : 3 * R + 4 ≤ length w) where
  found_none : (n p e : ℕ) → p ≡ e → n ≡ 0 → e ≤ R → data_to w e ≤ get_or w 3 0 → Found w n p e
  unfolding count data_words
  found_none n p e q z l d =
      subst (λ (x : ℕ). Found w n p x) q
      (let dp : data_to w p ≤ get_or w 3 0 = rw q d in
      record { items = end; stands = none_stands w (data_to w p) p (omega arith) (omega arith) (omega arith) (omega arith); number = sym z; many = omega arith })

  found_leaf : (n p e : ℕ) → 0 < n → (l : LeafFound w (data_to w p) p) → Found w (n - 1) (p + 1) e → Found w n p e
  unfolding count data_words
  found_leaf n p e h l f =
      let d : data_to w (p + 1) ≡ data_to w p + length (leaf_words l.item) = data_suc w p ∙ ap (λ z. data_to w p + z) l.takes in
      let m = f.many in
      let c = f.number in
      record {
        items = leaf l.item f.items;
        stands = join_leaf w (data_to w p) p e l.item f.items l.row (rw d at f.stands);
        number = omega arith;
        many = omega (arith, length-append (leaf_words l.item) (data_words f.items));
      }

  found_text : (n p e : ℕ) → 0 < n → (few : data_to w p ≤ get_or w 3 0) → (l : TextFound w (data_to w p) room little few p) → Found w (n - 1) (p + 1) e → Found w n p e
  unfolding count
  found_text n p e h few l f =
      let c = l.item in
      let d : data_to w (p + 1) ≡ data_to w p + length (text_words c) = data_suc w p ∙ ap (λ z. data_to w p + z) l.takes in
      let m = f.many in
      let i = f.number in
      let y = ap length (text_data struc c f.items (text_struc c l.row.chars)) ∙ length-append (text_words c) (data_words f.items) in
      record {
        items = group struc c f.items;
        stands = join_text w (data_to w p) p e c f.items l.row (rw d at f.stands);
        number = omega arith;
        many = omega arith;
      }

  found_group : (n p e : ℕ) → 0 < n → (g : GroupOk w p) → Found w (a_at w p) (p + 1) (p + 1 + b_at w p) → Found w (n - 1) (p + 1 + b_at w p) e → Found w n p e
  unfolding count
  found_group n p e h g f a =
      let c = f.items in
      let k = g.ok.rule c (string_is w _ (p + 1) (p + 1 + b_at w p) c f.stands) (edt_is w _ (p + 1) (p + 1 + b_at w p) c f.stands) in
      let y = group_kinds w p g.ok.kind c k.plain k.is in
      let d : data_to w (p + 1) ≡ data_to w p = data_suc w p ∙ ap (λ z. data_to w p + z) (data_none w p (λ z. omega (arith, y.0)) y.1) ∙ omega arith in
      let b : b_at w p ≡ rows c = omega (arith, f.stands.number) in
      let q : p + 1 + b_at w p ≡ p + 1 + rows c = omega arith in
      let m : data_to w (p + 1 + b_at w p) ≡ data_to w p + length (data_words c) = omega (arith, f.many) in
      let s : Stands w (data_to w p) (p + 1) (p + 1 + rows c) c = rw (d, q) at f.stands in
      let t : Stands w (data_to w p + length (data_words c)) (p + 1 + rows c) e a.items = rw q at (rw m at a.stands) in
      record {
        items = group g.ok.kind c a.items;
        stands = join_group w (data_to w p) p e g.ok.kind c a.items (record {
          plain = k.plain;
          kind = k.is;
          first = sym f.number;
          second = b;
          good = k.good;
          inside = s;
          after = t;
        });
        number = omega (arith, a.number);
        many = omega (arith, a.many, ap length (group_data g.ok.kind c a.items k.plain), length-append (data_words c) (data_words a.items));
      }

  pub sound : ((i : ℕ) → get_or w i 0 < 2 ^ 64) → (m n p e : ℕ) → e - p ≤ m → p ≤ e → e ≤ R → lands w n p e ≡ true → AllOk w R p e → data_to w e ≤ get_or w 3 0 → Found w n p e
  sound bound zero n p e h o l t ok d =
      split_eq n 0 (λ z. found_none n p e (true_eq p e (sym (lands_end w e n p z) ∙ t)) z l d)
      (λ z. clash _ t (lands_out w e n p (omega arith) (omega arith)))
  sound bound (suc m) n p e h o l t ok d =
      split_eq n 0 (λ z. found_none n p e (true_eq p e (sym (lands_end w e n p z) ∙ t)) z l d)
      (λ z. split p e
      (λ lt.
      let q : data_to w p ≤ get_or w 3 0 = omega (arith, data_le w p e o) in
      let on : single (kind_at w p) ≡ true → Found w (n - 1) (p + 1) e =
      λ k. sound bound m (n - 1) (p + 1) e (omega arith) (omega arith) l (sym (lands_leaf w e n p (omega arith) lt k) ∙ t) (λ i u v. ok i (omega arith) v) d in
      split (kind_at w p) 7
      (λ k.
      found_leaf n p e (omega arith)
      (leaf_found w (data_to w p) room little q R p (omega arith) k refl (ok p (omega arith) lt) bound)
      (on (single_leaf (kind_at w p) k)))
      (λ k. split_eq (kind_at w p) 9
      (λ i.
      found_text n p e (omega arith) q
      (text_found w (data_to w p) room little q p (omega arith) i (sym (row_text_lem w R p i) ∙ ok p (omega arith) lt) bound)
      (on (single_text (kind_at w p) i)))
      (λ i.
      let y = single_not (kind_at w p) k i in
      split (e - (p + 1)) (b_at w p) (λ s. clash _ t (lands_beyond w e n p (omega arith) y s))
      (λ s.
      let r : lands w (n - 1) (p + 1 + b_at w p) e ≡ true = sym (lands_group w e n p (omega arith) lt y s) ∙ t in
      let g = group_true w R p (omega arith) (sym (row_group w R p k i) ∙ ok p (omega arith) lt) in
      let q : data_to w (p + 1 + b_at w p) ≤ get_or w 3 0 = omega (arith, data_le w (p + 1 + b_at w p) e (omega arith)) in
      found_group n p e (omega arith) g
      (sound bound m (a_at w p) (p + 1) (p + 1 + b_at w p) (omega arith) (omega arith) (omega arith) g.landed (λ i u v. ok i (omega arith) (omega arith)) q)
      (sound bound m (n - 1) (p + 1 + b_at w p) e (omega arith) (omega arith) l r (λ i u v. ok i (omega arith) v) d)))))
      (λ ge. clash _ t (lands_out w e n p (omega arith) ge)))

  -- ---- the rows of items are in order
  first_ok : (p e : ℕ) → row_ok w R p ≡ true → AllOk w R (p + 1) e → AllOk w R p e
  first_ok p e o f i h l = split p i (λ lt. f i (omega arith) l) (λ ge. let q : p ≡ i = omega arith in rw q at o)

  joined_ok : (p q e : ℕ) → AllOk w R p q → AllOk w R q e → AllOk w R p e
  joined_ok p q e f g i h l = split i q (λ lt. f i h lt) (λ ge. g i ge l)

  pub record InOrder (d n p e : ℕ) (xs : Items) : Type 0 where
    pub landed : lands w n p e ≡ true
    pub each : AllOk w R p e
    pub many : data_to w e ≡ d + length (data_words xs)

  complete_none : (d p e : ℕ) → Stands w d p e end → d ≡ data_to w p → InOrder d (count end) p e end
  unfolding count data_words rows
  complete_none d p e s q =
      let z : p ≡ e = omega (arith, s.number) in
      record { landed = lands_end w e 0 p refl ∙ eq_true p e z; each = λ i u v. absurd (omega arith); many = rw (← z) (omega arith) }

  pub complete : (d p e : ℕ) (xs : Items) → Stands w d p e xs → d ≡ data_to w p → e ≤ R → d + length (data_words xs) ≤ get_or w 3 0 → InOrder d (count xs) p e xs
  unfolding count
  complete d p e end s q l m = complete_none d p e s q
  complete d p e (leaf x xs) s q l m =
      let k = leaf_parts w d p e x xs s in
      let n : length (data_words (leaf x xs)) ≡ length (leaf_words x) + length (data_words xs) = leaf_data x xs in
      let h : p < e = omega (arith, k.1.number) in
      let r = leaf_right w d room little (omega arith) R p x k.0 (omega (arith, k.0.kind, leaf_kind_lem x)) q (omega arith) in
      let f : d + length (leaf_words x) ≡ data_to w (p + 1) = sym (data_suc w p ∙ ap₂ ◌+◌ (sym q) r.1) in
      let j = complete (d + length (leaf_words x)) (p + 1) e xs k.1 f l (omega arith) in
      let z : suc (count xs) - 1 ≡ count xs = omega arith in
      record {
        landed = lands_leaf w e (suc (count xs)) p (omega arith) h (single_leaf (kind_at w p) (omega (arith, k.0.kind, leaf_kind_lem x))) ∙ rw z j.landed;
        each = first_ok p e r.0 j.each;
        many = j.many ∙ omega arith;
      }
  complete d p e (group g c xs) s q l m =
      let z : suc (count xs) - 1 ≡ count xs = omega arith in
      whether (is_text g c)
      (λ y.
      let k = text_parts w d p e g c xs y s in
      let n = ap length (text_data g c xs y) ∙ length-append (text_words c) (data_words xs) in
      let kk = k.0.kind in
      let h : p < e = omega (arith, k.1.number) in
      let r = text_ok_lem w d room little (omega arith) p c k.0 (omega arith) in
      let f : d + length (text_words c) ≡ data_to w (p + 1) = sym (data_suc w p ∙ ap₂ ◌+◌ (sym q) r.1) in
      let j = complete (d + length (text_words c)) (p + 1) e xs k.1 f l (omega arith) in
      record {
        landed = lands_leaf w e (suc (count xs)) p (omega arith) h (single_text (kind_at w p) kk) ∙ rw z j.landed;
        each = first_ok p e (row_text_lem w R p kk ∙ rw (← q) r.0) j.each;
        many = j.many ∙ omega arith;
      })
      (λ y.
      let k = group_parts w d p e g c xs y s in
      let n = ap length (group_data g c xs y) ∙ length-append (data_words c) (data_words xs) in
      let kk = group_kinds w p g c y k.kind in
      let ge = kk.0 in
      let i = k.inside.number in
      let a = k.after.number in
      let b = k.second in
      let h : p < e = omega arith in
      let pb : p + 1 + rows c ≡ p + 1 + b_at w p = omega arith in
      let f : d ≡ data_to w (p + 1) = q ∙ sym (data_suc w p ∙ ap (λ z. data_to w p + z) (data_none w p (λ z. omega arith) kk.1) ∙ omega arith) in
      let j = complete d (p + 1) (p + 1 + rows c) c k.inside f (omega arith) (omega arith) in
      let o = complete (d + length (data_words c)) (p + 1 + rows c) e xs k.after (sym j.many) l (omega arith) in
      record {
        landed = lands_group w e (suc (count xs)) p (omega arith) h (single_not (kind_at w p) ge kk.1) (omega arith) ∙ rw (z, ← pb) o.landed;
        each = first_ok p e
            (row_group w R p ge kk.1 ∙ group_landed w R p (omega arith) (rw (← pb, k.first) j.landed)
            ∙ kind_right w p (p + 1 + b_at w p) g c (record { plain = y; is = k.kind; good = k.good })
            (rw (← pb) (string_is w d (p + 1) (p + 1 + rows c) c k.inside)) (rw (← pb) (edt_is w d (p + 1) (p + 1 + rows c) c k.inside)))
            (joined_ok (p + 1) (p + 1 + rows c) e j.each o.each);
        many = o.many ∙ omega arith;
      })
