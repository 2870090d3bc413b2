-- What stands in a run of rows: the parts of it, what parts join to, and that the rows claim just that. Assumes nothing.
use mathlib.Core.Path.{◌≡◌, refl, sym, ◌∙◌, ap, ap₂, subst}
use mathlib.Core.List.{List, [], ◌∷◌, ◌++◌, append_assoc}
use mathlib.Core.Bool.{true, false}
use Prim.Native.Nat.{ℕ, suc, ◌+◌, ◌-◌, ◌*◌, ◌≤◌}
use native.Mathlib.Omega.{arith}
use lib.ListN.{length, take, drop, get_or, length-append}
use lib.Seq.{drop-cons, drop-drop, get_or-drop, drop_at, take_at}
use Rattle.format.specs.Items.{Leaf, Group, struc, edt, Items, end, leaf, group, join, leaf_kind, is_string, text, proper_leaf, proper_group, proper}
use Rattle.format.specs.Bits.{spread, packed}
use Rattle.format.specs.Choice.{pick, both}
use Rattle.format.specs.Tables.{count, rows, is_text, from_words, leaf_a, leaf_b, leaf_words, codes, letters, text_words, data_words, group_words, container_kind, row_kind, group_b, row_words, claimed_text, claimed}
use Rattle.format.proofs.Choices.{pick_yes, pick_no, by_pick, both_left, both_right, both_true}
use Rattle.format.proofs.BitLaws.{spread_length, packed_spread}
use Rattle.format.proofs.Counts as Counts
use Rattle.format.proofs.ItemLaws.{join_proper}
use Rattle.format.proofs.TableLaws.{words_on, row_length, rows_back, leaf_back, bits_back, codes_length, characters_of, text_kind}
use Rattle.table.specs.Rows.{kind_at, a_at, b_at, data_of, Stands, items_at, Run, LeafRow, TextRow, leaf_at, text_at}

-- a group's row has one of the kinds from 7 up
pub group_kind_lem : (g : Group) (c : Items) → 7 ≤ row_kind g c
unfolding row_kind container_kind is_text
group_kind_lem struc c = by_pick (λ k. 7 ≤ k) (is_string c) (λ t. omega arith) (λ t. omega arith)
group_kind_lem edt c = unfold pick in omega arith

-- how a leaf has rows and data words
pub leaf_rows : (x : Leaf) (xs : Items) → rows (leaf x xs) ≡ suc (rows xs)
unfolding rows
leaf_rows x xs = refl

pub leaf_data : (x : Leaf) (xs : Items) → length (data_words (leaf x xs)) ≡ length (leaf_words x) + length (data_words xs)
unfolding data_words
leaf_data x xs = length-append (leaf_words x) (data_words xs)

-- how a group that is no string has rows and data words
module _ (g : Group) (c xs : Items) (t : is_text g c ≡ false) where
  pub group_rows : rows (group g c xs) ≡ suc (rows c + rows xs)
  unfolding rows
  group_rows = ap (λ n. suc (n + rows xs)) (pick_no (is_text g c) 0 (rows c) t)

  pub group_data : data_words (group g c xs) ≡ data_words c ++ data_words xs
  unfolding data_words
  group_data = ap (λ l. l ++ data_words xs) (pick_no (is_text g c) (text_words c) (data_words c) t)

  group_words_lem : (d : ℕ) → row_words d (group g c xs) ≡ row_kind g c ∷ count c ∷ rows c ∷ (row_words d c ++ row_words (d + length (data_words c)) xs)
  unfolding row_words group_b group_words
  group_words_lem d =
      rw (pick_no (is_text g c) d (rows c) t, pick_no (is_text g c) [] (row_words d c) t, pick_no (is_text g c) (text_words c) (data_words c) t) refl

-- and one that is
pub text_struc : (c : Items) → is_string c ≡ true → is_text struc c ≡ true
unfolding is_text
text_struc c t = t

module _ (g : Group) (c xs : Items) (t : is_text g c ≡ true) where
  pub text_rows : rows (group g c xs) ≡ suc (rows xs)
  unfolding rows
  text_rows = ap (λ n. suc (n + rows xs)) (pick_yes (is_text g c) 0 (rows c) t) ∙ omega arith

  pub text_data : data_words (group g c xs) ≡ text_words c ++ data_words xs
  unfolding data_words
  text_data = ap (λ l. l ++ data_words xs) (pick_yes (is_text g c) (text_words c) (data_words c) t)

  text_words_lem : (d : ℕ) → row_words d (group g c xs) ≡ 9 ∷ count c ∷ d ∷ row_words (d + length (text_words c)) xs
  unfolding row_words group_b group_words
  text_words_lem d =
      rw ((text_kind g c t).2, pick_yes (is_text g c) d (rows c) t, pick_yes (is_text g c) [] (row_words d c) t, pick_yes (is_text g c) (text_words c) (data_words c) t) refl

abbrev from : List ℕ → ℕ → List ℕ
from w p = drop (3 * p + 4) w

row_words_lem : (w : List ℕ) (p : ℕ) → 3 * p + 7 ≤ length w → from w p ≡ kind_at w p ∷ a_at w p ∷ b_at w p ∷ from w (p + 1)
row_words_lem w p h =
    let e : 3 * (p + 1) + 4 ≡ suc (3 * p + 6) = omega arith in
    let f : 3 * p + 6 ≡ suc (3 * p + 5) = omega arith in
    let g : 3 * p + 5 ≡ suc (3 * p + 4) = omega arith in
    rw e
    (drop-cons w (3 * p + 4) 0 (omega arith)
    ∙ ap (λ z. get_or w (3 * p + 4) 0 ∷ z)
    (ap (λ q. drop q w) (sym g) ∙ drop-cons w (3 * p + 5) 0 (omega arith)
    ∙ ap (λ z. get_or w (3 * p + 5) 0 ∷ z) (ap (λ q. drop q w) (sym f) ∙ drop-cons w (3 * p + 6) 0 (omega arith))))

record RowIs (w : List ℕ) (p k a b : ℕ) (l : List ℕ) : Type 0 where
  kind : kind_at w p ≡ k
  first : a_at w p ≡ a
  second : b_at w p ≡ b
  after : from w (p + 1) ≡ l

row_is : (w : List ℕ) (p k a b : ℕ) (l : List ℕ) → from w p ≡ k ∷ a ∷ b ∷ l → RowIs w p k a b l
row_is w p k a b l f =
    let at : (i j : ℕ) → i ≡ 3 * p + 4 + j → get_or w i 0 ≡ get_or (k ∷ a ∷ b ∷ l) j 0 =
    λ i j e. ap (λ z. get_or w z 0) e ∙ sym (get_or-drop (3 * p + 4) w j 0) ∙ ap (λ z. get_or z j 0) f in
    let q : 3 * (p + 1) + 4 ≡ 3 * p + 4 + 3 = omega arith in
    record {
      kind = at (3 * p + 4) 0 (omega arith);
      first = at (3 * p + 5) 1 (omega arith);
      second = at (3 * p + 6) 2 (omega arith);
      after = rw q (sym (drop-drop 3 (3 * p + 4) w) ∙ ap (drop 3) f);
    }

-- ---- data words in two parts
data_parts : (a b ds : List ℕ) (d : ℕ) → drop d ds ≡ (a ++ b) ++ drop (d + length (a ++ b)) ds →
    (drop d ds ≡ a ++ drop (d + length a) ds) × (drop (d + length a) ds ≡ b ++ drop (d + length a + length b) ds)
data_parts a b ds d h =
    let n : d + length (a ++ b) ≡ d + length a + length b = omega (arith, length-append a b) in
    let p = words_on a b (drop (d + length a + length b) ds) ds d (h ∙ ap (λ z. (a ++ b) ++ drop z ds) n) in
    (p.0 ∙ ap (λ z. a ++ z) (sym p.1), p.1)

data_join : (a b ds : List ℕ) (d : ℕ) → drop d ds ≡ a ++ drop (d + length a) ds → drop (d + length a) ds ≡ b ++ drop (d + length a + length b) ds →
    drop d ds ≡ (a ++ b) ++ drop (d + length (a ++ b)) ds
data_join a b ds d h g =
    let n : d + length (a ++ b) ≡ d + length a + length b = omega (arith, length-append a b) in
    let m : List ℕ = drop (d + length a + length b) ds in
    h ∙ ap (λ z. a ++ z) g ∙ sym (append_assoc a b m) ∙ ap (λ z. (a ++ b) ++ drop z ds) (sym n)

-- ---- taking a run apart
module _ (w : List ℕ) (d p e : ℕ) where
  pub leaf_parts : (l : Leaf) (xs : Items) → Stands w d p e (leaf l xs) → LeafRow w d p l × Stands w (d + length (leaf_words l)) (p + 1) e xs
  unfolding rows row_words data_words proper
  leaf_parts l xs s =
      let r = row_is w p _ _ _ _ s.words in
      let c = data_parts (leaf_words l) (data_words xs) (data_of w) d s.contents in
      let n = length-append (leaf_words l) (data_words xs) in
      let m = s.number in
      let i = s.within in
      let f = s.few in
      let j = s.little in
      let k = s.stored in (
        record {
          kind = r.kind;
          a = r.first;
          b = r.second;
          good = both_left (proper_leaf l) (proper xs) s.good;
          contents = c.0;
          within = omega arith;
          stored = omega arith;
          little = omega arith;
        },
        record {
          number = omega arith;
          words = r.after;
          contents = c.1;
          good = both_right (proper_leaf l) (proper xs) s.good;
          within = i;
          few = f;
          little = omega arith;
          stored = omega arith;
        },
      )

  pub record GroupParts (g : Group) (c xs : Items) : Type 0 where
    pub plain : is_text g c ≡ false
    pub kind : kind_at w p ≡ row_kind g c
    pub first : a_at w p ≡ count c
    pub second : b_at w p ≡ rows c
    pub good : proper_group g c ≡ true
    pub inside : Stands w d (p + 1) (p + 1 + rows c) c
    pub after : Stands w (d + length (data_words c)) (p + 1 + rows c) e xs

  pub group_parts : (g : Group) (c xs : Items) → is_text g c ≡ false → Stands w d p e (group g c xs) → GroupParts g c xs
  unfolding proper
  group_parts g c xs y s =
      let t : List ℕ = row_words (d + length (data_words c)) xs ++ from w e in
      let r = row_is w p (row_kind g c) (count c) (rows c) ((row_words d c ++ row_words (d + length (data_words c)) xs) ++ from w e) (s.words ∙ ap (λ z. z ++ from w e) (group_words_lem g c xs y d)) in
      let dw = group_data g c xs y in
      let k = data_parts (data_words c) (data_words xs) (data_of w) d (subst (λ (l : List ℕ). drop d (data_of w) ≡ l ++ drop (d + length l) (data_of w)) dw s.contents) in
      let n = ap length dw ∙ length-append (data_words c) (data_words xs) in
      let q = both_right (proper_group g c) (both (proper c) (proper xs)) s.good in
      let u : from w (p + 1) ≡ row_words d c ++ t = r.after ∙ append_assoc (row_words d c) (row_words (d + length (data_words c)) xs) (from w e) in
      let i : 3 * (p + 1 + rows c) + 4 ≡ 3 * (p + 1) + 4 + 3 * rows c = omega arith in
      let v : from w (p + 1 + rows c) ≡ t =
      ap (λ z. drop z w) i ∙ sym (drop-drop (3 * rows c) (3 * (p + 1) + 4) w) ∙ ap (drop (3 * rows c)) u ∙ drop_at (row_words d c) t (3 * rows c) (row_length d c) in
      let m = s.number in
      let x = group_rows g c xs y in
      let f = s.few in
      let j = s.little in
      let o = s.stored in
      let h = s.within in
      record {
        plain = y;
        kind = r.kind;
        first = r.first;
        second = r.second;
        good = both_left (proper_group g c) (both (proper c) (proper xs)) s.good;
        inside = record {
          number = omega arith;
          words = u ∙ ap (λ z. row_words d c ++ z) (sym v);
          contents = k.0;
          good = both_left (proper c) (proper xs) q;
          within = omega arith;
          few = omega arith;
          little = omega arith;
          stored = omega arith;
        };
        after = record {
          number = omega arith;
          words = v;
          contents = k.1;
          good = both_right (proper c) (proper xs) q;
          within = h;
          few = f;
          little = omega arith;
          stored = omega arith;
        };
      }

  pub text_parts : (g : Group) (c xs : Items) → is_text g c ≡ true → Stands w d p e (group g c xs) → TextRow w d p c × Stands w (d + length (text_words c)) (p + 1) e xs
  unfolding proper
  text_parts g c xs y s =
      let r = row_is w p 9 (count c) d (row_words (d + length (text_words c)) xs ++ from w e) (s.words ∙ ap (λ z. z ++ from w e) (text_words_lem g c xs y d)) in
      let dw = text_data g c xs y in
      let k = data_parts (text_words c) (data_words xs) (data_of w) d (subst (λ (l : List ℕ). drop d (data_of w) ≡ l ++ drop (d + length l) (data_of w)) dw s.contents) in
      let n = ap length dw ∙ length-append (text_words c) (data_words xs) in
      let q = both_right (proper_group g c) (both (proper c) (proper xs)) s.good in
      let m = s.number in
      let x = text_rows g c xs y in
      let f = s.few in
      let j = s.little in
      let o = s.stored in
      let h = s.within in (
        record {
          kind = r.kind;
          a = r.first;
          b = r.second;
          chars = (text_kind g c y).1;
          good = both_left (proper c) (proper xs) q;
          contents = k.0;
          within = omega arith;
          stored = omega arith;
          little = omega arith;
        },
        record {
          number = omega arith;
          words = r.after;
          contents = k.1;
          good = both_right (proper c) (proper xs) q;
          within = h;
          few = f;
          little = omega arith;
          stored = omega arith;
        },
      )

  -- ---- putting a run together
  pub join_leaf : (l : Leaf) (xs : Items) → LeafRow w d p l → Stands w (d + length (leaf_words l)) (p + 1) e xs → Stands w d p e (leaf l xs)
  unfolding rows row_words data_words proper
  join_leaf l xs r s =
      let n = length-append (leaf_words l) (data_words xs) in
      let m = s.number in
      let j = s.little in
      let o = s.stored in
      record {
        number = omega arith;
        words = row_words_lem w p r.within ∙ rw (r.kind, r.a, r.b) (ap (λ z. leaf_kind l ∷ leaf_a l ∷ leaf_b d l ∷ z) s.words);
        contents = data_join (leaf_words l) (data_words xs) (data_of w) d r.contents s.contents;
        good = both_true (proper_leaf l) (proper xs) r.good s.good;
        within = s.within;
        few = s.few;
        little = omega arith;
        stored = omega arith;
      }

  pub join_group : (g : Group) (c xs : Items) → GroupParts g c xs → Stands w d p e (group g c xs)
  unfolding proper
  join_group g c xs r =
      let y = r.plain in
      let s = r.inside in
      let t = r.after in
      let dw = group_data g c xs y in
      let n = ap length dw ∙ length-append (data_words c) (data_words xs) in
      let x = group_rows g c xs y in
      let m = s.number in
      let i = t.number in
      let h = s.within in
      let j = t.little in
      let o = t.stored in
      record {
        number = omega arith;
        words = row_words_lem w p (omega arith) ∙ rw (r.kind, r.first, r.second)
            (ap (λ z. row_kind g c ∷ count c ∷ rows c ∷ z) (s.words ∙ ap (λ z. row_words d c ++ z) t.words ∙ sym (append_assoc (row_words d c) (row_words (d + length (data_words c)) xs) (from w e))))
            ∙ sym (ap (λ z. z ++ from w e) (group_words_lem g c xs y d));
        contents = subst (λ (l : List ℕ). drop d (data_of w) ≡ l ++ drop (d + length l) (data_of w)) (sym dw) (data_join (data_words c) (data_words xs) (data_of w) d s.contents t.contents);
        good = both_true (proper_group g c) (both (proper c) (proper xs)) r.good (both_true (proper c) (proper xs) s.good t.good);
        within = t.within;
        few = t.few;
        little = omega arith;
        stored = omega arith;
      }

  pub join_text : (c xs : Items) → TextRow w d p c → Stands w (d + length (text_words c)) (p + 1) e xs → Stands w d p e (group struc c xs)
  unfolding proper proper_group
  join_text c xs r s =
      let y : is_text struc c ≡ true = unfold is_text in r.chars in
      let dw = text_data struc c xs y in
      let n = ap length dw ∙ length-append (text_words c) (data_words xs) in
      let x = text_rows struc c xs y in
      let m = s.number in
      let j = s.little in
      let o = s.stored in
      record {
        number = omega arith;
        words = row_words_lem w p r.within ∙ rw (r.kind, r.a, r.b) (ap (λ z. 9 ∷ count c ∷ d ∷ z) s.words) ∙ sym (ap (λ z. z ++ from w e) (text_words_lem struc c xs y d));
        contents = subst (λ (l : List ℕ). drop d (data_of w) ≡ l ++ drop (d + length l) (data_of w)) (sym dw) (data_join (text_words c) (data_words xs) (data_of w) d r.contents s.contents);
        good = both_true (proper c) (proper xs) r.good s.good;
        within = s.within;
        few = s.few;
        little = omega arith;
        stored = omega arith;
      }

  -- a run, and another behind it, are one run
  pub join_runs : (m : ℕ) (c xs : Items) → Stands w d p m c → Stands w (d + length (data_words c)) m e xs → Stands w d p e (join c xs)
  join_runs m c xs s t =
      let a = s.number in
      let b = t.number in
      let n = Counts.words_join c xs in
      let j = t.little in
      let o = t.stored in
      record {
        number = omega (arith, Counts.rows_join c xs);
        words = s.words ∙ ap (λ z. row_words d c ++ z) t.words ∙ sym (append_assoc (row_words d c) (row_words (d + length (data_words c)) xs) (from w e))
            ∙ ap (λ z. z ++ from w e) (sym (Counts.row_words_join d c xs));
        contents = subst (λ (l : List ℕ). drop d (data_of w) ≡ l ++ drop (d + length l) (data_of w)) (sym (Counts.data_join c xs))
            (data_join (data_words c) (data_words xs) (data_of w) d s.contents t.contents);
        good = join_proper c xs s.good t.good;
        within = t.within;
        few = t.few;
        little = omega arith;
        stored = omega arith;
      }

  -- ---- what stands there is what the rows claim
  pub stands_is : (xs : Items) → Stands w d p e xs → items_at w p e ≡ xs
  unfolding items_at
  stands_is xs s =
      let n : e - p ≡ rows xs = omega (arith, s.number) in
      let t : take (3 * rows xs) (from w p) ≡ row_words d xs = ap (take (3 * rows xs)) s.words ∙ take_at (row_words d xs) (from w e) (3 * rows xs) (row_length d xs) in
      ap (λ z. claimed z (take (3 * z) (from w p)) (data_of w)) n ∙ ap (λ z. claimed (rows xs) z (data_of w)) t
      ∙ rows_back (rows xs) d xs (data_of w) (drop (d + length (data_words xs)) (data_of w)) (omega arith) s.good s.contents

  pub run_of : (xs : Items) → Stands w d p e xs → Run w p e
  run_of xs s = record { before = d; stands = subst (λ (ys : Items). Stands w d p e ys) (sym (stands_is xs s)) s }

  pub leaf_is : (l : Leaf) → LeafRow w d p l → leaf_at w p ≡ l
  unfolding leaf_at
  leaf_is l r = rw (r.kind, r.a, r.b) (leaf_back l d (data_of w) (drop (d + length (leaf_words l)) (data_of w)) r.good r.contents)

pub none_stands : (w : List ℕ) (d p : ℕ) → 3 * p + 4 ≤ length w → p ≤ 16384 → d ≤ 16384 → 4 + 3 * get_or w 0 0 + d ≤ length w → Stands w d p p end
unfolding rows row_words data_words proper
none_stands w d p h f l s =
    let z : d + 0 ≡ d = omega arith in
    record { number = omega arith; words = refl; contents = rw z refl; good = refl; within = h; few = f; little = omega arith; stored = omega arith }

-- a string's characters are what its row claims
pub text_is : (w : List ℕ) (d p : ℕ) (c : Items) → TextRow w d p c → text_at w p ≡ c
unfolding text_at claimed_text from_words text_words letters
text_is w d p c r =
    let k = characters_of c r.chars r.good in
    let n : length (spread 8 (codes c)) ≡ 8 * count c = spread_length 8 (codes c) ∙ ap (λ z. 8 * z) (codes_length c) in
    let b : take (8 * count c) (spread 64 (drop d (data_of w))) ≡ spread 8 (codes c) =
    ap₂ (λ j t. take j (spread 64 t)) (sym n) r.contents ∙ bits_back (spread 8 (codes c)) _ in
    rw (r.a, r.b) (ap text (ap₂ (packed 8) (sym (codes_length c)) b ∙ packed_spread 8 (codes c) k.below) ∙ k.are)
