-- What the survey finds at each of its turns: rows without elements, containers, and what a run is when it ends. Assumes nothing.
use mathlib.Core.Path.{◌≡◌, refl, sym, ◌∙◌, ap, subst}
use mathlib.Core.List.{List}
use mathlib.Core.Bool.{Bool, true, false}
use Rattle.std.specs.Bool.{then_some}
use Prim.Native.Nat.{ℕ, zero, suc, ◌+◌, ◌-◌, ◌*◌, ◌/◌, ◌^◌, ◌<◌, ◌≤◌}
use native.Mathlib.Omega.{arith}
use lib.ListN.{length, get_or}
use lib.Dec.{ltb}
use lib.Bits.{bit_or, bit_xor, xor_self}
use native.Mathlib.Nat.{div-lt_iff_lt-mul}
use Rattle.format.specs.Numbers.{signed}
use Rattle.format.specs.Bits.{words_for}
use Rattle.format.specs.Items.{Leaf, Items}
use Rattle.format.specs.Tables.{count}
use Rattle.format.specs.Normal.{normal_size, normal_int, normal_leaf}
use Rattle.format.proofs.Choices.{split, split_eq, lt_true, lt_false, true_lt, clash}
use Rattle.format.proofs.OrLaws.{or_none, or_zeros, xor_none}
use Rattle.table.specs.Rows.{kind_at, a_at, b_at, next_row, rows_of, words_of, Headed, LeafRow, LeafAt}
use Rattle.table.specs.InOrder.{values, plain_ok, bits_ok, text_ok, kind_fits, kind_ok}
use Rattle.writer.specs.Forms.{bits_length}
use Rattle.std.specs.Prelude.{Option as Maybe, Some, Result as Outcome, Ok}
use Rattle.writer.specs.declared.survey.Unfit.{Unfit}
use Rattle.writer.specs.declared.survey.Unfit.TheVariants.{Wrong, Deep}
use Rattle.writer.specs.declared.survey.Leaves.{Leaves}
use Rattle.writer.specs.declared.survey.Surveyed.{Surveyed}
use Rattle.writer.specs.declared.place.Place.{Place}
use Rattle.writer.specs.Surveys.{Small, SmallRows, RowsPlaced, NoItems, TooDeep, RowsPassed, LeavesSurveyed, Unsurveyed, ContainerSurveyed}
use Rattle.writer.proofs.NumberLaws.{int_length_small}
use Rattle.table.proofs.RowLaws.{plain_a, plain_values, plain_int, data_none, data_bits, data_text, single_text, single_not, next_one, next_more, text_long}
use Rattle.table.proofs.KindLaws.{string_is, edt_is}
use Rattle.table.proofs.Standing.{leaf_is}
use Rattle.table.proofs.LeafRows.{LeafFound, plain_leaf, plain_found, bits_found, leaf_ok, text_found, text_ok_lem}
use Rattle.table.proofs.RowData.{int_at_lem, bits_at}
use Rattle.writer.proofs.LeafForms.{bits_length_is, row_form, plain_form}
use Rattle.table.proofs.Judging.{kind_true, kind_right}
use Rattle.writer.proofs.Passing.{passed_none, passed_join, passed_deeper, passed_leaf, no_leaf, passed_text, no_text, some_depth, Inside, inside, Alone, alone, alone_is, passed_container}

pub four_none : (a b c d : ℕ) → bit_or (bit_or a b) (bit_or c d) ≡ 0 → (a ≡ 0) × (b ≡ 0) × (c ≡ 0) × (d ≡ 0)
four_none a b c d e =
    let x = or_none (bit_or a b) (bit_or c d) e in
    let y = or_none a b x.0 in
    let z = or_none c d x.1 in
    (y.0, y.1, z.0, z.1)

pub row_small : (w : List ℕ) (k m q : ℕ) → 0 < m → bit_or (bit_or (bit_xor (kind_at w q) k) (a_at w q)) (b_at w q / m) ≡ 0 → Small w k m q
row_small w k m q h e =
    let a = or_none (bit_or (bit_xor (kind_at w q) k) (a_at w q)) (b_at w q / m) e in
    let b = or_none (bit_xor (kind_at w q) k) (a_at w q) a.0 in
    let z = a.1 in
    let l : b_at w q < 1 * m = (div-lt_iff_lt-mul h).0 (omega arith) in
    record { kind = xor_none (kind_at w q) k b.0; none = b.1; low = omega arith }

pub small_row : (w : List ℕ) (k m q : ℕ) → 0 < m → Small w k m q → bit_or (bit_or (bit_xor (kind_at w q) k) (a_at w q)) (b_at w q / m) ≡ 0
small_row w k m q h s =
    let l = s.low in
    let z : b_at w q / m < 1 = (div-lt_iff_lt-mul h).1 (omega arith) in
    or_zeros (bit_or (bit_xor (kind_at w q) k) (a_at w q)) (b_at w q / m) (or_zeros (bit_xor (kind_at w q) k) (a_at w q) (ap (λ i. bit_xor i k) s.kind ∙ xor_self k) s.none) (omega arith)

pub ruleset smallness = (row_small, small_row)

-- a CHAR or an INT of one byte
char_ok : (w : List ℕ) (p : ℕ) → Small w 3 128 p → plain_ok (kind_at w p) (a_at w p) (b_at w p) ≡ true
unfolding values
char_ok w p s = plain_values _ _ _ s.none ∙ ap (λ j. ltb (b_at w p) (values j)) s.kind ∙ lt_true (b_at w p) 128 s.low

char_not : (w : List ℕ) (p : ℕ) → kind_at w p ≡ 3 → (Small w 3 128 p → ⊥) → plain_ok (kind_at w p) (a_at w p) (b_at w p) ≡ false
unfolding values
char_not w p k n =
    split_eq (a_at w p) 0
    (λ z. split (b_at w p) 128 (λ l. absurd (n (record { kind = k; none = z; low = l })))
    (λ g. plain_values _ _ _ z ∙ ap (λ j. ltb (b_at w p) (values j)) k ∙ lt_false (b_at w p) 128 g))
    (λ z. plain_a _ _ _ z)

-- ---- how far rows are alike
module _ (w : List ℕ) (k m p e : ℕ) where
  pub small_starts : p ≤ e → SmallRows w k m p e p
  small_starts h = record { start = omega arith; within = h; each = λ i x y. absurd (omega arith) }

  pub small_on : (q : ℕ) → SmallRows w k m p e q → q < e → Small w k m q → SmallRows w k m p e (q + 1)
  small_on q s h o =
      let a = s.start in
      record {
        start = omega arith;
        within = omega arith;
        each = λ i f g. split i q (λ l. s.each i f l) (λ r. let j : q ≡ i = omega arith in subst (λ (t : ℕ). Small w k m t) j o);
      }

  pub small_fours : (q : ℕ) → SmallRows w k m p e q → q + 4 ≤ e → Small w k m q → Small w k m (q + 1) → Small w k m (q + 2) → Small w k m (q + 3) → SmallRows w k m p e (q + 4)
  small_fours q s h a b c d =
      let two : q + 1 + 1 ≡ q + 2 = omega arith in
      let three : q + 2 + 1 ≡ q + 3 = omega arith in
      let four : q + 3 + 1 ≡ q + 4 = omega arith in
      let rows : ℕ → Type 0 = SmallRows w k m p e in
      subst rows four (small_on (q + 3) (subst rows three (small_on (q + 2) (subst rows two (small_on (q + 1) (small_on q s (omega arith) a) (omega arith) b)) (omega arith) c)) (omega arith) d)

  -- where the first row is not alike, and where it is
  pub small_stops : (q : ℕ) → (q < e → Small w k m q → ⊥) → p < e → q ≡ p → Small w k m p → ⊥
  small_stops q f l z s = f (omega arith) (subst (λ (t : ℕ). Small w k m t) (sym z) s)

  small_some : (q : ℕ) → SmallRows w k m p e q → (q < e → Small w k m q → ⊥) → p < e → Small w k m p → p < q
  small_some q s f l o = let a = s.start in split p q (λ h. h) (λ g. absurd (small_stops q f l (omega arith) o))

pub ruleset alike = (small_starts, small_on, small_fours, four_none)

-- ---- where the survey stands
-- at the row p, before e, of a table with a header in order, where u data words come before
pub record Survey (w : List ℕ) (u p e : ℕ) : Type 0 where
  pub header : Headed w
  pub bound : (i : ℕ) → get_or w i 0 < 2 ^ 64
  pub some : p < e
  pub within : e ≤ rows_of w
  pub fits : u ≤ words_of w

-- as the code is told it
pub survey_at : (at : Place) → Survey at.table.words.now at.base at.p at.to
survey_at at = record { header = at.table.in_order; bound = at.table.in_range; some = at.some; within = at.within; fits = at.fits }

-- the code's answers
abbrev pub leaves : ℕ → ℕ → ℕ → Maybe Leaves
leaves n q v = Some (record { bytes = n; next = q; base = v })

abbrev pub whole : ℕ → ℕ → ℕ → Outcome Surveyed Unfit
whole n c v = Ok (record { bytes = n; items = c; base = v })

-- ---- rows without elements
module _ {w : List ℕ} {u p e : ℕ} (s : Survey w u p e) where
  row_in : 3 * p + 7 ≤ length w
  row_in = let h = s.header.within in omega arith

  plain_at : kind_at w p < 7 → (kind_at w p ≡ 2 → ⊥) → plain_ok (kind_at w p) (a_at w p) (b_at w p) ≡ true → LeafFound w u p
  plain_at y k t =
      plain_found w u s.header.within s.header.little s.fits p row_in k y (plain_leaf (kind_at w p) (a_at w p) (b_at w p) (s.bound (3 * p + 6)) t)

  plain_row : kind_at w p < 7 → (kind_at w p ≡ 1 → ⊥) → (kind_at w p ≡ 2 → ⊥) → plain_ok (kind_at w p) (a_at w p) (b_at w p) ≡ true → RowsPassed w (words_of w) 0 u p u (p + 1) 1 1
  plain_row y j k t =
      let f = plain_at y k t in
      let z = data_none w p k (λ n. omega arith) in
      passed_leaf w (words_of w) u p f.item u 1 f.row (omega (arith, f.takes)) s.fits (sym (ap length (plain_form w u p f.item f.row j k)))

  int_row : (n : ℕ) → kind_at w p ≡ 1 → a_at w p ≡ 0 → n ≡ length (normal_int (signed 8 (b_at w p))) → RowsPassed w (words_of w) 0 u p u (p + 1) 1 n
  unfolding normal_leaf
  int_row n k a e =
      let f = plain_at (omega arith) (λ z. omega arith) (plain_int _ _ _ a k (s.bound (3 * p + 6))) in
      let z = data_none w p (λ z. omega arith) (λ z. omega arith) in
      passed_leaf w (words_of w) u p f.item u n f.row (omega (arith, f.takes)) s.fits
      (e ∙ sym (ap (λ i. length (normal_leaf i)) (sym (leaf_is w u p p f.item f.row) ∙ int_at_lem w p k)))

  -- the answer for one row
  one_row : (v n : ℕ) → RowsPassed w (words_of w) 0 u p v (p + 1) 1 n → LeavesSurveyed w u p e (leaves n (p + 1) v)
  one_row v n f = let e : p + 1 - p ≡ 1 = omega arith in (omega arith, omega arith, rw e f)

  pub plain_passed : kind_at w p < 7 → (kind_at w p ≡ 1 → ⊥) → (kind_at w p ≡ 2 → ⊥) → plain_ok (kind_at w p) (a_at w p) (b_at w p) ≡ true → LeavesSurveyed w u p e (leaves 1 (p + 1) u)
  plain_passed y j k t = one_row u 1 (plain_row y j k t)

  pub int_passed : (n : ℕ) → kind_at w p ≡ 1 → a_at w p ≡ 0 → n ≡ length (normal_int (signed 8 (b_at w p))) → LeavesSurveyed w u p e (leaves n (p + 1) u)
  int_passed n k a q = one_row u n (int_row n k a q)

  pub bits_passed : (r n : ℕ) → kind_at w p ≡ 2 → (bits_ok w u (a_at w p) (b_at w p) ≡ true) × (u + r ≤ words_of w) × (r ≡ words_for (a_at w p)) → n ≡ bits_length (a_at w p) →
      LeavesSurveyed w u p e (leaves n (p + 1) (u + r))
  bits_passed r n k j q =
      let f = bits_found w u s.header.within s.header.little s.fits p row_in k j.0 s.bound in
      let i = leaf_is w u p p f.item f.row in
      let at : LeafAt w p = record { before = u; row = subst (λ (x : Leaf). LeafRow w u p x) (sym i) f.row } in
      one_row (u + r) n
      (passed_leaf w (words_of w) u p f.item (u + r) n f.row (omega (arith, f.takes, data_bits w p k, j.2)) j.1
      (let row = bits_at w p at k in
      q ∙ bits_length_is w (b_at w p) (a_at w p) row.kept ∙ sym (ap length (row_form w p row)) ∙ ap (λ x. length (normal_leaf x)) i))

  pub no_plain : kind_at w p < 7 → (kind_at w p ≡ 2 → ⊥) → plain_ok (kind_at w p) (a_at w p) (b_at w p) ≡ false → NoItems w (words_of w) u p e
  no_plain y k t = no_leaf w (words_of w) u p e s.some y (λ x r f. clash _ ((leaf_ok w u s.header.within s.header.little s.fits p x r f).plain k) t)

  pub no_bits : kind_at w p ≡ 2 → bits_ok w u (a_at w p) (b_at w p) ≡ false → NoItems w (words_of w) u p e
  no_bits k t = no_leaf w (words_of w) u p e s.some (omega arith) (λ x r f. clash _ ((leaf_ok w u s.header.within s.header.little s.fits p x r f).bits k) t)

  pub no_int : kind_at w p ≡ 1 → (a_at w p ≡ 0 → ⊥) → NoItems w (words_of w) u p e
  no_int k a = no_plain (omega arith) (λ z. omega arith) (plain_a _ _ _ a)

  pub no_char : kind_at w p ≡ 3 → (Small w 3 128 p → ⊥) → NoItems w (words_of w) u p e
  no_char k n = no_plain (omega arith) (λ z. omega arith) (char_not w p k n)

-- ---- a stretch of rows alike
same : (w : List ℕ) (D u p q r c k : ℕ) → q ≡ r → c ≡ k → RowsPassed w D 0 u p u q c c → RowsPassed w D 0 u p u r k k
same w D u p q r c k e z f = subst (λ (i : ℕ). RowsPassed w D 0 u p u i k k) e (subst (λ (j : ℕ). RowsPassed w D 0 u p u q j j) z f)

many : (w : List ℕ) (D u p : ℕ) → u ≤ D → (k : ℕ) → ((i : ℕ) → p ≤ i → i < p + k → RowsPassed w D 0 u i u (i + 1) 1 1) → RowsPassed w D 0 u p u (p + k) k k
many w D u p h zero f = same w D u p p (p + 0) 0 0 (omega arith) refl (passed_none w D 0 u p h)
many w D u p h (suc k) f =
    same w D u p (p + k + 1) (p + suc k) (k + 1) (suc k) (omega arith) (omega arith)
    (passed_join w D 0 u p u (p + k) u (p + k + 1) k 1 k 1 (many w D u p h k (λ i l m. f i l (omega arith))) (f (p + k) (omega arith) (omega arith)))

module _ {w : List ℕ} {u p e : ℕ} (s : Survey w u p e) (q : ℕ) where
  -- the survey at another of these rows
  further : (i : ℕ) → i < e → Survey w u i e
  further i h = record { header = s.header; bound = s.bound; some = h; within = s.within; fits = s.fits }

  stretch : p < q → q ≤ e → ((i : ℕ) → p ≤ i → i < q → RowsPassed w (words_of w) 0 u i u (i + 1) 1 1) → LeavesSurveyed w u p e (leaves (q - p) q u)
  stretch l m f =
      (l, m, same w (words_of w) u p (p + (q - p)) q (q - p) (q - p) (omega arith) refl (many w (words_of w) u p s.fits (q - p) (λ i x y. f i x (omega arith))))

  pub chars_passed : SmallRows w 3 128 p e q → (q ≡ p → ⊥) → LeavesSurveyed w u p e (leaves (q - p) q u)
  chars_passed r n =
      let a = r.start in
      let b = r.within in
      stretch (omega arith) b
      (λ i x y.
      let o = r.each i x y in
      let k = o.kind in
      plain_row (further i (omega arith)) (omega arith) (λ z. omega arith) (λ z. omega arith) (char_ok w i o))

  pub ints_passed : SmallRows w 1 64 p e q → (q < e → Small w 1 64 q → ⊥) → Small w 1 64 p → LeavesSurveyed w u p e (leaves (q - p) q u)
  ints_passed r n f =
      let b = r.within in
      stretch (small_some w 1 64 p e q r n s.some f) b
      (λ i x y.
      let o = r.each i x y in
      int_row (further i (omega arith)) 1 o.kind o.none (sym (int_length_small (b_at w i) o.low)))

  -- as the code tells them: the items of a byte that it finds, if there are some
  false_le : (a b : ℕ) → ltb a b ≡ false → b ≤ a
  false_le a b e = split a b (λ l. clash (ltb a b) (lt_true a b l) e) (λ g. g)

  pub chars_told : SmallRows w 3 128 p e q → (q < e → Small w 3 128 q → ⊥) → kind_at w p ≡ 3 → LeavesSurveyed w u p e (then_some (ltb p q) (record { bytes = q - p; next = q; base = u }))
  chars_told r f k = go (ltb p q) refl
    where
      go : (b : Bool) → ltb p q ≡ b → LeavesSurveyed w u p e (then_some b (record { bytes = q - p; next = q; base = u }))
      go true t = chars_passed r (λ z. omega (arith, true_lt p q t))
      go false t = no_char s k (small_stops w 3 128 p e q f s.some (let a = r.start in omega (arith, false_le p q t)))

-- a row of one number
module _ {w : List ℕ} {u p e : ℕ} (s : Survey w u p e) where
  pub plain_told : (b : Bool) → kind_at w p < 7 → (kind_at w p ≡ 1 → ⊥) → (kind_at w p ≡ 2 → ⊥) → b ≡ plain_ok (kind_at w p) (a_at w p) (b_at w p) → LeavesSurveyed w u p e (then_some b (record { bytes = 1; next = p + 1; base = u }))
  plain_told true k n1 n2 t = plain_passed s k n1 n2 (sym t)
  plain_told false k n1 n2 t = no_plain s k n2 (sym t)

-- ---- a string
module _ {w : List ℕ} {u p e : ℕ} (s : Survey w u p e) (k : kind_at w p ≡ 9) where
  pub text_deepest : (d : ℕ) → d ≡ 0 → TooDeep w (words_of w) d u p e
  text_deepest d z xs x = omega (arith, some_depth w (words_of w) u p e s.some (omega arith) xs x)

  pub text_wrong : text_ok w u (a_at w p) (b_at w p) ≡ false → NoItems w (words_of w) u p e
  text_wrong t = no_text w (words_of w) u p e s.some k (λ c r f. clash _ (text_ok_lem w u s.header.within s.header.little s.fits p c r f).0 t)

  pub text_whole : (d r z : ℕ) → (d ≡ 0 → ⊥) → (text_ok w u (a_at w p) (b_at w p) ≡ true) × (u + r ≤ words_of w) × (r ≡ words_for (8 * a_at w p)) → z ≡ length (normal_size (a_at w p)) →
      ContainerSurveyed w d u p e (whole (1 + z + a_at w p) 1 (u + r))
  text_whole d r z g j n =
      let f = text_found w u s.header.within s.header.little s.fits p (row_in s) k j.0 s.bound in
      let i = next_one w p (single_text (kind_at w p) k) in
      let y : suc (d - 1) ≡ d = omega arith in (
        omega arith,
        omega arith,
        rw i
            (subst (λ (q : ℕ). RowsPassed w (words_of w) q u p (u + r) (p + 1) 1 (1 + z + a_at w p)) y
            (passed_text w (words_of w) u p (d - 1) f.item (u + r) z (a_at w p) f.row (omega (arith, f.takes, data_text w p k, j.2)) j.1 f.row.a n)),
      )

  -- the bounds of its bytes
  pub text_small : text_ok w u (a_at w p) (b_at w p) ≡ true → a_at w p ≤ 131072
  text_small t = split 131072 (a_at w p) (λ q. clash _ t (text_long w u (a_at w p) (b_at w p) s.header.little q)) (λ q. q)

-- its kind and its elements, as the code asks for them
pub kind_told : (w : List ℕ) (p e k : ℕ) (v : List ℕ) (i j : ℕ) (r : Bool) → k ≡ kind_at w p → v ≡ w → i ≡ p + 1 → j ≡ e → r ≡ kind_fits k v i j → kind_ok w p e ≡ r
unfolding kind_ok
kind_told w p e k v i j r ek ev ei ej er = sym (er ∙ rw (ek, ev, ei, ej) refl)

-- ---- a container that is no string
-- its row p, before e
pub record SurveyedGroup (w : List ℕ) (u p e : ℕ) : Type 0 where
  pub header : Headed w
  pub some : p < e
  pub kind : 7 ≤ kind_at w p
  pub plain : kind_at w p ≡ 9 → ⊥

-- as the code is told it
pub group_at : (at : Place) → (7 ≤ kind_at at.table.words.now at.p) × (kind_at at.table.words.now at.p ≡ 9 → ⊥) → SurveyedGroup at.table.words.now at.base at.p at.to
group_at at k = record { header = at.table.in_order; some = at.some; kind = k.0; plain = k.1 }

module _ {w : List ℕ} {u p e : ℕ} (s : SurveyedGroup w u p e) where
  opened : (xs : Items) → RowsPlaced w (words_of w) u p e xs → Inside w (words_of w) u p e xs
  opened = inside w (words_of w) u p e s.some s.kind s.plain

  pub container_deepest : (d : ℕ) → d ≡ 0 → TooDeep w (words_of w) d u p e
  container_deepest d z xs x = omega (arith, some_depth w (words_of w) u p e s.some s.kind xs x)

  pub container_beyond : e - (p + 1) < b_at w p → NoItems w (words_of w) u p e
  container_beyond l xs x = omega (arith, (opened xs x).within)

  pub container_wrong : NoItems w (words_of w) u (p + 1) (p + 1 + b_at w p) → NoItems w (words_of w) u p e
  container_wrong n xs x = let i = opened xs x in n i.items i.placed

  pub container_deep : (d : ℕ) → (d ≡ 0 → ⊥) → TooDeep w (words_of w) (d - 1) u (p + 1) (p + 1 + b_at w p) → TooDeep w (words_of w) d u p e
  container_deep d z n xs x = let i = opened xs x in omega (arith, n i.items i.placed, i.deep)

  pub container_unfit : (d : ℕ) (x : Unfit) → (d ≡ 0 → ⊥) → Unsurveyed w (d - 1) u (p + 1) (p + 1 + b_at w p) x → Unsurveyed w d u p e x
  container_unfit d Wrong z n = container_wrong n
  container_unfit d Deep z n = container_deep d z n

  pub container_kind_lem : kind_ok w p (p + 1 + b_at w p) ≡ false → NoItems w (words_of w) u p e
  container_kind_lem f xs x =
      let i = opened xs x in
      let t = i.placed.stands in
      clash _ (kind_right w p (p + 1 + b_at w p) i.kind i.items i.row (string_is w u (p + 1) (p + 1 + b_at w p) i.items t) (edt_is w u (p + 1) (p + 1 + b_at w p) i.items t)) f

  module _ (d : ℕ) {v c n : ℕ} (l : p + 1 + b_at w p ≤ rows_of w) (f : RowsPassed w (words_of w) (d - 1) u (p + 1) v (p + 1 + b_at w p) c n) where
    abbrev found : Alone w (rows_of w) (words_of w) s.header (d - 1) u (p + 1) v (p + 1 + b_at w p) c n
    found = alone w (rows_of w) (words_of w) s.header (d - 1) u (p + 1) v (p + 1 + b_at w p) c n l f

    pub container_count : (c ≡ a_at w p → ⊥) → NoItems w (words_of w) u p e
    unfolding count
    container_count g xs x =
        let i = opened xs x in
        let q : count i.items ≡ count found.items = ap count (alone_is w (rows_of w) (words_of w) s.header (d - 1) u (p + 1) v (p + 1 + b_at w p) c n found i.items i.placed) in
        g (omega (arith, found.number, i.number))

    pub container_whole : (d ≡ 0 → ⊥) → c ≡ a_at w p → kind_ok w p (p + 1 + b_at w p) ≡ true → (z : ℕ) → z ≡ length (normal_size n) → p + 1 + b_at w p ≤ e →
        ContainerSurveyed w d u p e (whole (1 + z + n) 1 v)
    container_whole g q t z y b =
        let r : d ≡ suc (d - 1) = omega arith in
        let i = next_more w p (single_not (kind_at w p) s.kind s.plain) in (
          omega arith,
          omega arith,
          rw i
              (subst (λ (j : ℕ). RowsPassed w (words_of w) j u p v (p + 1 + b_at w p) 1 (1 + z + n)) (sym r)
              (rw y (passed_container w (rows_of w) (words_of w) s.header (d - 1) u p v c n l s.kind s.plain (sym q) (kind_true w p (p + 1 + b_at w p) t) f))),
        )

-- ---- a run so far, from b up to p, and its next turn
module _ {w : List ℕ} {D d a b e u p c n : ℕ} (f : RowsPassed w D d a b u p c n) where
  pub run_wrong : p ≤ e → NoItems w D u p e → NoItems w D a b e
  run_wrong l g xs x = let s = f.back e xs l x in g s.items s.placed

  pub run_deep : p ≤ e → TooDeep w D d u p e → TooDeep w D d a b e
  run_deep l g xs x = let s = f.back e xs l x in omega (arith, g s.items s.placed, s.shallow)

module _ {w : List ℕ} {D d a b u p v q c n k m : ℕ} (f : RowsPassed w D d a b u p c n) where
  pub container_on : RowsPassed w D d u p v q k m → RowsPassed w D d a b v q (c + k) (n + m)
  container_on g = passed_join w D d a b u p v q c k n m f g

  pub leaves_on : RowsPassed w D 0 u p v q k m → RowsPassed w D d a b v q (c + k) (n + m)
  leaves_on g = container_on (passed_deeper w D d u p v q k m g)

-- why its next turn is none, and so why the run has no normal form
pub run_unfit : {w : List ℕ} {d a b e u p c n : ℕ} (f : RowsPassed w (words_of w) d a b u p c n) (x : Unfit) → p ≤ e → Unsurveyed w d u p e x → Unsurveyed w d a b e x
run_unfit f Wrong l g = run_wrong f l g
run_unfit f Deep l g = run_deep f l g

-- behind a string, and behind another container
pub string_behind : (w : List ℕ) (d u p e k : ℕ) (s : Surveyed) → k ≡ kind_at w p → k ≡ 9 → ContainerSurveyed w d u p e (Ok s) → (p + 1 ≤ e) × RowsPassed w (words_of w) d u p s.base (p + 1) s.items s.bytes
string_behind w d u p e k s ek n j =
    let i = next_one w p (single_text (kind_at w p) (sym ek ∙ n)) in (omega (arith, j.1), rw i at j.2)

pub group_behind : (w : List ℕ) (d u p e k b : ℕ) (s : Surveyed) → k ≡ kind_at w p → b ≡ b_at w p → 7 ≤ k → (k ≡ 9 → ⊥) → ContainerSurveyed w d u p e (Ok s)
    → (p + (1 + b) ≤ e) × RowsPassed w (words_of w) d u p s.base (p + (1 + b)) s.items s.bytes
group_behind w d u p e k b s ek eb g n j =
    let i : next_row w p ≡ p + (1 + b) = next_more w p (single_not (kind_at w p) (omega arith) (λ z. n (ek ∙ z))) ∙ omega arith in
    (omega (arith, j.1), rw i at j.2)
