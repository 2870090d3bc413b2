-- A container closes over its elements' rows and data words as its items say. Assumes nothing.
use Rattle.std.proofs.Common.{◌≡◌, ℕ, suc, ◌+◌, ◌-◌, ◌*◌, ◌<◌, ◌≤◌, Bool, true, false, Ok, List, [], ◌∷◌, ◌++◌, length, take, drop, sym, refl, ap, ◌∙◌, ap₂, append-nil, mul-le-mul_left, one-mul, add-one, arith, length-drop, length-take, length-take-le, take-take, drop-drop}
use Rattle.format.specs.Choice.{pick, both}
use Rattle.format.specs.Items.{Group, struc, edt, Items, end, group, times, is_string, uniform, edt_rule}
use Rattle.format.specs.Tables.{count, is_text, rows, text_words, data_words, container_kind, row_kind, group_b, row_words}
use Rattle.format.specs.Objects as O
use Rattle.format.specs.Messages.{Outcome, refused, says, got, closing, around, object, reads}
use Rattle.format.specs.Answers.{over}
use Rattle.format.specs.Lent.{over_at}
use Rattle.format.proofs.Choices.{clash, by_pick, pick_no}
use Rattle.format.proofs.Parts.{rest_part}
use Rattle.format.specs.Runs.{object_at}
use Rattle.format.proofs.Counts.{words, times_zero, rows_times, count_times, words_times, count_rows}
use Rattle.format.proofs.TableLaws.{row_length}
use Rattle.wire.specs.declared.head.Wrap.{Wrap}
use Rattle.wire.specs.declared.head.Wrap.TheVariants.{Struc, Ustruc, Edt, Repeat}
use Rattle.wire.specs.declared.head.Head.TheVariants.{Text, Open}
use Rattle.wire.specs.declared.size.Extent.{Extent}
use Rattle.wire.specs.Heads.{HeadIs, wrap_of}
use Rattle.fill.specs.declared.place.Filled.{Filled}
use Rattle.fill.specs.Copies.{copies, again}
use Rattle.fill.specs.Containers.{copies_of, own_words, is_struc, text_in, closed_items, kind_of, closed_group, closed_sums, closed_table, Repeatable, Closable}
use Rattle.fill.specs.Texts.{contents_say}
use Rattle.fill.specs.Walks.{Fits, RunFits, Laid, RunFilled}
use Rattle.format.proofs.Over.{over_front, over_over, over_length, at_front, lent, part_length, back_length}
use Rattle.fill.proofs.LaidLaws.{laid_long}
use Rattle.fill.proofs.AgainLaws.{at_least}
use Rattle.fill.proofs.Regions.{front_over, back_over, back_in, back_out, front_lent, from_at, at_over, fronted, front_at, back_at}
use Rattle.fill.proofs.CopyLaws.{copies_length}
use Rattle.fill.proofs.AgainLaws.{again_length}
use Rattle.fill.proofs.RowLaws.{rows_again, words_again}

-- ---- by the code's match
pub is_group : (w : Wrap) → ((n : ℕ) → w ≡ Repeat n → ⊥) → (copies_of w ≡ 1) × (own_words w ≡ 3)
unfolding copies_of own_words
is_group Struc k = (refl, refl)
is_group Ustruc k = (refl, refl)
is_group Edt k = (refl, refl)
is_group (Repeat n) k = absurd (k n refl)

pub other_kind : (w : Wrap) → (w ≡ Edt → ⊥) → kind_of w ≡ 7
unfolding kind_of
other_kind Struc k = refl
other_kind Ustruc k = refl
other_kind Edt k = absurd (k refl)
other_kind (Repeat n) k = refl

-- ---- an accepted container has accepted contents, and comes to what it closes to
Inner : Wrap → ℕ → ℕ → Outcome → Items → ℕ → Type 0
Inner w a n o ys u = (xs : Items) × (o ≡ says xs) × (ys ≡ closed_items w xs) × (u ≡ a + n)

around_said : (w : Wrap) (a n : ℕ) (o : Outcome) (ys : Items) (u : ℕ) → around (wrap_of w) a n o ≡ got ys u → Inner w a n o ys u
unfolding around closing wrap_of closed_items Inner
around_said w a n (refused f) ys u e = let z : ◌≡◌ {A = ℕ} 0 1 = cc in absurd (omega arith)
around_said Struc a n (says xs) ys u e = (xs, refl, cc, cc)
around_said Ustruc a n (says xs) ys u e =
    by_pick (λ x. x ≡ got ys u → Inner Ustruc a n (says xs) ys u) (uniform xs)
    (λ t f. (xs, refl, cc, cc)) (λ t f. let z : ◌≡◌ {A = ℕ} 0 1 = cc in absurd (omega arith)) e
around_said Edt a n (says xs) ys u e =
    by_pick (λ x. x ≡ got ys u → Inner Edt a n (says xs) ys u) (edt_rule xs)
    (λ t f. (xs, refl, cc, cc)) (λ t f. let z : ◌≡◌ {A = ℕ} 0 1 = cc in absurd (omega arith)) e
around_said (Repeat k) a n (says xs) ys u e = (xs, refl, cc, cc)

-- the contents as the code lends them on; those of a STRING are `raw`
pub record Opened (raw : Bool) (d : ℕ) (s : List ℕ) (w : Wrap) (a n : ℕ) (ys : Items) (u : ℕ) : Type 0 where
  pub xs : Items
  pub said : contents_say raw (d + 1) (O.contents s a n) ≡ says xs
  pub closes : ys ≡ closed_items w xs
  pub past : u ≡ a + n
  pub within : a + n ≤ length s
  pub struc : raw ≡ true → is_struc w ≡ true

module _ (d b : ℕ) (s : List ℕ) where
  pub opened : (w : Wrap) (e : Extent) (ys : Items) (u : ℕ) → HeadIs s (Ok (Open w e)) (O.head_of d b s) → object_at d b s ≡ got ys u → Opened false d s w e.start e.size ys u
  unfolding object_at object Inner contents_say pick
  opened w e ys u h g =
      let q = around_said w e.start e.size (reads (suc d) (O.contents s e.start e.size)) ys u (sym (ap (object (λ i m. reads (suc d) (O.contents s i m))) h.0) ∙ g) in
      record { xs = q.0; said = rw add-one q.1; closes = q.2; past = q.3; within = h.1; struc = λ y. clash false y refl }

  pub opened_text : (e : Extent) (ys : Items) (u : ℕ) → HeadIs s (Ok (Text e)) (O.head_of d b s) → object_at d b s ≡ got ys u → Opened true d s Struc e.start e.size ys u
  unfolding object_at object closed_items contents_say pick is_struc
  opened_text e ys u h g =
      let c : List ℕ = O.contents s e.start e.size in
      let p : ys ≡ group struc (O.characters c) end = cc in
      let z : u ≡ e.start + e.size = cc in
      record { xs = O.characters c; said = refl; closes = p; past = z; within = h.1; struc = λ y. refl }

pub opened_shorter : {raw : Bool} {d : ℕ} {s : List ℕ} {w : Wrap} {a n : ℕ} {ys : Items} {u : ℕ} (o : Opened raw d s w a n ys u) → length (O.contents s a n) ≤ length s
unfolding O.contents
opened_shorter o = simp (length-take, length-drop) (omega arith)

pub opened_run : {d : ℕ} {s : List ℕ} {w : Wrap} {a n : ℕ} {ys : Items} {u : ℕ} (o : Opened false d s w a n ys u) → reads (d + 1) (O.contents s a n) ≡ says o.xs
unfolding contents_say pick
opened_run o = o.said

-- ---- how much it comes to, where it is no string
closed_rows : (w : Wrap) (xs : Items) → text_in w xs ≡ false → 3 * rows (closed_items w xs) ≡ own_words w + 3 * (copies_of w * rows xs)
unfolding closed_items own_words copies_of rows text_in is_struc both is_text
closed_rows Struc xs t = let p = pick_no (is_string xs) 0 (rows xs) t in omega (arith, one-mul (rows xs))
closed_rows Ustruc xs t = let p = pick_no (is_string xs) 0 (rows xs) t in omega (arith, one-mul (rows xs))
closed_rows Edt xs t = let p : pick false 0 (rows xs) ≡ rows xs = pick_no false 0 (rows xs) refl in omega (arith, one-mul (rows xs))
closed_rows (Repeat k) xs t = omega (arith, rows_times k xs)

closed_data : (w : Wrap) (xs : Items) → text_in w xs ≡ false → data_words (closed_items w xs) ≡ again (copies_of w) (data_words xs)
unfolding closed_items copies_of data_words again text_in is_struc both is_text
closed_data Struc xs t = ap (λ l. l ++ []) (pick_no (is_string xs) (text_words xs) (data_words xs) t)
closed_data Ustruc xs t = ap (λ l. l ++ []) (pick_no (is_string xs) (text_words xs) (data_words xs) t)
closed_data Edt xs t = ap (λ l. l ++ []) (pick_no false (text_words xs) (data_words xs) refl)
closed_data (Repeat k) xs t = words_again k xs

closed_words : (w : Wrap) (xs : Items) → text_in w xs ≡ false → words (closed_items w xs) ≡ copies_of w * words xs
closed_words w xs t = ap length (closed_data w xs t) ∙ again_length (data_words xs) (words xs) refl (copies_of w)

pub closed_none : (w : Wrap) (xs : Items) → copies_of w ≡ 0 → closed_items w xs ≡ end
unfolding closed_items copies_of
closed_none Struc xs e = absurd (omega arith)
closed_none Ustruc xs e = absurd (omega arith)
closed_none Edt xs e = absurd (omega arith)
closed_none (Repeat k) xs e = ap (λ n. times n xs) e ∙ times_zero xs

fits_inside : (w : Wrap) (xs : Items) (base gap len : ℕ) → 0 < copies_of w → text_in w xs ≡ false → Fits (closed_items w xs) base gap len
    → (own_words w ≤ gap) × (gap + base ≤ len) × Fits xs base (gap - own_words w) (len - own_words w)
fits_inside w xs base gap len p t f =
    let a = closed_rows w xs t in
    let b = closed_words w xs t in
    let c = at_least (copies_of w) (rows xs) p in
    let d = at_least (copies_of w) (words xs) p in
    (omega arith, omega arith, (omega arith, omega arith, omega arith, omega arith))

closable : (w : Wrap) (xs : Items) (f : Filled) (base gap len : ℕ) → 0 < copies_of w → text_in w xs ≡ false → Fits (closed_items w xs) base gap len
    → f.rows ≡ rows xs → f.count ≡ count xs → f.words ≡ words xs → Closable w f (gap + base) len
unfolding Closable copies_of own_words
closable Struc xs f base gap len p t g er ec ew = let a = closed_rows Struc xs t in let o = one-mul (rows xs) in (omega arith, omega arith)
closable Ustruc xs f base gap len p t g er ec ew = let a = closed_rows Ustruc xs t in let o = one-mul (rows xs) in (omega arith, omega arith)
closable Edt xs f base gap len p t g er ec ew = let a = closed_rows Edt xs t in let o = one-mul (rows xs) in (omega arith, omega arith)
closable (Repeat k) xs f base gap len p t g er ec ew =
    let a = closed_rows (Repeat k) xs t in
    let b = closed_words (Repeat k) xs t in
    let c : k * count xs ≤ k * rows xs = mul-le-mul_left k (count_rows xs) in
    rw (er, ec, ew) (p, omega arith, omega arith, omega arith, omega arith)

-- ---- closed
module _ (xs : Items) (f : Filled) (base gap : ℕ) (t ys : List ℕ) (er : f.rows ≡ rows xs) (ec : f.count ≡ count xs) (ew : f.words ≡ words xs) where
  -- the table as it comes back, own words of it left free before the elements
  abbrev filled : ℕ → List ℕ
  filled own = take own t ++ (ys ++ drop (length t - own) (drop own t))

  abbrev Inner-laid : ℕ → Type 0
  Inner-laid own = Laid xs base (gap - own) (take (length t - own) (drop own t)) ys f.rows f.count f.words

  -- what the elements are in either part of the table
  module _ (own : ℕ) (h : own ≤ gap) (g : gap ≤ length t) (l : Inner-laid own) where
    inner_front : take gap (filled own) ≡ over_at own (row_words base xs) (take gap t)
    inner_front = front_lent gap own t h g ys (row_words base xs) l.front_is

    inner_back : drop gap (filled own) ≡ over_at base (data_words xs) (drop gap t)
    inner_back = back_out gap own t h g ys ∙ l.back_is ∙ ap (over_at base (data_words xs)) (back_in gap own t h g)

  group_laid : (g : Group) → is_text g xs ≡ false → 3 ≤ gap → gap ≤ length t → Inner-laid 3
      → Laid (group g xs end) base gap t (over (row_kind g xs ∷ f.count ∷ f.rows ∷ []) (filled 3)) (f.rows + 1) 1 f.words
  unfolding rows count data_words row_words group_b
  group_laid g q h k l =
      let F : List ℕ = take gap t in
      let lf : length F ≡ gap = length-take-le gap t k in
      let row : List ℕ = row_kind g xs ∷ f.count ∷ f.rows ∷ [] in
      let m : List ℕ = row_words base xs in
      let pr : pick (is_text g xs) 0 (rows xs) ≡ rows xs = pick_no (is_text g xs) 0 (rows xs) q in
      let pd : pick (is_text g xs) (text_words xs) (data_words xs) ≡ data_words xs = pick_no (is_text g xs) (text_words xs) (data_words xs) q in
      let pb : pick (is_text g xs) base (rows xs) ≡ rows xs = pick_no (is_text g xs) base (rows xs) q in
      let pm : pick (is_text g xs) [] m ≡ m = pick_no (is_text g xs) [] m q in
      let wd : data_words xs ≡ pick (is_text g xs) (text_words xs) (data_words xs) ++ [] = sym (append-nil _ ∙ pd) in
      let rd : row ++ m ≡ row_kind g xs ∷ count xs ∷ pick (is_text g xs) base (rows xs) ∷ (pick (is_text g xs) [] m ++ []) =
      ap₂ (λ a b. row_kind g xs ∷ a ∷ b ∷ m) ec (er ∙ sym pb) ∙ ap (λ z. row_kind g xs ∷ count xs ∷ pick (is_text g xs) base (rows xs) ∷ z) (sym (append-nil _ ∙ pm)) in
      record {
        rows_are = omega arith;
        count_is = refl;
        words_are = ew ∙ ap length wd;
        front_is = front_over gap row (filled 3) h ∙ ap (over row) (inner_front 3 h k l)
            ∙ fronted 3 m F (omega arith) row refl ∙ ap (λ z. over z F) rd;
        back_is = back_over gap row (filled 3) h ∙ inner_back 3 h k l ∙ ap (λ z. over_at base z (drop gap t)) wd;
      }

  abbrev LaidAs : Wrap → Type 0
  LaidAs w =
      Laid (closed_items w xs) base gap t (closed_table w f (gap + base) (filled (own_words w))) (closed_sums w f).rows (closed_sums w f).count (closed_sums w f).words

  repeat_laid : (k : ℕ) → 0 < k → Fits (times k xs) base gap (length t) → length ys ≡ length (take (length t - 0) (drop 0 t)) → Inner-laid 0 → LaidAs (Repeat k)
  unfolding closed_items closed_table closed_sums own_words
  repeat_laid k p g ly l =
      let F : List ℕ = take gap t in
      let D : List ℕ = drop gap t in
      let T : List ℕ = filled 0 in
      let m : List ℕ = row_words base xs in
      let dw : List ℕ = data_words xs in
      let at : ℕ = gap + base in
      let w = words_times k xs in
      let r = rows_times k xs in
      let a1 = at_least k (rows xs) p in
      let a2 = at_least k (words xs) p in
      let lm : length m ≡ 3 * rows xs = row_length base xs in
      let lc : length (copies (words xs) k m) ≡ 3 * (k * rows xs) = copies_length (words xs) (rows xs) k m lm in
      let ld : length D ≡ length t - gap = length-drop gap t in
      let tf : take gap T ≡ over m F = inner_front 0 (omega arith) (omega arith) l ∙ at_front m F in
      let tb : drop gap T ≡ over_at base dw D = inner_back 0 (omega arith) (omega arith) l in
      let rows3 : take (3 * f.rows) T ≡ m =
      ap (λ n. take (3 * n) T) er ∙ sym (take-take (3 * rows xs) gap T (omega arith)) ∙ ap (take (3 * rows xs)) tf ∙ over_front m F (3 * rows xs) (sym lm) in
      let cp : List ℕ = copies f.words k (take (3 * f.rows) T) in
      let cs : cp ≡ copies (words xs) k m = ap₂ (λ v z. copies v k z) ew rows3 in
      let t₁ : List ℕ = over cp T in
      let lcp : length cp ≤ gap = rw cs (omega arith) in
      let lt : length T ≡ length t = back_length 0 t ys (omega arith) ly in
      let room : gap + base ≤ length t₁ = let z = over_length cp T (omega arith) in omega arith in
      let taken : take f.words (drop at T) ≡ dw =
      ap₂ (λ n z. take n z) ew (sym (drop-drop base gap T) ∙ ap (drop base) tb ∙ from_at base dw D (omega arith)) ∙ over_front dw (drop base D) (words xs) refl in
      let ag : List ℕ = again k (take f.words (drop at T)) in
      let agw : ag ≡ again k dw = ap (again k) taken in
      let la : length (again k dw) ≡ k * words xs = again_length dw (words xs) refl k in
      record {
        rows_are = ap (λ n. k * n) er ∙ sym (rows_times k xs);
        count_is = ap (λ n. k * n) ec ∙ sym (count_times k xs);
        words_are = ap (λ n. k * n) ew ∙ sym w;
        front_is = front_at gap base ag t₁ room ∙ front_over gap cp T lcp ∙ ap₂ over cs tf
            ∙ over_over m (copies (words xs) k m) F (omega arith) ∙ ap (λ z. over z F) (sym (rows_again k base xs (omega arith)));
        back_is = back_at gap base ag t₁ room ∙ ap₂ (over_at base) agw (back_over gap cp T lcp ∙ tb)
            ∙ at_over base dw D (omega arith) (again k dw) (omega arith) ∙ ap (λ z. over_at base z D) (sym (words_again k xs));
      }

  closed_laid : (w : Wrap) → 0 < copies_of w → text_in w xs ≡ false → Fits (closed_items w xs) base gap (length t)
      → length ys ≡ length (take (length t - own_words w) (drop (own_words w) t)) → Inner-laid (own_words w) → LaidAs w
  unfolding closed_items closed_table closed_sums own_words copies_of kind_of row_kind container_kind is_text text_in is_struc both pick
  closed_laid Struc p q g ly l = let k = fits_inside Struc xs base gap (length t) p q g in rw q at (group_laid struc q k.0 (omega arith) l)
  closed_laid Ustruc p q g ly l = let k = fits_inside Ustruc xs base gap (length t) p q g in rw q at (group_laid struc q k.0 (omega arith) l)
  closed_laid Edt p q g ly l = let k = fits_inside Edt xs base gap (length t) p q g in group_laid edt refl k.0 (omega arith) l
  closed_laid (Repeat k) p q g ly l = repeat_laid k p g ly l

-- a container with a row of its own closes by that row
abbrev pub Grouped : Wrap → Filled → ℕ → List ℕ → Type 0
Grouped w f at t =
    (closed_sums w f ≡ closed_group f) × (closed_table w f at t ≡ over (kind_of w ∷ f.count ∷ f.rows ∷ []) t) × (Closable w f at (length t) → 3 * (f.rows + 1) ≤ length t)

pub grouped : (w : Wrap) → own_words w ≡ 3 → (f : Filled) (at : ℕ) (t : List ℕ) → Grouped w f at t
unfolding own_words closed_sums closed_table Closable
grouped Struc e f at t = (refl, refl, λ c. omega (arith, c.0, c.1))
grouped Ustruc e f at t = (refl, refl, λ c. omega (arith, c.0, c.1))
grouped Edt e f at t = (refl, refl, λ c. omega (arith, c.0, c.1))
grouped (Repeat k) e f at t = absurd (omega arith)

pub row_over : (a b : ℕ) (t : List ℕ) {k l : ℕ} → k ≡ l → over (k ∷ a ∷ b ∷ []) t ≡ over (l ∷ a ∷ b ∷ []) t
row_over a b t e = rw e refl

pub repeatable : {w : Wrap} {k : ℕ} (f : Filled) (at len : ℕ) → w ≡ Repeat k → Closable w f at len → Repeatable k f at len
unfolding Closable
repeatable f at len e p = rw e at p

-- ---- a container that is no string: the contents c say xs, and `own` words are left free before their rows
pub record Elements (d : ℕ) (c : List ℕ) (w : Wrap) (xs : Items) (base gap own : ℕ) (t : List ℕ) : Type 0 where
  pub said : reads d c ≡ says xs
  pub fits : Fits (closed_items w xs) base gap (length t)
  pub own_is : own ≡ own_words w
  pub some : 0 < copies_of w
  pub other : text_in w xs ≡ false

module _ {d : ℕ} {c : List ℕ} {w : Wrap} {xs : Items} {base gap own : ℕ} {t : List ℕ} (e : Elements d c w xs base gap own t) where
  abbrev lent_on : List ℕ
  lent_on = take (length t - own) (drop own t)

  inside_fits : (own ≤ gap) × (gap + base ≤ length t) × Fits xs base (gap - own) (length lent_on)
  inside_fits = rw (part_length own t, e.own_is) (fits_inside w xs base gap (length t) e.some e.other e.fits)

  pub elements_room : (own ≤ gap) × (gap + base ≤ length t) × (gap + base ≤ 65536) × RunFits d c base (gap - own) lent_on
  elements_room = (inside_fits.0, inside_fits.1, omega arith, record { items = xs; said = e.said; fits = inside_fits.2 })

  -- laid out, and the table comes back
  module _ {x : Filled} {ys : List ℕ} (g : RunFilled d c base (gap - own) lent_on ys x) where
    laid : Laid xs base (gap - own) lent_on ys x.rows x.count x.words
    laid = let q : says g.items ≡ says xs = sym g.said ∙ e.said in let same : g.items ≡ xs = cc in rw same at g.laid

    long : length ys ≡ length lent_on
    long = laid_long laid inside_fits.2

    abbrev filled_by : List ℕ
    filled_by = take own t ++ (ys ++ drop (length t - own) (drop own t))

    pub elements_closable : Closable w x (gap + base) (length filled_by)
    elements_closable =
        rw (back_length own t ys (omega (arith, inside_fits.0, inside_fits.1)) long)
        (closable w xs x base gap (length t) e.some e.other e.fits laid.rows_are laid.count_is laid.words_are)

    pub elements_closed : {r : Filled} {t' : List ℕ} → r ≡ closed_sums w x → t' ≡ closed_table w x (gap + base) filled_by
        → Laid (closed_items w xs) base gap t t' r.rows r.count r.words
    elements_closed q z =
        let l = closed_laid xs x base gap t ys laid.rows_are laid.count_is laid.words_are w e.some e.other e.fits (rw e.own_is at long) (rw e.own_is at laid) in
        record {
          rows_are = ap (λ y. y.rows) q ∙ l.rows_are;
          count_is = ap (λ y. y.count) q ∙ l.count_is;
          words_are = ap (λ y. y.words) q ∙ l.words_are;
          front_is = ap (take gap) (rw e.own_is at z) ∙ l.front_is;
          back_is = ap (drop gap) (rw e.own_is at z) ∙ l.back_is;
        }

    -- by a row of its own
    module _ (three : own ≡ 3) where
      pub row_room : 3 * (x.rows + 1) ≤ length filled_by
      row_room = (grouped w (sym e.own_is ∙ three) x (gap + base) filled_by).2 elements_closable

      pub row_laid : {k : ℕ} → k ≡ kind_of w → {r : Filled} {t' : List ℕ} → (r ≡ closed_group x) × (t' ≡ over (k ∷ x.count ∷ x.rows ∷ []) filled_by)
          → Laid (closed_items w xs) base gap t t' r.rows r.count r.words
      row_laid ek p =
          let g = grouped w (sym e.own_is ∙ three) x (gap + base) filled_by in
          elements_closed (p.0 ∙ sym g.0) (p.1 ∙ row_over x.count x.rows filled_by ek ∙ sym g.1)

-- ---- as the code copies: rows, and then data words in the part from `at` on
pub copied_table : (at w r k : ℕ) (t t₁ ys : List ℕ) → 0 < k → 3 * (k * r) ≤ at → at ≤ length t → t₁ ≡ over (copies w k (take (3 * r) t)) t
    → ys ≡ over (again k (take w (take (length t₁ - at) (drop at t₁)))) (take (length t₁ - at) (drop at t₁))
    → take at t₁ ++ (ys ++ drop (length t₁ - at) (drop at t₁)) ≡ over_at at (again k (take w (drop at t))) (over (copies w k (take (3 * r) t)) t)
copied_table at w r k t t₁ ys p h g e q =
    let cp : List ℕ = copies w k (take (3 * r) t) in
    let l : length cp ≤ at = let m = at_least k r p in let z = copies_length w r k (take (3 * r) t) (length-take-le (3 * r) t (omega arith)) in omega arith in
    let b : drop at t₁ ≡ drop at t = ap (drop at) e ∙ back_over at cp t l in
    lent at (again k (take w (take (length t₁ - at) (drop at t₁)))) t₁ ys q ∙ ap₂ (λ z u. over_at at (again k (take w z)) u) (rest_part t₁ at ∙ b) e
