-- The walk's loop, turn by turn. Assumes nothing.
use Rattle.std.proofs.Common.{◌≡◌, ℕ, ◌+◌, ◌-◌, ◌*◌, ◌<◌, ◌≤◌, List, ◌++◌, length, get_or, take, drop, sym, refl, ap, ◌∙◌, zero-le, arith, length-append, length-drop, length-take-le, take_at, drop_at}
use Rattle.format.specs.Items.{Items, end, join}
use Rattle.format.specs.Tables.{count, rows, data_words, row_words}
use Rattle.format.specs.Messages.{got, onto, reads, Outcome, refused, says}
use Rattle.format.specs.Answers.{over}
use Rattle.format.proofs.Counts.{words, rows_join, count_join, words_join, data_join, row_words_join, count_rows}
use Rattle.format.proofs.TableLaws.{row_length}
use Rattle.fill.specs.declared.place.Placed.{Placed}
use Rattle.fill.specs.Walks.{Fits, RunFits, ObjectFits, Laid, RunFilled, ObjectFilled}
use Rattle.fill.specs.Stretch.{Stretched}
use Rattle.format.specs.Lent.{over_at}
use Rattle.format.proofs.Over.{over_next, at_none, at_next, part_length, back_length}
use Rattle.fill.proofs.AgainLaws.{none_in}
use Rattle.fill.proofs.Regions.{front_lent, back_out, back_in}
use Rattle.format.proofs.Runs.{upto_end, Passed, passed_none, passed_piece, passed_rest, Ahead, ahead}
use Rattle.fill.proofs.LaidLaws.{laid_none, laid_long}

-- ---- the loop: xs stand there, before i
pub record WalkInv (d : ℕ) (s : List ℕ) (base gap : ℕ) (t₀ t : List ℕ) (i r c w : ℕ) : Type 0 where
  pub all : Items
  pub xs : Items
  pub fits : Fits all base gap (length t₀)
  pub passed : Passed d s all xs i
  pub laid : Laid xs base gap t₀ t r c w
  pub at : i ≤ length s
  pub room : 3 * r ≤ gap
  pub within : gap ≤ length t₀
  pub limit : gap ≤ 49152
  pub fewer : c ≤ r
  pub few : base + w ≤ 16384
  pub long : length t ≡ length t₀

-- so many rows, items and data words
abbrev pub Sums : ℕ → ℕ → ℕ → Type 0
Sums r c w = (3 * r ≤ 49152) × (c ≤ r) × (w ≤ 16384)

-- what says itself again has no rows
onto_self : (ys : Items) (n : ℕ) (o : Outcome) → o ≡ onto ys n o → (xs : Items) (i : ℕ) (all : Items) → onto xs i o ≡ says all → rows ys ≡ 0
unfolding onto
onto_self ys n (refused f) e xs i all h = let z : ◌≡◌ {A = ℕ} 0 1 = cc in absurd (omega arith)
onto_self ys n (says zs) e xs i all h = let q : zs ≡ join ys zs = cc in omega (arith, ap rows q, rows_join ys zs)

pub walk_start : {d : ℕ} {s : List ℕ} {base gap : ℕ} {t : List ℕ} → RunFits d s base gap t → WalkInv d s base gap t t 0 0 0 0
walk_start {d} {s} {base} {gap} {t} f =
    let g = f.fits in
    record {
      all = f.items;
      xs = end;
      fits = g;
      passed = passed_none d s f.items f.said;
      laid = laid_none base gap t;
      at = zero-le;
      room = zero-le;
      within = omega arith;
      limit = omega arith;
      fewer = zero-le;
      few = omega arith;
      long = refl;
    }

module _ {d : ℕ} {s : List ℕ} {base gap : ℕ} {t₀ t : List ℕ} {i r c w : ℕ} (v : WalkInv d s base gap t₀ t i r c w) where
  pub walk_sums : Sums r c w
  walk_sums = (omega arith, v.fewer, omega arith)

  pub walk_end : length s ≤ i → RunFilled d s base gap t₀ t (record { rows = r; count = c; words = w })
  walk_end h = record { items = v.xs; said = upto_end v.passed.upto h; laid = v.laid }

  -- items ys further on: they fit behind those that are there
  behind : (ys : Items) {e : ℕ} → Passed d s v.all (join v.xs ys) e
      → (3 * (r + rows ys) ≤ gap) × (gap + (base + (w + words ys)) ≤ length t₀) × (base + (w + words ys) ≤ 16384)
  behind ys p =
      let z = passed_rest p in
      let f : Fits (join (join v.xs ys) z.0) base gap (length t₀) = rw z.1 at v.fits in
      let j1 = rows_join (join v.xs ys) z.0 in
      let j2 = rows_join v.xs ys in
      let j3 = words_join (join v.xs ys) z.0 in
      let j4 = words_join v.xs ys in
      (omega arith, omega arith, omega arith)

  -- and stand there
  grown : (ys : Items) {e : ℕ} {T : List ℕ} {j k l : ℕ} → Passed d s v.all (join v.xs ys) e → j ≡ rows ys → k ≡ count ys → l ≡ words ys → length T ≡ length t
      → take gap T ≡ over_at (3 * r) (row_words (base + w) ys) (take gap t) → drop gap T ≡ over_at (base + w) (data_words ys) (drop gap t)
      → WalkInv d s base gap t₀ T e (r + j) (c + k) (w + l)
  grown ys p er ec ew long front back =
      let xs = v.xs in
      let D : List ℕ = drop gap t₀ in
      let q = behind ys p in
      let l3 = v.laid.words_are in
      let j1 = rows_join xs ys in
      let j2 = count_join xs ys in
      let j3 = words_join xs ys in
      let n1 : 3 * r ≡ length (row_words base xs) = omega (arith, row_length base xs) in
      let n2 = length-drop gap t₀ in
      record {
        all = v.all;
        xs = join xs ys;
        fits = v.fits;
        passed = p;
        laid = record {
          rows_are = omega arith;
          count_is = omega arith;
          words_are = omega arith;
          front_is = front ∙ over_next (row_words base xs) (row_words (base + w) ys) (take gap t₀) (take gap t) (3 * r) v.laid.front_is n1
              ∙ ap (λ z. over z (take gap t₀)) (ap (λ m. row_words base xs ++ row_words (base + m) ys) l3 ∙ sym (row_words_join base xs ys));
          back_is = back ∙ at_next base (data_words xs) (data_words ys) D (drop gap t) (base + w) (omega arith) v.laid.back_is (omega arith)
              ∙ ap (λ z. over_at base z D) (sym (data_join xs ys));
        };
        at = p.upto.within;
        room = omega arith;
        within = v.within;
        limit = v.limit;
        fewer = omega (arith, count_rows (join xs ys));
        few = omega arith;
        long = long ∙ v.long;
      }

  -- a stretch further on
  pub stretch_turn : {ys : List ℕ} {e n : ℕ} → Stretched s i (3 * r) (take gap t) ys e n → WalkInv d s base gap t₀ (ys ++ drop gap t) e (r + n) (c + n) (w + 0)
  stretch_turn {ys} {e} {n} x =
      let zs = x.items in
      let ly : length ys ≡ gap = x.long ∙ length-take-le gap t (omega arith) in
      let back = drop_at ys (drop gap t) gap ly ∙ sym (ap (λ l. over_at (base + w) l (drop gap t)) (none_in (data_words zs) x.none) ∙ at_none (base + w) (drop gap t)) in
      let long : length (ys ++ drop gap t) ≡ length t = length-append ys (drop gap t) ∙ omega (arith, length-drop gap t) in
      grown zs (passed_piece v.passed x.piece) x.rows_are x.count_is (sym x.none) long (take_at ys (drop gap t) gap ly ∙ x.table_is (base + w)) back

  -- a stretch that did not get further has no rows
  pub stretch_stay : {ys : List ℕ} {e n : ℕ} → Stretched s i (3 * r) (take gap t) ys e n → e ≤ i → WalkInv d s base gap t₀ (ys ++ drop gap t) i r c w
  stretch_stay {ys} {e} {n} x h =
      let q : e ≡ i = omega arith in
      let o : reads d (drop i s) ≡ onto x.items (e - i) (reads d (drop i s)) = x.piece.said d ∙ ap (λ m. onto x.items (e - i) (reads d (drop m s))) q in
      let z : n ≡ 0 = x.rows_are ∙ onto_self x.items (e - i) (reads d (drop i s)) o v.xs i v.all (sym v.passed.upto.so_far ∙ v.passed.said) in
      let qr : r + n ≡ r = omega arith in
      let qc : c + n ≡ c = omega arith in
      let qw : w + 0 ≡ w = omega arith in
      rw (qr, qc, qw, q) at (stretch_turn x)

  -- the object at i, whose type-byte is b
  module _ {b : ℕ} (h : i < length s) (e : b ≡ get_or s i 0) where
    -- the bytes and the part of the table that the code lends on
    abbrev S : List ℕ
    S = take (length s - (i + 1)) (drop (i + 1) s)

    abbrev P : List ℕ
    P = take (length t - 3 * r) (drop (3 * r) t)

    here : Ahead d s v.all v.xs i b
    here = ahead d s v.all v.xs i b v.passed h e

    fits : Fits here.ys (base + w) (gap - 3 * r) (length P)
    fits = let q = behind here.ys here.further in rw (part_length (3 * r) t) (omega arith, omega arith, omega arith, omega arith)

    pub here_fits : ObjectFits d b S (base + w) (gap - 3 * r) P
    here_fits = record { items = here.ys; past = here.past; said = here.here; fits = fits }

    pub walk_more : {p : Placed} {last : List ℕ} → ObjectFilled d b S (base + w) (gap - 3 * r) P last p
        → WalkInv d s base gap t₀ (take (3 * r) t ++ (last ++ drop (length t - 3 * r) (drop (3 * r) t))) (i + (1 + p.past)) (r + p.filled.rows) (c + p.filled.count) (w + p.filled.words)
    walk_more {p} {last} g =
        let q : got g.items p.past ≡ got here.ys here.past = sym g.said ∙ here.here in
        let same : g.items ≡ here.ys = cc in
        let past : p.past ≡ here.past = cc in
        let k : Laid here.ys (base + w) (gap - 3 * r) P last p.filled.rows p.filled.count p.filled.words = rw same at g.laid in
        let l5 = v.room in
        let g1 : gap ≤ length t = omega arith in
        let front = front_lent gap (3 * r) t l5 g1 last (row_words (base + w) here.ys) k.front_is in
        let back = back_out gap (3 * r) t l5 g1 last ∙ k.back_is ∙ ap (over_at (base + w) (data_words here.ys)) (back_in gap (3 * r) t l5 g1) in
        let at : i + 1 + here.past ≡ i + (1 + p.past) = omega arith in
        grown here.ys (rw at at here.further) k.rows_are k.count_is k.words_are (back_length (3 * r) t last (omega arith) (laid_long k fits)) front back
