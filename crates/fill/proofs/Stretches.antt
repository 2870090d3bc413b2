-- The rows of a stretch, one object more at a time. Assumes nothing.
use Rattle.std.proofs.Common.{◌≡◌, ℕ, ◌+◌, ◌-◌, ◌*◌, ◌%◌, ◌<◌, ◌≤◌, List, [], ◌∷◌, length, get_or, take, drop, sym, refl, ap, ◌∙◌, subst, add-zero, arith, length-drop}
use Rattle.format.specs.Classes.{class_of}
use Rattle.format.specs.declared.Class.TheVariants.{Linteger}
use Rattle.format.specs.Items.{Leaf, end, one, join}
use Rattle.format.specs.Numbers.{twos}
use Rattle.format.specs.Objects.{following, integer}
use Rattle.format.specs.Tables.{rows, count, data_words, row_words}
use Rattle.format.specs.Lent.{over_at}
use Rattle.format.proofs.Over.{at_none, at_length, at_next}
use Rattle.format.proofs.Runs.{piece_none, piece_join}
use Rattle.wire.proofs.Stretches.{row_says, padding_says, between_from}
use Rattle.format.proofs.Counts.{words, rows_join, count_join, words_join, row_words_join}
use Rattle.format.proofs.Parts.{rest_part}
use Rattle.format.proofs.TableLaws.{row_length}
use Rattle.wire.specs.Ranges.{Between}
use Rattle.wire.specs.Heads.{IsRow, OneRow}
use Rattle.wire.proofs.OneRows.{char_at, small_at, long_at}
use Rattle.wire.proofs.ClassCases.{of_class}
use Rattle.fill.specs.declared.stretch.Stretch.{Stretch}
use Rattle.fill.specs.Stretch.{RowsInRange, LongOf, Stretched}

leaf_rows : (d k v : ℕ) (l : Leaf) → IsRow l k v → row_words d (one l) ≡ k ∷ 0 ∷ v ∷ []
unfolding row_words
leaf_rows d k v l r = rw (r.kind, r.first, r.last d) refl

leaf_row : (l : Leaf) → (rows (one l) ≡ 1) × (count (one l) ≡ 1)
unfolding rows count
leaf_row l = (refl, refl)

leaf_none : (k v : ℕ) (l : Leaf) → IsRow l k v → words (one l) ≡ 0
unfolding data_words
leaf_none k v l r = rw r.none refl

-- the one-byte items by their ranges
pub char_range : RowsInRange 0 0x7f 3
char_range b s g h = let e : b - 0 ≡ b = omega arith in rw e (char_at b s (omega arith))

pub small_range : RowsInRange 0x80 0xbf 1
small_range b s g h = let e : b - 0x80 ≡ b % 64 = omega arith in rw e (small_at b s g (omega arith))

-- an LINTEGER's type-byte, as the code tells it
pub long_of : (b k : ℕ) → Linteger ≡ class_of b → k ≡ following b → LongOf b k
long_of b k e f = let r = of_class b Linteger e in (r.0, omega arith, f)

-- ---- stretches
pub stretched_none : (s : List ℕ) (i used : ℕ) (t : List ℕ) → i ≤ length s → used ≤ length t → Stretched s i used t t i 0
unfolding rows count data_words row_words
stretched_none s i used t h g =
    record {
      items = end;
      piece = piece_none i h;
      rows_are = refl;
      count_is = refl;
      none = refl;
      table_is = λ base. sym (at_none used t);
      long = refl;
      room = omega arith;
    }

-- two stretches one after the other make one
pub stretched_join : {s : List ℕ} {i used : ℕ} {t₀ t t' : List ℕ} {e n f m : ℕ} → Stretched s i used t₀ t e n → Stretched s e (used + 3 * n) t t' f m
    → Stretched s i used t₀ t' f (n + m)
stretched_join {used = used} {t₀ = t₀} {t = t} {n = n} c x =
    let xs = c.items in
    let ys = x.items in
    record {
      items = join xs ys;
      piece = piece_join c.piece x.piece;
      rows_are = omega (arith, rows_join xs ys);
      count_is = omega (arith, count_join xs ys);
      none = omega (arith, words_join xs ys);
      table_is = λ base.
          x.table_is (base + words xs)
          ∙ at_next used (row_words base xs) (row_words (base + words xs) ys) t₀ t (used + 3 * n) (omega arith) (c.table_is base) (omega (arith, row_length base xs))
          ∙ ap (λ y. over_at used y t₀) (sym (row_words_join base xs ys));
      long = x.long ∙ c.long;
      room = omega arith;
    }

pub stretched_stop : {s : List ℕ} {i used : ℕ} {t₀ t t' : List ℕ} {e n f m : ℕ} → Stretched s i used t₀ t e n → Stretched s e (used + 3 * n) t t' f m → f ≡ e
    → Stretched s i used t₀ t' e (n + m)
stretched_stop {s} {i} {used} {t₀} {t} {t'} {n = n} {m = m} c x k = subst (λ p. Stretched s i used t₀ t' p (n + m)) k (stretched_join c x)

-- one object that is a row
stretched_row : (s : List ℕ) (i used : ℕ) (t t' : List ℕ) (k v u : ℕ) → i < length s → used + 3 ≤ length t → OneRow (get_or s i 0) (drop (i + 1) s) k v u
    → t' ≡ over_at used (k ∷ 0 ∷ v ∷ []) t → Stretched s i used t t' (i + 1 + u) 1
stretched_row s i used t t' k v u h free r w =
    let m = leaf_row r.leaf in
    record {
      items = one r.leaf;
      piece = row_says s i k v u h r;
      rows_are = sym m.0;
      count_is = sym m.1;
      none = leaf_none k v r.leaf r.row;
      table_is = λ base. w ∙ ap (λ l. over_at used l t) (sym (leaf_rows base k v r.leaf r.row));
      long = ap length w ∙ at_length used (k ∷ 0 ∷ v ∷ []) t (omega arith);
      room = omega arith;
    }

module _ {s : List ℕ} {i used : ℕ} {t₀ t : List ℕ} {e n : ℕ} (c : Stretched s i used t₀ t e n) (h : e < length s) (free : used + 3 * n + 3 ≤ length t) where
  stretched_ranged : (lo hi kind : ℕ) → RowsInRange lo hi kind → lo ≤ get_or s e 0 → get_or s e 0 ≤ hi → {t' : List ℕ}
      → t' ≡ over_at (used + 3 * n) (kind ∷ 0 ∷ (get_or s e 0 - lo) ∷ []) t → Stretched s i used t₀ t' (e + 1) (n + 1)
  stretched_ranged lo hi kind r g l {t'} w =
      let x = stretched_row s e (used + 3 * n) t t' kind (get_or s e 0 - lo) 0 h free (r (get_or s e 0) (drop (e + 1) s) g l) w in
      subst (λ p. Stretched s i used t₀ t' p (n + 1)) (add-zero (e + 1)) (stretched_join c x)

  pub stretched_long : (b k v : ℕ) → LongOf b k → get_or s e 0 ≡ b → k ≤ length s - (e + 1) → v ≡ twos 8 (integer (take k (take (length s - (e + 1)) (drop (e + 1) s))))
      → {t' : List ℕ} → t' ≡ over_at (used + 3 * n) (1 ∷ 0 ∷ v ∷ []) t → Stretched s i used t₀ t' (e + 1 + k) (n + 1)
  stretched_long b k v q eb l ev {t'} w =
      let r = long_at b k v (drop (e + 1) s) q.0 q.1 q.2 (rw (length-drop (e + 1) s) l) (rw (rest_part s (e + 1)) at ev) in
      stretched_join c (stretched_row s e (used + 3 * n) t t' 1 v k h free (rw eb r) w)

-- the bytes of a range, none of them
pub range_start : (s : List ℕ) (i used : ℕ) (t : List ℕ) → i ≤ length s → used ≤ length t → Stretched s i used t t (i + 0) 0
range_start s i used t h g = subst (λ p. Stretched s i used t t p 0) (sym (add-zero i)) (stretched_none s i used t h g)

-- j of them and one more
pub ranged_more : {s : List ℕ} {i used : ℕ} {t₀ t : List ℕ} {j : ℕ} → Stretched s i used t₀ t (i + j) j → i + j < length s → used + 3 * j + 3 ≤ length t
    → (lo hi kind : ℕ) → RowsInRange lo hi kind → lo ≤ get_or s (i + j) 0 → get_or s (i + j) 0 ≤ hi
    → {t' : List ℕ} → t' ≡ over_at (used + 3 * j) (kind ∷ 0 ∷ (get_or s (i + j) 0 - lo) ∷ []) t → Stretched s i used t₀ t' (i + (j + 1)) (j + 1)
ranged_more {s} {i} {used} {t₀} {j = j} c h free lo hi kind r g l {t'} w =
    let e : i + j + 1 ≡ i + (j + 1) = omega arith in
    subst (λ p. Stretched s i used t₀ t' p (j + 1)) e (stretched_ranged c h free lo hi kind r g l w)

-- ---- an object of one byte, as the code answers it
pub one_row : {s : List ℕ} {i used : ℕ} {t t' : List ℕ} → i < length s → used + 3 ≤ length t → {x : Stretch} {k v : ℕ} → OneRow (get_or s i 0) (drop (i + 1) s) k v 0
    → (x ≡ record { upto = i + 1; rows = 1 }) × (t' ≡ over_at used (k ∷ 0 ∷ v ∷ []) t) → Stretched s i used t t' x.upto x.rows
one_row {s} {i} {used} {t} {t'} h free {k = k} {v = v} r w =
    rw w.0 (subst (λ p. Stretched s i used t t' p 1) (add-zero (i + 1)) (stretched_row s i used t t' k v 0 h free r w.1))

-- ---- the padding that starts at i
pub stretched_padding : (s : List ℕ) (i used : ℕ) (t : List ℕ) (e : ℕ) → used ≤ length t → get_or s i 0 ≡ 0xff → (i + 1 ≤ e) × (e ≤ length s) × Between 0xff 0xff (i + 1) e s
    → Stretched s i used t t e 0
unfolding rows count data_words row_words
stretched_padding s i used t e g b w =
    record {
      items = end;
      piece = padding_says s i e (omega (arith, w.0)) w.1 (between_from 0xff 0xff i e s (omega arith) (omega arith) w.2);
      rows_are = refl;
      count_is = refl;
      none = refl;
      table_is = λ base. sym (at_none used t);
      long = refl;
      room = omega arith;
    }
