-- The walk that measures: what comes out is what was counted so far and what comes out of the bytes that are left. Assumes nothing.
use Prim.Native.Nat.{ℕ, ◌+◌, ◌*◌, ◌≤◌, ◌<◌}
use native.Mathlib.Omega.{arith}
use mathlib.Core.Path.{◌≡◌, refl, sym, ap, ap₂, ◌∙◌, subst}
use Rattle.std.specs.Prelude.{Option, Some, None, Ok}
use Rattle.std.specs.Option.{option_or}
use mathlib.Core.List.{List, [], ◌++◌, append_assoc, append-nil}
use lib.ListN.{length, take, drop, length-append, length-drop, drop_of_length-le}
use lib.Seq.{drop-drop, take-add, take_all, length-take-le}
use Rattle.format.specs.Messages.{outcome}
use Rattle.format.specs.Tables.{rows, data_words}
use Rattle.salvage.specs.Mending.{mended, changes_in}
use Rattle.salvage.specs.declared.parts.Amount.{Amount}
use Rattle.salvage.specs.declared.walk.Measure.{Measure}
use Rattle.salvage.specs.Words.{said}
use Rattle.salvage.specs.Told.{SoundFront, BadFront, BadRest, met_of, Clean, CleanUpto, measure_of}
use Rattle.salvage.proofs.PartLaws.{mended_none, changes_at, changes_none, changes_whole}
use Rattle.salvage.proofs.MendedLaws.{met_says, none_says}
use Rattle.salvage.proofs.Sound.{accepted_same}
use Rattle.salvage.proofs.Verdicts.{verdict_amount, said_is}
use Rattle.salvage.proofs.PartCases.{rows_in, words_in, sound_met, lost, Kept, kept, replaced}

-- up to p all comes to x
pub record Surveyed (m : List ℕ) (p : ℕ) (x : Measure) : Type 0 where
  pub upto : p ≤ length m
  pub bytes_are : length (mended m) ≡ x.length + length (mended (drop p m))
  pub changes_are : length (changes_in m) ≡ x.entries + length (changes_at p (drop p m))
  pub rows_are : rows_in (mended m) ≡ x.rows + rows_in (mended (drop p m))
  pub words_are : words_in (mended m) ≡ x.words + words_in (mended (drop p m))
  pub few_bytes : x.length ≤ p
  pub few_changes : x.entries ≤ p
  pub few_rows : x.rows ≤ 16384 * p
  pub few_words : x.words ≤ 16384 * p
  pub clean : CleanUpto m x.first p

-- ---- nothing is changed before the first change
clean_none : (m : List ℕ) → Clean m 0
clean_none m = record { upto = omega arith; out = refl; listed = changes_whole m }

clean_on : (m : List ℕ) (p n : ℕ) (a : Amount) → Clean m p → Kept (drop p m) p n a → Clean m (p + n)
clean_on m p n a c k =
    let on : drop n (drop p m) ≡ drop (p + n) m = drop-drop n p m in
    record {
      upto = omega (arith, k.fits, length-drop p m, c.upto);
      out = c.out ∙ ap (λ l. take p m ++ l) (k.out ∙ ap (λ l. take n (drop p m) ++ mended l) on)
          ∙ sym (ap (λ l. l ++ mended (drop (p + n) m)) (take-add p n m) ∙ append_assoc (take p m) (take n (drop p m)) (mended (drop (p + n) m)));
      listed = c.listed ∙ k.listed ∙ ap (changes_at (p + n)) on;
    }

clean_kept : (m : List ℕ) (p n : ℕ) (a : Amount) (f : Option ℕ) → CleanUpto m f p → Kept (drop p m) p n a → CleanUpto m f (p + n)
clean_kept m p n a None c k = clean_on m p n a c k
clean_kept m p n a (Some q) c k = c

clean_first : (m : List ℕ) (p q : ℕ) (f g : Option ℕ) → g ≡ option_or f (Some p) → CleanUpto m f p → CleanUpto m g q
clean_first m p q None g e c = subst (λ x. CleanUpto m x q) (sym e) c
clean_first m p q (Some n) g e c = subst (λ x. CleanUpto m x q) (sym e) c

abbrev pub measure : Option ℕ → ℕ → ℕ → ℕ → ℕ → Measure
measure f b k r d = record { first = f; length = b; entries = k; rows = r; words = d }

pub survey_start : (m : List ℕ) → Surveyed m 0 (measure None 0 0 0 0)
survey_start m = record {
  upto = omega arith;
  bytes_are = omega arith;
  changes_are = omega (arith, ap length (changes_whole m));
  rows_are = omega arith;
  words_are = omega arith;
  few_bytes = omega arith;
  few_changes = omega arith;
  few_rows = omega arith;
  few_words = omega arith;
  clean = clean_none m;
}

-- nothing comes out, and what says nothing has no rows
none_out : (l : List ℕ) → l ≡ [] → (length l ≡ 0) × (rows_in l ≡ 0) × (words_in l ≡ 0)
unfolding rows data_words
none_out l e = subst (λ z. (length z ≡ 0) × (rows_in z ≡ 0) × (words_in z ≡ 0)) (sym e) (refl, ap rows (said_is [] _ none_says), ap (λ z. length (data_words z)) (said_is [] _ none_says))

-- at the end there is nothing more
at_end : (m : List ℕ) (p : ℕ) → length m ≤ p
    → (length (mended (drop p m)) ≡ 0) × (length (changes_at p (drop p m)) ≡ 0) × (rows_in (mended (drop p m)) ≡ 0) × (words_in (mended (drop p m)) ≡ 0)
at_end m p h =
    let z : drop p m ≡ [] = drop_of_length-le m {i = p} h in
    let n = none_out (mended (drop p m)) (ap mended z ∙ mended_none) in
    (n.0, ap length (ap (changes_at p) z ∙ changes_none p), n.1, n.2)

module _ (m : List ℕ) (p : ℕ) (x : Measure) (s : Surveyed m p x) where
  pub survey_kept : (n : ℕ) (a : Amount) → SoundFront (drop p m) n a → Surveyed m (p + n) (measure x.first (x.length + n) x.entries (x.rows + a.rows) (x.words + a.words))
  survey_kept n a f =
      let c = kept (drop p m) p n a f in
      let on : drop n (drop p m) ≡ drop (p + n) m = drop-drop n p m in
      let t : length (take n (drop p m)) ≡ n = length-take-le n (drop p m) c.fits in
      let l = ap length c.out ∙ length-append (take n (drop p m)) (mended (drop n (drop p m))) in
      let o = ap (λ z. length (mended z)) on in
      let e = ap length (c.listed ∙ ap (changes_at (p + n)) on) in
      record {
        upto = omega (arith, s.upto, c.fits, length-drop p m);
        bytes_are = omega (arith, s.bytes_are, l, t, o);
        changes_are = omega (arith, s.changes_are, e);
        rows_are = omega (arith, s.rows_are, c.rows_are, ap (λ z. rows_in (mended z)) on);
        words_are = omega (arith, s.words_are, c.words_are, ap (λ z. words_in (mended z)) on);
        few_bytes = omega (arith, s.few_bytes);
        few_changes = omega (arith, s.few_changes);
        few_rows = omega (arith, s.few_rows, c.few_rows, c.some_bytes);
        few_words = omega (arith, s.few_words, c.few_words, c.some_bytes);
        clean = clean_kept m p n a x.first s.clean c;
      }

  pub survey_few : (n : ℕ) (a : Amount) → SoundFront (drop p m) n a → (a.rows ≤ 16384) × (a.words ≤ 16384)
  survey_few n a f = let c = kept (drop p m) p n a f in (c.few_rows, c.few_words)

  module _ (g : Option ℕ) (i : g ≡ option_or x.first (Some p)) where
    pub survey_replaced : (n k : ℕ) → BadFront (drop p m) n k → Surveyed m (p + n) (measure g (x.length + 1) (x.entries + 1) (x.rows + 1) x.words)
    survey_replaced n k f =
        let c = replaced (drop p m) p n k f in
        let on : drop n (drop p m) ≡ drop (p + n) m = drop-drop n p m in
        record {
          upto = omega (arith, s.upto, c.fits, length-drop p m);
          bytes_are = omega (arith, s.bytes_are, ap length c.out, ap (λ z. length (mended z)) on);
          changes_are = omega (arith, s.changes_are, ap length c.listed, ap (λ z. length (changes_at (p + n) z)) on);
          rows_are = omega (arith, s.rows_are, c.rows_are, ap (λ z. rows_in (mended z)) on);
          words_are = omega (arith, s.words_are, c.words_are, ap (λ z. words_in (mended z)) on);
          few_bytes = omega (arith, s.few_bytes, c.some_bytes);
          few_changes = omega (arith, s.few_changes, c.some_bytes);
          few_rows = omega (arith, s.few_rows, c.some_bytes);
          few_words = omega (arith, s.few_words);
          clean = clean_first m p (p + n) x.first g i s.clean;
        }

    -- the rest is all that is left
    pub survey_dropped : (k : ℕ) → p < length m → BadRest (drop p m) k → Surveyed m (length m) (measure g x.length (x.entries + 1) x.rows x.words)
    survey_dropped k h f =
        let c = lost (drop p m) p k (omega (arith, length-drop p m)) f in
        let n = none_out (mended (drop p m)) c.out in
        let z = at_end m (length m) (omega arith) in
        record {
          upto = omega arith;
          bytes_are = omega (arith, s.bytes_are, n.0, z.0);
          changes_are = omega (arith, s.changes_are, ap length c.listed, z.1);
          rows_are = omega (arith, s.rows_are, n.1, z.2);
          words_are = omega (arith, s.words_are, n.2, z.3);
          few_bytes = omega (arith, s.few_bytes);
          few_changes = omega (arith, s.few_changes);
          few_rows = omega (arith, s.few_rows);
          few_words = omega (arith, s.few_words);
          clean = clean_first m p (length m) x.first g i s.clean;
        }

measured : (m : List ℕ) (f : Option ℕ) (b k r d : ℕ) → length (mended m) ≡ b → length (changes_in m) ≡ k → rows_in (mended m) ≡ r → words_in (mended m) ≡ d
    → measure f b k r d ≡ measure_of m f
unfolding measure_of
measured m f b k r d e g h i = rw (sym e, sym g, sym h, sym i) refl

-- ---- the end of the walk
pub survey_end : (m : List ℕ) (p : ℕ) (x : Measure) → Surveyed m p x → length m ≤ p → (x ≡ measure_of m x.first) × CleanUpto m x.first (length m)
survey_end m p x s h =
    let n = at_end m p h in
    let e : p ≡ length m = omega (arith, s.upto) in (
      measured m x.first x.length x.entries x.rows x.words (omega (arith, s.bytes_are, n.0)) (omega (arith, s.changes_are, n.1)) (omega (arith, s.rows_are, n.2)) (omega (arith, s.words_are, n.3)),
      subst (CleanUpto m x.first) e s.clean,
    )

-- a message that is accepted, by one scan
clean_whole : (m : List ℕ) → mended m ≡ m → changes_in m ≡ [] → Clean m (length m)
clean_whole m e i =
    let z : drop (length m) m ≡ [] = drop_of_length-le m {i = length m} (omega arith) in
    record {
      upto = omega arith;
      out = e ∙ sym (ap₂ ◌++◌ (take_all (length m) m (omega arith)) (ap mended z ∙ mended_none) ∙ append-nil m);
      listed = i ∙ sym (ap (changes_at (length m)) z ∙ changes_none (length m));
    }

pub measured_whole : (m : List ℕ) (a : Amount) → Ok a ≡ met_of (outcome m)
    → (measure None (length m) 0 a.rows a.words ≡ measure_of m None) × CleanUpto m None (length m)
measured_whole m a q =
    let n = sound_met m a (sym q) in
    let x = met_says m n in
    let v = verdict_amount (outcome m) x.0 a x.1 (sym q) in
    let k = accepted_same m n in
    let s = ap said k.0 ∙ said_is m x.0 x.1 in (
      measured m None (length m) 0 a.rows a.words (ap length k.0) (ap length k.1) (ap rows s ∙ sym v.0) (ap (λ y. length (data_words y)) s ∙ sym v.1),
      clean_whole m k.0 k.1,
    )
