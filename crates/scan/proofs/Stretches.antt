-- Many small objects at once: what they come to. Assumes nothing.
use Prim.Native.Nat.{ℕ, zero, suc, ◌+◌, ◌-◌, ◌≤◌, ◌<◌}
use native.Mathlib.Omega.{arith}
use native.Mathlib.Nat.{add-zero}
use mathlib.Core.Path.{◌≡◌, refl, sym, ap, ap₂, ◌∙◌, subst}
use mathlib.Core.List.{List, [], ◌∷◌}
use lib.Dec.{ltb}
use lib.ListN.{length, take, drop, get_or, length-drop}
use lib.Seq.{length-take-le}
use Rattle.format.specs.Items.{Items, end, one, join, times, leaf_kind}
use Rattle.format.specs.Numbers.{twos}
use Rattle.format.specs.Tables.{leaf_words}
use Rattle.format.specs.Objects.{following, integer, characters}
use Rattle.format.proofs.Counts.{times_zero, times_suc, join_assoc}
use Rattle.format.proofs.Runs.{piece_none, piece_join, each_of, letter_of, each_letter, small_of}
use Rattle.wire.specs.Ranges.{Ranged}
use Rattle.wire.specs.Heads.{OneRow}
use Rattle.wire.proofs.OneRows.{long_at}
use Rattle.wire.proofs.Stretches.{chars_say, smalls_say, padding_says, between_from, row_says}
use Rattle.std.specs.Prelude.{Option}
use Rattle.std.specs.Bool.{then_some}
use Rattle.format.specs.declared.kinds.Kind.{Kind}
use Rattle.format.specs.declared.kinds.Kind.TheVariants as K
use Rattle.format.specs.Kinds.{word_of}
use Rattle.format.proofs.Choices.{lt_true, lt_false, split}
use Rattle.scan.specs.declared.summary.Summary.{Summary}
use Rattle.scan.specs.declared.stretch.Leap.{Leap}
use Rattle.scan.specs.Sums.{sum_of, nothing_of, one_of, plus_of, power_of}
use Rattle.scan.specs.Stretch.{Comes, Integers, Leapt}
use Rattle.scan.proofs.SumLaws.{sum_none, sum_row, sum_join, sum_times}

-- ---- what many items come to that each come to y
power_suc : (n : ℕ) (x : Items) (y : Summary) → sum_of x ≡ y → plus_of y (power_of n y) ≡ power_of (suc n) y
power_suc n x y e =
    rw (← e)
    (ap (plus_of (sum_of x)) (sym (sum_times n x)) ∙ sym (sum_join x (times n x)) ∙ ap sum_of (sym (times_suc n x)) ∙ sum_times (suc n) x)

-- so many, and then so many more
times_join : (n m : ℕ) (x : Items) → join (times n x) (times m x) ≡ times (n + m) x
unfolding join
times_join zero m x = ap (λ z. join z (times m x)) (times_zero x) ∙ (let e : 0 + m ≡ m = omega arith in rw e refl)
times_join (suc n) m x =
    let e : suc n + m ≡ suc (n + m) = omega arith in
    rw e
    (ap (λ z. join z (times m x)) (times_suc n x) ∙ join_assoc x (times n x) (times m x) ∙ ap (join x) (times_join n m x) ∙ sym (times_suc (n + m) x))

power_join : (n m : ℕ) (x : Items) (y : Summary) → sum_of x ≡ y → plus_of (power_of n y) (power_of m y) ≡ power_of (n + m) y
power_join n m x y e =
    rw (← e)
    (ap₂ plus_of (sym (sum_times n x)) (sym (sum_times m x)) ∙ sym (sum_join (times n x) (times m x)) ∙ ap sum_of (times_join n m x) ∙ sum_times (n + m) x)

power_zero : (y : Summary) → nothing_of ≡ power_of 0 y
unfolding power_of
power_zero y = refl

each_sum : (f : ℕ → Items) (y : Summary) → ((b : ℕ) → sum_of (f b) ≡ y) → (c : List ℕ) → sum_of (each_of f c) ≡ power_of (length c) y
unfolding each_of
each_sum f y g [] = sum_none ∙ power_zero y
each_sum f y g (b ∷ c) = sum_join (f b) (each_of f c) ∙ ap₂ plus_of (g b) (each_sum f y g c) ∙ power_suc (length c) (f b) y (g b)

a_letter : (b : ℕ) → sum_of (letter_of b) ≡ one_of K.Char 1 0
unfolding leaf_kind leaf_words
a_letter b = sum_row _ K.Char refl refl

a_small : (b : ℕ) → sum_of (small_of b) ≡ one_of K.Int 1 0
unfolding leaf_kind leaf_words
a_small b = sum_row _ K.Int refl refl

module _ (s : List ℕ) (i e : ℕ) where
  -- bytes that each come to y
  each_comes : (f : ℕ → Items) (y : Summary) → ((b : ℕ) → sum_of (f b) ≡ y) → e ≤ length s → sum_of (each_of f (take (e - i) (drop i s))) ≡ power_of (e - i) y
  each_comes f y g h =
      each_sum f y g (take (e - i) (drop i s)) ∙ ap (λ n. power_of n y) (length-take-le (e - i) (drop i s) (omega (arith, length-drop i s)))

  pub chars_come : Ranged 0 0x7f i e s → Comes s i e (power_of (e - i) (one_of K.Char 1 0))
  chars_come h =
      record {
        items = characters (take (e - i) (drop i s));
        piece = chars_say s i e h.0 h.1 h.2;
        sum_is = ap sum_of (sym (each_letter (take (e - i) (drop i s)))) ∙ each_comes letter_of (one_of K.Char 1 0) a_letter h.1;
      }

  -- no items: padding, or nothing at all
  pub padding_comes : Ranged 0xff 0xff i e s → Comes s i e nothing_of
  padding_comes h = record { items = end; piece = padding_says s i e h.0 h.1 h.2; sum_is = sum_none }

module _ (s : List ℕ) (i : ℕ) where
  row_past : (k : Kind) (v u : ℕ) → i < length s → OneRow (get_or s i 0) (drop (i + 1) s) (word_of k) v u → Comes s i (i + 1 + u) (power_of 1 (one_of k 1 0))
  unfolding power_of
  row_past k v u h r = record { items = one r.leaf; piece = row_says s i (word_of k) v u h r; sum_is = sum_row r.leaf k r.row.kind r.row.none }

  -- one item, whose byte stands alone
  pub row_comes : (k : Kind) (v : ℕ) → i < length s → OneRow (get_or s i 0) (drop (i + 1) s) (word_of k) v 0 → Comes s i (i + 1) (power_of 1 (one_of k 1 0))
  row_comes k v h r = subst (λ e. Comes s i e (power_of 1 (one_of k 1 0))) (add-zero (i + 1)) (row_past k v 0 h r)

  -- a leap, as the code makes it
  pub leapt : (e : ℕ) (a b : Summary) → Comes s i e b → a ≡ b → (r : Option Leap) → r ≡ then_some (ltb i e) (record { upto = e; sum = a }) → Leapt s i r
  leapt e a b c h r q =
      subst (Leapt s i) (sym q)
      (split i e
      (λ l. rw (lt_true i e l) (l, subst (Comes s i e) (sym h) c))
      (λ l. rw (lt_false i e l) tt))

-- ---- integers
module _ (s : List ℕ) where
  pub ints_none : (i : ℕ) → i ≤ length s → Integers s i i 0
  ints_none i h = record { comes = record { items = end; piece = piece_none i h; sum_is = sum_none ∙ power_zero (one_of K.Int 1 0) }; few = omega arith }

  -- some, and then more
  pub ints_join : (i e f n m : ℕ) → Integers s i e n → Integers s e f m → Integers s i f (n + m)
  ints_join i e f n m a b =
      let x = a.comes in
      let y = b.comes in
      record {
        comes =
            record {
              items = join x.items y.items;
              piece = piece_join x.piece y.piece;
              sum_is = sum_join x.items y.items ∙ ap₂ plus_of x.sum_is y.sum_is ∙ power_join n m (small_of 0) (one_of K.Int 1 0) (a_small 0);
            };
        few = omega (arith, a.few, b.few);
      }

  -- one, and as many more as there are
  pub ints_smalls : (i e : ℕ) → 0x80 ≤ get_or s i 0 → get_or s i 0 ≤ 0xbf → Ranged 0x80 0xbf (i + 1) e s → Integers s i e (e - i)
  ints_smalls i e l g w =
      let p : i ≤ e = omega (arith, w.0) in
      record {
        comes =
            record {
              items = each_of small_of (take (e - i) (drop i s));
              piece = smalls_say s i e p w.1 (between_from 0x80 0xbf i e s l g w.2);
              sum_is = each_comes s i e small_of (one_of K.Int 1 0) a_small w.1;
            };
        few = omega arith;
      }

  -- n bytes, the type-byte b with them
  pub ints_long : (i b n : ℕ) → get_or s i 0 ≡ b → 0xe0 ≤ b → b ≤ 0xe7 → n ≡ 1 + following b → n ≤ length s - i → Integers s i (i + n) 1
  ints_long i b n e g l k h =
      let v : ℕ = twos 8 (integer (take (following b) (drop (i + 1) s))) in
      let f : i + 1 + following b ≡ i + n = omega arith in
      let r = long_at b (following b) v (drop (i + 1) s) g l refl (rw (length-drop (i + 1) s) (omega arith)) refl in
      record {
        comes = subst (λ m. Comes s i m (power_of 1 (one_of K.Int 1 0))) f
            (row_past s i K.Int v (following b) (omega arith) (subst (λ z. OneRow z (drop (i + 1) s) 1 v (following b)) (sym e) r));
        few = omega arith;
      }
