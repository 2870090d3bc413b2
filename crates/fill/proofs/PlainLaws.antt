-- An object that is no container: its rows and its data words, by its head. Assumes nothing.
use Rattle.std.proofs.Common.{◌≡◌, ℕ, suc, ◌+◌, ◌-◌, ◌/◌, ◌<◌, ◌≤◌, Bool, Ok, List, [], ◌∷◌, ◌++◌, length, take, drop, sym, refl, ap, ◌∙◌, subst, append-nil, arith, ◌⊎◌, inl, inr}
use Rattle.format.specs.Bits.{spread, packed, bytes_for, words_for}
use Rattle.format.specs.Items.{Leaf, bits, Items, end, one, leaf_kind}
use Rattle.format.specs.Tables.{count, rows, in_words, leaf_words, data_words, leaf_a, leaf_b, row_words}
use Rattle.format.specs.Answers.{over}
use Rattle.format.specs.Objects as O
use Rattle.format.specs.Messages.{Outcome, got, object, reads}
use Rattle.format.proofs.Choices.{split}
use Rattle.format.specs.Runs.{object_at}
use Rattle.format.proofs.BitLaws.{packed_length}
use Rattle.format.specs.declared.kinds.Kind.{Kind}
use Rattle.format.specs.Kinds.{word_of}
use Rattle.wire.specs.declared.size.Extent.{Extent}
use Rattle.wire.specs.declared.head.Wrap.{Wrap}
use Rattle.wire.specs.declared.head.Head.{Head}
use Rattle.wire.specs.declared.head.Head.TheVariants.{Gap, Row, Sbits, Lbits, Text, Open}
use Rattle.wire.specs.Heads.{HeadIs, IsRow, IsSbits, bits_from}
use Rattle.fill.specs.Plain.{Apt, plain_rows, plain_words, placed_as, plain_placed}
use Rattle.wire.proofs.HeadLaws.{lbits_length}

-- ---- what a head has shown: the items xs, and u bytes past the type-byte
pub record Shown (s : List ℕ) (h : Head) (xs : Items) (u : ℕ) : Type 0 where
  pub rows_are : (base : ℕ) → row_words base xs ≡ plain_rows s base h
  pub words_are : data_words xs ≡ plain_words s h
  pub placed_is : plain_placed h ≡ placed_as (rows xs) (count xs) (length (data_words xs)) u

shown_gap : (s : List ℕ) → Shown s Gap end 0
unfolding row_words plain_rows data_words plain_words plain_placed rows count
shown_gap s = record { rows_are = λ base. refl; words_are = refl; placed_is = refl }

shown_row : (s : List ℕ) (l : Leaf) (k : Kind) (v u : ℕ) → IsRow l (word_of k) v → Shown s (Row k v u) (one l) u
unfolding row_words plain_rows data_words plain_words plain_placed rows count
shown_row s l k v u r =
    let d : leaf_words l ++ [] ≡ [] = append-nil (leaf_words l) ∙ r.none in
    record {
      rows_are = λ base. rw (r.kind, r.first, r.last base) refl;
      words_are = d;
      placed_is = ap (λ n. placed_as 1 1 n u) (sym (ap length d));
    }

-- a BITS, whose words are w
shown_bits : (s : List ℕ) (h : Head) (bs : List Bool) (n u : ℕ) → length bs ≡ n → plain_words s h ≡ packed 64 (words_for n) bs
    → ((base : ℕ) → plain_rows s base h ≡ 2 ∷ n ∷ base ∷ []) → plain_placed h ≡ placed_as 1 1 (words_for n) u → Shown s h (one (bits bs)) u
unfolding row_words data_words rows count leaf_kind leaf_a leaf_b leaf_words in_words
shown_bits s h bs n u e w r p =
    let d : packed 64 (words_for (length bs)) bs ++ [] ≡ packed 64 (words_for n) bs = append-nil (packed 64 (words_for (length bs)) bs) ∙ ap (λ m. packed 64 (words_for m) bs) e in
    record {
      rows_are = λ base. ap (λ m. 2 ∷ m ∷ base ∷ []) e ∙ sym (r base);
      words_are = d ∙ sym w;
      placed_is = p ∙ ap (λ m. placed_as 1 1 m u) (sym (ap length d ∙ packed_length 64 (words_for n) bs));
    }

sbits_words : (bs : List Bool) (n w : ℕ) → IsSbits bs n w → take (words_for n) (w ∷ []) ≡ packed 64 (words_for n) bs
unfolding words_for packed
sbits_words bs n w r =
    split 0 n
    (λ p. let e : (n + 63) / 64 ≡ 1 = omega arith in rw e (ap (λ v. v ∷ []) (sym r.word)))
    (λ z. let e : (n + 63) / 64 ≡ 0 = omega arith in rw e refl)

-- ---- by the code's head
pub head_apt : (s : List ℕ) (h : Head) (m : O.Head) → HeadIs s (Ok h) m → Apt s h
unfolding Apt
head_apt s Gap m e = tt
head_apt s (Row k v u) m e = tt
head_apt s (Sbits n w u) m e = e.2.few
head_apt s (Lbits a n u) m e = (e.1, e.2)
head_apt s (Text x) m e = tt
head_apt s (Open w x) m e = tt

module _ (s : List ℕ) (inside : ℕ → ℕ → Outcome) (xs : Items) (u : ℕ) where
  given : (h : Head) (m : O.Head) (ys : Items) (v : ℕ) → m ≡ O.gives ys v → object inside m ≡ got xs u → Shown s h ys v → Shown s h xs u
  unfolding object
  given h m ys v e f r =
      let p : ys ≡ xs = cc in
      let q : v ≡ u = cc in
      subst (λ z. Shown s h z u) p (subst (Shown s h ys) q r)

  plain_shown : (h : Head) (m : O.Head) → ((x : Extent) → h ≡ Text x → ⊥) → ((w : Wrap) (x : Extent) → h ≡ Open w x → ⊥) → HeadIs s (Ok h) m → object inside m ≡ got xs u → Shown s h xs u
  unfolding object plain_words plain_rows plain_placed
  plain_shown Gap m nt ko e f = given Gap m end 0 e f (shown_gap s)
  plain_shown (Row k v w) m nt ko e f = given (Row k v w) m (one e.0) w e.1 f (shown_row s e.0 k v w e.2)
  plain_shown (Sbits n w v) m nt ko e f =
      given (Sbits n w v) m (one (bits e.0)) v e.1 f
      (shown_bits s (Sbits n w v) e.0 n v e.2.many (sbits_words e.0 n w e.2) (λ base. refl) refl)
  plain_shown (Lbits a n v) m nt ko e f =
      given (Lbits a n v) m (one (bits (bits_from s a n))) v e.0 f
      (shown_bits s (Lbits a n v) (bits_from s a n) n v (lbits_length s a n (omega arith)) refl (λ base. refl) refl)
  plain_shown (Text x) m nt ko e f = absurd (nt x refl)
  plain_shown (Open w x) m nt ko e f = absurd (ko w x refl)

-- the head of an SBITSTR is neither
pub sbits_no_text : (n w u : ℕ) (x : Extent) → Sbits n w u ≡ Text x → ⊥
sbits_no_text n w u x e = let z : ◌≡◌ {A = ℕ} 0 1 = cc in absurd (omega arith)

pub sbits_no_open : (n w u : ℕ) (v : Wrap) (x : Extent) → Sbits n w u ≡ Open v x → ⊥
sbits_no_open n w u v x e = let z : ◌≡◌ {A = ℕ} 0 1 = cc in absurd (omega arith)

pub object_shown : (d b : ℕ) (s : List ℕ) (xs : Items) (u : ℕ) → object_at d b s ≡ got xs u → (h : Head) → ((x : Extent) → h ≡ Text x → ⊥) → ((w : Wrap) (x : Extent) → h ≡ Open w x → ⊥) → HeadIs s (Ok h) (O.head_of d b s)
    → Shown s h xs u
unfolding object_at
object_shown d b s xs u f h nt ko e = plain_shown s (λ i n. reads (suc d) (O.contents s i n)) xs u h (O.head_of d b s) nt ko e f

-- a bit string of n bits, in one word or in many
pub record BitsHead (s : List ℕ) (h : Head) (n u : ℕ) : Type 0 where
  pub rows_are : (base : ℕ) → plain_rows s base h ≡ 2 ∷ n ∷ base ∷ []
  pub placed_is : plain_placed h ≡ placed_as 1 1 ((n + 63) / 64) u
  pub few : Apt s h → length s ≤ 65536 → n ≤ 524288

pub bits_head : (s : List ℕ) (h : Head) (n u : ℕ) → ((w : ℕ) × (h ≡ Sbits n w u)) ⊎ ((a : ℕ) × (h ≡ Lbits a n u)) → BitsHead s h n u
unfolding plain_rows plain_placed words_for bytes_for Apt
bits_head s h n u (inl e) = rw e.1 (record { rows_are = λ base. refl; placed_is = refl; few = λ a l. omega arith })
bits_head s h n u (inr e) = rw e.1 (record { rows_are = λ base. refl; placed_is = refl; few = λ a l. omega arith })

-- a head that writes no row, or no data words
pub no_rows : (s : List ℕ) (h : Head) → ((k : Kind) (v u : ℕ) → h ≡ Row k v u → ⊥) → ((n w u : ℕ) → h ≡ Sbits n w u → ⊥) → ((a n u : ℕ) → h ≡ Lbits a n u → ⊥) → (plain_placed h ≡ placed_as 0 0 0 0) × ((base : ℕ) → plain_rows s base h ≡ [])
unfolding plain_placed plain_rows
no_rows s Gap nr ns nl = (refl, λ base. refl)
no_rows s (Row k v u) nr ns nl = absurd (nr k v u refl)
no_rows s (Sbits n w u) nr ns nl = absurd (ns n w u refl)
no_rows s (Lbits a n u) nr ns nl = absurd (nl a n u refl)
no_rows s (Text x) nr ns nl = (refl, λ base. refl)
no_rows s (Open w x) nr ns nl = (refl, λ base. refl)

pub no_words : (s : List ℕ) (h : Head) → ((n w u : ℕ) → h ≡ Sbits n w u → ⊥) → ((a n u : ℕ) → h ≡ Lbits a n u → ⊥) → plain_words s h ≡ []
unfolding plain_words
no_words s Gap ns nl = refl
no_words s (Row k v u) ns nl = refl
no_words s (Sbits n w u) ns nl = absurd (ns n w u refl)
no_words s (Lbits a n u) ns nl = absurd (nl a n u refl)
no_words s (Text x) ns nl = refl
no_words s (Open w x) ns nl = refl

-- ---- the data words of an SBITSTR, none or one
pub sbits_none : (s : List ℕ) (n w u : ℕ) → n ≡ 0 → plain_words s (Sbits n w u) ≡ []
unfolding plain_words words_for
sbits_none s n w u e = rw e refl

pub sbits_one : (s : List ℕ) (n w u : ℕ) → 0 < n → n ≤ 63 → plain_words s (Sbits n w u) ≡ w ∷ []
unfolding plain_words words_for
sbits_one s n w u z h = let e : (n + 63) / 64 ≡ 1 = omega arith in rw e refl

-- of an LBITSTR, as the code lends its bytes
pub lbits_words : (s : List ℕ) (a n u : ℕ) (t : List ℕ) → a + bytes_for n ≡ u
    → over (packed 64 (words_for n) (take n (spread 8 (take (u - a) (drop a s))))) t ≡ over (plain_words s (Lbits a n u)) t
unfolding plain_words
lbits_words s a n u t e =
    let d : u - a ≡ bytes_for n = omega arith in
    ap (λ m. over (packed 64 (words_for n) (take n (spread 8 (take m (drop a s))))) t) d
