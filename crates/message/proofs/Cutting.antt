-- Ask 13: "A cut sheet is always known for one." Theorems about the functions that the contracts of the public operations cite, as in
-- Demands.antt. The words used are in the format's specs/Extents.antt and in specs/Words.antt. Assumes nothing.
use Prim.Native.Nat.{ℕ, ◌+◌, ◌-◌, ◌≤◌, ◌<◌, min}
use mathlib.Core.Path.{◌≡◌, refl, sym, ap, ◌∙◌, subst}
use mathlib.Core.Logic.{◌≢◌}
use mathlib.Core.List.{List, ◌++◌}
use native.Mathlib.Omega.{arith}
use lib.ListN.{length, take, drop, get_or, length-append, length-drop, take-append-drop}
use lib.Seq.{length-take-le, take_all, take_at, get_or-take}
use Rattle.format.specs.declared.Class.TheVariants.{Repeat}
use Rattle.format.specs.Choice.{if_eq}
use Rattle.format.specs.Refusals.{wants, byte_limit}
use Rattle.format.specs.Items.{Items}
use Rattle.format.specs.Classes.{class_of}
use Rattle.format.specs.Tables.{count, table_of}
use Rattle.format.specs.Normal.{normal}
use Rattle.format.specs.Answers.{Reading, reading, Writing, writing, then_written, normalising}
use Rattle.format.specs.Extents.{OneObject, Cut, Keeps, wanting}
use Rattle.format.proofs.Choices.{split}
use Rattle.format.proofs.TableLaws.{table_length, lawful_proper}
use Rattle.format.proofs.Single.{one_item, one_no_repeat, normal_one}
use Rattle.format.proofs.Cuts.{wanting_whole, wanting_first, wanting_field, one_field, wanting_cut, cut_outcome, then_there, then_fits, thrice}
use Rattle.message.specs.Words.{Says, Accepted, cut_answer, arrived}
use Rattle.message.proofs.Cases.{not_both, read_by, read_fault}
use Rattle.message.proofs.Demands.{accepted_exactly, accepted_table, written_exactly, written_normal}
use Rattle.message.proofs.Joining.{joined_refused}

-- A message is at most 65,536 bytes long, and what is told missing is not more than was cut off: so it is told as it is.
uncapped : (k n : ℕ) → k ≤ n → n ≤ byte_limit → min k byte_limit ≡ k
uncapped k n p q = omega arith

-- The whole answer, for any table lent, whether the message is accepted or not: an outermost REPEAT alone is refused by its type-byte.
pub cut_anyhow : (m c e u : List ℕ) (h : ℕ) → OneObject m h → Cut m c e → length m ≤ byte_limit → class_of (get_or m 0 0) ≢ Repeat
    → reading c u ≡ cut_answer (wanting h (length c) (length e)) u
cut_anyhow m c e u h o k short no_repeat =
    let w = wanting h (length c) (length e) in
    let l = ap length k.parts ∙ length-append c e in
    read_fault c u (wants 2 w) (omega arith) (cut_outcome m c e h o no_repeat k)
    ∙ ap (λ j. cut_answer j u) (uncapped w (length e) (wanting_cut m c e h o k).1 (omega arith))

module _ (m c e t u : List ℕ) (h : ℕ) (accepted : Accepted m t) (o : OneObject m h) (k : Cut m c e) where
  -- "Every beginning of it that has at least one byte and is not the whole is refused with 2 at place 0." The whole answer, for any table
  -- lent; the bytes told missing are those of Ask 2's rule.
  pub cut_known : reading c u ≡ cut_answer (wanting h (length c) (length e)) u
  cut_known =
      let x = (accepted_exactly m t).0 accepted in
      cut_anyhow m c e u h o k x.1.short (one_no_repeat m h x.0 o x.1.said)

  -- "Where the cut keeps the whole size field, or the type-byte of an object of fixed length, the missing bytes told are exactly those cut off."
  pub cut_told : Keeps c h → reading c u ≡ cut_answer (length e) u
  cut_told l = cut_known ∙ ap (λ n. cut_answer n u) (wanting_whole h (length c) (length e) (omega arith))

  -- Where it does not, as many are told as wait behind it of the size field itself, one where only the type-byte is left.
  pub cut_first : 0 < h → length c ≡ 1 → reading c u ≡ cut_answer 1 u
  cut_first p l = cut_known ∙ ap (λ n. cut_answer n u) (ap (λ n. wanting h n (length e)) l ∙ wanting_first h (length e) p)

  pub cut_in_size : 1 < length c → length c ≤ h → reading c u ≡ cut_answer (1 + h - length c) u
  cut_in_size p l = cut_known ∙ ap (λ n. cut_answer n u) (wanting_field h (length c) (length e) p l)

  -- So some are told, and never more than were cut off.
  pub cut_some : (0 < (reading c u).missing) × ((reading c u).missing ≤ length e)
  cut_some = subst (λ (r : Reading). (0 < r.missing) × (r.missing ≤ length e)) (sym cut_known) (wanting_cut m c e h o k)

  -- Normalising is refused alike, and leaves the output as lent too.
  pub cut_unwritten : (p : List ℕ) → normalising c u p
      ≡ record { number = 2; place = 0; words = 0; length = 0; missing = wanting h (length c) (length e); table = u; output = p }
  unfolding normalising then_written if_eq
  cut_unwritten p = ap (λ r. then_written r p) cut_known

  -- The last sheet of a batch: behind an accepted message a the answer is the same, its place a's length.
  pub cut_batch : (a v w : List ℕ) → Accepted a v → length a + length c ≤ byte_limit
      → reading (a ++ c) w ≡ record { number = 2; place = length a; words = 0; missing = wanting h (length c) (length e); table = w }
  cut_batch a v w b l =
      let n : (reading c u).number ≡ 2 = ap (λ (r : Reading). r.number) cut_known in
      let z : length a + 0 ≡ length a = omega arith in
      let told : (i j k : ℕ) → Reading = λ i j k. record { number = i; place = j; words = 0; missing = k; table = w } in
      joined_refused a c v u w b (omega arith) (omega arith) l
      ∙ ap (λ (r : Reading). told r.number (length a + r.place) r.missing) cut_known
      ∙ ap (λ j. told 2 j (wanting h (length c) (length e))) z

-- An object of one byte has no such beginning.
pub one_byte_uncut : (m c e : List ℕ) → length m ≡ 1 → ¬ Cut m c e
one_byte_uncut m c e l k = omega (arith, ap length k.parts, length-append c e, k.left, k.lost)

-- ---- the desk's wait: whoever waits for as many bytes as were told missing, and reads again
-- nothing is told missing of the whole, whatever table is lent
whole_none : (m u : List ℕ) (xs : Items) → Says m xs → (reading m u).missing ≡ 0
whole_none m u xs s =
    read_by m u (λ (r : Reading). r.missing ≡ 0) (λ h. refl) (λ f l e. absurd (not_both m xs f s e)) (λ ys l e h. refl) (λ ys d h. refl) (λ ys d. refl)

module _ (m t : List ℕ) (h : ℕ) (accepted : Accepted m t) (o : OneObject m h) where
  arrived_is : (u : List ℕ) (k : ℕ) → 0 < k → k ≤ length m → arrived m k u ≡ then_there h (length m) k
  arrived_is u k p q =
      split k (length m)
      (λ l.
      let a = length-take-le k m q in
      let b = length-drop k m in
      let c : Cut m (take k m) (drop k m) = record { parts = sym (take-append-drop k m); left = omega arith; lost = omega arith } in
      let w = ap (λ (r : Reading). r.missing) (cut_known m (take k m) (drop k m) t u h accepted o c) in
      ap (λ n. k + n) (w ∙ ap (λ n. wanting h n (length (drop k m))) a ∙ ap (wanting h k) b))
      (λ l.
      let x = (accepted_exactly m t).0 accepted in
      let e : take k m ≡ m = take_all k m l in
      let z : (reading (take k m) u).missing ≡ 0 = ap (λ (c : List ℕ). (reading c u).missing) e ∙ whole_none m u x.0 x.1.said in
      omega (arith, wanting_whole h k (length m - k) (omega (arith, one_field m h o))))

  -- The whole message is there after three waits at the most, from one byte on, whatever tables are lent.
  pub three_waits : (u v w : List ℕ) (k : ℕ) → 0 < k → k ≤ length m → arrived m (arrived m (arrived m k u) v) w ≡ length m
  three_waits u v w k p q =
      let l = length m in
      let i = then_there h l k in
      let f = one_field m h o in
      let a = then_fits h l k p q f in
      let b = then_fits h l i a.0 a.1 f in
      ap (λ n. arrived m (arrived m n v) w) (arrived_is u k p q) ∙ ap (λ n. arrived m n w) (arrived_is v i a.0 a.1)
      ∙ arrived_is w (then_there h l i) b.0 b.1 ∙ thrice h l k p q f

-- ---- which messages these are
-- One object says one item: the table's word 1, "the number of outermost items".
pub one_told : (m t : List ℕ) (h : ℕ) → Accepted m t → OneObject m h → get_or (reading m t).table 1 0 ≡ 1
unfolding table_of
one_told m t h a o =
    let x = (accepted_exactly m t).0 a in
    ap (λ (r : Reading). get_or r.table 1 0) (accepted_table m t x.0 x.1) ∙ one_item m h x.0 o x.1.said

-- And what is written of a table of one item is one object: so all this holds of every such message that the library itself wrote.
pub one_written : (w o : List ℕ) → (writing w o).number ≡ 0 → get_or w 1 0 ≡ 1 → (h : ℕ) × OneObject (take (writing w o).length (writing w o).output) h
unfolding table_of
one_written w o z e =
    let x = (written_exactly w o).0 z in
    let xs = x.0 in
    let i = x.1 in
    let l = table_length xs in
    let n : count xs ≡ 1 = sym (ap (λ l. get_or l 1 0) i.exact) ∙ get_or-take (length (table_of xs)) w 1 0 (omega arith) ∙ e in
    let r = ap (λ (r : Writing). take r.length r.output) (written_normal w o xs i x.2) ∙ take_at (normal xs) (drop (length (normal xs)) o) (length (normal xs)) refl in
    let y = normal_one xs n (lawful_proper xs i.lawful) x.2.shallow x.2.short in
    (y.0, subst (λ b. OneObject b y.0) (sym r) y.1)
