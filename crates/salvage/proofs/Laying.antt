-- The walk that writes: what stands in the output and in the list is what comes out of the bytes so far. Assumes nothing.
use Prim.Native.Nat.{ℕ, ◌+◌, ◌-◌, ◌*◌, ◌≤◌, ◌<◌}
use native.Mathlib.Omega.{arith}
use mathlib.Core.Path.{◌≡◌, refl, sym, ap, ap₂, ◌∙◌}
use mathlib.Core.List.{List, [], ◌∷◌, ◌++◌, append_assoc, append-nil}
use lib.ListN.{length, take, drop, set, length-append, length-take, length-drop, drop_of_length-le}
use lib.Seq.{drop-drop, length-take-le}
use Rattle.format.specs.Answers.{over}
use Rattle.format.specs.Lent.{over_at}
use Rattle.format.proofs.Parts.{rest_part, middle_part}
use Rattle.format.proofs.Over.{over_none, over_self, over_front, over_over, at_front, over_length, over_next, set_at}
use Rattle.salvage.specs.Mending.{mended, Change, change, changes_in, change_words}
use Rattle.salvage.specs.declared.parts.Amount.{Amount}
use Rattle.salvage.specs.Words.{HasRoom}
use Rattle.salvage.specs.Told.{SoundFront, BadFront, BadRest, Clean}
use Rattle.salvage.proofs.PartLaws.{mended_none, changes_at, changes_none}
use Rattle.salvage.proofs.MendedLaws.{no_changes_same, changes_fewer}
use Rattle.salvage.proofs.PartCases.{Lost, lost, kept, replaced}

-- ---- the words of changes
words_append : (a b : List Change) → change_words (a ++ b) ≡ change_words a ++ change_words b
unfolding change_words
words_append [] b = refl
words_append (c ∷ a) b = ap (λ l. c.place ∷ c.bytes ∷ c.number ∷ l) (words_append a b)

words_length : (a : List Change) → length (change_words a) ≡ 3 * length a
unfolding change_words
words_length [] = refl
words_length (c ∷ a) = omega (arith, words_length a)

one_change : (a : List Change) (c : Change) → change_words (a ++ (c ∷ [])) ≡ change_words a ++ (c.place ∷ c.bytes ∷ c.number ∷ [])
unfolding change_words
one_change a c = words_append a (c ∷ [])

-- ---- the bytes before p of the input m are done: `at` bytes came out of them, and k changes are told
pub record Laid (m o₀ t₀ o t : List ℕ) (p at k : ℕ) : Type 0 where
  pub done : List ℕ
  pub told : List Change
  pub upto : p ≤ length m
  pub out : mended m ≡ done ++ mended (drop p m)
  pub listed : changes_in m ≡ told ++ changes_at p (drop p m)
  pub done_length : length done ≡ at
  pub told_length : length told ≡ k
  pub output_is : o ≡ over done o₀
  pub list_is : t ≡ over (change_words told) t₀

pub laid_start : (m o t : List ℕ) (q : ℕ) → Clean m q → take q o ≡ take q m → Laid m o t o t q q 0
unfolding change_words
laid_start m o t q c e = record {
  done = take q m;
  told = [];
  upto = c.upto;
  out = c.out;
  listed = c.listed;
  done_length = length-take-le q m c.upto;
  told_length = refl;
  output_is = sym (ap (λ l. over l o) (sym e) ∙ over_self q o);
  list_is = sym (over_none t);
}

module _ (m o₀ t₀ o t : List ℕ) (p at k : ℕ) (s : Laid m o₀ t₀ o t p at k) (room : HasRoom m (length o₀) (length t₀)) where
  -- both are as long as they were lent
  pub same_long : (length o ≡ length o₀) × (length t ≡ length t₀)
  same_long =
      let e = ap length s.out ∙ length-append s.done (mended (drop p m)) in
      let f = ap length s.listed ∙ length-append s.told (changes_at p (drop p m)) in (
        ap length s.output_is ∙ over_length s.done o₀ (omega (arith, room.room)),
        ap length s.list_is ∙ over_length (change_words s.told) t₀ (omega (arith, room.places, words_length s.told)),
      )

  -- there is room for all that is still to come
  out_room : at + length (mended (drop p m)) ≤ length o
  out_room = omega (arith, room.room, s.done_length, ap length s.out, length-append s.done (mended (drop p m)), same_long.0)

  list_room : 3 * k + 3 * length (changes_at p (drop p m)) ≤ length t
  list_room = omega (arith, room.places, s.told_length, ap length s.listed, length-append s.told (changes_at p (drop p m)), same_long.1)

  -- changes are still to come, so bytes are
  pub some_left : k < length (changes_in m) → p < length m
  some_left h =
      let e = ap length s.listed ∙ length-append s.told (changes_at p (drop p m)) in
      omega (arith, changes_fewer p (drop p m), length-drop p m, s.told_length)

  -- a change is listed next
  listed_next : (c : Change) (y : List ℕ) → y ≡ over_at (3 * k) (c.place ∷ c.bytes ∷ c.number ∷ []) t
      → y ≡ over (change_words (s.told ++ (c ∷ []))) t₀
  listed_next c y e =
      let w : 3 * k ≡ length (change_words s.told) = omega (arith, words_length s.told, s.told_length) in
      e ∙ over_next (change_words s.told) (c.place ∷ c.bytes ∷ c.number ∷ []) t₀ t (3 * k) s.list_is w ∙ ap (λ l. over l t₀) (sym (one_change s.told c))

-- ---- one part more
module _ (m o₀ t₀ o t : List ℕ) (p at k : ℕ) (s : Laid m o₀ t₀ o t p at k) (room : HasRoom m (length o₀) (length t₀)) where
  -- the rest: it is listed, and nothing comes out of it
  module _ (h : p < length m) (e : ℕ) (f : BadRest (drop p m) e) where
    gone : Lost (drop p m) p e
    gone = lost (drop p m) p e (omega (arith, length-drop p m)) f

    pub laid_dropped : (y : List ℕ) → y ≡ over_at (3 * k) (p ∷ (length m - p) ∷ e ∷ []) t → Laid m o₀ t₀ o y (length m) at (k + 1)
    laid_dropped y i =
        let c = gone in
        let z : drop (length m) m ≡ [] = drop_of_length-le m {i = length m} (omega arith) in
        let w : p ∷ (length m - p) ∷ e ∷ [] ≡ p ∷ length (drop p m) ∷ (change p (drop p m)).number ∷ [] =
        ap₂ (λ i j. p ∷ i ∷ j ∷ []) (sym (length-drop p m)) c.number in
        record {
          done = s.done;
          told = s.told ++ (change p (drop p m) ∷ []);
          upto = omega arith;
          out = s.out ∙ ap (λ l. s.done ++ l) (c.out ∙ sym (ap mended z ∙ mended_none));
          listed = s.listed ∙ ap (λ l. s.told ++ l) c.listed ∙ sym (append-nil (s.told ++ (change p (drop p m) ∷ [])))
              ∙ ap (λ l. (s.told ++ (change p (drop p m) ∷ [])) ++ l) (sym (ap (changes_at (length m)) z ∙ changes_none (length m)));
          done_length = s.done_length;
          told_length = omega (arith, length-append s.told (change p (drop p m) ∷ []), s.told_length);
          output_is = s.output_is;
          list_is = listed_next m o₀ t₀ o t p at k s room (change p (drop p m)) y (i ∙ ap (λ l. over_at (3 * k) l t) w);
        }

  module _ (n : ℕ) where
    onward : drop n (drop p m) ≡ drop (p + n) m
    onward = drop-drop n p m

    -- bytes that are kept: they stand behind the others
    module _ (a : Amount) (f : SoundFront (drop p m) n a) where
      kept_room : at + n ≤ length o
      kept_room =
          let c = kept (drop p m) p n a f in
          let l = ap length c.out ∙ length-append (take n (drop p m)) (mended (drop n (drop p m))) in
          omega (arith, out_room m o₀ t₀ o t p at k s room, l, length-take-le n (drop p m) c.fits)

      pub kept_copy : at + length (take (p + n - p) (drop p m)) ≤ length o
      kept_copy = rw (middle_part m p n) (omega (arith, kept_room, length-take n (drop p m)))

      pub laid_kept : (y : List ℕ) → y ≡ over_at at (take (p + n - p) (drop p m)) o → Laid m o₀ t₀ y t (p + n) (at + n) k
      laid_kept y e =
          let c = kept (drop p m) p n a f in
          let b : List ℕ = take n (drop p m) in
          let l : length b ≡ n = length-take-le n (drop p m) c.fits in
          record {
            done = s.done ++ b;
            told = s.told;
            upto = omega (arith, s.upto, c.fits, length-drop p m);
            out = s.out ∙ ap (λ l. s.done ++ l) (c.out ∙ ap (λ l. b ++ mended l) onward) ∙ sym (append_assoc s.done b (mended (drop (p + n) m)));
            listed = s.listed ∙ ap (λ l. s.told ++ l) (c.listed ∙ ap (changes_at (p + n)) onward);
            done_length = omega (arith, length-append s.done b, s.done_length);
            told_length = s.told_length;
            output_is = e ∙ ap (λ l. over_at at l o) (middle_part m p n) ∙ over_next s.done b o₀ o at s.output_is (sym s.done_length);
            list_is = s.list_is;
          }

    -- an object that is replaced: an EMPTY stands there, and it is listed
    module _ (e : ℕ) (f : BadFront (drop p m) n e) where
      pub replaced_room : (at < length o) × (3 * k + 3 ≤ length t)
      replaced_room =
          let c = replaced (drop p m) p n e f in
          (omega (arith, out_room m o₀ t₀ o t p at k s room, ap length c.out), omega (arith, list_room m o₀ t₀ o t p at k s room, ap length c.listed))

      pub laid_replaced : (y : List ℕ) → y ≡ over_at (3 * k) (p ∷ n ∷ e ∷ []) t → Laid m o₀ t₀ (set o at 0xfe) y (p + n) (at + 1) (k + 1)
      laid_replaced y i =
          let c = replaced (drop p m) p n e f in
          let b : List ℕ = take n (drop p m) in
          let l : length b ≡ n = length-take-le n (drop p m) c.fits in
          let w : p ∷ n ∷ e ∷ [] ≡ p ∷ length b ∷ (change p b).number ∷ [] = ap₂ (λ i j. p ∷ i ∷ j ∷ []) (sym l) c.number in
          record {
            done = s.done ++ (0xfe ∷ []);
            told = s.told ++ (change p b ∷ []);
            upto = omega (arith, s.upto, c.fits, length-drop p m);
            out = s.out ∙ ap (λ l. s.done ++ l) (c.out ∙ ap (λ l. 0xfe ∷ mended l) onward) ∙ sym (append_assoc s.done (0xfe ∷ []) (mended (drop (p + n) m)));
            listed = s.listed ∙ ap (λ l. s.told ++ l) (c.listed ∙ ap (λ l. change p b ∷ changes_at (p + n) l) onward)
                ∙ sym (append_assoc s.told (change p b ∷ []) (changes_at (p + n) (drop (p + n) m)));
            done_length = omega (arith, length-append s.done (0xfe ∷ []), s.done_length);
            told_length = omega (arith, length-append s.told (change p b ∷ []), s.told_length);
            output_is = set_at at 0xfe o replaced_room.0 ∙ over_next s.done (0xfe ∷ []) o₀ o at s.output_is (sym s.done_length);
            list_is = listed_next m o₀ t₀ o t p at k s room (change p b) y (i ∙ ap (λ l. over_at (3 * k) l t) w);
          }

-- ---- all changes are told: what is left comes out as it is
none_left : (m o₀ t₀ o t : List ℕ) (p at k : ℕ) → Laid m o₀ t₀ o t p at k → length (changes_in m) ≤ k → changes_at p (drop p m) ≡ []
none_left m o₀ t₀ o t p at k s h =
    let e = ap length s.listed ∙ length-append s.told (changes_at p (drop p m)) in
    go (changes_at p (drop p m)) (omega (arith, s.told_length))
  where
    go : (l : List Change) → length l ≡ 0 → l ≡ []
    go [] z = refl
    go (c ∷ l) z = absurd (omega arith)

module _ (m o₀ t₀ o t : List ℕ) (p at k : ℕ) (s : Laid m o₀ t₀ o t p at k) (h : length (changes_in m) ≤ k) where
  left_out : mended (drop p m) ≡ drop p m
  left_out = no_changes_same p (drop p m) (none_left m o₀ t₀ o t p at k s h)

  pub end_room : HasRoom m (length o₀) (length t₀) → at + length (take (length m - p) (drop p m)) ≤ length o
  end_room room = rw (rest_part m p, sym left_out) (out_room m o₀ t₀ o t p at k s room)

  pub end_out : (y : List ℕ) → y ≡ over_at at (take (length m - p) (drop p m)) o → y ≡ over (mended m) o₀
  end_out y e =
      e ∙ ap (λ l. over_at at l o) (rest_part m p) ∙ over_next s.done (drop p m) o₀ o at s.output_is (sym s.done_length)
      ∙ ap (λ l. over l o₀) (sym (s.out ∙ ap (λ l. s.done ++ l) left_out))

  pub end_list : t ≡ over (change_words (changes_in m)) t₀
  end_list =
      s.list_is
      ∙ ap (λ l. over (change_words l) t₀) (sym (s.listed ∙ ap (λ l. s.told ++ l) (none_left m o₀ t₀ o t p at k s h) ∙ append-nil s.told))

-- ---- what stands before the first change, and then the rest
module _ (m : List ℕ) (q : ℕ) (c : Clean m q) where
  front_length : q ≡ length (take q m)
  front_length = sym (length-take-le q m c.upto)

  out_longer : length (take q m) ≤ length (mended m)
  out_longer = omega (arith, ap length c.out, length-append (take q m) (mended (drop q m)))

  module _ (o₀ o : List ℕ) (e : o ≡ over_at 0 (take q m) o₀) where
    front_is : o ≡ over (take q m) o₀
    front_is = e ∙ at_front (take q m) o₀

    pub front_there : take q o ≡ take q m
    front_there = ap (take q) front_is ∙ over_front (take q m) o₀ q front_length

    pub front_out : (y : List ℕ) → y ≡ over (mended m) o → y ≡ over (mended m) o₀
    front_out y i = i ∙ ap (over (mended m)) front_is ∙ over_over (take q m) (mended m) o₀ out_longer
