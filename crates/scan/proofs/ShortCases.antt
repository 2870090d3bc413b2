-- Containers and strings whose size is one byte: what the scan answers is what the meaning says. Assumes nothing.
use Prim.Native.Nat.{ℕ, suc, ◌+◌, ◌-◌, ◌≤◌, ◌<◌, zero-le}
use native.Mathlib.Omega.{arith}
use native.Mathlib.Nat.{le_refl}
use native.Mathlib.Numerals.{add-one}
use mathlib.Core.Path.{◌≡◌, refl, sym, ap, ◌∙◌, subst}
use mathlib.Core.Logic.{◌≢◌}
use mathlib.Core.List.{List}
use lib.ListN.{length, take, drop, get_or}
use lib.Seq.{drop-drop}
use mathlib.Core.Bool.{Bool, true, false}
use Rattle.format.specs.Classes.{class_of}
use Rattle.format.specs.declared.Class.TheVariants as C
use Rattle.format.proofs.Choices.{clash}
use Rattle.std.specs.Prelude.{Result, Ok, Err}
use Rattle.format.specs.declared.kinds.Kind.TheVariants as K
use Rattle.format.specs.Choice.{if_eq}
use Rattle.format.specs.Refusals.{Fault, further}
use Rattle.format.specs.Items.{Items, end, group, struc, join}
use Rattle.format.specs.Objects as O
use Rattle.format.specs.Messages.{got, around, object, reads, says}
use Rattle.format.proofs.Choices.{split_eq, eq_false, if_eq_no}
use Rattle.format.proofs.Parts.{rest_part}
use Rattle.format.proofs.Sizes.{contents_length}
use Rattle.format.specs.Runs.{object_at}
use Rattle.format.proofs.Runs.{upto_none, upto_piece, upto_end}
use Rattle.wire.specs.Ranges.{Between}
use Rattle.wire.specs.Heads.{wrap_by, short_head, ShortAt, wrap_of}
use Rattle.scan.specs.declared.summary.Summary.{Summary}
use Rattle.scan.specs.Sums.{sum_of, one_of, text_of, plus_of, power_of}
use Rattle.scan.specs.Answer.{answer, answer_object, fault_of, closed_by, closed_of}
use Rattle.scan.specs.Shorts.{short_object, as_object}
use Rattle.scan.proofs.SumLaws.{sum_text}
use Rattle.scan.proofs.Told.{refused_run, accepted_run}
use Rattle.format.proofs.Bounds.{RunWithin, reads_within}
use Rattle.scan.proofs.Turns.{Inv, bad_turn, got_turn}
use Rattle.scan.proofs.Stretches.{chars_come}
use Rattle.scan.proofs.Closings.{closed_answer, closed_err, closed_ok, chars_closed}

-- contents that are all CHARs
chars_say : (d : ℕ) (c : List ℕ) → Between 0 0x7f 0 (length c) c → (xs : Items) × (reads d c ≡ says xs) × (sum_of xs ≡ power_of (length c) (one_of K.Char 1 0))
unfolding join
chars_say d c w =
    let z : length c - 0 ≡ length c = omega arith in
    let x = chars_come c 0 (length c) (zero-le, le_refl (length c), w) in
    (x.items, upto_end (upto_piece (upto_none d c) x.piece) (le_refl (length c)), x.sum_is ∙ ap (λ n. power_of n (one_of K.Char 1 0)) z)

-- a test for a STRING that failed
pub no_string : (b : ℕ) (t : Bool) → (class_of b ≡ C.String → t ≡ true) → t ≡ false → b ≢ 0xc6
unfolding class_of
no_string b t h f e = clash t (h (ap class_of e)) f

-- ---- one such object, by its contents c
module _ (d b : ℕ) (c : List ℕ) where
  abbrev pub Is : Result Summary Fault → Type 0
  Is r = as_object (1 + length c) r ≡ answer_object (short_object d b c)

  pub string_is : b ≡ 0xc6 → length c ≤ 127 → (a : Summary) → a ≡ text_of (length c) → Is (Ok a)
  unfolding answer_object short_object
  string_is e h a f = rw e (ap (λ z. Ok (z, 1 + length c)) (f ∙ sym (sum_text c (length c) refl (omega arith))))

  -- a container
  module _ (n : b ≢ 0xc6) where
    as_around : short_object d b c ≡ around (wrap_of (wrap_by b)) 1 (length c) (reads (d + 1) c)
    unfolding short_object
    as_around = if_eq_no b 0xc6 _ _ n ∙ ap (λ k. around (wrap_of (wrap_by b)) 1 (length c) (reads k c)) (sym (add-one d))

    closes : (xs : Items) → reads (d + 1) c ≡ says xs → Is (closed_of (wrap_by b) (sum_of xs))
    unfolding around
    closes xs e = sym (ap answer_object (as_around ∙ ap (around (wrap_of (wrap_by b)) 1 (length c)) e) ∙ closed_answer (wrap_by b) (1 + length c) xs)

    -- of CHARs alone: refused as it would be for one CHAR, and else a string
    module _ (g : 0 < length c) (h : length c ≤ 127) (m : Between 0 0x7f 0 (length c) c) (r : Result Summary Fault) (e : r ≡ closed_of (wrap_by b) (one_of K.Char 1 0)) where
      abbrev One : Summary → Result Summary Fault
      One a = closed_by (fault_of (wrap_by b) (one_of K.Char 1 0)) a

      chars_are : Is (One (text_of (length c)))
      chars_are = let x = chars_say (d + 1) c m in ap (as_object (1 + length c)) (chars_closed b (length c) g h (sum_of x.0) x.2) ∙ closes x.0 x.1

      pub chars_refused : (f : Fault) → r ≡ Err f → Is (Err f)
      chars_refused f y = ap (as_object (1 + length c)) (sym (closed_err _ _ _ f (sym e ∙ y))) ∙ chars_are

      pub chars_accepted : (x a : Summary) → r ≡ Ok x → a ≡ text_of (length c) → Is (Ok a)
      chars_accepted x a y f = ap (as_object (1 + length c)) (ap Ok f ∙ sym (closed_ok _ _ _ x (sym e ∙ y))) ∙ chars_are

    pub elements_are : (a : Summary) → Ok a ≡ answer (reads (d + 1) c) → Is (closed_of (wrap_by b) a)
    elements_are a y = let x = accepted_run a (reads (d + 1) c) y in rw x.2 (closes x.0 x.1)

    pub short_place : (f : Fault) → Err f ≡ answer (reads (d + 1) c) → f.place < length c
    short_place f y = (subst (RunWithin (d + 1) (length c)) (refused_run f (reads (d + 1) c) y) (reads_within (d + 1) c)).0

    pub short_refused : (f : Fault) → Err f ≡ answer (reads (d + 1) c) → Is (Err (further 2 f))
    unfolding around answer_object
    short_refused f y = sym (ap answer_object (as_around ∙ ap (around (wrap_of (wrap_by b)) 1 (length c)) (refused_run f (reads (d + 1) c) y)))

-- ---- where the run's loop finds one
short_at : (d b : ℕ) (s : List ℕ) (n : ℕ) → ShortAt d b s n → object_at d b s ≡ short_object d b (O.contents s 1 n)
unfolding object_at object short_head short_object
short_at d b s n a = ap (object (λ h m. reads (suc d) (O.contents s h m))) a.head ∙ go (length (O.contents s 1 n)) (sym (contents_length s 1 n a.within))
  where
    go : (l : ℕ) → n ≡ l → object (λ h m. reads (suc d) (O.contents s h m)) (short_head b s n)
        ≡ if_eq b 0xc6 (got (group struc (O.characters (O.contents s 1 n)) end) (1 + l)) (around (wrap_of (wrap_by b)) 1 l (reads (suc d) (O.contents s 1 n)))
    go l e = rw (← e) (split_eq b 0xc6 (λ f. rw f refl) (λ m. rw (eq_false b 0xc6 m) refl))

module _ (d : ℕ) (s : List ℕ) (i n : ℕ) (h : i < length s) (a : ShortAt d (get_or s i 0) (take (length s - (i + 1)) (drop (i + 1) s)) n) where
  -- its contents, as the code lends them on
  abbrev inside : List ℕ
  inside = take (i + 2 + n - (i + 2)) (drop (i + 2) s)

  inside_is : inside ≡ O.contents (take (length s - (i + 1)) (drop (i + 1) s)) 1 n
  unfolding O.contents
  inside_is =
      let e : i + 2 + n - (i + 2) ≡ n = omega arith in
      let f : i + 1 + 1 ≡ i + 2 = omega arith in
      rw (e, rest_part s (i + 1), drop-drop 1 (i + 1) s, f) refl

  short_size : length inside ≡ n
  short_size = ap length inside_is ∙ contents_length (take (length s - (i + 1)) (drop (i + 1) s)) 1 n a.within

  short_here : (r : Result Summary Fault) → Is d (get_or s i 0) inside r → as_object (1 + n) r ≡ answer_object (object_at d (get_or s i 0) (take (length s - (i + 1)) (drop (i + 1) s)))
  short_here r e =
      ap (λ k. as_object (1 + k) r) (sym short_size) ∙ e ∙ ap (λ l. answer_object (short_object d (get_or s i 0) l)) inside_is
      ∙ ap answer_object (sym (short_at d (get_or s i 0) (take (length s - (i + 1)) (drop (i + 1) s)) n a))

  module _ (x : Summary) (v : Inv d s i x) where
    pub bad_short : (f : Fault) → Is d (get_or s i 0) inside (Err f) → (i + f.place < length s) × (Err (further i f) ≡ answer (reads d s))
    bad_short f y = bad_turn d s i x v h f (short_here (Err f) y)

    pub got_short : (z : Summary) → Is d (get_or s i 0) inside (Ok z) → (c : Summary) → c ≡ plus_of x z → Inv d s (i + 2 + n) c
    got_short z y c g =
        let k : i + 1 + (1 + n) ≡ i + 2 + n = omega arith in
        subst (λ j. Inv d s j c) k (got_turn d s i x v h z (1 + n) (short_here (Ok z) y) c g)
