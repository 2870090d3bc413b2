-- One object: what the scan answers is what the meaning says, by what its head is. Assumes nothing.
use Prim.Native.Nat.{ℕ, suc, ◌+◌, ◌*◌, ◌/◌, ◌≤◌, ◌<◌}
use native.Mathlib.Omega.{arith}
use native.Mathlib.Numerals.{add-one}
use mathlib.Core.Path.{◌≡◌, sym, ap, ap₂, ◌∙◌, subst}
use mathlib.Core.List.{List}
use lib.ListN.{length}
use Rattle.std.specs.Prelude.{Result, Ok, Err}
use Rattle.format.specs.declared.kinds.Kind.{Kind}
use Rattle.format.specs.declared.kinds.Kind.TheVariants as K
use Rattle.format.specs.Bits.{bytes_for, words_for}
use Rattle.format.specs.Refusals.{Fault, further}
use Rattle.format.specs.Items.{Items, end, group, struc, one, bits}
use Rattle.format.specs.Objects as O
use Rattle.format.specs.Messages.{around, object, reads}
use Rattle.format.proofs.Sizes.{contents_length}
use Rattle.format.specs.Runs.{object_at}
use Rattle.format.specs.declared.fault.Fault as F
use Rattle.format.specs.Refused.{meant}
use Rattle.wire.specs.declared.size.Extent.{Extent}
use Rattle.wire.specs.declared.head.Wrap.{Wrap}
use Rattle.wire.specs.declared.head.Head.{Head}
use Rattle.wire.specs.declared.head.Head.TheVariants.{Gap, Row, Sbits, Lbits, Text, Open}
use Rattle.wire.specs.Heads.{HeadIs, BitsAt, marked_word, bits_from, wrap_of}
use Rattle.scan.specs.declared.summary.Summary.{Summary}
use Rattle.scan.specs.Sums.{sum_of, nothing_of, one_of, text_of}
use Rattle.scan.specs.Answer.{answer, answer_object, closed_of}
use Rattle.scan.specs.Shorts.{as_object}
use Rattle.scan.proofs.SumLaws.{sum_none, sum_row, sum_bits, sum_text}
use Rattle.scan.proofs.Closings.{closed_answer}
use Rattle.scan.proofs.Told.{refused_run, accepted_run}
use Rattle.format.proofs.Bounds.{HeadWithin, head_within, RunWithin, reads_within}
use Rattle.wire.proofs.HeadLaws.{lbits_length}

-- ---- the cases of a head, as the code has them
module _ (d b : ℕ) (s : List ℕ) where
  abbrev pub Says : Result Head F.Fault → Type 0
  Says r = HeadIs s r (O.head_of d b s)

  as_head : (h : O.Head) → O.head_of d b s ≡ h → object_at d b s ≡ object (λ a n. reads (suc d) (O.contents s a n)) h
  unfolding object_at
  as_head h e = ap (object (λ a n. reads (suc d) (O.contents s a n))) e

  given : (xs : Items) (u : ℕ) (a : Summary) → O.head_of d b s ≡ O.gives xs u → a ≡ sum_of xs → Ok (a, u) ≡ answer_object (object_at d b s)
  unfolding object answer_object
  given xs u a e f = ap (λ z. Ok (z, u)) f ∙ sym (ap answer_object (as_head (O.gives xs u) e))

  pub stop_is : (f : F.Fault) → Says (Err f) → Err (meant f) ≡ answer_object (object_at d b s)
  unfolding object answer_object
  stop_is f x = sym (ap answer_object (as_head (O.stop (meant f)) x))

  pub gap_is : (a : Summary) → Says (Ok Gap) → a ≡ nothing_of → Ok (a, 0) ≡ answer_object (object_at d b s)
  gap_is a x f = given end 0 a x (f ∙ sym sum_none)

  pub row_is : (k : Kind) (v u : ℕ) (a : Summary) → Says (Ok (Row k v u)) → a ≡ one_of k 1 0 → Ok (a, u) ≡ answer_object (object_at d b s)
  row_is k v u a x f = given (one x.0) u a x.1 (f ∙ sym (sum_row x.0 k x.2.kind x.2.none))

  pub sbits_is : (n w u : ℕ) (a : Summary) → Says (Ok (Sbits n w u)) → a ≡ one_of K.Bits 1 (words_for n) → Ok (a, u) ≡ answer_object (object_at d b s)
  unfolding words_for
  sbits_is n w u a x f =
      let g : (n + 63) / 64 ≤ 65536 = omega (arith, x.2.few) in
      given (one (bits x.0)) u a x.1 (f ∙ sym (sum_bits x.0 n x.2.many g))

  pub lbits_few : (a n u : ℕ) → Says (Ok (Lbits a n u)) → n ≤ 8 * length s
  unfolding bytes_for
  lbits_few a n u x = omega (arith, x.1, x.2)

  pub lbits_is : (a n u : ℕ) (z : Summary) → length s ≤ 65536 → Says (Ok (Lbits a n u)) → z ≡ one_of K.Bits 1 (words_for n) → Ok (z, u) ≡ answer_object (object_at d b s)
  unfolding words_for
  lbits_is a n u z h x f =
      let g : (n + 63) / 64 ≤ 65536 = omega (arith, lbits_few a n u x) in
      given (one (bits (bits_from s a n))) u z x.0 (f ∙ sym (sum_bits (bits_from s a n) n (lbits_length s a n (omega (arith, x.1, x.2))) g))

  pub text_is : (e : Extent) (z : Summary) (u : ℕ) → length s ≤ 65536 → Says (Ok (Text e)) → z ≡ text_of e.size → u ≡ e.start + e.size → Ok (z, u) ≡ answer_object (object_at d b s)
  text_is e z u h x f q =
      rw q
      (given (group struc (O.characters (O.contents s e.start e.size)) end) (e.start + e.size) z x.0
      (f ∙ sym (sum_text (O.contents s e.start e.size) e.size (contents_length s e.start e.size x.1) (omega (arith, x.1)))))

  -- a container
  module _ (w : Wrap) (e : Extent) (x : Says (Ok (Open w e))) where
    pub open_fits : (e.start + e.size ≤ length s) × (d < 16)
    open_fits = subst (HeadWithin d (length s)) x.0 (head_within d b s)

    -- its contents, as the code lends them on
    module _ (c : List ℕ) (m : c ≡ O.contents s e.start e.size) where
      pub open_size : length c ≡ e.size
      open_size = ap length m ∙ contents_length s e.start e.size open_fits.0

      open_as : object_at d b s ≡ around (wrap_of w) e.start e.size (reads (d + 1) c)
      unfolding object
      open_as =
          as_head (O.opens (wrap_of w) e.start e.size) x.0
          ∙ ap₂ (λ k l. around (wrap_of w) e.start e.size (reads k l)) (sym (add-one d)) (sym m)

      pub open_place : (f : Fault) → Err f ≡ answer (reads (d + 1) c) → f.place < e.size
      open_place f y =
          (subst (RunWithin (d + 1) e.size) (refused_run f (reads (d + 1) c) y)
          (subst (λ k. RunWithin (d + 1) k (reads (d + 1) c)) open_size (reads_within (d + 1) c))).0

      pub open_refused : (f : Fault) → Err f ≡ answer (reads (d + 1) c) → Err (further (1 + e.start) f) ≡ answer_object (object_at d b s)
      unfolding around answer_object
      open_refused f y = sym (ap answer_object (open_as ∙ ap (around (wrap_of w) e.start e.size) (refused_run f (reads (d + 1) c) y)))

      pub open_accepted : (z : Summary) → Ok z ≡ answer (reads (d + 1) c) → as_object (e.start + e.size) (closed_of w z) ≡ answer_object (object_at d b s)
      unfolding around
      open_accepted z y =
          let o = accepted_run z (reads (d + 1) c) y in
          ap (λ a. as_object (e.start + e.size) (closed_of w a)) o.2 ∙ sym (closed_answer w (e.start + e.size) o.0)
          ∙ sym (ap answer_object (open_as ∙ ap (around (wrap_of w) e.start e.size) o.1))

-- an SBITSTR that was told without its head
pub bits_are : (d b : ℕ) (s : List ℕ) (n : ℕ) → BitsAt b s n → (a : Summary) → a ≡ one_of K.Bits 1 (words_for n) → (u : ℕ) → u ≡ O.following b → Ok (a, u) ≡ answer_object (object_at d b s)
bits_are d b s n h a f u e = rw e (sbits_is d b s n (marked_word b s n) (O.following b) a (h.head d) f)
