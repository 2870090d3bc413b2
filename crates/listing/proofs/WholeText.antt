-- What a table that is listed has in it, and the text of its items in parts. Assumes nothing.
use mathlib.Core.Path.{◌≡◌, refl, sym, ap, ◌∙◌}
use mathlib.Core.List.{List, [], ◌∷◌, ◌++◌}
use mathlib.Core.Option.{Option, none, some}
use Prim.Native.Nat.{ℕ, ◌+◌, ◌^◌, ◌≤◌, ◌<◌}
use native.Mathlib.Omega.{arith}
use lib.ListN.{length, get_or, length-append}
use Rattle.format.specs.Items.{Items}
use Rattle.format.specs.Tables.{count, rows, words_needed, items_of}
use Rattle.format.specs.Answers.{over}
use Rattle.format.specs.Lent.{over_at}
use Rattle.format.specs.Normal.{depth}
use Rattle.format.proofs.Over.{at_front}
use Rattle.table.specs.Rows.{items_at, Run}
use Rattle.table.proofs.Standing.{stands_is, run_of}
use Rattle.table.proofs.Whole.{whole}
use Rattle.listing.specs.Lines.{decimal, accepted_text, refused_text, lines, space, newline}
use Rattle.listing.specs.declared.output.Output.{Output}
use Rattle.listing.specs.Puts.{Put, Fits}
use Rattle.listing.specs.Listings.{Listable, accepted_of, text_limit}
use Rattle.listing.proofs.Decimals.{count_most}
use Rattle.listing.proofs.TextLengths.{text_long}
use Rattle.format.proofs.Counts.{count_rows}

-- the text of the items, by the words of the table
abbrev pub told : List ℕ → List ℕ
told w =
    0x61 ∷ 0x63 ∷ 0x63 ∷ 0x65 ∷ 0x70 ∷ 0x74 ∷ 0x65 ∷ 0x64 ∷ space
    ∷ (decimal (get_or w 1 0) ++ (space ∷ 0x69 ∷ 0x74 ∷ 0x65 ∷ 0x6d ∷ 0x73 ∷ space
    ∷ (decimal (get_or w 0 0) ++ (space ∷ 0x72 ∷ 0x6f ∷ 0x77 ∷ 0x73 ∷ newline ∷ lines 0 (items_at w 0 (get_or w 0 0))))))

text_is : (w : List ℕ) (xs : Items) → items_of w ≡ some xs → items_at w 0 (get_or w 0 0) ≡ xs → get_or w 1 0 ≡ count xs → get_or w 0 0 ≡ rows xs
    → accepted_of (items_of w) ≡ told w
unfolding accepted_of accepted_text
text_is w xs e i c r = rw (e, i, c, r) refl

pub record TextReady (w : List ℕ) : Type 0 where
  pub run : Run w 0 (get_or w 0 0)
  pub shallow : 0 + depth (items_at w 0 (get_or w 0 0)) ≤ 16
  pub four : 4 ≤ length w
  pub short : length (told w) ≤ text_limit
  pub text : accepted_of (items_of w) ≡ told w

pub ready : (w : List ℕ) → Listable (items_of w) → TextReady w
ready w = go (items_of w) refl
  where
    go : (o : Option Items) → items_of w ≡ o → Listable o → TextReady w
    go none e h = absurd h
    go (some xs) e h =
        let k = whole w xs e in
        let s = k.stands in
        let n = s.number in
        let m = h.1 in
        let o = k.number in
        let f = s.few in
        let i = count_rows xs in
        let is = stands_is w 0 0 (get_or w 0 0) xs s in
        let r : get_or w 0 0 ≡ rows xs = omega arith in
        let l = text_long xs s.good h.0 (unfold words_needed in omega arith) in
        let z : List ℕ = lines 0 (items_at w 0 (get_or w 0 0)) in
        record {
          run = run_of w 0 0 (get_or w 0 0) xs s;
          shallow = rw is (omega arith);
          four = k.formed.long;
          short = omega (
            arith,
            count_most 4 (get_or w 1 0) (omega arith),
            count_most 4 (get_or w 0 0) (omega arith),
            ap (λ x. length (lines 0 x)) is,
            length-append (decimal (get_or w 1 0)) (space ∷ 0x69 ∷ 0x74 ∷ 0x65 ∷ 0x6d ∷ 0x73 ∷ space ∷ (decimal (get_or w 0 0) ++ (space ∷ 0x72 ∷ 0x6f ∷ 0x77 ∷ 0x73 ∷ newline ∷ z))),
            length-append (decimal (get_or w 0 0)) (space ∷ 0x72 ∷ 0x6f ∷ 0x77 ∷ 0x73 ∷ newline ∷ z),
          );
          text = text_is w xs e is (sym k.number) r;
        }

-- a text that was put into a whole output, when what was lent to the output comes back as y
module _ {l t : List ℕ} {a b : Output} (w : Put l a b) (start : a.at ≡ 0) (lent : a.lent.now ≡ t) where
  pub whole_length : b.at ≡ length l
  whole_length = let n = w.wrote.next in omega arith

  pub whole_bytes : {g : ℕ} {y : List ℕ} → a.lent.ghost_name ≡ g → (g ≡ b.lent.ghost_name → y ≡ b.lent.now) → y ≡ over l t
  whole_bytes n back =
      let z : b.lent.now ≡ over_at 0 l t = rw (sym start, sym lent) w.wrote.is in
      back (sym (w.same ∙ n)) ∙ z ∙ at_front l t

-- a refusal's line fits
pub refused_fits : (n p : ℕ) (a : Output) → n < 2 ^ 64 → p < 2 ^ 64 → a.at ≡ 0 → 64 ≤ length a.lent.now → Fits (refused_text n p) a
unfolding refused_text
refused_fits n p a i j s h =
    let x = count_most 19 n (omega arith) in
    let y = count_most 19 p (omega arith) in
    record {
      room = omega (arith, length-append (decimal n) (space ∷ 0x61 ∷ 0x74 ∷ space ∷ (decimal p ++ (newline ∷ []))), length-append (decimal p) (newline ∷ []));
    }
