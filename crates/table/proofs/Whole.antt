-- A whole table: words that have items are those whose header and rows the judge finds in order. Assumes nothing.
use mathlib.Core.Path.{◌≡◌, refl, sym, ◌∙◌, ap, subst}
use mathlib.Core.List.{List, [], ◌∷◌, ◌++◌, append_assoc}
use mathlib.Core.Bool.{Bool, true, false}
use mathlib.Core.Option.{Option, none, some}
use Prim.Native.Nat.{ℕ, ◌+◌, ◌*◌, ◌^◌, ◌<◌, ◌≤◌}
use native.Mathlib.Omega.{arith}
use lib.ListN.{length, drop, get_or, length-append, take-append-drop}
use lib.Seq.{drop-drop, drop_at}
use lib.Dec.{eqb}
use Rattle.format.specs.Refusals.{row_limit, word_limit}
use Rattle.format.specs.Items.{Items, proper}
use Rattle.format.specs.Tables.{count, rows, data_words, row_words, table_of, lawful, items_of}
use Rattle.format.proofs.Choices.{le_true, both_true, clash}
use Rattle.format.proofs.TableLaws.{row_length, lawful_proper, lawful_rows, lawful_words, table_back, table_only}
use Rattle.table.specs.Rows.{data_of, Stands, Header, Headed, lands, data_to, rows_of, words_of}
use Rattle.std.specs.Prelude.{Some, None, Option as Maybe}
use Rattle.std.specs.Option.{option_eq}
use Rattle.table.specs.InOrder.{RowsJudged, is_some}
use borrow.Author.Tests.{eqb-true, eqb-false}
use Rattle.table.proofs.Judging.{AllOk, Found, sound, complete}

-- what the judge asks of words, in the order in which it asks
pub record Formed (w : List ℕ) : Type 0 where
  pub long : 4 ≤ length w
  pub header : Header w (get_or w 0 0) (get_or w 3 0)
  pub outer : lands w (get_or w 1 0) 0 (get_or w 0 0) ≡ true
  pub each : AllOk w (get_or w 0 0) 0 (get_or w 0 0)
  pub all : data_to w (get_or w 0 0) ≡ get_or w 3 0

-- the items stand in the whole table
pub record Whole (w : List ℕ) (xs : Items) : Type 0 where
  pub formed : Formed w
  pub stands : Stands w 0 0 (get_or w 0 0) xs
  pub number : count xs ≡ get_or w 1 0
  pub words : length (data_words xs) ≡ get_or w 3 0

four : (w : List ℕ) → 4 ≤ length w → w ≡ get_or w 0 0 ∷ get_or w 1 0 ∷ get_or w 2 0 ∷ get_or w 3 0 ∷ drop 4 w
four [] h = absurd (omega arith)
four (a ∷ []) h = absurd (omega arith)
four (a ∷ b ∷ []) h = absurd (omega arith)
four (a ∷ b ∷ c ∷ []) h = absurd (omega arith)
four (a ∷ b ∷ c ∷ d ∷ w) h = refl

-- ---- the table of a lawful list
table_stands : (xs : Items) (rest : List ℕ) → lawful xs ≡ true → Stands (table_of xs ++ rest) 0 0 (rows xs) xs
unfolding table_of
table_stands xs rest h =
    let r = lawful_rows xs h in
    let l = lawful_words xs h in
    let n = length-append ((row_words 0 xs) ++ data_words xs) rest in
    let m = length-append (row_words 0 xs) (data_words xs) in
    let k = row_length 0 xs in
    let d : drop (3 * rows xs) ((row_words 0 xs ++ data_words xs) ++ rest) ≡ data_words xs ++ rest =
    ap (drop (3 * rows xs)) (append_assoc (row_words 0 xs) (data_words xs) rest) ∙ drop_at (row_words 0 xs) (data_words xs ++ rest) (3 * rows xs) k in
    let f : (i : ℕ) → i ≡ 4 + 3 * rows xs → drop i (table_of xs ++ rest) ≡ data_words xs ++ rest =
    λ i e. ap (λ z. drop z (table_of xs ++ rest)) e ∙ sym (drop-drop (3 * rows xs) 4 (table_of xs ++ rest)) ∙ d in
    record {
      number = omega arith;
      words = append_assoc (row_words 0 xs) (data_words xs) rest ∙ ap (λ z. row_words 0 xs ++ z) (sym (f (3 * rows xs + 4) (omega arith)));
      contents = f (4 + 3 * rows xs) refl ∙ ap (λ z. data_words xs ++ z)
          (sym (ap (drop (0 + length (data_words xs))) (f (4 + 3 * rows xs) refl) ∙ drop_at (data_words xs) rest (0 + length (data_words xs)) (omega arith)));
      good = lawful_proper xs h;
      within = omega arith;
      few = r;
      little = omega arith;
      stored = omega arith;
    }

table_whole : (xs : Items) (rest : List ℕ) → lawful xs ≡ true → Whole (table_of xs ++ rest) xs
unfolding table_of data_to
table_whole xs rest h =
    let s = table_stands xs rest h in
    let r = lawful_rows xs h in
    let l = lawful_words xs h in
    let n = length-append (row_words 0 xs ++ data_words xs) rest in
    let m = length-append (row_words 0 xs) (data_words xs) in
    let k = row_length 0 xs in
    let j = complete (table_of xs ++ rest) (rows xs) r l (omega arith) (omega arith) 0 0 (rows xs) xs s refl (omega arith) (omega arith) in
    record {
      formed = record {
        long = omega arith;
        header = record { rows = refl; words = refl; offset = refl; few = r; little = l; within = omega arith };
        outer = j.landed;
        each = j.each;
        all = j.many ∙ omega arith;
      };
      stands = s;
      number = refl;
      words = refl;
    }

-- words that have items
pub whole : (w : List ℕ) (xs : Items) → items_of w ≡ some xs → Whole w xs
whole w xs e =
    let t = table_only w xs e in
    let q : table_of xs ++ drop (length (table_of xs)) w ≡ w = ap (λ z. z ++ drop (length (table_of xs)) w) (sym t.2) ∙ take-append-drop (length (table_of xs)) w in
    subst (λ (v : List ℕ). Whole v xs) q (table_whole xs (drop (length (table_of xs)) w) t.0)

-- words in which items stand, all that the header claims
pub items_of_lem : (w : List ℕ) → Header w (get_or w 0 0) (get_or w 3 0) → (xs : Items) → Stands w 0 0 (get_or w 0 0) xs → count xs ≡ get_or w 1 0 → length (data_words xs) ≡ get_or w 3 0 → items_of w ≡ some xs
unfolding table_of lawful
items_of_lem w h xs s c m =
    let hf = h.few in
    let hl = h.little in
    let hw = h.within in
    let r : rows xs ≡ get_or w 0 0 = omega (arith, s.number) in
    let law : lawful xs ≡ true = both_true (proper xs) _ s.good (both_true _ _ (le_true (rows xs) row_limit (omega arith)) (le_true (length (data_words xs)) word_limit (omega arith))) in
    let rest : List ℕ = drop (0 + length (data_words xs)) (data_of w) in
    let i : 3 * get_or w 0 0 + 4 ≡ 4 + 3 * get_or w 0 0 = omega arith in
    let b : drop 4 w ≡ (row_words 0 xs ++ data_words xs) ++ rest =
    s.words ∙ ap (λ z. row_words 0 xs ++ z) (ap (λ z. drop z w) i ∙ s.contents) ∙ sym (append_assoc (row_words 0 xs) (data_words xs) rest) in
    let q : w ≡ table_of xs ++ rest = four w (omega arith) ∙ rw (b, h.offset, ← m, ← r, ← c) refl in
    ap items_of q ∙ table_back xs rest law

formed_found : (w : List ℕ) → ((i : ℕ) → get_or w i 0 < 2 ^ 64) → (f : Formed w) → Found w (get_or w 1 0) 0 (get_or w 0 0)
formed_found w bound f =
    let h = f.header in
    let hw = h.within in
    let a = f.all in
    sound w (get_or w 0 0) h.few h.little hw (omega arith) bound (get_or w 0 0) (get_or w 1 0) 0 (get_or w 0 0) (omega arith) (omega arith) (omega arith) f.outer f.each (omega arith)

formed_yes : (w : List ℕ) → ((i : ℕ) → get_or w i 0 < 2 ^ 64) → Formed w → true ≡ is_some (items_of w)
unfolding is_some data_to
formed_yes w bound f =
    let o = formed_found w bound f in
    let a = f.all in
    sym (ap is_some (items_of_lem w f.header o.items o.stands o.number (omega (arith, o.many))))

pub formed_no : (w : List ℕ) → (Formed w → ⊥) → false ≡ is_some (items_of w)
formed_no w n = go (items_of w) refl
  where
    go : (o : Option Items) → items_of w ≡ o → false ≡ is_some o
    go none e = unfold is_some in refl
    go (some xs) e = absurd (n (whole w xs e).formed)

-- ---- the header by its judge
abbrev pub HeaderJudged : List ℕ → Bool → Type 0
HeaderJudged w true = Headed w
HeaderJudged w false = Headed w → ⊥

pub headed : (w : List ℕ) (r : Bool) → HeaderJudged w r → r ≡ true → Headed w
headed w true h e = h
headed w false h e = clash false e refl

pub unheaded : (w : List ℕ) → (Headed w → ⊥) → false ≡ is_some (items_of w)
unheaded w n = formed_no w (λ f. n f.header)

pub unlanded : (w : List ℕ) → lands w (get_or w 1 0) 0 (rows_of w) ≡ false → false ≡ is_some (items_of w)
unlanded w l = formed_no w (λ f. clash _ f.outer l)

-- as the code ends: the rows are judged, and the data words are compared
pub rows_end : (w : List ℕ) (r : Maybe ℕ) → Headed w → ((i : ℕ) → get_or w i 0 < 2 ^ 64) → lands w (get_or w 1 0) 0 (rows_of w) ≡ true → RowsJudged w r
    → option_eq eqb r (Some (words_of w)) ≡ is_some (items_of w)
rows_end w None h bound l j = formed_no w (λ f. j (λ i u. f.each i (omega arith) u))
rows_end w (Some d) h bound l j = go (eqb d (words_of w)) refl
  where
    go : (b : Bool) → eqb d (words_of w) ≡ b → b ≡ is_some (items_of w)
    go true q =
        formed_yes w bound (record {
          long = omega (arith, h.within);
          header = h;
          outer = l;
          each = λ i u v. j.0 i v;
          all = sym j.1 ∙ eqb-true d (words_of w) q;
        })
    go false q = formed_no w (λ f. eqb-false d (words_of w) q (j.1 ∙ f.all))

pub ruleset judging = (rows_end, unlanded)
