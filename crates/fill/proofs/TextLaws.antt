-- A string's codes in the data: from bytes whose high bit is ignored, and from a run. Assumes nothing.
use Rattle.std.proofs.Common.{◌≡◌, ℕ, suc, ◌+◌, ◌-◌, ◌*◌, ◌/◌, ◌≤◌, Bool, true, false, Some, None, List, [], ◌∷◌, ◌++◌, length, take, drop, sym, refl, ap, ◌∙◌, subst, ap₂, arith, length-append, length-take-le}
use Rattle.format.specs.Choice.{pick}
use Rattle.format.specs.Bits.{words_for}
use Rattle.format.specs.Items.{Items, is_string}
use Rattle.format.specs.Tables.{count, codes, text_words}
use Rattle.format.specs.Objects.{characters}
use Rattle.format.specs.Messages.{Outcome, says, reads}
use Rattle.format.specs.Answers.{over}
use Rattle.format.specs.Lent.{over_at}
use Rattle.format.proofs.TableLaws.{text_length}
use Rattle.format.specs.Refusals.{word_limit}
use Rattle.wire.specs.Ranges.{Between}
use Rattle.fill.specs.Texts.{lows, Spelt, OnlyChars, contents_say, TextFits, TextPut, TextRoom, Tried, TextTried, StringRoom, StringLaid}
use Rattle.format.proofs.Over.{part_length, back_is, lent}
use Rattle.format.proofs.Choices.{clash}
use Rattle.fill.proofs.Regions.{front_over, back_over, front_at, back_at}
use Rattle.fill.proofs.Letters.{spelt_front}
use Rattle.fill.proofs.ShortLaws.{chars_said}
use Rattle.format.proofs.ItemLaws.{chars_string}

-- contents that are a string's and fit the table t, and what their codes make of it
pub record StringFits (raw : Bool) (d : ℕ) (c t : List ℕ) : Type 0 where
  pub items : Items
  pub said : contents_say raw d c ≡ says items
  pub chars : is_string items ≡ true
  pub room : length (text_words items) ≤ length t
  pub few : length (text_words items) ≤ word_limit

pub record StringPut (raw : Bool) (d : ℕ) (c t t' : List ℕ) (r : ℕ) : Type 0 where
  pub items : Items
  pub said : contents_say raw d c ≡ says items
  pub chars : is_string items ≡ true
  pub count_is : r ≡ count items
  pub table_is : t' ≡ over (text_words items) t

pub chars_count : (c : List ℕ) → count (characters c) ≡ length c
unfolding count characters
chars_count [] = refl
chars_count (b ∷ c) = ap suc (chars_count c)

chars_few : (c : List ℕ) (len : ℕ) → length (text_words (characters c)) ≤ len → length c ≤ 8 * len
unfolding words_for
chars_few c len h = let e = text_length (characters c) in let n = chars_count c in omega arith

-- ---- what contents say
same_says : (o : Outcome) (xs ys : Items) → o ≡ says xs → o ≡ says ys → ys ≡ xs
same_says o xs ys e f = let q : says ys ≡ says xs = sym f ∙ e in cc

bytes_said : (d : ℕ) (c : List ℕ) → contents_say true d c ≡ says (characters c)
unfolding contents_say pick
bytes_said d c = refl

run_said : (d : ℕ) (c : List ℕ) → contents_say false d c ≡ reads d c
unfolding contents_say pick
run_said d c = refl

-- bytes below 80 hex say the same as a run
pub low_said : (d : ℕ) (c : List ℕ) → Between 0 0x7f 0 (length c) c → contents_say false d c ≡ says (characters c)
low_said d c w = run_said d c ∙ chars_said d c w

-- ---- the codes
-- each byte is a character
module _ {c t : List ℕ} where
  pub bytes_room : StringFits true 0 c t → 0 + length c ≤ 8 * length t
  bytes_room f = let k = chars_few c (length t) (rw (same_says _ (characters c) f.items (bytes_said 0 c) f.said) at f.room) in omega arith

  pub bytes_put : {u : List ℕ} → Spelt 0 (lows c) t u → StringPut true 0 c t u (length c)
  unfolding text_words
  bytes_put {u} p =
      record { items = characters c; said = bytes_said 0 c; chars = chars_string c; count_is = sym (chars_count c); table_is = spelt_front (lows c) t u p }

-- a run
module _ {d : ℕ} {c t : List ℕ} where
  pub run_room : StringFits false d c t → TextFits d c 0 t
  unfolding words_for
  run_room f =
      let l = text_length f.items in
      record { items = f.items; said = sym (run_said d c) ∙ f.said; chars = f.chars; room = omega arith; few = omega arith }

  pub run_put : {u : List ℕ} {r : ℕ} → TextPut d c 0 t u r → StringPut false d c t u r
  unfolding text_words
  run_put {u} p =
      record { items = p.items; said = run_said d c ∙ p.said; chars = p.chars; count_is = omega arith; table_is = spelt_front (codes p.items) t u p.spelt }

-- ---- an object tried as a string
pub no_string : (o : Outcome) (is_one : Items → Bool) (base gap : ℕ) (t : List ℕ) → ((xs : Items) → o ≡ says xs → is_one xs ≡ false) → TextTried o is_one base gap t t None
no_string o is_one base gap t n xs e =
    record { laid = λ y. clash _ y (n xs e); none = λ z. (refl, refl) }

-- it is one: its contents come to `o`, and are taken byte by byte, or as a run
module _ (raw : Bool) (d : ℕ) (c : List ℕ) (o : Outcome) (same : (xs : Items) → o ≡ says xs → contents_say raw d c ≡ says xs) {base gap : ℕ} {t : List ℕ} where
  pub some_room : TextRoom o is_string base gap t → ((xs : Items) → contents_say raw d c ≡ says xs → true ≡ is_string xs) → StringRoom raw d c base gap t
  some_room f is =
      let s = same f.items f.said in
      let k = sym (is f.items s) in
      record { items = f.items; said = s; chars = k; room = f.room k }

  pub some_string : {t' : List ℕ} {n : ℕ} → StringLaid raw d c base gap t t' n → TextTried o is_string base gap t t' (Some n)
  some_string {t'} {n} l xs e =
      let q : l.items ≡ xs = same_says _ xs l.items (same xs e) l.said in
      subst (λ zs. Tried (is_string zs) zs base gap t t' (Some n)) q (record { laid = λ y. (n, refl, l.laid); none = λ z. clash _ l.chars z })

-- byte by byte
module _ (c : List ℕ) (o : Outcome) (b : o ≡ says (characters c)) where
  same_bytes : (xs : Items) → o ≡ says xs → contents_say true 0 c ≡ says xs
  same_bytes xs e = bytes_said 0 c ∙ sym b ∙ e

  pub bytes_fit : {base gap : ℕ} {t : List ℕ} → TextRoom o is_string base gap t → StringRoom true 0 c base gap t
  bytes_fit f = some_room true 0 c o same_bytes f (λ xs e. sym (ap is_string (same_says _ (characters c) xs (bytes_said 0 c) e) ∙ chars_string c))

  pub bytes_tried : {base gap : ℕ} {t t' : List ℕ} {n : ℕ} → StringLaid true 0 c base gap t t' n → TextTried o is_string base gap t t' (Some n)
  bytes_tried l = some_string true 0 c o same_bytes l

-- or a run
module _ (d : ℕ) (c : List ℕ) {base gap : ℕ} {t : List ℕ} where
  pub run_fits : TextRoom (contents_say false d c) is_string base gap t → OnlyChars d c true → StringRoom false d c base gap t
  run_fits f q = some_room false d c _ (λ xs e. e) f (λ xs e. q xs (sym (run_said d c) ∙ e))

  pub run_none : OnlyChars d c false → TextTried (contents_say false d c) is_string base gap t t None
  run_none q = no_string _ is_string base gap t (λ xs e. sym (q xs (sym (run_said d c) ∙ e)))

-- its row, and its words
module _ {each : Bool} {d : ℕ} {c : List ℕ} {base gap : ℕ} {t : List ℕ} (x : StringRoom each d c base gap t) where
  abbrev P : List ℕ
  P = take (length t - (gap + base)) (drop (gap + base) t)

  pub words_at_lem : (gap + base ≤ length t) × (base ≤ 16384)
  words_at_lem = (omega arith, omega arith)

  pub words_fit : StringFits each d c P
  words_fit =
      record { items = x.items; said = x.said; chars = x.chars; room = rw (part_length (gap + base) t) (omega arith); few = omega arith }

  -- the table as it comes back
  abbrev came : List ℕ → List ℕ
  came ys = take (gap + base) t ++ (ys ++ drop (length t - (gap + base)) (drop (gap + base) t))

  pub row_room : (ys : List ℕ) → 3 ≤ length (came ys)
  row_room ys = rw (back_is (gap + base) t ys) (omega (arith, length-append (take (gap + base) t) ys, length-take-le (gap + base) t words_at_lem.0))

  module _ {n : ℕ} {ys : List ℕ} (g : StringPut each d c P ys n) where
    pub count_few : n + 7 ≤ 131079
    unfolding words_for
    count_few =
        let e : count g.items ≡ count x.items = ap count (same_says _ x.items g.items x.said g.said) in
        let l = text_length x.items in
        omega (arith, g.count_is)

    pub string_put : {t' : List ℕ} → t' ≡ over (9 ∷ n ∷ base ∷ []) (came ys) → StringLaid each d c base gap t t' ((n + 7) / 8)
    unfolding words_for
    string_put {t'} q =
        let r = x.room in
        let l = text_length g.items in
        let k = g.count_is in
        let row : List ℕ = 9 ∷ n ∷ base ∷ [] in
        let w : List ℕ = text_words g.items in
        let h = words_at_lem.0 in
        let z : came ys ≡ over_at (gap + base) w t = lent (gap + base) w t ys g.table_is in
        record {
          items = g.items;
          said = g.said;
          chars = g.chars;
          laid = record {
            words_are = omega arith;
            front_is = ap (take gap) q ∙ front_over gap row (came ys) r.0 ∙ ap₂ (λ m z. over (9 ∷ m ∷ base ∷ []) z) k (ap (take gap) z ∙ front_at gap base w t h);
            back_is = ap (drop gap) q ∙ back_over gap row (came ys) r.0 ∙ ap (drop gap) z ∙ back_at gap base w t h;
          };
        }
