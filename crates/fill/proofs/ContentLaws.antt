-- A container tried as a string, by its contents, and what they are where it is none. Assumes nothing.
use Rattle.std.proofs.Common.{◌≡◌, ℕ, suc, ◌+◌, ◌<◌, ◌≤◌, Bool, true, false, Some, None, List, [], ◌∷◌, ◌++◌, length, take, drop, sym, refl, ap, ◌∙◌, ap₂, append-nil, arith}
use Rattle.format.specs.Choice.{pick, both}
use Rattle.format.specs.Items.{struc, Items, end, group, is_string}
use Rattle.format.specs.Tables.{count, is_text, rows, text_words, data_words, group_b, row_words}
use Rattle.format.specs.Objects.{characters}
use Rattle.format.specs.Messages.{Outcome, says, reads}
use Rattle.format.specs.Answers.{over}
use Rattle.format.specs.Lent.{over_at}
use Rattle.format.proofs.Choices.{clash, whether, pick_yes}
use Rattle.format.proofs.TableLaws.{text_kind}
use Rattle.wire.specs.declared.head.Wrap.{Wrap}
use Rattle.wire.specs.declared.head.Wrap.TheVariants.{Struc, Ustruc, Edt, Repeat}
use Rattle.fill.specs.declared.place.Filled.{Filled}
use Rattle.fill.specs.Texts.{contents_say, TextRoom, TextLaid, TextTried, StringRoom, StringLaid}
use Rattle.fill.specs.Containers.{copies_of, is_struc, text_in, own_words, closed_items}
use Rattle.fill.specs.Contents.{ContentsFit, ContentsFilled}
use Rattle.fill.specs.Walks.{Fits, Laid}
use Rattle.fill.proofs.ContainerLaws.{Elements}
use Rattle.fill.proofs.TryLaws.{struc_text}
use Rattle.format.proofs.ItemLaws.{chars_string}

-- ---- a string
module _ (xs : Items) (k : is_string xs ≡ true) where
  yes : is_text struc xs ≡ true
  unfolding is_text
  yes = k

  string_size : (rows (group struc xs end) ≡ 1) × (data_words (group struc xs end) ≡ text_words xs)
  unfolding rows data_words
  string_size =
      (ap (λ n. suc (n + 0)) (pick_yes (is_text struc xs) 0 (rows xs) yes), append-nil _ ∙ pick_yes (is_text struc xs) (text_words xs) (data_words xs) yes)

  string_rows : (base : ℕ) → row_words base (group struc xs end) ≡ 9 ∷ count xs ∷ base ∷ []
  unfolding row_words group_b
  string_rows base =
      let a = (text_kind struc xs yes).2 in
      let b : pick (is_text struc xs) base (rows xs) ≡ base = pick_yes (is_text struc xs) base (rows xs) yes in
      let c : pick (is_text struc xs) [] (row_words base xs) ≡ [] = pick_yes (is_text struc xs) [] (row_words base xs) yes in
      ap₂ (λ x y. x ∷ count xs ∷ y ∷ (pick (is_text struc xs) [] (row_words base xs) ++ [])) a b ∙ ap (λ l. 9 ∷ count xs ∷ base ∷ l) (append-nil _ ∙ c)

  string_fits : (base gap len : ℕ) → Fits (group struc xs end) base gap len → (3 ≤ gap) × (gap + (base + length (text_words xs)) ≤ len) × (base + length (text_words xs) ≤ 16384)
  string_fits base gap len f = let z = string_size in let e = ap length z.1 in (omega arith, omega arith, omega arith)

  string_row : (base gap : ℕ) (t t' : List ℕ) (r : ℕ) → TextLaid xs base gap t t' r → Laid (group struc xs end) base gap t t' 1 1 r
  unfolding count
  string_row base gap t t' r l =
      let z = string_size in
      record {
        rows_are = sym z.0;
        count_is = refl;
        words_are = l.words_are ∙ sym (ap length z.1);
        front_is = l.front_is ∙ ap (λ l. over l (take gap t)) (sym (string_rows base));
        back_is = l.back_is ∙ ap (λ l. over_at base l (drop gap t)) (sym z.1);
      }

-- a STRUC that is tried as a string, xs its elements
module _ (o : Outcome) (is_one : Items → Bool) (xs : Items) (said : o ≡ says xs) (base gap : ℕ) where
  module _ (t t' : List ℕ) where
    -- it is one
    tried_laid : (r : ℕ) → TextTried o is_one base gap t t' (Some r) → (is_one xs ≡ true → is_string xs ≡ true) → (is_one xs ≡ true) × Laid (group struc xs end) base gap t t' 1 1 r
    tried_laid r g h =
        let k : is_one xs ≡ true = whether (is_one xs) (λ y. y) (λ n. let z = ((g xs said).none n).0 in cc) in
        let l = (g xs said).laid k in
        let same : l.0 ≡ r = let z = l.1 in cc in
        (k, string_row xs (h k) base gap t t' r (rw same at l.2))

    -- it is none
    tried_none : TextTried o is_one base gap t t' None → (is_one xs ≡ false) × (t' ≡ t)
    tried_none g =
        let n : is_one xs ≡ false = whether (is_one xs) (λ y. let z = ((g xs said).laid y).1 in cc) (λ n. n) in
        (n, ((g xs said).none n).1)

-- a container that is tried as a string
as_string : (w : Wrap) (xs : Items) → text_in w xs ≡ true → (is_string xs ≡ true) × (closed_items w xs ≡ group struc xs end)
unfolding text_in is_struc both closed_items
as_string Struc xs q = (q, refl)
as_string Ustruc xs q = (q, refl)
as_string Edt xs q = let z : ◌≡◌ {A = ℕ} 0 1 = cc in absurd (omega arith)
as_string (Repeat k) xs q = let z : ◌≡◌ {A = ℕ} 0 1 = cc in absurd (omega arith)

-- what is no string is no STRING, but a run
as_run : (raw : Bool) (d : ℕ) (c : List ℕ) (w : Wrap) (xs : Items) → contents_say raw d c ≡ says xs → (raw ≡ true → is_struc w ≡ true) → text_in w xs ≡ false → reads d c ≡ says xs
unfolding contents_say pick
as_run false d c w xs e h n = e
as_run true d c w xs e h n =
    let y : characters c ≡ xs = cc in
    clash (is_string (characters c)) (chars_string c) (ap is_string y ∙ sym (struc_text w (h refl) xs) ∙ n)

-- ---- contents that are accepted
module _ {raw : Bool} {d : ℕ} {c : List ℕ} {w : Wrap} {base gap : ℕ} {t : List ℕ} (f : ContentsFit raw d c w base gap t) where
  pub try_room : TextRoom (contents_say raw d c) (text_in w) base gap t
  try_room =
      record {
        items = f.items;
        said = f.said;
        room = λ y. let z = as_string w f.items y in string_fits f.items z.0 base gap (length t) (rw z.1 at f.fits);
      }

  module _ {t₀ : List ℕ} where
    -- they are a string's
    pub string_laid : {v : ℕ} → TextTried (contents_say raw d c) (text_in w) base gap t t₀ (Some v) → Laid (closed_items w f.items) base gap t t₀ 1 1 v
    string_laid {v} tr =
        let l = tried_laid _ (text_in w) f.items f.said base gap t t₀ v tr (λ y. (as_string w f.items y).0) in
        rw (as_string w f.items l.0).1 l.1

    pub string_filled : {v : ℕ} → TextTried (contents_say raw d c) (text_in w) base gap t t₀ (Some v) → ContentsFilled raw d c w base gap t t₀ (record { rows = 1; count = 1; words = v })
    string_filled tr = record { items = f.items; said = f.said; laid = string_laid tr }

    -- they are none's, and the table is as it was
    pub elements : TextTried (contents_say raw d c) (text_in w) base gap t t₀ None → {own : ℕ} → own ≡ own_words w → 0 < copies_of w → Elements d c w f.items base gap own t₀ × (t₀ ≡ t)
    elements tr eo p =
        let q = tried_none _ (text_in w) f.items f.said base gap t t₀ tr in
        (record { said = as_run raw d c w f.items f.said f.struc q.0; fits = rw q.1 f.fits; own_is = eo; some = p; other = q.0 }, q.1)

  pub elements_filled : {t₀ t' : List ℕ} {r : Filled} → t₀ ≡ t → Laid (closed_items w f.items) base gap t₀ t' r.rows r.count r.words
      → ContentsFilled raw d c w base gap t t' r
  elements_filled e l = record { items = f.items; said = f.said; laid = rw e at l }

-- a STRING's are a string's
module _ {d : ℕ} {c : List ℕ} {base gap : ℕ} {t : List ℕ} (f : ContentsFit true d c Struc base gap t) where
  raw_text_is : is_string f.items ≡ true
  unfolding contents_say pick
  raw_text_is = let y : characters c ≡ f.items = let e = f.said in cc in ap is_string (sym y) ∙ chars_string c

  -- at any depth
  raw_said : contents_say true 0 c ≡ says f.items
  unfolding contents_say pick
  raw_said = f.said

  pub raw_room : StringRoom true 0 c base gap t
  unfolding closed_items
  raw_room = record { items = f.items; said = raw_said; chars = raw_text_is; room = string_fits f.items raw_text_is base gap (length t) f.fits }

  pub raw_laid : {t' : List ℕ} {v : ℕ} → StringLaid true 0 c base gap t t' v → Laid (closed_items Struc f.items) base gap t t' 1 1 v
  unfolding closed_items
  raw_laid {t'} {v} l =
      let q : says l.items ≡ says f.items = sym l.said ∙ raw_said in
      let same : l.items ≡ f.items = cc in
      string_row f.items raw_text_is base gap t t' v (rw same at l.laid)
