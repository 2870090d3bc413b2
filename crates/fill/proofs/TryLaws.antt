-- Containers tried as strings: by how they close, by their type-byte, and by their first byte. Assumes nothing.
use Rattle.std.proofs.Common.{◌≡◌, ℕ, ◌+◌, ◌<◌, ◌≤◌, Bool, true, false, IsTrue, ◌↔◌, Option, Some, None, slice_get, eqb, ltb, ◌≢◌, ◌⊎◌, inl, inr, List, [], ◌∷◌, length, get_or, sym, refl, ap, ◌∙◌, subst, arith, ltb-false}
use borrow.Author.Tests.{eqb-false}
use Rattle.format.specs.Choice.{pick, both, either}
use Rattle.format.specs.Items.{Items, is_string}
use Rattle.format.specs.Messages.{Outcome, says}
use Rattle.format.proofs.Choices.{clash, whether, eq_true, eq_false}
use Rattle.format.specs.Classes.{class_of}
use Rattle.format.specs.declared.Class.TheVariants.{String}
use Rattle.wire.proofs.ClassCases.{of_class}
use Rattle.wire.specs.declared.head.Wrap.{Wrap}
use Rattle.wire.specs.declared.head.Wrap.TheVariants.{Struc, Ustruc, Edt, Repeat}
use Rattle.fill.specs.Containers.{is_struc, text_in}
use Rattle.fill.specs.Contents.{inside_of, TextLike}
use Rattle.fill.specs.Texts.{spells, contents_say, TextRoom, Tried, TextTried}
use Rattle.format.specs.Objects.{characters}
use Rattle.wire.specs.Ranges.{Between}
use Rattle.fill.proofs.TextLaws.{low_said, no_string}
use Rattle.fill.proofs.StringLaws.{no_chars, chars_start, chars_not}

pub group_wrap : (w : Wrap) → (w ≡ Struc) ⊎ (w ≡ Ustruc) → is_struc w ≡ true
unfolding is_struc
group_wrap w (inl e) = rw e refl
group_wrap w (inr e) = rw e refl

pub other_wrap : (w : Wrap) → (w ≡ Struc → ⊥) → (w ≡ Ustruc → ⊥) → is_struc w ≡ false
unfolding is_struc
other_wrap Struc k l = absurd (k refl)
other_wrap Ustruc k l = absurd (l refl)
other_wrap Edt k l = refl
other_wrap (Repeat n) k l = refl

-- ---- by how a container closes: a STRUC or USTRUC is asked whether it is a string, and nothing else
pub struc_text : (w : Wrap) → is_struc w ≡ true → (xs : Items) → text_in w xs ≡ is_string xs
unfolding text_in both
struc_text w y xs = rw y refl

not_text : (w : Wrap) → is_struc w ≡ false → (xs : Items) → text_in w xs ≡ false
unfolding text_in both
not_text w n xs = rw n refl

module _ (w : Wrap) {o : Outcome} {base gap : ℕ} where
  pub room_as : is_struc w ≡ true → {t : List ℕ} → TextRoom o (text_in w) base gap t → TextRoom o is_string base gap t
  room_as y r = record { items = r.items; said = r.said; room = λ q. r.room (struc_text w y r.items ∙ q) }

  pub tried_as : is_struc w ≡ true → {t t' : List ℕ} {r : Option ℕ} → TextTried o is_string base gap t t' r → TextTried o (text_in w) base gap t t' r
  tried_as y {t} {t'} {r} h xs e = subst (λ k. Tried k xs base gap t t' r) (sym (struc_text w y xs)) (h xs e)

  pub tried_not : is_struc w ≡ false → (t : List ℕ) → TextTried o (text_in w) base gap t t None
  tried_not n t = no_string o (text_in w) base gap t (λ xs _. not_text w n xs)

-- as the code tells a STRING
pub string_told : (b : ℕ) (r : Bool) → IsTrue r ↔ (class_of b ≡ String) → r ≡ eqb b 0xc6
unfolding class_of
string_told b r e =
    whether r
    (λ y. let q = of_class b String (sym (e.0 y)) in y ∙ sym (eq_true b 0xc6 q))
    (λ n. n ∙ sym (eq_false b 0xc6 (λ q. let z = e.1 (ap class_of q) in cc)))

-- what its contents say: a STRING's bytes are characters, and so are bytes below 80 hex; those of any other are a run
module _ (d b : ℕ) (c : List ℕ) where
  pub inside_raw : eqb b 0xc6 ≡ true → inside_of d b c ≡ says (characters c)
  unfolding contents_say pick
  inside_raw e = rw e refl

  pub inside_run : eqb b 0xc6 ≡ false → inside_of d b c ≡ contents_say false (d + 1) c
  inside_run e = rw e refl

  pub inside_low : eqb b 0xc6 ≡ false → Between 0 0x7f 0 (length c) c → inside_of d b c ≡ says (characters c)
  inside_low e w = inside_run e ∙ low_said (d + 1) c w

-- by the first byte of the contents
no_spelling : (x : ℕ) → spells x ≡ false → (0x80 ≤ x) × (x ≢ 0xff) × (x ≢ 0xc4)
unfolding spells either
no_spelling x = go (ltb x 0x80) (eqb x 0xff) (eqb x 0xc4) refl refl refl
  where
    go : (p q r : Bool) → ltb x 0x80 ≡ p → eqb x 0xff ≡ q → eqb x 0xc4 ≡ r → either p (either q r) ≡ false → (0x80 ≤ x) × (x ≢ 0xff) × (x ≢ 0xc4)
    go true q r a b c e = clash true refl e
    go false true r a b c e = clash true refl e
    go false false true a b c e = clash true refl e
    go false false false a b c e = (ltb-false x 0x80 a, eqb-false x 0xff b, eqb-false x 0xc4 c)

pub first_of : (c : List ℕ) (x : ℕ) → Some x ≡ slice_get c 0 → (0 < length c) × (get_or c 0 0 ≡ x)
first_of [] x e = absurd (let z : ◌≡◌ {A = Option ℕ} (Some x) None = e in cc)
first_of (y ∷ c) x e = (omega arith, let z : ◌≡◌ {A = Option ℕ} (Some x) (Some y) = e in cc)

pub by_first : (c : List ℕ) → 0 < length c → get_or c 0 0 < 256 → (r : Bool) → r ≡ spells (get_or c 0 0) → TextLike c r
by_first c h l r e d xs s y = whether r (λ q. q) (λ q.
    let k = no_spelling (get_or c 0 0) (sym e ∙ q) in
    let no : false ≡ is_string xs = chars_not (chars_start d c) h (no_chars d (get_or c 0 0) _ k.0 k.2 (omega (arith, l, k.1))) xs s in
    clash _ y (sym no))

pub like_none : (d : ℕ) (c : List ℕ) {r : Bool} → TextLike c r → r ≡ false → (base gap : ℕ) (t : List ℕ) → TextTried (contents_say false d c) is_string base gap t t None
unfolding contents_say pick
like_none d c h n base gap t = no_string _ is_string base gap t (λ xs e. whether (is_string xs) (λ y. clash _ (h d xs e y) n) (λ z. z))
