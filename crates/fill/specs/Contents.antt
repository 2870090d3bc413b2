-- A container, and a string whose size is one byte, by the contents.
use Rattle.std.specs.Prelude.{◌≡◌, ℕ, ◌+◌, Bool, true, List, length, ◌==◌}
use Rattle.format.specs.Items.{Items, is_string}
use Rattle.format.specs.Messages.{Outcome, says, reads}
use Rattle.wire.specs.declared.head.Wrap.{Wrap}
use Rattle.wire.specs.Heads.{wrap_by}
use Rattle.fill.specs.declared.place.Filled.{Filled}
use Rattle.fill.specs.Containers.{is_struc, closed_items}
use Rattle.fill.specs.Texts.{contents_say}
use Rattle.fill.specs.Walks.{Fits, Laid}

-- The contents c are accepted, and what w makes of them fits. Those of a STRING are `raw`.
pub record ContentsFit (raw : Bool) (d : ℕ) (c : List ℕ) (w : Wrap) (base gap : ℕ) (t : List ℕ) : Type 0 where
  pub items : Items
  pub said : contents_say raw d c ≡ says items
  pub fits : Fits (closed_items w items) base gap (length t)
  pub struc : raw ≡ true → is_struc w ≡ true

pub record ContentsFilled (raw : Bool) (d : ℕ) (c : List ℕ) (w : Wrap) (base gap : ℕ) (t t' : List ℕ) (r : Filled) : Type 0 where
  pub items : Items
  pub said : contents_say raw d c ≡ says items
  pub laid : Laid (closed_items w items) base gap t t' r.rows r.count r.words

-- ---- a container or a string whose size is one byte, by its type-byte b: what the contents say, d containers around it
abbrev pub inside_of : ℕ → ℕ → List ℕ → Outcome
inside_of d b c = contents_say (b == 0xc6) (d + 1) c

abbrev pub ShortFits : ℕ → ℕ → List ℕ → ℕ → ℕ → List ℕ → Type 0
ShortFits d b c = ContentsFit (b == 0xc6) (d + 1) c (wrap_by b)

abbrev pub ShortFilled : ℕ → ℕ → List ℕ → ℕ → ℕ → List ℕ → List ℕ → Filled → Type 0
ShortFilled d b c = ContentsFilled (b == 0xc6) (d + 1) c (wrap_by b)

-- whether a run can be a string's contents: nothing that is one is missed
abbrev pub TextLike : List ℕ → Bool → Type 0
TextLike c r = (d : ℕ) (xs : Items) → reads d c ≡ says xs → is_string xs ≡ true → r ≡ true
