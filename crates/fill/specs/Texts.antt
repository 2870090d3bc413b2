-- A string: whether contents are characters only, and their codes in the data words, eight to a word.
use Rattle.std.specs.Prelude.{◌≡◌, ℕ, ◌+◌, ◌-◌, ◌*◌, ◌<◌, ◌≤◌, Bool, true, false, Option, Some, None, List, [], ◌∷◌, ◌++◌, length, take, drop, ◌==◌, nat_lt, slice_index}
use Rattle.format.specs.Choice.{pick, either}
use Rattle.format.specs.Bits.{spread, adjusted}
use Rattle.format.specs.Items.{Items, is_string}
use Rattle.format.specs.Tables.{count, codes, letters, text_words}
use Rattle.format.specs.Objects.{characters}
use Rattle.format.specs.Messages.{Outcome, says, reads}
use Rattle.format.specs.Answers.{over}
use Rattle.format.specs.Lent.{over_at}
use Rattle.fill.specs.Copies.{again}
use Rattle.format.specs.Refusals.{word_limit}

-- the codes of bytes whose high bit is ignored
abbrev pub lows : List ℕ → List ℕ
lows c = codes (characters c)

-- where n codes stand at the front of the table, ds stand behind them afterwards
abbrev pub Spelt : ℕ → List ℕ → List ℕ → List ℕ → Type 0
Spelt n ds t t' = (cs t₀ : List ℕ) → length cs ≡ n → t ≡ over (letters cs) t₀ → t' ≡ over (letters (cs ++ ds)) t₀

-- at most eight codes, left-adjusted in a word
abbrev pub word_of : List ℕ → ℕ
word_of ds = adjusted 64 (spread 8 ds)

-- k codes that are the word w stand there afterwards
abbrev pub PutSome : ℕ → ℕ → ℕ → List ℕ → List ℕ → Type 0
PutSome n k w t t' = (ds : List ℕ) → length ds ≡ k → w ≡ word_of ds → Spelt n ds t t'

-- the n-th code of those at the front of the table
abbrev pub CodeIs : ℕ → List ℕ → ℕ → Type 0
CodeIs n t r = (cs t₀ : List ℕ) → n < length cs → slice_index cs n < 128 → t ≡ over (letters cs) t₀ → r ≡ slice_index cs n

-- eight of them, from the n-th on, as a word
abbrev pub EightAre : ℕ → List ℕ → ℕ → Type 0
EightAre n t r = (cs t₀ : List ℕ) → n + 8 ≤ length cs → t ≡ over (letters cs) t₀ → r ≡ word_of (take 8 (drop n cs))

-- a multiple of m that is eight at least, where m is not 0
abbrev pub Period : ℕ → ℕ → Type 0
Period m r = (0 < m → 8 ≤ r) × ((j : ℕ) × (r ≡ j * m))

-- every code is one of a CHAR
abbrev pub Low : List ℕ → Type 0
Low cs = (i : ℕ) → i < length cs → slice_index cs i < 128

-- m codes behind n others stand there k times, where they were there up to `from`
abbrev pub SpeltFrom : ℕ → ℕ → ℕ → ℕ → List ℕ → List ℕ → Type 0
SpeltFrom n m k from t t' =
    (cs ds t₀ : List ℕ) → length cs ≡ n → length ds ≡ m → Low ds → t ≡ over (letters (cs ++ take (from - n) (again k ds))) t₀ → t' ≡ over (letters (cs ++ again k ds)) t₀

-- and where they were there once
abbrev pub SpeltAgain : ℕ → ℕ → ℕ → List ℕ → List ℕ → Type 0
SpeltAgain n m k t t' =
    (cs ds t₀ : List ℕ) → length cs ≡ n → length ds ≡ m → Low ds → t ≡ over (letters (cs ++ ds)) t₀ → t' ≡ over (letters (cs ++ again k ds)) t₀

-- a string's contents can have such a type-byte: a CHAR's, a PADDING's or a REPEAT's
unfoldable pub spells : ℕ → Bool
unfolding either
spells b = either (nat_lt b 0x80) (either (b == 0xff) (b == 0xc4))

-- whether a run says only CHARs
abbrev pub OnlyChars : ℕ → List ℕ → Bool → Type 0
OnlyChars d s r = (xs : Items) → reads d s ≡ says xs → r ≡ is_string xs

-- the run is accepted and a string's, and its codes fit behind n others
pub record TextFits (d : ℕ) (s : List ℕ) (n : ℕ) (t : List ℕ) : Type 0 where
  pub items : Items
  pub said : reads d s ≡ says items
  pub chars : is_string items ≡ true
  pub room : n + count items ≤ 8 * length t
  pub few : n + count items ≤ 8 * word_limit

pub record TextPut (d : ℕ) (s : List ℕ) (n : ℕ) (t t' : List ℕ) (r : ℕ) : Type 0 where
  pub items : Items
  pub said : reads d s ≡ says items
  pub chars : is_string items ≡ true
  pub upto : r ≡ n + count items
  pub low : Low (codes items)
  pub spelt : Spelt n (codes items) t t'

-- what the contents of a string say: every byte is a character, or they are a run
unfoldable pub contents_say : Bool → ℕ → List ℕ → Outcome
unfolding pick characters reads
contents_say raw d c = pick raw (says (characters c)) (reads d c)

-- An object is tried as a string: its contents come to `o`, and `is_one` tells of their items whether it is one. They are accepted,
-- and have room if it is.
pub record TextRoom (o : Outcome) (is_one : Items → Bool) (base gap : ℕ) (t : List ℕ) : Type 0 where
  pub items : Items
  pub said : o ≡ says items
  pub room : is_one items ≡ true → (3 ≤ gap) × (gap + (base + length (text_words items)) ≤ length t) × (base + length (text_words items) ≤ word_limit)

-- a string is laid out, with r data words
pub record TextLaid (items : Items) (base gap : ℕ) (t t' : List ℕ) (r : ℕ) : Type 0 where
  pub words_are : r ≡ length (text_words items)
  pub front_is : take gap t' ≡ over (9 ∷ count items ∷ base ∷ []) (take gap t)
  pub back_is : drop gap t' ≡ over_at base (text_words items) (drop gap t)

-- or it is none, and nothing is written
pub record Tried (is_one : Bool) (items : Items) (base gap : ℕ) (t t' : List ℕ) (r : Option ℕ) : Type 0 where
  pub laid : is_one ≡ true → (n : ℕ) × (r ≡ Some n) × TextLaid items base gap t t' n
  pub none : is_one ≡ false → (r ≡ None) × (t' ≡ t)

abbrev pub TextTried : Outcome → (Items → Bool) → ℕ → ℕ → List ℕ → List ℕ → Option ℕ → Type 0
TextTried o is_one base gap t t' r = (xs : Items) → o ≡ says xs → Tried (is_one xs) xs base gap t t' r

-- contents that are known for a string's
pub record StringRoom (raw : Bool) (d : ℕ) (c : List ℕ) (base gap : ℕ) (t : List ℕ) : Type 0 where
  pub items : Items
  pub said : contents_say raw d c ≡ says items
  pub chars : is_string items ≡ true
  pub room : (3 ≤ gap) × (gap + (base + length (text_words items)) ≤ length t) × (base + length (text_words items) ≤ word_limit)

pub record StringLaid (raw : Bool) (d : ℕ) (c : List ℕ) (base gap : ℕ) (t t' : List ℕ) (r : ℕ) : Type 0 where
  pub items : Items
  pub said : contents_say raw d c ≡ says items
  pub chars : is_string items ≡ true
  pub laid : TextLaid items base gap t t' r
