-- What a list of items comes to, component by component; and the same of lists that are joined, repeated and closed over, from
-- what they come to alone.
use Rattle.std.specs.Prelude.{ℕ, ◌+◌, ◌*◌, min, List, [], ◌∷◌, length, ◌≡◌, ◌<◌, ◌⊎◌, Option, None, Some, ◌==◌, if◌then◌else◌}
use Rattle.format.specs.Choice.{pick}
use Rattle.format.specs.Bits.{words_for}
use Rattle.format.specs.Items.{Leaf, int, bits, char, bool, empty, xtra, Group, struc, edt, Items, end, leaf, group, is_string, behind}
use Rattle.format.specs.Tables.{rows, data_words}
use Rattle.format.specs.declared.kinds.Kind.{Kind}
use Rattle.format.specs.declared.kinds.Kind.TheVariants as K
use Rattle.format.specs.Kinds.{word_of}
use Rattle.scan.specs.declared.summary.Met.{Met}
use Rattle.scan.specs.declared.summary.Summary.{Summary}

-- Data words are counted up to 65,536 and no further, and rows eight times as far: the characters of a string are a row each
-- until it closes, and then eight of them are a word.
abbrev pub cap_words : ℕ → ℕ
cap_words n = min n 65536

abbrev pub cap_rows : ℕ → ℕ
cap_rows n = min n 524288

-- the kinds of the items of a list, elements left out, by their names
unfoldable pub leaf_named : Leaf → Kind
leaf_named (int z) = K.Int
leaf_named (bits bs) = K.Bits
leaf_named (char c) = K.Char
leaf_named (bool b) = K.Bool
leaf_named empty = K.Empty
leaf_named (xtra n) = K.Xtra

unfoldable pub group_named : Group → Kind
group_named struc = K.Struc
group_named edt = K.Edt

unfoldable pub named : Items → List Kind
unfolding leaf_named group_named
named end = []
named (leaf l xs) = leaf_named l ∷ named xs
named (group g c xs) = group_named g ∷ named xs

-- For a USTRUC, the kinds met: none, the one, or several.
pub data Mix : Type 0 where
  unmet : Mix
  alone : Kind → Mix
  several : Mix

abbrev pub together : Mix → Mix → Mix
together unmet b = b
together (alone k) unmet = alone k
together (alone k) (alone l) = if word_of k == word_of l then alone k else several
together (alone k) several = several
together several b = several

unfoldable pub mix_of : List Kind → Mix
mix_of [] = unmet
mix_of (k ∷ ks) = together (alone k) (mix_of ks)

-- For an EDT, the lead of a list, what it begins with: a string by a kind of its own, else the first item's kind.
unfoldable pub lead : Items → Option Kind
unfolding leaf_named pick is_string
lead end = None
lead (leaf l xs) = Some (leaf_named l)
lead (group struc c xs) = Some (pick (is_string c) K.String K.Struc)
lead (group edt c xs) = Some K.Edt

-- what the code has for them: the kind's word, 0 or 255
abbrev pub met_none : Met
met_none = record { word = 0 }

abbrev pub met_one : Kind → Met
met_one k = record { word = word_of k }

abbrev pub met_several : Met
met_several = record { word = 255 }

abbrev pub met_mix : Mix → Met
met_mix unmet = met_none
met_mix (alone k) = met_one k
met_mix several = met_several

abbrev pub met_lead : Option Kind → Met
met_lead None = met_none
met_lead (Some k) = met_one k

-- the kind that it is, if it is one
abbrev pub MetKind : Met → Option Kind → Type 0
MetKind m None = (m.word ≡ 0) ⊎ (9 < m.word)
MetKind m (Some k) = m.word ≡ word_of k

unfoldable pub sum_of : Items → Summary
unfolding rows data_words named mix_of lead behind
sum_of xs =
    record {
      rows = cap_rows (rows xs);
      words = cap_words (length (data_words xs));
      mix = met_mix (mix_of (named xs));
      first = met_lead (lead xs);
      second = met_lead (lead (behind xs));
    }

-- no items
abbrev pub nothing_of : Summary
nothing_of = record { rows = 0; words = 0; mix = met_none; first = met_none; second = met_none }

-- one item of kind k, the lead l, with r rows and d data words
abbrev pub element_of : Kind → Kind → ℕ → ℕ → Summary
element_of k l r d = record { rows = r; words = d; mix = met_one k; first = met_one l; second = met_none }

-- one whose kind is its lead, by its word, which may be any
abbrev pub item_of : Met → ℕ → ℕ → Summary
item_of m r d = record { rows = r; words = d; mix = m; first = m; second = met_none }

-- one without elements; a string of n characters, which is one row with eight bits in the data for each
abbrev pub one_of : Kind → ℕ → ℕ → Summary
one_of k r d = item_of (met_one k) r d

abbrev pub text_of : ℕ → Summary
text_of n = element_of K.Struc K.String 1 (words_for (8 * n))

-- the kinds met of two runs together, and the first of two that is one
abbrev pub mixed : Met → Met → Met
mixed a b =
    if a.word == 0 then b
    else (if b.word == 0 then a else (if a.word == b.word then a else met_several))

abbrev pub or_else : Met → Met → Met
or_else a b = if a.word == 0 then b else a

-- the second lead of the one and then the other
abbrev pub second_sum : Summary → Summary → Met
second_sum a b = if a.first.word == 0 then b.second else or_else a.second b.first

-- the one, then the other
abbrev pub plus_of : Summary → Summary → Summary
plus_of a b =
    record {
      rows = cap_rows (cap_rows a.rows + cap_rows b.rows);
      words = cap_words (cap_words a.words + cap_words b.words);
      mix = mixed a.mix b.mix;
      first = or_else a.first b.first;
      second = second_sum a b;
    }

-- k times, k not 0: two of them settle the second lead
abbrev pub second_power : ℕ → Summary → Met
second_power k a = if k == 1 then a.second else or_else a.second a.first

unfoldable pub power_of : ℕ → Summary → Summary
power_of k a =
    if k == 0 then nothing_of
    else record {
      rows = cap_rows (cap_rows k * cap_rows a.rows);
      words = cap_words (cap_words k * cap_words a.words);
      mix = a.mix;
      first = a.first;
      second = second_power k a;
    }

-- what a STRUC is to an EDT, by the kinds of its elements
abbrev pub struc_lead : Met → Kind
struc_lead m = if m.word == 0 then K.String else (if m.word == 3 then K.String else K.Struc)

-- a container of kind k, the lead l
abbrev pub container_of : Kind → Kind → Summary → Summary
container_of k l a = element_of k l (cap_rows (cap_rows a.rows + cap_rows 1)) (cap_words a.words)

-- a STRUC: of a string the rows so far are its characters
abbrev pub struc_by : Kind → Summary → Summary
struc_by K.String a = text_of (cap_rows a.rows)
struc_by l a = container_of K.Struc l a

abbrev pub struc_of : Summary → Summary
struc_of a = struc_by (struc_lead a.mix) a

abbrev pub edt_of : Summary → Summary
edt_of a = container_of K.Edt K.Edt a
