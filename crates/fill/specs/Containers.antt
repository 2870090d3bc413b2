-- How a container closes over the rows and the data words of its contents.
use Rattle.std.specs.Prelude.{ℕ, ◌+◌, ◌*◌, ◌<◌, ◌≤◌, Bool, true, false, List, [], ◌∷◌, take, drop}
use Rattle.format.specs.Choice.{both}
use Rattle.format.specs.Items.{struc, edt, Items, end, group, times, is_string}
use Rattle.format.specs.Answers.{over}
use Rattle.format.specs.Lent.{over_at}
use Rattle.format.specs.Refusals.{word_limit}
use Rattle.wire.specs.declared.head.Wrap.{Wrap}
use Rattle.wire.specs.declared.head.Wrap.TheVariants.{Struc, Ustruc, Edt, Repeat}
use Rattle.fill.specs.declared.place.Filled.{Filled}
use Rattle.fill.specs.Copies.{copies, again}

-- how often the elements stand there
unfoldable pub copies_of : Wrap → ℕ
copies_of Struc = 1
copies_of Ustruc = 1
copies_of Edt = 1
copies_of (Repeat k) = k

-- the words of the container's own row
unfoldable pub own_words : Wrap → ℕ
own_words Struc = 3
own_words Ustruc = 3
own_words Edt = 3
own_words (Repeat k) = 0

-- whether it can be a string
unfoldable pub is_struc : Wrap → Bool
is_struc Struc = true
is_struc Ustruc = true
is_struc Edt = false
is_struc (Repeat k) = false

-- whether it is one, by its elements
unfoldable pub text_in : Wrap → Items → Bool
unfolding both is_struc is_string
text_in w xs = both (is_struc w) (is_string xs)

-- the items that it comes to
unfoldable pub closed_items : Wrap → Items → Items
unfolding times
closed_items Struc xs = group struc xs end
closed_items Ustruc xs = group struc xs end
closed_items Edt xs = group edt xs end
closed_items (Repeat k) xs = times k xs

-- the kind of its row
unfoldable pub kind_of : Wrap → ℕ
kind_of Struc = 7
kind_of Ustruc = 7
kind_of Edt = 8
kind_of (Repeat k) = 7

-- rows, items and data words of a container of its own row, and of any
abbrev pub closed_group : Filled → Filled
closed_group f = record { rows = f.rows + 1; count = 1; words = f.words }

unfoldable pub closed_sums : Wrap → Filled → Filled
closed_sums Struc f = closed_group f
closed_sums Ustruc f = closed_group f
closed_sums Edt f = closed_group f
closed_sums (Repeat k) f = record { rows = k * f.rows; count = k * f.count; words = k * f.words }

-- The table, whose front has the place of the container's own row and then the rows of its elements, and from `at` on their data
-- words.
unfoldable pub closed_table : Wrap → Filled → ℕ → List ℕ → List ℕ
unfolding over copies again over_at kind_of
closed_table Struc f at t = over (kind_of Struc ∷ f.count ∷ f.rows ∷ []) t
closed_table Ustruc f at t = over (kind_of Ustruc ∷ f.count ∷ f.rows ∷ []) t
closed_table Edt f at t = over (kind_of Edt ∷ f.count ∷ f.rows ∷ []) t
closed_table (Repeat k) f at t = over_at at (again k (take f.words (drop at t))) (over (copies f.words k (take (3 * f.rows) t)) t)

-- a repeat's copies have room before `at` and from there on, and the numbers fit
abbrev pub Repeatable : ℕ → Filled → ℕ → ℕ → Type 0
Repeatable k f at len =
    (0 < k) × (3 * (k * f.rows) ≤ at) × (at + k * f.words ≤ len) × (k * f.count ≤ len) × (k * f.words ≤ word_limit)

-- and so has any container
unfoldable pub Closable : Wrap → Filled → ℕ → ℕ → Type 0
Closable Struc f at len = (3 * (f.rows + 1) ≤ at) × (at ≤ len)
Closable Ustruc f at len = (3 * (f.rows + 1) ≤ at) × (at ≤ len)
Closable Edt f at len = (3 * (f.rows + 1) ≤ at) × (at ≤ len)
Closable (Repeat k) f at len = Repeatable k f at len
