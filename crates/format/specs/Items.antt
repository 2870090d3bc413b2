-- Items: what a message says. They do not know how they were sent.
use Rattle.std.specs.Prelude.{ℕ, zero, suc, ◌^◌, Bool, true, false, List, [], ◌∷◌, ltb, eqb, ℤ}
use Rattle.std.specs.Int.Signed.{mag}
use Rattle.format.specs.Choice.{both, either}

-- an item with no elements
pub data Leaf : Type 0 where
  int : ℤ → Leaf
  bits : List Bool → Leaf
  char : ℕ → Leaf
  bool : Bool → Leaf
  empty : Leaf
  xtra : ℕ → Leaf
  deriving Discrete as Leaf-discrete

-- an item with elements
pub data Group : Type 0 where
  struc edt : Group
  deriving Discrete as Group-discrete

-- a list of items in order: none, or an item and then the rest. A group's first list is its elements.
pub data Items : Type 0 where
  end : Items
  leaf : Leaf → Items → Items
  group : Group → Items → Items → Items
  deriving Discrete as Items-discrete

abbrev pub one : Leaf → Items
one l = leaf l end

-- a CHAR for each code
unfoldable pub text : List ℕ → Items
text [] = end
text (c ∷ l) = leaf (char c) (text l)

-- the items of one list, then those of the other
unfoldable pub join : Items → Items → Items
join end ys = ys
join (leaf l xs) ys = leaf l (join xs ys)
join (group g c xs) ys = group g c (join xs ys)

-- "The pattern's elements appear that many times in the enclosing object." Nothing, however often, is nothing.
unfoldable pub times : ℕ → Items → Items
unfolding join
times n end = end
times zero (leaf l xs) = end
times (suc n) (leaf l xs) = join (leaf l xs) (times n (leaf l xs))
times zero (group g c xs) = end
times (suc n) (group g c xs) = join (group g c xs) (times n (group g c xs))

-- "The kinds are INT, BITS, CHAR, BOOL, EMPTY, XTRA, string, other STRUC, EDT." Their codes are the table's.
abbrev pub INT : ℕ
INT = 1

abbrev pub BITS : ℕ
BITS = 2

abbrev pub CHAR : ℕ
CHAR = 3

abbrev pub BOOL : ℕ
BOOL = 4

abbrev pub EMPTY : ℕ
EMPTY = 5

abbrev pub XTRA : ℕ
XTRA = 6

abbrev pub STRUC : ℕ
STRUC = 7

abbrev pub EDT : ℕ
EDT = 8

unfoldable pub leaf_kind : Leaf → ℕ
leaf_kind (int z) = INT
leaf_kind (bits bs) = BITS
leaf_kind (char c) = CHAR
leaf_kind (bool b) = BOOL
leaf_kind empty = EMPTY
leaf_kind (xtra n) = XTRA

-- Ask 5: "For a USTRUC, strings and other STRUCs are one kind; an EDT stays its own."
unfoldable pub group_kind : Group → ℕ
group_kind struc = STRUC
group_kind edt = EDT

-- the kinds of the items of a list, elements left out
unfoldable pub kinds : Items → List ℕ
unfolding leaf_kind group_kind
kinds end = []
kinds (leaf l xs) = leaf_kind l ∷ kinds xs
kinds (group g c xs) = group_kind g ∷ kinds xs

-- every kind of a list is k
unfoldable pub all_of : ℕ → List ℕ → Bool
unfolding both
all_of k [] = true
all_of k (l ∷ ks) = both (eqb l k) (all_of k ks)

-- "A STRUC whose elements are all CHAR, the empty one included, is a string."
unfoldable pub is_string : Items → Bool
unfolding all_of kinds
is_string xs = all_of CHAR (kinds xs)

-- "all elements of a USTRUC are of one kind"
unfoldable pub alike : List ℕ → Bool
unfolding all_of
alike [] = true
alike (k ∷ ks) = all_of k ks

unfoldable pub uniform : Items → Bool
unfolding alike kinds
uniform xs = alike (kinds xs)

-- the first item of a list is an INT
unfoldable pub starts_int : Items → Bool
unfolding leaf_kind
starts_int end = false
starts_int (leaf l xs) = eqb (leaf_kind l) INT
starts_int (group g c xs) = false

-- the first item of a list is a string
unfoldable pub starts_string : Items → Bool
unfolding is_string
starts_string end = false
starts_string (leaf l xs) = false
starts_string (group struc c xs) = is_string c
starts_string (group edt c xs) = false

-- the items behind the first
unfoldable pub behind : Items → Items
behind end = end
behind (leaf l xs) = xs
behind (group g c xs) = xs

-- "an EDT's first element is an INT or a string and its second an INT"
unfoldable pub edt_rule : Items → Bool
unfolding both either starts_int starts_string behind
edt_rule xs = both (either (starts_int xs) (starts_string xs)) (starts_int (behind xs))

-- What can be an item at all. INT: "from -2^63 to 2^63 - 1" (`mag` of n is n, and of -(n + 1) is n); "CHAR 0-127"; "XTRA 0-3".
unfoldable pub proper_leaf : Leaf → Bool
proper_leaf (int z) = ltb (mag z) (2 ^ 63)
proper_leaf (bits bs) = true
proper_leaf (char c) = ltb c 128
proper_leaf (bool b) = true
proper_leaf empty = true
proper_leaf (xtra n) = ltb n 4

unfoldable pub proper_group : Group → Items → Bool
unfolding edt_rule
proper_group struc xs = true
proper_group edt xs = edt_rule xs

unfoldable pub proper : Items → Bool
unfolding both proper_leaf proper_group
proper end = true
proper (leaf l xs) = both (proper_leaf l) (proper xs)
proper (group g c xs) = both (proper_group g c) (both (proper c) (proper xs))
