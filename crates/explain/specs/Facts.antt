-- "It is proved that the fact named holds of the input and is the one for which reading refused": what that says, over the whole input `m`
-- and its offsets, one case for each sort of evidence.
use Rattle.std.specs.Prelude.{ℕ, suc, ◌+◌, ◌-◌, ◌≤◌, ◌<◌, ◌≡◌, ◌≢◌, true, false, List, [], ◌∷◌, ◌++◌, length, get_or, pos, negsuc}
use Rattle.std.proofs.Math.Option.{some}
use Rattle.format.specs.Choice.{either}
use Rattle.format.specs.declared.Class.{Class}
use Rattle.format.specs.declared.Class.TheVariants as C
use Rattle.format.specs.Bits.{bytes_for}
use Rattle.format.specs.Refusals.{Fault, past_enclosing, unassigned, too_deep, bad_bits, bad_repeat, several_kinds, bad_edt, depth_limit}
use Rattle.format.specs.Items.{Items, end, INT, BITS, CHAR, BOOL, EMPTY, XTRA, STRUC, EDT, kinds, starts_int, starts_string, behind}
use Rattle.format.specs.Classes.{class_of}
use Rattle.format.specs.Objects as O
use Rattle.format.specs.Messages.{says, bad, got, reads}
use Rattle.format.specs.Extents.{extent_of}
use Rattle.explain.specs.declared.evidence.Evidence.{Evidence}
use Rattle.explain.specs.declared.evidence.Evidence.TheVariants.{Nothing, End, Byte, Number, Absent, Kinds, Element, NoElement}
use Rattle.explain.specs.Reasons.{between, head_at, object_in, Stands, elements_in}

-- Reading comes without a fault to the object at i, whose bytes end at e at the latest. The containers open there are `ps`, outermost
-- first: those that were gone into and not yet left.
pub data Reached (m : List ℕ) : List ℕ → ℕ → ℕ → Type 0 where
  start : Reached m [] 0 (length m)
  -- past an object that is right
  past : (ps : List ℕ) (i e : ℕ) (xs : Items) (u : ℕ) → Reached m ps i e → i < e → object_in m (length ps) i e ≡ got xs u
      → Reached m ps (i + 1 + u) e
  -- into a container's contents
  into : (ps : List ℕ) (i e : ℕ) (w : O.Wrap) (h n : ℕ) → Reached m ps i e → i < e → head_at m (length ps) i e ≡ O.opens w h n
      → Reached m (ps ++ (i ∷ [])) (i + 1 + h) (i + 1 + h + n)

-- the object at i passes the end e: its size field is cut there, or its extent, by type-byte and size, is longer
pub data Passes (m : List ℕ) (i e : ℕ) : Type 0 where
  in_size : (k : ℕ) → 0 < k → extent_of (get_or m i 0) (between m (i + 1) e) ≡ some (O.cut k) → Passes m i e
  in_contents_case : (h n : ℕ) → extent_of (get_or m i 0) (between m (i + 1) e) ≡ some (O.size h n) → e < i + 1 + h + n → Passes m i e

-- the object at i has a size, and its contents go from a to z, within e
pub data Contents (m : List ℕ) (i e : ℕ) : ℕ → ℕ → Type 0 where
  from_to : (h n : ℕ) → O.size_of (between m (i + 1) e) ≡ O.size h n → i + 1 + h + n ≤ e → Contents m i e (i + 1 + h) (i + 1 + h + n)

-- With d containers around it, 6 is about an LBITSTR's length, 7 about the count of a REPEAT that is not outermost.
pub data Counts (d : ℕ) : ℕ → ℕ → Type 0 where
  bits : Counts d 0xc1 bad_bits
  copies : 0 < d → Counts d 0xc4 bad_repeat

-- from a up to z there is only padding
abbrev pub Padded : List ℕ → ℕ → ℕ → Type 0
Padded m a z = (j : ℕ) → a ≤ j → j < z → get_or m j 0 ≡ 0xff

-- a type-byte of one of the containers
pub data Holds : Class → Type 0 where
  struc : Holds C.Struc
  ustruc : Holds C.Ustruc
  edt : Holds C.Edt
  string : Holds C.String
  repeat : Holds C.Repeat

-- ---- elements
unfoldable pub kinds_of : List Stands → List ℕ
kinds_of [] = []
kinds_of (x ∷ xs) = x.kind ∷ kinds_of xs

-- the kind of an object's item, by the class of its type-byte; 0 for those that are no item
unfoldable pub class_kind : Class → ℕ
class_kind C.Char7 = CHAR
class_kind C.Sinteger = INT
class_kind C.Linteger = INT
class_kind C.Sbitstr = BITS
class_kind C.Lbitstr = BITS
class_kind C.String = STRUC
class_kind C.Struc = STRUC
class_kind C.Ustruc = STRUC
class_kind C.Edt = EDT
class_kind C.Repeat = 0
class_kind C.Xtra = XTRA
class_kind C.Bool = BOOL
class_kind C.Empty = EMPTY
class_kind C.Padding = 0
class_kind C.Reserved = 0

-- each stands from a up to z, and the type-byte at its place tells its kind
abbrev pub AllThere : List ℕ → ℕ → ℕ → List Stands → Type 0
AllThere m a z [] = Unit {0}
AllThere m a z (x ∷ xs) = (a ≤ x.place) × (x.place < z) × (class_kind (class_of (get_or m x.place 0)) ≡ x.kind) × AllThere m a z xs

-- The contents from a to z, d containers around them, say xs; the elements are es, an item each, of its kind.
pub record Elements (m : List ℕ) (d a z : ℕ) (xs : Items) (es : List Stands) : Type 0 where
  pub said : reads d (between m a z) ≡ says xs
  pub are : elements_in m d a z ≡ es
  pub agree : kinds_of es ≡ kinds xs
  pub there : AllThere m a z es

-- all of them are of the kind k
abbrev pub AllKind : ℕ → List Stands → Type 0
AllKind k [] = Unit {0}
AllKind k (x ∷ xs) = (x.kind ≡ k) × AllKind k xs

-- ---- The facts: of the object at i, whose bytes end at e at the latest, inside the containers ps. Then the refusal's number and place, the
-- containers told, and the evidence.
pub data Fact (m ps : List ℕ) (i e : ℕ) : ℕ → ℕ → List ℕ → Evidence → Type 0 where
  -- 2 and 3: "the end that was passed, as the offset of the first byte past it"
  own_end : Passes m i e → Fact m ps i e (O.past_end (length ps)) i ps (End e)
  -- 3: a count or a length that passes the end of its REPEAT or LBITSTR
  count_end : (a z p k : ℕ) → get_or m i 0 ≡ 0xc4 → Contents m i e a z → 0 < k → O.leading (between m a z) ≡ O.cut_int p k
      → Fact m ps i e past_enclosing (a + p) (ps ++ (i ∷ [])) (End z)
  length_end : (a z p k : ℕ) → get_or m i 0 ≡ 0xc1 → Contents m i e a z → 0 < k → O.leading (between m a z) ≡ O.cut_int p k
      → Fact m ps i e past_enclosing (a + p) ps (End z)
  -- 4: the type-byte
  reserved : class_of (get_or m i 0) ≡ C.Reserved → Fact m ps i e unassigned i ps (Byte (get_or m i 0) i)
  -- "for 5, the sixteen containers"
  seventeenth : Holds (class_of (get_or m i 0)) → length ps ≡ depth_limit → Fact m ps i e too_deep i ps Nothing
  -- 6: an SBITSTR's first data byte
  no_marker : class_of (get_or m i 0) ≡ C.Sbitstr → i + 1 < e → get_or m (i + 1) 0 ≡ 0 → Fact m ps i e bad_bits i ps (Byte 0 (i + 1))
  -- 7: an outermost REPEAT
  outermost : get_or m i 0 ≡ 0xc4 → ps ≡ [] → Fact m ps i e bad_repeat i ps (Byte 0xc4 i)
  -- 6 and 7: in the place of a length or count the byte at fault, "or that it is absent", "or the number at fault (the bit length, where the
  -- bytes do not agree with it)"
  other_byte : (n a z q : ℕ) → Counts (length ps) (get_or m i 0) n → Contents m i e a z → a ≤ q → q < z → Padded m a q → get_or m q 0 ≢ 0xff
      → class_of (get_or m q 0) ≢ C.Sinteger → class_of (get_or m q 0) ≢ C.Linteger → Fact m ps i e n i ps (Byte (get_or m q 0) q)
  no_object : (n a z : ℕ) → Counts (length ps) (get_or m i 0) n → Contents m i e a z → Padded m a z → Fact m ps i e n i ps Absent
  negative : (n a z k u : ℕ) → Counts (length ps) (get_or m i 0) n → Contents m i e a z → O.leading (between m a z) ≡ O.found (negsuc k) u
      → Fact m ps i e n i ps (Number (negsuc k))
  disagreeing : (a z k u : ℕ) → get_or m i 0 ≡ 0xc1 → Contents m i e a z → O.leading (between m a z) ≡ O.found (pos k) u
      → z - (a + u) ≢ bytes_for k → Fact m ps i e bad_bits i ps (Number (pos k))
  -- 8: "the first element's and the earliest element's that differs from it"
  kinds_apart_case : (a z : ℕ) (xs : Items) (x y : Stands) (same more : List Stands) → class_of (get_or m i 0) ≡ C.Ustruc → Contents m i e a z
      → Elements m (suc (length ps)) a z xs (x ∷ (same ++ (y ∷ more))) → AllKind x.kind same → y.kind ≢ x.kind
      → Fact m ps i e several_kinds i ps (Kinds x.place y.place)
  -- 9: "which of the two elements is first wrong or absent, with its object's place if there"
  no_first : (a z : ℕ) → class_of (get_or m i 0) ≡ C.Edt → Contents m i e a z → Elements m (suc (length ps)) a z end []
      → Fact m ps i e bad_edt i ps (NoElement 1)
  first_wrong : (a z : ℕ) (xs : Items) (x : Stands) (more : List Stands) → class_of (get_or m i 0) ≡ C.Edt → Contents m i e a z
      → Elements m (suc (length ps)) a z xs (x ∷ more) → either (starts_int xs) (starts_string xs) ≡ false
      → Fact m ps i e bad_edt i ps (Element 1 x.place)
  no_second : (a z : ℕ) (xs : Items) (x : Stands) → class_of (get_or m i 0) ≡ C.Edt → Contents m i e a z
      → Elements m (suc (length ps)) a z xs (x ∷ []) → either (starts_int xs) (starts_string xs) ≡ true
      → Fact m ps i e bad_edt i ps (NoElement 2)
  second_wrong : (a z : ℕ) (xs : Items) (x y : Stands) (more : List Stands) → class_of (get_or m i 0) ≡ C.Edt → Contents m i e a z
      → Elements m (suc (length ps)) a z xs (x ∷ (y ∷ more)) → either (starts_int xs) (starts_string xs) ≡ true → starts_int (behind xs) ≡ false
      → Fact m ps i e bad_edt i ps (Element 2 y.place)

-- A message is refused with number n at the place p; the containers told are ps, and the evidence is v: reading came to an object without
-- a fault, and that one it refuses so, for this fact.
pub data Because (m : List ℕ) (n p : ℕ) (ps : List ℕ) (v : Evidence) : Type 0 where
  because : (qs : List ℕ) (i e : ℕ) (g : Fault) → Reached m qs i e → i < e → object_in m (length qs) i e ≡ bad g → g.number ≡ n → i + g.place ≡ p
      → Fact m qs i e n p ps v → Because m n p ps v
