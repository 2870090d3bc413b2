-- What the code's answers say: a stretch of a message, places among elements, an object in a run, where a descent ends; and the answer
-- beside the list.
use Rattle.std.specs.Prelude.{ℕ, ◌+◌, ◌*◌, ◌≤◌, ◌<◌, min, ◌≡◌, ◌⊎◌, Bool, true, false, List, [], ◌∷◌, length, take, get_or, Option, Some, None, Result, Ok, Err}
use Rattle.std.specs.Option.{option_or}
use Rattle.format.specs.Choice.{if_lt, if_eq}
use Rattle.format.specs.declared.fault.Fault.{Fault}
use Rattle.format.specs.declared.kinds.Kind.{Kind}
use Rattle.format.specs.declared.kinds.Kind.TheVariants as K
use Rattle.format.specs.Kinds.{word_of}
use Rattle.format.specs.Refused.{meant}
use Rattle.format.specs.Refusals as R
use Rattle.format.specs.Refusals.{too_many, table_short, row_limit, word_limit}
use Rattle.format.specs.Items.{Items, end, CHAR, INT}
use Rattle.format.specs.Objects as O
use Rattle.format.specs.Messages.{Outcome, refused, reads, outcome}
use Rattle.wire.specs.declared.head.Wrap.{Wrap}
use Rattle.wire.specs.declared.head.Wrap.TheVariants.{Struc, Ustruc, Edt, Repeat}
use Rattle.wire.specs.declared.size.Extent.{Extent}
use Rattle.message.specs.declared.Reading.{Reading}
use Rattle.message.specs.Told.{fault_answer, read_answer}
use Rattle.explain.specs.declared.evidence.Evidence.{Evidence}
use Rattle.explain.specs.declared.evidence.Evidence.TheVariants.{Nothing, Kinds, Element, NoElement, Wanted}
use Rattle.explain.specs.declared.stretch.Stretch.{Stretch}
use Rattle.explain.specs.declared.elements.Places.{Places}
use Rattle.explain.specs.declared.elements.Piece.{Piece}
use Rattle.explain.specs.declared.elements.Piece.TheVariants.{Skip, Item, Copies}
use Rattle.explain.specs.declared.descent.Step.{Step}
use Rattle.explain.specs.declared.descent.Step.TheVariants.{Over, Into}
use Rattle.explain.specs.declared.trail.Trail.{Trail}
use Rattle.explain.specs.declared.Explaining.{Explaining}
use Rattle.explain.specs.Reasons.{Stands, between, head_at, elements_by, elements_in, counting, stopped, evidence_at, why}
use Rattle.explain.specs.Explanations as E

-- ---- a stretch, and the object that it begins with
abbrev pub behind_of : Stretch → List ℕ
behind_of s = between s.message.now (s.from + 1) s.end

abbrev pub head_in : Stretch → O.Head
head_in s = head_at s.message.now s.depth s.from s.end

abbrev pub said_in : Stretch → Outcome
said_in s = reads s.depth (between s.message.now s.from s.end)

abbrev pub elements_of : Stretch → List Stands
elements_of s = elements_in s.message.now s.depth s.from s.end

abbrev pub counting_in : Stretch → Evidence
counting_in s = counting s.message.now s.from (O.size_of (behind_of s))

abbrev pub stopped_in : Stretch → R.Fault → Evidence
stopped_in s f = stopped s.message.now s.depth s.from s.end f

abbrev pub evidence_in : Stretch → Evidence
evidence_in s = evidence_at s.message.now s.depth s.from s.end

-- the word of a kind that is asked for; no kind has 0
abbrev pub word_asked : Option Kind → ℕ
word_asked None = 0
word_asked (Some k) = word_of k

-- ---- places of objects
abbrev pub first_place : List Stands → Option ℕ
first_place [] = None
first_place (x ∷ xs) = Some x.place

abbrev pub second_place : List Stands → Option ℕ
second_place [] = None
second_place (x ∷ xs) = first_place xs

-- of the earliest element that is not of the kind k
unfoldable pub other_place : ℕ → List Stands → Option ℕ
unfolding if_eq
other_place k [] = None
other_place k (x ∷ xs) = if_eq x.kind k (other_place k xs) (Some x.place)

abbrev pub places_of : ℕ → List Stands → Places
places_of k es = record { first = first_place es; second = second_place es; other = other_place k es }

abbrev pub nothing_of : Places
nothing_of = record { first = None; second = None; other = None }

unfoldable pub one_of : ℕ → ℕ → ℕ → Places
unfolding if_eq
one_of k j p = record { first = Some p; second = None; other = if_eq j k None (Some p) }

-- where the second element stands, of a run whose first two these are, and then another run
abbrev pub second_of : Option ℕ → Option ℕ → Option ℕ → Option ℕ → Option ℕ
second_of None second later last = last
second_of (Some p) second later last = option_or second later

-- the one, then the other
abbrev pub plus_of : Places → Places → Places
plus_of a b =
    record {
      first = option_or a.first b.first;
      second = second_of a.first a.second b.first b.second;
      other = option_or a.other b.other;
    }

unfoldable pub copies_of : ℕ → Places → Places
unfolding if_eq
copies_of n a = if_eq n 0 nothing_of (if_eq n 1 a (plus_of a a))

-- ---- an object in a run
abbrev pub wrap_piece : Wrap → Extent → Piece
wrap_piece Struc e = Item K.Struc (e.start + e.size)
wrap_piece Ustruc e = Item K.Struc (e.start + e.size)
wrap_piece Edt e = Item K.Edt (e.start + e.size)
wrap_piece (Repeat k) e = Copies k e

-- one element of the kind k, whatever comes behind it
abbrev pub OneElement : O.Head → ℕ → ℕ → Type 0
OneElement h k u =
    (p : ℕ) (inside : ℕ → ℕ → List Stands) (rest : ℕ → List Stands)
    → elements_by p inside rest h ≡ record { kind = k; place = p } ∷ rest (p + 1 + u)

abbrev pub PieceIs : ℕ → ℕ → List ℕ → Result Piece Fault → Type 0
PieceIs d b s (Err f) = O.head_of d b s ≡ O.stop (meant f)
PieceIs d b s (Ok Skip) = O.head_of d b s ≡ O.gives end 0
PieceIs d b s (Ok (Item k u)) = OneElement (O.head_of d b s) (word_of k) u × (u ≤ length s)
PieceIs d b s (Ok (Copies k e)) = (O.head_of d b s ≡ O.opens (O.repeated k) e.start e.size) × (e.start + e.size ≤ length s) × (d < 16)

-- ---- objects of one byte, from i up to r, within e
-- CHARs, small INTs and padding
abbrev pub Singles : List ℕ → ℕ → ℕ → ℕ → Type 0
Singles m i r e = (i ≤ r) × (r ≤ e) × ((j : ℕ) → i ≤ j → j < r → (get_or m j 0 < 0xc0) ⊎ (get_or m j 0 ≡ 0xff))

-- a CHAR's byte, or a small INT's, if that is the kind k
abbrev pub OfKind : ℕ → ℕ → Type 0
OfKind k b = ((k ≡ CHAR) × (b < 0x80)) ⊎ ((k ≡ INT) × (0x80 ≤ b) × (b < 0xc0))

-- padding; and, where a second element is found, those of the kind k
abbrev pub Quiet : List ℕ → Option Kind → Bool → ℕ → ℕ → ℕ → Type 0
Quiet m k found i r e = (i ≤ r) × (r ≤ e) × ((j : ℕ) → i ≤ j → j < r → (get_or m j 0 ≡ 0xff) ⊎ ((found ≡ true) × OfKind (word_asked k) (get_or m j 0)))

-- the bytes behind a type-byte begin with a size, and the contents that it tells lie within them
abbrev pub SizeIn : List ℕ → Type 0
SizeIn s = (h : ℕ) × (n : ℕ) × (O.size_of s ≡ O.size h n) × (h + n ≤ length s)

-- ---- the evidence of a container, by places among its elements and what its first element is to an EDT (a string has a code of its own)
abbrev pub kinds_told : Option ℕ → Option ℕ → Evidence
kinds_told None other = Nothing
kinds_told (Some p) None = Nothing
kinds_told (Some p) (Some q) = Kinds p q

abbrev pub element_told : ℕ → Option ℕ → Evidence
element_told which None = NoElement which
element_told which (Some p) = Element which p

abbrev pub kind_by : Option Kind → Option Kind
kind_by (Some K.String) = Some K.Struc
kind_by l = l

abbrev pub leads_edt : Option Kind → Bool
leads_edt (Some K.Int) = true
leads_edt (Some K.String) = true
leads_edt l = false

-- the first element, if there is one, is of the kind k
abbrev pub FirstKind : List Stands → ℕ → Type 0
FirstKind [] k = Unit {0}
FirstKind (x ∷ xs) k = x.kind ≡ k

-- ---- the descent
abbrev pub StepIs : ℕ → ℕ → List ℕ → Result Step Fault → Type 0
StepIs d b s (Err f) = O.head_of d b s ≡ O.stop (meant f)
StepIs d b s (Ok (Over u)) = (xs : Items) × (O.head_of d b s ≡ O.gives xs u) × (u ≤ length s)
StepIs d b s (Ok (Into e)) = (w : O.Wrap) × (O.head_of d b s ≡ O.opens w e.start e.size) × (e.start + e.size ≤ length s) × (d < 16)

abbrev pub RefusedAt : List ℕ → ℕ → Type 0
RefusedAt m p = (f : R.Fault) × (outcome m ≡ refused f) × (f.place ≡ p)

-- the places that a trail has
abbrev pub around_of : Trail → List ℕ
around_of t = take t.len t.places

-- where it ends: the containers that are open, and the object whose evidence it is
pub record Descended (m : List ℕ) (object : Stretch) (trail : Trail) : Type 0 where
  pub message_is : object.message.now ≡ m
  pub inside : object.from < object.end
  pub around_is : around_of trail ≡ (why m).around
  pub evidence_is : evidence_in object ≡ (why m).evidence

-- ---- the answer
abbrev pub explain_told : Explaining → List ℕ → E.Numbers
explain_told r l =
    record {
      number = r.number;
      entries = r.entries;
      reading = r.reading;
      evidence = E.code_of r.evidence r.first r.second;
      list = l;
    }

unfoldable pub told_of : ℕ → ℕ → Reading → Evidence → Explaining
unfolding E.coded
told_of n k r e =
    record {
      number = n;
      entries = k;
      reading = r;
      evidence = (E.coded e).evidence;
      first = (E.coded e).first;
      second = (E.coded e).second;
    }

unfoldable pub refused_told : List ℕ → R.Fault → List ℕ → E.Numbers
unfolding E.in_numbers E.explained why
refused_told m f l = E.in_numbers (E.explained (fault_answer f) (why m) l)

-- a message without a fault, of so many rows and data words
unfoldable pub measured_of : ℕ → ℕ → ℕ → Explaining
unfolding if_lt told_of
measured_of r d w =
    if_lt row_limit r (told_of 0 0 (read_answer too_many 0) (Wanted (min r 65536) (min d 65536)))
    (if_lt word_limit d (told_of 0 0 (read_answer too_many 0) (Wanted (min r 65536) (min d 65536)))
    (if_lt w (4 + 3 * r + d) (told_of 0 0 (read_answer table_short (4 + 3 * r + d)) (Wanted r d)) (told_of 0 0 (read_answer 0 (4 + 3 * r + d)) Nothing)))
