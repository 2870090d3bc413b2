-- "Tell me why": of a refused message "the places of all containers open around the faulty object, itself left out, outermost first, and
-- the evidence". All places are offsets in the whole input, `m`. An object stands at `i` with `d` containers around it, and the bytes that
-- it may have end at `e`, with the input or with the object that encloses it.
use Rattle.std.specs.Prelude.{ℕ, zero, suc, ◌+◌, ◌-◌, List, [], ◌∷◌, ◌++◌, length, take, drop, get_or}
use Rattle.format.specs.Choice.{pick, if_lt, if_eq, either}
use Rattle.format.specs.Refusals.{Fault, unassigned, too_deep, bad_bits}
use Rattle.format.specs.Items.{Items, STRUC, EDT, kinds, starts_int, starts_string}
use Rattle.format.specs.Objects as O
use Rattle.format.specs.Messages.{Outcome, refused, says, Object, bad, got, reads}
use Rattle.format.specs.Runs.{object_at}
use Rattle.explain.specs.declared.evidence.Evidence.{Evidence}
use Rattle.explain.specs.declared.evidence.Evidence.TheVariants.{Nothing, End, Byte, Number, Absent, Kinds, Element, NoElement}

-- the bytes from i up to e
unfoldable pub between : List ℕ → ℕ → ℕ → List ℕ
between m i e = take (e - i) (drop i m)

-- what the object at i says by itself, and what it comes to
unfoldable pub head_at : List ℕ → ℕ → ℕ → ℕ → O.Head
unfolding O.head_of between
head_at m d i e = O.head_of d (get_or m i 0) (between m (i + 1) e)

unfoldable pub object_in : List ℕ → ℕ → ℕ → ℕ → Object
unfolding object_at between
object_in m d i e = object_at d (get_or m i 0) (between m (i + 1) e)

-- ---- elements "after repeats are laid out": each by its kind and its object's place
pub record Stands : Type 0 where
  pub kind : ℕ
  pub place : ℕ

-- the kinds of an object's own items, all at its place
unfoldable pub standing : ℕ → List ℕ → List Stands
standing p [] = []
standing p (k ∷ ks) = record { kind = k; place = p } ∷ standing p ks

-- "The pattern's elements appear that many times in the enclosing object."
unfoldable pub again : ℕ → List Stands → List Stands
again n [] = []
again zero (x ∷ xs) = []
again (suc n) (x ∷ xs) = (x ∷ xs) ++ again n (x ∷ xs)

-- a container is one element, but for a REPEAT; `inside` are the elements of its contents
unfoldable pub opened : ℕ → O.Wrap → List Stands → List Stands
unfolding standing again
opened p O.as_struc inside = standing p (STRUC ∷ [])
opened p O.as_ustruc inside = standing p (STRUC ∷ [])
opened p O.as_edt inside = standing p (EDT ∷ [])
opened p (O.repeated k) inside = again k inside

-- the elements of an object at p, and then those past it
unfoldable pub elements_by : ℕ → (ℕ → ℕ → List Stands) → (ℕ → List Stands) → O.Head → List Stands
unfolding standing kinds opened
elements_by p inside rest (O.stop f) = []
elements_by p inside rest (O.gives xs u) = standing p (kinds xs) ++ rest (p + 1 + u)
elements_by p inside rest (O.opens w h n) = opened p w (inside (p + 1 + h) (p + 1 + h + n)) ++ rest (p + 1 + h + n)

-- of the run from i to e. Each object has a byte at least, so as many steps as bytes are enough.
unfoldable pub elements_from : ℕ → List ℕ → ℕ → ℕ → ℕ → List Stands
unfolding if_lt elements_by head_at
elements_from zero m d i e = []
elements_from (suc f) m d i e =
    if_lt i e (elements_by i (λ a z. elements_from f m (suc d) a z) (λ j. elements_from f m d j e) (head_at m d i e)) []

unfoldable pub elements_in : List ℕ → ℕ → ℕ → ℕ → List Stands
unfolding elements_from
elements_in m d i e = elements_from (e - i) m d i e

-- ---- the evidence
-- for 8, "the places of two objects whose elements differ in kind, the first element's and the earliest element's that differs from it,
-- both after repeats are laid out"
unfoldable pub apart_from : Stands → List Stands → Evidence
unfolding if_eq
apart_from x [] = Nothing
apart_from x (y ∷ ys) = if_eq y.kind x.kind (apart_from x ys) (Kinds x.place y.place)

unfoldable pub kinds_apart : List Stands → Evidence
unfolding apart_from
kinds_apart [] = Nothing
kinds_apart (x ∷ xs) = apart_from x xs

-- for 9, "which of the two elements is first wrong or absent, with its object's place if there". The items are `xs`, in the places of `es`.
unfoldable pub element_at : ℕ → List Stands → Evidence
element_at k [] = NoElement k
element_at k (x ∷ xs) = Element k x.place

unfoldable pub wrong_element : Items → List Stands → Evidence
unfolding pick either starts_int starts_string element_at
wrong_element xs es = pick (either (starts_int xs) (starts_string xs)) (element_at 2 (drop 1 es)) (element_at 1 es)

-- a container is refused for its elements where its contents are all right in themselves
unfoldable pub closed_wrong : O.Wrap → List Stands → Outcome → Evidence
unfolding kinds_apart wrong_element
closed_wrong w es (refused f) = Nothing
closed_wrong O.as_struc es (says xs) = Nothing
closed_wrong O.as_ustruc es (says xs) = kinds_apart es
closed_wrong O.as_edt es (says xs) = wrong_element xs es
closed_wrong (O.repeated k) es (says xs) = Nothing

-- for 6 and 7, of a length or count at the front of the contents c, which start at a: "the byte at fault with its place, or the number at
-- fault .., or that it is absent". The byte is the first that is no padding. For one that is cut short, the end that it passed.
unfoldable pub in_place : List ℕ → ℕ → Evidence
unfolding if_eq
in_place [] a = Absent
in_place (b ∷ c) a = if_eq b 0xff (in_place c (a + 1)) (Byte b a)

unfoldable pub counted : List ℕ → ℕ → O.Leading → Evidence
unfolding in_place
counted c a O.absent = in_place c a
counted c a (O.cut_int p k) = End (a + length c)
counted c a (O.found z u) = Number z

unfoldable pub counting : List ℕ → ℕ → O.Size → Evidence
unfolding counted between O.leading
counting m i (O.cut k) = Nothing
counting m i (O.size h n) = counted (between m (i + 1 + h) (i + 1 + h + n)) (i + 1 + h) (O.leading (between m (i + 1 + h) (i + 1 + h + n)))

-- An object that is refused by itself. A fault that is not at its own place is its length's or count's. "For 2 and 3 it gives the end that
-- was passed, as the offset of the first byte past it"; for 4 the byte; "for 5, the sixteen containers", and nothing more; for 6 the
-- SBITSTR's byte or the LBITSTR's length; for 7 the outermost REPEAT's byte or the count.
unfoldable pub stopped : List ℕ → ℕ → ℕ → ℕ → Fault → Evidence
unfolding if_lt if_eq counting O.size_of between
stopped m d i e f =
    if_lt 0 f.place (counting m i (O.size_of (between m (i + 1) e)))
    (if_lt f.number unassigned (End e)
    (if_eq f.number unassigned (Byte (get_or m i 0) i)
    (if_eq f.number too_deep Nothing
    (if_eq f.number bad_bits (if_eq (get_or m i 0) 0xc1 (counting m i (O.size_of (between m (i + 1) e))) (Byte 0 (i + 1)))
    (if_eq d 0 (Byte (get_or m i 0) i) (counting m i (O.size_of (between m (i + 1) e))))))))

unfoldable pub evidence_by : List ℕ → ℕ → ℕ → ℕ → O.Head → Evidence
unfolding stopped closed_wrong elements_in reads between
evidence_by m d i e (O.stop f) = stopped m d i e f
evidence_by m d i e (O.gives xs u) = Nothing
evidence_by m d i e (O.opens w h n) =
    closed_wrong w (elements_in m (suc d) (i + 1 + h) (i + 1 + h + n)) (reads (suc d) (between m (i + 1 + h) (i + 1 + h + n)))

unfoldable pub evidence_at : List ℕ → ℕ → ℕ → ℕ → Evidence
unfolding evidence_by head_at
evidence_at m d i e = evidence_by m d i e (head_at m d i e)

-- ---- the faulty object, and the containers open around it
pub record Why : Type 0 where
  pub around : List ℕ
  pub evidence : Evidence

-- a REPEAT is open around its count, where that is at fault and not the REPEAT itself
unfoldable pub own_place : List ℕ → ℕ → O.Head → List ℕ
unfolding if_lt if_eq
own_place m i (O.stop f) = if_lt 0 f.place (if_eq (get_or m i 0) 0xc4 (i ∷ []) []) []
own_place m i (O.gives xs u) = []
own_place m i (O.opens w h n) = []

-- the object at i is at fault, or its length or count
unfoldable pub fault_at : List ℕ → List ℕ → ℕ → ℕ → Why
unfolding own_place head_at evidence_at
fault_at m ps i e = record { around = ps ++ own_place m i (head_at m (length ps) i e); evidence = evidence_at m (length ps) i e }

-- what a fault in contents comes to, or that there is none
unfoldable pub in_contents : Why → Why → Outcome → Why
in_contents inner own (refused f) = inner
in_contents inner own (says xs) = own

-- `inside` goes into contents, by where they start and end; `own` is the object's own fault
unfoldable pub inside_or : List ℕ → ℕ → ℕ → (ℕ → ℕ → Why) → Why → O.Head → Why
unfolding in_contents reads between
inside_or m d i inside own (O.stop f) = own
inside_or m d i inside own (O.gives xs u) = own
inside_or m d i inside own (O.opens w h n) =
    in_contents (inside (i + 1 + h) (i + 1 + h + n)) own (reads (suc d) (between m (i + 1 + h) (i + 1 + h + n)))

unfoldable pub past_or : (ℕ → Why) → Why → Object → Why
past_or past here (got xs u) = past u
past_or past here (bad f) = here

-- "left to right, the first fault met", in the run from i to e inside the containers ps; asked only where there is one
unfoldable pub why_from : ℕ → List ℕ → List ℕ → ℕ → ℕ → Why
unfolding past_or inside_or fault_at head_at object_in
why_from zero m ps i e = record { around = ps; evidence = Nothing }
why_from (suc f) m ps i e =
    past_or (λ u. why_from f m ps (i + 1 + u) e)
    (inside_or m (length ps) i (λ a z. why_from f m (ps ++ (i ∷ [])) a z) (fault_at m ps i e) (head_at m (length ps) i e))
    (object_in m (length ps) i e)

unfoldable pub why : List ℕ → Why
unfolding why_from
why m = why_from (length m) m [] 0 (length m)
