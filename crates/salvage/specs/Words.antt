-- The words of the theorems about salvaging.
use Rattle.std.specs.Prelude.{ℕ, ◌+◌, ◌*◌, ◌≤◌, ◌<◌, ◌≡◌, ◌≢◌, ◌⊎◌, List, [], ◌∷◌, ◌++◌, length, take, drop}
use Rattle.std.proofs.Math.Option.{none, some}
use Rattle.format.specs.Choice.{if_lt, if_eq}
use Rattle.format.specs.Refusals.{past_input, unassigned, bad_repeat, byte_limit}
use Rattle.format.specs.Items.{empty, Items, end, one, join}
use Rattle.format.specs.Messages.{Outcome, refused, says, outcome}
use Rattle.format.specs.Answers.{over}
use Rattle.salvage.specs.Mending.{own_extent, lying, Part, whole, rest, met_alone, mended, Change, change, changes_in, change_words, Salvaging, unmended}

-- "given ample table": four words of header, three for each of 16,384 rows, and 16,384 data words. No accepted message has more.
abbrev pub Ample : List ℕ → Type 0
Ample t = 65540 ≤ length t

-- "What comes out": the lent output afterwards, up to the length answered.
abbrev pub came_out : Salvaging → List ℕ
came_out r = take r.length r.output

-- "comes out the same with no changes listed": the output begins with the message, and the list is as lent.
abbrev pub unchanged : List ℕ → List ℕ → List ℕ → Salvaging
unchanged m o t = record { number = 0; length = length m; entries = 0; output = over m o; list = t }

-- None of 1, 15 and 16 is due for an input, an output of n bytes and a list of k words, three for each change.
pub record HasRoom (m : List ℕ) (n k : ℕ) : Type 0 where
  pub short : length m ≤ byte_limit
  pub room : length (mended m) ≤ n
  pub places : 3 * length (changes_in m) ≤ k

-- "Refusals: 1; then 15 for a short output, then 16 for a short list, then 10 for the result; 15 and 16 tell the bytes or entries needed;
-- all leave both lent buffers untouched." Every answer, with what makes it due.
pub data Due (m o t : List ℕ) : Salvaging → Type 0 where
  long_input : byte_limit < length m → Due m o t (unmended 1 0 0 o t)
  short_output : length m ≤ byte_limit → length o < length (mended m) → Due m o t (unmended 15 (length (mended m)) 0 o t)
  short_list : length m ≤ byte_limit → length (mended m) ≤ length o → length t < 3 * length (changes_in m)
      → Due m o t (unmended 16 0 (length (changes_in m)) o t)
  many_items : HasRoom m (length o) (length t) → met_alone (mended m) ≡ 10 → Due m o t (unmended 10 0 0 o t)
  mends : HasRoom m (length o) (length t) → met_alone (mended m) ≡ 0
      → Due m o t (record {
        number = 0;
        length = length (mended m);
        entries = length (changes_in m);
        output = over (mended m) o;
        list = over (change_words (changes_in m)) t;
      })

-- "One whose own extent, by its type-byte and size, lies in the input": the bytes b and s are one object, and all of it.
abbrev pub IsOne : ℕ → List ℕ → Type 0
IsOne b s = lying s (own_extent b s) ≡ some (length s)

-- "whose extent is not known or passes the end": b and s are a rest
abbrev pub IsRest : ℕ → List ℕ → Type 0
IsRest b s = lying s (own_extent b s) ≡ none

-- How an input comes to what comes out and to the changes listed, each byte of it taken once, and in order. From the place p on: there are
-- no bytes more; an object is copied; one is replaced, and listed; what is left is dropped, and listed.
pub data Accounts : ℕ → List ℕ → List ℕ → List Change → Type 0 where
  done : (p : ℕ) → Accounts p [] [] []
  copied : (p b : ℕ) (s m r : List ℕ) (l : List Change) → IsOne b s → met_alone (b ∷ s) ≡ 0
      → Accounts (p + length (b ∷ s)) m r l → Accounts p ((b ∷ s) ++ m) ((b ∷ s) ++ r) l
  replaced : (p b : ℕ) (s m r : List ℕ) (l : List Change) → IsOne b s → met_alone (b ∷ s) ≢ 0
      → Accounts (p + length (b ∷ s)) m r l → Accounts p ((b ∷ s) ++ m) (0xfe ∷ r) (change p (b ∷ s) ∷ l)
  dropped : (p b : ℕ) (s : List ℕ) → IsRest b s → Accounts p (b ∷ s) [] (change p (b ∷ s) ∷ [])

-- a change is one of a list
abbrev pub Listed : Change → List Change → Type 0
Listed c [] = ⊥
Listed c (e ∷ l) = (c ≡ e) ⊎ Listed c l

-- the bytes of the input that a change names
abbrev pub bytes_at : List ℕ → Change → List ℕ
bytes_at m c = take c.bytes (drop c.place m)

-- "place, number of bytes, and the refusal number with which that object, or the dropped rest, is met alone": all that a change tells of
-- the input is so.
pub record TrueOf (m : List ℕ) (c : Change) : Type 0 where
  pub inside : c.place + c.bytes ≤ length m
  pub alone : met_alone (bytes_at m c) ≡ c.number
  pub bad : c.number ≢ 0

-- the spans of changes come in order, from the place p on; none is empty, no two overlap, and all end by n
abbrev pub InTurn : ℕ → ℕ → List Change → Type 0
InTurn p n [] = Unit {0}
InTurn p n (c ∷ l) = (p ≤ c.place) × (0 < c.bytes) × (c.place + c.bytes ≤ n) × InTurn (c.place + c.bytes) n l

-- The number of a dropped rest, by its type-byte: of a reserved or unassigned one 4, of a REPEAT 7, of any other 2.
unfoldable pub rest_number : ℕ → ℕ
unfolding if_lt if_eq
rest_number b =
    if_eq b 0xc4 bad_repeat
    (if_eq b 0xc0 unassigned
    (if_lt b 0xc7 past_input
    (if_lt b 0xe0 unassigned
    (if_lt b 0xe8 past_input
    (if_lt b 0xf0 unassigned past_input)))))

-- the items that bytes say; none where they are refused
unfoldable pub said_by : Outcome → Items
said_by (refused f) = end
said_by (says xs) = xs

unfoldable pub said : List ℕ → Items
unfolding said_by outcome
said m = said_by (outcome m)

-- What comes out says, part by part: an object that is copied its items, one that is replaced an EMPTY, the rest nothing.
unfoldable pub items_left : List Part → Items
unfolding if_eq met_alone said join
items_left [] = end
items_left (whole o ∷ l) = join (if_eq (met_alone o) 0 (said o) (one empty)) (items_left l)
items_left (rest o ∷ l) = end
