-- The words of the demands, for the theorems in proofs/Demands.antt, of when each number is given (proofs/ReadExactly.antt,
-- WriteExactly.antt, NormaliseExactly.antt), of the length alone (proofs/OneCall.antt), of two messages end to end (proofs/Joining.antt)
-- and of a message that was cut (proofs/Cutting.antt, whose other words are in the format's specs/Extents.antt).
use Rattle.std.specs.Prelude.{ℕ, ◌+◌, ◌*◌, ◌≤◌, ◌<◌, ◌≡◌, ◌≢◌, ◌⊎◌, true, List, [], length, take, get_or}
use Rattle.format.specs.Refusals.{byte_limit, row_limit, word_limit, depth_limit}
use Rattle.format.specs.Items.{Items, end}
use Rattle.format.specs.Messages.{says, outcome}
use Rattle.format.specs.Tables.{rows, data_words, table_of, words_needed, lawful}
use Rattle.format.specs.Normal.{normal, depth}
use Rattle.format.specs.Answers.{Reading, Writing, unwritten, Normalising, reading, writing}

-- "A message says a list of items, found from its bytes alone."
abbrev pub Says : List ℕ → Items → Type 0
Says m xs = outcome m ≡ says xs

-- "A message is accepted when none of the numbers 1 to 11 is due for it and the table lent; reading then returns 0."
abbrev pub Accepted : List ℕ → List ℕ → Type 0
Accepted m t = (reading m t).number ≡ 0

-- None of the numbers 1 to 11 is due for a message that says xs, and a table of n words: 1; 2 to 9; 10 twice; 11.
pub record NoneDue (m : List ℕ) (xs : Items) (n : ℕ) : Type 0 where
  pub short : length m ≤ byte_limit
  pub said : Says m xs
  pub few_rows : rows xs ≤ row_limit
  pub few_words : length (data_words xs) ≤ word_limit
  pub room : words_needed xs ≤ n

-- 10: "over 16,384 rows or 16,384 data words"
abbrev pub OverLimits : Items → Type 0
OverLimits xs = (row_limit < rows xs) ⊎ (word_limit < length (data_words xs))

-- "exactly the table of some list of items within the row and data limits, EDT rule included. Words past the data belong to the
-- caller"
pub record IsTable (w : List ℕ) (xs : Items) : Type 0 where
  pub lawful : lawful xs ≡ true
  pub exact : take (length (table_of xs)) w ≡ table_of xs

-- 12: "table to write not well formed"
abbrev pub NoTable : List ℕ → Type 0
NoTable w = (xs : Items) → ¬ IsTable w xs

-- the words that a table has by its header: "word 0 the number of rows R", "word 3 the number of data words"
abbrev pub headed : List ℕ → ℕ
headed w = 4 + 3 * get_or w 0 0 + get_or w 3 0

-- "Writing order: 12, 13, 14": which of them is due for words, and why
pub data Unwritable (w : List ℕ) : ℕ → Type 0 where
  no_table : NoTable w → Unwritable w 12
  too_deep : (xs : Items) → IsTable w xs → depth_limit < depth xs → Unwritable w 13
  too_long : (xs : Items) → IsTable w xs → depth xs ≤ depth_limit → byte_limit < length (normal xs) → Unwritable w 14

-- None of the numbers 13, 14 and 15 is due for a table of these items, and an output of n bytes.
pub record Writable (xs : Items) (n : ℕ) : Type 0 where
  pub shallow : depth xs ≤ depth_limit
  pub short : length (normal xs) ≤ byte_limit
  pub room : length (normal xs) ≤ n

-- "Room lent is a table of at least the words its items need and, for normalising, an output at least as long as the normal form."
-- The normal form is within the limit: "whose normal forms are at most 65,536 bytes".
pub record Ready (m : List ℕ) (xs : Items) (t o : List ℕ) : Type 0 where
  pub read : NoneDue m xs (length t)
  pub short : length (normal xs) ≤ byte_limit
  pub room : length (normal xs) ≤ length o

-- "what it gives is its output up to the length it returns"
abbrev pub given : Normalising → List ℕ
given a = take a.length a.output

-- "A caller that wants only the length lends an empty output". What it receives for any words w: 12, 13 or 14, as with any other
-- output; "15 with the length needed", and room of that length is filled; "or length 0 with result 0 for a table of no items".
pub data Asked (w : List ℕ) : Writing → Type 0 where
  alike : (n : ℕ) → Unwritable w n → ((o : List ℕ) → writing w o ≡ unwritten n 0 o) → Asked w (unwritten n 0 [])
  needed : (xs : Items) → IsTable w xs → xs ≢ end
      → ((o : List ℕ) → length o ≡ length (normal xs) → writing w o ≡ record { number = 0; length = length o; output = normal xs })
      → Asked w (unwritten 15 (length (normal xs)) [])
  nothing : IsTable w end → Asked w (unwritten 0 0 [])

-- Ask 8: "two messages are accepted, their lengths, rows and data words together are within the limits". They say xs and ys, and are
-- accepted with the tables t and u.
pub record Together (a b t u : List ℕ) (xs ys : Items) : Type 0 where
  pub first : Accepted a t
  pub second : Accepted b u
  pub first_says : Says a xs
  pub second_says : Says b ys
  pub short : length a + length b ≤ byte_limit
  pub few_rows : rows xs + rows ys ≤ row_limit
  pub few_words : length (data_words xs) + length (data_words ys) ≤ word_limit

-- Ask 13: "refused with 2 at place 0". So many bytes are told missing, and the table is as lent.
abbrev pub cut_answer : ℕ → List ℕ → Reading
cut_answer k u = record { number = 2; place = 0; words = 0; missing = k; table = u }

-- How many bytes of a message are there once as many more have come as were told missing of its first k. Any table u was lent.
abbrev pub arrived : List ℕ → ℕ → List ℕ → ℕ
arrived m k u = k + (reading (take k m) u).missing
