-- Worked examples: refused messages, each with the containers open around its fault and the evidence; and some that are not refused.
use Rattle.std.specs.Prelude.{ℕ, ◌≡◌, List, [], ◌∷◌, length, replicate, pos, negsuc}
use Rattle.format.specs.Answers.{over}
use Rattle.message.specs.declared.Reading.{Reading}
use Rattle.explain.specs.declared.evidence.Evidence.{Evidence}
use Rattle.explain.specs.declared.evidence.Evidence.TheVariants.{Nothing, End, Byte, Number, Absent, Kinds, Element, NoElement, Wanted}
use Rattle.explain.specs.Explanations.{unanswered, explaining}

-- A message and the words lent, with reading's answer, the places told and the evidence, where a list of sixteen words is lent; or a message
-- and the words of a list that is too short, with the places needed.
pub data Case : Type 0 where
  because : List ℕ → ℕ → Reading → List ℕ → Evidence → Case
  needing : List ℕ → ℕ → ℕ → Case

-- a message that is refused with a number at a place, so many bytes missing; no words are lent
abbrev pub fault : List ℕ → ℕ → ℕ → ℕ → List ℕ → Evidence → Case
fault m n p k ps v = because m 0 (record { number = n; place = p; words = 0; missing = k }) ps v

-- any other: a number and the words used or needed
abbrev pub answered : List ℕ → ℕ → ℕ → ℕ → Evidence → Case
answered m w n k v = because m w (record { number = n; place = 0; words = k; missing = 0 }) [] v

-- sixteen STRUCs one inside another, and in the last a STRING's type-byte: a seventeenth container
unfoldable pub sixteen : List ℕ
sixteen =
    0xc2 ∷ 31 ∷ 0xc2 ∷ 29 ∷ 0xc2 ∷ 27 ∷ 0xc2 ∷ 25 ∷ 0xc2 ∷ 23 ∷ 0xc2 ∷ 21 ∷ 0xc2 ∷ 19 ∷ 0xc2 ∷ 17 ∷ 0xc2 ∷ 15 ∷ 0xc2 ∷ 13 ∷ 0xc2 ∷ 11 ∷ 0xc2 ∷ 9 ∷ 0xc2
    ∷ 7 ∷ 0xc2 ∷ 5 ∷ 0xc2 ∷ 3 ∷ 0xc2 ∷ 1 ∷ 0xc6 ∷ []

unfoldable pub cases : List Case
unfolding sixteen
cases =
    -- nothing, and a small INT: accepted
    answered [] 4 0 4 Nothing
    ∷ answered (0x81 ∷ []) 7 0 7 Nothing
    -- 2: a LINTEGER of two bytes with one there, an SBITSTR too, though that byte is 0; a STRUC without its size, with half of it, and with
    -- one of three bytes
    ∷ fault (0x81 ∷ 0xe2 ∷ 0x01 ∷ []) 2 1 1 [] (End 3)
    ∷ fault (0xf2 ∷ 0x00 ∷ []) 2 0 1 [] (End 2)
    ∷ fault (0xc2 ∷ []) 2 0 1 [] (End 1)
    ∷ fault (0xc2 ∷ 0x82 ∷ 0x00 ∷ []) 2 0 1 [] (End 3)
    ∷ fault (0xc2 ∷ 0x03 ∷ 0x81 ∷ []) 2 0 2 [] (End 3)
    -- 3: a LINTEGER that passes the end of a STRUC, though not of the message; one that is two STRUCs deep
    ∷ fault (0x81 ∷ 0xc2 ∷ 0x02 ∷ 0xe2 ∷ 0x01 ∷ 0x82 ∷ []) 3 3 1 (1 ∷ []) (End 5)
    ∷ fault (0xc2 ∷ 0x05 ∷ 0xc2 ∷ 0x03 ∷ 0xe4 ∷ 0x01 ∷ 0x02 ∷ []) 3 4 2 (0 ∷ 2 ∷ []) (End 7)
    -- a cut count: its REPEAT is open; a cut length: its LBITSTR is no container, but its end is the one passed
    ∷ fault (0xc2 ∷ 0x05 ∷ 0xc4 ∷ 0x02 ∷ 0xe2 ∷ 0x01 ∷ 0xfe ∷ []) 3 4 1 (0 ∷ 2 ∷ []) (End 6)
    ∷ fault (0xc2 ∷ 0x05 ∷ 0xc1 ∷ 0x03 ∷ 0xff ∷ 0xe3 ∷ 0x01 ∷ []) 3 5 2 (0 ∷ []) (End 7)
    ∷ fault (0xc1 ∷ 0x02 ∷ 0xe2 ∷ 0x01 ∷ 0x81 ∷ []) 3 2 1 [] (End 4)
    -- 4: outermost, and in a STRUC
    ∷ fault (0x81 ∷ 0xc0 ∷ []) 4 1 0 [] (Byte 0xc0 1)
    ∷ fault (0xc2 ∷ 0x01 ∷ 0xe8 ∷ []) 4 2 0 (0 ∷ []) (Byte 0xe8 2)
    -- 5: "the sixteen containers"
    ∷ fault sixteen 5 32 0 (0 ∷ 2 ∷ 4 ∷ 6 ∷ 8 ∷ 10 ∷ 12 ∷ 14 ∷ 16 ∷ 18 ∷ 20 ∷ 22 ∷ 24 ∷ 26 ∷ 28 ∷ 30 ∷ []) Nothing
    -- 6: an SBITSTR's first data byte; in an LBITSTR behind padding an EMPTY, only padding, the length -1, and nine bits in one byte
    ∷ fault (0xf1 ∷ 0x00 ∷ []) 6 0 0 [] (Byte 0 1)
    ∷ fault (0xc2 ∷ 0x03 ∷ 0xf2 ∷ 0x00 ∷ 0x01 ∷ []) 6 2 0 (0 ∷ []) (Byte 0 3)
    ∷ fault (0xc1 ∷ 0x02 ∷ 0xff ∷ 0xfe ∷ []) 6 0 0 [] (Byte 0xfe 3)
    ∷ fault (0xc1 ∷ 0x01 ∷ 0xff ∷ []) 6 0 0 [] Absent
    ∷ fault (0xc1 ∷ 0x02 ∷ 0xe1 ∷ 0xff ∷ []) 6 0 0 [] (Number (negsuc 0))
    ∷ fault (0xc1 ∷ 0x02 ∷ 0x89 ∷ 0x80 ∷ []) 6 0 0 [] (Number (pos 9))
    -- 7: an outermost REPEAT, whatever its count; for a count a CHAR, a reserved byte, only padding, and -2
    ∷ fault (0x81 ∷ 0xc4 ∷ 0x02 ∷ 0x82 ∷ 0xfe ∷ []) 7 1 0 [] (Byte 0xc4 1)
    ∷ fault (0xc4 ∷ 0x01 ∷ 0xfe ∷ []) 7 0 0 [] (Byte 0xc4 0)
    ∷ fault (0xc2 ∷ 0x03 ∷ 0xc4 ∷ 0x01 ∷ 0x61 ∷ []) 7 2 0 (0 ∷ []) (Byte 0x61 4)
    ∷ fault (0xc2 ∷ 0x03 ∷ 0xc4 ∷ 0x01 ∷ 0xc0 ∷ []) 7 2 0 (0 ∷ []) (Byte 0xc0 4)
    ∷ fault (0xc2 ∷ 0x03 ∷ 0xc4 ∷ 0x01 ∷ 0xff ∷ []) 7 2 0 (0 ∷ []) Absent
    ∷ fault (0xc2 ∷ 0x04 ∷ 0xc4 ∷ 0x02 ∷ 0xe1 ∷ 0xfe ∷ []) 7 2 0 (0 ∷ []) (Number (negsuc 1))
    -- 8: INT and BOOL; INTs of a repeat behind padding, and then EMPTY; a repeat of INT and EMPTY; a repeat of count 0 has no elements
    ∷ fault (0xc5 ∷ 0x02 ∷ 0x81 ∷ 0xfd ∷ []) 8 0 0 [] (Kinds 2 3)
    ∷ fault (0xc5 ∷ 0x07 ∷ 0xff ∷ 0xc4 ∷ 0x03 ∷ 0x82 ∷ 0x81 ∷ 0x82 ∷ 0xfe ∷ []) 8 0 0 [] (Kinds 6 8)
    ∷ fault (0xc5 ∷ 0x05 ∷ 0xc4 ∷ 0x03 ∷ 0x82 ∷ 0x81 ∷ 0xfe ∷ []) 8 0 0 [] (Kinds 5 6)
    ∷ fault (0xc5 ∷ 0x06 ∷ 0xc4 ∷ 0x02 ∷ 0x80 ∷ 0x61 ∷ 0x81 ∷ 0xfe ∷ []) 8 0 0 [] (Kinds 6 7)
    -- a string and another STRUC are of one kind, an EDT is not; in a STRUC behind an INT
    ∷ fault (0xc2 ∷ 0x0d ∷ 0x81 ∷ 0xc5 ∷ 0x0a ∷ 0xc6 ∷ 0x01 ∷ 0x61 ∷ 0xc2 ∷ 0x01 ∷ 0xfe ∷ 0xc3 ∷ 0x02 ∷ 0x81 ∷ 0x82 ∷ []) 8 3 0 (0 ∷ []) (Kinds 5 11)
    -- 9: no element, only padding, and one; a CHAR first; behind a string and padding an EMPTY; behind an INT of a repeat an EMPTY
    ∷ fault (0xc3 ∷ 0x81 ∷ 0x00 ∷ []) 9 0 0 [] (NoElement 1)
    ∷ fault (0xc3 ∷ 0x01 ∷ 0xff ∷ []) 9 0 0 [] (NoElement 1)
    ∷ fault (0xc3 ∷ 0x01 ∷ 0x81 ∷ []) 9 0 0 [] (NoElement 2)
    ∷ fault (0xc2 ∷ 0x05 ∷ 0x81 ∷ 0xc3 ∷ 0x02 ∷ 0x61 ∷ 0x82 ∷ []) 9 3 0 (0 ∷ []) (Element 1 5)
    ∷ fault (0xc3 ∷ 0x05 ∷ 0xc6 ∷ 0x01 ∷ 0x61 ∷ 0xff ∷ 0xfe ∷ []) 9 0 0 [] (Element 2 6)
    ∷ fault (0xc3 ∷ 0x05 ∷ 0xc4 ∷ 0x02 ∷ 0x81 ∷ 0x81 ∷ 0xfe ∷ []) 9 0 0 [] (Element 2 6)
    -- inside a REPEAT: it is open too
    ∷ fault (0xc2 ∷ 0x04 ∷ 0xc4 ∷ 0x02 ∷ 0x82 ∷ 0xc0 ∷ []) 4 5 0 (0 ∷ 2 ∷ []) (Byte 0xc0 5)
    -- 10: a STRUC of 16,384 EMPTYs has 16,385 rows. 11: a string wants a row and a data word, so eight words
    ∷ answered (0xc2 ∷ 0x06 ∷ 0xc4 ∷ 0x04 ∷ 0xe2 ∷ 0x40 ∷ 0x00 ∷ 0xfe ∷ []) 9 10 0 (Wanted 16385 0)
    ∷ answered (0x81 ∷ []) 6 11 7 (Wanted 1 0)
    ∷ answered (0xc6 ∷ 0x01 ∷ 0x61 ∷ []) 7 11 8 (Wanted 1 1)
    -- 16: no word for one container, and fifteen for sixteen
    ∷ needing (0xc2 ∷ 0x01 ∷ 0xe8 ∷ []) 0 1
    ∷ needing sixteen 15 16
    ∷ []

abbrev pub ExplainedSo : Case → Type 0
ExplainedSo (because m w r ps v) =
    explaining m w (replicate 16 0) ≡ record { number = 0; entries = length ps; reading = r; evidence = v; list = over ps (replicate 16 0) }
ExplainedSo (needing m l n) =
    explaining m 0 (replicate l 0) ≡ record { number = 16; entries = n; reading = unanswered; evidence = Nothing; list = replicate l 0 }

abbrev pub AllExplained : List Case → Type 0
AllExplained [] = Unit {0}
AllExplained (c ∷ l) = ExplainedSo c × AllExplained l
