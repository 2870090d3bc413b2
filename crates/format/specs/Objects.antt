-- What stands at a type-byte: everything that one object says by itself, its contents not yet read. No recursion but over padding.
-- The type-byte is `b`, and `s` the bytes behind it, up to the end of the enclosing object or of the input.
use Rattle.std.specs.Prelude.{ℕ, zero, suc, ◌+◌, ◌-◌, ◌%◌, List, [], ◌∷◌, length, take, drop, ℤ, pos, negsuc}
use Rattle.format.specs.Choice.{if_lt, if_eq}
use Rattle.format.specs.Numbers.{val, signed}
use Rattle.format.specs.Bits.{is_one, spread, bytes_for, after_marker}
use Rattle.format.specs.Refusals.{Fault, past_input, past_enclosing, unassigned, too_deep, bad_bits, bad_repeat, here, wants, further, depth_limit}
use Rattle.format.specs.Items.{int, bits, char, bool, empty, xtra, struc, Items, end, leaf, group, one}
use Rattle.format.specs.declared.Class.{Class}
use Rattle.format.specs.declared.Class.TheVariants.{Char7, Sinteger, Linteger, Sbitstr, Lbitstr, String, Struc, Ustruc, Edt, Repeat, Xtra, Bool, Empty, Padding, Reserved}
use Rattle.format.specs.Classes.{class_of}

-- how a container closes over its contents
pub data Wrap : Type 0 where
  as_struc as_ustruc as_edt : Wrap
  repeated : ℕ → Wrap

-- Refused; or its items with the number of its bytes past the type-byte; or a container, how it closes, where past the
-- type-byte its contents start, and their size.
pub data Head : Type 0 where
  stop : Fault → Head
  gives : Items → ℕ → Head
  opens : Wrap → ℕ → ℕ → Head

-- `d` containers stand around the object; with none it is outermost.
-- 2: "an outermost object needs bytes past the input's end"; 3: "an inner object needs bytes past its enclosing object's end"
unfoldable pub past_end : ℕ → ℕ
past_end zero = past_input
past_end (suc d) = past_enclosing

-- E0-E7 and F0-F7: "1-7; E0 means 8", "F0 means 8"
unfoldable pub following : ℕ → ℕ
unfolding if_eq
following b = if_eq (b % 8) 0 8 (b % 8)

-- k bytes behind the type-byte, if they are there; if not, "how many bytes are wanting"
unfoldable pub fixed : ℕ → ℕ → List ℕ → (List ℕ → Head) → Head
unfolding if_lt past_end
fixed d k s f = if_lt (length s) k (stop (wants (past_end d) (k - length s))) (f (take k s))

-- "LINTEGER: two's complement, high byte first"
unfoldable pub integer : List ℕ → ℤ
unfolding signed val
integer p = signed (length p) (val p)

unfoldable pub linteger_head : List ℕ → Head
unfolding integer
linteger_head p = gives (one (int (integer p))) (length p)

-- "SBITSTR: the first 1 in the first data byte is a marker; the bits after it, to the end of the last byte, are the stream."
unfoldable pub sbitstr_head : List ℕ → Head
unfolding if_eq spread after_marker
sbitstr_head [] = stop (here bad_bits)
sbitstr_head (b ∷ p) = if_eq b 0 (stop (here bad_bits)) (gives (one (bits (after_marker (spread 8 (b ∷ p))))) (length (b ∷ p)))

-- "Size: a first byte below 80 is the size itself, 00 meaning 128. From 80 up, its low seven bits say how many bytes follow,
-- 80 meaning 128 of them; they are the size, high byte first, leading zeros allowed."
-- A size has the number of its own bytes, and what they say; one that is cut, how many of its own bytes are wanting: "from the
-- size field alone where it is not [complete] (one, if even its first byte is absent)".
pub data Size : Type 0 where
  cut : ℕ → Size
  size : ℕ → ℕ → Size

unfoldable pub long_size : ℕ → List ℕ → Size
unfolding if_lt val
long_size k s = if_lt (length s) k (cut (k - length s)) (size (1 + k) (val (take k s)))

unfoldable pub size_of : List ℕ → Size
unfolding if_lt if_eq long_size
size_of [] = cut 1
size_of (b ∷ s) = if_lt b 0x80 (size 1 (if_eq b 0 128 b)) (long_size (if_eq b 0x80 128 (b - 0x80)) s)

unfoldable pub contents : List ℕ → ℕ → ℕ → List ℕ
contents s h n = take n (drop h s)

-- "size bytes present, contents within the end": then what `f` makes of where the contents start, and their size. If not, the
-- wanting bytes are told, "from the object's own size where that is complete".
unfoldable pub within : ℕ → List ℕ → (ℕ → ℕ → Head) → Size → Head
unfolding if_lt past_end
within d s f (cut k) = stop (wants (past_end d) k)
within d s f (size h n) = if_lt (length s - h) n (stop (wants (past_end d) (n - (length s - h)))) (f h n)

unfoldable pub sized : ℕ → List ℕ → (ℕ → ℕ → Head) → Head
unfolding within size_of
sized d s f = within d s f (size_of s)

-- "an INT object", after any padding, at the front of contents: absent; cut short at its own place, so many of its bytes wanting;
-- or its value and the bytes up to its end
pub data Leading : Type 0 where
  absent : Leading
  cut_int : ℕ → ℕ → Leading
  found : ℤ → ℕ → Leading

unfoldable pub later : Leading → Leading
later absent = absent
later (cut_int p k) = cut_int (suc p) k
later (found z u) = found z (suc u)

unfoldable pub leading_by : Class → ℕ → List ℕ → Leading → Leading
unfolding if_lt following integer later
leading_by Sinteger b s more = found (pos (b - 0x80)) 1
leading_by Linteger b s more =
    if_lt (length s) (following b) (cut_int 0 (following b - length s)) (found (integer (take (following b) s)) (1 + following b))
leading_by Padding b s more = later more
leading_by Char7 b s more = absent
leading_by Sbitstr b s more = absent
leading_by Lbitstr b s more = absent
leading_by String b s more = absent
leading_by Struc b s more = absent
leading_by Ustruc b s more = absent
leading_by Edt b s more = absent
leading_by Repeat b s more = absent
leading_by Xtra b s more = absent
leading_by Bool b s more = absent
leading_by Empty b s more = absent
leading_by Reserved b s more = absent

unfoldable pub leading : List ℕ → Leading
unfolding leading_by class_of
leading [] = absent
leading (b ∷ s) = leading_by (class_of b) b s (leading s)

-- "A length or count comes after any padding: an integer cut short gives 3 at its own place; no object, any other type-byte
-- (reserved too) or a negative number gives 6 or 7 for the LBITSTR or REPEAT at once."
-- `why` is 6 or 7; the contents start at `h`; `f` is given the length or count and the bytes up to its end.
unfoldable pub counted : ℕ → ℕ → (ℕ → ℕ → Head) → Leading → Head
unfolding further
counted why h f absent = stop (here why)
counted why h f (cut_int p k) = stop (further (1 + h + p) (wants past_enclosing k))
counted why h f (found (pos n) u) = f n u
counted why h f (found (negsuc n) u) = stop (here why)

-- "LBITSTR: contents are an INT object n, then exactly the bytes needed for n bits, left-adjusted. Spare bits at the end
-- are ignored." The contents are `c`, and the object has `used` bytes past its type-byte.
unfoldable pub lbitstr : List ℕ → ℕ → ℕ → ℕ → Head
unfolding if_eq bytes_for spread
lbitstr c used n u =
    if_eq (length (drop u c)) (bytes_for n) (gives (one (bits (take n (spread 8 (drop u c))))) used) (stop (here bad_bits))

unfoldable pub lbitstr_head : ℕ → List ℕ → Head
unfolding sized counted lbitstr leading contents
lbitstr_head d s = sized d s (λ h n. counted bad_bits h (lbitstr (contents s h n) (h + n)) (leading (contents s h n)))

-- 5: "a seventeenth container"
unfoldable pub container : ℕ → Head → Head
unfolding if_lt
container d f = if_lt d depth_limit f (stop (here too_deep))

-- "STRING: each contents byte is a character, its high bit ignored."
unfoldable pub characters : List ℕ → Items
characters [] = end
characters (b ∷ s) = leaf (char (b % 128)) (characters s)

unfoldable pub string_head : ℕ → List ℕ → Head
unfolding container sized characters contents
string_head d s = container d (sized d s (λ h n. gives (group struc (characters (contents s h n)) end) (h + n)))

-- "STRUC, USTRUC, EDT: an object's contents are again a run of objects."
unfoldable pub group_head : Wrap → ℕ → List ℕ → Head
unfolding container sized
group_head w d s = container d (sized d s (opens w))

-- "REPEAT: contents are an INT object, the count, then a pattern (perhaps nothing). .. It is legal only inside STRUC, USTRUC,
-- EDT or REPEAT."
unfoldable pub repeat_head : ℕ → List ℕ → Head
unfolding container sized counted leading contents
repeat_head zero s = stop (here bad_repeat)
repeat_head (suc d) s =
    container (suc d)
    (sized (suc d) s (λ h n. counted bad_repeat h (λ k u. opens (repeated k) (h + u) (n - u)) (leading (contents s h n))))

-- the table's column Item, and "At one object: 4, 7 for an outermost REPEAT, 5, size bytes present, contents within the end
-- (2 or 3), 6 or 7, contents, then 8 or 9"
unfoldable pub head_by : Class → ℕ → ℕ → List ℕ → Head
unfolding fixed following linteger_head sbitstr_head lbitstr_head string_head group_head repeat_head is_one
head_by Char7 d b s = gives (one (char b)) 0
head_by Sinteger d b s = gives (one (int (pos (b - 0x80)))) 0
head_by Linteger d b s = fixed d (following b) s linteger_head
head_by Sbitstr d b s = fixed d (following b) s sbitstr_head
head_by Lbitstr d b s = lbitstr_head d s
head_by String d b s = string_head d s
head_by Struc d b s = group_head as_struc d s
head_by Ustruc d b s = group_head as_ustruc d s
head_by Edt d b s = group_head as_edt d s
head_by Repeat d b s = repeat_head d s
head_by Xtra d b s = gives (one (xtra (b - 0xf8))) 0
head_by Bool d b s = gives (one (bool (is_one (b - 0xfc)))) 0
head_by Empty d b s = gives (one empty) 0
-- "PADDING is skipped wherever a type-byte is expected"
head_by Padding d b s = gives end 0
-- 4: "reserved or unassigned type-byte"
head_by Reserved d b s = stop (here unassigned)

unfoldable pub head_of : ℕ → ℕ → List ℕ → Head
unfolding head_by class_of
head_of d b s = head_by (class_of b) d b s
