-- What a message says, or how it is refused: "left to right, the first fault met".
use Rattle.std.specs.Prelude.{ℕ, zero, suc, ◌+◌, Bool, true, false, List, [], ◌∷◌, length, drop}
use Rattle.format.specs.Choice.{pick, both}
use Rattle.format.specs.Refusals.{Fault, several_kinds, bad_edt, here, further}
use Rattle.format.specs.Items.{struc, edt, Items, end, group, join, times, uniform, edt_rule}
use Rattle.format.specs.Objects.{Wrap, as_struc, as_ustruc, as_edt, repeated, Head, stop, gives, opens, contents, head_of}

-- a run of objects: refused, or the items it says
pub data Outcome : Type 0 where
  refused : Fault → Outcome
  says : Items → Outcome

-- one object: refused, or its items (none for PADDING, as many as laid out for REPEAT) and its bytes past the type-byte
pub data Object : Type 0 where
  bad : Fault → Object
  got : Items → ℕ → Object

-- a container closes over the items of its contents; `u` are its bytes past the type-byte
unfoldable pub closing : Wrap → ℕ → Items → Object
unfolding pick uniform edt_rule times
closing as_struc u xs = got (group struc xs end) u
-- 8: "USTRUC of several kinds"
closing as_ustruc u xs = pick (uniform xs) (got (group struc xs end) u) (bad (here several_kinds))
-- 9: "EDT without its first two elements as required"
closing as_edt u xs = pick (edt_rule xs) (got (group edt xs end) u) (bad (here bad_edt))
closing (repeated k) u xs = got (times k xs) u

-- contents that start at `h` past the type-byte, `n` bytes: their faults come before the container's own
unfoldable pub around : Wrap → ℕ → ℕ → Outcome → Object
unfolding further closing
around w h n (refused f) = bad (further (1 + h) f)
around w h n (says xs) = closing w (h + n) xs

-- `inside` reads contents, by where past the type-byte they start and their size
unfoldable pub object : (ℕ → ℕ → Outcome) → Head → Object
unfolding around
object inside (stop f) = bad f
object inside (gives xs u) = got xs u
object inside (opens w h n) = around w h n (inside h n)

-- items, and then what is said `n` bytes further on
unfoldable pub onto : Items → ℕ → Outcome → Outcome
unfolding further join
onto xs n (refused f) = refused (further n f)
onto xs n (says ys) = says (join xs ys)

-- an object, and then what is said past it
unfoldable pub next : Object → (ℕ → Outcome) → Outcome
unfolding onto
next (bad f) rest = refused f
next (got xs u) rest = onto xs (1 + u) (rest u)

-- A run of objects with `d` containers around it. Each object has a byte at least, so as many steps as bytes are enough.
unfoldable pub run : ℕ → ℕ → List ℕ → Outcome
unfolding next object head_of contents
run zero d s = says end
run (suc f) d [] = says end
run (suc f) d (b ∷ s) = next (object (λ h n. run f (suc d) (contents s h n)) (head_of d b s)) (λ u. run f d (drop u s))

unfoldable pub reads : ℕ → List ℕ → Outcome
unfolding run
reads d s = run (length s) d s

-- "A message is the whole input: a run of objects, perhaps none."
unfoldable pub outcome : List ℕ → Outcome
unfolding reads
outcome m = reads 0 m

-- "A message is without repeat objects when it has no REPEAT at any depth." This is said of accepted messages: where a fault
-- is met the answer is false.
unfoldable pub is_repeat : Wrap → Bool
is_repeat as_struc = false
is_repeat as_ustruc = false
is_repeat as_edt = false
is_repeat (repeated k) = true

unfoldable pub plain_object : (ℕ → ℕ → Bool) → (ℕ → Bool) → Head → Bool
unfolding pick both is_repeat
plain_object inside rest (stop f) = false
plain_object inside rest (gives xs u) = rest u
plain_object inside rest (opens w h n) = pick (is_repeat w) false (both (inside h n) (rest (h + n)))

unfoldable pub plain_run : ℕ → ℕ → List ℕ → Bool
unfolding plain_object head_of contents
plain_run zero d s = true
plain_run (suc f) d [] = true
plain_run (suc f) d (b ∷ s) = plain_object (λ h n. plain_run f (suc d) (contents s h n)) (λ u. plain_run f d (drop u s)) (head_of d b s)

unfoldable pub without_repeats : List ℕ → Bool
unfolding plain_run
without_repeats m = plain_run (length m) 0 m
