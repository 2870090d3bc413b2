-- Objects that are one row and hold no contents: their rows, whatever stands around them. Assumes nothing.
use Prim.Native.Nat.{ℕ, ◌/◌, ◌%◌, ◌≤◌, ◌<◌}
use mathlib.Core.Path.{◌≡◌, refl, sym, ap, ◌∙◌}
use mathlib.Core.Bool.{Bool, true}
use mathlib.Core.List.{List}
use native.Mathlib.Omega.{arith}
use lib.Dec.{eqb}
use lib.ListN.{length, take}
use Rattle.format.specs.declared.Class.{Class}
use Rattle.format.specs.declared.Class.TheVariants as C
use Rattle.format.specs.Numbers.{twos}
use Rattle.format.specs.Items.{Leaf, one}
use Rattle.format.specs.Classes.{class_of}
use Rattle.format.specs.Objects as O
use Rattle.format.proofs.Choices.{true_eq}
use Rattle.format.proofs.TypeBytes.{char_class}
use Rattle.wire.specs.Heads.{IsRow, OneRow}
use Rattle.wire.proofs.ClassCases.{within_class, small_class_at, long_class_at}
use Rattle.wire.proofs.HeadLaws.{char_row, sinteger_row, xtra_row, bool_row, empty_row, linteger_leaf, linteger_head_lem, linteger_is}

-- the item that an accepted class gives is the same at every depth
at_class : (c : Class) (b : ℕ) (s : List ℕ) (k v u : ℕ) → class_of b ≡ c → (l : Leaf) → ((d : ℕ) → O.head_by c d b s ≡ O.gives (one l) u) → IsRow l k v → OneRow b s k v u
unfolding O.head_of
at_class c b s k v u e l f r = record { leaf = l; head = λ d. ap (λ z. O.head_by z d b s) e ∙ f d; row = r }

pub char_at : (b : ℕ) (s : List ℕ) → b < 0x80 → OneRow b s 3 b 0
unfolding O.head_by
char_at b s h = let r = char_row 0 b s in at_class C.Char7 b s 3 b 0 (char_class b h) r.0 (λ d. r.1) r.2

pub small_at : (b : ℕ) (s : List ℕ) → 0x80 ≤ b → b < 0xc0 → OneRow b s 1 (b % 64) 0
unfolding O.head_by
small_at b s g h =
    let r = sinteger_row 0 b s (g, h) in
    at_class C.Sinteger b s 1 (b % 64) 0 (small_class_at b g h) r.0 (λ d. r.1) r.2

pub long_byte : (b : ℕ) (t : Bool) → t ≡ eqb (b / 8) 0x1c → t ≡ true → (0xe0 ≤ b) × (b ≤ 0xe7)
long_byte b t e h = let q : b / 8 ≡ 0x1c = true_eq (b / 8) 0x1c (sym e ∙ h) in (omega arith, omega arith)

-- an LINTEGER whose bytes are there
pub long_at : (b k v : ℕ) (s : List ℕ) → 0xe0 ≤ b → b ≤ 0xe7 → k ≡ O.following b → k ≤ length s → v ≡ twos 8 (O.integer (take k s)) → OneRow b s 1 v k
long_at b k v s g h ek l ev =
    at_class C.Linteger b s 1 v k (long_class_at b g (omega arith)) (linteger_leaf k s) (λ d. linteger_head_lem d b k s ek l) (linteger_is k v s ev)

pub xtra_at : (b : ℕ) (s : List ℕ) → 0xf8 ≤ b → b < 0xfc → OneRow b s 6 (b % 4) 0
unfolding O.head_by class_of
xtra_at b s g h =
    let r = xtra_row 0 b s (g, h) in
    at_class C.Xtra b s 6 (b % 4) 0 (within_class C.Xtra 0xf8 4 (refl, (refl, (refl, (refl, tt)))) b g h) r.0 (λ d. r.1) r.2

pub bool_at : (b : ℕ) (s : List ℕ) → 0xfc ≤ b → b < 0xfe → OneRow b s 4 (b % 2) 0
unfolding O.head_by class_of
bool_at b s g h =
    let r = bool_row 0 b s (g, h) in
    at_class C.Bool b s 4 (b % 2) 0 (within_class C.Bool 0xfc 2 (refl, (refl, tt)) b g h) r.0 (λ d. r.1) r.2

pub empty_at : (b : ℕ) (s : List ℕ) → b ≡ 0xfe → OneRow b s 5 0 0
unfolding O.head_by class_of
empty_at b s e = let r = empty_row 0 b s in at_class C.Empty b s 5 0 0 (ap class_of e) r.0 (λ d. r.1) r.2
