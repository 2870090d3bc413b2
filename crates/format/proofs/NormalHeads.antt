-- The normal form of one item is read as that item, whatever follows it. Assumes nothing.
use mathlib.Core.Path.{◌≡◌, refl, sym, ap, ap₂, ◌∙◌}
use Prim.Native.Nat.{ℕ, zero, suc, ◌+◌, ◌-◌, ◌*◌, ◌/◌, ◌%◌, ◌^◌, ◌≤◌, ◌<◌}
use native.Mathlib.Nat.{div-lt_iff_lt-mul}
use native.Mathlib.Omega.{arith}
use mathlib.Core.Logic.{◌≢◌}
use mathlib.Core.Bool.{Bool, true, false}
use mathlib.Core.List.{List, [], ◌∷◌, ◌++◌, append_assoc}
use lib.ListN.{length, length-append}
use lib.Seq.{take_at, drop_at}
use lib.IntN.{ℤ, pos, negsuc}
use lib.Signed.{mag}
use lib.Pow.{pow_mono}
use Rattle.format.specs.Choice.{pick}
use Rattle.format.specs.Numbers.{be, width, signed, twos}
use Rattle.format.specs.Bits.{bit, is_one, num, spread, packed, bytes_for, after_marker}
use Rattle.format.specs.Refusals.{bad_bits, byte_limit, depth_limit}
use Rattle.format.specs.Items.{Leaf, int, bits, char, bool, empty, xtra, Group, struc, edt, Items, one, is_string, proper_leaf}
use Rattle.format.specs.declared.Class.{Class}
use Rattle.format.specs.declared.Class.TheVariants.{Char7, Sinteger, Linteger, Sbitstr, Lbitstr, Struc, Ustruc, Edt, Xtra, Bool as Boolean, Empty}
use Rattle.format.specs.Classes.{class_of}
use Rattle.format.specs.Objects.{Wrap, as_struc, as_ustruc, as_edt, Head, gives, opens, following, fixed, integer, linteger_head, sbitstr_head, size, size_of, contents, within, sized, found, leading_by, leading, counted, lbitstr, lbitstr_head, container, group_head, head_by, head_of}
use Rattle.format.specs.Normal.{normal_size, with_size, linteger, normal_int, sbitstr, normal_bits, normal_leaf, group_byte}
use Rattle.format.proofs.Choices.{if_lt_yes, if_lt_no, if_eq_yes, if_eq_no, split, by_lt, true_lt}
use Rattle.format.proofs.Digits.{p256, be_length, be_val, be_bytes, width_fits, width_least, width_pos, twos_lt, signed_twos}
use Rattle.format.proofs.BitLaws.{is_one_bit, packed_length, spread_packed, bytes_enough}
use Rattle.format.proofs.Marker.{num_spread, marked, marker_lt, marker_pos, marker_inj}
use Rattle.format.proofs.Sizes.{size_read, sized_contents, sized_length}
use Rattle.format.proofs.TypeBytes.{char_class, small_class, integer_class, marked_class, xtra_class, bool_class}

-- these bytes, with `r` behind them, are one object that gives the items
abbrev pub Heads : ℕ → Items → List ℕ → List ℕ → Type 0
Heads d xs r [] = ⊥
Heads d xs r (b ∷ p) = head_of d b (p ++ r) ≡ gives xs (length p)

-- the head by a class that is known
by_class : (c : Class) (d b : ℕ) (s : List ℕ) → class_of b ≡ c → head_of d b s ≡ head_by c d b s
unfolding head_of
by_class c d b s e = ap (λ k. head_by k d b s) e

fixed_at : (d k : ℕ) (p r : List ℕ) (f : List ℕ → Head) → k ≡ length p → fixed d k (p ++ r) f ≡ f p
unfolding fixed
fixed_at d k p r f e =
    let h : k ≤ length (p ++ r) = omega (arith, length-append p r) in
    rw (if_lt_no (length (p ++ r)) k, take_at p r k (sym e)) refl

-- ---- integers
by_linteger : (P : List ℕ → Type 0) (z : ℤ) → mag z < 2 ^ 63
    → ((b : ℕ) (p : List ℕ) → class_of b ≡ Linteger → following b ≡ length p → integer p ≡ z → P (b ∷ p)) → P (linteger z)
unfolding linteger integer
by_linteger P z m f =
    let w = width (2 * mag z) in
    let c = integer_class w (width_pos (2 * mag z)) (width_least (2 * mag z) 8 (omega arith) (omega arith)) in
    let l : length (be w (twos w z)) ≡ w = be_length w (twos w z) in
    f (0xe0 + w % 8) (be w (twos w z)) c.0 (c.1 ∙ sym l)
    (ap₂ signed l (be_val w (twos w z) (twos_lt w z)) ∙ signed_twos w z (width_pos (2 * mag z)) (width_fits (2 * mag z)))

-- a fact of both forms is a fact of the normal form
by_int : (P : List ℕ → Type 0) (z : ℤ) → mag z < 2 ^ 63
    → ((n : ℕ) → n < 64 → pos n ≡ z → P ((0x80 + n) ∷ []))
    → ((b : ℕ) (p : List ℕ) → class_of b ≡ Linteger → following b ≡ length p → integer p ≡ z → P (b ∷ p))
    → P (normal_int z)
unfolding normal_int
by_int P (pos n) m f g = by_lt P n 64 (λ l. f n l refl) (λ h. by_linteger P (pos n) m g)
by_int P (negsuc n) m f g = by_linteger P (negsuc n) m g

int_head : (d : ℕ) (z : ℤ) (r : List ℕ) → mag z < 2 ^ 63 → Heads d (one (int z)) r (normal_int z)
unfolding head_by linteger_head
int_head d z r m =
    by_int (Heads d (one (int z)) r) z m
    (λ n l e.
    let k : 0x80 + n - 0x80 ≡ n = omega arith in
    by_class Sinteger d (0x80 + n) r (small_class n l) ∙ ap (λ y. gives (one (int y)) 0) (ap pos k ∙ e))
    (λ b p c l e.
    by_class Linteger d b (p ++ r) c ∙ fixed_at d (following b) p r linteger_head l ∙ ap (λ y. gives (one (int y)) (length p)) e)

pub int_leading : (z : ℤ) (r : List ℕ) → mag z < 2 ^ 63 → leading (normal_int z ++ r) ≡ found z (length (normal_int z))
unfolding leading leading_by
int_leading z r m =
    by_int (λ p. leading (p ++ r) ≡ found z (length p)) z m
    (λ n l e.
    let k : 0x80 + n - 0x80 ≡ n = omega arith in
    rw (small_class n l) (ap (λ y. found y 1) (ap pos k ∙ e)))
    (λ b p c l e.
    let h : length p ≤ length (p ++ r) = omega (arith, length-append p r) in
    let k : 1 + length p ≡ suc (length p) = omega arith in
    rw (c, l, if_lt_no (length (p ++ r)) (length p), take_at p r (length p) refl, e, k) refl)

-- ---- bit strings
-- the first byte of the shortest form is not 0
first_byte : (k v : ℕ) → width v ≡ suc k → 0 < v → v / 256 ^ k ≢ 0
first_byte zero v e p z = omega arith
first_byte (suc k) v e p z =
    let l : v < 1 * 256 ^ suc k = (div-lt_iff_lt-mul (p256 (suc k))).0 (omega arith) in
    omega (arith, width_least v (suc k) (omega arith) (omega arith))

-- the bits behind the marker, out of the bytes of the number
behind_marker : (k : ℕ) (bs : List Bool) → num (true ∷ bs) < 256 ^ k → after_marker (spread 8 (be k (num (true ∷ bs)))) ≡ bs
behind_marker k bs h =
    let n : num (spread 8 (be k (num (true ∷ bs)))) ≡ num (true ∷ bs)
    = num_spread (be k (num (true ∷ bs))) (be_bytes k (num (true ∷ bs)) h) ∙ be_val k (num (true ∷ bs)) h in
    marker_inj (after_marker (spread 8 (be k (num (true ∷ bs))))) bs (marked (spread 8 (be k (num (true ∷ bs)))) (rw n (marker_pos bs)) ∙ n)

marked_bytes : (k : ℕ) (bs : List Bool) → width (num (true ∷ bs)) ≡ k
    → sbitstr_head (be k (num (true ∷ bs))) ≡ gives (one (bits bs)) (length (be k (num (true ∷ bs))))
unfolding sbitstr_head be
marked_bytes zero bs e = absurd (omega (arith, width_pos (num (true ∷ bs))))
marked_bytes (suc k) bs e =
    let w : num (true ∷ bs) < 256 ^ suc k = rw e at (width_fits (num (true ∷ bs))) in
    let z = first_byte k (num (true ∷ bs)) e (marker_pos bs) in
    rw (if_eq_no (num (true ∷ bs) / 256 ^ k) 0) (ap (λ y. gives (one (bits y)) (length (be (suc k) (num (true ∷ bs))))) (behind_marker (suc k) bs w))

short_head_lem : (d : ℕ) (bs : List Bool) (r : List ℕ) → length bs < 64 → Heads d (one (bits bs)) r (sbitstr (num (true ∷ bs)))
unfolding sbitstr head_by
short_head_lem d bs r h =
    let v = num (true ∷ bs) in
    let w = width v in
    let l : suc (length bs) ≤ 64 = omega arith in
    let c = marked_class w (width_pos v) (width_least v 8 (omega arith) (omega (arith, marker_lt bs, pow_mono l))) in
    by_class Sbitstr d (0xf0 + w % 8) (be w v ++ r) c.0
    ∙ fixed_at d (following (0xf0 + w % 8)) (be w v) r sbitstr_head (c.1 ∙ sym (be_length w v))
    ∙ marked_bytes w bs refl

-- contents with their normal size before them
sized_at : (d : ℕ) (p r : List ℕ) (f : ℕ → ℕ → Head) → sized d (with_size p ++ r) f ≡ f (length (normal_size (length p))) (length p)
unfolding sized within
sized_at d p r f =
    let e : size_of (with_size p ++ r) ≡ size (length (normal_size (length p))) (length p)
    = unfold with_size in ap size_of (append_assoc (normal_size (length p)) p r) ∙ size_read (length p) (p ++ r) in
    let h : length p ≤ length (with_size p ++ r) - length (normal_size (length p))
    = omega (arith, length-append (with_size p) r, sized_length p) in
    rw (e, if_lt_no (length (with_size p ++ r) - length (normal_size (length p))) (length p)) refl

-- the contents of the normal LBITSTR
unfoldable counted_bits : List Bool → List ℕ
counted_bits bs = normal_int (pos (length bs)) ++ packed 8 (bytes_for (length bs)) bs

bits_counted : (h used : ℕ) (bs : List Bool) → length bs < 2 ^ 63
    → counted bad_bits h (lbitstr (counted_bits bs) used) (leading (counted_bits bs)) ≡ gives (one (bits bs)) used
unfolding counted counted_bits lbitstr
bits_counted h used bs m =
    let n = normal_int (pos (length bs)) in
    let q = packed 8 (bytes_for (length bs)) bs in
    let l : length q ≡ bytes_for (length bs) = packed_length 8 (bytes_for (length bs)) bs in
    rw (int_leading (pos (length bs)) q m, drop_at n q (length n) refl, if_eq_yes (length q) (bytes_for (length bs)))
    (ap (λ y. gives (one (bits y)) used) (spread_packed 8 (bytes_for (length bs)) bs (bytes_enough (length bs))))

long_head : (d : ℕ) (bs : List Bool) (r : List ℕ) → length bs < 2 ^ 63 → Heads d (one (bits bs)) r (0xc1 ∷ with_size (counted_bits bs))
unfolding head_by lbitstr_head
long_head d bs r m =
    let p = counted_bits bs in
    let h = length (normal_size (length p)) in
    by_class Lbitstr d 0xc1 (with_size p ++ r) (unfold class_of in refl)
    ∙ sized_at d p r (λ i j. counted bad_bits i (lbitstr (contents (with_size p ++ r) i j) (i + j)) (leading (contents (with_size p ++ r) i j)))
    ∙ ap (λ c. counted bad_bits h (lbitstr c (h + length p)) (leading c)) (sized_contents p r)
    ∙ bits_counted h (h + length p) bs m
    ∙ ap (gives (one (bits bs))) (sym (sized_length p))

-- a long bit string has an eighth of its bits in bytes
bits_length_le : (bs : List Bool) → length bs ≤ 8 * length (normal_bits bs) + 64
unfolding normal_bits
bits_length_le bs =
    let n = normal_int (pos (length bs)) in
    let q = packed 8 (bytes_for (length bs)) bs in
    split (length bs) 64 (λ l. omega arith)
    (λ g. rw (if_lt_no (length bs) 64)
    (omega (arith, sized_length (n ++ q), length-append n q, packed_length 8 (bytes_for (length bs)) bs, bytes_enough (length bs))))

bits_head : (d : ℕ) (bs : List Bool) (r : List ℕ) → length bs < 2 ^ 63 → Heads d (one (bits bs)) r (normal_bits bs)
unfolding normal_bits counted_bits
bits_head d bs r h = by_lt (Heads d (one (bits bs)) r) (length bs) 64 (λ l. short_head_lem d bs r l) (λ g. long_head d bs r h)

-- ---- every leaf
pub leaf_head : (d : ℕ) (l : Leaf) (r : List ℕ) → proper_leaf l ≡ true → length (normal_leaf l) ≤ byte_limit → Heads d (one l) r (normal_leaf l)
unfolding proper_leaf normal_leaf head_by
leaf_head d (int z) r o h = int_head d z r (true_lt (mag z) (2 ^ 63) o)
leaf_head d (bits bs) r o h = bits_head d bs r (omega (arith, bits_length_le bs))
leaf_head d (char c) r o h = by_class Char7 d c r (char_class c (true_lt c 128 o))
leaf_head d (bool b) r o h =
    let e : 0xfc + bit b - 0xfc ≡ bit b = omega arith in
    by_class Boolean d (0xfc + bit b) r (bool_class b) ∙ ap (λ t. gives (one (bool t)) 0) (ap is_one e ∙ is_one_bit b)
leaf_head d empty r o h = by_class Empty d 0xfe r (unfold class_of in refl)
leaf_head d (xtra n) r o h =
    by_class Xtra d (0xf8 + n) r (xtra_class n (true_lt n 4 o)) ∙ ap (λ k. gives (one (xtra k)) 0) (omega arith)

-- ---- groups
-- the container that the normal form sends a group in
unfoldable pub normal_wrap : Group → Items → Wrap
unfolding pick is_string
normal_wrap struc c = pick (is_string c) as_ustruc as_struc
normal_wrap edt c = as_edt

container_at : (w : Wrap) (d : ℕ) (p r : List ℕ) → d < depth_limit
    → group_head w d (with_size p ++ r) ≡ opens w (length (normal_size (length p))) (length p)
unfolding group_head container
container_at w d p r h = if_lt_yes d depth_limit _ _ h ∙ sized_at d p r (opens w)

pub group_head_lem : (d : ℕ) (g : Group) (c : Items) (p r : List ℕ) → d < depth_limit
    → head_of d (group_byte g c) (with_size p ++ r) ≡ opens (normal_wrap g c) (length (normal_size (length p))) (length p)
unfolding group_byte normal_wrap head_by
group_head_lem d struc c p r h = go (is_string c)
  where
    go : (t : Bool) → head_of d (pick t 0xc5 0xc2) (with_size p ++ r) ≡ opens (pick t as_ustruc as_struc) (length (normal_size (length p))) (length p)
    go true = by_class Ustruc d 0xc5 (with_size p ++ r) (unfold class_of in refl) ∙ container_at as_ustruc d p r h
    go false = by_class Struc d 0xc2 (with_size p ++ r) (unfold class_of in refl) ∙ container_at as_struc d p r h
group_head_lem d edt c p r h = by_class Edt d 0xc3 (with_size p ++ r) (unfold class_of in refl) ∙ container_at as_edt d p r h
