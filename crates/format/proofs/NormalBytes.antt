-- The normal form is a run of bytes. Assumes nothing.
use mathlib.Core.Path.{◌≡◌}
use Prim.Native.Nat.{ℕ, zero, suc, ◌*◌, ◌≤◌, ◌<◌}
use native.Mathlib.Omega.{arith}
use mathlib.Core.Bool.{Bool, true, false}
use mathlib.Core.List.{List, ◌∷◌, ◌++◌}
use lib.ListN.{length, drop}
use lib.IntN.{ℤ, pos, negsuc}
use lib.Signed.{mag}
use Rattle.format.specs.Numbers.{Bytes, width, twos}
use Rattle.format.specs.Bits.{bit, num, packed, bytes_for}
use Rattle.format.specs.Refusals.{byte_limit}
use Rattle.format.specs.Items.{Leaf, int, bits, char, bool, empty, xtra, Group, struc, edt, Items, end, leaf, group, is_string, proper_leaf, proper}
use Rattle.format.specs.Normal.{normal_size, with_size, linteger, normal_int, sbitstr, normal_bits, normal_leaf, group_byte, normal}
use Rattle.format.proofs.Choices.{by_lt, by_pick, split, if_lt_yes, if_lt_no, true_lt}
use Rattle.format.proofs.Digits.{bytes_append, be_bytes, width_fits, twos_lt}
use Rattle.format.proofs.BitLaws.{adjusted_lt}
use Rattle.format.proofs.Sizes.{size_bytes, sized_length}
use Rattle.format.proofs.ItemLaws.{leaf_proper, group_proper, length_leaf, length_group}

linteger_bytes : (z : ℤ) → Bytes (linteger z)
unfolding linteger
linteger_bytes z = (omega arith, be_bytes (width (2 * mag z)) (twos (width (2 * mag z)) z) (twos_lt (width (2 * mag z)) z))

int_bytes : (z : ℤ) → Bytes (normal_int z)
unfolding normal_int
int_bytes (pos n) = by_lt Bytes n 64 (λ l. (omega arith, tt)) (λ g. linteger_bytes (pos n))
int_bytes (negsuc n) = linteger_bytes (negsuc n)

packed_bytes : (k : ℕ) (bs : List Bool) → Bytes (packed 8 k bs)
unfolding packed
packed_bytes zero bs = tt
packed_bytes (suc k) bs = (adjusted_lt 8 bs, packed_bytes k (drop 8 bs))

sized_bytes : (p : List ℕ) → length p ≤ byte_limit → Bytes p → Bytes (with_size p)
unfolding with_size
sized_bytes p l h = bytes_append (normal_size (length p)) p (size_bytes (length p) l) h

bits_bytes : (bs : List Bool) → length (normal_bits bs) ≤ byte_limit → Bytes (normal_bits bs)
unfolding normal_bits sbitstr
bits_bytes bs h =
    let v = num (true ∷ bs) in
    let n = normal_int (pos (length bs)) in
    let q = packed 8 (bytes_for (length bs)) bs in
    split (length bs) 64 (λ l. rw (if_lt_yes (length bs) 64) (omega arith, be_bytes (width v) v (width_fits v)))
    (λ g.
    let k : length (0xc1 ∷ with_size (n ++ q)) ≤ byte_limit = rw (if_lt_no (length bs) 64) at h in
    let m : length (n ++ q) ≤ byte_limit = omega (arith, sized_length (n ++ q)) in
    rw (if_lt_no (length bs) 64)
    (omega arith, sized_bytes (n ++ q) m (bytes_append n q (int_bytes (pos (length bs))) (packed_bytes (bytes_for (length bs)) bs))))

leaf_bytes : (l : Leaf) → proper_leaf l ≡ true → length (normal_leaf l) ≤ byte_limit → Bytes (normal_leaf l)
unfolding proper_leaf normal_leaf bit
leaf_bytes (int z) o h = int_bytes z
leaf_bytes (bits bs) o h = bits_bytes bs h
leaf_bytes (char c) o h = (omega (arith, true_lt c 128 o), tt)
leaf_bytes (bool true) o h = (omega arith, tt)
leaf_bytes (bool false) o h = (omega arith, tt)
leaf_bytes empty o h = (omega arith, tt)
leaf_bytes (xtra n) o h = (omega (arith, true_lt n 4 o), tt)

group_byte_lem : (g : Group) (c : Items) → group_byte g c < 256
unfolding group_byte
group_byte_lem struc c = by_pick (λ b. b < 256) (is_string c) (λ e. omega arith) (λ e. omega arith)
group_byte_lem edt c = omega arith

pub normal_bytes : (xs : Items) → proper xs ≡ true → length (normal xs) ≤ byte_limit → Bytes (normal xs)
unfolding normal
normal_bytes end o h = tt
normal_bytes (leaf l xs) o h =
    let q = leaf_proper l xs o in
    let n = length_leaf l xs in
    bytes_append (normal_leaf l) (normal xs) (leaf_bytes l q.0 (omega arith)) (normal_bytes xs q.1 (omega arith))
normal_bytes (group g c xs) o h =
    let q = group_proper g c xs o in
    let n = length_group g c xs in (
      group_byte_lem g c,
      bytes_append (with_size (normal c)) (normal xs) (sized_bytes (normal c) (omega arith) (normal_bytes c q.1 (omega arith)))
          (normal_bytes xs q.2 (omega arith)),
    )
