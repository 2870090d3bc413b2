-- Sizes: how long the normal one is, that it is read back, and that no other is shorter. Assumes nothing.
use mathlib.Core.Path.{◌≡◌, refl, sym, ap, ◌∙◌}
use Prim.Native.Nat.{ℕ, zero, suc, ◌+◌, ◌-◌, ◌^◌, ◌≤◌, ◌<◌}
use native.Mathlib.Omega.{arith}
use mathlib.Core.Logic.{◌≢◌}
use mathlib.Core.List.{List, [], ◌∷◌, ◌++◌, append_assoc}
use lib.ListN.{length, take, drop, length-append, length-drop}
use lib.Seq.{length-take-le, take_at, drop_at}
use Rattle.format.specs.Numbers.{Bytes, val, be, width}
use Rattle.format.specs.Refusals.{byte_limit}
use Rattle.format.specs.Objects.{Size, cut, size, long_size, size_of, contents}
use Rattle.format.specs.Normal.{normal_size, with_size}
use Rattle.format.proofs.Choices.{if_lt_yes, if_lt_no, if_eq_yes, if_eq_no, split, by_lt, by_eq}
use Rattle.format.proofs.Digits.{bytes_take, bytes_drop, be_length, be_val, be_bytes, val_lt, width_fits, width_least, width_pos, width_mono}

-- ---- how long the normal size is
pub size_zero : length (normal_size 0) ≡ 2
unfolding normal_size
size_zero = refl

pub size_small : (n : ℕ) → n ≢ 0 → n ≤ 128 → length (normal_size n) ≡ 1
unfolding normal_size
size_small n z h =
    rw (if_eq_no n 0)
    (by_lt P n 128 (λ l. refl) (λ g. let e : n ≡ 128 = omega arith in rw (if_eq_yes n 128)))
  where
    P : List ℕ → Type 0
    P p = length p ≡ 1

pub size_large : (n : ℕ) → 128 < n → length (normal_size n) ≡ suc (width n)
unfolding normal_size
size_large n h =
    let a : n ≢ 0 = omega arith in
    let b : n ≢ 128 = omega arith in
    let c : 128 ≤ n = omega arith in
    rw (if_eq_no n 0, if_lt_no n 128, if_eq_no n 128) (ap suc (be_length (width n) n))

pub size_pos : (n : ℕ) → 0 < length (normal_size n)
size_pos zero = omega (arith, size_zero)
size_pos (suc n) = split 128 (suc n) (λ g. omega (arith, size_large (suc n) g)) (λ l. omega (arith, size_small (suc n) (omega arith) l))

-- a size and what it counts are longer the more it counts
pub size_mono : (a b : ℕ) → a ≤ b → length (normal_size a) + a ≤ length (normal_size b) + b
size_mono zero zero h = omega arith
size_mono zero (suc b) h = omega (arith, size_zero, size_pos (suc b))
size_mono (suc a) b h =
    split 128 (suc a) (λ g. omega (arith, size_large (suc a) g, size_large b (omega arith), width_mono (suc a) b h))
    (λ l. omega (arith, size_small (suc a) (omega arith) l, size_pos b))

-- ---- the normal size is read back
long_read : (k n : ℕ) (t : List ℕ) → 0 < k → n < 256 ^ k → size_of ((0x80 + k) ∷ (be k n ++ t)) ≡ size (suc k) n
unfolding size_of long_size
long_read k n t p h =
    let a : 0x80 ≤ 0x80 + k = omega arith in
    let z : 0x80 + k ≢ 0x80 = omega arith in
    let e : 0x80 + k - 0x80 ≡ k = omega arith in
    let l : k ≤ length (be k n ++ t) = omega (arith, length-append (be k n) t, be_length k n) in
    let v : val (be k n) ≡ n = be_val k n h in
    let c : 1 + k ≡ suc k = omega arith in
    rw (if_lt_no (0x80 + k) 0x80, if_eq_no (0x80 + k) 0x80, e, if_lt_no (length (be k n ++ t)) k, take_at (be k n) t k (be_length k n), v, c) refl

pub size_read : (n : ℕ) (t : List ℕ) → size_of (normal_size n ++ t) ≡ size (length (normal_size n)) n
unfolding normal_size size_of
size_read n t =
    by_eq P n 0 (λ e. rw e (long_read 1 0 t (omega arith) (omega arith)))
    (λ z. by_lt P n 128 (λ l. rw (if_lt_yes n 0x80, if_eq_no n 0) refl)
    (λ g. by_eq P n 128 (λ e. rw e refl)
    (λ y. long_read (width n) n t (width_pos n) (width_fits n) ∙ ap (λ k. size (suc k) n) (sym (be_length (width n) n)))))
  where
    P : List ℕ → Type 0
    P p = size_of (p ++ t) ≡ size (length p) n

-- contents behind their normal size
pub sized_contents : (p r : List ℕ) → contents (with_size p ++ r) (length (normal_size (length p))) (length p) ≡ p
unfolding contents with_size
sized_contents p r =
    rw (append_assoc (normal_size (length p)) p r, drop_at (normal_size (length p)) (p ++ r) (length (normal_size (length p))) refl)
    (take_at p r (length p) refl)

pub contents_length : (s : List ℕ) (h n : ℕ) → h + n ≤ length s → length (contents s h n) ≡ n
unfolding contents
contents_length s h n l = length-take-le n (drop h s) (omega (arith, length-drop h s))

pub contents_bytes : (s : List ℕ) (h n : ℕ) → Bytes s → Bytes (contents s h n)
unfolding contents
contents_bytes s h n b = bytes_take n (drop h s) (bytes_drop h s b)

pub sized_length : (p : List ℕ) → length (with_size p) ≡ length (normal_size (length p)) + length p
unfolding with_size
sized_length p = length-append (normal_size (length p)) p

-- ---- no size is shorter than the normal one
size_least : (n k : ℕ) → 0 < k → n < 256 ^ k → length (normal_size n) ≤ suc k
size_least zero k p h = omega (arith, size_zero)
size_least (suc n) k p h =
    split 128 (suc n) (λ g. omega (arith, size_large (suc n) g, width_least (suc n) k p h))
    (λ l. omega (arith, size_small (suc n) (omega arith) l))

-- a size lies within the bytes it was read from, and the normal one is not longer; one that is cut wants some
abbrev pub SizeFits : List ℕ → Size → Type 0
SizeFits s (cut k) = 0 < k
SizeFits s (size h n) = (h ≤ length s) × (Bytes s → length (normal_size n) ≤ h)

long_fits : (b k : ℕ) (s : List ℕ) → 0 < k → SizeFits (b ∷ s) (long_size k s)
unfolding long_size
long_fits b k s p =
    by_lt (SizeFits (b ∷ s)) (length s) k (λ l. omega arith)
    (λ g. (
      omega arith,
      λ a.
          let e : length (take k s) ≡ k = length-take-le k s g in
          let v : val (take k s) < 256 ^ k = rw e at (val_lt (take k s) (bytes_take k s a.1)) in
          omega (arith, size_least (val (take k s)) k p v),
    ))

pub size_fits : (s : List ℕ) → SizeFits s (size_of s)
unfolding size_of
size_fits [] = omega arith
size_fits (b ∷ s) =
    by_lt (SizeFits (b ∷ s)) b 0x80
    (λ l. (
      omega arith,
      λ a. by_eq (λ n. length (normal_size n) ≤ 1) b 0 (λ e. omega (arith, size_small 128 (omega arith) (omega arith)))
          (λ z. omega (arith, size_small b z (omega arith))),
    ))
    (λ g. by_eq (λ k. SizeFits (b ∷ s) (long_size k s)) b 0x80 (λ e. long_fits b 128 s (omega arith)) (λ z. long_fits b (b - 0x80) s (omega arith)))

-- ---- the normal size in bytes
pub size_bytes : (n : ℕ) → n ≤ byte_limit → Bytes (normal_size n)
unfolding normal_size
size_bytes n h =
    by_eq Bytes n 0 (λ e. (omega arith, (omega arith, tt)))
    (λ z. by_lt Bytes n 128 (λ l. (omega arith, tt))
    (λ g. by_eq Bytes n 128 (λ e. (omega arith, tt))
    (λ y. (omega (arith, width_least n 3 (omega arith) (omega arith)), be_bytes (width n) n (width_fits n)))))
