-- What holds of a head, by what holds of the refusals that it can be and of what it gives: the one walk over its tests. Assumes nothing.
use mathlib.Core.Path.{◌≡◌, refl}
use mathlib.Core.Logic.{◌≢◌, ◌⊎◌, inl, inr}
use Prim.Native.Nat.{ℕ, zero, suc, ◌+◌, ◌-◌, ◌≤◌, ◌<◌, zero-le}
use native.Mathlib.Omega.{arith}
use mathlib.Core.List.{List, [], ◌∷◌}
use lib.ListN.{length, take, drop}
use lib.Seq.{length-take-le}
use lib.IntN.{pos, negsuc}
use Rattle.format.specs.Numbers.{Bytes}
use Rattle.format.specs.Bits.{spread, after_marker, bytes_for}
use Rattle.format.specs.Refusals.{Fault, here, wants, bad_bits, bad_repeat, byte_limit, depth_limit}
use Rattle.format.specs.Items.{int, bits, struc, end, group, one}
use Rattle.format.specs.declared.Class.{Class}
use Rattle.format.specs.declared.Class.TheVariants.{Char7, Sinteger, Linteger, Sbitstr, Lbitstr, String, Struc, Ustruc, Edt, Repeat, Xtra, Bool, Empty, Padding, Reserved}
use Rattle.format.specs.Classes.{class_of}
use Rattle.format.specs.Objects.{Wrap, repeated, Head, stop, gives, opens, past_end, following, fixed, integer, linteger_head, sbitstr_head, Size, cut, size, size_of, contents, within, sized, Leading, absent, cut_int, found, later, leading_by, leading, counted, lbitstr, lbitstr_head, container, characters, string_head, group_head, repeat_head, head_by}
use Rattle.format.specs.Normal.{normal_size, normal_int}
use Rattle.format.proofs.Choices.{by_lt, by_eq}
use Rattle.format.proofs.Digits.{bytes_take}
use Rattle.format.proofs.Sizes.{SizeFits, size_fits, contents_length}
use Rattle.format.proofs.TypeBytes.{InClass, in_class, following_range}
use Rattle.format.proofs.Shortest.{small_shortest, integer_shortest}

-- ---- a leading integer lies within the bytes it was read from, and the normal one is not longer
abbrev pub Led : List ℕ → Leading → Type 0
Led s absent = Unit {0}
Led s (cut_int p k) = (p < length s) × (0 < k)
Led s (found z u) = (u ≤ length s) × (Bytes s → length (normal_int z) ≤ u)

led_later : (b : ℕ) (s : List ℕ) (x : Leading) → Led s x → Led (b ∷ s) (later x)
unfolding later
led_later b s absent g = tt
led_later b s (cut_int p k) g = (omega arith, g.1)
led_later b s (found z u) g = (omega arith, λ a. omega (arith, g.1 a.1))

led_long : (b k : ℕ) (s : List ℕ) → 0 < k → k ≤ length s → Led (b ∷ s) (found (integer (take k s)) (1 + k))
led_long b k s p h =
    let e : length (take k s) ≡ k = length-take-le k s h in
    (omega arith, λ a. omega (arith, integer_shortest (take k s) (bytes_take k s a.1) (omega arith)))

led_by : (c : Class) (b : ℕ) (s : List ℕ) → InClass b c → Led s (leading s) → Led (b ∷ s) (leading_by c b s (leading s))
unfolding leading_by
led_by Sinteger b s r g = (omega arith, λ a. small_shortest (b - 0x80) (omega arith))
led_by Linteger b s r g =
    by_lt (Led (b ∷ s)) (length s) (following b) (λ l. (omega arith, omega arith)) (λ h. led_long b (following b) s (following_range b).0 h)
led_by Padding b s r g = led_later b s (leading s) g
led_by Char7 b s r g = tt
led_by Sbitstr b s r g = tt
led_by Lbitstr b s r g = tt
led_by String b s r g = tt
led_by Struc b s r g = tt
led_by Ustruc b s r g = tt
led_by Edt b s r g = tt
led_by Repeat b s r g = tt
led_by Xtra b s r g = tt
led_by Bool b s r g = tt
led_by Empty b s r g = tt
led_by Reserved b s r g = tt

pub led : (s : List ℕ) → Led s (leading s)
unfolding leading
led [] = tt
led (b ∷ s) = led_by (class_of b) b s (in_class b) (led s)

-- ---- the refusals of an object, n bytes behind its type-byte and d containers around it: with 2, which is given only where none do,
-- and with 3 some bytes are missing, told up to 65,536; with the other numbers none
abbrev pub Lacking : ℕ → Fault → Type 0
Lacking d f =
    ((past_end d ≤ f.number) × (f.number ≤ 3) × (0 < f.missing) × (f.missing ≤ byte_limit)) ⊎ ((4 ≤ f.number) × (f.number ≤ 9) × (f.missing ≡ 0))

abbrev pub FaultWithin : ℕ → ℕ → Fault → Type 0
FaultWithin d n f = (f.place ≤ n) × Lacking d f

pub past_range : (d : ℕ) → (2 ≤ past_end d) × (past_end d ≤ 3)
unfolding past_end
past_range zero = (omega arith, omega arith)
past_range (suc d) = (omega arith, omega arith)

-- at its own type-byte: for the want of k bytes, or for another reason
wanting : (d n k : ℕ) → 0 < k → FaultWithin d n (wants (past_end d) k)
wanting d n k g = (zero-le, inl (omega arith, (past_range d).1, omega arith, omega arith))

pub other : (d n why : ℕ) → 4 ≤ why → why ≤ 9 → FaultWithin d n (here why)
other d n why a b = (zero-le, inr (a, b, refl))

-- ---- of a fact P about heads: class by class, where each of its tests goes on
module _ (P : Head → Type 0) (d : ℕ) (s : List ℕ) (stops : (x : Fault) → FaultWithin d (length s) x → P (stop x)) where
  by_fixed : (k : ℕ) (f : List ℕ → Head) → (k ≤ length s → P (f (take k s))) → P (fixed d k s f)
  unfolding fixed
  by_fixed k f g = by_lt P (length s) k (λ l. stops _ (wanting d (length s) (k - length s) (omega arith))) g

  by_container : (f : Head) → (d < depth_limit → P f) → P (container d f)
  unfolding container
  by_container f g = by_lt P d depth_limit g (λ l. stops _ (other d (length s) 5 (omega arith) (omega arith)))

  -- contents of n bytes behind h bytes of size, of which the normal size has no more
  abbrev Sized : (ℕ → ℕ → Type 0) → Type 0
  Sized Q = (h n : ℕ) → h + n ≤ length s → (Bytes s → length (normal_size n) ≤ h) → Q h n

  by_size : (f : ℕ → ℕ → Head) (x : Size) → SizeFits s x → Sized (λ h n. P (f h n)) → P (within d s f x)
  unfolding within
  by_size f (cut k) z g = stops _ (wanting d (length s) k z)
  by_size f (size h n) z g =
      by_lt P (length s - h) n (λ l. stops _ (wanting d (length s) (n - (length s - h)) (omega arith))) (λ l. g h n (omega arith) z.1)

  by_sized : (f : ℕ → ℕ → Head) → Sized (λ h n. P (f h n)) → P (sized d s f)
  unfolding sized
  by_sized f g = by_size f (size_of s) (size_fits s) g

  -- a length or count of u bytes, of which the normal one has no more, at the front of the contents c
  abbrev Led-by : List ℕ → (ℕ → ℕ → Type 0) → Type 0
  Led-by c Q = (k u : ℕ) → u ≤ length c → (Bytes c → length (normal_int (pos k)) ≤ u) → Q k u

  by_leading : (why h : ℕ) (c : List ℕ) (f : ℕ → ℕ → Head) (x : Leading) → 4 ≤ why → why ≤ 9 → h + length c ≤ length s → Led c x
      → Led-by c (λ k u. P (f k u)) → P (counted why h f x)
  unfolding counted
  by_leading why h c f absent a b l q g = stops _ (other d (length s) why a b)
  by_leading why h c f (cut_int p k) a b l q g = stops _ (omega arith, inl ((past_range d).1, omega arith, omega (arith, q.1), omega arith))
  by_leading why h c f (found (pos k) u) a b l q g = g k u q.0 q.1
  by_leading why h c f (found (negsuc k) u) a b l q g = stops _ (other d (length s) why a b)

  by_counted : (why h n : ℕ) (f : ℕ → ℕ → Head) → 4 ≤ why → why ≤ 9 → h + n ≤ length s → Led-by (contents s h n) (λ k u. P (f k u))
      → P (counted why h f (leading (contents s h n)))
  by_counted why h n f a b l g =
      by_leading why h (contents s h n) f (leading (contents s h n)) a b (omega (arith, contents_length s h n l)) (led (contents s h n)) g

  -- ---- the classes whose heads have tests
  pub by_linteger : (b : ℕ) → (following b ≤ length s → P (gives (one (int (integer (take (following b) s)))) (length (take (following b) s)))) → P (head_by Linteger d b s)
  unfolding head_by linteger_head
  by_linteger b g = by_fixed (following b) linteger_head g

  pub by_sbitstr : (b : ℕ) → (following b ≤ length s → (x : ℕ) (p : List ℕ) → take (following b) s ≡ x ∷ p → x ≢ 0 → P (gives (one (bits (after_marker (spread 8 (x ∷ p))))) (length (x ∷ p))))
      → P (head_by Sbitstr d b s)
  unfolding head_by sbitstr_head
  by_sbitstr b g = by_fixed (following b) sbitstr_head (λ l. go (take (following b) s) (g l))
    where
      bad : FaultWithin d (length s) (here bad_bits)
      bad = other d (length s) 6 (omega arith) (omega arith)

      go : (q : List ℕ) → ((x : ℕ) (p : List ℕ) → q ≡ x ∷ p → x ≢ 0 → P (gives (one (bits (after_marker (spread 8 (x ∷ p))))) (length (x ∷ p)))) → P (sbitstr_head q)
      go [] k = stops _ bad
      go (x ∷ p) k = by_eq P x 0 (λ e. stops _ bad) (λ z. k x p refl z)

  pub by_lbitstr : Sized (λ h n. Led-by (contents s h n) (λ k u. length (drop u (contents s h n)) ≡ bytes_for k
      → P (gives (one (bits (take k (spread 8 (drop u (contents s h n)))))) (h + n)))) → P (lbitstr_head d s)
  unfolding lbitstr_head lbitstr
  by_lbitstr g =
      by_sized _
      (λ h n a b. by_counted bad_bits h n _ (omega arith) (omega arith) a
      (λ k u e f. by_eq P (length (drop u (contents s h n))) (bytes_for k) (g h n a b k u e f) (λ z. stops _ (other d (length s) 6 (omega arith) (omega arith)))))

  pub by_string : (d < depth_limit → Sized (λ h n. P (gives (group struc (characters (contents s h n)) end) (h + n)))) → P (string_head d s)
  unfolding string_head
  by_string g = by_container _ (λ l. by_sized _ (g l))

  pub by_group : (w : Wrap) → (d < depth_limit → Sized (λ h n. P (opens w h n))) → P (group_head w d s)
  unfolding group_head
  by_group w g = by_container _ (λ l. by_sized (opens w) (g l))

-- REPEAT is refused where no container is around it
pub by_repeat : (P : Head → Type 0) (d : ℕ) (s : List ℕ) → ((x : Fault) → FaultWithin d (length s) x → P (stop x))
    → (d < depth_limit → (h n : ℕ) → h + n ≤ length s → (Bytes s → length (normal_size n) ≤ h)
    → (k u : ℕ) → u ≤ length (contents s h n) → (Bytes (contents s h n) → length (normal_int (pos k)) ≤ u) → P (opens (repeated k) (h + u) (n - u)))
    → P (repeat_head d s)
unfolding repeat_head
by_repeat P zero s stops g = stops _ (other 0 (length s) 7 (omega arith) (omega arith))
by_repeat P (suc d) s stops g =
    by_container P (suc d) s stops _ (λ l. by_sized P (suc d) s stops _ (λ h n a b. by_counted P (suc d) s stops bad_repeat h n _ (omega arith) (omega arith) a (g l h n a b)))
