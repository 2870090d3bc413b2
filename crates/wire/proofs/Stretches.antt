-- Many bytes of one class, each an object by itself, and an object that is one row: what they say together. Assumes nothing.
use Prim.Native.Nat.{ℕ, ◌+◌, ◌-◌, ◌≤◌, ◌<◌}
use native.Mathlib.Omega.{arith}
use mathlib.Core.Path.{◌≡◌, subst}
use mathlib.Core.List.{List}
use lib.ListN.{length, take, drop, get_or}
use Rattle.format.specs.Items.{Items, end, one}
use Rattle.format.specs.Objects.{characters}
use Rattle.format.specs.Runs.{Piece}
use Rattle.format.proofs.Runs.{OneByte, each_of, piece_each, piece_given, letter_of, each_letter, char_one, small_of, small_one, none_of, each_none, padding_one}
use Rattle.wire.specs.Ranges.{Between}
use Rattle.wire.specs.Heads.{OneRow}
use Rattle.wire.proofs.Ranges.{between_none, between_join, between_next}

-- bytes within a range of which each says f
ranged_say : (f : ℕ → Items) (lo hi : ℕ) → ((b : ℕ) → lo ≤ b → b ≤ hi → OneByte f b) → (s : List ℕ) (i e : ℕ) → i ≤ e → e ≤ length s → Between lo hi i e s
    → Piece s i e (each_of f (take (e - i) (drop i s)))
ranged_say f lo hi g s i e p q w =
    let k : i + (e - i) ≡ e = omega arith in
    subst (λ m. Piece s i m (each_of f (take (e - i) (drop i s)))) k
    (piece_each f s (e - i) i (omega arith) (λ j u v. let z = w j u (omega arith) in g (get_or s j 0) z.0 z.1))

module _ (s : List ℕ) (i e : ℕ) (p : i ≤ e) (q : e ≤ length s) where
  pub chars_say : Between 0 0x7f i e s → Piece s i e (characters (take (e - i) (drop i s)))
  chars_say w = rw each_letter at (ranged_say letter_of 0 0x7f (λ b l h. char_one b (omega arith)) s i e p q w)

  pub smalls_say : Between 0x80 0xbf i e s → Piece s i e (each_of small_of (take (e - i) (drop i s)))
  smalls_say w = ranged_say small_of 0x80 0xbf (λ b l h. small_one b l (omega arith)) s i e p q w

  pub padding_says : Between 0xff 0xff i e s → Piece s i e end
  padding_says w = rw each_none at (ranged_say none_of 0xff 0xff (λ b l h. padding_one b (omega arith)) s i e p q w)

-- one byte in the range, and then those behind it
pub between_from : (lo hi i e : ℕ) (s : List ℕ) → lo ≤ get_or s i 0 → get_or s i 0 ≤ hi → Between lo hi (i + 1) e s → Between lo hi i e s
between_from lo hi i e s l h w = between_join lo hi i (i + 1) e s (between_next lo hi i i s (between_none lo hi i s) l h) w

-- one item, of u bytes past the type-byte
pub row_says : (s : List ℕ) (i k v u : ℕ) → i < length s → (r : OneRow (get_or s i 0) (drop (i + 1) s) k v u) → Piece s i (i + 1 + u) (one r.leaf)
row_says s i k v u h r = piece_given i u (one r.leaf) h r.head
