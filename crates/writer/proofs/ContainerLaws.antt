-- A container as it is written: its contents first, behind room for the fewest size bytes, then its head. Assumes nothing.
use mathlib.Core.Path.{◌≡◌, refl, sym, ◌∙◌, ap, ap₂}
use mathlib.Core.List.{List, ◌∷◌, ◌++◌}
use Prim.Native.Nat.{ℕ, ◌+◌, ◌-◌, ◌*◌, ◌≤◌}
use native.Mathlib.Omega.{arith}
use lib.ListN.{length, take, drop}
use Rattle.format.specs.Normal.{normal_size, with_size, normal}
use Rattle.format.specs.Answers.{over}
use Rattle.table.specs.Rows.{a_at, b_at, items_at, text_at, TextAt, Kept, kept_bytes}
use Rattle.writer.specs.Measures.{RunWritable, ContainerWritable, head_byte, moved}
use Rattle.format.proofs.Over.{part_length, lent}
use Rattle.writer.proofs.Lengths.{container_length}
use Rattle.writer.proofs.StringLaws.{string_normal, string_size}
use Rattle.table.proofs.RowData.{text_kept}
use Rattle.writer.proofs.Moving.{container_written}
use Rattle.writer.proofs.WriteLaws.{least_size}

-- the bytes that so many rows' size takes at least, k bytes of contents, and the h bytes that their size takes
pub record HeadRoom (w : List ℕ) (p e n g k h : ℕ) : Type 0 where
  pub least : g ≤ h
  pub room : 1 + h + k ≤ n
  pub whole : 1 + h + k ≡ 1 + length (with_size (normal (items_at w p e)))

module _ (w : List ℕ) (p e d n g : ℕ) (f : ContainerWritable w p e d n) (eg : g ≡ length (normal_size (e - p))) where
  pub head_room : (k h : ℕ) → k ≡ length (normal (items_at w p e)) → h ≡ length (normal_size k) → HeadRoom w p e n g k h
  head_room k h ek eh =
      let r = f.room in
      let l = least_size w p e f.run in
      let b = container_length (items_at w p e) in
      let z = eh ∙ ap (λ j. length (normal_size j)) ek in
      record { least = omega arith; room = omega arith; whole = omega arith }

  -- the contents have room behind a type-byte and the fewest size bytes
  pub contents_start : 1 + g ≤ n
  contents_start = let k = length (normal (items_at w p e)) in let b = head_room k (length (normal_size k)) refl refl in omega (arith, b.least, b.room)

module _ (w : List ℕ) (p e d : ℕ) (o : List ℕ) (g : ℕ) (f : ContainerWritable w p e d (length o)) (eg : g ≡ length (normal_size (e - p))) where
  pub contents_writable : RunWritable w p e (d - 1) (length (take (length o - (1 + g)) (drop (1 + g) o)))
  contents_writable =
      let k = length (normal (items_at w p e)) in
      let b = head_room w p e d (length o) g f eg k (length (normal_size k)) refl refl in
      let s = f.shallow in
      record { run = f.run; within = f.within; shallow = omega arith; room = omega (arith, part_length (1 + g) o, b.least, b.room) }

  -- the contents come back in the part lent for them, are moved on, and get their head
  pub container_done : (kind b k h : ℕ) (ys t u : List ℕ) → k ≡ length (normal (items_at w p e)) → h ≡ length (normal_size k) → b ≡ head_byte kind →
      ys ≡ over (normal (items_at w p e)) (take (length o - (1 + g)) (drop (1 + g) o)) →
      t ≡ moved (1 + g) k (h - g) (take (1 + g) o ++ (ys ++ drop (length o - (1 + g)) (drop (1 + g) o))) → u ≡ over (b ∷ normal_size k) t →
      (1 + h + k ≡ 1 + length (with_size (normal (items_at w p e)))) × (u ≡ over (head_byte kind ∷ with_size (normal (items_at w p e))) o)
  unfolding with_size
  container_done kind b k h ys t u ek eh eb ey et eu =
      let c = normal (items_at w p e) in
      let s = take (1 + g) o ++ (ys ++ drop (length o - (1 + g)) (drop (1 + g) o)) in
      let z : h ≡ length (normal_size (length c)) = eh ∙ ap (λ n. length (normal_size n)) ek in
      let r = head_room w p e d (length o) g f eg k h ek eh in (
        r.whole,
        eu ∙ ap (over (b ∷ normal_size k)) et ∙ ap (λ n. over (b ∷ normal_size n) (moved (1 + g) n (h - g) s)) ek
            ∙ container_written o c s (normal_size (length c)) b g h z r.least (omega (arith, r.room)) (lent (1 + g) c o ys ey)
            ∙ ap (λ x. over (x ∷ (normal_size (length c) ++ c)) o) eb,
      )

-- ---- a string as it is written, by its row as the code reads it
module _ (w : List ℕ) (p a b : ℕ) (ea : a ≡ a_at w p) (eb : b ≡ b_at w p) (t : TextAt w p) where
  pub text_codes_kept : Kept w b (8 * a)
  text_codes_kept = rw (ea, eb) (text_kept w p t).0

  pub text_codes_few : 8 * a ≤ 1048576
  text_codes_few = text_codes_kept.small

  text_size : length (normal (text_at w p)) ≡ a
  text_size = string_size (text_at w p) t.row.chars ∙ sym t.row.a ∙ sym ea

  pub text_length_is : 1 + length (with_size (normal (text_at w p))) ≡ 1 + length (normal_size a) + a
  text_length_is = container_length (text_at w p) ∙ ap (λ n. 1 + length (normal_size n) + n) text_size

  pub text_form_is : 0xc5 ∷ with_size (normal (text_at w p)) ≡ (0xc5 ∷ normal_size a) ++ kept_bytes w b (8 * a)
  unfolding with_size
  text_form_is =
      let k : normal (text_at w p) ≡ kept_bytes w b (8 * a) = string_normal (text_at w p) t.row.chars ∙ (text_kept w p t).1 ∙ ap₂ (λ x y. kept_bytes w y (8 * x)) (sym ea) (sym eb) in
      ap₂ (λ n c. 0xc5 ∷ (normal_size n ++ c)) text_size k

pub ruleset as_text = (text_codes_kept, text_codes_few, text_length_is)
