-- A container or a string whose size is one byte, by its contents. Assumes nothing.
use Rattle.std.proofs.Common.{◌≡◌, ℕ, ◌-◌, eqb, List, length, take, refl, ap, ◌∙◌, zero-le, le_refl, arith, take_all}
use Rattle.format.specs.Items.{Items, join}
use Rattle.format.specs.Objects as O
use Rattle.format.specs.Messages.{says, got, reads}
use Rattle.format.specs.Choice.{if_eq}
use Rattle.format.specs.Tables.{count}
use Rattle.format.proofs.Choices.{split_eq, by_eq, eq_true, eq_false, if_eq_yes, if_eq_no}
use Rattle.format.specs.Runs.{object_at}
use Rattle.format.proofs.Runs.{upto_none, upto_piece, upto_end}
use Rattle.wire.proofs.Stretches.{chars_say}
use Rattle.wire.specs.Ranges.{Between}
use Rattle.wire.specs.Heads.{wrap_by, short_head, ShortAt}
use Rattle.wire.specs.declared.head.Wrap.{Wrap}
use Rattle.wire.specs.declared.head.Wrap.TheVariants.{Struc}
use Rattle.fill.specs.Containers.{copies_of, own_words, closed_items}
use Rattle.fill.proofs.ContainerLaws.{Opened, opened, opened_text}

-- ---- bytes below 80 are characters
pub chars_said : (d : ℕ) (c : List ℕ) → Between 0 0x7f 0 (length c) c → reads d c ≡ says (O.characters c)
unfolding join
chars_said d c w =
    let e : length c - 0 ≡ length c = omega arith in
    upto_end (upto_piece (upto_none d c) (chars_say c 0 (length c) zero-le (le_refl (length c)) w)) (le_refl (length c))
    ∙ ap (λ l. says (O.characters l)) (ap (λ n. take n c) e ∙ take_all (length c) c (le_refl (length c)))

-- ---- the object, by its contents
struc_by : (b : ℕ) → b ≡ 0xc6 → wrap_by b ≡ Struc
unfolding wrap_by if_eq
struc_by b q = rw q refl

pub opened_short : (d b : ℕ) (s : List ℕ) (n : ℕ) (ys : Items) (u : ℕ) → ShortAt d b s n → object_at d b s ≡ got ys u → Opened (eqb b 0xc6) d s (wrap_by b) 1 n ys u
unfolding short_head
opened_short d b s n ys u h e =
    split_eq b 0xc6
    (λ q. rw (eq_true b 0xc6 q, struc_by b q) (opened_text d b s (record { start = 1; size = n }) ys u (h.head ∙ if_eq_yes b 0xc6 _ _ q, h.within) e))
    (λ q. rw (eq_false b 0xc6 q) (opened d b s (wrap_by b) (record { start = 1; size = n }) ys u (h.head ∙ if_eq_no b 0xc6 _ _ q, h.within) e))

-- it has a row of its own, and is one item
abbrev OneRow : Wrap → Type 0
OneRow w = (own_words w ≡ 3) × (copies_of w ≡ 1) × ((xs : Items) → count (closed_items w xs) ≡ 1)

pub row_by : (b : ℕ) → OneRow (wrap_by b)
unfolding wrap_by own_words copies_of closed_items count
row_by b =
    by_eq OneRow b 0xc3 (λ e. (refl, refl, λ xs. refl))
    (λ e. by_eq OneRow b 0xc5 (λ f. (refl, refl, λ xs. refl)) (λ f. (refl, refl, λ xs. refl)))
