-- A turn of the walk over a container or a string whose size is one byte. Assumes nothing.
use Rattle.std.proofs.Common.{◌≡◌, ℕ, ◌+◌, ◌-◌, ◌*◌, ◌<◌, ◌≤◌, eqb, List, ◌++◌, length, get_or, take, drop, sym, ap, ◌∙◌, ap₂, arith}
use Rattle.format.specs.Objects.{contents}
use Rattle.format.specs.Messages.{says, got}
use Rattle.format.proofs.Parts.{middle_part}
use Rattle.wire.specs.Heads.{wrap_by, ShortAt}
use Rattle.fill.specs.declared.place.Filled.{Filled}
use Rattle.fill.specs.Containers.{closed_items}
use Rattle.fill.specs.Contents.{inside_of, ShortFits, ShortFilled}
use Rattle.fill.specs.Walks.{ObjectFits, ObjectFilled}
use Rattle.format.proofs.Over.{part_length}
use Rattle.fill.proofs.ContainerLaws.{Opened}
use Rattle.fill.proofs.ShortLaws.{opened_short}
use Rattle.fill.proofs.WalkLaws.{WalkInv, here_fits, walk_more}

-- the object at i has n bytes of contents, as the code lends them: where they end, what it asks of them, and the loop behind them
module _ {d : ℕ} {s : List ℕ} {base gap : ℕ} {t₀ t : List ℕ} {i r c w : ℕ} (v : WalkInv d s base gap t₀ t i r c w) {b : ℕ} (h : i < length s) (e : b ≡ get_or s i 0)
    {n : ℕ} (g : ShortAt d b (take (length s - (i + 1)) (drop (i + 1) s)) n) where
  abbrev S : List ℕ
  S = take (length s - (i + 1)) (drop (i + 1) s)

  abbrev C : List ℕ
  C = take (1 + n - 1) (drop 1 S)

  abbrev P : List ℕ
  P = take (length t - 3 * r) (drop (3 * r) t)

  here : ObjectFits d b S (base + w) (gap - 3 * r) P
  here = here_fits v h e

  within : Opened (eqb b 0xc6) d S (wrap_by b) 1 n here.items here.past
  within = opened_short d b S n here.items here.past g here.said

  said : inside_of d b C ≡ says within.xs
  unfolding contents
  said = ap (inside_of d b) (middle_part S 1 n) ∙ within.said

  pub short_end : i + (2 + n) ≤ length s
  short_end = let q = g.within in omega (arith, part_length (i + 1) s)

  pub short_fits : ShortFits d b C (base + w) (gap - 3 * r) P
  short_fits = record { items = within.xs; said = said; fits = rw within.closes at here.fits; struc = within.struc }

  pub short_more : {x : Filled} {last : List ℕ} → ShortFilled d b C (base + w) (gap - 3 * r) P last x
      → WalkInv d s base gap t₀ (take (3 * r) t ++ (last ++ drop (length t - 3 * r) (drop (3 * r) t))) (i + (2 + n)) (r + x.rows) (c + x.count) (w + x.words)
  short_more {x} {last} k =
      let z : says k.items ≡ says within.xs = sym k.said ∙ said in
      let zi : within.xs ≡ k.items = cc in
      let o : ObjectFilled d b S (base + w) (gap - 3 * r) P last (record { filled = x; past = 1 + n }) = record {
        items = closed_items (wrap_by b) k.items;
        said = here.said ∙ ap₂ got (within.closes ∙ ap (closed_items (wrap_by b)) zi) within.past;
        laid = k.laid;
      } in
      let at : i + (1 + (1 + n)) ≡ i + (2 + n) = omega arith in
      rw at at (walk_more v h e o)
