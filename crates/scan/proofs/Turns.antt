-- One turn of the run's loop: what its bytes up to a place come to. Assumes nothing.
use Prim.Native.Nat.{ℕ, ◌+◌, ◌≤◌, ◌<◌}
use mathlib.Core.Path.{◌≡◌, sym, ap, ap₂, ◌∙◌}
use mathlib.Core.List.{List}
use lib.ListN.{length}
use Rattle.std.specs.Prelude.{Ok, Err}
use Rattle.format.specs.Refusals.{Fault, further}
use Rattle.format.specs.Items.{Items, end, join}
use Rattle.format.specs.Messages.{reads}
use Rattle.format.proofs.Runs.{Upto, upto_none, upto_piece, upto_end, object_here, upto_got, upto_bad}
use Rattle.scan.specs.declared.summary.Summary.{Summary}
use Rattle.scan.specs.declared.stretch.Leap.{Leap}
use Rattle.scan.specs.Sums.{sum_of, nothing_of, plus_of}
use Rattle.scan.specs.Answer.{answer, answer_object}
use Rattle.scan.specs.Stretch.{Comes}
use Rattle.scan.proofs.Told.{bad_object, got_object}
use Rattle.scan.proofs.SumLaws.{sum_none, sum_join}

-- the loop's invariant: up to i the bytes say `items`, which come to a
pub record Inv (d : ℕ) (s : List ℕ) (i : ℕ) (a : Summary) : Type 0 where
  pub items : Items
  pub upto : Upto d s i items
  pub sum_is : a ≡ sum_of items

pub inv_start : (d : ℕ) (s : List ℕ) (a : Summary) → a ≡ nothing_of → Inv d s 0 a
inv_start d s a e = record { items = end; upto = upto_none d s; sum_is = e ∙ sym sum_none }

module _ (d : ℕ) (s : List ℕ) (i : ℕ) (a : Summary) (v : Inv d s i a) where
  pub inv_end : length s ≤ i → Ok a ≡ answer (reads d s)
  unfolding answer
  inv_end h = ap Ok v.sum_is ∙ sym (ap answer (upto_end v.upto h))

  -- more items, up to e
  inv_more : (ys : Items) (e : ℕ) (b c : Summary) → Upto d s e (join v.items ys) → b ≡ sum_of ys → c ≡ plus_of a b → Inv d s e c
  inv_more ys e b c u f g = record { items = join v.items ys; upto = u; sum_is = g ∙ ap₂ plus_of v.sum_is f ∙ sym (sum_join v.items ys) }

  pub leap_turn : (r : Leap) → Comes s i r.upto r.sum → (c : Summary) → c ≡ plus_of a r.sum → Inv d s r.upto c
  leap_turn r l c g = inv_more l.items r.upto _ c (upto_piece v.upto l.piece) (sym l.sum_is) g

  module _ (h : i < length s) where
    pub bad_turn : (f : Fault) → Err f ≡ answer_object (object_here v.upto h) → (i + f.place < length s) × (Err (further i f) ≡ answer (reads d s))
    unfolding answer
    bad_turn f e = let b = upto_bad v.upto h f (bad_object f _ e) in (b.0, sym (ap answer b.1))

    pub got_turn : (b : Summary) (u : ℕ) → Ok (b, u) ≡ answer_object (object_here v.upto h) → (c : Summary) → c ≡ plus_of a b → Inv d s (i + 1 + u) c
    got_turn b u e c g = let x = got_object b u _ e in inv_more x.0 (i + 1 + u) b c (upto_got v.upto h x.0 u x.1) x.2 g
