-- The evidence of the object at fault, by what the code answers about its head. Assumes nothing.
use Prim.Native.Nat.{ℕ, suc, ◌+◌, ◌≤◌, ◌<◌}
use native.Mathlib.Numerals.{add-one}
use mathlib.Core.Path.{◌≡◌, refl, sym, ap, ◌∙◌, subst}
use mathlib.Core.List.{List}
use lib.ListN.{get_or}
use Rattle.std.specs.Prelude.{Result, Ok, Err}
use Rattle.format.specs.declared.fault.Fault.{Fault}
use Rattle.format.specs.Refused.{meant}
use Rattle.format.specs.Items.{Items}
use Rattle.format.specs.Objects as O
use Rattle.format.specs.Messages.{reads}
use Rattle.wire.specs.Heads.{HeadIs, wrap_of}
use Rattle.wire.specs.declared.head.Wrap.{Wrap}
use Rattle.wire.specs.declared.size.Extent.{Extent}
use Rattle.wire.specs.declared.head.Head.{Head}
use Rattle.wire.specs.declared.head.Head.TheVariants.{Gap, Row, Sbits, Lbits, Text, Open}
use Rattle.explain.specs.declared.evidence.Evidence.{Evidence}
use Rattle.explain.specs.declared.evidence.Evidence.TheVariants.{Nothing}
use Rattle.explain.specs.declared.stretch.Stretch.{Stretch}
use Rattle.explain.specs.Reasons.{between, head_at, elements_in, closed_wrong, stopped, evidence_by, evidence_at}
use Rattle.explain.specs.Told.{elements_of, said_in}
use Rattle.explain.proofs.Counting.{part_fits}

module _ (m : List ℕ) (d i e : ℕ) where
  abbrev behind : List ℕ
  behind = between m (i + 1) e

  -- the head of the object at i, from its byte and the bytes behind it as they are handed
  pub head_handed : (b : ℕ) (s : List ℕ) (r : Result Head Fault) → b ≡ get_or m i 0 → s ≡ behind → HeadIs s r (O.head_of d b s) → HeadIs behind r (head_at m d i e)
  unfolding head_at
  head_handed b s r x y is = subst (λ c. HeadIs behind r (O.head_of d c behind)) x (subst (λ l. HeadIs l r (O.head_of d b l)) y is)

  given : (xs : Items) (u : ℕ) → head_at m d i e ≡ O.gives xs u → Nothing ≡ evidence_at m d i e
  unfolding evidence_at evidence_by
  given xs u q = sym (ap (evidence_by m d i e) q)

  pub site_stop : (f : Fault) → HeadIs behind (Err f) (head_at m d i e) → (v : Evidence) → v ≡ stopped m d i e (meant f) → v ≡ evidence_at m d i e
  unfolding evidence_at evidence_by
  site_stop f q v s = s ∙ sym (ap (evidence_by m d i e) q)

  -- no container
  pub site_given : (h : Head) → HeadIs behind (Ok h) (head_at m d i e) → ((w : Wrap) (x : Extent) → h ≡ Open w x → ⊥) → Nothing ≡ evidence_at m d i e
  site_given Gap q n = given _ _ q
  site_given (Row k v u) q n = given _ _ q.1
  site_given (Sbits k w u) q n = given _ _ q.1
  site_given (Lbits a k u) q n = given _ _ q.0
  site_given (Text x) q n = given _ _ q.0
  site_given (Open w x) q n = absurd (n w x refl)

  -- a container, and its contents
  module _ (w : Wrap) (x : Extent) (q : HeadIs behind (Ok (Open w x)) (head_at m d i e)) where
    pub opened_within : i < e → i + 1 + x.start + x.size ≤ e
    opened_within l = part_fits m i e x.start x.size l q.1

    pub site_open : (c : Stretch) → c.message.now ≡ m → c.depth ≡ d + 1 → c.from ≡ i + 1 + x.start → c.end ≡ i + 1 + x.start + x.size → (v : Evidence)
        → v ≡ closed_wrong (wrap_of w) (elements_of c) (said_in c) → v ≡ evidence_at m d i e
    unfolding evidence_at evidence_by
    site_open c a b f t v s =
        s ∙ ap (λ l. closed_wrong (wrap_of w) (elements_in l c.depth c.from c.end) (reads c.depth (between l c.from c.end))) a
        ∙ ap (λ k. closed_wrong (wrap_of w) (elements_in m k c.from c.end) (reads k (between m c.from c.end))) (b ∙ add-one d)
        ∙ ap (λ k. closed_wrong (wrap_of w) (elements_in m (suc d) k c.end) (reads (suc d) (between m k c.end))) f
        ∙ ap (λ k. closed_wrong (wrap_of w) (elements_in m (suc d) (i + 1 + x.start) k) (reads (suc d) (between m (i + 1 + x.start) k))) t
        ∙ sym (ap (evidence_by m d i e) q.0)
