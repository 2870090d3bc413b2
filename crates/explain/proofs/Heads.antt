-- What the code's answer about an object's head says of a step of the descent, and of a piece of the walk over elements. Assumes nothing.
use Prim.Native.Nat.{ℕ, ◌+◌, ◌≤◌, ◌<◌}
use native.Mathlib.Omega.{arith}
use mathlib.Core.Path.{◌≡◌, refl, sym, ap, ◌∙◌, subst}
use mathlib.Core.Logic.{◌⊎◌, inl, inr}
use mathlib.Core.List.{List, [], ◌∷◌, ◌++◌}
use Rattle.std.specs.Prelude.{Ok}
use lib.ListN.{length}
use Rattle.format.specs.Items.{Leaf, bits, struc, Items, end, group, one, leaf_kind, kinds, STRUC}
use Rattle.format.specs.Objects as O
use Rattle.format.proofs.Bounds.{HeadWithin, head_within}
use Rattle.wire.specs.Heads.{HeadIs, wrap_of}
use Rattle.wire.specs.declared.head.Wrap.{Wrap}
use Rattle.wire.specs.declared.head.Wrap.TheVariants as W
use Rattle.wire.specs.declared.head.Head.{Head}
use Rattle.wire.specs.declared.head.Head.TheVariants.{Row, Sbits, Lbits, Text, Open}
use Rattle.wire.specs.declared.size.Extent.{Extent}
use Rattle.format.specs.declared.kinds.Kind.{Kind}
use Rattle.format.specs.declared.kinds.Kind.TheVariants as K
use Rattle.format.specs.Kinds.{word_of}
use Rattle.explain.specs.declared.elements.Piece.TheVariants as P
use Rattle.explain.specs.declared.descent.Step.TheVariants as S
use Rattle.explain.specs.Reasons.{Stands, standing, opened, elements_by}
use Rattle.explain.specs.Told.{OneElement, PieceIs, StepIs, wrap_piece}

-- one element
leaf_element : (l : Leaf) (k u : ℕ) → leaf_kind l ≡ k → OneElement (O.gives (one l) u) k u
unfolding elements_by standing kinds
leaf_element l k u e p inside rest = ap (λ j. record { kind = j; place = p } ∷ rest (p + 1 + u)) e

text_element : (xs : Items) (u : ℕ) → OneElement (O.gives (group struc xs end) u) STRUC u
unfolding elements_by standing kinds
text_element xs u p inside rest = refl

-- a container, by how it closes
wrap_element : (w : O.Wrap) (k a n : ℕ) → ((p : ℕ) (es : List Stands) → opened p w es ≡ record { kind = k; place = p } ∷ []) → OneElement (O.opens w a n) k (a + n)
unfolding elements_by
wrap_element w k a n g p inside rest =
    let e : p + 1 + a + n ≡ p + 1 + (a + n) = omega arith in
    ap (λ l. l ++ rest (p + 1 + a + n)) (g p (inside (p + 1 + a) (p + 1 + a + n))) ∙ ap (λ j. record { kind = k; place = p } ∷ rest j) e

pub piece_wrap : (d b : ℕ) (s : List ℕ) (w : Wrap) (e : Extent) → O.head_of d b s ≡ O.opens (wrap_of w) e.start e.size → e.start + e.size ≤ length s → d < 16
    → PieceIs d b s (Ok (wrap_piece w e))
unfolding wrap_of opened standing
piece_wrap d b s W.Struc x e l g = (subst (λ h. OneElement h 7 (x.start + x.size)) (sym e) (wrap_element O.as_struc 7 x.start x.size (λ p es. refl)), l)
piece_wrap d b s W.Ustruc x e l g = (subst (λ h. OneElement h 7 (x.start + x.size)) (sym e) (wrap_element O.as_ustruc 7 x.start x.size (λ p es. refl)), l)
piece_wrap d b s W.Edt x e l g = (subst (λ h. OneElement h 8 (x.start + x.size)) (sym e) (wrap_element O.as_edt 8 x.start x.size (λ p es. refl)), l)
piece_wrap d b s (W.Repeat k) x e l g = (e, l, g)

-- ---- by what the head is
module _ (d b : ℕ) (s : List ℕ) (r : Head) (is : HeadIs s (Ok r) (O.head_of d b s)) where
  abbrev by : Head → Type 0
  by x = HeadIs s (Ok x) (O.head_of d b s)

  given_fits : (xs : Items) (u : ℕ) → O.head_of d b s ≡ O.gives xs u → u ≤ length s
  given_fits xs u e = subst (HeadWithin d (length s)) e (head_within d b s)

  pub open_fits : (w : Wrap) (x : Extent) → r ≡ Open w x → (O.head_of d b s ≡ O.opens (wrap_of w) x.start x.size) × (x.start + x.size ≤ length s) × (d < 16)
  open_fits w x e =
      let q = (subst by e is).0 in
      let f = subst (HeadWithin d (length s)) q (head_within d b s) in
      (q, f.0, f.1)

  pub text_fits : (x : Extent) → r ≡ Text x → x.start + x.size ≤ length s
  text_fits x e = (subst by e is).1

  -- ---- a step
  given_step : (xs : Items) (u : ℕ) → O.head_of d b s ≡ O.gives xs u → StepIs d b s (Ok (S.Over u))
  given_step xs u e = (xs, e, given_fits xs u e)

  pub step_leaf : (u : ℕ) → ((k : Kind) × (v : ℕ) × (r ≡ Row k v u)) ⊎ (((n : ℕ) × (w : ℕ) × (r ≡ Sbits n w u)) ⊎ ((a : ℕ) × (n : ℕ) × (r ≡ Lbits a n u))) → StepIs d b s (Ok (S.Over u))
  step_leaf u (inl (k, v, e)) = let q = subst by e is in given_step (one q.0) u q.1
  step_leaf u (inr (inl (n, w, e))) = let q = subst by e is in given_step (one (bits q.0)) u q.1
  step_leaf u (inr (inr (a, n, e))) = given_step (one (bits _)) u (subst by e is).0

  pub step_text : (x : Extent) → r ≡ Text x → StepIs d b s (Ok (S.Over (x.start + x.size)))
  step_text x e = given_step _ (x.start + x.size) (subst by e is).0

  pub step_open : (w : Wrap) (x : Extent) → r ≡ Open w x → StepIs d b s (Ok (S.Into x))
  step_open w x e = let q = open_fits w x e in (wrap_of w, q.0, q.1, q.2)

  -- ---- a piece
  leaf_piece : (l : Leaf) (k : Kind) (u : ℕ) → O.head_of d b s ≡ O.gives (one l) u → leaf_kind l ≡ word_of k → PieceIs d b s (Ok (P.Item k u))
  leaf_piece l k u e q = (subst (λ h. OneElement h (word_of k) u) (sym e) (leaf_element l (word_of k) u q), given_fits (one l) u e)

  pub piece_row : (k : Kind) (v u : ℕ) → r ≡ Row k v u → PieceIs d b s (Ok (P.Item k u))
  piece_row k v u e = let q = subst by e is in leaf_piece q.0 k u q.1 q.2.kind

  pub piece_bits : (u : ℕ) → ((n : ℕ) × (w : ℕ) × (r ≡ Sbits n w u)) ⊎ ((a : ℕ) × (n : ℕ) × (r ≡ Lbits a n u)) → PieceIs d b s (Ok (P.Item K.Bits u))
  unfolding leaf_kind
  piece_bits u (inl (n, w, e)) = let q = subst by e is in leaf_piece (bits q.0) K.Bits u q.1 refl
  piece_bits u (inr (a, n, e)) = leaf_piece (bits _) K.Bits u (subst by e is).0 refl

  pub piece_text : (x : Extent) → r ≡ Text x → PieceIs d b s (Ok (P.Item K.Struc (x.start + x.size)))
  piece_text x e =
      let q = subst by e is in
      (subst (λ h. OneElement h 7 (x.start + x.size)) (sym q.0) (text_element _ (x.start + x.size)), q.1)

  pub piece_open : (w : Wrap) (x : Extent) → r ≡ Open w x → PieceIs d b s (Ok (wrap_piece w x))
  piece_open w x e = let q = open_fits w x e in piece_wrap d b s w x q.0 q.1 q.2
