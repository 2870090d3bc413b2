-- The walk over the elements of a run, object by object: the elements passed, and those to come. Assumes nothing.
use Prim.Native.Nat.{ℕ, zero, suc, ◌+◌, ◌-◌, ◌≤◌, ◌<◌}
use native.Mathlib.Omega.{arith}
use native.Mathlib.Nat.{add-zero, le_refl}
use native.Mathlib.Numerals.{add-one}
use mathlib.Core.Path.{◌≡◌, refl, sym, ap, ◌∙◌, subst}
use mathlib.Core.Bool.{true}
use mathlib.Core.Logic.{◌⊎◌, inl, inr}
use Rattle.std.specs.Prelude.{◌&&◌, Option, None, Result, Ok, Err}
use Rattle.std.specs.Option.{is_some}
use mathlib.Core.List.{List, [], ◌∷◌, ◌++◌, append_assoc, append-nil}
use lib.ListN.{get_or}
use Rattle.format.specs.Items.{Items, kinds}
use Rattle.format.specs.Objects as O
use Rattle.explain.specs.declared.stretch.Stretch.{Stretch}
use Rattle.explain.specs.declared.elements.Places.{Places}
use Rattle.explain.specs.declared.elements.Piece.{Piece}
use Rattle.explain.specs.declared.elements.Piece.TheVariants.{Skip, Item, Copies}
use Rattle.format.specs.declared.fault.Fault.{Fault}
use Rattle.format.specs.declared.kinds.Kind.{Kind}
use Rattle.format.specs.Kinds.{word_of}
use Rattle.wire.specs.declared.size.Extent.{Extent}
use Rattle.explain.specs.Reasons.{between, head_at, Stands, standing, again, opened, elements_by, elements_in}
use Rattle.explain.specs.Told.{elements_of, second_place, other_place, places_of, one_of, plus_of, copies_of, PieceIs, word_asked, OfKind, Quiet}
use Rattle.explain.proofs.ElementLaws.{elements_end, elements_step}
use Rattle.explain.proofs.Counting.{part_fits}
use Rattle.explain.proofs.PlaceLaws.{three_same, both_true, places_join, places_again, settled_plus, quiet_plus}
use Rattle.explain.proofs.Singles.{single_padding, single_char, single_int}

pub record Walked (m : List ℕ) (d k from e i : ℕ) (sum : Places) : Type 0 where
  pub done : List Stands
  pub ahead : from ≤ i
  pub upto : elements_in m d from e ≡ done ++ elements_in m d i e
  pub told : sum ≡ places_of k done

pub walk_start : (m : List ℕ) (d k from e : ℕ) (sum : Places) → (sum.first ≡ None) × ((sum.second ≡ None) × (sum.other ≡ None)) → Walked m d k from e from sum
unfolding other_place
walk_start m d k from e sum z = record { done = []; ahead = le_refl from; upto = refl; told = three_same z.0 z.1.0 z.1.1 }

module _ {m : List ℕ} {d k from e i : ℕ} {sum : Places} (v : Walked m d k from e i sum) where
  -- nothing comes any more
  walk_done : elements_in m d i e ≡ [] → sum ≡ places_of k (elements_in m d from e)
  walk_done z = v.told ∙ ap (places_of k) (sym (v.upto ∙ ap (λ l. v.done ++ l) z ∙ append-nil v.done))

  pub walk_end : e ≤ i → sum ≡ places_of k (elements_in m d from e)
  walk_end h = walk_done (elements_end m d i e h)

  pub walk_settled : (is_some sum.second && is_some sum.other) ≡ true → sum ≡ places_of k (elements_in m d from e)
  walk_settled h =
      let s = both_true (is_some sum.second) (is_some sum.other) h in
      let a : sum.second ≡ second_place v.done = ap (λ (x : Places). x.second) v.told in
      let b : sum.other ≡ other_place k v.done = ap (λ (x : Places). x.other) v.told in
      v.told
      ∙ sym (ap (places_of k) v.upto ∙ places_join k v.done (elements_in m d i e)
      ∙ settled_plus k v.done (elements_in m d i e) (ap is_some (sym a) ∙ s.0) (ap is_some (sym b) ∙ s.1))

  module _ (h : i < e) where
    abbrev next : O.Head → List Stands
    next x = elements_by i (λ a z. elements_in m (suc d) a z) (λ j. elements_in m d j e) x

    -- the object at i, as the code lends its bytes on
    abbrev head : O.Head
    head = O.head_of d (get_or m i 0) (between m (i + 1) e)

    step : elements_in m d i e ≡ next head
    unfolding head_at between
    step = elements_step m d i e h

    -- one piece, xs, and then what stands at j
    onward : (xs : List Stands) (j : ℕ) (all : Places) → i ≤ j → elements_in m d i e ≡ xs ++ elements_in m d j e → all ≡ plus_of sum (places_of k xs) → Walked m d k from e j all
    onward xs j all l r q =
        let w = v.ahead in
        record {
          done = v.done ++ xs;
          ahead = omega arith;
          upto = v.upto ∙ ap (λ l. v.done ++ l) r ∙ sym (append_assoc v.done xs (elements_in m d j e));
          told = q ∙ ap (λ a. plus_of a (places_of k xs)) v.told ∙ sym (places_join k v.done xs);
        }

    pub walk_halt : (f : Fault) → PieceIs d (get_or m i 0) (between m (i + 1) e) (Err f) → sum ≡ places_of k (elements_in m d from e)
    unfolding elements_by
    walk_halt f p = walk_done (step ∙ ap next p)

    pub walk_skip : PieceIs d (get_or m i 0) (between m (i + 1) e) (Ok Skip) → Walked m d k from e (i + 1) sum
    unfolding elements_by standing kinds
    walk_skip p =
        let w = v.ahead in
        let z : i + 1 + 0 ≡ i + 1 = omega arith in
        record { done = v.done; ahead = omega arith; upto = v.upto ∙ ap (λ l. v.done ++ l) (step ∙ ap next p ∙ ap (λ j. elements_in m d j e) z); told = v.told }

    module _ (j : Kind) (u : ℕ) (p : PieceIs d (get_or m i 0) (between m (i + 1) e) (Ok (Item j u))) where
      pub walk_item : (one all : Places) → one ≡ one_of k (word_of j) i → all ≡ plus_of sum one → Walked m d k from e (i + (1 + u)) all
      walk_item one all f q =
          let z : i + 1 + u ≡ i + (1 + u) = omega arith in
          subst (λ n. Walked m d k from e n all) z (onward (record { kind = word_of j; place = i } ∷ []) (i + 1 + u) all (omega arith) (step ∙ p.0 i _ _) (q ∙ ap (plus_of sum) (f ∙ single)))
        where
          single : one_of k (word_of j) i ≡ places_of k (record { kind = word_of j; place = i } ∷ [])
          single = unfold one_of other_place in refl

    module _ (n : ℕ) (x : Extent) (p : PieceIs d (get_or m i 0) (between m (i + 1) e) (Ok (Copies n x))) where
      abbrev a : ℕ
      a = x.start

      abbrev s : ℕ
      s = x.size

      pub copies_fit : (i + 1 + a + s ≤ e) × (d < 16)
      copies_fit = (part_fits m i e a s h p.1, p.2)

      copied : (once many all : Places) → once ≡ places_of k (elements_in m (d + 1) (i + 1 + a) (i + 1 + a + s)) → many ≡ copies_of n once → all ≡ plus_of sum many
          → Walked m d k from e (i + 1 + a + s) all
      copied once many all f g q =
          let es : List Stands = elements_in m (suc d) (i + 1 + a) (i + 1 + a + s) in
          onward (again n es) (i + 1 + a + s) all (omega arith) (step ∙ ap next p.0 ∙ laid) (q ∙ ap (plus_of sum) (g ∙ ap (copies_of n) (f ∙ ap (λ j. places_of k (elements_in m j (i + 1 + a) (i + 1 + a + s))) (add-one d)) ∙ sym (places_again k n es)))
        where
          laid : next (O.opens (O.repeated n) a s) ≡ again n (elements_in m (suc d) (i + 1 + a) (i + 1 + a + s)) ++ elements_in m d (i + 1 + a + s) e
          laid = unfold elements_by opened in refl

      pub walk_copies : (c : Stretch) → c.message.now ≡ m → c.depth ≡ d + 1 → c.from ≡ i + 1 + a → c.end ≡ i + 1 + a + s
          → (once many all : Places) → once ≡ places_of k (elements_of c) → many ≡ copies_of n once → all ≡ plus_of sum many → Walked m d k from e c.end all
      walk_copies c x y z w once many all r g q =
          let f : once ≡ places_of k (elements_in m (d + 1) (i + 1 + a) (i + 1 + a + s)) =
          r ∙ ap (λ l. places_of k (elements_in l c.depth c.from c.end)) x ∙ ap (λ l. places_of k (elements_in m l c.from c.end)) y
          ∙ ap (λ l. places_of k (elements_in m (d + 1) l c.end)) z ∙ ap (λ l. places_of k (elements_in m (d + 1) (i + 1 + a) l)) w
          in
          subst (λ j. Walked m d k from e j all) (sym w) (copied once many all f g q)

-- a piece of the object at i, from its byte and the bytes behind it as they are handed
pub piece_here : (m : List ℕ) (d i e b : ℕ) (s : List ℕ) (r : Result Piece Fault) → b ≡ get_or m i 0 → s ≡ between m (i + 1) e → PieceIs d b s r
    → PieceIs d (get_or m i 0) (between m (i + 1) e) r
piece_here m d i e b s r x y p = subst (λ c. PieceIs d c (between m (i + 1) e) r) x (subst (λ l. PieceIs d b l r) y p)

pub piece_found : (m : List ℕ) (d i e b : ℕ) (s : List ℕ) (r x : Piece) → b ≡ get_or m i 0 → s ≡ between m (i + 1) e → PieceIs d b s (Ok r) → r ≡ x
    → PieceIs d (get_or m i 0) (between m (i + 1) e) (Ok x)
piece_found m d i e b s r x y z p q = subst (λ y. PieceIs d (get_or m i 0) (between m (i + 1) e) (Ok y)) q (piece_here m d i e b s (Ok r) y z p)

-- ---- past many objects of one byte that change nothing
module _ {m : List ℕ} {d k from e i : ℕ} {sum : Places} (v : Walked m d k from e i sum) (h : i < e) where
  kind_element : (j : ℕ) → j ≡ k → (xs : Items) → O.head_of d (get_or m i 0) (between m (i + 1) e) ≡ O.gives xs 0 → kinds xs ≡ j ∷ [] → is_some sum.second ≡ true
      → Walked m d k from e (i + 1) sum
  unfolding elements_by standing head_at between
  kind_element j q xs p n s =
      let w = v.ahead in
      let x : Stands = record { kind = j; place = i } in
      let z : i + 1 + 0 ≡ i + 1 = omega arith in
      let a : sum.second ≡ second_place v.done = ap (λ (y : Places). y.second) v.told in
      record {
        done = v.done ++ (x ∷ []);
        ahead = omega arith;
        upto = v.upto
            ∙ ap (λ l. v.done ++ l)
            (elements_step m d i e h ∙ ap (λ y. elements_by i (λ a z. elements_in m (suc d) a z) (λ j. elements_in m d j e) y) p
            ∙ ap (λ ks. standing i ks ++ elements_in m d (i + 1 + 0) e) n ∙ ap (λ b. x ∷ elements_in m d b e) z)
            ∙ sym (append_assoc v.done (x ∷ []) (elements_in m d (i + 1) e));
        told = v.told ∙ sym (quiet_plus k v.done x (ap is_some (sym a) ∙ s) q);
      }

  quiet_step : (get_or m i 0 ≡ 0xff) ⊎ ((is_some sum.second ≡ true) × OfKind k (get_or m i 0)) → Walked m d k from e (i + 1) sum
  quiet_step (inl b) = walk_skip v h (single_padding d (get_or m i 0) (between m (i + 1) e) b)
  quiet_step (inr (s, inl (q, b))) = let x = single_char d (get_or m i 0) (between m (i + 1) e) b in kind_element 3 (sym q) x.0 x.1 x.2 s
  quiet_step (inr (s, inr (q, a, b))) = let x = single_int d (get_or m i 0) (between m (i + 1) e) a b in kind_element 1 (sym q) x.0 x.1 x.2 s

many_quiet : {m : List ℕ} {d k from e i : ℕ} {sum : Places} (n : ℕ) → Walked m d k from e i sum → i + n ≤ e
    → ((j : ℕ) → i ≤ j → j < i + n → (get_or m j 0 ≡ 0xff) ⊎ ((is_some sum.second ≡ true) × OfKind k (get_or m j 0))) → Walked m d k from e (i + n) sum
many_quiet {m} {d} {k} {from} {e} {i} {sum} zero v l g = subst (λ j. Walked m d k from e j sum) (sym (add-zero i)) v
many_quiet {m} {d} {k} {from} {e} {i} {sum} (suc n) v l g =
    let w = quiet_step v (omega arith) (g i (le_refl i) (omega arith)) in
    let b : i + 1 + n ≡ i + suc n = omega arith in
    subst (λ j. Walked m d k from e j sum) b (many_quiet {i = i + 1} n w (omega arith) (λ j p q. g j (omega arith) (omega arith)))

pub walk_quiet : {m : List ℕ} {d from e i : ℕ} {sum : Places} (asked : Option Kind) (r : ℕ) → Walked m d (word_asked asked) from e i sum → Quiet m asked (is_some sum.second) i r e → Walked m d (word_asked asked) from e r sum
walk_quiet {m} {d} {from} {e} {i} {sum} asked r v q =
    let b : i + (r - i) ≡ r = omega (arith, q.0) in
    subst (λ j. Walked m d (word_asked asked) from e j sum) b (many_quiet (r - i) v (omega (arith, q.0, q.1)) (λ j p s. q.2 j p (omega arith)))
