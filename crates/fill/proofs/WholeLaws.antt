-- Rows, data words and header make the whole table. Assumes nothing.
use Rattle.std.proofs.Common.{◌≡◌, ℕ, ◌+◌, ◌-◌, ◌*◌, ◌≤◌, List, [], ◌∷◌, ◌++◌, length, take, drop, sym, refl, ap, ◌∙◌, ap₂, append_assoc, append-nil, arith, length-append, take-append-drop, drop_of_length-le, length-take-le, drop-drop}
use Rattle.format.specs.Items.{Items, end, leaf, group}
use Rattle.format.specs.Messages.{Outcome, refused, says, reads, outcome}
use Rattle.format.specs.Tables.{count, rows, data_words, row_words, table_of, words_needed}
use Rattle.format.specs.Answers.{over}
use Rattle.format.proofs.Counts.{words, count_rows}
use Rattle.format.proofs.TableLaws.{row_length}
use Rattle.fill.specs.declared.place.Filled.{Filled}
use Rattle.fill.specs.Walks.{RunFits, RunFilled}
use Rattle.fill.specs.Whole.{Roomy, ItemsPut, laid_out}
use Rattle.format.specs.Lent.{over_at}
use Rattle.format.proofs.Over.{at_front, at_none, at_length, part_length, lent}
use Rattle.fill.proofs.Regions.{fronted}

-- the items that an accepted message says, and what is known of them
pub record Seen (m : List ℕ) (r w : ℕ) (t : List ℕ) : Type 0 where
  pub xs : Items
  pub said : outcome m ≡ says xs
  pub rows_are : r ≡ rows xs
  pub words_are : w ≡ words xs
  pub few_rows : rows xs ≤ 16384
  pub few_words : words xs ≤ 16384
  pub room : 4 + 3 * rows xs + words xs ≤ length t

none_there : (xs : Items) → rows xs ≡ 0 → xs ≡ end
unfolding rows
none_there end e = refl
none_there (leaf l xs) e = absurd (omega arith)
none_there (group g c xs) e = absurd (omega arith)

pub seen : (m : List ℕ) (r w : ℕ) (t : List ℕ) → Roomy (outcome m) r w (length t) → Seen m r w t
unfolding Roomy words_needed
seen m r w t = by (outcome m) refl
  where
    by : (o : Outcome) → outcome m ≡ o → Roomy o r w (length t) → Seen m r w t
    by (refused f) e q = absurd q
    by (says xs) e q = record { xs = xs; said = e; rows_are = q.0; words_are = q.1; few_rows = q.2; few_words = q.3; room = q.4 }

-- both parts of what the walk wrote
joined : (g : ℕ) (a b p ys : List ℕ) → length a ≡ g → take g ys ≡ over a (take g p) → g ≤ length p → drop g ys ≡ over_at 0 b (drop g p) → ys ≡ over (a ++ b) p
unfolding over
joined g a b p ys e f h k =
    let x : a ++ drop (length a) (take g p) ≡ a =
    ap (λ z. a ++ z) (drop_of_length-le (take g p) {i = length a} (omega (arith, length-take-le g p h))) ∙ append-nil a in
    let n : g + length b ≡ length (a ++ b) = omega (arith, length-append a b) in
    sym (take-append-drop g ys) ∙ ap₂ ◌++◌ (f ∙ x) (k ∙ at_front b (drop g p) ∙ ap (λ z. b ++ z) (drop-drop (length b) g p ∙ ap (λ i. drop i p) n))
    ∙ sym (append_assoc a b (drop (length (a ++ b)) p))

module _ {m : List ℕ} {r w : ℕ} {t : List ℕ} (s : Seen m r w t) where
  abbrev laid_out_lem : List ℕ
  laid_out_lem = row_words 0 s.xs ++ data_words s.xs

  abbrev P : List ℕ
  P = take (length t - 4) (drop 4 t)

  run_said : reads 0 m ≡ says s.xs
  run_said = unfold outcome in s.said

  -- ---- rows and data words
  pub items_fit : (4 ≤ length t) × RunFits 0 m 0 (3 * r) P
  items_fit =
      (omega arith, record { items = s.xs; said = run_said; fits = rw (part_length 4 t) (omega arith, omega arith, omega arith, omega arith) })

  pub items_put : {x : Filled} {ys : List ℕ} → RunFilled 0 m 0 (3 * r) P ys x → ItemsPut (outcome m) t (take 4 t ++ (ys ++ drop (length t - 4) (drop 4 t))) x.count
  unfolding ItemsPut
  items_put {ys = ys} g =
      let e : says g.items ≡ says s.xs = sym g.said ∙ run_said in
      let i : g.items ≡ s.xs = cc in
      let l = rw i at g.laid in
      let n = part_length 4 t in
      let j = joined (3 * r) (row_words 0 s.xs) (data_words s.xs) P ys (omega (arith, row_length 0 s.xs)) l.front_is (omega arith) l.back_is in
      rw s.said (l.count_is, lent 4 laid_out_lem t ys j)

  -- no rows, no data words
  pub no_items : r ≡ 0 → ItemsPut (outcome m) t t 0
  unfolding ItemsPut
  no_items z =
      let x = s.xs in
      let q : rows x ≡ 0 = sym s.rows_are ∙ z in
      let n : x ≡ end = none_there x q in
      rw s.said
      (omega (arith, count_rows x), sym (ap (λ y. over_at 4 (row_words 0 y ++ data_words y) t) n ∙ (unfold row_words data_words in at_none 4 t)))

  -- ---- all of it
  module _ (n : ℕ) (t₁ : List ℕ) (p : ItemsPut (outcome m) t t₁ n) where
    behind : (n ≡ count s.xs) × (t₁ ≡ over_at 4 laid_out_lem t)
    unfolding ItemsPut
    behind = rw s.said at p

    pub header_room : (4 ≤ length t₁) × (r ≤ 16384)
    header_room =
        let l2 = length-append (row_words 0 s.xs) (data_words s.xs) in
        let l3 = row_length 0 s.xs in
        let l : length t₁ ≡ length t = ap length behind.1 ∙ at_length 4 laid_out_lem t (omega arith) in
        (omega arith, omega arith)

    pub whole : {t₃ : List ℕ} → t₃ ≡ over (r ∷ n ∷ (4 + 3 * r) ∷ w ∷ []) t₁ → t₃ ≡ laid_out (outcome m) t
    unfolding laid_out table_of
    whole e =
        let x = s.xs in
        let h : List ℕ = r ∷ n ∷ (4 + 3 * r) ∷ w ∷ [] in
        let k : h ≡ rows x ∷ count x ∷ (4 + 3 * rows x) ∷ words x ∷ [] =
        ap (λ a. a ∷ n ∷ (4 + 3 * a) ∷ w ∷ []) s.rows_are ∙ ap₂ (λ a b. rows x ∷ a ∷ (4 + 3 * rows x) ∷ b ∷ []) behind.0 s.words_are in
        e ∙ ap (over h) behind.1 ∙ fronted 4 laid_out_lem t (omega arith) h refl ∙ ap (λ l. over (l ++ laid_out_lem) t) k
        ∙ ap (λ o. laid_out o t) (sym s.said)
