-- From the verdict on a table to writing's answer. Assumes nothing.
use mathlib.Core.Path.{◌≡◌, refl, sym, ◌∙◌, ap, subst}
use mathlib.Core.List.{List}
use mathlib.Core.Bool.{Bool, true, false}
use mathlib.Core.Option.{Option, none, some}
use Prim.Native.Nat.{ℕ, ◌<◌, ◌≤◌}
use native.Mathlib.Omega.{arith}
use lib.ListN.{length, get_or}
use Rattle.std.specs.Prelude.{Result, Ok, Err}
use Rattle.format.specs.declared.fault.Refusal.{Refusal}
use Rattle.format.specs.declared.fault.Refusal.TheVariants.{NotATable, TooNested, NormalLong}
use Rattle.format.specs.Items.{Items}
use Rattle.format.specs.Tables.{count, data_words, items_of}
use Rattle.format.specs.Normal.{normal, depth}
use Rattle.format.specs.Answers.{over, unwritten, put, writing_of, writing}
use Rattle.format.proofs.Choices.{if_lt_yes, if_lt_no, by_lt, clash}
use Rattle.format.proofs.ItemLaws.{bytes_none}
use Rattle.table.specs.Rows.{Stands, items_at, Run, Header, Headed, rows_of, words_of}
use Rattle.table.specs.InOrder.{is_some}
use Rattle.writer.specs.Surveys.{RowsPlaced, NoItems, TooDeep, RowsPassed}
use Rattle.format.specs.Refused.{number_of}
use Rattle.writer.specs.Measures.{RunWritable}
use Rattle.writer.specs.Verdicts.{verdict_of, verdict}
use Rattle.writer.proofs.Passing.{Alone, alone, alone_is}
use Rattle.table.proofs.Standing.{stands_is, run_of}
use Rattle.table.proofs.Whole.{whole, items_of_lem}

-- the items of a whole table, as the code finds them
abbrev pub table_items : List ℕ → Items
table_items w = items_at w 0 (get_or w 0 0)

pub record TableReady (w : List ℕ) : Type 0 where
  pub long : 4 ≤ length w
  pub run : Run w 0 (get_or w 0 0)
  pub is : items_of w ≡ some (table_items w)

ready : (w : List ℕ) (xs : Items) → items_of w ≡ some xs → TableReady w
ready w xs e =
    let t = whole w xs e in
    record {
      long = t.formed.long;
      run = run_of w 0 0 (get_or w 0 0) xs t.stands;
      is = e ∙ ap some (sym (stands_is w 0 0 (get_or w 0 0) xs t.stands));
    }

-- ---- the verdict, as the code reaches it
verdict_none : (w : List ℕ) → ((xs : Items) → items_of w ≡ some xs → ⊥) → Err NotATable ≡ verdict w
unfolding verdict verdict_of
verdict_none w n = go (items_of w) refl
  where
    go : (o : Option Items) → items_of w ≡ o → Err NotATable ≡ verdict_of o
    go none e = refl
    go (some xs) e = absurd (n xs e)

pub no_header : (w : List ℕ) → (Headed w → ⊥) → Err NotATable ≡ verdict w
no_header w n = verdict_none w (λ xs f. n (whole w xs f).formed.header)

module _ (w : List ℕ) (R D : ℕ) (h : Header w R D) where
  all_placed : (xs : Items) → items_of w ≡ some xs → RowsPlaced w D 0 0 R xs
  all_placed xs e =
      let t = whole w xs e in
      let d = h.words in
      record { stands = rw (← h.rows) at t.stands; fits = omega (arith, t.words) }

  pub no_items : NoItems w D 0 0 R → Err NotATable ≡ verdict w
  no_items n = verdict_none w (λ xs e. n xs (all_placed xs e))

  pub not_judged : false ≡ is_some (items_of w) → Err NotATable ≡ verdict w
  unfolding is_some
  not_judged f = verdict_none w (λ xs e. clash (is_some (items_of w)) (ap is_some e) (sym f))

  verdict_some : (xs : Items) → items_of w ≡ some xs → verdict w ≡ verdict_of (some xs)
  unfolding verdict
  verdict_some xs e = ap verdict_of e

  pub deep_judged : TooDeep w D 16 0 0 R → true ≡ is_some (items_of w) → Err TooNested ≡ verdict w
  unfolding verdict_of is_some
  deep_judged n t = go (items_of w) refl t
    where
      go : (o : Option Items) → items_of w ≡ o → true ≡ is_some o → Err TooNested ≡ verdict w
      go none e q = let z : ◌≡◌ {A = ℕ} 0 1 = cc in absurd (omega arith)
      go (some xs) e q = sym (verdict_some xs e ∙ if_lt_yes 16 (depth xs) _ _ (n xs (all_placed xs e)))

  module _ (v c n : ℕ) (f : RowsPassed w D 16 0 0 v R c n) where
    -- what stands there is all that can
    abbrev all : Alone w R D h 16 0 0 v R c n
    all = alone w R D h 16 0 0 v R c n (omega arith) f

    abbrev found : Items
    found = all.items

    only : (xs : Items) → items_of w ≡ some xs → xs ≡ found
    only xs e = alone_is w R D h 16 0 0 v R c n all xs (all_placed xs e)

    pub miscounted : (c ≡ get_or w 1 0 → ⊥) → Err NotATable ≡ verdict w
    unfolding count
    miscounted g =
        verdict_none w (λ xs e.
        let q = ap count (only xs e) in
        g (omega (arith, all.number, (whole w xs e).number)))

    pub misplaced : (v ≡ D → ⊥) → Err NotATable ≡ verdict w
    unfolding data_words
    misplaced g =
        verdict_none w (λ xs e.
        let q : length (data_words xs) ≡ length (data_words found) = ap (λ z. length (data_words z)) (only xs e) in
        let d = h.words in
        g (omega (arith, all.words, (whole w xs e).words)))

    module _ (cs : c ≡ get_or w 1 0) (ws : v ≡ D) where
      all_found : items_of w ≡ some found
      unfolding count data_words
      all_found =
          let r = h.rows in
          let d = h.words in
          items_of_lem w (rw (r, d) at h) found (subst (λ (i : ℕ). Stands w 0 0 i found) r all.placed.stands) (omega (arith, all.number)) (omega (arith, all.words))

      pub verdict_long : 65536 < n → Err NormalLong ≡ verdict w
      unfolding verdict_of normal depth
      verdict_long l =
          sym (verdict_some found all_found ∙ if_lt_no 16 (depth found) _ _ (omega (arith, all.shallow)) ∙ if_lt_yes 65536 (length (normal found)) _ _ (omega (arith, all.size)))

      pub verdict_normal : n ≤ 65536 → Ok n ≡ verdict w
      unfolding verdict_of normal depth
      verdict_normal l =
          let q : n ≡ length (normal found) = omega (arith, all.size) in
          sym (verdict_some found all_found ∙ if_lt_no 16 (depth found) _ _ (omega (arith, all.shallow)) ∙ if_lt_no 65536 (length (normal found)) _ _ (omega arith) ∙ ap Ok (sym q))

-- as the code asks: the survey gave up, or found so many items
pub deep_told : (w : List ℕ) (r : Bool) → Headed w → TooDeep w (words_of w) 16 0 0 (rows_of w) → r ≡ is_some (items_of w) → r ≡ true → Err TooNested ≡ verdict w
deep_told w r h d e t = deep_judged w _ _ h d (sym t ∙ e)

pub none_told : (w : List ℕ) (r : Bool) → Headed w → r ≡ is_some (items_of w) → r ≡ false → Err NotATable ≡ verdict w
none_told w r h e t = not_judged w _ _ h (sym t ∙ e)

pub ruleset deep = (deep_told, none_told)

pub nothing : (w : List ℕ) → Headed w → NoItems w (words_of w) 0 0 (rows_of w) → Err NotATable ≡ verdict w
nothing w h n = no_items w _ _ h n

module _ (w : List ℕ) (h : Headed w) (R v c n : ℕ) (r : R ≡ rows_of w) (f : RowsPassed w (words_of w) 16 0 0 v R c n) where
  all_rows : RowsPassed w (words_of w) 16 0 0 v (rows_of w) c n
  all_rows = rw r at f

  pub count_wrong : (k : ℕ) → k ≡ get_or w 1 0 → (c ≡ k → ⊥) → Err NotATable ≡ verdict w
  count_wrong k e g = miscounted w _ _ h v c n all_rows (λ z. g (z ∙ sym e))

  pub words_wrong : (k : ℕ) → k ≡ words_of w → (v ≡ k → ⊥) → Err NotATable ≡ verdict w
  words_wrong k e g = misplaced w _ _ h v c n all_rows (λ z. g (z ∙ sym e))

  pub length_wrong : c ≡ get_or w 1 0 → v ≡ words_of w → 65536 < n → Err NormalLong ≡ verdict w
  length_wrong e d l = verdict_long w _ _ h v c n all_rows e d l

  pub length_right : c ≡ get_or w 1 0 → v ≡ words_of w → n ≤ 65536 → Ok n ≡ verdict w
  length_right e d l = verdict_normal w _ _ h v c n all_rows e d l

-- ---- from the verdict to the answer
refused_of : (x : Refusal) (o : Option Items) (t : List ℕ) → Err x ≡ verdict_of o → writing_of o t ≡ unwritten (number_of x) 0 t
unfolding verdict_of writing_of
refused_of x none t = λ e. let q : x ≡ NotATable = cc in rw q refl
refused_of x (some xs) t =
    by_lt P 16 (depth xs) (λ l e. let q : x ≡ TooNested = cc in rw q (if_lt_yes 16 (depth xs) _ _ l))
    (λ g. by_lt P 65536 (length (normal xs))
    (λ l e. let q : x ≡ NormalLong = cc in rw q (if_lt_no 16 (depth xs) _ _ g ∙ if_lt_yes 65536 (length (normal xs)) _ _ l))
    (λ k e. let z : ◌≡◌ {A = ℕ} 0 1 = cc in absurd (omega arith)))
  where
    P : Result ℕ Refusal → Type 0
    P v = Err x ≡ v → writing_of (some xs) t ≡ unwritten (number_of x) 0 t

-- a table with a normal form of n bytes, at most sixteen deep
pub record Sound (w : List ℕ) (n : ℕ) : Type 0 where
  pub ready : TableReady w
  pub shallow : depth (table_items w) ≤ 16
  pub size : n ≡ length (normal (table_items w))
  pub small : n ≤ 65536

normal_of : (n : ℕ) (xs : Items) → Ok n ≡ verdict_of (some xs) → (depth xs ≤ 16) × (length (normal xs) ≤ 65536) × (n ≡ length (normal xs))
unfolding verdict_of
normal_of n xs =
    by_lt P 16 (depth xs) (λ l e. let z : ◌≡◌ {A = ℕ} 0 1 = cc in absurd (omega arith))
    (λ g. by_lt P 65536 (length (normal xs)) (λ l e. let z : ◌≡◌ {A = ℕ} 0 1 = cc in absurd (omega arith)) (λ k e. (g, k, cc)))
  where
    P : Result ℕ Refusal → Type 0
    P v = Ok n ≡ v → (depth xs ≤ 16) × (length (normal xs) ≤ 65536) × (n ≡ length (normal xs))

pub sound_of : (w : List ℕ) (n : ℕ) → Ok n ≡ verdict w → Sound w n
unfolding verdict verdict_of
sound_of w n e = go (items_of w) refl e
  where
    go : (o : Option Items) → items_of w ≡ o → Ok n ≡ verdict_of o → Sound w n
    go none q e = let z : ◌≡◌ {A = ℕ} 0 1 = cc in absurd (omega arith)
    go (some xs) q e =
        let r = ready w xs q in
        let k = normal_of n (table_items w) (e ∙ ap verdict_of (sym q ∙ r.is)) in
        record { ready = r; shallow = k.0; size = k.2; small = omega arith }

normal_put : (w : List ℕ) (n : ℕ) (t : List ℕ) → Sound w n → writing w t ≡ put t (normal (table_items w))
unfolding writing writing_of
normal_put w n t s =
    let z = s.size in
    let l = s.small in
    ap (λ o. writing_of o t) s.ready.is ∙ if_lt_no 16 (depth (table_items w)) _ _ s.shallow ∙ if_lt_no 65536 (length (normal (table_items w))) _ _ (omega arith)

-- ---- writing's answer, as the code comes to it
pub write_unheaded : (w t : List ℕ) → (Headed w → ⊥) → unwritten 12 0 t ≡ writing w t
unfolding writing verdict
write_unheaded w t n = sym (refused_of NotATable (items_of w) t (no_header w n))

pub write_refused : (w t : List ℕ) (x : Refusal) → Err x ≡ verdict w → unwritten (number_of x) 0 t ≡ writing w t
unfolding writing verdict
write_refused w t x e = sym (refused_of x (items_of w) t e)

pub write_told_lem : (w t : List ℕ) (n : ℕ) → Ok n ≡ verdict w → length t < n → unwritten 15 n t ≡ writing w t
unfolding put
write_told_lem w t n e l =
    let s = sound_of w n e in
    sym (normal_put w n t s ∙ rw (← s.size) (if_lt_yes (length t) n _ _ l))

pub write_whole : (w t o : List ℕ) (n : ℕ) → Ok n ≡ verdict w → n ≤ length t → o ≡ over (normal (table_items w)) t → unwritten 0 n o ≡ writing w t
unfolding put
write_whole w t o n e l q =
    let s = sound_of w n e in
    ap (unwritten 0 n) q ∙ sym (normal_put w n t s ∙ rw (← s.size) (if_lt_no (length t) n _ _ l))

pub write_none : (w t : List ℕ) (n : ℕ) → Ok n ≡ verdict w → n ≤ 0 → unwritten 0 n t ≡ writing w t
unfolding over normal
write_none w t n e z =
    write_whole w t t n e (omega arith) (ap (λ xs. over (normal xs) t) (sym (bytes_none (table_items w) (omega (arith, (sound_of w n e).size)))))

pub whole_fits : (w : List ℕ) (n k : ℕ) → Ok n ≡ verdict w → n ≤ k → RunWritable w 0 (get_or w 0 0) 16 k
whole_fits w n k e l =
    let s = sound_of w n e in
    let z = s.size in
    record { run = s.ready.run; within = omega arith; shallow = s.shallow; room = omega arith }
