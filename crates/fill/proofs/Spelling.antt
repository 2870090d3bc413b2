-- The codes of a run that says only CHARs, object by object. Assumes nothing.
use Rattle.std.proofs.Common.{◌≡◌, ℕ, zero, suc, ◌+◌, ◌-◌, ◌*◌, ◌<◌, ◌≤◌, true, false, Ok, Err, List, [], ◌∷◌, ◌++◌, length, get_or, take, drop, sym, refl, ap, ◌∙◌, subst, zero-le, arith, length-append, length-drop, length-take-le, get_or-append-add}
use lib.ListN.{get_or-append}
use Rattle.format.specs.Choice.{both}
use Rattle.format.specs.Items.{Items, end, leaf, group, join, times, is_string}
use Rattle.format.specs.Tables.{count, codes, leaf_b}
use Rattle.format.specs.Objects as O
use Rattle.format.specs.Messages.{says, reads}
use Rattle.format.proofs.Choices.{clash, split, split_eq, both_left, both_right}
use Rattle.format.proofs.Counts.{count_join, count_times, times_suc, times_zero}
use Rattle.format.proofs.TableLaws.{codes_length}
use Rattle.wire.specs.Ranges.{Between}
use Rattle.wire.specs.declared.head.Wrap.{Wrap}
use Rattle.wire.specs.declared.head.Wrap.TheVariants.{Struc, Ustruc, Edt, Repeat}
use Rattle.format.specs.declared.fault.Fault.{Fault}
use Rattle.wire.specs.declared.size.Extent.{Extent}
use Rattle.wire.specs.declared.head.Head.{Head}
use Rattle.wire.specs.declared.head.Head.TheVariants.{Open}
use Rattle.wire.specs.Heads.{HeadIs}
use Rattle.fill.specs.Copies.{again}
use Rattle.fill.specs.Containers.{copies_of, closed_items}
use Rattle.fill.specs.Texts.{lows, Spelt, SpeltAgain, Low, TextFits, TextPut}
use Rattle.fill.proofs.AgainLaws.{at_least}
use Rattle.fill.proofs.Letters.{low_again, spelt_none, spelt_more}
use Rattle.fill.proofs.ContainerLaws.{Opened, opened, opened_run, closed_none}
use Rattle.fill.proofs.TextLaws.{chars_count}
use Rattle.wire.proofs.Stretches.{chars_say, padding_says, between_from}
use Rattle.fill.proofs.StringLaws.{string_join, string_times, one_group, no_chars, repeat_stop, repeat_none, PatternAt}
use Rattle.format.proofs.Runs.{upto_end, Passed, passed_none, passed_piece, passed_rest, Ahead, ahead}

-- ---- codes joined and repeated
codes_join : (xs ys : Items) → codes (join xs ys) ≡ codes xs ++ codes ys
unfolding codes join
codes_join end ys = refl
codes_join (leaf l xs) ys = ap (λ r. leaf_b 0 l ∷ r) (codes_join xs ys)
codes_join (group g c xs) ys = ap (λ r. 0 ∷ r) (codes_join xs ys)

codes_times : (k : ℕ) (xs : Items) → codes (times k xs) ≡ again k (codes xs)
unfolding again
codes_times zero xs = ap codes (times_zero xs) ∙ (unfold codes in refl)
codes_times (suc k) xs = ap codes (times_suc k xs) ∙ codes_join xs (times k xs) ∙ ap (λ r. codes xs ++ r) (codes_times k xs)

low_append : (a b : List ℕ) → Low a → Low b → Low (a ++ b)
low_append a b p q i h =
    split i (length a)
    (λ l. rw (get_or-append a b 0 i l) (p i l))
    (λ g.
    let e : i ≡ length a + (i - length a) = omega arith in
    let z : get_or (a ++ b) i 0 ≡ get_or b (i - length a) 0 = ap (λ k. get_or (a ++ b) k 0) e ∙ get_or-append-add a b (i - length a) 0 in
    rw z (q (i - length a) (omega (arith, length-append a b))))

low_bytes : (c : List ℕ) → Low (lows c)
unfolding codes leaf_b O.characters
low_bytes [] i h = absurd (omega arith)
low_bytes (b ∷ c) zero h = omega arith
low_bytes (b ∷ c) (suc i) h = low_bytes c i (omega arith)

low_none : Low (codes end)
unfolding codes
low_none i h = absurd (omega arith)

-- ---- a repeat of characters: as often as said
as_times : (w : Wrap) (xs : Items) → is_string (closed_items w xs) ≡ true → 0 < copies_of w → (closed_items w xs ≡ times (copies_of w) xs) × (is_string xs ≡ true)
unfolding closed_items copies_of
as_times Struc xs q p = clash _ q (one_group _ xs)
as_times Ustruc xs q p = clash _ q (one_group _ xs)
as_times Edt xs q p = clash _ q (one_group _ xs)
as_times (Repeat zero) xs q p = absurd (omega arith)
as_times (Repeat (suc k)) xs q p = (refl, sym (string_times k xs) ∙ q)

-- ---- the loop: the codes of xs stand behind n others
pub record Spelling (d : ℕ) (s : List ℕ) (n : ℕ) (t₀ t : List ℕ) (i to : ℕ) : Type 0 where
  pub all : Items
  pub xs : Items
  pub whole : is_string all ≡ true
  pub passed : Passed d s all xs i
  pub at : i ≤ length s
  pub upto : to ≡ n + count xs
  pub spelt : Spelt n (codes xs) t₀ t
  pub low : Low (codes xs)
  pub long : length t ≡ length t₀
  pub room : n + count all ≤ 8 * length t₀
  pub few : n + count all ≤ 131072
  pub fewer : count xs ≤ count all

pub spelling_start : {d : ℕ} {s : List ℕ} {n : ℕ} {t : List ℕ} → TextFits d s n t → Spelling d s n t t 0 n
unfolding count codes
spelling_start {d} {s} {n} {t} f =
    record {
      all = f.items;
      xs = end;
      whole = f.chars;
      passed = passed_none d s f.items f.said;
      at = zero-le;
      upto = omega arith;
      spelt = spelt_none n t;
      low = low_none;
      long = refl;
      room = f.room;
      few = f.few;
      fewer = zero-le;
    }

module _ {d : ℕ} {s : List ℕ} {n : ℕ} {t₀ t : List ℕ} {i to : ℕ} (v : Spelling d s n t₀ t i to) where
  pub spelling_end : length s ≤ i → TextPut d s n t₀ t to
  spelling_end h =
      let e = upto_end v.passed.upto h in
      let z : v.all ≡ v.xs = cc in
      record { items = v.xs; said = e; chars = ap is_string (sym z) ∙ v.whole; upto = v.upto; low = v.low; spelt = v.spelt }

  -- items ys further on, up to e
  more : (ys : Items) (e : ℕ) → Passed d s v.all (join v.xs ys) e → (u : List ℕ) → length u ≡ length t → Low (codes ys) → Spelt to (codes ys) t u
      → Spelling d s n t₀ u e (to + count ys)
  more ys e p u lu lw q =
      let z = passed_rest p in
      let j : count v.all ≡ count v.xs + count ys + count z.0 = ap count z.1 ∙ count_join (join v.xs ys) z.0 ∙ ap (λ m. m + count z.0) (count_join v.xs ys) in
      let k = count_join v.xs ys in
      record {
        all = v.all;
        xs = join v.xs ys;
        whole = v.whole;
        passed = p;
        at = p.upto.within;
        upto = omega arith;
        spelt = subst (λ l. Spelt n l t₀ u) (sym (codes_join v.xs ys)) (spelt_more n to (codes v.xs) (codes ys) t₀ t u v.spelt (omega (arith, codes_length v.xs)) q);
        low = subst Low (sym (codes_join v.xs ys)) (low_append (codes v.xs) (codes ys) v.low lw);
        long = lu ∙ v.long;
        room = v.room;
        few = v.few;
        fewer = omega arith;
      }

  -- ---- plain bytes, as the code lends them
  module _ (e : ℕ) (l : get_or s i 0 < 0x80) (w : (i + 1 ≤ e) × (e ≤ length s) × Between 0 0x7f (i + 1) e s) where
    abbrev part : List ℕ
    part = take (e - i) (drop i s)

    long_part : length part ≡ e - i
    long_part = length-take-le (e - i) (drop i s) (omega (arith, length-drop i s, w.0, w.1))

    on : Passed d s v.all (join v.xs (O.characters part)) e
    on = passed_piece v.passed (chars_say s i e (omega (arith, w.0)) w.1 (between_from 0 0x7f i e s zero-le (omega arith) w.2))

    pub plain_fits : to + length part ≤ 8 * length t
    plain_fits =
        let z = passed_rest on in
        let j : count v.all ≡ count v.xs + count (O.characters part) + count z.0 =
        ap count z.1 ∙ count_join (join v.xs (O.characters part)) z.0 ∙ ap (λ m. m + count z.0) (count_join v.xs (O.characters part)) in
        omega (arith, chars_count part)

    pub plain_turn : {u : List ℕ} → length u ≡ length t → Spelt to (lows part) t u → Spelling d s n t₀ u e (to + (e - i))
    plain_turn {u} lu q =
        let c : count (O.characters part) ≡ e - i = chars_count part ∙ long_part in
        subst (λ m. Spelling d s n t₀ u e (to + m)) c (more (O.characters part) e on u lu (low_bytes part) q)

  -- ---- the object at i
  abbrev S : List ℕ
  S = take (length s - (i + 1)) (drop (i + 1) s)

  abbrev b : ℕ
  b = get_or s i 0

  module _ (h : i < length s) where
    here : Ahead d s v.all v.xs i b
    here = ahead d s v.all v.xs i b v.passed h refl

    here_chars : is_string here.ys ≡ true
    here_chars =
        let e : both (both (is_string v.xs) (is_string here.ys)) (is_string here.zs) ≡ true =
        ap (λ x. both x (is_string here.zs)) (sym (string_join v.xs here.ys)) ∙ sym (string_join (join v.xs here.ys) here.zs) ∙ ap is_string (sym here.rest) ∙ v.whole in
        both_right (is_string v.xs) (is_string here.ys) (both_left (both (is_string v.xs) (is_string here.ys)) (is_string here.zs) e)

    -- it is a repeat, or nothing that could stand here
    module _ (l : 0x80 ≤ b) (m : b < 0xff) where
      only_repeat : (b ≡ 0xc4 → is_string here.ys ≡ false) → ⊥
      only_repeat k = clash _ here_chars (split_eq b 0xc4 k (λ q. no_chars d b S l q m here.ys here.past here.here))

      pub never_stop : (x : Fault) → HeadIs S (Err x) (O.head_of d b S) → ⊥
      never_stop x e = only_repeat (λ q. repeat_stop d b S q here.ys here.past here.here x e)

      pub never : (h : Head) → ((w : Wrap) (x : Extent) → h ≡ Open w x → ⊥) → HeadIs S (Ok h) (O.head_of d b S) → ⊥
      never h k e = only_repeat (λ q. repeat_none d b S q here.ys here.past here.here h k e)

  -- a repeat's pattern, and where it ends
  module _ {w : Wrap} {x : Extent} (p : PatternAt d s i w x) where
    abbrev ahead_of : Ahead d s v.all v.xs i b
    ahead_of = here p.here

    abbrev I : List ℕ
    I = O.contents S x.start x.size

    inside : Opened false d S w x.start x.size ahead_of.ys ahead_of.past
    inside = opened d b S w x ahead_of.ys ahead_of.past p.head ahead_of.here

    behind : {e : ℕ} → e ≡ x.start + x.size → Passed d s v.all (join v.xs ahead_of.ys) (i + 1 + e)
    behind {e} ee = let q : i + 1 + ahead_of.past ≡ i + 1 + e = omega (arith, inside.past) in rw q at ahead_of.further

    pub none_turn : {e : ℕ} → e ≡ x.start + x.size → copies_of w ≡ 0 → Spelling d s n t₀ t (i + 1 + e) to
    unfolding count codes
    none_turn {e} ee z =
        let q : ahead_of.ys ≡ end = inside.closes ∙ closed_none w inside.xs z in
        let k : to + 0 ≡ to = omega arith in
        subst (Spelling d s n t₀ t (i + 1 + e)) k (more end (i + 1 + e) (rw q at (behind ee)) t refl low_none (spelt_none to t))

    module _ {k : ℕ} (ek : k ≡ copies_of w) (some : 0 < k) where
      both_facts : (closed_items w inside.xs ≡ times (copies_of w) inside.xs) × (is_string inside.xs ≡ true)
      both_facts = as_times w inside.xs (ap is_string (sym inside.closes) ∙ here_chars p.here) (omega arith)

      ys_are : ahead_of.ys ≡ times k inside.xs
      ys_are = inside.closes ∙ both_facts.0 ∙ ap (λ m. times m inside.xs) (sym ek)

      inner_said : reads (d + 1) I ≡ says inside.xs
      inner_said = opened_run inside

      all_count : n + (count v.xs + k * count inside.xs) ≤ n + count v.all
      all_count =
          let j : count v.all ≡ count v.xs + count ahead_of.ys + count ahead_of.zs =
          ap count ahead_of.rest ∙ count_join (join v.xs ahead_of.ys) ahead_of.zs ∙ ap (λ m. m + count ahead_of.zs) (count_join v.xs ahead_of.ys) in
          let q : count ahead_of.ys ≡ k * count inside.xs = ap count ys_are ∙ count_times k inside.xs in
          omega arith

      pub pattern_room : TextFits (d + 1) I to t
      pattern_room =
          let q = all_count in
          let m = at_least k (count inside.xs) some in
          record { items = inside.xs; said = inner_said; chars = both_facts.1; room = omega arith; few = omega arith }

      module _ {m : ℕ} {t₁ : List ℕ} (l₁ : length t₁ ≡ length t) (g : TextPut (d + 1) I to t t₁ m) where
        same : g.items ≡ inside.xs
        same = let q : says g.items ≡ says inside.xs = sym g.said ∙ inner_said in cc

        upto_is : m ≡ to + count inside.xs
        upto_is = g.upto ∙ ap (λ x. to + count x) same

        pub copies_fit : (to ≤ m) × (to + k * (m - to) ≤ 8 * length t₁) × (to + k * (m - to) ≤ 131072)
        copies_fit =
            let q = all_count in
            let y : m - to ≡ count inside.xs = omega (arith, upto_is) in
            let a : to + k * (m - to) ≤ 8 * length t₁ = rw y (omega arith) in
            let b : to + k * (m - to) ≤ 131072 = rw y (omega arith) in
            (omega (arith, upto_is), a, b)

        pub times_turn : {t₂ : List ℕ} → length t₂ ≡ length t₁ → SpeltAgain to (m - to) k t₁ t₂ → {e : ℕ} → e ≡ x.start + x.size → Spelling d s n t₀ t₂ (i + 1 + e) (to + k * (m - to))
        times_turn {t₂} l₂ q {e} ee =
            let y : m - to ≡ count inside.xs = omega (arith, upto_is) in
            let cs : Spelt to (codes inside.xs) t t₁ = rw same at g.spelt in
            let low : Low (codes inside.xs) = rw same at g.low in
            let lw : Low (codes ahead_of.ys) = subst Low (sym (ap codes ys_are ∙ codes_times k inside.xs)) (low_again k (codes inside.xs) low) in
            let ag : Spelt to (again k (codes inside.xs)) t t₂ =
            λ ds u g f. q ds (codes inside.xs) u g (codes_length inside.xs ∙ sym y) low (cs ds u g f) in
            let sp : Spelt to (codes ahead_of.ys) t t₂ = subst (λ z. Spelt to z t t₂) (sym (ap codes ys_are ∙ codes_times k inside.xs)) ag in
            let cn : count ahead_of.ys ≡ k * (m - to) = ap count ys_are ∙ count_times k inside.xs ∙ ap (λ z. k * z) (sym y) in
            subst (λ z. Spelling d s n t₀ t₂ (i + 1 + e) (to + z)) cn
            (more ahead_of.ys (i + 1 + e) (behind ee) t₂ (l₂ ∙ l₁) lw sp)

-- padding
pub gap_turn : {d : ℕ} {s : List ℕ} {n : ℕ} {t₀ t : List ℕ} {i to e : ℕ} → Spelling d s n t₀ t i to → get_or s i 0 ≡ 0xff
    → (i + 1 ≤ e) × (e ≤ length s) × Between 0xff 0xff (i + 1) e s → Spelling d s n t₀ t e to
unfolding count codes
gap_turn {d} {s} {n} {t₀} {t} {i} {to} {e} v b w =
    let k : to + 0 ≡ to = omega arith in
    let p = padding_says s i e (omega (arith, w.0)) w.1 (between_from 0xff 0xff i e s (omega arith) (omega arith) w.2) in
    subst (Spelling d s n t₀ t e) k (more v end e (passed_piece v.passed p) t refl low_none (spelt_none to t))
