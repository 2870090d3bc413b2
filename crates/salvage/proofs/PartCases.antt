-- The part that bytes begin with, as the code is told it: the rest, an object that is kept, or one that is replaced; and what all comes
-- to then. Assumes nothing.
use Prim.Native.Nat.{ℕ, suc, ◌+◌, ◌≤◌, ◌<◌}
use native.Mathlib.Omega.{arith}
use mathlib.Core.Path.{◌≡◌, sym, ap, ◌∙◌, subst}
use mathlib.Core.Logic.{◌≢◌}
use mathlib.Core.Option.{Option, none, some}
use Rattle.std.specs.Prelude.{Some, None, Ok, Err}
use mathlib.Core.List.{List, [], ◌∷◌, ◌++◌}
use lib.ListN.{length, take, drop, length-drop, take-append-drop}
use lib.Seq.{length-take-le}
use Rattle.format.specs.Items.{Items, one, empty, join}
use Rattle.format.specs.Messages.{says, outcome}
use Rattle.format.specs.Tables.{rows, data_words}
use Rattle.format.proofs.Counts.{rows_join, words_join}
use Rattle.format.proofs.Growing.{says_joined}
use Rattle.salvage.specs.Mending.{own_extent, lying, met_alone, mended, change}
use Rattle.salvage.specs.declared.parts.Amount.{Amount}
use Rattle.salvage.specs.Words.{said}
use Rattle.salvage.specs.Told.{bytes_told, met_of, object_in, SoundFront, BadFront, BadRest}
use Rattle.salvage.proofs.PartLaws.{lies_within, by_part, mended_rest, mended_bad, changes_at, changes_rest, changes_bad}
use Rattle.salvage.proofs.MendedLaws.{met_says, empty_says, mended_says}
use Rattle.salvage.proofs.Sound.{sound_mended, sound_changes}
use Rattle.salvage.proofs.Verdicts.{verdict_number, verdict_met, verdict_amount, few_sound, said_is}

-- ---- what is told of it
-- its number
number_of : (o : List ℕ) (k : ℕ) → met_of (outcome o) ≡ Err k → met_alone o ≡ k
unfolding met_alone
number_of o k e = verdict_number (outcome o) k e

pub sound_met : (o : List ℕ) (a : Amount) → met_of (outcome o) ≡ Ok a → met_alone o ≡ 0
unfolding met_alone
sound_met o a e = verdict_met (outcome o) a e

bad_met : (o : List ℕ) (k : ℕ) → met_of (outcome o) ≡ Err k → met_alone o ≢ 0
bad_met o k e z =
    let x = met_says o z in
    let q : met_of (says x.0) ≡ Err k = ap met_of (sym x.1) ∙ e in
    absurd (few_sound x.0 k x.2 x.3 q)

-- n bytes, of an object that stands at the front
told_none : (x : Option ℕ) (n : ℕ) → bytes_told x ≡ Some n → x ≡ none → ⊥
unfolding bytes_told
told_none x n q e = let i : bytes_told none ≡ Some n = ap bytes_told (sym e) ∙ q in cc

told_some : (x : Option ℕ) (n u : ℕ) → bytes_told x ≡ Some n → x ≡ some u → n ≡ suc u
unfolding bytes_told
told_some x n u q e = let i : bytes_told (some u) ≡ Some n = ap bytes_told (sym e) ∙ q in cc

pub by_object : (b : ℕ) (s : List ℕ) (n : ℕ) {X : Type 0} → object_in (b ∷ s) ≡ Some n → ((u : ℕ) → n ≡ suc u → lying s (own_extent b s) ≡ some u → X) → X
unfolding object_in
by_object b s n q f = by_part b s (λ e. absurd (told_none _ n q e)) (λ u e. f u (told_some _ n u q e) e)

told_past : (x : Option ℕ) (u : ℕ) → bytes_told x ≡ None → x ≡ some u → ⊥
unfolding bytes_told
told_past x u q e = let i : bytes_told (some u) ≡ None = ap bytes_told (sym e) ∙ q in cc

pub by_rest : (b : ℕ) (s : List ℕ) → object_in (b ∷ s) ≡ None → lying s (own_extent b s) ≡ none
unfolding object_in
by_rest b s q = by_part b s (λ e. e) (λ u e. absurd (told_past _ u q e))

-- it lies within the bytes
pub bad_fits : (l : List ℕ) (n : ℕ) → object_in l ≡ Some n → n ≤ length l
unfolding object_in
bad_fits [] n q = absurd (cc)
bad_fits (b ∷ s) n q = by_object b s n q (λ u i e. omega (arith, lies_within s _ u e))

pub bad_upto : (m : List ℕ) (p n k : ℕ) → BadFront (drop p m) n k → p ≤ length m → p + n ≤ length m
bad_upto m p n k f h = omega (arith, bad_fits (drop p m) n f.object, length-drop p m)

-- ---- the rows and data words of messages end to end
abbrev pub rows_in : List ℕ → ℕ
rows_in m = rows (said m)

abbrev pub words_in : List ℕ → ℕ
words_in m = length (data_words (said m))

joined_rows : (a m : List ℕ) (xs : Items) → outcome a ≡ says xs
    → (rows_in (a ++ mended m) ≡ rows xs + rows_in (mended m)) × (words_in (a ++ mended m) ≡ length (data_words xs) + words_in (mended m))
joined_rows a m xs e =
    let y = mended_says m in
    let k : said (a ++ mended m) ≡ join xs (said (mended m)) =
    said_is (a ++ mended m) (join xs y.0) (says_joined a (mended m) xs y.0 e y.1) ∙ ap (join xs) (sym (said_is (mended m) y.0 y.1)) in
    (ap rows k ∙ rows_join xs (said (mended m)), ap (λ z. length (data_words z)) k ∙ words_join xs (said (mended m)))

-- ---- the bytes l stand at p
-- they are dropped
pub record Lost (l : List ℕ) (p k : ℕ) : Type 0 where
  pub out : mended l ≡ []
  pub listed : changes_at p l ≡ change p l ∷ []
  pub number : k ≡ met_alone l

pub lost : (l : List ℕ) (p k : ℕ) → 0 < length l → BadRest l k → Lost l p k
lost [] p k h f = absurd (omega arith)
lost (b ∷ s) p k h f =
    let e = by_rest b s f.object in
    record { out = mended_rest b s e; listed = changes_rest p b s e; number = sym (number_of (b ∷ s) k f.bad) }

-- n of them are kept
pub record Kept (l : List ℕ) (p n : ℕ) (a : Amount) : Type 0 where
  pub fits : n ≤ length l
  pub some_bytes : 0 < n
  pub out : mended l ≡ take n l ++ mended (drop n l)
  pub listed : changes_at p l ≡ changes_at (p + n) (drop n l)
  pub rows_are : rows_in (mended l) ≡ a.rows + rows_in (mended (drop n l))
  pub words_are : words_in (mended l) ≡ a.words + words_in (mended (drop n l))
  pub few_rows : a.rows ≤ 16384
  pub few_words : a.words ≤ 16384

pub kept : (l : List ℕ) (p n : ℕ) (a : Amount) → SoundFront l n a → Kept l p n a
kept l p n a f =
    let o : List ℕ = take n l in
    let e : List ℕ = drop n l in
    let z : met_alone o ≡ 0 = sound_met o a f.sound in
    let t : length o ≡ n = length-take-le n l f.fits in
    let w : l ≡ o ++ e = sym (take-append-drop n l) in
    let x = met_says o z in
    let v = verdict_amount (outcome o) x.0 a x.1 f.sound in
    let k : mended l ≡ o ++ mended e = ap mended w ∙ sound_mended o e z in
    let j = joined_rows o e x.0 x.1 in
    record {
      fits = f.fits;
      some_bytes = f.some_bytes;
      out = k;
      listed = ap (changes_at p) w ∙ sound_changes p o e z ∙ ap (λ y. changes_at (p + y) e) t;
      rows_are = ap rows_in k ∙ j.0 ∙ ap (λ y. y + rows_in (mended e)) (sym v.0);
      words_are = ap words_in k ∙ j.1 ∙ ap (λ y. y + words_in (mended e)) (sym v.1);
      few_rows = omega (arith, x.2, v.0);
      few_words = omega (arith, x.3, v.1);
    }

-- an object of n of them is replaced
pub record Replaced (l : List ℕ) (p n k : ℕ) : Type 0 where
  pub fits : n ≤ length l
  pub some_bytes : 0 < n
  pub out : mended l ≡ 0xfe ∷ mended (drop n l)
  pub listed : changes_at p l ≡ change p (take n l) ∷ changes_at (p + n) (drop n l)
  pub number : k ≡ met_alone (take n l)
  pub rows_are : rows_in (mended l) ≡ 1 + rows_in (mended (drop n l))
  pub words_are : words_in (mended l) ≡ words_in (mended (drop n l))

replaced_by : (b : ℕ) (s : List ℕ) (u p k : ℕ) → lying s (own_extent b s) ≡ some u → met_of (outcome (b ∷ take u s)) ≡ Err k
    → Replaced (b ∷ s) p (suc u) k
unfolding rows data_words
replaced_by b s u p k e w =
    let n : met_alone (b ∷ take u s) ≢ 0 = bad_met (b ∷ take u s) k w in
    let j = joined_rows (0xfe ∷ []) (drop u s) (one empty) empty_says in
    let i = mended_bad b s u e n in
    record {
      fits = omega (arith, lies_within s _ u e);
      some_bytes = omega arith;
      out = i;
      listed = changes_bad p b s u e n;
      number = sym (number_of (b ∷ take u s) k w);
      rows_are = ap rows_in i ∙ j.0;
      words_are = omega (arith, ap words_in i, j.1);
    }

pub replaced : (l : List ℕ) (p n k : ℕ) → BadFront l n k → Replaced l p n k
unfolding object_in
replaced [] p n k f = let z = f.object in absurd (cc)
replaced (b ∷ s) p n k f =
    by_object b s n f.object (λ u i e.
    subst (λ x. Replaced (b ∷ s) p x k) (sym i) (replaced_by b s u p k e (ap (λ x. met_of (outcome (take x (b ∷ s)))) (sym i) ∙ f.bad)))

pub bad_some : (m : List ℕ) (p n k : ℕ) → BadFront (drop p m) n k → 0 < n
bad_some m p n k f = (replaced (drop p m) p n k f).some_bytes
