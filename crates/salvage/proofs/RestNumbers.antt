-- The number of a dropped rest, by its type-byte. Assumes nothing.
use Prim.Native.Nat.{ℕ, ◌+◌, ◌-◌, ◌≤◌, ◌<◌}
use native.Mathlib.Omega.{arith}
use mathlib.Core.Path.{◌≡◌, refl, sym, ap, ◌∙◌, subst}
use mathlib.Core.Logic.{◌≢◌}
use mathlib.Core.Bool.{Bool, true}
use mathlib.Core.Option.{Option, none, some}
use mathlib.Core.List.{List, ◌∷◌}
use lib.Dec.{eqb}
use lib.ListN.{length, drop}
use Rattle.format.specs.Choice.{if_lt}
use Rattle.format.specs.declared.Class.{Class}
use Rattle.format.specs.declared.Class.TheVariants as C
use Rattle.format.specs.Classes.{class_of}
use Rattle.format.specs.Objects as O
use Rattle.format.specs.Messages.{object, next, reads, outcome}
use Rattle.format.specs.Runs.{object_at}
use Rattle.format.specs.Extents.{extent_by, extent_of}
use Rattle.format.proofs.Choices.{if_lt_yes, if_lt_no, if_eq_no, by_lt, split, below, passes, true_eq}
use Rattle.format.proofs.Steps.{reads_cons}
use Rattle.format.proofs.Extents.{Fits, by_size, extent_fits}
use Rattle.salvage.specs.Mending.{lying, met_by, met_alone}
use Rattle.salvage.specs.Words.{IsRest, rest_number}
use Rattle.salvage.proofs.OwnExtents.{unassigned_class, low_own, high_own}

-- the number by the class
abbrev number_of : Class → ℕ
number_of C.Char7 = 2
number_of C.Sinteger = 2
number_of C.Linteger = 2
number_of C.Sbitstr = 2
number_of C.Lbitstr = 2
number_of C.String = 2
number_of C.Struc = 2
number_of C.Ustruc = 2
number_of C.Edt = 2
number_of C.Repeat = 7
number_of C.Xtra = 2
number_of C.Bool = 2
number_of C.Empty = 2
number_of C.Padding = 2
number_of C.Reserved = 4

-- an extent that is not known does not lie anywhere
none_lies : (s : List ℕ) → lying s none ≡ none
unfolding lying
none_lies s = refl

-- ---- by class: what is met is refused at its type-byte
module _ (b : ℕ) (s : List ℕ) where
  -- refused with the number n at the head
  abbrev Stops : ℕ → O.Head → Type 0
  Stops n (O.stop f) = f.number ≡ n
  Stops n (O.gives xs u) = ⊥
  Stops n (O.opens w h k) = ⊥

  stops_met : (n : ℕ) → Stops n (O.head_of 0 b s) → met_alone (b ∷ s) ≡ n
  unfolding met_alone outcome object_at object next met_by
  stops_met n = go (O.head_of 0 b s) refl
    where
      go : (x : O.Head) → O.head_of 0 b s ≡ x → Stops n x → met_alone (b ∷ s) ≡ n
      go (O.stop f) e i =
          ap met_by (reads_cons 0 b s ∙ ap (λ x. next (object (λ h k. reads 1 (O.contents s h k)) x) (λ u. reads 0 (drop u s))) e) ∙ i
      go (O.gives xs u) e i = absurd i
      go (O.opens w h k) e i = absurd i

  -- an object of fixed length that passes the end
  fixed_past : (k : ℕ) (f : List ℕ → O.Head) → lying s (some (O.size 0 k)) ≡ none → Stops 2 (O.fixed 0 k s f)
  unfolding lying O.fixed O.past_end
  fixed_past k f =
      by_lt (λ (x : Option ℕ). x ≡ none → Stops 2 (O.fixed 0 k s f)) (length s) (0 + k)
      (λ l q. subst (Stops 2) (sym (if_lt_yes (length s) k _ _ (omega arith))) refl)
      (λ l q. let z : ◌≡◌ {A = ℕ} 0 1 = cc in absurd (omega arith))

  -- one with a size
  sized_past : (f : ℕ → ℕ → O.Head) → lying s (some (O.size_of s)) ≡ none → Stops 2 (O.sized 0 s f)
  unfolding O.sized
  sized_past f = go (O.size_of s) (extent_fits by_size s)
    where
      go : (z : O.Size) → Fits s z → lying s (some z) ≡ none → Stops 2 (O.within 0 s f z)
      go (O.cut k) i = unfold lying O.within O.past_end in λ q. refl
      go (O.size h n) i =
          unfold lying O.within O.past_end in
          by_lt (λ (x : Option ℕ). x ≡ none → Stops 2 (O.within 0 s f (O.size h n))) (length s) (h + n)
          (λ l q. subst (Stops 2) (sym (if_lt_yes (length s - h) n _ _ (omega arith))) refl)
          (λ l q. let z : ◌≡◌ {A = ℕ} 0 1 = cc in absurd (omega arith))

  -- one of one byte never does
  byte_lies : ¬ (lying s (some (O.size 0 0)) ≡ none)
  unfolding lying
  byte_lies q =
      let y = sym (if_lt_no (length s) (0 + 0) _ _ (omega arith)) ∙ q in
      let z : ◌≡◌ {A = ℕ} 0 1 = cc in
      omega arith

  past_by : (c : Class) → lying s (extent_by c b s) ≡ none → Stops (number_of c) (O.head_by c 0 b s)
  unfolding extent_by O.head_by O.lbitstr_head O.string_head O.group_head O.repeat_head O.container if_lt
  past_by C.Char7 q = absurd (byte_lies q)
  past_by C.Sinteger q = absurd (byte_lies q)
  past_by C.Linteger q = fixed_past (O.following b) O.linteger_head q
  past_by C.Sbitstr q = fixed_past (O.following b) O.sbitstr_head q
  past_by C.Lbitstr q = sized_past _ q
  past_by C.String q = sized_past _ q
  past_by C.Struc q = sized_past _ q
  past_by C.Ustruc q = sized_past _ q
  past_by C.Edt q = sized_past _ q
  past_by C.Repeat q = refl
  past_by C.Xtra q = absurd (byte_lies q)
  past_by C.Bool q = absurd (byte_lies q)
  past_by C.Empty q = absurd (byte_lies q)
  past_by C.Padding q = absurd (byte_lies q)
  past_by C.Reserved q = refl

-- ---- by type-byte
padding_class : (b : ℕ) → 0x100 ≤ b → class_of b ≡ C.Padding
unfolding class_of
padding_class b l =
    let over : (k : ℕ) → k < 0x100 → b ≢ k = λ k h e. omega arith in
    if_lt_no b 0x80 _ _ (omega arith) ∙ if_lt_no b 0xc0 _ _ (omega arith) ∙ if_eq_no b 0xc0 _ _ (over 0xc0 (omega arith)) ∙ if_eq_no b 0xc1 _ _ (over 0xc1 (omega arith))
    ∙ if_eq_no b 0xc2 _ _ (over 0xc2 (omega arith)) ∙ if_eq_no b 0xc3 _ _ (over 0xc3 (omega arith)) ∙ if_eq_no b 0xc4 _ _ (over 0xc4 (omega arith))
    ∙ if_eq_no b 0xc5 _ _ (over 0xc5 (omega arith)) ∙ if_eq_no b 0xc6 _ _ (over 0xc6 (omega arith)) ∙ if_lt_no b 0xe0 _ _ (omega arith) ∙ if_lt_no b 0xe8 _ _ (omega arith)
    ∙ if_lt_no b 0xf0 _ _ (omega arith) ∙ if_lt_no b 0xf8 _ _ (omega arith) ∙ if_lt_no b 0xfc _ _ (omega arith) ∙ if_lt_no b 0xfe _ _ (omega arith)
    ∙ if_eq_no b 0xfe _ _ (over 0xfe (omega arith))

-- the two tell the same of each byte
abbrev agrees : ℕ → Bool
agrees b = eqb (rest_number b) (number_of (class_of b))

all_agree : below agrees 0x100 ≡ true
unfolding below rest_number class_of
all_agree = refl

by_byte : (b : ℕ) (s : List ℕ) → lying s (extent_of b s) ≡ none → met_alone (b ∷ s) ≡ rest_number b
unfolding extent_of O.head_of extent_by
by_byte b s q =
    split b 0x100
    (λ l. stops_met b s (number_of (class_of b)) (past_by b s (class_of b) q) ∙ sym (true_eq (rest_number b) (number_of (class_of b)) (passes agrees 0x100 all_agree b l)))
    (λ l. absurd (byte_lies b s (ap (λ c. lying s (extent_by c b s)) (sym (padding_class b l)) ∙ q)))

-- the number of a rest: "4 for C0, E8 to EF and for a C7 to DF that passes the end, 7 for a REPEAT that passes the end, else 2"
pub rest_number_lem : (b : ℕ) (s : List ℕ) → IsRest b s → met_alone (b ∷ s) ≡ rest_number b
unfolding extent_of extent_by
rest_number_lem b s e =
    split b 0xc7 (λ l. by_byte b s (ap (lying s) (sym (low_own b s l)) ∙ e))
    (λ l. split b 0xe0 (λ h. by_byte b s (unknown (unassigned_class b l h))) (λ h. by_byte b s (ap (lying s) (sym (high_own b s h)) ∙ e)))
  where
    unknown : class_of b ≡ C.Reserved → lying s (extent_by (class_of b) b s) ≡ none
    unknown x = ap (λ c. lying s (extent_by c b s)) x ∙ none_lies s
