-- No message without repeats is shorter than the normal form of what it says. Assumes nothing.
use mathlib.Core.Path.{◌≡◌, refl, sym, ap, ◌∙◌, subst}
use Prim.Native.Nat.{ℕ, zero, suc, ◌+◌, ◌-◌, ◌^◌, ◌≤◌, ◌<◌}
use native.Mathlib.Omega.{arith}
use mathlib.Core.Logic.{◌≢◌}
use mathlib.Core.Bool.{Bool, true, false}
use mathlib.Core.List.{List, [], ◌∷◌}
use lib.ListN.{length, take, drop, length-drop}
use lib.Seq.{length-take-le}
use lib.IntN.{pos}
use lib.Pow.{pow_mono}
use Rattle.format.specs.Choice.{pick, both}
use Rattle.format.specs.Numbers.{Bytes, val}
use Rattle.format.specs.Bits.{num, spread, bytes_for, after_marker}
use Rattle.format.specs.Refusals.{Fault}
use Rattle.format.specs.Items.{Leaf, int, bits, char, empty, xtra, Group, struc, edt, Items, end, group, one, uniform, edt_rule}
use Rattle.format.specs.declared.Class.{Class}
use Rattle.format.specs.declared.Class.TheVariants.{Char7, Sinteger, Linteger, Sbitstr, Lbitstr, String, Struc, Ustruc, Edt, Repeat, Xtra, Bool as Boolean, Empty, Padding, Reserved}
use Rattle.format.specs.Classes.{class_of}
use Rattle.format.specs.Objects.{Wrap, as_struc, as_ustruc, as_edt, repeated, Head, stop, gives, opens, following, integer, contents, characters, group_head, head_by, head_of}
use Rattle.format.specs.Messages.{Outcome, refused, says, Object, bad, got, closing, around, object, onto, next, run, reads, outcome, is_repeat, plain_object, plain_run, without_repeats}
use Rattle.format.specs.Normal.{normal_size, normal_int, normal_leaf, normal}
use Rattle.format.proofs.Choices.{split, by_pick, both_left, both_right}
use Rattle.format.proofs.Digits.{bytes_take, bytes_drop, pow_le, val_lt, val_pos}
use Rattle.format.proofs.BitLaws.{spread_length, bytes_enough}
use Rattle.format.proofs.Marker.{num_spread, marked, marker_ge}
use Rattle.format.proofs.Sizes.{size_mono, contents_length, contents_bytes}
use Rattle.format.proofs.TypeBytes.{InClass, in_class, following_range}
use Rattle.format.proofs.ItemLaws.{length_end, length_leaf, length_group, length_join}
use Rattle.format.proofs.Shortest.{small_shortest, integer_shortest, marked_shortest, counted_shortest}
use Rattle.format.proofs.HeadCases.{FaultWithin, by_linteger, by_sbitstr, by_lbitstr, by_string, by_group, by_repeat}
use Rattle.format.proofs.ReadProper.{WhereSaid}

-- ---- what one object gives by itself: within the bytes behind its type-byte, and not shorter than the normal form
abbrev Brief : List ℕ → Head → Type 0
Brief s (stop f) = Unit {0}
Brief s (gives xs u) = (u ≤ length s) × (length (normal xs) ≤ suc u)
Brief s (opens w h n) = (h + n ≤ length s) × (length (normal_size n) ≤ h)

brief_stop : (d : ℕ) (s : List ℕ) (f : Fault) → FaultWithin d (length s) f → Brief s (stop f)
brief_stop d s f w = tt

brief_leaf : (s : List ℕ) (l : Leaf) (u : ℕ) → u ≤ length s → length (normal_leaf l) ≤ suc u → Brief s (gives (one l) u)
brief_leaf s l u h g = (h, omega (arith, length_leaf l end, length_end))

-- a group whose elements fit, in the normal form, contents of n bytes behind a size of h bytes
group_brief : (g : Group) (c : Items) (h n : ℕ) → length (normal_size n) ≤ h → length (normal c) ≤ n → length (normal (group g c end)) ≤ suc (h + n)
group_brief g c h n a b = omega (arith, length_group g c end, length_end, size_mono (length (normal c)) n b)

-- the bits behind a marker in up to eight bytes
marked_brief : (b : ℕ) (p : List ℕ) → Bytes (b ∷ p) → b ≢ 0 → length (b ∷ p) ≤ 8
    → length (normal_leaf (bits (after_marker (spread 8 (b ∷ p))))) ≤ suc (length (b ∷ p))
unfolding normal_leaf
marked_brief b p h z l =
    let bs = after_marker (spread 8 (b ∷ p)) in
    let n : num (spread 8 (b ∷ p)) ≡ val (b ∷ p) = num_spread (b ∷ p) h in
    let v : num (true ∷ bs) ≡ val (b ∷ p) = marked (spread 8 (b ∷ p)) (omega (arith, val_pos b p z)) ∙ n in
    let t : num (true ∷ bs) < 256 ^ length (b ∷ p) = omega (arith, val_lt (b ∷ p) h) in
    let k : length bs < 64 = split (length bs) 64 (λ q. q) (λ q. absurd (omega (arith, marker_ge bs, pow_mono q, pow_le l))) in
    marked_shortest bs (length (b ∷ p)) k (omega arith) t

-- k bits in bytes that are exactly enough for them, behind a length of u bytes
counted_brief : (s c : List ℕ) (h n k u : ℕ) → h + n ≤ length s → length (normal_size n) ≤ h → length c ≡ n → u ≤ length c
    → length (normal_int (pos k)) ≤ u → length (drop u c) ≡ bytes_for k → Brief s (gives (one (bits (take k (spread 8 (drop u c))))) (h + n))
unfolding normal_leaf
counted_brief s c h n k u a b e f g q =
    let bs = take k (spread 8 (drop u c)) in
    let l : length bs ≡ k = length-take-le k (spread 8 (drop u c)) (omega (arith, spread_length 8 (drop u c), bytes_enough k)) in
    let i : length (normal_int (pos (length bs))) ≤ u = rw l g in
    let y : bytes_for (length bs) ≡ bytes_for k = ap bytes_for l in
    brief_leaf s (bits bs) (h + n) a (counted_shortest bs u n h i (omega (arith, length-drop u c)) b)

characters_length : (s : List ℕ) → length (normal (characters s)) ≡ length s
unfolding characters normal normal_leaf
characters_length [] = refl
characters_length (b ∷ s) = ap suc (characters_length s)

module _ (d : ℕ) (s : List ℕ) (b : Bytes s) where
  brief_linteger : (k : ℕ) → 0 < k → k ≤ length s → Brief s (gives (one (int (integer (take k s)))) (length (take k s)))
  unfolding normal_leaf
  brief_linteger k p h =
      let e : length (take k s) ≡ k = length-take-le k s h in
      brief_leaf s (int (integer (take k s))) (length (take k s)) (omega arith) (integer_shortest (take k s) (bytes_take k s b) (omega arith))

  brief_sbitstr : (k x : ℕ) (p : List ℕ) → k ≤ 8 → k ≤ length s → take k s ≡ x ∷ p → x ≢ 0 → Brief s (gives (one (bits (after_marker (spread 8 (x ∷ p))))) (length (x ∷ p)))
  brief_sbitstr k x p l h e z =
      let n : length (x ∷ p) ≡ k = ap length (sym e) ∙ length-take-le k s h in
      brief_leaf s (bits (after_marker (spread 8 (x ∷ p)))) (length (x ∷ p)) (omega arith) (marked_brief x p (rw e at (bytes_take k s b)) z (omega arith))

  brief_group : (w : Wrap) → Brief s (group_head w d s)
  brief_group w = by_group (Brief s) d s (brief_stop d s) w (λ l h n a g. (a, g b))

brief_by : (c : Class) (d b : ℕ) (s : List ℕ) → Bytes s → InClass b c → Brief s (head_by c d b s)
unfolding head_by
brief_by Char7 d b s h r = brief_leaf s (char b) 0 (omega arith) (unfold normal_leaf in omega arith)
brief_by Sinteger d b s h r = brief_leaf s _ 0 (omega arith) (unfold normal_leaf in small_shortest (b - 0x80) (omega arith))
brief_by Linteger d b s h r = by_linteger (Brief s) d s (brief_stop d s) b (brief_linteger d s h (following b) (following_range b).0)
brief_by Sbitstr d b s h r =
    by_sbitstr (Brief s) d s (brief_stop d s) b (λ l x p e z. brief_sbitstr d s h (following b) x p (following_range b).1 l e z)
brief_by Lbitstr d b s h r =
    by_lbitstr (Brief s) d s (brief_stop d s)
    (λ i n a g k u e f q. counted_brief s (contents s i n) i n k u a (g h) (contents_length s i n a) e (f (contents_bytes s i n h)) q)
brief_by String d b s h r =
    by_string (Brief s) d s (brief_stop d s)
    (λ l i n a g. let c = contents s i n in (a, group_brief struc (characters c) i n (g h) (omega (arith, characters_length c, contents_length s i n a))))
brief_by Struc d b s h r = brief_group d s h as_struc
brief_by Ustruc d b s h r = brief_group d s h as_ustruc
brief_by Edt d b s h r = brief_group d s h as_edt
brief_by Repeat d b s h r =
    by_repeat (Brief s) d s (brief_stop d s)
    (λ l i n a g k u e f.
    let c : length (contents s i n) ≡ n = contents_length s i n a in
    (omega arith, omega (arith, g h, size_mono (n - u) n (omega arith))))
brief_by Xtra d b s h r = brief_leaf s (xtra (b - 0xf8)) 0 (omega arith) (unfold normal_leaf in omega arith)
brief_by Boolean d b s h r = brief_leaf s _ 0 (omega arith) (unfold normal_leaf in omega arith)
brief_by Empty d b s h r = brief_leaf s empty 0 (omega arith) (unfold normal_leaf in omega arith)
brief_by Padding d b s h r = (omega arith, omega (arith, length_end))
brief_by Reserved d b s h r = tt

brief : (d b : ℕ) (s : List ℕ) → Bytes s → Brief s (head_of d b s)
unfolding head_of
brief d b s h = brief_by (class_of b) d b s h (in_class b)

-- ---- what an object gives, its contents read, where what is `after` it has no repeats
abbrev Got : List ℕ → (ℕ → Bool) → Object → Type 0
Got s after (bad f) = Unit {0}
Got s after (got xs u) = (after u ≡ true) × (u ≤ length s) × (length (normal xs) ≤ suc u)

-- items of at most n bytes in the normal form
abbrev Short : ℕ → Items → Type 0
Short n xs = length (normal xs) ≤ n

got_around : (w : Wrap) (h n : ℕ) (s : List ℕ) (after : ℕ → Bool) (o : Outcome) → is_repeat w ≡ false → after (h + n) ≡ true
    → Brief s (opens w h n) → WhereSaid (Short n) o → Got s after (around w h n o)
unfolding around closing is_repeat
got_around w h n s after (refused f) p a g r = tt
got_around as_struc h n s after (says xs) p a g r = (a, g.0, group_brief struc xs h n g.1 r)
got_around as_ustruc h n s after (says xs) p a g r = by_pick (Got s after) (uniform xs) (λ e. (a, g.0, group_brief struc xs h n g.1 r)) (λ e. tt)
got_around as_edt h n s after (says xs) p a g r = by_pick (Got s after) (edt_rule xs) (λ e. (a, g.0, group_brief edt xs h n g.1 r)) (λ e. tt)
got_around (repeated k) h n s after (says xs) p a g r = let z : ◌≡◌ {A = ℕ} 0 1 = cc in absurd (omega arith)

plain_parts : (t a b : Bool) → pick t false (both a b) ≡ true → (t ≡ false) × (a ≡ true) × (b ≡ true)
unfolding pick
plain_parts true a b e = let z : ◌≡◌ {A = ℕ} 0 1 = cc in absurd (omega arith)
plain_parts false a b e = (refl, both_left a b e, both_right a b e)

got_object : (s : List ℕ) (inside : ℕ → ℕ → Outcome) (within : ℕ → ℕ → Bool) (after : ℕ → Bool) (x : Head) → Brief s x
    → ((h n : ℕ) → within h n ≡ true → WhereSaid (Short (length (contents s h n))) (inside h n)) → plain_object within after x ≡ true
    → Got s after (object inside x)
unfolding object plain_object
got_object s inside within after (stop f) g r p = tt
got_object s inside within after (gives xs u) g r p = (p, g.0, g.1)
got_object s inside within after (opens w h n) g r p =
    let q = plain_parts (is_repeat w) (within h n) (after (h + n)) p in
    got_around w h n s after (inside h n) q.0 q.2 g (rw (contents_length s h n g.0) at (r h n q.1))

short_onto : (u n : ℕ) (s : List ℕ) (xs : Items) (o : Outcome) → u ≤ length s → length (normal xs) ≤ suc u → WhereSaid (Short (length (drop u s))) o
    → WhereSaid (Short (suc (length s))) (onto xs n o)
unfolding onto
short_onto u n s xs (refused f) h g r = tt
short_onto u n s xs (says ys) h g r = omega (arith, length_join xs ys, length-drop u s)

short_next : (s : List ℕ) (rest : ℕ → Outcome) (after : ℕ → Bool) (x : Object) → Got s after x
    → ((u : ℕ) → after u ≡ true → WhereSaid (Short (length (drop u s))) (rest u)) → WhereSaid (Short (suc (length s))) (next x rest)
unfolding next
short_next s rest after (bad f) g r = tt
short_next s rest after (got xs u) g r = short_onto u (1 + u) s xs (rest u) g.1 g.2 (r u g.0)

-- ---- what a run says
short_run : (f d : ℕ) (s : List ℕ) → Bytes s → plain_run f d s ≡ true → WhereSaid (Short (length s)) (run f d s)
unfolding run plain_run
short_run zero d s b p = omega (arith, length_end)
short_run (suc f) d [] b p = omega (arith, length_end)
short_run (suc f) d (x ∷ s) b p =
    let inside : ℕ → ℕ → Outcome = λ h n. run f (suc d) (contents s h n) in
    let within : ℕ → ℕ → Bool = λ h n. plain_run f (suc d) (contents s h n) in
    let after : ℕ → Bool = λ u. plain_run f d (drop u s) in
    short_next s (λ u. run f d (drop u s)) after (object inside (head_of d x s))
    (got_object s inside within after (head_of d x s) (brief d x s b.1)
    (λ h n q. short_run f (suc d) (contents s h n) (contents_bytes s h n b.1) q) p)
    (λ u q. short_run f d (drop u s) (bytes_drop u s b.1) q)

pub minimal : (m : List ℕ) (xs : Items) → Bytes m → outcome m ≡ says xs → without_repeats m ≡ true → length (normal xs) ≤ length m
unfolding outcome reads without_repeats
minimal m xs b e p = subst (WhereSaid (Short (length m))) e (short_run (length m) 0 m b p)
