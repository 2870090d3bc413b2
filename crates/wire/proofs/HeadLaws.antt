-- What the code answers about an object is what its head means, class by class. Assumes nothing.
use Prim.Native.Nat.{ℕ, zero, suc, ◌+◌, ◌-◌, ◌*◌, ◌/◌, ◌%◌, ◌^◌, ◌≤◌, ◌<◌, min}
use mathlib.Core.Path.{◌≡◌, refl, sym, ap, ◌∙◌, subst}
use mathlib.Core.Logic.{◌≢◌}
use mathlib.Core.List.{List, [], ◌∷◌}
use Rattle.std.specs.Prelude.{Result, Ok, Err}
use native.Mathlib.Omega.{arith}
use lib.Count.{count_leading_zeros}
use lib.ListN.{length, take, drop, get_or, length-take, length-drop}
use lib.Seq.{length-take-le, drop-drop, get_or-take}
use lib.IntN.{ℤ, pos, negsuc}
use Rattle.format.specs.declared.Class.{Class}
use Rattle.format.specs.declared.Class.TheVariants as C
use Rattle.format.specs.Numbers.{Bytes, val, twos}
use Rattle.format.specs.Bits.{is_one, spread, bytes_for}
use Rattle.format.specs.declared.fault.Fault.{Fault}
use Rattle.format.specs.declared.fault.Refusal.{Refusal}
use Rattle.format.specs.declared.fault.Refusal.TheVariants.{BadBits, BadRepeat}
use Rattle.format.specs.declared.kinds.Kind.{Kind}
use Rattle.format.specs.declared.kinds.Kind.TheVariants as K
use Rattle.format.specs.Refused.{number_of, meant}
use Rattle.format.specs.Refusals as R
use Rattle.format.specs.Refusals.{here, wants, further}
use Rattle.format.specs.Items.{Leaf, int, bits, char, bool, empty, xtra, one, leaf_kind}
use Rattle.format.specs.Classes.{class_of}
use Rattle.format.specs.Tables.{leaf_a, leaf_b, leaf_words}
use Rattle.format.specs.Objects as O
use Rattle.format.proofs.Choices.{if_lt_yes, if_lt_no, if_eq_yes, if_eq_no}
use Rattle.format.proofs.Digits.{bytes_take}
use Rattle.format.proofs.BitLaws.{bit_is_one, spread_length}
use Rattle.format.proofs.Parts.{drop_take}
use Rattle.format.proofs.Sizes.{contents_length}
use Rattle.format.proofs.TypeBytes.{InClass, following_range}
use Rattle.wire.specs.declared.size.Extent.{Extent}
use Rattle.wire.specs.declared.head.Wrap.{Wrap}
use Rattle.wire.specs.declared.head.Wrap.TheVariants.{Repeat}
use Rattle.wire.specs.declared.head.Count.{Count}
use Rattle.wire.specs.declared.head.Head.{Head}
use Rattle.wire.specs.declared.head.Head.TheVariants.{Gap, Row, Sbits, Lbits, Text, Open}
use Rattle.wire.specs.Heads.{SizedIs, CountedIs, ContainedIs, HeadIs, IsRow, wrap_of, bits_from}
use Rattle.wire.proofs.Sbits.{stream, sbits_is}

-- ---- one byte
pub row_is : (l : Leaf) (k v : ℕ) → leaf_kind l ≡ k → leaf_a l ≡ 0 → ((d : ℕ) → leaf_b d l ≡ v) → leaf_words l ≡ [] → IsRow l k v
row_is l k v a b c d = record { kind = a; first = b; last = c; none = d }

-- a row by a last word that is the same
pub same_row : (s : List ℕ) (h : O.Head) (k : Kind) (v w u : ℕ) → w ≡ v → HeadIs s (Ok (Row k v u)) h → HeadIs s (Ok (Row k w u)) h
same_row s h k v w u e r = subst (λ x. HeadIs s (Ok (Row k x u)) h) (sym e) r

-- the head of a class that its byte tells whole
pub char_row : (d b : ℕ) (s : List ℕ) → HeadIs s (Ok (Row K.Char b 0)) (O.head_by C.Char7 d b s)
unfolding O.head_by leaf_kind leaf_a leaf_b leaf_words
char_row d b s = (char b, refl, row_is (char b) 3 b refl refl (λ e. refl) refl)

int_row : (z : ℤ) (v : ℕ) → twos 8 z ≡ v → IsRow (int z) 1 v
unfolding leaf_kind leaf_a leaf_b leaf_words
int_row z v e = row_is (int z) 1 v refl refl (λ d. e) refl

small_twos : (n : ℕ) → n < 64 → twos 8 (pos n) ≡ n
unfolding twos
small_twos n h = native.Mathlib.Nat.mod-eq_of_lt (let g : n < 256 ^ 8 = omega arith in g)

pub sinteger_row : (d b : ℕ) (s : List ℕ) → InClass b C.Sinteger → HeadIs s (Ok (Row K.Int (b % 64) 0)) (O.head_by C.Sinteger d b s)
unfolding O.head_by
sinteger_row d b s r =
    let e : b - 128 ≡ b % 64 = omega (arith, r.0, r.1) in
    (int (pos (b - 128)), refl, int_row (pos (b - 128)) (b % 64) (ap (λ n. twos 8 (pos n)) e ∙ small_twos (b % 64) (omega arith)))

pub xtra_row : (d b : ℕ) (s : List ℕ) → InClass b C.Xtra → HeadIs s (Ok (Row K.Xtra (b % 4) 0)) (O.head_by C.Xtra d b s)
unfolding O.head_by leaf_kind leaf_a leaf_b leaf_words
xtra_row d b s r = (xtra (b - 0xf8), refl, row_is (xtra (b - 0xf8)) 6 (b % 4) refl refl (λ e. omega (arith, r.0, r.1)) refl)

pub bool_row : (d b : ℕ) (s : List ℕ) → InClass b C.Bool → HeadIs s (Ok (Row K.Bool (b % 2) 0)) (O.head_by C.Bool d b s)
unfolding O.head_by leaf_kind leaf_a leaf_b leaf_words
bool_row d b s r =
    let l : b - 0xfc < 2 = omega (arith, r.0, r.1) in
    let e : b - 0xfc ≡ b % 2 = omega (arith, r.0, r.1) in
    (bool (is_one (b - 0xfc)), refl, row_is (bool (is_one (b - 0xfc))) 4 (b % 2) refl refl (λ d. bit_is_one (b - 0xfc) l ∙ e) refl)

pub empty_row : (d b : ℕ) (s : List ℕ) → HeadIs s (Ok (Row K.Empty 0 0)) (O.head_by C.Empty d b s)
unfolding O.head_by leaf_kind leaf_a leaf_b leaf_words
empty_row d b s = (empty, refl, row_is empty 5 0 refl refl (λ e. refl) refl)

pub padding_gap : (d b : ℕ) (s : List ℕ) → HeadIs s (Ok Gap) (O.head_by C.Padding d b s)
unfolding O.head_by
padding_gap d b s = refl

-- a refusal that the code has made is that of the meaning
pub stopped : (s : List ℕ) (h : O.Head) (x : Fault) (y : R.Fault) → meant x ≡ y → h ≡ O.stop y → HeadIs s (Err x) h
stopped s h x y e p = p ∙ ap O.stop (sym e)

pub reserved_stop : (d b : ℕ) (s : List ℕ) → O.head_by C.Reserved d b s ≡ O.stop (here 4)
unfolding O.head_by
reserved_stop d b s = refl

-- ---- bytes of a number that the type-byte tells
pub past_outer : O.past_end 0 ≡ 2
unfolding O.past_end
past_outer = refl

pub past_inner : (d : ℕ) → d ≢ 0 → O.past_end d ≡ 3
unfolding O.past_end
past_inner zero n = absurd (n refl)
past_inner (suc d) n = refl

pub fixed_stop : (d b k : ℕ) (s : List ℕ) (f : List ℕ → O.Head) (x : R.Fault) → k ≡ O.following b → length s < k → x ≡ wants (O.past_end d) (k - length s)
    → O.fixed d (O.following b) s f ≡ O.stop x
unfolding O.fixed
fixed_stop d b k s f x ek h e = if_lt_yes (length s) (O.following b) _ _ (rw ek at h) ∙ ap O.stop (sym (rw ek at e))

fixed_go : (d k : ℕ) (s : List ℕ) (f : List ℕ → O.Head) → k ≤ length s → O.fixed d k s f ≡ f (take k s)
unfolding O.fixed
fixed_go d k s f h = if_lt_no (length s) k _ _ h

-- the item of an LINTEGER whose bytes are there, and its row
abbrev pub linteger_leaf : ℕ → List ℕ → Leaf
linteger_leaf k s = int (O.integer (take k s))

pub linteger_head_lem : (d b k : ℕ) (s : List ℕ) → k ≡ O.following b → k ≤ length s → O.head_by C.Linteger d b s ≡ O.gives (one (linteger_leaf k s)) k
unfolding O.head_by O.linteger_head
linteger_head_lem d b k s ek h =
    ap (λ j. O.fixed d j s O.linteger_head) (sym ek) ∙ fixed_go d k s O.linteger_head h
    ∙ ap (λ j. O.gives (one (linteger_leaf k s)) j) (length-take-le k s h)

pub linteger_is : (k v : ℕ) (s : List ℕ) → v ≡ twos 8 (O.integer (take k s)) → IsRow (linteger_leaf k s) 1 v
linteger_is k v s ev = int_row (O.integer (take k s)) v (sym ev)

pub linteger_row : (d b k v : ℕ) (s : List ℕ) → k ≡ O.following b → k ≤ length s → v ≡ twos 8 (O.integer (take k s)) → HeadIs s (Ok (Row K.Int v k)) (O.head_by C.Linteger d b s)
linteger_row d b k v s ek h ev = (linteger_leaf k s, linteger_head_lem d b k s ek h, linteger_is k v s ev)

sbitstr_go : (d b k : ℕ) (s : List ℕ) → k ≡ O.following b → k ≤ length s → O.head_by C.Sbitstr d b s ≡ O.sbitstr_head (take k s)
unfolding O.head_by
sbitstr_go d b k s ek h = ap (λ j. O.fixed d j s O.sbitstr_head) (sym ek) ∙ fixed_go d k s O.sbitstr_head h

sbitstr_zero : (p : List ℕ) → get_or p 0 0 ≡ 0 → O.sbitstr_head p ≡ O.stop (here 6)
unfolding O.sbitstr_head
sbitstr_zero [] e = refl
sbitstr_zero (a ∷ p) e = if_eq_yes a 0 _ _ e

sbitstr_bits : (p : List ℕ) → 0 < length p → get_or p 0 0 ≢ 0 → O.sbitstr_head p ≡ O.gives (one (bits (stream p))) (length p)
unfolding O.sbitstr_head
sbitstr_bits [] h n = absurd (omega arith)
sbitstr_bits (a ∷ p) h n = if_eq_no a 0 _ _ n

pub sbitstr_bad : (d b k : ℕ) (s : List ℕ) → k ≡ O.following b → k ≤ length s → get_or s 0 0 ≡ 0 → O.head_by C.Sbitstr d b s ≡ O.stop (here 6)
sbitstr_bad d b k s ek h e =
    sbitstr_go d b k s ek h ∙ sbitstr_zero (take k s) (get_or-take k s 0 0 (omega (arith, (following_range b).0)) ∙ e)

pub sbitstr_sbits : (d b k n v w : ℕ) (s : List ℕ) → Bytes s → k ≡ O.following b → k ≤ length s → get_or s 0 0 ≢ 0 → n ≡ 8 * k - 1 - count_leading_zeros 8 (get_or s 0 0)
    → v ≡ val (take k s) → (n ≡ 0 → w ≡ 0) → (0 < n → w ≡ v * 2 ^ (64 - n) % 2 ^ 64) → HeadIs s (Ok (Sbits n w k)) (O.head_by C.Sbitstr d b s)
sbitstr_sbits d b k n v w s hb ek h z en ev w0 w1 =
    let f = following_range b in
    let e0 : get_or (take k s) 0 0 ≡ get_or s 0 0 = get_or-take k s 0 0 (omega arith) in
    let el : length (take k s) ≡ k = length-take-le k s h in (
      stream (take k s),
      sbitstr_go d b k s ek h ∙ sbitstr_bits (take k s) (omega arith) (λ e. z (sym e0 ∙ e)) ∙ ap (O.gives (one (bits (stream (take k s))))) el,
      sbits_is (take k s) k (get_or s 0 0) n v w (bytes_take k s hb) el (omega arith) (omega arith) (sym e0) z en ev w0 w1,
    )

-- ---- a length or a count
module _ (why : Refusal) (h : ℕ) (s : List ℕ) where
  pub count_absent : (x : Fault) → meant x ≡ here (number_of why) → O.leading s ≡ O.absent → CountedIs why h s (Err x)
  unfolding O.counted
  count_absent x ex e = λ f. rw e (ap O.stop (sym ex))

  pub count_cut : (p k : ℕ) (x : Fault) → meant x ≡ further (1 + h + p) (wants 3 k) → O.leading s ≡ O.cut_int p k → CountedIs why h s (Err x)
  unfolding O.counted
  count_cut p k x ex e = λ f. rw e (ap O.stop (sym ex))

  pub count_negative : (m u : ℕ) (x : Fault) → meant x ≡ here (number_of why) → O.leading s ≡ O.found (negsuc m) u → CountedIs why h s (Err x)
  unfolding O.counted
  count_negative m u x ex e = λ f. rw e (ap O.stop (sym ex))

  pub count_right : (n : Count) → O.leading s ≡ O.found (pos n.number) n.bytes → n.number < 2 ^ 63 → n.bytes ≤ length s → CountedIs why h s (Ok n)
  unfolding O.counted
  count_right n e g l = (λ f. rw e refl, l, g)

-- ---- LBITSTR
lbitstr_odd : (c : List ℕ) (used k u : ℕ) → length (drop u c) ≢ bytes_for k → O.lbitstr c used k u ≡ O.stop (here 6)
unfolding O.lbitstr
lbitstr_odd c used k u q = if_eq_no (length (drop u c)) (bytes_for k) _ _ q

lbitstr_even : (s : List ℕ) (h n k u : ℕ) → length (drop u (O.contents s h n)) ≡ bytes_for k → n - u ≡ bytes_for k
    → O.lbitstr (O.contents s h n) (h + n) k u ≡ O.gives (one (bits (bits_from s (h + u) k))) (h + n)
unfolding O.lbitstr O.contents
lbitstr_even s h n k u q p =
    if_eq_yes (length (drop u (take n (drop h s)))) (bytes_for k) _ _ q
    ∙ ap (λ l. O.gives (one (bits (take k (spread 8 l)))) (h + n))
    (drop_take u n (drop h s) ∙ ap (λ m. take m (drop u (drop h s))) p ∙ ap (take (bytes_for k)) (drop-drop u h s))

-- the bytes that so many bits need, as the library counts them
pub bytes_told : (n q : ℕ) → q ≡ n / 8 + min 1 (n % 8) → q ≡ bytes_for n
unfolding bytes_for
bytes_told n q e = omega arith

-- by the size that the code found
module _ (d : ℕ) (s : List ℕ) (e : Extent) (x : SizedIs d s (Ok e)) where
  lbitstr_in : O.head_by C.Lbitstr d 0xc1 s ≡ O.counted 6 e.start (O.lbitstr (O.contents s e.start e.size) (e.start + e.size)) (O.leading (O.contents s e.start e.size))
  unfolding O.head_by O.lbitstr_head
  lbitstr_in = x.0 _

  pub lbitstr_wrong : (f : Fault) → CountedIs BadBits e.start (O.contents s e.start e.size) (Err f) → HeadIs s (Err f) (O.head_by C.Lbitstr d 0xc1 s)
  lbitstr_wrong f y = lbitstr_in ∙ y _

  -- and the length
  module _ (n : Count) (y : CountedIs BadBits e.start (O.contents s e.start e.size) (Ok n)) where
    behind : length (drop n.bytes (O.contents s e.start e.size)) ≡ e.size - n.bytes
    behind = length-drop n.bytes (O.contents s e.start e.size) ∙ ap (λ m. m - n.bytes) (contents_length s e.start e.size x.1)

    lbitstr_by : O.head_by C.Lbitstr d 0xc1 s ≡ O.lbitstr (O.contents s e.start e.size) (e.start + e.size) n.number n.bytes
    lbitstr_by = lbitstr_in ∙ y.0 _

    pub lbitstr_bad : (f : Fault) → meant f ≡ here 6 → e.size - n.bytes ≢ bytes_for n.number → HeadIs s (Err f) (O.head_by C.Lbitstr d 0xc1 s)
    lbitstr_bad f g p = stopped s _ f (here 6) g (lbitstr_by ∙ lbitstr_odd _ _ _ _ (λ w. p (sym behind ∙ w)))

    pub lbitstr_right : (a u : ℕ) → a ≡ e.start + n.bytes → u ≡ e.start + e.size → e.size - n.bytes ≡ bytes_for n.number → HeadIs s (Ok (Lbits a n.number u)) (O.head_by C.Lbitstr d 0xc1 s)
    lbitstr_right a u ea eu p =
        let l : n.bytes ≤ e.size = omega (arith, y.1, contents_length s e.start e.size x.1) in
        let z = lbitstr_by ∙ lbitstr_even s e.start e.size n.number n.bytes (behind ∙ p) p in
        rw (ea, eu) (z, (let g : e.start + n.bytes + bytes_for n.number ≡ e.start + e.size = omega arith in g), x.1)

pub lbitstr_stop : (d : ℕ) (s : List ℕ) (f : Fault) → SizedIs d s (Err f) → HeadIs s (Err f) (O.head_by C.Lbitstr d 0xc1 s)
unfolding O.head_by O.lbitstr_head
lbitstr_stop d s f x = x _

-- ---- containers
pub contents_shallow : (d : ℕ) (s : List ℕ) (r : Result Extent Fault) → d < 16 → SizedIs d s r → ContainedIs d s r
unfolding O.container
contents_shallow d s (Err f) h x = λ g. if_lt_yes d 16 _ _ h ∙ x g
contents_shallow d s (Ok e) h x = (λ g. if_lt_yes d 16 _ _ h ∙ x.0 g, x.1)

pub contents_deep : (d : ℕ) (s : List ℕ) (x : Fault) → meant x ≡ here 5 → 16 ≤ d → ContainedIs d s (Err x)
unfolding O.container
contents_deep d s x e h = λ f. if_lt_no d 16 _ _ h ∙ ap O.stop (sym e)

-- ---- REPEAT: refused as the outermost object, and else
pub repeat_outer : (s : List ℕ) → O.head_by C.Repeat 0 0xc4 s ≡ O.stop (here 7)
unfolding O.head_by O.repeat_head
repeat_outer s = refl

repeat_inner : (d : ℕ) (s : List ℕ) → d ≢ 0 → O.head_by C.Repeat d 0xc4 s
    ≡ O.container d (O.sized d s (λ h n. O.counted 7 h (λ k u. O.opens (O.repeated k) (h + u) (n - u)) (O.leading (O.contents s h n))))
unfolding O.head_by O.repeat_head
repeat_inner zero s z = absurd (z refl)
repeat_inner (suc d) s z = refl

-- ---- by what the code answered about a container's contents
module _ (d : ℕ) (s : List ℕ) where
  pub string_stop : (f : Fault) → ContainedIs d s (Err f) → HeadIs s (Err f) (O.head_by C.String d 0xc6 s)
  unfolding O.head_by O.string_head
  string_stop f x = x _

  pub string_text : (e : Extent) → ContainedIs d s (Ok e) → HeadIs s (Ok (Text e)) (O.head_by C.String d 0xc6 s)
  unfolding O.head_by O.string_head
  string_text e x = (x.0 _, x.1)

  pub group_stop : (w : Wrap) (f : Fault) → ContainedIs d s (Err f) → HeadIs s (Err f) (O.group_head (wrap_of w) d s)
  unfolding O.group_head
  group_stop w f x = x _

  pub group_open : (w : Wrap) (e : Extent) → ContainedIs d s (Ok e) → HeadIs s (Ok (Open w e)) (O.group_head (wrap_of w) d s)
  unfolding O.group_head
  group_open w e x = (x.0 _, x.1)

  module _ (z : d ≢ 0) where
    pub repeat_stop : (f : Fault) → ContainedIs d s (Err f) → HeadIs s (Err f) (O.head_by C.Repeat d 0xc4 s)
    repeat_stop f x = repeat_inner d s z ∙ x _

    module _ (e : Extent) (x : ContainedIs d s (Ok e)) where
      pub repeat_wrong : (f : Fault) → CountedIs BadRepeat e.start (O.contents s e.start e.size) (Err f) → HeadIs s (Err f) (O.head_by C.Repeat d 0xc4 s)
      repeat_wrong f y = repeat_inner d s z ∙ x.0 _ ∙ y _

      pub repeat_open : (n : Count) (p : Extent) → CountedIs BadRepeat e.start (O.contents s e.start e.size) (Ok n) → p.start ≡ e.start + n.bytes → p.size ≡ e.size - n.bytes
          → HeadIs s (Ok (Open (Repeat n.number) p)) (O.head_by C.Repeat d 0xc4 s)
      unfolding wrap_of
      repeat_open n p y ea en =
          rw (ea, en)
          (repeat_inner d s z ∙ x.0 _ ∙ y.0 _, omega (arith, x.1, y.1, contents_length s e.start e.size x.1))

-- a length or a count lies within its contents
pub count_within : (why : Refusal) (s : List ℕ) (e : Extent) (n : Count) → e.start + e.size ≤ length s → CountedIs why e.start (O.contents s e.start e.size) (Ok n)
    → n.bytes ≤ e.size
count_within why s e n l y = omega (arith, y.1, contents_length s e.start e.size l)

-- the code's arm of a class says what the byte's own head does
pub by_class : (d b : ℕ) (s : List ℕ) (r : Result Head Fault) (c : Class) → c ≡ class_of b → HeadIs s r (O.head_by c d b s) → HeadIs s r (O.head_of d b s)
unfolding O.head_of
by_class d b s r c e h = subst (λ k. HeadIs s r (O.head_by k d b s)) e h

-- an LBITSTR has the bits that it tells, where its bytes are there
pub lbits_length : (s : List ℕ) (a n : ℕ) → a + bytes_for n ≤ length s → length (bits_from s a n) ≡ n
unfolding bytes_for
lbits_length s a n h =
    let l : length (take ((n + 7) / 8) (drop a s)) ≡ (n + 7) / 8 = simp (length-take, length-drop) (omega arith) in
    length-take-le n _ (omega (arith, spread_length 8 (take ((n + 7) / 8) (drop a s))))
