-- The walk meets its contracts; the bytes left fall at each call. The loop's invariant: the rows and the data words of the objects
-- passed stand there. Assumes nothing.
use Rattle.std.proofs.Common.{◌≡◌, ℕ, ◌+◌, true, false, sym, refl, arith, length-drop, length-take}
use Rattle.format.specs.Objects as O
use Rattle.wire.specs.Heads.{wrap_by}
use Rattle.wire.specs.declared.head.Wrap.TheVariants.{Struc}
use Rattle.fill.proofs.PlainLaws.{head_apt}
use Rattle.fill.proofs.ContainerLaws.{Opened, opened, opened_text, opened_shorter, Elements, elements_room, elements_closable, elements_closed, row_room, row_laid}
use Rattle.fill.proofs.ContentLaws.{try_room, string_laid, string_filled, elements, elements_filled, raw_room, raw_laid}
use Rattle.fill.proofs.LaidLaws.{nothing}
use Rattle.fill.proofs.ObjectLaws.{stopped, plain_words_lem, plain_rows_lem, plain_filled, contents, none_filled, open_filled}
use Rattle.fill.proofs.SbitsLaws.{sbits_room, sbits_filled}
use Rattle.fill.proofs.WalkLaws.{WalkInv, walk_start, walk_sums, walk_end, stretch_turn, stretch_stay, here_fits, walk_more}
use Rattle.fill.proofs.ShortLaws.{row_by}
use Rattle.fill.proofs.ShortWalk.{short_end, short_fits, short_more}
use Rattle.fill.proofs.walk.+fill_object_fill_run_fill_short.Goals as goal
use Rattle.fill.proofs.walk.+fill_object_fill_run_fill_short.Goals.{fill_object-After-own_words-own, fill_object-In-Open, fill_object-In-Text, fill_run-Joined-is_non_atomic, fill_run-then-is_non_atomic+in_default, fill_run-else-is_non_atomic+else-l-i, fill_short-In_default}

-- ---- fill_object
-- the container that the head tells of, and the STRING
opened_at : (t : ℕ) (c : fill_object-In-Open t) → Opened false c.args.depth c.args.s.now c.in-Open.w c.in-Open.inner.start c.in-Open.inner.size c.requires.1.items c.requires.1.past
opened_at t c = opened _ _ _ _ _ _ _ (rw c.in-Open.is at c.in-Ok.ensures) c.requires.1.said

text_at : (t : ℕ) (c : fill_object-In-Text t) → Opened true c.args.depth c.args.s.now Struc c.in-Text.inner.start c.in-Text.inner.size c.requires.1.items c.requires.1.past
text_at t c = opened_text _ _ _ _ _ _ (rw c.in-Text.is at c.in-Ok.ensures) c.requires.1.said

-- a container that is no string, by its elements
elements_at : (t : ℕ) (c : fill_object-After-own_words-own t)
    → (o : Opened false c.args.depth c.args.s.now c.in-Open.w c.in-Open.inner.start c.in-Open.inner.size c.requires.1.items c.requires.1.past)
    → let T = c.string_in.new.table in
    Elements (c.args.depth + 1) (O.contents c.args.s.now c.in-Open.inner.start c.in-Open.inner.size) c.in-Open.w o.xs c.args.place.base c.args.place.gap c.own_words-own.result T
    × (T ≡ c.args.table.now)
elements_at t c o =
    let n = c.copies_of.ensures in
    elements (contents c.requires.1 o) (rw c.contents-c.ensures at c.in_default-string_in.ensures) c.own_words-own.ensures (omega arith)

pub fill_object-put_sbits-requires : goal.fill_object-put_sbits-requires
fill_object-put_sbits-requires t c = sbits_room c.requires.1 c.in-Some.ensures

pub fill_object-returns-in-Some : goal.fill_object-returns-in-Some
fill_object-returns-in-Some t c = sbits_filled c.requires.1 c.in-Some.ensures c.put_sbits.ensures

pub fill_object-unreachable-requires : goal.fill_object-unreachable-requires
fill_object-unreachable-requires t c = stopped c.requires.1 _ c.in_default-head_of.ensures

pub fill_object-returns-then-copies_of-eq0 : goal.fill_object-returns-then-copies_of-eq0
fill_object-returns-then-copies_of-eq0 t c =
    let o = opened_at t (goal.at.fill_object-returns-then-copies_of-eq0 t c).In-Open in
    rw (c.past.ensures, nothing _ c.default.ensures) (none_filled c.requires.1 o c.end-e.ensures c.copies_of.ensures c.if-copies_of-eq0.true)

pub fill_object-string_in-requires : goal.fill_object-string_in-requires
fill_object-string_in-requires t c =
    let o = opened_at t (goal.at.fill_object-string_in-requires t c).In-Open in
    let p = c.requires.0 in
    rw c.contents-c.ensures (omega (arith, opened_shorter o), try_room (contents c.requires.1 o))

pub fill_object-returns-in-Some-string_in : goal.fill_object-returns-in-Some-string_in
fill_object-returns-in-Some-string_in t c =
    let f = c.requires.1 in
    let o = opened_at t (goal.at.fill_object-returns-in-Some-string_in t c).In-Open in
    let l = string_laid (contents f o) (rw c.contents-c.ensures at c.in-Some-string_in.ensures) in
    rw (c.past-in-Some-string_in.ensures, c.item.ensures) (open_filled f o refl l c.end-e.ensures)

pub fill_object-inside-requires : goal.fill_object-inside-requires
fill_object-inside-requires t c =
    let k = goal.at.fill_object-inside-requires t c in
    (elements_room (elements_at t k.After-own_words-own (opened_at t k.In-Open)).0).0

pub fill_object-offset_bounds-table-own : goal.fill_object-offset_bounds-table-own
fill_object-offset_bounds-table-own t c =
    let k = goal.at.fill_object-offset_bounds-table-own t c in
    let r = elements_room (elements_at t k.After-own_words-own (opened_at t k.In-Open)).0 in
    omega (arith, r.0, r.2)

pub fill_object-slice_bounds-fill_run-count : goal.fill_object-slice_bounds-fill_run-count
fill_object-slice_bounds-fill_run-count t c =
    let k = goal.at.fill_object-slice_bounds-fill_run-count t c in
    let r = elements_room (elements_at t k.After-own_words-own (opened_at t k.In-Open)).0 in
    omega (arith, r.0, r.1)

pub fill_object-slice_bounds-fill_run-start : goal.fill_object-slice_bounds-fill_run-start
fill_object-slice_bounds-fill_run-start t c =
    let k = goal.at.fill_object-slice_bounds-fill_run-start t c in
    let r = elements_room (elements_at t k.After-own_words-own (opened_at t k.In-Open)).0 in
    omega (arith, r.0, r.1)

pub fill_object-fill_run-f-requires : goal.fill_object-fill_run-f-requires
fill_object-fill_run-f-requires t c =
    let k = goal.at.fill_object-fill_run-f-requires t c in
    let o = opened_at t k.In-Open in
    let p = c.requires.0 in
    let m = c.decreases in
    let q = opened_shorter o in
    let e = elements_room (elements_at t k.After-own_words-own o).0 in
    (rw c.contents-c.ensures (omega arith), rw (c.contents-c.ensures, c.inside.ensures) (omega arith, e.3))

pub fill_object-close-requires : goal.fill_object-close-requires
fill_object-close-requires t c =
    let k = goal.at.fill_object-close-requires t c in
    let e = elements_at t k.After-own_words-own (opened_at t k.In-Open) in
    rw c.data.ensures (elements_closable e.0 (rw (c.contents-c.ensures, c.inside.ensures) at c.fill_run-f.ensures))

pub fill_object-returns-in_default-string_in : goal.fill_object-returns-in_default-string_in
fill_object-returns-in_default-string_in t c =
    let k = goal.at.fill_object-returns-in_default-string_in t c in
    let o = opened_at t k.In-Open in
    let e = elements_at t k.After-own_words-own o in
    let g = rw (c.contents-c.ensures, c.inside.ensures) at c.fill_run-f.ensures in
    let q = rw c.data.ensures at c.close.ensures in
    rw c.past-in-Open.ensures (open_filled c.requires.1 o e.1 (elements_closed e.0 g q.0 q.1) c.end-e.ensures)

pub fill_object-put_bytes-words-requires : goal.fill_object-put_bytes-words-requires
fill_object-put_bytes-words-requires t c =
    rw c.contents.ensures (raw_room (contents c.requires.1 (text_at t (goal.at.fill_object-put_bytes-words-requires t c).In-Text)))

pub fill_object-returns-in-Text : goal.fill_object-returns-in-Text
fill_object-returns-in-Text t c =
    let f = c.requires.1 in
    let o = text_at t (goal.at.fill_object-returns-in-Text t c).In-Text in
    let l = raw_laid (contents f o) (rw c.contents.ensures at c.put_bytes-words.ensures) in
    rw (c.past-in-Text.ensures, c.item-in-Text.ensures) (open_filled f o refl l c.end.ensures)

pub fill_object-put_data-requires : goal.fill_object-put_data-requires
fill_object-put_data-requires t c =
    let h = c.in-Ok in
    let n = c.in_default-h in
    rw c.data-in_default-h.ensures (omega (arith, c.requires.0), head_apt _ h.h _ h.ensures, plain_words_lem c.requires.1 _ n.not-Text n.not-Open h.ensures)

pub fill_object-put_plain-requires : goal.fill_object-put_plain-requires
fill_object-put_plain-requires t c =
    let h = c.in-Ok in
    let n = c.in_default-h in
    let d = c.data-in_default-h.ensures in
    rw d (
      omega (arith, c.requires.0),
      head_apt _ h.h _ h.ensures,
      plain_rows_lem c.requires.1 _ n.not-Text n.not-Open h.ensures (rw d at c.put_data.ensures),
    )

pub fill_object-returns-in_default-h : goal.fill_object-returns-in_default-h
fill_object-returns-in_default-h t c =
    let h = c.in-Ok in
    let n = c.in_default-h in
    let d = c.data-in_default-h.ensures in
    let q = rw d at c.put_plain.ensures in
    plain_filled c.requires.1 _ n.not-Text n.not-Open h.ensures (rw d at c.put_data.ensures) q.0 q.1

-- ---- fill_run
-- both ways on to the object at i leave what stands there as it is
joined : (t : ℕ) (c : fill_run-Joined-is_non_atomic t)
    → WalkInv c.args.depth c.args.s.now c.args.place.base c.args.place.gap c.args.table.now c.if-is_non_atomic.table c.loop-i.i c.loop-i.done.rows c.loop-i.done.count c.loop-i.done.words
joined t c =
    elim c.if-is_non_atomic.branch [
      | fill_run-then-is_non_atomic+in_default w ↦ rw w.table-is c.loop-i.invariant
      | fill_run-else-is_non_atomic+else-l-i w ↦ rw w.table-is (stretch_stay c.loop-i.invariant w.put_stretch-l.ensures w.if-l-i.false)
    ]

pub fill_run-loop-i-init : goal.fill_run-loop-i-init
fill_run-loop-i-init t c = rw (nothing _ c.default-done.ensures) (walk_start c.requires.1)

pub fill_run-fill_short-requires : goal.fill_run-fill_short-requires
fill_run-fill_short-requires t c =
    let v = c.loop-i.invariant in
    let n = short_end v c.loop-i-test.true refl c.in-Some.ensures in
    let p = c.requires in
    let m = c.decreases in
    rw c.behind-behind.ensures
    (simp (length-take, length-drop) (omega arith), (simp (length-take, length-drop) (omega arith), short_fits v c.loop-i-test.true refl c.in-Some.ensures))

pub fill_run-add_assign-requires : goal.fill_run-add_assign-requires
fill_run-add_assign-requires t c =
    let f = walk_sums (short_more c.loop-i.invariant c.loop-i-test.true refl c.in-Some.ensures (rw c.behind-behind.ensures at c.fill_short.ensures)) in
    (omega (arith, f.0), omega (arith, f.0, f.1), omega (arith, f.2))

pub fill_run-loop-i-preserved-in-Some : goal.fill_run-loop-i-preserved-in-Some
fill_run-loop-i-preserved-in-Some t c =
    rw (c.add_assign.ensures.after) (short_more c.loop-i.invariant c.loop-i-test.true refl c.in-Some.ensures (rw c.behind-behind.ensures at c.fill_short.ensures))

pub fill_run-loop-i-preserved-then-l-i : goal.fill_run-loop-i-preserved-then-l-i
fill_run-loop-i-preserved-then-l-i t c =
    rw (c.add_assign-then-l-i.ensures.after, c.small.ensures) (stretch_turn c.loop-i.invariant c.put_stretch-l.ensures)

pub fill_run-fill_object-o-requires : goal.fill_run-fill_object-o-requires
fill_run-fill_object-o-requires t c =
    let v = here_fits (joined t (goal.at.fill_run-fill_object-o-requires t c).Joined-is_non_atomic) c.loop-i-test.true refl in
    let m = c.decreases in
    let p = c.requires.0 in
    rw c.behind-behind-in-loop-i.ensures (simp (length-take, length-drop) (omega arith), (simp (length-take, length-drop) (omega arith), v))

pub fill_run-add_assign-requires-in-loop-i : goal.fill_run-add_assign-requires-in-loop-i
fill_run-add_assign-requires-in-loop-i t c =
    let j = joined t (goal.at.fill_run-add_assign-requires-in-loop-i t c).Joined-is_non_atomic in
    let f = walk_sums (walk_more j c.loop-i-test.true refl (rw c.behind-behind-in-loop-i.ensures at c.fill_object-o.ensures)) in
    (omega (arith, f.0), omega (arith, f.0, f.1), omega (arith, f.2))

pub fill_run-overflow_add-i-in-loop-i : goal.fill_run-overflow_add-i-in-loop-i
fill_run-overflow_add-i-in-loop-i t c =
    let j = joined t (goal.at.fill_run-overflow_add-i-in-loop-i t c).Joined-is_non_atomic in
    let p = c.requires.0 in
    omega (arith, (walk_more j c.loop-i-test.true refl (rw c.behind-behind-in-loop-i.ensures at c.fill_object-o.ensures)).at)

pub fill_run-overflow_add-i-in-loop-i-2 : goal.fill_run-overflow_add-i-in-loop-i-2
fill_run-overflow_add-i-in-loop-i-2 t c =
    let j = joined t (goal.at.fill_run-overflow_add-i-in-loop-i-2 t c).Joined-is_non_atomic in
    let p = c.requires.0 in
    omega (arith, (walk_more j c.loop-i-test.true refl (rw c.behind-behind-in-loop-i.ensures at c.fill_object-o.ensures)).at)

pub fill_run-loop-i-preserved : goal.fill_run-loop-i-preserved
fill_run-loop-i-preserved t c =
    rw c.add_assign-in-loop-i.ensures.after
    (walk_more (joined t (goal.at.fill_run-loop-i-preserved t c).Joined-is_non_atomic) c.loop-i-test.true refl (rw c.behind-behind-in-loop-i.ensures at c.fill_object-o.ensures))

pub fill_run-returns : goal.fill_run-returns
fill_run-returns t c = walk_end c.loop-i.invariant (omega arith)

-- ---- fill_short
-- a container that is no string, by its elements
short_elements_at : (t : ℕ) (c : fill_short-In_default t)
    → let T = c.short_string.new.table in
    Elements (c.args.depth + 1) c.args.c.now (wrap_by c.args.b) c.requires.1.items c.args.place.base c.args.place.gap 3 T × (T ≡ c.args.table.now)
short_elements_at t c =
    let b = row_by c.args.b in
    elements c.requires.1 c.in_default.ensures (sym b.0) (omega (arith, b.1))

pub fill_short-short_string-requires : goal.fill_short-short_string-requires
fill_short-short_string-requires t c = (omega (arith, c.requires.0), try_room c.requires.1)

pub fill_short-returns-in-Some : goal.fill_short-returns-in-Some
fill_short-returns-in-Some t c = rw c.item.ensures (string_filled c.requires.1 c.in-Some.ensures)

pub fill_short-inside-requires : goal.fill_short-inside-requires
fill_short-inside-requires t c = (elements_room (short_elements_at t (goal.at.fill_short-inside-requires t c).In_default).0).0

pub fill_short-slice_bounds-fill_run-count : goal.fill_short-slice_bounds-fill_run-count
fill_short-slice_bounds-fill_run-count t c =
    let r = elements_room (short_elements_at t (goal.at.fill_short-slice_bounds-fill_run-count t c).In_default).0 in
    omega (arith, r.0, r.1)

pub fill_short-slice_bounds-fill_run-start : goal.fill_short-slice_bounds-fill_run-start
fill_short-slice_bounds-fill_run-start t c =
    let r = elements_room (short_elements_at t (goal.at.fill_short-slice_bounds-fill_run-start t c).In_default).0 in
    omega (arith, r.0, r.1)

pub fill_short-fill_run-f-requires : goal.fill_short-fill_run-f-requires
fill_short-fill_run-f-requires t c =
    let e = short_elements_at t (goal.at.fill_short-fill_run-f-requires t c).In_default in
    rw c.inside.ensures (omega (arith, c.decreases), (omega (arith, c.requires.0), (elements_room e.0).3))

pub fill_short-put_group-requires : goal.fill_short-put_group-requires
fill_short-put_group-requires t c =
    let e = short_elements_at t (goal.at.fill_short-put_group-requires t c).In_default in
    row_room e.0 (rw c.inside.ensures at c.fill_run-f.ensures) refl

pub fill_short-returns : goal.fill_short-returns
fill_short-returns t c =
    let e = short_elements_at t (goal.at.fill_short-returns t c).In_default in
    let k = rw c.wrap_by.ensures at c.kind_of.ensures in
    elements_filled c.requires.1 e.1 (row_laid e.0 (rw c.inside.ensures at c.fill_run-f.ensures) refl k c.put_group.ensures)
