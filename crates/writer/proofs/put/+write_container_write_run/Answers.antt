-- `writer::put::write_container` and `write_run`, which call each other, meet their contracts: the depth still allowed falls at each
-- call of a container. The items up to `p` are written in `n` bytes, and the rest belongs behind them. Assumes nothing.
use Prim.Native.Nat.{ℕ, ◌+◌, ◌-◌, ◌≤◌}
use mathlib.Core.Path.{◌≡◌, refl, sym, ◌∙◌}
use native.Mathlib.Omega.{arith}
use lib.ListN.{length, take, drop}
use mathlib.Core.List.{◌++◌}
use Rattle.format.specs.Normal.{normal_size}
use Rattle.format.proofs.Over.{part_length, back_length}
use Rattle.writer.proofs.WriteLaws.{going_starts, going_ends, LeafTurn, TextTurn, GroupTurn, leaf_turn, text_turn, group_turn, going_leaf, going_text, going_group}
use Rattle.writer.proofs.StretchLaws.{char_byte, int_byte, char_code, going_rows, going_singles}
use Rattle.writer.proofs.ContainerLaws.{HeadRoom, head_room, contents_start, contents_writable, container_done}
use Rattle.writer.proofs.put.+write_container_write_run.Goals as goal
use Rattle.writer.proofs.put.+write_container_write_run.Goals.{write_container-After-size_length-least, write_container-After-write_run-size, write_run-Else-row-eq-STRING, write_run-Then-row-eq-STRING, write_run-Then-row-lt-STRUC}

-- the contents have room behind a type-byte and the fewest size bytes
start_in : (t : ℕ) (c : write_container-After-size_length-least t) → 1 + c.size_length-least.result ≤ length c.args.out.now
start_in t c = contents_start _ _ _ _ _ _ c.requires c.size_length-least.ensures

-- the output as it comes back with them
came_back : (t : ℕ) (c : write_container-After-write_run-size t)
    → length (take (1 + c.size_length-least.result) c.args.out.now ++ (c.write_run-size.new.out
    ++ drop (length c.args.out.now - (1 + c.size_length-least.result)) (drop (1 + c.size_length-least.result) c.args.out.now))) ≡ length c.args.out.now
came_back t c =
    back_length (1 + c.size_length-least.result) c.args.out.now c.write_run-size.new.out (contents_start _ _ _ _ _ _ c.requires c.size_length-least.ensures) c.write_run-size.auto.out

-- the bytes that their size takes
sized : (t : ℕ) (c : write_container-After-write_run-size t) (h : ℕ) → h ≡ length (normal_size c.write_run-size.result)
    → HeadRoom c.args.table.words.now c.args.from c.args.to (length c.args.out.now) c.size_length-least.result c.write_run-size.result h
sized t c h e = head_room _ _ _ _ _ _ c.requires c.size_length-least.ensures _ _ c.write_run-size.ensures.value e

-- the next item is a leaf
leaf_here : (t : ℕ) (c : write_run-Then-row-lt-STRUC t) → LeafTurn c.args.table.words.now c.loop-p.p c.args.to c.loop-p.n c.loop-p.out
leaf_here t c = let row = c.row-row.ensures in leaf_turn c.loop-p.invariant c.loop-p-test.true (omega (arith, row.kind, c.if-row-lt-STRUC.true))

-- it is a string
text_here : (t : ℕ) (c : write_run-Then-row-eq-STRING t) → TextTurn c.args.table.words.now c.loop-p.p c.args.to c.loop-p.n c.loop-p.out
text_here t c = text_turn c.loop-p.invariant c.loop-p-test.true (sym c.row-row.ensures.kind ∙ c.if-row-eq-STRING.true)

-- it is another container
group_here : (t : ℕ) (c : write_run-Else-row-eq-STRING t) → GroupTurn c.args.table.words.now c.loop-p.p c.args.to c.args.depth c.loop-p.n c.loop-p.out
group_here t c =
    let row = c.row-row.ensures in
    group_turn c.loop-p.invariant c.loop-p-test.true (omega (arith, row.kind, c.if-row-lt-STRUC.false)) (λ z. c.if-row-eq-STRING.false (row.kind ∙ z))

pub write_container-overflow_add-start : goal.write_container-overflow_add-start
write_container-overflow_add-start t c = let r = start_in t (goal.at.write_container-overflow_add-start t c).After-size_length-least in omega arith

pub write_container-slice_bounds-write_run-count : goal.write_container-slice_bounds-write_run-count
write_container-slice_bounds-write_run-count t c = let r = start_in t (goal.at.write_container-slice_bounds-write_run-count t c).After-size_length-least in omega arith

pub write_container-slice_bounds-write_run-start : goal.write_container-slice_bounds-write_run-start
write_container-slice_bounds-write_run-start t c = let r = start_in t (goal.at.write_container-slice_bounds-write_run-start t c).After-size_length-least in omega arith

pub write_container-write_run-size-requires : goal.write_container-write_run-size-requires
write_container-write_run-size-requires t c =
    let s = c.requires.shallow in
    (omega arith, contents_writable _ _ _ _ c.args.out.now _ c.requires c.size_length-least.ensures)

pub write_container-overflow_sub-used : goal.write_container-overflow_sub-used
write_container-overflow_sub-used t c = (sized t (goal.at.write_container-overflow_sub-used t c).After-write_run-size _ c.size_length-used.ensures).least

pub write_container-shift-requires : goal.write_container-shift-requires
write_container-shift-requires t c =
    let r = sized t (goal.at.write_container-shift-requires t c).After-write_run-size _ c.size_length-used.ensures in
    omega (arith, r.least, r.room, came_back t (goal.at.write_container-shift-requires t c).After-write_run-size)

pub write_container-put_head-requires : goal.write_container-put_head-requires
write_container-put_head-requires t c =
    let r = sized t (goal.at.write_container-put_head-requires t c).After-write_run-size _ refl in
    omega (arith, r.room, came_back t (goal.at.write_container-put_head-requires t c).After-write_run-size, c.shift.auto.out)

pub write_container-overflow_add-result : goal.write_container-overflow_add-result
write_container-overflow_add-result t c =
    omega (arith, c.put_head.ensures.value, (sized t (goal.at.write_container-overflow_add-result t c).After-write_run-size _ refl).room)

pub write_container-returns-clause-value : goal.write_container-returns-clause-value
write_container-returns-clause-value t c =
    omega (arith, c.put_head.ensures.value, (sized t (goal.at.write_container-returns-clause-value t c).After-write_run-size _ refl).whole)

pub write_container-returns-clause-out_after : goal.write_container-returns-clause-out_after
write_container-returns-clause-out_after t c =
    (container_done _ _ _ _ c.args.out.now _ c.requires c.size_length-least.ensures _ _ _ _ c.write_run-size.new.out _ _
    c.write_run-size.ensures.value c.size_length-used.ensures c.head_byte.ensures c.write_run-size.ensures.out_after c.shift.ensures c.put_head.ensures.out_after).1

-- ---- write_run
pub write_run-loop-p-init : goal.write_run-loop-p-init
write_run-loop-p-init t c = going_starts _ _ _ _ _ c.requires

pub write_run-put_singles-count-requires : goal.write_run-put_singles-count-requires
write_run-put_singles-count-requires t c =
    omega (arith, going_rows c.loop-p.invariant, part_length c.loop-p.n c.loop-p.out, c.rows.ensures.from, c.rows.ensures.to)

pub write_run-put_singles-count-requires-then-row : goal.write_run-put_singles-count-requires-then-row
write_run-put_singles-count-requires-then-row t c =
    omega (arith, going_rows c.loop-p.invariant, part_length c.loop-p.n c.loop-p.out, c.rows-then-row.ensures.from, c.rows-then-row.ensures.to)

pub write_run-loop-p-smaller-then-row-eq-CHAR : goal.write_run-loop-p-smaller-then-row-eq-CHAR
write_run-loop-p-smaller-then-row-eq-CHAR t c =
    let s = c.rows.ensures in
    let a = rw (s.words, s.from, s.to) at c.put_singles-count.ensures.alike in
    let k = sym c.row-row.ensures.kind ∙ c.if-row-eq-CHAR.true in
    omega (arith, a.within, a.moves c.loop-p-test.true k (char_code _ _ _ c.loop-p.invariant.run c.loop-p-test.true k))

pub write_run-loop-p-preserved-then-row-eq-CHAR : goal.write_run-loop-p-preserved-then-row-eq-CHAR
write_run-loop-p-preserved-then-row-eq-CHAR t c =
    let s = c.rows.ensures in
    going_singles c.loop-p.invariant 3 128 0 c.put_singles-count.result c.put_singles-count.new.out (char_byte _) (rw (s.words, s.from, s.to) at c.put_singles-count.ensures.alike) c.put_singles-count.auto.out
    (rw (s.words, s.from) at c.put_singles-count.ensures.out_after)

pub write_run-loop-p-preserved-then-row : goal.write_run-loop-p-preserved-then-row
write_run-loop-p-preserved-then-row t c =
    let s = c.rows-then-row.ensures in
    going_singles c.loop-p.invariant 1 64 0x80 c.put_singles-count-then-row.result c.put_singles-count-then-row.new.out (int_byte _) (rw (s.words, s.from, s.to) at c.put_singles-count-then-row.ensures.alike) c.put_singles-count-then-row.auto.out
    (rw (s.words, s.from) at c.put_singles-count-then-row.ensures.out_after)

pub write_run-put_leaf-n-requires-clause-leaf : goal.write_run-put_leaf-n-requires-clause-leaf
write_run-put_leaf-n-requires-clause-leaf t c =
    ((leaf_here t (goal.at.write_run-put_leaf-n-requires-clause-leaf t c).Then-row-lt-STRUC).step.here, omega (arith, c.requires.within))

pub write_run-put_leaf-n-requires-clause-room : goal.write_run-put_leaf-n-requires-clause-room
write_run-put_leaf-n-requires-clause-room t c =
    omega (arith, (leaf_here t (goal.at.write_run-put_leaf-n-requires-clause-room t c).Then-row-lt-STRUC).room, part_length c.loop-p.n c.loop-p.out)

pub write_run-overflow_add-n-then-row-lt-STRUC : goal.write_run-overflow_add-n-then-row-lt-STRUC
write_run-overflow_add-n-then-row-lt-STRUC t c =
    omega (arith, (leaf_here t (goal.at.write_run-overflow_add-n-then-row-lt-STRUC t c).Then-row-lt-STRUC).room, c.put_leaf-n.ensures.value)

pub write_run-loop-p-preserved-then-row-lt-STRUC : goal.write_run-loop-p-preserved-then-row-lt-STRUC
write_run-loop-p-preserved-then-row-lt-STRUC t c =
    going_leaf c.loop-p.invariant (leaf_here t (goal.at.write_run-loop-p-preserved-then-row-lt-STRUC t c).Then-row-lt-STRUC) c.loop-p-test.true c.put_leaf-n.result c.put_leaf-n.new.out
    c.put_leaf-n.ensures.value c.put_leaf-n.auto.out c.put_leaf-n.ensures.out_after

pub write_run-write_string-n-requires-clause-text : goal.write_run-write_string-n-requires-clause-text
write_run-write_string-n-requires-clause-text t c =
    ((text_here t (goal.at.write_run-write_string-n-requires-clause-text t c).Then-row-eq-STRING).step.here, omega (arith, c.requires.within))

pub write_run-write_string-n-requires-clause-room : goal.write_run-write_string-n-requires-clause-room
write_run-write_string-n-requires-clause-room t c =
    omega (arith, (text_here t (goal.at.write_run-write_string-n-requires-clause-room t c).Then-row-eq-STRING).room, part_length c.loop-p.n c.loop-p.out)

pub write_run-overflow_add-n-then-row-eq-STRING : goal.write_run-overflow_add-n-then-row-eq-STRING
write_run-overflow_add-n-then-row-eq-STRING t c =
    omega (arith, (text_here t (goal.at.write_run-overflow_add-n-then-row-eq-STRING t c).Then-row-eq-STRING).room, c.write_string-n.ensures.value)

pub write_run-loop-p-preserved-then-row-eq-STRING : goal.write_run-loop-p-preserved-then-row-eq-STRING
write_run-loop-p-preserved-then-row-eq-STRING t c =
    going_text c.loop-p.invariant (text_here t (goal.at.write_run-loop-p-preserved-then-row-eq-STRING t c).Then-row-eq-STRING) c.loop-p-test.true c.write_string-n.result c.write_string-n.new.out
    c.write_string-n.ensures.value c.write_string-n.auto.out c.write_string-n.ensures.out_after

pub write_run-overflow_add-next-else-row-eq-STRING : goal.write_run-overflow_add-next-else-row-eq-STRING
write_run-overflow_add-next-else-row-eq-STRING t c =
    let row = c.row-row.ensures in
    omega (arith, (group_here t (goal.at.write_run-overflow_add-next-else-row-eq-STRING t c).Else-row-eq-STRING).step.within)

pub write_run-write_container-n-requires : goal.write_run-write_container-n-requires
write_run-write_container-n-requires t c =
    let r = group_here t (goal.at.write_run-write_container-n-requires t c).Else-row-eq-STRING in
    let w = r.step.within in
    (omega arith, rw c.row-row.ensures.b (record { run = r.step.inside; within = omega (arith, c.requires.within); shallow = r.deep; room = omega (arith, r.room, part_length c.loop-p.n c.loop-p.out) }))

pub write_run-overflow_add-n-else-row-eq-STRING : goal.write_run-overflow_add-n-else-row-eq-STRING
write_run-overflow_add-n-else-row-eq-STRING t c =
    let r = (group_here t (goal.at.write_run-overflow_add-n-else-row-eq-STRING t c).Else-row-eq-STRING).room in
    omega (arith, rw c.row-row.ensures.b at c.write_container-n.ensures.value)

pub write_run-loop-p-preserved : goal.write_run-loop-p-preserved
write_run-loop-p-preserved t c =
    let row = c.row-row.ensures in
    rw row.b
    (going_group c.loop-p.invariant (group_here t (goal.at.write_run-loop-p-preserved t c).Else-row-eq-STRING) c.write_container-n.result c.write_container-n.new.out
    (rw row.b at c.write_container-n.ensures.value) c.write_container-n.auto.out (rw (row.b, row.kind) at c.write_container-n.ensures.out_after))

pub write_run-returns-clause-value : goal.write_run-returns-clause-value
write_run-returns-clause-value t c = (going_ends _ _ _ _ _ _ _ _ c.loop-p.invariant c.loop-p-test.false).0

pub write_run-returns-clause-out_after : goal.write_run-returns-clause-out_after
write_run-returns-clause-out_after t c = (going_ends _ _ _ _ _ _ _ _ c.loop-p.invariant c.loop-p-test.false).1
