-- `compare::walk::Apart::alike` meets its contract: kind, a, and then what the kind asks for. Assumes nothing.
use native.Mathlib.Omega.{arith}
use mathlib.Core.Path.{◌≡◌, refl, sym, ap₂, ◌∙◌}
use Rattle.std.proofs.Common.{rules}
use Prim.Native.Nat.{ℕ, ◌+◌, ◌/◌, ◌%◌, min}
use lib.Dec.{eqb}
use Rattle.table.specs.Rows.{kind_at, a_at}
use Rattle.compare.proofs.RowPairs.{kinds_differ, a_differs, by_bits, by_text, by_plain, by_group}
use Rattle.compare.proofs.Walking.{here_rows, BothKept, here_bits, here_text}
use Rattle.compare.proofs.walk.Apart.alike.Goals as goal
use Rattle.compare.proofs.walk.Apart.alike.Goals.{then-left-right-via-then-left-right, then-left-right-via-else-left-right+then-left-right-2, Else-left-right-2, After-div_ceil, After-div_ceil-in-9}

-- from here on the two rows have one kind and one a
kinds : (c : Else-left-right-2) → kind_at c.args.self.now.left.now c.args.self.now.at.left ≡ kind_at c.args.self.now.right.now c.args.self.now.at.right
kinds c = sym c.row_at-left.ensures.kind ∙ c.if-left-right.false ∙ c.row_at-right.ensures.kind

firsts : (c : Else-left-right-2) → a_at c.args.self.now.left.now c.args.self.now.at.left ≡ a_at c.args.self.now.right.now c.args.self.now.at.right
firsts c = sym c.row_at-left.ensures.a ∙ c.if-left-right-2.false ∙ c.row_at-right.ensures.a

-- the library's word for a quotient that is rounded up
words_told : (n q : ℕ) → q ≡ n / 64 + min 1 (n % 64) → q ≡ (n + 63) / 64
words_told n q e = omega (arith, e)

codes_told : (n q : ℕ) → q ≡ n / 8 + min 1 (n % 8) → q ≡ (n + 7) / 8
codes_told n q e = omega (arith, e)

-- two BITS
bits_kept : (c : After-div_ceil) → BothKept c.args.self.now.left.now c.args.self.now.right.now c.args.self.now.at.left c.args.self.now.at.right c.row_at-left.result.a c.div_ceil.result
bits_kept c = rw (words_told _ _ c.div_ceil.ensures, c.row_at-left.ensures.a) (here_bits c.args.self.now.left.now c.args.self.now.right.now c.args.self.now.at.left c.args.self.now.at.right c.requires (sym c.row_at-left.ensures.kind ∙ c.in-2.is) (sym c.row_at-left.ensures.kind ∙ c.if-left-right.false ∙ c.row_at-right.ensures.kind)
    (sym c.row_at-left.ensures.a ∙ c.if-left-right-2.false ∙ c.row_at-right.ensures.a))

-- two strings
text_kept : (c : After-div_ceil-in-9) → BothKept c.args.self.now.left.now c.args.self.now.right.now c.args.self.now.at.left c.args.self.now.at.right c.row_at-left.result.a c.div_ceil-in-9.result
text_kept c = rw (codes_told _ _ c.div_ceil-in-9.ensures, c.row_at-left.ensures.a) (here_text c.args.self.now.left.now c.args.self.now.right.now c.args.self.now.at.left c.args.self.now.at.right c.requires (sym c.row_at-left.ensures.kind ∙ c.in-9.is) (sym c.row_at-left.ensures.kind ∙ c.if-left-right.false ∙ c.row_at-right.ensures.kind)
    (sym c.row_at-left.ensures.a ∙ c.if-left-right-2.false ∙ c.row_at-right.ensures.a))

pub row_at-right-requires : goal.row_at-right-requires
row_at-right-requires c = let r = (here_rows _ _ _ _ c.requires).right in omega (arith, r.start, r.within)

pub same_data-requires : goal.same_data-requires
same_data-requires c =
    let k = bits_kept (goal.at.same_data-requires c).After-div_ceil in
    record { left_data = k.left; right_data = k.right }

pub same_data-requires-in-9 : goal.same_data-requires-in-9
same_data-requires-in-9 c =
    let k = text_kept (goal.at.same_data-requires-in-9 c).After-div_ceil-in-9 in
    record { left_data = k.left; right_data = k.right }

pub returns-then-left-right : goal.returns-then-left-right
returns-then-left-right c =
    elim c.then-left-right.branch [
      | then-left-right-via-then-left-right w ↦
          kinds_differ _ _ _ _ (λ e. w.if-left-right.true (c.row_at-left.ensures.kind ∙ e ∙ sym c.row_at-right.ensures.kind))
      | then-left-right-via-else-left-right+then-left-right-2 w ↦
          a_differs _ _ _ _ (sym c.row_at-left.ensures.kind ∙ w.if-left-right.false ∙ c.row_at-right.ensures.kind)
          (λ e. w.if-left-right-2.true (c.row_at-left.ensures.a ∙ e ∙ sym c.row_at-right.ensures.a))
    ]

pub returns-in-2 : goal.returns-in-2
returns-in-2 c =
    let e = (goal.at.returns-in-2 c).Else-left-right-2 in
    by_bits c.args.self.now.left.now c.args.self.now.right.now c.args.self.now.at.left c.args.self.now.at.right (kinds e) (firsts e) _ (sym c.row_at-left.ensures.kind ∙ c.in-2.is) (rw (words_told _ _ c.div_ceil.ensures, c.row_at-left.ensures.a) at c.same_data.ensures)

pub returns-in-9 : goal.returns-in-9
returns-in-9 c =
    let e = (goal.at.returns-in-9 c).Else-left-right-2 in
    by_text c.args.self.now.left.now c.args.self.now.right.now c.args.self.now.at.left c.args.self.now.at.right (kinds e) (firsts e) _ (sym c.row_at-left.ensures.kind ∙ c.in-9.is) (rw (codes_told _ _ c.div_ceil-in-9.ensures, c.row_at-left.ensures.a) at c.same_data-in-9.ensures)

pub returns-in_default : goal.returns-in_default
returns-in_default c =
    let e = (goal.at.returns-in_default c).Else-left-right-2 in
    by_plain c.args.self.now.left.now c.args.self.now.right.now c.args.self.now.at.left c.args.self.now.at.right (kinds e) (firsts e) _ (omega (arith, c.row_at-left.ensures.kind)) (search (rules, c.row_at-left.ensures.kind))
    (ap₂ (λ x y. eqb x y) c.row_at-left.ensures.b c.row_at-right.ensures.b)

pub returns-in_default-2 : goal.returns-in_default-2
returns-in_default-2 c =
    let e = (goal.at.returns-in_default-2 c).Else-left-right-2 in
    by_group c.args.self.now.left.now c.args.self.now.right.now c.args.self.now.at.left c.args.self.now.at.right (kinds e) (firsts e) _ (omega (arith, c.row_at-left.ensures.kind)) (search (rules, c.row_at-left.ensures.kind)) refl
