-- A string and the EDT rule, by the rows and by the items that stand there. Assumes nothing.
use mathlib.Core.Path.{◌≡◌, refl, sym, ◌∙◌, ap, ap₂}
use mathlib.Core.List.{List}
use lib.ListN.{length}
use mathlib.Core.Bool.{false}
use Prim.Native.Nat.{ℕ, ◌+◌, ◌<◌}
use native.Mathlib.Omega.{arith}
use lib.Dec.{eqb}
use Rattle.format.specs.Choice.{both, either}
use Rattle.format.specs.Items.{Group, struc, edt, Items, end, leaf, group, leaf_kind, group_kind, all_of, kinds, is_string, starts_int, starts_string, behind, edt_rule}
use Rattle.format.specs.Tables.{rows, is_text, row_kind, leaf_words}
use Rattle.format.proofs.Choices.{eq_true, eq_false, whether, both_no}
use Rattle.format.proofs.TableLaws.{leaf_kind_lem, text_kind, other_kind}
use Rattle.table.specs.Rows.{kind_at, Stands}
use Rattle.table.specs.InOrder.{all_chars, int_at, edt_rows}
use Rattle.table.proofs.RowLaws.{chars_out, chars_in, int_in, int_out, edt_out, edt_in}
use Rattle.table.proofs.Standing.{group_kind_lem, group_rows, text_rows, leaf_parts, group_parts, text_parts}

-- no group is a CHAR, and none an INT
group_other : (g : Group) (c : Items) → (eqb (group_kind g) 3 ≡ false) × (eqb (row_kind g c) 3 ≡ false) × (eqb (row_kind g c) 1 ≡ false)
unfolding group_kind
group_other struc c = let k = group_kind_lem struc c in (refl, eq_false (row_kind struc c) 3 (λ z. omega arith), eq_false (row_kind struc c) 1 (λ z. omega arith))
group_other edt c = let k = group_kind_lem edt c in (refl, eq_false (row_kind edt c) 3 (λ z. omega arith), eq_false (row_kind edt c) 1 (λ z. omega arith))

-- a group stands with its kind in its row
pub group_row : (w : List ℕ) (d p e : ℕ) (g : Group) (c xs : Items) → Stands w d p e (group g c xs) → (kind_at w p ≡ row_kind g c) × (p < e)
group_row w d p e g c xs s =
    whether (is_text g c)
    (λ t. ((text_parts w d p e g c xs t s).0.kind ∙ sym (text_kind g c t).2, omega (arith, s.number, text_rows g c xs t)))
    (λ t. ((group_parts w d p e g c xs t s).kind, omega (arith, s.number, group_rows g c xs t)))

pub string_is : (w : List ℕ) (d p e : ℕ) (xs : Items) → Stands w d p e xs → all_chars w p e ≡ is_string xs
unfolding is_string all_of kinds rows
string_is w d p e end s = chars_out w p e (omega (arith, s.number))
string_is w d p e (leaf l xs) s =
    let k = leaf_parts w d p e l xs s in
    chars_in w p e (omega (arith, s.number)) ∙ ap₂ both (ap (λ z. eqb z 3) k.0.kind) (string_is w (d + length (leaf_words l)) (p + 1) e xs k.1)
string_is w d p e (group g c xs) s =
    let k = group_row w d p e g c xs s in
    let o = group_other g c in
    chars_in w p e k.1 ∙ both_no _ _ (ap (λ z. eqb z 3) k.0 ∙ o.1) ∙ sym (both_no _ _ o.0)

int_is : (w : List ℕ) (d p e : ℕ) (xs : Items) → Stands w d p e xs → int_at w p e ≡ starts_int xs
unfolding starts_int rows
int_is w d p e end s = int_out w p e (omega (arith, s.number))
int_is w d p e (leaf l xs) s =
    let k = leaf_parts w d p e l xs s in
    int_in w p e (omega (arith, s.number)) ∙ ap (λ z. eqb z 1) k.0.kind
int_is w d p e (group g c xs) s =
    let k = group_row w d p e g c xs s in
    int_in w p e k.1 ∙ ap (λ z. eqb z 1) k.0 ∙ (group_other g c).2

-- of the groups, an EDT may begin with a string alone: by the rule, and by the kind of its row
text_begins : (g : Group) (c xs : Items) → edt_rule (group g c xs) ≡ both (is_text g c) (starts_int xs)
unfolding edt_rule either starts_int starts_string behind is_text
text_begins struc c xs = refl
text_begins edt c xs = refl

nine_begins : (g : Group) (c : Items) → either (eqb (row_kind g c) 1) (eqb (row_kind g c) 9) ≡ is_text g c
unfolding either
nine_begins g c =
    rw (group_other g c).2
    (whether (is_text g c) (λ t. eq_true (row_kind g c) 9 (text_kind g c t).2 ∙ sym t) (λ t. eq_false (row_kind g c) 9 (other_kind g c t) ∙ sym t))

pub edt_is : (w : List ℕ) (d p e : ℕ) (xs : Items) → Stands w d p e xs → edt_rows w p e ≡ edt_rule xs
unfolding rows
edt_is w d p e end s = edt_out w p e (omega (arith, s.number)) ∙ unfold edt_rule either starts_int starts_string in refl
edt_is w d p e (leaf l xs) s =
    let k = leaf_parts w d p e l xs s in
    edt_in w p e (omega (arith, s.number))
    ∙ ap₂ (λ j b. both (either (eqb j 1) (eqb j 9)) b) k.0.kind (int_is w _ (p + 1) e xs k.1)
    ∙ ap (λ b. both (either (eqb (leaf_kind l) 1) b) (starts_int xs)) (eq_false (leaf_kind l) 9 (λ z. let n = leaf_kind_lem l in omega arith))
    ∙ unfold edt_rule starts_int starts_string behind in refl
edt_is w d p e (group g c xs) s =
    let h = group_row w d p e g c xs s in
    let first : edt_rows w p e ≡ both (is_text g c) (int_at w (p + 1) e) =
    edt_in w p e h.1 ∙ ap (λ j. both (either (eqb j 1) (eqb j 9)) (int_at w (p + 1) e)) h.0 ∙ ap (λ b. both b (int_at w (p + 1) e)) (nine_begins g c) in
    first
    ∙ whether (is_text g c) (λ t. ap (both (is_text g c)) (int_is w _ (p + 1) e xs (text_parts w d p e g c xs t s).1)) (λ t. both_no _ _ t ∙ sym (both_no _ _ t))
    ∙ sym (text_begins g c xs)
