-- What a comparing's answer says of the two tables, and of two messages that were read: theorems for the operation, from those over
-- items. Assumes nothing.
use Prim.Native.Nat.{ℕ, ◌+◌}
use native.Mathlib.Omega.{arith}
use mathlib.Core.Path.{◌≡◌, sym, ap, ap₂, ◌∙◌, subst}
use mathlib.Core.Logic.{◌≢◌, ◌↔◌}
use mathlib.Core.Option.{some}
use mathlib.Core.List.{List, [], ◌∷◌}
use lib.ListN.{length, get_or}
use Rattle.format.specs.Numbers.{Bytes}
use Rattle.format.specs.Items.{Items}
use Rattle.format.specs.Tables.{count, table_of}
use Rattle.format.specs.Answers.{over, reading, normalising}
use Rattle.format.proofs.Choices.{whether}
use Rattle.table.proofs.Whole.{whole}
use Rattle.message.specs.Words.{NoneDue, Ready, IsTable, given}
use Rattle.message.proofs.Cases.{read_due, items_of_table, table_of_items}
use Rattle.message.proofs.Demands.{read_table, same_exactly}
use Rattle.compare.specs.Differences.{Difference, difference, changes, answered, differing, comparing}
use Rattle.compare.specs.Places.{row_at, entered, Among, HoldsAt, Apart}
use Rattle.compare.specs.Walks.{BothTables}
use Rattle.compare.proofs.Naming.{named}
use Rattle.compare.proofs.InTables.{row_holds}
use Rattle.compare.proofs.Answering.{changes_are, counts_differ}
use Rattle.compare.proofs.ComparedExactly.{of_tables, nothing_changed}

-- ---- of two tables
abbrev both : (w v : List ℕ) (xs ys : Items) → IsTable w xs → IsTable v ys → BothTables w v
both w v xs ys i j = record { xs = xs; ys = ys; left = items_of_table w xs i; right = items_of_table v ys j }

-- "If the outermost counts differ", which is word 1 of the tables, "that is the one difference, told as row R of each table", which
-- is word 0
pub counts_apart : (w v : List ℕ) (xs ys : Items) → IsTable w xs → IsTable v ys → get_or w 1 0 ≢ get_or v 1 0 → changes xs ys ≡ difference (get_or w 0 0) (get_or v 0 0) ∷ []
counts_apart w v xs ys i j n = let b = both w v xs ys i j in sym (changes_are w v b) ∙ counts_differ w v b n

-- as many outermost items, by the tables' words and by the items
pub counts_alike : (w v : List ℕ) (xs ys : Items) → IsTable w xs → IsTable v ys → get_or w 1 0 ≡ get_or v 1 0 → count xs ≡ count ys
counts_alike w v xs ys i j n = (whole w xs (items_of_table w xs i)).number ∙ n ∙ sym (whole v ys (items_of_table v ys j)).number

-- else each difference names a row of each table, and the items there are not the same and are not gone into
pub rows_apart : (w v : List ℕ) (xs ys : Items) → IsTable w xs → IsTable v ys → get_or w 1 0 ≡ get_or v 1 0 → (c : Difference) → Among c (changes xs ys) → Apart w v c
rows_apart w v xs ys i j n c a =
    let d = named xs ys (counts_alike w v xs ys i j n) c a in
    let u = d.due in
    let p : 0 + row_at d.k d.i xs ≡ row_at d.k d.i xs = omega arith in
    let q : 0 + row_at d.k d.i ys ≡ row_at d.k d.i ys = omega arith in
    let e : c ≡ difference (row_at d.k d.i xs) (row_at d.k d.i ys) = d.is ∙ ap₂ difference p q in
    let h = row_holds w v xs ys (items_of_table w xs i) (items_of_table v ys j) d.k d.i u in
    record {
      x = u.x;
      y = u.y;
      left = subst (λ (z : Difference). HoldsAt w z.left u.x) (sym e) h.0;
      right = subst (λ (z : Difference). HoldsAt v z.right u.y) (sym e) h.1;
      unlike = λ z. u.part.unlike (u.left ∙ ap some z ∙ sym u.right);
      shut = whether (entered u.x u.y) (λ t. absurd (u.part.shut (record { x = u.x; y = u.y; left = u.left; right = u.right; into = t }))) (λ t. t);
    }

-- ---- of two messages that were read
-- what reading lays out is the table of what the message says
its_table : (m t : List ℕ) (xs : Items) → Bytes m → NoneDue m xs (length t) → IsTable (reading m t).table xs
its_table m t xs b d =
    subst (λ (w : List ℕ). IsTable w xs) (sym (ap (λ r. r.table) (read_due m t xs d))) (table_of_items (over (table_of xs) t) xs (read_table m t xs b d))

-- their tables differ in what the messages say
pub read_apart : (m n t u l : List ℕ) (xs ys : Items) → Bytes m → Bytes n → NoneDue m xs (length t) → NoneDue n ys (length u)
    → comparing (reading m t).table (reading n u).table l ≡ differing (changes xs ys) l
read_apart m n t u l xs ys b c d e = of_tables (reading m t).table (reading n u).table l xs ys (its_table m t xs b d) (its_table n u ys c e)

-- demand 3 with the ask in it: nothing has changed exactly when the two normalise to the same bytes
pub same_bytes : (m n t u o p l : List ℕ) (xs ys : Items) → Bytes m → Bytes n → Ready m xs t o → Ready n ys u p
    → (comparing (reading m t).table (reading n u).table l ≡ answered 0 0 l) ↔ (given (normalising m t o) ≡ given (normalising n u p))
same_bytes m n t u o p l xs ys b c r s =
    let f = nothing_changed (reading m t).table (reading n u).table l xs ys (its_table m t xs b r.read) (its_table n u ys c s.read) in
    let g = same_exactly m n t u o p xs ys b c r s in
    (λ e. g.1 (f.0 e), λ e. f.1 (g.0 e))
