-- What comes out says, part by part: each object that is copied its items, each that is replaced an EMPTY, the rest nothing. Assumes
-- nothing.
use Prim.Native.Nat.{ℕ}
use mathlib.Core.Path.{sym, ap, ◌∙◌}
use mathlib.Core.List.{List, [], ◌∷◌}
use lib.ListN.{take, drop}
use Rattle.format.specs.Items.{one, empty, join}
use Rattle.format.specs.Messages.{says, outcome}
use Rattle.format.proofs.Choices.{split_eq, if_eq_yes, if_eq_no}
use Rattle.format.proofs.Growing.{says_joined}
use Rattle.message.specs.Words.{Says}
use Rattle.salvage.specs.Mending.{outermost, met_alone, mended}
use Rattle.salvage.specs.Words.{said_by, said, items_left}
use Rattle.salvage.proofs.PartLaws.{outer_none, outer_rest, outer_whole, by_parts, mended_none, mended_rest, mended_kept, mended_bad}
use Rattle.salvage.proofs.MendedLaws.{met_says, none_says, empty_says}

pub mended_items : (m : List ℕ) → Says (mended m) (items_left (outermost m))
unfolding items_left said said_by
mended_items =
    by_parts (λ s. Says (mended s) (items_left (outermost s))) (ap outcome mended_none ∙ none_says ∙ sym (ap (λ l. says (items_left l)) outer_none))
    (λ b s e. ap outcome (mended_rest b s e) ∙ none_says ∙ sym (ap (λ l. says (items_left l)) (outer_rest b s e)))
    (λ b s u e more.
    let o = b ∷ take u s in
    let after = items_left (outermost (drop u s)) in
    let out = ap (λ l. says (items_left l)) (outer_whole b s u e) in
    split_eq (met_alone o) 0
    (λ z.
    let x = met_says o z in
    let here = if_eq_yes (met_alone o) 0 (said o) (one empty) z ∙ ap said_by x.1 in
    ap outcome (mended_kept b s u e z) ∙ says_joined o (mended (drop u s)) x.0 after x.1 more ∙ sym (out ∙ ap (λ xs. says (join xs after)) here))
    (λ z.
    let here = if_eq_no (met_alone o) 0 (said o) (one empty) z in
    ap outcome (mended_bad b s u e z) ∙ says_joined (0xfe ∷ []) (mended (drop u s)) (one empty) after empty_says more
    ∙ sym (out ∙ ap (λ xs. says (join xs after)) here)))
