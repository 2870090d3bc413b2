-- The codes of a string: from their data words, and as text one after another. Assumes nothing.
use mathlib.Core.Path.{◌≡◌, sym, ap, ◌∙◌}
use mathlib.Core.List.{List, [], ◌∷◌, ◌++◌}
use Prim.Native.Nat.{ℕ, ◌+◌, ◌-◌, ◌*◌, ◌/◌, ◌%◌, ◌^◌, ◌≤◌, ◌<◌}
use native.Mathlib.Numerals.{add-one}
use native.Mathlib.Omega.{arith}
use lib.ListN.{length, drop, get_or, length-drop, drop_of_length-le}
use lib.Seq.{drop-cons, get_or-drop}
use Rattle.format.specs.Bits.{packed, words_for}
use Rattle.format.specs.Tables.{from_words, claimed_text, codes}
use Rattle.format.proofs.BitLaws.{packed_at, adjusted_byte}
use Rattle.format.proofs.TableLaws.{codes_length}
use Rattle.table.specs.Rows.{a_at, b_at, data_of, text_at, TextAt}
use Rattle.table.proofs.CodeLaws.{codes_text}
use Rattle.table.proofs.RowData.{kept_at, text_kept}
use Rattle.listing.specs.Lines.{decimal, codes_column, text_value, space}

-- one code, and those behind it
column_on : (cs : List ℕ) (i : ℕ) → i < length cs → codes_column (drop i cs) ≡ space ∷ (decimal (get_or cs i 0) ++ codes_column (drop (i + 1) cs))
unfolding codes_column
column_on cs i h = ap codes_column (drop-cons cs i 0 h) ∙ ap (λ n. space ∷ (decimal (get_or cs i 0) ++ codes_column (drop n cs))) (sym (add-one i))

column_end : (cs : List ℕ) (i : ℕ) → length cs ≤ i → codes_column (drop i cs) ≡ []
unfolding codes_column
column_end cs i h = ap codes_column (drop_of_length-le cs {i = i} h)

module _ (w : List ℕ) (p : ℕ) (h : TextAt w p) where
  codes_number : length (codes (text_at w p)) ≡ a_at w p
  codes_number = codes_length (text_at w p) ∙ sym h.row.a

  -- the data words are there, and among them that of a code
  pub codes_in : 3 * get_or w 0 0 + 4 + b_at w p ≤ length w
  codes_in = let s = (text_kept w p h).0.stored in omega arith

  pub code_in : (i : ℕ) → i < a_at w p → i / 8 < length (drop (3 * get_or w 0 0 + 4 + b_at w p) w)
  unfolding words_for
  code_in i l = let s = (text_kept w p h).0.stored in omega (arith, length-drop (3 * get_or w 0 0 + 4 + b_at w p) w)

  code_at : (i : ℕ) → i < a_at w p → get_or w (3 * get_or w 0 0 + 4 + b_at w p + i / 8) 0 / 2 ^ (56 - 8 * (i % 8)) % 256 ≡ get_or (codes (text_at w p)) i 0
  unfolding text_at claimed_text words_for
  code_at i l =
      let bs = from_words (8 * a_at w p) (b_at w p) (data_of w) in
      ap (λ z. z / 2 ^ (56 - 8 * (i % 8)) % 256) (kept_at w (b_at w p) (8 * a_at w p) (text_kept w p h).0 (i / 8) (omega arith))
      ∙ adjusted_byte i bs ∙ sym (packed_at 8 (a_at w p) bs i l) ∙ ap (λ z. get_or z i 0) (sym (codes_text (packed 8 (a_at w p) bs)))

  pub codes_on : (i : ℕ) → i < a_at w p → codes_column (drop i (codes (text_at w p)))
      ≡ space ∷ (decimal (get_or (drop (3 * get_or w 0 0 + 4 + b_at w p) w) (i / 8) 0 / 2 ^ (56 - 8 * (i % 8)) % 256) ++ codes_column (drop (i + 1) (codes (text_at w p))))
  codes_on i l =
      rw (get_or-drop (3 * get_or w 0 0 + 4 + b_at w p) w (i / 8) 0)
      (column_on (codes (text_at w p)) i (omega (arith, codes_number))
      ∙ ap (λ c. space ∷ (decimal c ++ codes_column (drop (i + 1) (codes (text_at w p))))) (sym (code_at i l)))

  pub codes_end : (i : ℕ) → a_at w p ≤ i → codes_column (drop i (codes (text_at w p))) ≡ []
  codes_end i l = column_end (codes (text_at w p)) i (omega (arith, codes_number))

  -- their number, and the codes behind it
  pub string_value : text_value (codes (text_at w p)) ≡ decimal (a_at w p) ++ codes_column (codes (text_at w p))
  unfolding text_value
  string_value = ap (λ n. decimal n ++ codes_column (codes (text_at w p))) codes_number
