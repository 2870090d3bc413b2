-- Rows and data words as a repeat lays them out, again and again.
use Rattle.std.specs.Prelude.{ℕ, zero, suc, ◌+◌, ◌/◌, ◌%◌, ◌^◌, Bool, List, [], ◌∷◌, ◌++◌, take, ◌==◌}
use Rattle.format.specs.Choice.{pick, either}

-- the rows that have a place in the data are those of BITS and of strings
unfoldable pub in_data : ℕ → Bool
unfolding either
in_data k = either (k == 2) (k == 9)

-- the last word of a row of the kind `k`, with `w` data words more before it
unfoldable pub shift : ℕ → ℕ → ℕ → ℕ
unfolding pick in_data
shift w k b = pick (in_data k) ((b + w) % 2 ^ 64) b

-- rows, with `w` data words more before them
unfoldable pub rebased : ℕ → List ℕ → List ℕ
unfolding shift
rebased w [] = []
rebased w (k ∷ []) = k ∷ []
rebased w (k ∷ a ∷ []) = k ∷ a ∷ []
rebased w (k ∷ a ∷ b ∷ l) = k ∷ a ∷ shift w k b ∷ rebased w l

-- rows as many times, each copy's data words behind those of the one before
unfoldable pub copies : ℕ → ℕ → List ℕ → List ℕ
unfolding rebased
copies w zero l = []
copies w (suc k) l = l ++ copies w k (rebased w l)

-- words as many times
unfoldable pub again : ℕ → List ℕ → List ℕ
again zero l = []
again (suc k) l = l ++ again k l

-- n words, the first m of the table again and again
abbrev pub cycled : ℕ → ℕ → List ℕ → List ℕ
cycled n m t = again (n / m) (take m t) ++ take (n % m) t
