-- What the code's answers say: an object's bytes, how it is met, what all comes to; and the answer beside what is lent.
use Rattle.std.specs.Prelude as P
use Rattle.std.specs.Prelude.{ℕ, suc, ◌≤◌, ◌<◌, ◌≡◌, List, [], ◌∷◌, ◌++◌, length, take, drop, Some, None, Result, Ok, Err, unwrap_or}
use Rattle.std.proofs.Math.Option.{Option, none, some}
use Rattle.format.specs.Choice.{if_lt}
use Rattle.format.specs.Refusals.{too_many, row_limit, word_limit}
use Rattle.format.specs.Messages.{Outcome, refused, says, outcome}
use Rattle.format.specs.Tables.{rows, data_words}
use Rattle.salvage.specs.Mending as M
use Rattle.salvage.specs.Mending.{own_extent, lying, mended, outermost, changes_from, changes_in}
use Rattle.salvage.specs.Words.{said}
use Rattle.format.specs.declared.fault.Refusal.{Refusal}
use Rattle.format.specs.Refused.{number_of}
use Rattle.salvage.specs.declared.parts.Amount.{Amount}
use Rattle.salvage.specs.declared.parts.Part.{Part}
use Rattle.salvage.specs.declared.parts.Part.TheVariants.{Kept, Replaced, Dropped}
use Rattle.salvage.specs.declared.walk.Measure.{Measure}
use Rattle.salvage.specs.declared.Salvaging.{Salvaging}

-- the bytes of an object, its type-byte among them; none of one that does not lie in the input
unfoldable pub bytes_told : Option ℕ → P.Option ℕ
bytes_told none = None
bytes_told (some u) = Some (suc u)

-- how bytes are met alone: the rows and data words of what they say, or the number
unfoldable pub met_of : Outcome → Result Amount ℕ
unfolding if_lt rows data_words
met_of (refused f) = Err f.number
met_of (says xs) =
    if_lt row_limit (rows xs) (Err too_many)
    (if_lt word_limit (length (data_words xs)) (Err too_many) (Ok (record { rows = rows xs; words = length (data_words xs) })))

-- the same by the code's names
abbrev pub met_told : Result Amount Refusal → Result Amount ℕ
met_told (Ok a) = Ok a
met_told (Err why) = Err (number_of why)

-- the bytes of the object that some bytes begin with; none where they are a rest
unfoldable pub object_in : List ℕ → P.Option ℕ
unfolding bytes_told lying own_extent
object_in [] = None
object_in (b ∷ s) = bytes_told (lying s (own_extent b s))

-- some of the bytes at the front are sound together, as a message by themselves, whatever objects they are
pub record SoundFront (l : List ℕ) (n : ℕ) (a : Amount) : Type 0 where
  pub some_bytes : 0 < n
  pub fits : n ≤ length l
  pub sound : met_of (outcome (take n l)) ≡ Ok a

-- the object at the front is refused alone
pub record BadFront (l : List ℕ) (n k : ℕ) : Type 0 where
  pub object : object_in l ≡ Some n
  pub bad : met_of (outcome (take n l)) ≡ Err k

-- the bytes are a rest, which is refused alone
pub record BadRest (l : List ℕ) (k : ℕ) : Type 0 where
  pub object : object_in l ≡ None
  pub bad : met_of (outcome l) ≡ Err k

-- the part that bytes begin with, or several that are kept
abbrev pub PartsFrom : List ℕ → Part → Type 0
PartsFrom l (Kept n a) = SoundFront l n a
PartsFrom l (Replaced n why) = BadFront l n (number_of why)
PartsFrom l (Dropped why) = BadRest l (number_of why)

-- nothing is changed before q
pub record Clean (m : List ℕ) (q : ℕ) : Type 0 where
  pub upto : q ≤ length m
  pub out : mended m ≡ take q m ++ mended (drop q m)
  pub listed : changes_in m ≡ changes_from q (outermost (drop q m))

-- nothing is changed before the first change, which was found by p; where there was none, before p
abbrev pub CleanUpto : List ℕ → P.Option ℕ → ℕ → Type 0
CleanUpto m f p = Clean m (unwrap_or f p)

-- what all comes to: the bytes that come out, the changes, and the rows and data words of what then is said
unfoldable pub measure_of : List ℕ → P.Option ℕ → Measure
unfolding mended changes_in said rows data_words
measure_of m f =
    record {
      first = f;
      length = length (mended m);
      entries = length (changes_in m);
      rows = rows (said (mended m));
      words = length (data_words (said (mended m)));
    }

abbrev pub answer_of : ℕ → ℕ → ℕ → Salvaging
answer_of n l k = record { number = n; length = l; entries = k }

-- salvaging's answer, and the output and the list after it
abbrev pub salvage_told : Salvaging → List ℕ → List ℕ → M.Salvaging
salvage_told r o t = record { number = r.number; length = r.length; entries = r.entries; output = o; list = t }
