-- What the program prints of a stored file.
use Rattle.std.specs.Prelude.{◌≡◌, ℕ, ◌<◌, List, ◌∷◌, ◌++◌, length, Some, None, Ok, Err, codes, Option, Result, ◌≢◌, slice_index}
use Rattle.listing.specs.Lines.{fault_line}
use Rattle.treefile.specs.declared.fault.Refusal.{Refusal}
use Rattle.treefile.specs.declared.fault.TreeReason.{TreeReason}
use Rattle.treefile.specs.declared.trailer.Trailer.{Trailer}
use Rattle.treefile.specs.Checked.{file_check}
use Rattle.treefile.specs.Faults.{number_of}
use Rattle.vectors.specs.Hex.{bytes_of}

-- a title with what the check answers: `passes`, or `R` with the fault's number, node and row
abbrev pub answer_line : List ℕ → Result Trailer (Refusal TreeReason) → List ℕ
answer_line title (Ok t) = title ++ codes " passes"
answer_line title (Err f) = title ++ (codes " " ++ fault_line (number_of f.reason) f.spot.node f.spot.row)

-- the same for a file in hexadecimal
abbrev pub file_line : List ℕ → Option (List ℕ) → List ℕ
file_line title None = codes "bad-line"
file_line title (Some bytes) = answer_line title (file_check bytes)

abbrev pub replayed : List ℕ → List ℕ → List ℕ
replayed title text = file_line title (bytes_of text)

-- a byte that a text lacks
abbrev pub Without : ℕ → List ℕ → Type 0
Without c bs = (i : ℕ) → i < length bs → slice_index bs i ≢ c

-- what is printed of a line: what the check answers, where the title ends at the first space, 32; and a line without a space is bad
pub data Answered (line out : List ℕ) : Type 0 where
  spaced : (title text : List ℕ) → line ≡ title ++ (32 ∷ text) → Without 32 title → out ≡ replayed title text → Answered line out
  bare : Without 32 line → out ≡ codes "bad-line" → Answered line out
