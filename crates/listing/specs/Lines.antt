-- What the lines hold, without the line feed.
use Rattle.std.specs.Prelude.{ℕ, List, [], ◌∷◌, ◌++◌, codes, decimal, Option}
use Rattle.listing.specs.Escaped.{shown_name}

-- each word after a space
abbrev pub after_spaces : List (List ℕ) → List ℕ
after_spaces [] = []
after_spaces (w ∷ ws) = 0x20 ∷ (w ++ after_spaces ws)

-- the words with one space between each two
abbrev pub spaced : List (List ℕ) → List ℕ
spaced [] = []
spaced (w ∷ ws) = w ++ after_spaces ws

-- a node: `number depth word name row`
abbrev pub node_line : ℕ → ℕ → List ℕ → Option (List ℕ) → ℕ → List ℕ
node_line number depth word name row =
    spaced (decimal number ∷ (decimal depth ∷ (word ∷ (shown_name name ∷ (decimal row ∷ [])))))

-- a fault: `R number node row`
abbrev pub fault_line : ℕ → ℕ → ℕ → List ℕ
fault_line number node row = spaced (codes "R" ∷ (decimal number ∷ (decimal node ∷ (decimal row ∷ []))))
