-- The words of a tree file.
use Rattle.std.specs.Prelude.{ℕ, ◌+◌, ◌*◌, List, slice_index}

-- the word of 32 bits at a place, the low byte first
abbrev pub word_at : List ℕ → ℕ → ℕ
word_at bs p = slice_index bs p + slice_index bs (p + 1) * 256 + slice_index bs (p + 2) * 65536 + slice_index bs (p + 3) * 16777216
