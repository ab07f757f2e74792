-- The name index of a tree file.
use Rattle.std.specs.Prelude.{◌≡◌, ℕ, ◌+◌, ◌*◌, ◌≤◌, Bool, ◌&&◌, List, length, take, drop, nat_le}
use Rattle.treefile.specs.declared.fault.TreeReason.TheVariants.{Name}
use Rattle.treefile.specs.declared.trailer.Trailer.{Trailer}
use Rattle.treefile.specs.Faults.{Verdict, fault_of}
use Rattle.treefile.specs.First.{first_bad, refused_at}
use Rattle.treefile.specs.Trailer.{trailer_start}
use Rattle.treefile.specs.Words.{word_at}

-- an entry of the index is two words, where a name begins and how many bytes it has
abbrev pub name_place : List ℕ → Trailer → ℕ → ℕ
name_place bs t n = word_at bs (t.index + 8 * n)

abbrev pub name_length : List ℕ → Trailer → ℕ → ℕ
name_length bs t n = word_at bs (t.index + 8 * n + 4)

-- the bytes of a name
abbrev pub name_bytes : List ℕ → Trailer → ℕ → List ℕ
name_bytes bs t n = take (name_length bs t n) (drop (name_place bs t n) bs)

-- a name has 1 to 255 bytes and ends before the trailer
abbrev pub name_ok : List ℕ → Trailer → ℕ → Bool
name_ok bs t n =
    nat_le 1 (name_length bs t n)
    && (nat_le (name_length bs t n) 255 && nat_le (name_place bs t n + name_length bs t n) (trailer_start bs))

-- the first name that is not so; its number stands in the fault's node
abbrev pub names_check : List ℕ → Trailer → Verdict
names_check bs t = refused_at (λ n. fault_of Name n 0) (first_bad (name_ok bs t) 0 t.name_count)

-- a name is whole: it has a byte or more, as many as the index says, and they end before the trailer
pub record Whole (bs : List ℕ) (t : Trailer) (n : ℕ) : Type 0 where
  pub some : 1 ≤ name_length bs t n
  pub all : length (name_bytes bs t n) ≡ name_length bs t n
  pub within : name_place bs t n + name_length bs t n ≤ trailer_start bs
