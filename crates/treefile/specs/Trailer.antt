-- The trailer of a tree file: the last 20 bytes, five words.
use Rattle.std.specs.Prelude.{ℕ, ◌+◌, ◌-◌, ◌*◌, ◌<◌, ◌≤◌, Bool, cond, not, ◌||◌, List, length, Ok, Err, Result, ◌==◌, nat_lt}
use Rattle.treefile.specs.declared.fault.Refusal.{Refusal}
use Rattle.treefile.specs.declared.fault.TreeReason.{TreeReason}
use Rattle.treefile.specs.declared.fault.TreeReason.TheVariants.{Frame, Counts}
use Rattle.treefile.specs.declared.trailer.Trailer.{Trailer}
use Rattle.treefile.specs.Faults.{fault_of}
use Rattle.treefile.specs.Words.{word_at}

-- where the trailer begins; every area ends at or before it
abbrev pub trailer_start : List ℕ → ℕ
trailer_start bs = length bs - 20

-- the four words that say where the areas lie; the fifth is the length of the file
abbrev pub trailer_of : List ℕ → Trailer
trailer_of bs =
    record {
      records = word_at bs (trailer_start bs);
      record_count = word_at bs (trailer_start bs + 4);
      index = word_at bs (trailer_start bs + 8);
      name_count = word_at bs (trailer_start bs + 12);
    }

-- the length word is wrong, or an area reaches past the trailer's start
abbrev pub misframed : List ℕ → Trailer → Bool
misframed bs t =
    not (word_at bs (trailer_start bs + 16) == length bs)
    || (nat_lt (trailer_start bs) (t.records + 16 * t.record_count) || nat_lt (trailer_start bs) (t.index + 8 * t.name_count))

-- no record at all, or too many records or names
abbrev pub miscounted : Trailer → Bool
miscounted t = t.record_count == 0 || (nat_lt 65535 t.record_count || nat_lt 65535 t.name_count)

-- the trailer, or what is wrong with it
abbrev pub trailer_check : List ℕ → Result Trailer (Refusal TreeReason)
trailer_check bs =
    cond (nat_lt (length bs) 20) (Err (fault_of Frame 0 0))
    (cond (misframed bs (trailer_of bs)) (Err (fault_of Frame 0 0))
    (cond (miscounted (trailer_of bs)) (Err (fault_of Counts 0 0)) (Ok (trailer_of bs))))

-- both areas lie before the trailer, and neither is too large
pub record Framed (bs : List ℕ) (t : Trailer) : Type 0 where
  pub records : t.records + 16 * t.record_count + 20 ≤ length bs
  pub index : t.index + 8 * t.name_count + 20 ≤ length bs
  pub some : 0 < t.record_count
  pub few : t.record_count < 65536
  pub few_names : t.name_count < 65536
