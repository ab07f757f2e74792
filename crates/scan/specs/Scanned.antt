-- What a call that scans a node answers and leaves.
use Rattle.std.specs.Prelude.{ℕ, Bool, cond, ◌&&◌, ◌||◌, List, [], Some, None, Option, Result, ◌==◌, nat_le, nat_lt}
use Rattle.symbols.specs.declared.fault.Fault.{Fault}
use Rattle.store.specs.declared.cursor.Cursor.{Cursor}
use Rattle.store.specs.declared.memory.Memory.{Memory}
use Rattle.store.specs.Mangling.{class_of}
use Rattle.treefile.specs.declared.trailer.Trailer.{Trailer}
use Rattle.treefile.specs.Spelling.{label_at}
use Rattle.treefile.specs.Trees.{Tree}
use Rattle.scan.specs.declared.context.Setting.{Setting}
use Rattle.scan.specs.Enterings.{part_of}
use Rattle.scan.specs.Parts.{bytes_of, Part}
use Rattle.scan.specs.Places.{Here}
use Rattle.scan.specs.Runs.{CarriesOut}
use Rattle.scan.specs.Scans.{Scan}

-- the name of the class whose node is given; a node that is no class's has none
abbrev pub class_in : List ℕ → Trailer → Option ℕ → List ℕ
class_in bs t (Some i) = cond (nat_lt i t.record_count && (label_at bs t i).kind == 19) (bytes_of (label_at bs t i).name) []
class_in bs t None = []

-- some tree stands at place i
abbrev pub Has : List ℕ → Trailer → ℕ → Type 0
Has bs t i = (x : Tree) × Here bs t i x

-- an expression, or nothing in its place
abbrev pub is_expression : ℕ → Bool
is_expression k = k == 0 || (nat_le 64 k && nat_le k 70)

-- a call that began with this cursor and in memory m carries out what f enters, for every tree that stands at place i
abbrev pub Scanned : List ℕ → Trailer → ℕ → (Part → Scan) → Setting → Cursor → Memory → Result (Unit {0}) Fault → Memory → Type 0
Scanned bs t i f w cur m r m' =
    (x : Tree) → Here bs t i x → CarriesOut m cur.table (f (part_of x i) w (class_of cur)) r m' cur.table
