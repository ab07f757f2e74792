-- What it does to open a table.
use Rattle.std.specs.Prelude.{ℕ, Bool, true, false, cond, ◌||◌, List, [], ◌∷◌, ◌++◌, length, Some, None, Option, nat_lt}
use Rattle.std.specs.List.{slice_get}
use Rattle.symbols.specs.declared.fault.MemoryReason.TheVariants as lack
use Rattle.symbols.specs.declared.table.SymbolTable.{SymbolTable}
use Rattle.symbols.specs.declared.table.SymbolTableType.{SymbolTableType}
use Rattle.symbols.specs.declared.table.SymbolTableType.TheVariants as kind
use Rattle.symbols.specs.Faults.{Spot, memory_fault}
use Rattle.store.specs.Held.{Held, Room, Outcome, done, refused}
use Rattle.store.specs.Texts.{Interned, interned}

abbrev pub is_function : SymbolTableType → Bool
is_function kind.Module = false
is_function kind.Class = false
is_function kind.Function = true
is_function kind.Comprehension = false

-- a table in this one is nested: this one is, or is a function's
abbrev pub nests_by : Option SymbolTable → Bool
nests_by (Some x) = x.is_nested || is_function x.typ
nests_by None = false

-- what stands in a table that is around nothing
abbrev pub nests_in : Held → Option ℕ → Bool
nests_in h (Some t) = nests_by (slice_get h.tables t)
nests_in h None = false

-- a table of this kind in the table around it; the module's has none around it
abbrev pub new_table : Held → Option ℕ → SymbolTableType → ℕ → Spot → SymbolTable
new_table h around k x spot = record { parent = around; typ = k; name = x; line_number = spot.row; is_nested = nests_in h around }

abbrev pub with_table : Held → SymbolTable → Held
with_table h x = record { tables = h.tables ++ x ∷ []; symbols = h.symbols; texts = h.texts; bytes = h.bytes }

abbrev pub open_by : Room → Held → Option ℕ → SymbolTableType → Spot → Option Interned → Outcome
open_by room h around k spot None = refused h (memory_fault lack.Texts spot)
open_by room h around k spot (Some i) =
    cond (nat_lt (length h.tables) room.tables) (done (with_table i.held (new_table h around k i.number spot)))
    (refused h (memory_fault lack.Tables spot))

-- a table is opened: first its name asks for memory, then its record
unfoldable pub open_table : Room → Held → Option ℕ → SymbolTableType → List ℕ → Spot → Outcome
open_table room h around k name spot = open_by room h around k spot (interned room h name)
