-- What it does to enter a name in a table, in a role.
use Rattle.std.specs.Prelude.{ℕ, Bool, true, false, cond, ◌&&◌, ◌||◌, List, [], ◌∷◌, ◌++◌, map, length, Some, None, Option, bit_or, nat_lt, slice_index_or, slice_set}
use Rattle.std.specs.List.{slice_get}
use Rattle.std.specs.Option.{option_or}
use Rattle.std.specs.Bool.{then_some}
use Rattle.symbols.specs.declared.fault.ScanReason.{ScanReason}
use Rattle.symbols.specs.declared.fault.ScanReason.TheVariants as reason
use Rattle.symbols.specs.declared.fault.MemoryReason.TheVariants as lack
use Rattle.symbols.specs.declared.scope.SymbolScope.TheVariants as scope
use Rattle.symbols.specs.declared.symbol.Symbol.{Symbol}
use Rattle.symbols.specs.declared.table.SymbolTable.{SymbolTable}
use Rattle.symbols.specs.declared.table.SymbolTableType.{SymbolTableType}
use Rattle.symbols.specs.declared.table.SymbolTableType.TheVariants as kind
use Rattle.symbols.specs.declared.usage.SymbolUsage.{SymbolUsage}
use Rattle.symbols.specs.Faults.{Spot, scan_fault, memory_fault}
use Rattle.symbols.specs.Flags.{has, referenced, assigned, parameter, annotated, nonlocal, iter}
use Rattle.store.specs.Held.{Held, Room, Outcome, done, refused}
use Rattle.store.specs.Texts.{Interned, place_of, number_of, interned}
use Rattle.symbols.specs.Usage.{masks_of, declares_global, scope_by}

-- a declaration comes too late for a name that its table has made a parameter, used, annotated or assigned
abbrev pub too_late : ℕ → Option ScanReason
too_late masks =
    cond (has masks parameter) (Some reason.Parameter)
    (cond (has masks referenced) (Some reason.Used)
    (cond (has masks annotated) (Some reason.Annotated)
    (cond (has masks assigned) (Some reason.Assigned) None)))

-- why a declaration of a name that its table has is refused: it comes too late, or the table declares the name the other way
abbrev pub misdeclared : SymbolUsage → Symbol → Option ScanReason
misdeclared role s =
    cond (declares_global role) (option_or (too_late s.flags.bits) (then_some (has s.flags.bits nonlocal) reason.GlobalNonlocal))
    (cond (has (masks_of role) nonlocal) (option_or (too_late s.flags.bits) (then_some s.global reason.GlobalNonlocal)) None)

-- a name that is both the target of a comprehension's `for` and assigned
abbrev pub rebound : ℕ → Option ScanReason
rebound masks = then_some (has masks iter && has masks assigned) reason.IterAssigned

-- why a role is refused for a name that its table has
abbrev pub objection : SymbolUsage → Symbol → Option ScanReason
objection role s = option_or (misdeclared role s) (rebound (bit_or s.flags.bits (masks_of role)))

-- the module is the outermost table: it has no table around it for a name to be nonlocal to
abbrev pub is_module : SymbolTableType → Bool
is_module kind.Module = true
is_module kind.Class = false
is_module kind.Function = false
is_module kind.Comprehension = false

-- why a role is refused for a name that is new in a table
abbrev pub first_objection : SymbolUsage → SymbolTableType → Option ScanReason
first_objection role k = then_some (has (masks_of role) nonlocal && is_module k) reason.ModuleNonlocal

-- a symbol entered once more: masks are added, a declaration settles the scope, all else stays
abbrev pub again : SymbolUsage → Symbol → Symbol
again role s = record {
  table = s.table;
  name = s.name;
  scope = scope_by role s.scope;
  flags = record { bits = bit_or s.flags.bits (masks_of role) };
  global = s.global || declares_global role;
  spot = s.spot;
}

-- a symbol that is new: the text x in table t
abbrev pub entered : SymbolUsage → ℕ → ℕ → Spot → Symbol
entered role t x spot = record {
  table = t;
  name = x;
  scope = scope_by role scope.Unknown;
  flags = record { bits = masks_of role };
  global = declares_global role;
  spot = spot;
}

-- the kind of a table; a number that is no table's counts as the module's
abbrev pub kind_by : Option SymbolTable → SymbolTableType
kind_by (Some x) = x.typ
kind_by None = kind.Module

abbrev pub kind_of : Held → ℕ → SymbolTableType
kind_of h t = kind_by (slice_get h.tables t)

-- a symbol is known by its table and its text
abbrev pub key_of : Symbol → List ℕ
key_of s = s.table ∷ s.name ∷ []

-- the place of the symbol of text x in table t
abbrev pub symbol_of : Held → ℕ → ℕ → Option ℕ
symbol_of h t x = place_of (t ∷ x ∷ []) (map key_of h.symbols)

abbrev pub stands_by : Held → ℕ → Option ℕ → Option ℕ
stands_by h t (Some x) = symbol_of h t x
stands_by h t None = None

-- the place of a name's symbol in table t
abbrev pub stands_at : Held → ℕ → List ℕ → Option ℕ
stands_at h t text = stands_by h t (number_of h text)

-- no symbol: what is read past the last
abbrev pub no_symbol : Symbol
no_symbol = record { table = 0; name = 0; scope = scope.Unknown; flags = record { bits = 0 }; global = false; spot = record { node = 0; row = 0 } }

abbrev pub with_symbols : Held → List Symbol → Held
with_symbols h ss = record { tables = h.tables; symbols = ss; texts = h.texts; bytes = h.bytes }

abbrev pub enter_again : Held → SymbolUsage → Spot → ℕ → Option ScanReason → Outcome
enter_again h role spot i (Some r) = refused h (scan_fault r spot)
enter_again h role spot i None = done (with_symbols h (slice_set h.symbols i (again role (slice_index_or h.symbols i no_symbol))))

-- memory is asked for last: first the text, then the symbol
abbrev pub enter_new : Room → Held → ℕ → SymbolUsage → Spot → Option Interned → Outcome
enter_new room h t role spot None = refused h (memory_fault lack.Texts spot)
enter_new room h t role spot (Some k) =
    cond (nat_lt (length h.symbols) room.symbols)
    (done (with_symbols k.held (h.symbols ++ entered role t k.number spot ∷ [])))
    (refused h (memory_fault lack.Symbols spot))

abbrev pub enter_first : Room → Held → ℕ → SymbolUsage → List ℕ → Spot → Option ScanReason → Outcome
enter_first room h t role text spot (Some r) = refused h (scan_fault r spot)
enter_first room h t role text spot None = enter_new room h t role spot (interned room h text)

abbrev pub enter_at : Room → Held → ℕ → SymbolUsage → List ℕ → Spot → Option ℕ → Outcome
enter_at room h t role text spot (Some i) = enter_again h role spot i (objection role (slice_index_or h.symbols i no_symbol))
enter_at room h t role text spot None = enter_first room h t role text spot (first_objection role (kind_of h t))

-- a name is entered in table t: once more if the table has it, else for the first time
unfoldable pub enter : Room → Held → ℕ → SymbolUsage → List ℕ → Spot → Outcome
enter room h t role text spot = enter_at room h t role text spot (stands_at h t text)
