-- What a scan leaves, line by line.
use Rattle.std.specs.Prelude.{ℕ, ◌+◌, Bool, false, cond, List, [], ◌∷◌, ◌++◌, None, codes, Option, ◌==◌, slice_index_or}
use Rattle.symbols.specs.declared.scope.SymbolScope.{SymbolScope}
use Rattle.symbols.specs.declared.symbol.Symbol.{Symbol}
use Rattle.symbols.specs.declared.table.SymbolTable.{SymbolTable}
use Rattle.symbols.specs.declared.table.SymbolTableType.{SymbolTableType}
use Rattle.symbols.specs.declared.table.SymbolTableType.TheVariants as table
use Rattle.symbols.specs.Faults.{fault_number, fault_spot}
use Rattle.store.specs.Held.{Held, Room, Outcome, done, refused}
use Rattle.store.specs.Tables.{open_table}
use Rattle.store.specs.Texts.{spellings}
use Rattle.treefile.specs.Trees.{Tree}
use Rattle.scan.specs.Entering.{Standing, standing, go_on, run}
use Rattle.scan.specs.Enterings.{script_enterings}

pub data Line : Type 0 where
  -- a table: its number, the table around it, its kind, row, whether it is nested, its name
  T : ℕ → Option ℕ → SymbolTableType → ℕ → Bool → List ℕ → Line
  -- a symbol of the table before it: its name, its scope as far as the scan knows it, its masks
  E : List ℕ → SymbolScope → ℕ → Line
  -- a refusal: its number, node and row
  R : ℕ → ℕ → ℕ → Line

abbrev text_of : Held → ℕ → List ℕ
text_of h x = slice_index_or (spellings h) x []

-- the symbols of table t among these
abbrev symbol_lines : Held → ℕ → List Symbol → List Line
symbol_lines h t [] = []
symbol_lines h t (s ∷ ss) =
    cond (s.table == t) (E (text_of h s.name) s.scope s.flags.bits ∷ symbol_lines h t ss) (symbol_lines h t ss)

-- these tables, the first with number t, each with its symbols
abbrev table_lines : Held → ℕ → List SymbolTable → List Line
table_lines h t [] = []
table_lines h t (x ∷ xs) =
    T t x.parent x.typ x.line_number x.is_nested (text_of h x.name)
    ∷ (symbol_lines h t h.symbols ++ table_lines h (t + 1) xs)

abbrev listing : Outcome → List Line
listing (done h) = table_lines h 0 h.tables
listing (refused h f) = R (fault_number f) (fault_spot f).node (fault_spot f).row ∷ []

abbrev room : Room
room = record { tables = 1024; symbols = 1024; texts = 1024; bytes = 32768 }

-- the module's table is open, and nothing else is held
abbrev at_top : Standing
at_top =
    standing 0
    (open_table room (record { tables = []; symbols = []; texts = []; bytes = [] }) None table.Module (codes "top")
    (record { node = 0; row = 0 }))

-- what the scan of a script leaves
unfoldable pub scan_of : Tree → List Line
scan_of x = listing (go_on at_top (λ h t. run room h t (script_enterings x false))).outcome
