-- What one name of the script enters beside the plain case: a named expression's target, `*`, and `super`.
use Rattle.std.specs.Prelude.{ℕ, zero, suc, Bool, true, false, cond, not, ◌&&◌, ◌||◌, List, [], ◌∷◌, Some, None, codes, Option, nat_lt}
use Rattle.std.specs.List.{slice_get}
use Rattle.std.specs.Str.{bytes_eq}
use Rattle.symbols.specs.declared.fault.ScanReason.TheVariants as reason
use Rattle.symbols.specs.declared.table.SymbolTable.{SymbolTable}
use Rattle.symbols.specs.declared.table.SymbolTableType.{SymbolTableType}
use Rattle.symbols.specs.declared.table.SymbolTableType.TheVariants as kind
use Rattle.symbols.specs.declared.usage.SymbolUsage.{SymbolUsage}
use Rattle.symbols.specs.declared.usage.SymbolUsage.TheVariants as role
use Rattle.store.specs.Enterings.{enter, is_module, kind_of}
use Rattle.symbols.specs.Faults.{Spot, scan_fault}
use Rattle.store.specs.Held.{Held, Room, Outcome, done, refused, and_then}
use Rattle.store.specs.Mangling.{mangled}
use Rattle.store.specs.Tables.{is_function}

abbrev pub is_class : SymbolTableType → Bool
is_class kind.Module = false
is_class kind.Class = true
is_class kind.Function = false
is_class kind.Comprehension = false

abbrev pub is_comprehension : SymbolTableType → Bool
is_comprehension kind.Module = false
is_comprehension kind.Class = false
is_comprehension kind.Function = false
is_comprehension kind.Comprehension = true

abbrev pub below_by : ℕ → Option ℕ → Option ℕ
below_by t (Some p) = cond (nat_lt p t) (Some p) None
below_by t None = None

-- the table around a comprehension; a table of another kind gives none, and so does a record whose parent is not below it
abbrev pub around_by : ℕ → Option SymbolTable → Option ℕ
around_by t (Some x) = cond (is_comprehension x.typ) (below_by t x.parent) None
around_by t None = None

abbrev pub around_comprehension : List SymbolTable → ℕ → Option ℕ
around_comprehension ts t = around_by t (slice_get ts t)

-- where a named expression stands: in these comprehensions, from within outwards, and in a host around them
pub record Way : Type 0 where
  pub through : List ℕ
  pub host : ℕ

abbrev pub further : Option ℕ → ℕ → (ℕ → Way) → Way
further (Some p) t next = record { through = t ∷ (next p).through; host = (next p).host }
further None t next = record { through = []; host = t }

-- the way outwards from table t: each comprehension is passed, and the first other table is the host; n bounds the steps
abbrev pub way_from : List SymbolTable → ℕ → ℕ → Way
way_from ts zero t = record { through = []; host = t }
way_from ts (suc n) t = further (around_comprehension ts t) t (way_from ts n)

-- each step goes to a table below, so that t steps are enough
abbrev pub way_out : Held → ℕ → Way
way_out h t = way_from h.tables t t

-- one name in one role in several tables, in order
abbrev pub enter_each : Room → Held → List ℕ → SymbolUsage → List ℕ → Spot → Outcome
enter_each room h [] role text spot = done h
enter_each room h (t ∷ ts) role text spot = and_then (enter room h t role text spot) (λ k. enter_each room k ts role text spot)

abbrev pub is_empty : List ℕ → Bool
is_empty [] = true
is_empty (x ∷ xs) = false

-- the host gets the target; a class cannot be the host of a named expression in a comprehension
abbrev pub enter_host : Room → Held → Held → Way → List ℕ → Spot → Outcome
enter_host room h k way text spot =
    cond (not (is_empty way.through) && is_class (kind_of h way.host)) (refused k (scan_fault reason.NamedInClass spot))
    (enter room k way.host role.Assigned text spot)

-- the target of a named expression (PEP 572): in each comprehension that it stands in, and in their host
unfoldable pub enter_target : Room → Held → ℕ → List ℕ → Spot → Outcome
enter_target room h t text spot =
    and_then (enter_each room h (way_out h t).through role.AssignedNamedExprInComprehension text spot)
    (λ k. enter_host room h k (way_out h t) text spot)

-- a name that an import enters: `*` only in the module (Reference, "The import statement")
unfoldable pub enter_import : Room → Held → ℕ → List ℕ → List ℕ → Spot → Outcome
enter_import room h t class name spot =
    cond (bytes_eq name (codes "*") && not (is_module (kind_of h t))) (refused h (scan_fault reason.StarOutsideModule spot))
    (enter room h t role.Imported (mangled class name) spot)

-- a function or a comprehension that reads `super` reads `__class__` too (Reference, "Creating the class object")
unfoldable pub enter_use : Room → Held → ℕ → List ℕ → List ℕ → Spot → Outcome
enter_use room h t class name spot =
    and_then (enter room h t role.Used (mangled class name) spot)
    (λ k. cond (bytes_eq name (codes "super") && (is_function (kind_of h t) || is_comprehension (kind_of h t)))
    (enter room k t role.Used (codes "__class__") spot) (done k))
