-- What a scan does, step by step: enterings, and what they make of what is held.
use Rattle.std.specs.Prelude.{ℕ, List, [], ◌∷◌, length, Some, None, Option}
use Rattle.symbols.specs.declared.fault.ScanReason.{ScanReason}
use Rattle.symbols.specs.declared.table.SymbolTableType.{SymbolTableType}
use Rattle.symbols.specs.declared.usage.SymbolUsage.{SymbolUsage}
use Rattle.store.specs.Enterings.{enter}
use Rattle.symbols.specs.Faults.{Spot, scan_fault}
use Rattle.store.specs.Held.{Held, Room, Outcome, done, refused}
use Rattle.store.specs.Mangling.{mangled}
use Rattle.store.specs.Outward.{enter_target, enter_import, enter_use}
use Rattle.store.specs.Sound.{parent_of}
use Rattle.store.specs.Tables.{open_table}

-- one step of a scan, with the node that makes it; a name comes with the name of the class in force
pub data Entering : Type 0 where
  -- a table of this kind and name is opened in the open one
  opens : SymbolTableType → List ℕ → Spot → Entering
  -- a name is entered in the open table, in a role
  enters : SymbolUsage → List ℕ → List ℕ → Spot → Entering
  -- a name is read, and `__class__` too where the name is `super`
  uses : List ℕ → List ℕ → Spot → Entering
  -- a name is imported
  imports : List ℕ → List ℕ → Spot → Entering
  -- a named expression's target
  targets : List ℕ → List ℕ → Spot → Entering
  -- the open table is closed
  closes : Entering
  -- the tree alone says that the script is at fault
  refuses : ScanReason → Spot → Entering

-- the table that is open, and what came of the steps up to there
pub record Standing : Type 0 where
  pub table : ℕ
  pub outcome : Outcome

abbrev pub standing : ℕ → Outcome → Standing
standing t o = record { table = t; outcome = o }

-- a new table is the open one, unless it was refused
abbrev pub opened : ℕ → ℕ → Outcome → Standing
opened t u (done h) = standing u (done h)
opened t u (refused h f) = standing t (refused h f)

abbrev pub or_stay : ℕ → Option ℕ → ℕ
or_stay t (Some p) = p
or_stay t None = t

-- the table that is open once table t is closed: the one around it; around the module is nothing, so it stays
abbrev pub closed : Held → ℕ → ℕ
closed h t = or_stay t (parent_of h t)

-- what an entering does while table t is open
unfoldable pub step : Room → Held → ℕ → Entering → Standing
step room h t (opens k name s) = opened t (length h.tables) (open_table room h (Some t) k name s)
step room h t (enters role class name s) = standing t (enter room h t role (mangled class name) s)
step room h t (uses class name s) = standing t (enter_use room h t class name s)
step room h t (imports class name s) = standing t (enter_import room h t class name s)
step room h t (targets class name s) = standing t (enter_target room h t (mangled class name) s)
step room h t closes = standing (closed h t) (done h)
step room h t (refuses r s) = standing t (refused h (scan_fault r s))

abbrev pub onward : ℕ → Outcome → (Held → ℕ → Standing) → Standing
onward t (done h) next = next h t
onward t (refused h f) next = standing t (refused h f)

-- go on from what is held and the open table, unless something was refused
abbrev pub go_on : Standing → (Held → ℕ → Standing) → Standing
go_on s next = onward s.table s.outcome next

-- enterings one after the other, up to the first that is refused
unfoldable pub run : Room → Held → ℕ → List Entering → Standing
run room h t [] = standing t (done h)
run room h t (e ∷ es) = go_on (step room h t e) (λ k u. run room k u es)
