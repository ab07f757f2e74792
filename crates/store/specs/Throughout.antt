-- What holds from before to after, in whichever way names are entered and whatever comes of it.
use Rattle.std.specs.Prelude.{◌≡◌, ℕ, ◌<◌, List, length}
use Rattle.std.specs.List.{All}
use Rattle.symbols.specs.Faults.{Spot}
use Rattle.symbols.specs.declared.usage.SymbolUsage.{SymbolUsage}
use Rattle.store.specs.Enterings.{enter}
use Rattle.store.specs.Held.{Held, Room, Outcome, done, refused}
use Rattle.store.specs.Names.{Entering, enter_all}
use Rattle.store.specs.Outward.{enter_each, enter_import, enter_target, enter_use, way_out}

-- what is held after an entering, accepted or refused
abbrev pub held_in : Outcome → Held
held_in (done k) = k
held_in (refused k f) = k

-- a name may be entered in any table
abbrev pub Anywhere : Held → ℕ → Type 0
Anywhere h t = Unit {0}

-- it is entered in a table that there is
abbrev pub InTable : Held → ℕ → Type 0
InTable h t = t < length h.tables

-- it is entered in another table than u
abbrev pub NotIn : ℕ → Held → ℕ → Type 0
NotIn u h t = u ≡ t → ⊥

-- R goes from what was held to what is held then, if the tables that are entered in are as Ok says
pub record Throughout (Ok : Held → ℕ → Type 0) (R : Held → Held → Type 0) : Type 0 where
  -- one name in one table
  pub one : (room : Room) (h : Held) (t : ℕ) (role : SymbolUsage) (text : List ℕ) (spot : Spot) → Ok h t → R h (held_in (enter room h t role text spot))
  -- a list of enterings
  pub list : (room : Room) (h : Held) (es : List Entering) → All (λ e. Ok h e.table) es → R h (held_in (enter_all room h es))
  -- one name in several tables
  pub each : (room : Room) (h : Held) (ts : List ℕ) (role : SymbolUsage) (text : List ℕ) (spot : Spot) → All (Ok h) ts → R h (held_in (enter_each room h ts role text spot))
  -- the target of a named expression
  pub target : (room : Room) (h : Held) (t : ℕ) (text : List ℕ) (spot : Spot) → All (Ok h) (way_out h t).through → Ok h (way_out h t).host → R h (held_in (enter_target room h t text spot))
  -- what an import enters
  pub imported : (room : Room) (h : Held) (t : ℕ) (class name : List ℕ) (spot : Spot) → Ok h t → R h (held_in (enter_import room h t class name spot))
  -- a name that is read
  pub used : (room : Room) (h : Held) (t : ℕ) (class name : List ℕ) (spot : Spot) → Ok h t → R h (held_in (enter_use room h t class name spot))
