-- The laws of runs, whichever enterings they are of and whatever comes of them.
use Rattle.std.specs.Prelude.{◌≡◌, ℕ, ◌<◌, List, ◌++◌, length, Some}
use Rattle.store.specs.Grown.{AllGrown, Longer}
use Rattle.store.specs.Held.{Held, Room}
use Rattle.store.specs.Names.{symbols_in}
use Rattle.store.specs.Sound.{parent_of}
use Rattle.store.specs.Throughout.{held_in}
use Rattle.scan.specs.Entering.{Entering, go_on, run}

-- what is held after a run
abbrev pub held_after : Room → Held → ℕ → List Entering → Held
held_after room h t es = held_in (run room h t es).outcome

-- the table around a table comes before it
abbrev pub Outwards : Held → Type 0
Outwards h = (t p : ℕ) → parent_of h t ≡ Some p → p < t

pub record RunLaws : Type 0 where
  -- it does not matter where a list of enterings is cut
  pub run_in_turn :
      (room : Room) (h : Held) (t : ℕ) (xs ys : List Entering) →
      run room h t (xs ++ ys) ≡ go_on (run room h t xs) (λ k u. run room k u ys)
  -- tables stand as they were, and new ones come after them, in the order in which they are opened
  pub tables_stand : (room : Room) (h : Held) (t : ℕ) (es : List Entering) → Longer h.tables (held_after room h t es).tables
  -- the table around a table comes before it, and there is an open table
  pub parents_first :
      (room : Room) (h : Held) (t : ℕ) (es : List Entering) → Outwards h → t < length h.tables →
      Outwards (held_after room h t es) × ((run room h t es).table < length (held_after room h t es).tables)
  -- symbols stay where they stand and only grow
  pub symbols_grow : (room : Room) (h : Held) (t : ℕ) (es : List Entering) → AllGrown h (held_after room h t es)
  -- what begins in the module leaves the symbols of every other table that was there as they were
  pub others_stay :
      (room : Room) (h : Held) (es : List Entering) → Outwards h → (v : ℕ) → 0 < v → v < length h.tables →
      symbols_in (held_after room h 0 es) v ≡ symbols_in h v
