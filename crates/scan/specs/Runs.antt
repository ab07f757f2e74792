-- What a piece of code that runs enterings answers and leaves.
use Rattle.std.specs.Prelude.{◌≡◌, ℕ, List, Ok, Err, Result}
use Rattle.symbols.specs.declared.fault.Fault.{Fault}
use Rattle.store.specs.declared.memory.Memory.{Memory}
use Rattle.store.specs.Held.{Held, Room, Outcome, done, refused}
use Rattle.store.specs.Memory.{held, room_of, Keeps}
use Rattle.scan.specs.Entering.{Entering, Standing, run}

-- an answer r, with k held and table u open then, is what came of steps that left table t open; after a refusal any table may
-- be open
abbrev pub AgreesBy : ℕ → Outcome → Result (Unit {0}) Fault → Held → ℕ → Type 0
AgreesBy t (done h) r k u = (r ≡ Ok tt) × (k ≡ h) × (u ≡ t)
AgreesBy t (refused h f) r k u = (r ≡ Err f) × (k ≡ h)

abbrev pub Agrees : Standing → Result (Unit {0}) Fault → Held → ℕ → Type 0
Agrees s r k u = AgreesBy s.table s.outcome r k u

-- what began with h held and table t open answered r, and left k held and table u open, as these enterings do
pub record Runs (room : Room) (h : Held) (t : ℕ) (es : List Entering) (r : Result (Unit {0}) Fault) (k : Held) (u : ℕ) : Type 0 where
  pub ran : Agrees (run room h t es) r k u

-- a call that began in memory m with table t open answered r, and left m' and table u open, carries out these enterings
pub record CarriesOut (m : Memory) (t : ℕ) (es : List Entering) (r : Result (Unit {0}) Fault) (m' : Memory) (u : ℕ) : Type 0 where
  pub runs : Runs (room_of m) (held m) t es r (held m') u
  pub keeps : Keeps m m'
