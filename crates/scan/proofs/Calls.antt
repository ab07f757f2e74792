-- Calls that carry out enterings in memory, one after the other.
use Rattle.std.proofs.Common.{◌≡◌, ℕ, Bool, true, false, cond, List, [], ◌∷◌, ◌++◌, length, is_ok, IsErrAnd, Some, Ok, Err, Result, sym, refl, ap, ◌∙◌, subst}
use Rattle.symbols.specs.declared.fault.Fault.{Fault}
use Rattle.symbols.specs.declared.fault.ScanReason.{ScanReason}
use Rattle.store.specs.declared.memory.Memory.{Memory}
use Rattle.symbols.specs.declared.table.SymbolTableType.{SymbolTableType}
use Rattle.symbols.specs.declared.usage.SymbolUsage.{SymbolUsage}
use Rattle.store.specs.Enterings.{enter}
use Rattle.symbols.specs.Faults.{Spot, scan_fault}
use Rattle.store.specs.Held.{Held, Outcome, done, refused}
use Rattle.store.specs.Mangling.{mangled}
use Rattle.store.specs.Memory.{held, room_of, Leaves, Does}
use Rattle.store.specs.Outward.{enter_target, enter_import, enter_use}
use Rattle.store.specs.Tables.{open_table}
use Rattle.store.proofs.Frames.{keeps_refl, keeps_trans, keeps_room}
use Rattle.scan.specs.Entering.{Entering, opens, enters, uses, imports, targets, closes, refuses, standing, opened, step}
use Rattle.scan.specs.Runs.{AgreesBy, Agrees, Runs, CarriesOut}
use Rattle.scan.proofs.Blocks.{StandsIn, stands_still, opened_in, shut}
use Rattle.scan.proofs.Compose.{idle, stepped, turned_down, and_then, broken, failed, if_taken, if_left}

of_leaves : (t : ℕ) (o : Outcome) (r : Result (Unit {0}) Fault) (k : Held) → Leaves {A = Unit {0}} tt o r k → AgreesBy t o r k t
of_leaves t (done h) r k l = (l.0, l.1, refl)
of_leaves t (refused h f) r k l = l

-- a call that does what one entering does, with the table staying open
module _ {m m' : Memory} {t : ℕ} {r : Result (Unit {0}) Fault} where
  by_step : (e : Entering) (o : Outcome) → step (room_of m) (held m) t e ≡ standing t o → Does m o r m' → CarriesOut m t (e ∷ []) r m' t
  by_step e o s d =
      record {
        runs = stepped (subst (λ z. Agrees z r (held m') t) (sym s) (of_leaves t o r (held m') d.leaves));
        keeps = d.keeps;
      }

  module _ (class name : List ℕ) (s : Spot) where
    pub name_entered : (role : SymbolUsage) → Does m (enter (room_of m) (held m) t role (mangled class name) s) r m' → CarriesOut m t (enters role class name s ∷ []) r m' t
    unfolding step
    name_entered role d = by_step (enters role class name s) (enter (room_of m) (held m) t role (mangled class name) s) refl d

    pub name_used : Does m (enter_use (room_of m) (held m) t class name s) r m' → CarriesOut m t (uses class name s ∷ []) r m' t
    unfolding step
    name_used d = by_step (uses class name s) (enter_use (room_of m) (held m) t class name s) refl d

    pub name_imported : Does m (enter_import (room_of m) (held m) t class name s) r m' → CarriesOut m t (imports class name s ∷ []) r m' t
    unfolding step
    name_imported d = by_step (imports class name s) (enter_import (room_of m) (held m) t class name s) refl d

    pub target_entered : Does m (enter_target (room_of m) (held m) t (mangled class name) s) r m' → CarriesOut m t (targets class name s ∷ []) r m' t
    unfolding step
    target_entered d = by_step (targets class name s) (enter_target (room_of m) (held m) t (mangled class name) s) refl d

of_opening : (t u n : ℕ) (o : Outcome) (r : Result (Unit {0}) Fault) (k : Held) → Leaves {A = Unit {0}} tt o r k → u ≡ cond (is_ok r) n t → Agrees (opened t n o) r k u
of_opening t u n (done h) r k l e = (l.0, l.1, e ∙ ap (λ x. cond (is_ok x) n t) l.0)
of_opening t u n (refused h f) r k l e = l

-- a call that opens a table: the new one is open, unless it was refused
pub table_opened :
    {m m' : Memory} {t u : ℕ} {r : Result (Unit {0}) Fault} (k : SymbolTableType) (name : List ℕ) (s : Spot) →
    Does m (open_table (room_of m) (held m) (Some t) k name s) r m' → u ≡ cond (is_ok r) (length (held m).tables) t →
    CarriesOut m t (opens k name s ∷ []) r m' u
unfolding step
table_opened {m} {m'} {t} {u} {r} k name s d e =
    record {
      runs = stepped (of_opening t u (length (held m).tables) (open_table (room_of m) (held m) (Some t) k name s) r (held m') d.leaves e);
      keeps = d.keeps;
    }

-- nothing, and a refusal by the tree alone
pub did_nothing : {m : Memory} {t : ℕ} → CarriesOut m t [] (Ok tt) m t
did_nothing {m} = record { runs = idle; keeps = keeps_refl m }

pub refused_by_tree : {m : Memory} {t u : ℕ} (r : ScanReason) (s : Spot) → CarriesOut m t (refuses r s ∷ []) (Err (scan_fault r s)) m u
refused_by_tree {m} r s = record { runs = turned_down r s; keeps = keeps_refl m }

-- some enterings, and then others
pub both :
    {m m₁ m₂ : Memory} {t t₁ t₂ : ℕ} {xs ys : List Entering} {r : Result (Unit {0}) Fault} →
    CarriesOut m t xs (Ok tt) m₁ t₁ → CarriesOut m₁ t₁ ys r m₂ t₂ → CarriesOut m t (xs ++ ys) r m₂ t₂
both {m} {m₁} {m₂} {t} {t₁} {t₂} {xs} {ys} {r} p q =
    record {
      runs = and_then p.runs (subst (λ room. Runs room (held m₁) t₁ ys r (held m₂) t₂) (keeps_room p.keeps) q.runs);
      keeps = keeps_trans p.keeps q.keeps;
    }

-- a refusal ends them
pub ended : {m m₁ : Memory} {t t₁ : ℕ} {xs : List Entering} {f : Fault} (ys : List Entering) → CarriesOut m t xs (Err f) m₁ t₁ → CarriesOut m t (xs ++ ys) (Err f) m₁ t₁
ended ys p = record { runs = broken ys p.runs; keeps = p.keeps }

-- the exit of a `?`
pub left : {m m₁ : Memory} {t t₁ t₂ : ℕ} {es : List Entering} {f : Fault} (r : Result (Unit {0}) Fault) → IsErrAnd r (λ g. g ≡ f) → CarriesOut m t es (Err f) m₁ t₁ → CarriesOut m t es r m₁ t₂
left r e p = record { runs = failed r e p.runs; keeps = p.keeps }

-- a table from its opening to its closing
pub opened_there : {m m₁ : Memory} {t u : ℕ} {k : SymbolTableType} {name : List ℕ} {s : Spot} → CarriesOut m t (opens k name s ∷ []) (Ok tt) m₁ u → StandsIn (held m₁) u t
opened_there p = opened_in p.runs

pub still_there : {m m₁ : Memory} {t u a b : ℕ} {es : List Entering} {r : Result (Unit {0}) Fault} → StandsIn (held m) a b → CarriesOut m t es r m₁ u → StandsIn (held m₁) a b
still_there s p = stands_still s p.runs

pub closed_there : {m : Memory} {t u : ℕ} → StandsIn (held m) u t → CarriesOut m u (closes ∷ []) (Ok tt) m t
closed_there {m} s = record { runs = shut s; keeps = keeps_refl m }

-- by a test
pub when_true : {m m₁ : Memory} {t u : ℕ} {r : Result (Unit {0}) Fault} (b : Bool) (xs ys : List Entering) → b ≡ true → CarriesOut m t xs r m₁ u → CarriesOut m t (cond b xs ys) r m₁ u
when_true b xs ys e p = record { runs = if_taken b xs ys e p.runs; keeps = p.keeps }

pub when_false : {m m₁ : Memory} {t u : ℕ} {r : Result (Unit {0}) Fault} (b : Bool) (xs ys : List Entering) → b ≡ false → CarriesOut m t ys r m₁ u → CarriesOut m t (cond b xs ys) r m₁ u
when_false b xs ys e p = record { runs = if_left b xs ys e p.runs; keeps = p.keeps }
