-- What each entering keeps to, runs keep to.
use Rattle.std.proofs.Common.{◌≡◌, ℕ, ◌<◌, ltb, List, [], ◌∷◌, ◌++◌, length, get_or, Some, None, Option, Result, sym, refl, ap, subst}
use Rattle.std.specs.List.{All}
use Rattle.std.proofs.lemmas.Bool.{cond_both}
use Rattle.symbols.specs.declared.fault.Fault.{Fault}
use Rattle.symbols.specs.declared.fault.MemoryReason.TheVariants as lack
use Rattle.symbols.specs.Faults.{Spot}
use Rattle.symbols.specs.declared.table.SymbolTableType.{SymbolTableType}
use Rattle.store.specs.Enterings.{no_symbol}
use Rattle.symbols.specs.Faults.{memory_fault}
use Rattle.store.specs.Grown.{Grown, AllGrown, Longer}
use Rattle.store.specs.Held.{Held, Room, Outcome, done, refused}
use Rattle.store.specs.Mangling.{mangled}
use Rattle.store.specs.Outward.{way_out}
use Rattle.store.specs.Tables.{new_table, with_table, open_by, open_table}
use Rattle.store.specs.Texts.{Interned, interned}
use Rattle.store.specs.Throughout.{Throughout, held_in}
use Rattle.store.proofs.Frames.{longer_refl, longer_trans, longer_is}
use Rattle.store.proofs.Grown.{all_grown_self, all_grown_on, masks_only_grow}
use Rattle.store.proofs.Others.{interned_keeps, tables_stay}
use Rattle.store.proofs.Runs.{throughout_weaker}
use Rattle.scan.specs.Entering.{Entering, opens, enters, uses, imports, targets, closes, refuses, Standing, opened, step, onward, run}
use Rattle.scan.specs.Runs.{AgreesBy, Runs}

-- a table is opened, or nothing is changed
module _ (room : Room) (h : Held) (around : Option ℕ) (k : SymbolTableType) (name : List ℕ) (s : Spot) (P : Outcome → Type 0) where
  module _ (new : (i : Interned) → interned room h name ≡ Some i → P (done (with_table i.held (new_table h around k i.number s)))) (not : (f : Fault) → P (refused h f)) where
    by_name : (o : Option Interned) → interned room h name ≡ o → P (open_by room h around k s o)
    by_name None e = not (memory_fault lack.Texts s)
    by_name (Some i) e =
        cond_both (ltb (length h.tables) room.tables) (done (with_table i.held (new_table h around k i.number s))) (refused h (memory_fault lack.Tables s)) P
        (λ _. new i e) (λ _. not (memory_fault lack.Tables s))

    pub open_cases : P (open_table room h around k name s)
    unfolding open_table
    open_cases = by_name (interned room h name) refl

pub all_of_nothing : (ts : List ℕ) → All (λ t. Unit {0}) ts
all_of_nothing ts = λ k d l. tt

module _ (R : Held → Held → Type 0) (none : (h : Held) → R h h) (on : (h k l : Held) → R h k → R k l → R h l) where
  module _ (names : Throughout (λ h t. Unit {0}) R) (table : (room : Room) (h : Held) (t : ℕ) (k : SymbolTableType) (name : List ℕ) (s : Spot) → R h (held_in (open_table room h (Some t) k name s))) where
    of_opened : (h : Held) (t u : ℕ) (o : Outcome) → R h (held_in o) → R h (held_in (opened t u o).outcome)
    of_opened h t u (done k) r = r
    of_opened h t u (refused k f) r = r

    step_keeps : (room : Room) (h : Held) (t : ℕ) (e : Entering) → R h (held_in (step room h t e).outcome)
    unfolding step
    step_keeps room h t (opens k name s) = of_opened h t (length h.tables) (open_table room h (Some t) k name s) (table room h t k name s)
    step_keeps room h t (enters role class name s) = names.one room h t role (mangled class name) s tt
    step_keeps room h t (uses class name s) = names.used room h t class name s tt
    step_keeps room h t (imports class name s) = names.imported room h t class name s tt
    step_keeps room h t (targets class name s) = names.target room h t (mangled class name) s (all_of_nothing (way_out h t).through) tt
    step_keeps room h t closes = none h
    step_keeps room h t (refuses r s) = none h

    of_onward : (h : Held) (t : ℕ) (o : Outcome) (next : Held → ℕ → Standing) → R h (held_in o) → ((k : Held) (u : ℕ) → R k (held_in (next k u).outcome)) → R h (held_in (onward t o next).outcome)
    of_onward h t (done k) next r goes = on h k (held_in (next k t).outcome) r (goes k t)
    of_onward h t (refused k f) next r goes = r

    pub run_keeps : (room : Room) (h : Held) (t : ℕ) (es : List Entering) → R h (held_in (run room h t es).outcome)
    unfolding run
    run_keeps room h t [] = none h
    run_keeps room h t (e ∷ es) =
        of_onward h (step room h t e).table (step room h t e).outcome (λ k u. run room k u es) (step_keeps room h t e) (λ k u. run_keeps room k u es)

    -- whatever the answer is
    pub runs_keep : {room : Room} {h : Held} {t : ℕ} {es : List Entering} {r : Result (Unit {0}) Fault} {k : Held} {u : ℕ} → Runs room h t es r k u → R h k
    runs_keep {room} {h} {t} {es} {r} {k} {u} p = subst (R h) (sym (held_then (run room h t es).table (run room h t es).outcome p.ran)) (run_keeps room h t es)
      where
        held_then : (t' : ℕ) (o : Outcome) → AgreesBy t' o r k u → k ≡ held_in o
        held_then t' (done l) a = a.1
        held_then t' (refused l f) a = a.1

-- the tables of a run stand, and others come after them
tables_open : (room : Room) (h : Held) (t : ℕ) (k : SymbolTableType) (name : List ℕ) (s : Spot) → Longer h.tables (held_in (open_table room h (Some t) k name s)).tables
tables_open room h t k name s =
    open_cases room h (Some t) k name s (λ o. Longer h.tables (held_in o).tables)
    (λ i e. record { rest = new_table h (Some t) k i.number s ∷ []; is = ap (λ ts. ts ++ new_table h (Some t) k i.number s ∷ []) (interned_keeps room h name i e).0 })
    (λ f. longer_refl h.tables)

stand_throughout : Throughout (λ h t. Unit {0}) (λ h k. Longer h.tables k.tables)
stand_throughout =
    throughout_weaker (λ h t. Unit {0}) (λ h k. k.tables ≡ h.tables) (λ h k. Longer h.tables k.tables) (λ h k e. longer_is h.tables k.tables e) tables_stay

pub run_tables : (room : Room) (h : Held) (t : ℕ) (es : List Entering) → Longer h.tables (held_in (run room h t es).outcome).tables
run_tables = run_keeps (λ h k. Longer h.tables k.tables) (λ h. longer_refl h.tables) (λ h k l p q. longer_trans p q) stand_throughout tables_open

pub tables_stand : {room : Room} {h : Held} {t : ℕ} {es : List Entering} {r : Result (Unit {0}) Fault} {k : Held} {u : ℕ} → Runs room h t es r k u → Longer h.tables k.tables
tables_stand = runs_keep (λ h k. Longer h.tables k.tables) (λ h. longer_refl h.tables) (λ h k l p q. longer_trans p q) stand_throughout tables_open

-- its symbols stand where they stood, and only grow
symbols_open : (room : Room) (h : Held) (t : ℕ) (k : SymbolTableType) (name : List ℕ) (s : Spot) → AllGrown h (held_in (open_table room h (Some t) k name s))
symbols_open room h t k name s =
    open_cases room h (Some t) k name s (λ o. AllGrown h (held_in o))
    (λ i e. subst (λ ss. (j : ℕ) → j < length h.symbols → (j < length ss) × Grown (get_or h.symbols j no_symbol) (get_or ss j no_symbol)) (sym (interned_keeps room h name i e).1) (all_grown_self h))
    (λ f. all_grown_self h)

pub run_symbols : (room : Room) (h : Held) (t : ℕ) (es : List Entering) → AllGrown h (held_in (run room h t es).outcome)
run_symbols = run_keeps AllGrown all_grown_self all_grown_on masks_only_grow symbols_open

pub symbols_grow : {room : Room} {h : Held} {t : ℕ} {es : List Entering} {r : Result (Unit {0}) Fault} {k : Held} {u : ℕ} → Runs room h t es r k u → AllGrown h k
symbols_grow = runs_keep AllGrown all_grown_self all_grown_on masks_only_grow symbols_open
