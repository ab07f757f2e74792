-- A table from its opening to its closing.
use Rattle.std.proofs.Common.{◌≡◌, ℕ, zero, suc, ◌<◌, List, [], ◌∷◌, ◌++◌, length, Some, Ok, Result, sym, refl, ap, ◌∙◌, subst, arith}
use Rattle.std.specs.List.{slice_get}
use Rattle.std.proofs.lemmas.List.{length-append}
use Rattle.symbols.specs.declared.fault.Fault.{Fault}
use Rattle.symbols.specs.Faults.{Spot}
use Rattle.symbols.specs.declared.table.SymbolTable.{SymbolTable}
use Rattle.symbols.specs.declared.table.SymbolTableType.{SymbolTableType}
use Rattle.store.specs.Held.{Held, Room, done}
use Rattle.store.specs.Sound.{parent_by, parent_of}
use Rattle.store.specs.Tables.{new_table, open_table}
use Rattle.store.specs.Throughout.{held_in}
use Rattle.store.proofs.Inversion.{not_both}
use Rattle.store.proofs.Others.{interned_keeps}
use Rattle.store.proofs.TableOpens.{nth_last}
use Rattle.scan.specs.Entering.{Entering, opens, closes, standing, opened, or_stay, step}
use Rattle.scan.specs.Runs.{Runs}
use Rattle.scan.proofs.Compose.{went, stepped, and_then}
use Rattle.scan.proofs.Keeping.{open_cases, tables_stand}
use Rattle.scan.proofs.Turns.{run_one}

-- table u stands in table t
pub record StandsIn (h : Held) (u t : ℕ) : Type 0 where
  pub within : u < length h.tables
  pub around : parent_of h u ≡ Some t

pub nth_front : {X : Type 0} (xs ys : List X) (i : ℕ) → i < length xs → slice_get (xs ++ ys) i ≡ slice_get xs i
nth_front [] ys i l = absurd (omega arith)
nth_front (x ∷ xs) ys zero l = refl
nth_front (x ∷ xs) ys (suc i) l = nth_front xs ys i (omega arith)

-- it still does after a run
pub stands_still : {room : Room} {h : Held} {t : ℕ} {es : List Entering} {r : Result (Unit {0}) Fault} {k : Held} {u a b : ℕ} → StandsIn h a b → Runs room h t es r k u → StandsIn k a b
stands_still {h = h} {k = k} {a = a} {b = b} s p =
    let l = tables_stand p in
    let n = length-append h.tables l.rest in
    record {
      within = subst (λ ts. a < length ts) (sym l.is) (let w = s.within in omega arith);
      around = ap (λ ts. parent_by (slice_get ts a)) l.is ∙ ap parent_by (nth_front h.tables l.rest a s.within) ∙ s.around;
    }

-- a table that is opened stands in the one that was open
module _ (room : Room) (h : Held) (t : ℕ) (k : SymbolTableType) (name : List ℕ) (s : Spot) (h₁ : Held) (u : ℕ) where
  abbrev new : ℕ → SymbolTable
  new x = new_table h (Some t) k x s

  at_the_end : (x : ℕ) → h₁.tables ≡ h.tables ++ new x ∷ [] → u ≡ length h.tables → StandsIn h₁ u t
  at_the_end x e l =
      let n = length-append h.tables (new x ∷ []) in
      record {
        within = subst (λ ts. u < length ts) (sym e) (omega arith);
        around = ap (λ ts. parent_by (slice_get ts u)) e ∙ ap (λ i. parent_by (slice_get (h.tables ++ new x ∷ []) i)) l ∙ ap parent_by (nth_last h.tables (new x) (length h.tables) refl);
      }

  by_outcome : opened t (length h.tables) (open_table room h (Some t) k name s) ≡ standing u (done h₁) → StandsIn h₁ u t
  by_outcome =
      open_cases room h (Some t) k name s (λ o. opened t (length h.tables) o ≡ standing u (done h₁) → StandsIn h₁ u t)
      (λ i w e. at_the_end i.number (ap (λ z. (held_in z.outcome).tables) (sym e) ∙ ap (λ ts. ts ++ new i.number ∷ []) (interned_keeps room h name i w).0) (ap (λ z. z.table) (sym e)))
      (λ f e. not_both h₁ h f (ap (λ z. z.outcome) e))

pub opened_in : {room : Room} {h : Held} {t : ℕ} {k : SymbolTableType} {name : List ℕ} {s : Spot} {h₁ : Held} {u : ℕ} → Runs room h t (opens k name s ∷ []) (Ok tt) h₁ u → StandsIn h₁ u t
unfolding step
opened_in {room} {h} {t} {k} {name} {s} {h₁} {u} p = by_outcome room h t k name s h₁ u (sym (run_one room h t (opens k name s)) ∙ went p)

-- closing it, the table that it stands in is open again
pub shut : {room : Room} {h : Held} {u t : ℕ} → StandsIn h u t → Runs room h u (closes ∷ []) (Ok tt) h t
unfolding step
shut {room} {h} {u} {t} s = stepped (refl, refl, ap (or_stay u) (sym s.around))

-- a table with what is entered while it is open
pub scoped :
    {room : Room} {h h₁ h₂ : Held} {t u : ℕ} {xs ys : List Entering} →
    Runs room h t xs (Ok tt) h₁ u → StandsIn h₁ u t → Runs room h₁ u ys (Ok tt) h₂ u → Runs room h t (xs ++ (ys ++ closes ∷ [])) (Ok tt) h₂ t
scoped p s q = and_then p (and_then q (shut (stands_still s q)))
