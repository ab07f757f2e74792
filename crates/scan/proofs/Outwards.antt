-- What enterings do to the tables: one more, in the open one; or the one around the open one is open.
use Rattle.std.proofs.Common.{◌≡◌, ℕ, zero, suc, ◌<◌, ◌⊎◌, List, [], ◌∷◌, ◌++◌, length, Some, None, Option, sym, refl, ap, subst, inl, inr, arith}
use Rattle.std.specs.List.{slice_get}
use Rattle.std.proofs.lemmas.List.{length-append}
use Rattle.symbols.specs.declared.table.SymbolTable.{SymbolTable}
use Rattle.symbols.specs.declared.table.SymbolTableType.{SymbolTableType}
use Rattle.symbols.specs.Faults.{Spot}
use Rattle.store.specs.Held.{Held, Room}
use Rattle.store.specs.Mangling.{mangled}
use Rattle.store.specs.Outward.{way_out}
use Rattle.store.specs.Sound.{parent_by}
use Rattle.store.specs.Tables.{new_table, open_table}
use Rattle.store.specs.Throughout.{held_in}
use Rattle.store.proofs.Others.{interned_keeps, tables_stay}
use Rattle.scan.specs.Entering.{Entering, opens, enters, uses, imports, targets, closes, refuses, opened, or_stay, step, run}
use Rattle.scan.specs.Laws.{Outwards}
use Rattle.scan.proofs.Invariants.{after_run}
use Rattle.scan.proofs.Keeping.{open_cases, all_of_nothing}

-- the table around a table, once one more has come
pub parent_pushed :
    (ts : List SymbolTable) (x : SymbolTable) (i p : ℕ) → parent_by (slice_get (ts ++ x ∷ []) i) ≡ Some p →
    (parent_by (slice_get ts i) ≡ Some p) ⊎ ((i ≡ length ts) × (x.parent ≡ Some p))
parent_pushed [] x zero p e = inr (refl, e)
parent_pushed [] x (suc i) p e = inl e
parent_pushed (y ∷ ys) x zero p e = inl e
parent_pushed (y ∷ ys) x (suc i) p e = elim (parent_pushed ys x i p e) [ inl a ↦ inl a | inr a ↦ inr (ap suc a.0, a.1) ]

-- what holds of the tables and the open one, whichever enterings come
module _ (J : List SymbolTable → ℕ → Type 0) (one_more : (ts : List SymbolTable) (t : ℕ) (x : SymbolTable) → x.parent ≡ Some t → J ts t → J (ts ++ x ∷ []) (length ts)) (around : (ts : List SymbolTable) (t p : ℕ) → parent_by (slice_get ts t) ≡ Some p → J ts t → J ts p) where
  same_tables : (ts us : List SymbolTable) (t : ℕ) → us ≡ ts → J ts t → J us t
  same_tables ts us t e j = subst (λ vs. J vs t) (sym e) j

  by_opening : (room : Room) (h : Held) (t : ℕ) (k : SymbolTableType) (name : List ℕ) (s : Spot) → J h.tables t →
      J (held_in (opened t (length h.tables) (open_table room h (Some t) k name s)).outcome).tables (opened t (length h.tables) (open_table room h (Some t) k name s)).table
  by_opening room h t k name s j =
      open_cases room h (Some t) k name s (λ o. J (held_in (opened t (length h.tables) o).outcome).tables (opened t (length h.tables) o).table)
      (λ i e. subst (λ ts. J (ts ++ new_table h (Some t) k i.number s ∷ []) (length h.tables)) (sym (interned_keeps room h name i e).0) (one_more h.tables t (new_table h (Some t) k i.number s) refl j))
      (λ f. j)

  by_closing : (ts : List SymbolTable) (t : ℕ) (o : Option ℕ) → parent_by (slice_get ts t) ≡ o → J ts t → J ts (or_stay t o)
  by_closing ts t (Some p) e j = around ts t p e j
  by_closing ts t None e j = j

  pub step_tables : (room : Room) (h : Held) (t : ℕ) (e : Entering) → J h.tables t → J (held_in (step room h t e).outcome).tables (step room h t e).table
  unfolding step
  step_tables room h t (opens k name s) j = by_opening room h t k name s j
  step_tables room h t (enters role class name s) j = same_tables h.tables _ t (tables_stay.one room h t role (mangled class name) s tt) j
  step_tables room h t (uses class name s) j = same_tables h.tables _ t (tables_stay.used room h t class name s tt) j
  step_tables room h t (imports class name s) j = same_tables h.tables _ t (tables_stay.imported room h t class name s tt) j
  step_tables room h t (targets class name s) j = same_tables h.tables _ t (tables_stay.target room h t (mangled class name) s (all_of_nothing (way_out h t).through) tt) j
  step_tables room h t closes j = by_closing h.tables t (parent_by (slice_get h.tables t)) refl j
  step_tables room h t (refuses r s) j = j

  pub tables_after : (room : Room) (h : Held) (t : ℕ) (es : List Entering) → J h.tables t → J (held_in (run room h t es).outcome).tables (run room h t es).table
  tables_after room = after_run room (λ h t. J h.tables t) (step_tables room)

-- the table around a table comes before it, and the open one is there
record InOrder (ts : List SymbolTable) (t : ℕ) : Type 0 where
  outwards : (i p : ℕ) → parent_by (slice_get ts i) ≡ Some p → p < i
  there : t < length ts

order_more : (ts : List SymbolTable) (t : ℕ) (x : SymbolTable) → x.parent ≡ Some t → InOrder ts t → InOrder (ts ++ x ∷ []) (length ts)
order_more ts t x e j =
    record {
      outwards = λ i p q. elim (parent_pushed ts x i p q) [
        | inl a ↦ j.outwards i p a
        | inr a ↦ let d : t ≡ p = (let b = a.1 in cc) in let l = j.there in omega (arith, d, a.0)
      ];
      there = let n = length-append ts (x ∷ []) in omega arith;
    }

order_around : (ts : List SymbolTable) (t p : ℕ) → parent_by (slice_get ts t) ≡ Some p → InOrder ts t → InOrder ts p
order_around ts t p e j = record { outwards = j.outwards; there = let a = j.outwards t p e in let b = j.there in omega arith }

pub parents_first :
    (room : Room) (h : Held) (t : ℕ) (es : List Entering) → Outwards h → t < length h.tables →
    Outwards (held_in (run room h t es).outcome) × ((run room h t es).table < length (held_in (run room h t es).outcome).tables)
parents_first room h t es o l =
    let j = tables_after InOrder order_more order_around room h t es (record { outwards = o; there = l }) in
    (j.outwards, j.there)
