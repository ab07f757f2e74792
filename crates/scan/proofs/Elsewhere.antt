-- What begins in the module enters names in the module and in new tables only.
use Rattle.std.proofs.Common.{◌≡◌, ℕ, zero, suc, ◌<◌, ◌≤◌, Bool, true, false, cond, eqb, ltb, ◌⊎◌, List, [], ◌∷◌, ◌++◌, length, Some, None, filter, Option, refl, ap, ◌∙◌, subst, inl, inr, arith}
use Rattle.std.specs.List.{slice_get, All}
use Rattle.std.proofs.lemmas.List.Elements.{All-nil, All-cons}
use Rattle.std.proofs.lemmas.List.{length-append}
use Rattle.std.proofs.lemmas.Option.{slice_get_past}
use Rattle.symbols.specs.Faults.{Spot}
use Rattle.symbols.specs.declared.table.SymbolTable.{SymbolTable}
use Rattle.symbols.specs.declared.table.SymbolTableType.{SymbolTableType}
use Rattle.store.specs.Held.{Held, Room}
use Rattle.store.specs.Mangling.{mangled}
use Rattle.store.specs.Names.{symbols_in}
use Rattle.store.specs.Outward.{Way, is_comprehension, below_by, around_by, around_comprehension, further, way_from}
use Rattle.store.specs.Sound.{parent_by}
use Rattle.store.specs.Tables.{open_table}
use Rattle.store.specs.Throughout.{held_in}
use Rattle.store.proofs.Others.{interned_keeps, others_stay}
use Rattle.scan.specs.Entering.{Entering, opens, enters, uses, imports, targets, closes, refuses, opened, step, run}
use Rattle.scan.specs.Laws.{Outwards}
use Rattle.scan.proofs.Blocks.{nth_front}
use Rattle.scan.proofs.Invariants.{after_run}
use Rattle.scan.proofs.Keeping.{open_cases}
use Rattle.scan.proofs.Outwards.{parent_pushed, step_tables}

apart : {X : Type 0} → ◌≡◌ {A = ℕ} 0 1 → X
apart z = absurd (omega arith)

module _ (n : ℕ) where
  -- the module, or a table that was not among the first n
  abbrev New : ℕ → Type 0
  New t = (t ≡ 0) ⊎ (n ≤ t)

  -- the open table is new, and so is the table around any new one
  pub record Fresh (ts : List SymbolTable) (t : ℕ) : Type 0 where
    pub open_new : New t
    pub top : parent_by (slice_get ts 0) ≡ None
    pub around_new : (i p : ℕ) → n ≤ i → parent_by (slice_get ts i) ≡ Some p → New p
    pub some : 0 < length ts
    pub many : n ≤ length ts

  fresh_more : (ts : List SymbolTable) (t : ℕ) (x : SymbolTable) → x.parent ≡ Some t → Fresh ts t → Fresh (ts ++ x ∷ []) (length ts)
  fresh_more ts t x e j =
      let l = length-append ts (x ∷ []) in
      record {
        open_new = inr j.many;
        top = ap parent_by (nth_front ts (x ∷ []) 0 j.some) ∙ j.top;
        around_new = λ i p a q. elim (parent_pushed ts x i p q) [
          | inl b ↦ j.around_new i p a b
          | inr b ↦ let d : t ≡ p = (let c = b.1 in cc) in subst New d j.open_new
        ];
        some = let a = j.some in omega arith;
        many = let a = j.many in omega arith;
      }

  fresh_around : (ts : List SymbolTable) (t p : ℕ) → parent_by (slice_get ts t) ≡ Some p → Fresh ts t → Fresh ts p
  fresh_around ts t p e j =
      record {
        open_new = elim j.open_new [
          | inl z ↦ let a = ap (λ i. parent_by (slice_get ts i)) z in let b = j.top in apart (cc)
          | inr a ↦ j.around_new t p a e
        ];
        top = j.top;
        around_new = j.around_new;
        some = j.some;
        many = j.many;
      }

  -- the way outwards of a named expression
  below_is : (t p q : ℕ) (b : Bool) → cond b (Some q) None ≡ Some p → Some q ≡ Some p
  below_is t p q true e = e
  below_is t p q false e = apart (cc)

  around_is : (t p : ℕ) (b : Bool) (o : Option ℕ) → cond b (below_by t o) None ≡ Some p → o ≡ Some p
  around_is t p true (Some q) e = below_is t p q (ltb q t) e
  around_is t p true None e = e
  around_is t p false o e = apart (cc)

  around_parent : (t p : ℕ) (o : Option SymbolTable) → around_by t o ≡ Some p → parent_by o ≡ Some p
  around_parent t p (Some x) e = around_is t p (is_comprehension x.typ) x.parent e
  around_parent t p None e = e

  module _ (v : ℕ) (old : 0 < v) (first : v < n) where
    not_new : (t : ℕ) → New t → v ≡ t → ⊥
    not_new t (inl z) e = omega (arith, z, e)
    not_new t (inr l) e = omega (arith, l, e)

    -- none of these tables is v
    abbrev Misses : Way → Type 0
    Misses w = All (λ u. v ≡ u → ⊥) w.through × (v ≡ w.host → ⊥)

    further_new : (ts : List SymbolTable) (t : ℕ) (next : ℕ → Way) (o : Option ℕ) → around_comprehension ts t ≡ o → Fresh ts t → ((p : ℕ) → Fresh ts p → Misses (next p)) → Misses (further o t next)
    further_new ts t next (Some p) e j goes =
        let w = goes p (fresh_around ts t p (around_parent t p (slice_get ts t) e) j) in
        (All-cons (λ u. v ≡ u → ⊥) t (next p).through (not_new t j.open_new) w.0, w.1)
    further_new ts t next None e j goes = (All-nil (λ u. v ≡ u → ⊥), not_new t j.open_new)

    way_new : (ts : List SymbolTable) (m t : ℕ) → Fresh ts t → Misses (way_from ts m t)
    way_new ts zero t j = (All-nil (λ u. v ≡ u → ⊥), not_new t j.open_new)
    way_new ts (suc m) t j = further_new ts t (way_from ts m) (around_comprehension ts t) refl j (λ p k. way_new ts m p k)

    -- one entering does not touch table v
    symbols_by_opening : (room : Room) (h : Held) (t : ℕ) (k : SymbolTableType) (name : List ℕ) (s : Spot) → symbols_in (held_in (opened t (length h.tables) (open_table room h (Some t) k name s)).outcome) v ≡ symbols_in h v
    symbols_by_opening room h t k name s =
        open_cases room h (Some t) k name s (λ o. symbols_in (held_in (opened t (length h.tables) o).outcome) v ≡ symbols_in h v)
        (λ i e. ap (λ ss. filter (λ x. eqb x.table v) ss) (interned_keeps room h name i e).1) (λ f. refl)

    step_misses : (room : Room) (h : Held) (t : ℕ) (e : Entering) → Fresh h.tables t → symbols_in (held_in (step room h t e).outcome) v ≡ symbols_in h v
    unfolding step
    step_misses room h t (opens k name s) j = symbols_by_opening room h t k name s
    step_misses room h t (enters role class name s) j = (others_stay v).one room h t role (mangled class name) s (not_new t j.open_new)
    step_misses room h t (uses class name s) j = (others_stay v).used room h t class name s (not_new t j.open_new)
    step_misses room h t (imports class name s) j = (others_stay v).imported room h t class name s (not_new t j.open_new)
    step_misses room h t (targets class name s) j =
        let w = way_new h.tables t t j in
        (others_stay v).target room h t (mangled class name) s w.0 w.1
    step_misses room h t closes j = refl
    step_misses room h t (refuses r s) j = refl

    run_misses : (room : Room) (h k : Held) (t : ℕ) (es : List Entering) → Fresh h.tables t → symbols_in h v ≡ symbols_in k v → symbols_in (held_in (run room h t es).outcome) v ≡ symbols_in k v
    run_misses room h k t es j q =
        (after_run room (λ l u. Fresh l.tables u × (symbols_in l v ≡ symbols_in k v))
        (λ l u e p. (step_tables Fresh fresh_more fresh_around room l u e p.0, step_misses room l u e p.0 ∙ p.1)) h t es (j, q)).1

-- at the start all tables are old
top_none : (o : Option ℕ) → ((p : ℕ) → o ≡ Some p → p < 0) → o ≡ None
top_none (Some p) f = absurd (let l = f p refl in omega arith)
top_none None f = refl

none_past : (ts : List SymbolTable) (i p : ℕ) → length ts ≤ i → parent_by (slice_get ts i) ≡ Some p → ⊥
none_past ts i p l e = let n = ap parent_by (slice_get_past ts i l) in apart (cc)

all_old : (h : Held) → Outwards h → 0 < length h.tables → Fresh (length h.tables) h.tables 0
all_old h o l =
    record {
      open_new = inl refl;
      top = top_none (parent_by (slice_get h.tables 0)) (o 0);
      around_new = λ i p a e. absurd (none_past h.tables i p a e);
      some = l;
      many = omega arith;
    }

pub inner_stay :
    (room : Room) (h : Held) (es : List Entering) → Outwards h → (v : ℕ) → 0 < v → v < length h.tables →
    symbols_in (held_in (run room h 0 es).outcome) v ≡ symbols_in h v
inner_stay room h es o v a b = run_misses (length h.tables) v a b room h h 0 es (all_old h o (omega arith)) refl
