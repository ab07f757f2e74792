-- How an entering can come out: accepted once more or for the first time, or refused, and what was the case.
use Rattle.std.proofs.Common.{◌≡◌, ℕ, ◌<◌, ◌≤◌, true, false, ltb, List, [], ◌∷◌, ◌++◌, length, get_or, set, Some, None, Option, sym, refl, subst, arith}
use Rattle.std.proofs.lemmas.Bool.{cond_both, ltb-true, ltb-false}
use Rattle.symbols.specs.declared.fault.Fault.{Fault}
use Rattle.symbols.specs.declared.fault.MemoryReason.TheVariants as lack
use Rattle.symbols.specs.declared.fault.ScanReason.{ScanReason}
use Rattle.symbols.specs.declared.usage.SymbolUsage.{SymbolUsage}
use Rattle.store.specs.Enterings.{again, entered, enter, enter_again, enter_at, enter_first, enter_new, first_objection, kind_of, no_symbol, objection, stands_at, stands_by, symbol_of, with_symbols}
use Rattle.symbols.specs.Faults.{Spot, memory_fault, scan_fault}
use Rattle.store.specs.Held.{Held, Room, Outcome, done, refused}
use Rattle.store.specs.Texts.{Interned, fits_in, interned, interned_by, number_of, with_text}

-- nothing is both accepted and refused
pub not_both : {X : Type 0} (h k : Held) (f : Fault) → refused k f ≡ done h → X
not_both h k f e = let z : ◌≡◌ {A = ℕ} 0 1 = cc in absurd (omega arith)

pub not_some : {A X : Type 0} (x : A) → Some x ≡ None → X
not_some x e = let z : ◌≡◌ {A = ℕ} 0 1 = cc in absurd (omega arith)

pub one_done : (h k : Held) → done h ≡ done k → h ≡ k
one_done h k e = cc

pub one_some : {A : Type 0} (x y : A) → Some x ≡ Some y → x ≡ y
one_some x y e = cc

-- a text is held already, or is added, or does not fit
module _ (room : Room) (h : Held) (text : List ℕ) (P : Option Interned → Type 0) where
  pub interned_cases :
      ((i : ℕ) → number_of h text ≡ Some i → P (Some (record { held = h; number = i })))
      → (number_of h text ≡ None → fits_in room h text ≡ true → P (Some (record { held = with_text h text; number = length h.texts })))
      → (number_of h text ≡ None → fits_in room h text ≡ false → P None)
      → P (interned room h text)
  interned_cases there added none = go (number_of h text) refl
    where
      go : (o : Option ℕ) → number_of h text ≡ o → P (interned_by room h text o)
      go (Some i) e = there i e
      go None e = cond_both (fits_in room h text) (Some (record { held = with_text h text; number = length h.texts })) None P (added e) (none e)

-- the table has the name, of text x, at place i, and nothing is said against the role
pub record OnceMore (h : Held) (t : ℕ) (role : SymbolUsage) (text : List ℕ) (x i : ℕ) : Type 0 where
  pub held : number_of h text ≡ Some x
  pub stands : symbol_of h t x ≡ Some i
  pub allowed : objection role (get_or h.symbols i no_symbol) ≡ None

-- the name is new in the table, nothing is said against the role, and text and symbol fit
pub record FirstTime (room : Room) (h : Held) (t : ℕ) (role : SymbolUsage) (text : List ℕ) (m : Interned) : Type 0 where
  pub new : stands_at h t text ≡ None
  pub allowed : first_objection role (kind_of h t) ≡ None
  pub number : interned room h text ≡ Some m
  pub fits : length h.symbols < room.symbols

-- why an entering is refused, with the fault
pub data Refusal (room : Room) (h : Held) (t : ℕ) (role : SymbolUsage) (text : List ℕ) (spot : Spot) : Fault → Type 0 where
  objected : (i : ℕ) (r : ScanReason) →
      stands_at h t text ≡ Some i → objection role (get_or h.symbols i no_symbol) ≡ Some r → Refusal room h t role text spot (scan_fault r spot)
  objected_first : (r : ScanReason) → stands_at h t text ≡ None → first_objection role (kind_of h t) ≡ Some r → Refusal room h t role text spot (scan_fault r spot)
  no_text : stands_at h t text ≡ None → first_objection role (kind_of h t) ≡ None → interned room h text ≡ None → Refusal room h t role text spot (memory_fault lack.Texts spot)
  no_symbol_fits : (m : Interned) →
      stands_at h t text ≡ None → first_objection role (kind_of h t) ≡ None → interned room h text ≡ Some m → room.symbols ≤ length h.symbols → Refusal room h t role text spot (memory_fault lack.Symbols spot)

-- what is held after an entering once more, and after a first one
abbrev pub once_more : Held → SymbolUsage → ℕ → Held
once_more h role i = with_symbols h (set h.symbols i (again role (get_or h.symbols i no_symbol)))

abbrev pub first_time : Held → ℕ → SymbolUsage → Spot → Interned → Held
first_time h t role spot m = with_symbols m.held (h.symbols ++ entered role t m.number spot ∷ [])

-- whatever holds of each way holds of an entering
module _ (room : Room) (h : Held) (t : ℕ) (role : SymbolUsage) (text : List ℕ) (spot : Spot) (P : Outcome → Type 0) where
  module _ (more : (x i : ℕ) → OnceMore h t role text x i → P (done (once_more h role i)))
      (first : (m : Interned) → FirstTime room h t role text m → P (done (first_time h t role spot m)))
      (not : (f : Fault) → Refusal room h t role text spot f → P (refused h f)) where
    again_cases : (x i : ℕ) → number_of h text ≡ Some x → symbol_of h t x ≡ Some i → stands_at h t text ≡ Some i →
        (o : Option ScanReason) → objection role (get_or h.symbols i no_symbol) ≡ o → P (enter_again h role spot i o)
    again_cases x i n s at' (Some r) e = not (scan_fault r spot) (objected i r at' e)
    again_cases x i n s at' None e = more x i (record { held = n; stands = s; allowed = e })

    new_cases : stands_at h t text ≡ None → first_objection role (kind_of h t) ≡ None → (o : Option Interned) → interned room h text ≡ o → P (enter_new room h t role spot o)
    new_cases a b None e = not (memory_fault lack.Texts spot) (no_text a b e)
    new_cases a b (Some m) e =
        cond_both (ltb (length h.symbols) room.symbols) (done (first_time h t role spot m)) (refused h (memory_fault lack.Symbols spot)) P
        (λ l. first m (record { new = a; allowed = b; number = e; fits = ltb-true (length h.symbols) room.symbols l }))
        (λ l. not (memory_fault lack.Symbols spot) (no_symbol_fits m a b e (ltb-false (length h.symbols) room.symbols l)))

    first_cases : stands_at h t text ≡ None → (o : Option ScanReason) → first_objection role (kind_of h t) ≡ o → P (enter_first room h t role text spot o)
    first_cases a (Some r) e = not (scan_fault r spot) (objected_first r a e)
    first_cases a None e = new_cases a e (interned room h text) refl

    at_cases : (o : Option ℕ) → number_of h text ≡ o → (s : Option ℕ) → stands_by h t o ≡ s → stands_at h t text ≡ s → P (enter_at room h t role text spot s)
    at_cases (Some x) n (Some i) s a = again_cases x i n s a (objection role (get_or h.symbols i no_symbol)) refl
    at_cases (Some x) n None s a = first_cases a (first_objection role (kind_of h t)) refl
    at_cases None n (Some i) s a = not_some i (sym s)
    at_cases None n None s a = first_cases a (first_objection role (kind_of h t)) refl

    pub enter_cases : P (enter room h t role text spot)
    unfolding enter
    enter_cases = at_cases (number_of h text) refl (stands_at h t text) refl refl

-- an accepted entering went one of two ways
module _ (room : Room) (h : Held) (t : ℕ) (role : SymbolUsage) (text : List ℕ) (spot : Spot) where
  pub accepted : (P : Held → Type 0) → ((x i : ℕ) → OnceMore h t role text x i → P (once_more h role i)) →
      ((m : Interned) → FirstTime room h t role text m → P (first_time h t role spot m)) → (k : Held) → enter room h t role text spot ≡ done k → P k
  accepted P more first k =
      enter_cases room h t role text spot (λ o. o ≡ done k → P k)
      (λ x i w e. subst P (one_done (once_more h role i) k e) (more x i w))
      (λ m w e. subst P (one_done (first_time h t role spot m) k e) (first m w))
      (λ f w e. not_both k h f e)

  -- a refused one has changed nothing, and has a reason
  pub refused_why : (k : Held) (f : Fault) → enter room h t role text spot ≡ refused k f → (k ≡ h) × Refusal room h t role text spot f
  refused_why k f =
      enter_cases room h t role text spot (λ o. o ≡ refused k f → (k ≡ h) × Refusal room h t role text spot f)
      (λ x i w e. not_both (once_more h role i) k f (sym e))
      (λ m w e. not_both (first_time h t role spot m) k f (sym e))
      (λ g w e. let a : k ≡ h = cc in let b : g ≡ f = cc in (a, subst (Refusal room h t role text spot) b w))
