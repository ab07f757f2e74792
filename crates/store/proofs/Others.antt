-- What an entering leaves alone: the tables, and the symbols of every other table.
use Rattle.std.proofs.Common.{◌≡◌, ℕ, zero, suc, ◌<◌, Bool, false, cond, eqb, List, [], ◌∷◌, ◌++◌, map, length, get_or, set, Some, filter, sym, refl, ap, ◌∙◌, arith}
use Rattle.std.proofs.lemmas.List.Elements.{filter-append}
use Rattle.std.proofs.lemmas.List.{append-nil, get_or-map, length-map}
use Rattle.std.proofs.lemmas.Bool.{cond-false, ne_eqb}
use Rattle.symbols.specs.Faults.{Spot}
use Rattle.symbols.specs.declared.symbol.Symbol.{Symbol}
use Rattle.symbols.specs.declared.usage.SymbolUsage.{SymbolUsage}
use Rattle.store.specs.Enterings.{again, entered, key_of, no_symbol, symbol_of}
use Rattle.store.specs.Held.{Held, Room}
use Rattle.store.specs.Laws.{OthersStay, TablesStay}
use Rattle.store.specs.Names.{symbols_in}
use Rattle.store.specs.Texts.{Interned, interned}
use Rattle.store.specs.Throughout.{Anywhere, NotIn, held_in}
use Rattle.store.proofs.Inversion.{OnceMore, enter_cases, first_time, interned_cases, not_some, one_some, once_more}
use Rattle.store.proofs.Places.{place_first}
use Rattle.store.proofs.Runs.{throughout}

-- a filter does not see a change of what it does not keep
pub kept_by_set : {X : Type 0} (p : X → Bool) (xs : List X) (i : ℕ) (y d : X) → p y ≡ false → p (get_or xs i d) ≡ false → filter p (set xs i y) ≡ filter p xs
kept_by_set p [] i y d a b = refl
kept_by_set p (x ∷ xs) zero y d a b = cond-false (p y) _ _ a ∙ sym (cond-false (p x) _ _ b)
kept_by_set p (x ∷ xs) (suc i) y d a b = ap (λ zs. cond (p x) (x ∷ zs) zs) (kept_by_set p xs i y d a b)

-- the symbol that a search for a key finds has that table and that text
pub symbol_there : (h : Held) (t x i : ℕ) → symbol_of h t x ≡ Some i → (i < length h.symbols) × ((get_or h.symbols i no_symbol).table ≡ t) × ((get_or h.symbols i no_symbol).name ≡ x)
symbol_there h t x i e =
    let f = place_first (map key_of h.symbols) (t ∷ x ∷ []) i e in
    let n = length-map h.symbols key_of in
    let l : i < length h.symbols = omega (arith, f.0) in
    let s = get_or h.symbols i no_symbol in
    let k : key_of s ≡ t ∷ x ∷ [] = sym (get_or-map key_of h.symbols i no_symbol [] l) ∙ f.1 in
    (l, ap (λ q. get_or q 0 0) k, ap (λ q. get_or q 1 0) k)

-- interning touches neither tables nor symbols
pub interned_keeps : (room : Room) (h : Held) (text : List ℕ) (m : Interned) → interned room h text ≡ Some m → (m.held.tables ≡ h.tables) × (m.held.symbols ≡ h.symbols)
interned_keeps room h text m =
    interned_cases room h text (λ o. o ≡ Some m → (m.held.tables ≡ h.tables) × (m.held.symbols ≡ h.symbols))
    (λ i a e. let q = one_some _ m e in (ap (λ z. z.held.tables) (sym q), ap (λ z. z.held.symbols) (sym q)))
    (λ a b e. let q = one_some _ m e in (ap (λ z. z.held.tables) (sym q), ap (λ z. z.held.symbols) (sym q)))
    (λ a b e. not_some m (sym e))

-- however names are entered, the tables stay
pub tables_stay : TablesStay
tables_stay =
    throughout Anywhere (λ h k. k.tables ≡ h.tables) (λ h. refl) (λ h k l p q. q ∙ p) (λ h k t r a. tt)
    (λ room h t role text spot a.
    enter_cases room h t role text spot (λ o. (held_in o).tables ≡ h.tables) (λ x i w. refl) (λ m w. (interned_keeps room h text m w.number).0) (λ f w. refl))

module _ (h : Held) (t u : ℕ) (apart : u ≡ t → ⊥) where
  other_table : (s : Symbol) → s.table ≡ t → eqb s.table u ≡ false
  other_table s e = ne_eqb s.table u (λ q. apart (sym q ∙ e))

  others_once_more : (role : SymbolUsage) (text : List ℕ) (x i : ℕ) → OnceMore h t role text x i → symbols_in (once_more h role i) u ≡ symbols_in h u
  others_once_more role text x i w =
      let s = get_or h.symbols i no_symbol in
      let f = symbol_there h t x i w.stands in
      kept_by_set (λ z. eqb z.table u) h.symbols i (again role s) no_symbol (other_table (again role s) f.1) (other_table s f.1)

  others_first_time : (role : SymbolUsage) (spot : Spot) (m : Interned) → symbols_in (first_time h t role spot m) u ≡ symbols_in h u
  others_first_time role spot m =
      let s = entered role t m.number spot in
      let p : Symbol → Bool = λ z. eqb z.table u in
      filter-append p h.symbols (s ∷ []) ∙ ap (λ zs. filter p h.symbols ++ zs) (cond-false (p s) (s ∷ []) [] (other_table s refl)) ∙ append-nil (filter p h.symbols)

-- however names are entered, the symbols of a table that is not entered in stay as they are
pub others_stay : OthersStay
others_stay u =
    throughout (NotIn u) (λ h k. symbols_in k u ≡ symbols_in h u) (λ h. refl) (λ h k l p q. q ∙ p) (λ h k t r a. a)
    (λ room h t role text spot a.
    enter_cases room h t role text spot (λ o. symbols_in (held_in o) u ≡ symbols_in h u) (λ x i w. others_once_more h t u a role text x i w)
    (λ m w. others_first_time h t u a role spot m) (λ f w. refl))
