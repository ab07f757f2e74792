-- What is sound stays sound when a name is entered.
use Rattle.std.proofs.Common.{◌≡◌, ℕ, ◌<◌, ◌≤◌, List, [], ◌∷◌, map, length, get_or, Some, None, sym, refl, ap, ◌∙◌, subst, inl, inr, arith}
use Rattle.std.specs.List.{slice_get, All}
use Rattle.std.proofs.lemmas.List.Elements.{All-get_or, All-push, All-set, All-weaker}
use Rattle.std.proofs.lemmas.List.{get_or-map, length-map}
use Rattle.ordered.specs.Keys.{Absent, Distinct}
use Rattle.ordered.proofs.Enters.{distinct_push}
use Rattle.symbols.specs.Faults.{Spot}
use Rattle.symbols.specs.declared.symbol.Symbol.{Symbol}
use Rattle.symbols.specs.declared.table.SymbolTable.{SymbolTable}
use Rattle.symbols.specs.declared.usage.SymbolUsage.{SymbolUsage}
use Rattle.store.specs.Enterings.{again, entered, key_of, no_symbol, stands_at, stands_by}
use Rattle.store.specs.Held.{Held, Room}
use Rattle.store.specs.Laws.{NothingIsSound, SoundStays}
use Rattle.store.specs.Sound.{Sound, parent_by}
use Rattle.store.specs.Texts.{Interned, spelled, spellings}
use Rattle.store.specs.Throughout.{InTable, held_in}
use Rattle.store.proofs.Inversion.{FirstTime, OnceMore, enter_cases, first_time, not_some, once_more}
use Rattle.store.proofs.Order.{keys_first_time, keys_once_more}
use Rattle.store.proofs.Others.{interned_keeps, symbol_there}
use Rattle.store.proofs.Places.{place_absent, place_first}
use Rattle.store.proofs.Runs.{throughout, throughout_weaker}
use Rattle.store.proofs.TextsStay.{Interning, interning, longer_length}

-- a symbol that has one of n tables and one of m texts
abbrev pub PlacedIn : ℕ → ℕ → Symbol → Type 0
PlacedIn n m s = (s.table < n) × (s.name < m)

pub placed_more : (n n' m m' : ℕ) (ss : List Symbol) → n ≤ n' → m ≤ m' → All (PlacedIn n m) ss → All (PlacedIn n' m') ss
placed_more n n' m m' ss a b = All-weaker (PlacedIn n m) (PlacedIn n' m') (λ s p. (omega (arith, p.0), omega (arith, p.1))) ss

pub named_more : (m m' : ℕ) (ts : List SymbolTable) → m ≤ m' → All (λ x. x.name < m) ts → All (λ x. x.name < m') ts
named_more m m' ts a = All-weaker (λ x. x.name < m) (λ x. x.name < m') (λ x l. omega arith) ts

-- the number of an interned text is that of a text, and there are no fewer texts than before
module _ (h : Held) (text : List ℕ) (m : Interned) (g : Interning h text m) where
  pub number_below : m.number < length m.held.texts
  number_below =
      let f = place_first (spellings m.held) text m.number g.number in
      omega (arith, f.0, length-map m.held.texts (spelled m.held.bytes))

  pub texts_more : length h.texts ≤ length m.held.texts
  texts_more =
      omega (arith, longer_length (spellings h) (spellings m.held) g.kept.longer, length-map h.texts (spelled h.bytes), length-map m.held.texts (spelled m.held.bytes))

  -- the key of a name that is new in its table is new
  pub key_absent : (t : ℕ) → Sound h → stands_at h t text ≡ None → Absent (map key_of h.symbols) (t ∷ m.number ∷ [])
  key_absent t s e =
      elim g.old_or_next [
        | inl o ↦ place_absent (map key_of h.symbols) (t ∷ m.number ∷ []) (sym (ap (stands_by h t) o) ∙ e)
        | inr n ↦ λ j l q.
            let i : j < length h.symbols = omega (arith, l, length-map h.symbols key_of) in
            let b = All-get_or (PlacedIn (length h.tables) (length h.texts)) h.symbols j no_symbol i s.placed in
            let k : (get_or h.symbols j no_symbol).name ≡ m.number = ap (λ z. get_or z 1 0) (sym (get_or-map key_of h.symbols j no_symbol [] i) ∙ q) in
            omega (arith, b.1)
      ]

sound_once_more : (h : Held) (t : ℕ) (role : SymbolUsage) (text : List ℕ) (x i : ℕ) → OnceMore h t role text x i → Sound h → Sound (once_more h role i)
sound_once_more h t role text x i w s =
    let old = get_or h.symbols i no_symbol in
    let P = PlacedIn (length h.tables) (length h.texts) in
    record {
      inside = s.inside;
      apart = s.apart;
      placed = All-set P h.symbols i (again role old) (All-get_or P h.symbols i no_symbol (symbol_there h t x i w.stands).0 s.placed) s.placed;
      once = subst Distinct (sym (keys_once_more h role i)) s.once;
      named = s.named;
      outwards = s.outwards;
    }

sound_first_time : (room : Room) (h : Held) (t : ℕ) (role : SymbolUsage) (text : List ℕ) (spot : Spot) (m : Interned) →
    FirstTime room h t role text m → t < length h.tables → Sound h → Sound (first_time h t role spot m)
sound_first_time room h t role text spot m w b s =
    let g = interning room h text m s.inside w.number in
    let e = (interned_keeps room h text m w.number).0 in
    let n : length m.held.tables ≡ length h.tables = ap length e in
    let more = texts_more h text m g in
    let P = PlacedIn (length m.held.tables) (length m.held.texts) in
    let first : P (entered role t m.number spot) = (omega arith, number_below h text m g) in
    record {
      inside = g.kept.inside;
      apart = g.apart s.apart;
      placed = All-push P h.symbols (entered role t m.number spot) (placed_more (length h.tables) (length m.held.tables) (length h.texts) (length m.held.texts) h.symbols (omega arith) more s.placed) first;
      once = subst Distinct (sym (keys_first_time h t role spot m)) (distinct_push (map key_of h.symbols) (t ∷ m.number ∷ []) s.once (key_absent h text m g t s w.new));
      named = subst (All (λ x. x.name < length m.held.texts)) (sym e) (named_more (length h.texts) (length m.held.texts) h.tables more s.named);
      outwards = subst (λ ts. (u p : ℕ) → parent_by (slice_get ts u) ≡ Some p → p < u) (sym e) s.outwards;
    }

pub nothing_is_sound : NothingIsSound
nothing_is_sound =
    record {
      inside = λ k d l. absurd (omega arith);
      apart = λ i j l m e. absurd (omega arith);
      placed = λ k d l. absurd (omega arith);
      once = λ i j l m e. absurd (omega arith);
      named = λ k d l. absurd (omega arith);
      outwards = λ t p e. not_some p (sym e);
    }

-- however names are entered in tables that there are, what is sound stays sound
pub sound_stays : SoundStays
sound_stays =
    throughout_weaker InTable (λ h k. (k.tables ≡ h.tables) × (Sound h → Sound k)) (λ h k. Sound h → Sound k) (λ h k r. r.1)
    (throughout InTable (λ h k. (k.tables ≡ h.tables) × (Sound h → Sound k)) (λ h. (refl, λ s. s)) (λ h k l p q. (q.0 ∙ p.0, λ s. q.1 (p.1 s)))
    (λ h k t r a. subst (λ ts. t < length ts) (sym r.0) a)
    (λ room h t role text spot a.
    enter_cases room h t role text spot (λ o. ((held_in o).tables ≡ h.tables) × (Sound h → Sound (held_in o))) (λ x i w. (refl, sound_once_more h t role text x i w))
    (λ m w. ((interned_keeps room h text m w.number).0, sound_first_time room h t role text spot m w a)) (λ f w. (refl, λ s. s))))
