-- The keys of the symbols after an entering: as they were, or one more after them.
use Rattle.std.proofs.Common.{◌≡◌, ℕ, List, [], ◌∷◌, ◌++◌, map, get_or, Some, sym, refl, ap, ◌∙◌}
use lib.Seq.{map-set_same}
use Rattle.std.proofs.lemmas.List.{map_push}
use Rattle.symbols.specs.Faults.{Spot}
use Rattle.symbols.specs.declared.usage.SymbolUsage.{SymbolUsage}
use Rattle.store.specs.Enterings.{again, enter, entered, key_of, no_symbol, stands_at, stands_by}
use Rattle.store.specs.Grown.{TextsKept}
use Rattle.store.specs.Held.{Held, Room, done}
use Rattle.store.specs.Laws.{TextsStay}
use Rattle.store.specs.Names.{KeysAfter}
use Rattle.store.specs.Sound.{Inside}
use Rattle.store.specs.Texts.{Interned, number_of}
use Rattle.store.specs.Throughout.{Anywhere, held_in}
use Rattle.store.proofs.Inversion.{OnceMore, accepted, enter_cases, first_time, not_some, once_more}
use Rattle.store.proofs.Runs.{throughout}
use Rattle.store.proofs.TextsStay.{interning, longer_self, texts_kept, texts_kept_on, texts_kept_self}

pub keys_once_more : (h : Held) (role : SymbolUsage) (i : ℕ) → map key_of (once_more h role i).symbols ≡ map key_of h.symbols
keys_once_more h role i = map-set_same key_of h.symbols i (again role (get_or h.symbols i no_symbol)) no_symbol refl

pub keys_first_time : (h : Held) (t : ℕ) (role : SymbolUsage) (spot : Spot) (m : Interned) → map key_of (first_time h t role spot m).symbols ≡ map key_of h.symbols ++ (t ∷ m.number ∷ []) ∷ []
keys_first_time h t role spot m = map_push key_of h.symbols (entered role t m.number spot)

-- a name that the table has stands where its symbol does
pub stands : (h : Held) (t : ℕ) (role : SymbolUsage) (text : List ℕ) (x i : ℕ) → OnceMore h t role text x i → stands_at h t text ≡ Some i
stands h t role text x i w = ap (stands_by h t) w.held ∙ w.stands

-- however names are entered, texts keep their spelling and their numbers
pub texts_stay : TextsStay
texts_stay =
    throughout Anywhere (λ h k. Inside h → TextsKept h k) texts_kept_self (λ h k l p q a. texts_kept_on h k l (p a) (q (p a).inside)) (λ h k t r a. tt)
    (λ room h t role text spot _.
    enter_cases room h t role text spot (λ o. Inside h → TextsKept h (held_in o)) (λ x i w a. texts_kept h (once_more h role i) a (longer_self _))
    (λ m w a. let g = interning room h text m a w.number in texts_kept h (first_time h t role spot m) g.kept.inside g.kept.longer)
    (λ f w a. texts_kept_self h a))

module _ (room : Room) (h : Held) (t : ℕ) (role : SymbolUsage) (text : List ℕ) (spot : Spot) (inside : Inside h) where
  -- a text that was entered is held
  pub entered_is_held : (k : Held) → enter room h t role text spot ≡ done k → (x : ℕ) × (number_of k text ≡ Some x)
  entered_is_held =
      accepted room h t role text spot (λ k. (x : ℕ) × (number_of k text ≡ Some x)) (λ x i w. (x, w.held))
      (λ m w. (m.number, (interning room h text m inside w.number).number))

  pub keys_after : (k : Held) → enter room h t role text spot ≡ done k → KeysAfter h k t text
  keys_after =
      accepted room h t role text spot (λ k. KeysAfter h k t text)
      (λ x i w. record { held = λ j e. keys_once_more h role i; new = λ e. not_some i (sym (stands h t role text x i w) ∙ e) })
      (λ m w. record { held = λ j e. not_some j (sym e ∙ w.new); new = λ e. (m.number, (interning room h text m inside w.number).number, keys_first_time h t role spot m) })
