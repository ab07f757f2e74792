-- A name that was entered is in its table, with what its role sets.
use Rattle.std.proofs.Common.{◌≡◌, ℕ, true, List, [], ◌∷◌, map, length, get_or, Some, sym, refl, ap, ◌∙◌, subst}
use Rattle.std.proofs.lemmas.List.{get_or_push, get_or-set_same, length-map}
use Rattle.std.proofs.lemmas.Bool.{or_right}
use Rattle.symbols.specs.Faults.{Spot}
use Rattle.symbols.specs.declared.symbol.Symbol.{Symbol}
use Rattle.symbols.specs.declared.usage.SymbolUsage.{SymbolUsage}
use Rattle.store.specs.Enterings.{again, entered, key_of, no_symbol, stands_by}
use Rattle.symbols.specs.Flags.{has}
use Rattle.store.specs.Grown.{Taken}
use Rattle.store.specs.Held.{Held, Room}
use Rattle.store.specs.Laws.{NameIsTaken}
use Rattle.store.specs.Sound.{Sound}
use Rattle.store.specs.Texts.{Interned, place_of}
use Rattle.symbols.specs.Usage.{declares_global, masks_of}
use Rattle.store.proofs.Inversion.{FirstTime, OnceMore, accepted, first_time, once_more}
use Rattle.store.proofs.Masks.{has_self, joined_has_right}
use Rattle.store.proofs.Order.{keys_first_time, keys_once_more}
use Rattle.store.proofs.Others.{symbol_there}
use Rattle.store.proofs.SoundStays.{key_absent}
use Rattle.store.proofs.TextsStay.{interning, place_push}

taken_once_more : (h : Held) (t : ℕ) (role : SymbolUsage) (text : List ℕ) (x i : ℕ) → OnceMore h t role text x i → Taken (once_more h role i) t role text
taken_once_more h t role text x i w =
    let s = get_or h.symbols i no_symbol in
    let is = get_or-set_same h.symbols i (again role s) no_symbol (symbol_there h t x i w.stands).0 in
    record {
      place = i;
      stands = ap (stands_by (once_more h role i) t) w.held ∙ ap (place_of (t ∷ x ∷ [])) (keys_once_more h role i) ∙ w.stands;
      masks = subst (λ (z : Symbol). has z.flags.bits (masks_of role) ≡ true) (sym is) (joined_has_right s.flags.bits (masks_of role));
      global = λ e. ap (λ (z : Symbol). z.global) is ∙ or_right s.global (declares_global role) e;
    }

taken_first_time : (room : Room) (h : Held) (t : ℕ) (role : SymbolUsage) (text : List ℕ) (spot : Spot) (m : Interned) →
    FirstTime room h t role text m → Sound h → Taken (first_time h t role spot m) t role text
taken_first_time room h t role text spot m w s =
    let g = interning room h text m s.inside w.number in
    let new = entered role t m.number spot in
    let is = get_or_push h.symbols new no_symbol (length h.symbols) refl in
    record {
      place = length h.symbols;
      stands = ap (stands_by (first_time h t role spot m) t) g.number ∙ ap (place_of (t ∷ m.number ∷ [])) (keys_first_time h t role spot m)
          ∙ place_push (map key_of h.symbols) (t ∷ m.number ∷ []) (key_absent h text m g t s w.new) ∙ ap Some (length-map h.symbols key_of);
      masks = subst (λ (z : Symbol). has z.flags.bits (masks_of role) ≡ true) (sym is) (has_self (masks_of role));
      global = λ e. ap (λ (z : Symbol). z.global) is ∙ e;
    }

pub name_is_taken : NameIsTaken
name_is_taken room h t role text spot s =
    accepted room h t role text spot (λ k. Taken k t role text) (λ x i w. taken_once_more h t role text x i w) (λ m w. taken_first_time room h t role text spot m w s)
