-- Symbols stay where they stand and only grow.
use Rattle.std.proofs.Common.{◌≡◌, ℕ, ◌<◌, List, [], ◌∷◌, ◌++◌, length, get_or, set, sym, refl, ◌∙◌, subst, inl, inr, arith}
use Rattle.std.proofs.lemmas.List.{length_push, length-set, get_or_append_left, get_or-set_same, get_or-set_other}
use Rattle.std.proofs.lemmas.Bool.{cases_eq, or_left}
use Rattle.symbols.specs.Faults.{Spot}
use Rattle.symbols.specs.declared.symbol.Symbol.{Symbol}
use Rattle.symbols.specs.declared.usage.SymbolUsage.{SymbolUsage}
use Rattle.store.specs.Enterings.{again, enter, entered, no_symbol}
use Rattle.store.specs.Grown.{AllGrown, Grown}
use Rattle.store.specs.Held.{Held, Room}
use Rattle.store.specs.Laws.{MasksOnlyGrow}
use Rattle.store.specs.Throughout.{Anywhere, held_in}
use Rattle.symbols.specs.Usage.{declares_global, masks_of}
use Rattle.store.proofs.Inversion.{enter_cases, first_time, once_more}
use Rattle.store.proofs.Masks.{has_self, has_trans, joined_has_left}
use Rattle.store.proofs.Runs.{throughout}

pub grown_self : (s : Symbol) → Grown s s
grown_self s = record { table = refl; name = refl; spot = refl; masks = has_self s.flags.bits; global = λ e. e }

pub grown_on : (a b c : Symbol) → Grown a b → Grown b c → Grown a c
grown_on a b c p q =
    record {
      table = q.table ∙ p.table;
      name = q.name ∙ p.name;
      spot = q.spot ∙ p.spot;
      masks = has_trans c.flags.bits b.flags.bits a.flags.bits q.masks p.masks;
      global = λ e. q.global (p.global e);
    }

-- a symbol that is entered once more grows
pub grown_again : (role : SymbolUsage) (s : Symbol) → Grown s (again role s)
grown_again role s =
    record {
      table = refl;
      name = refl;
      spot = refl;
      masks = joined_has_left s.flags.bits (masks_of role);
      global = or_left s.global (declares_global role);
    }

pub all_grown_self : (h : Held) → AllGrown h h
all_grown_self h i l = (l, grown_self (get_or h.symbols i no_symbol))

pub all_grown_on : (h k l : Held) → AllGrown h k → AllGrown k l → AllGrown h l
all_grown_on h k l p q i w =
    let a = p i w in
    let b = q i a.0 in
    (b.0, grown_on (get_or h.symbols i no_symbol) (get_or k.symbols i no_symbol) (get_or l.symbols i no_symbol) a.1 b.1)

all_grown_once_more : (h : Held) (role : SymbolUsage) (i : ℕ) → AllGrown h (once_more h role i)
all_grown_once_more h role i j l =
    let s = get_or h.symbols i no_symbol in
    let n = length-set h.symbols i (again role s) in
    elim (cases_eq j i) [
      | inl e ↦ (
        omega arith,
        subst (λ x. Grown (get_or h.symbols x no_symbol) (get_or (set h.symbols i (again role s)) x no_symbol)) (sym e)
            (subst (Grown s) (sym (get_or-set_same h.symbols i (again role s) no_symbol (subst (λ x. x < length h.symbols) e l))) (grown_again role s)),
      )
      | inr d ↦ (omega arith, subst (Grown (get_or h.symbols j no_symbol)) (sym (get_or-set_other h.symbols i j (again role s) no_symbol d)) (grown_self (get_or h.symbols j no_symbol)))
    ]

pub all_grown_push : (h k : Held) (s : Symbol) → k.symbols ≡ h.symbols ++ s ∷ [] → AllGrown h k
all_grown_push h k s e i l =
    subst (λ ss. (i < length ss) × Grown (get_or h.symbols i no_symbol) (get_or ss i no_symbol)) (sym e)
    (let n = length_push h.symbols s in omega arith, subst (Grown (get_or h.symbols i no_symbol)) (sym (get_or_append_left h.symbols (s ∷ []) no_symbol i l)) (grown_self (get_or h.symbols i no_symbol)))

entering_grows : (room : Room) (h : Held) (t : ℕ) (role : SymbolUsage) (text : List ℕ) (spot : Spot) → AllGrown h (held_in (enter room h t role text spot))
entering_grows room h t role text spot =
    enter_cases room h t role text spot (λ o. AllGrown h (held_in o)) (λ x i w. all_grown_once_more h role i) (λ m w. all_grown_push h (first_time h t role spot m) (entered role t m.number spot) refl) (λ f w. all_grown_self h)

-- however names are entered, symbols only grow
pub masks_only_grow : MasksOnlyGrow
masks_only_grow = throughout Anywhere AllGrown all_grown_self all_grown_on (λ h k t r a. tt) (λ room h t role text spot a. entering_grows room h t role text spot)
