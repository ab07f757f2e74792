-- What each entering of a name keeps to, all ways of entering that are made of it keep to.
use Rattle.std.proofs.Common.{◌≡◌, ℕ, cond, not, ◌&&◌, ◌||◌, List, [], ◌∷◌, codes, ap, subst}
use Rattle.std.specs.List.{All}
use Rattle.std.specs.Str.{bytes_eq}
use Rattle.std.proofs.lemmas.List.Elements.{All-head, All-tail, All-weaker}
use Rattle.std.proofs.lemmas.Bool.{cond_both}
use Rattle.symbols.specs.declared.fault.ScanReason.TheVariants as reason
use Rattle.symbols.specs.declared.usage.SymbolUsage.{SymbolUsage}
use Rattle.symbols.specs.declared.usage.SymbolUsage.TheVariants as role
use Rattle.store.specs.Enterings.{enter, is_module, kind_of}
use Rattle.symbols.specs.Faults.{Spot, scan_fault}
use Rattle.store.specs.Held.{Held, Room, Outcome, done, refused, and_then}
use Rattle.store.specs.Mangling.{mangled}
use Rattle.store.specs.Names.{Entering, enter_all}
use Rattle.store.specs.Outward.{enter_each, enter_host, enter_import, enter_target, enter_use, is_class, is_comprehension, is_empty, way_out}
use Rattle.store.specs.Tables.{is_function}
use Rattle.store.specs.Throughout.{Throughout, held_in}

-- R links what is held to itself, goes on from one step to the next, and leaves tables as Ok says
module _ (Ok : Held → ℕ → Type 0) (R : Held → Held → Type 0)
    (none : (h : Held) → R h h)
    (on : (h k l : Held) → R h k → R k l → R h l)
    (still : (h k : Held) (t : ℕ) → R h k → Ok h t → Ok k t)
    (step : (room : Room) (h : Held) (t : ℕ) (role : SymbolUsage) (text : List ℕ) (spot : Spot) → Ok h t → R h (held_in (enter room h t role text spot))) where
  two : (h : Held) (o : Outcome) (next : Held → Outcome) → R h (held_in o) → ((k : Held) → R h k → R k (held_in (next k))) → R h (held_in (and_then o next))
  two h (done k) next a b = on h k (held_in (next k)) a (b k a)
  two h (refused k f) next a b = a

  run_list : (room : Room) (h : Held) (es : List Entering) → All (λ e. Ok h e.table) es → R h (held_in (enter_all room h es))
  run_list room h [] a = none h
  run_list room h (e ∷ es) a =
      two h (enter room h e.table e.role e.text e.spot) (λ k. enter_all room k es) (step room h e.table e.role e.text e.spot (All-head (λ x. Ok h x.table) e es a))
      (λ k r. run_list room k es (All-weaker (λ x. Ok h x.table) (λ x. Ok k x.table) (λ x. still h k x.table r) es (All-tail (λ x. Ok h x.table) e es a)))

  run_each : (room : Room) (h : Held) (ts : List ℕ) (role : SymbolUsage) (text : List ℕ) (spot : Spot) → All (Ok h) ts → R h (held_in (enter_each room h ts role text spot))
  run_each room h [] role text spot a = none h
  run_each room h (t ∷ ts) role text spot a =
      two h (enter room h t role text spot) (λ k. enter_each room k ts role text spot) (step room h t role text spot (All-head (Ok h) t ts a))
      (λ k r. run_each room k ts role text spot (All-weaker (Ok h) (Ok k) (λ x. still h k x r) ts (All-tail (Ok h) t ts a)))

  run_target : (room : Room) (h : Held) (t : ℕ) (text : List ℕ) (spot : Spot) → All (Ok h) (way_out h t).through → Ok h (way_out h t).host → R h (held_in (enter_target room h t text spot))
  unfolding enter_target
  run_target room h t text spot a b =
      two h (enter_each room h (way_out h t).through role.AssignedNamedExprInComprehension text spot) (λ k. enter_host room h k (way_out h t) text spot)
      (run_each room h (way_out h t).through role.AssignedNamedExprInComprehension text spot a)
      (λ k r.
      cond_both (not (is_empty (way_out h t).through) && is_class (kind_of h (way_out h t).host)) (refused k (scan_fault reason.NamedInClass spot))
      (enter room k (way_out h t).host role.Assigned text spot) (λ o. R k (held_in o)) (λ _. none k)
      (λ _. step room k (way_out h t).host role.Assigned text spot (still h k (way_out h t).host r b)))

  run_import : (room : Room) (h : Held) (t : ℕ) (class name : List ℕ) (spot : Spot) → Ok h t → R h (held_in (enter_import room h t class name spot))
  unfolding enter_import
  run_import room h t class name spot a =
      cond_both (bytes_eq name (codes "*") && not (is_module (kind_of h t))) (refused h (scan_fault reason.StarOutsideModule spot))
      (enter room h t role.Imported (mangled class name) spot) (λ o. R h (held_in o)) (λ _. none h)
      (λ _. step room h t role.Imported (mangled class name) spot a)

  run_use : (room : Room) (h : Held) (t : ℕ) (class name : List ℕ) (spot : Spot) → Ok h t → R h (held_in (enter_use room h t class name spot))
  unfolding enter_use
  run_use room h t class name spot a =
      two h (enter room h t role.Used (mangled class name) spot)
      (λ k. cond (bytes_eq name (codes "super") && (is_function (kind_of h t) || is_comprehension (kind_of h t))) (enter room k t role.Used (codes "__class__") spot) (done k))
      (step room h t role.Used (mangled class name) spot a)
      (λ k r.
      cond_both (bytes_eq name (codes "super") && (is_function (kind_of h t) || is_comprehension (kind_of h t)))
      (enter room k t role.Used (codes "__class__") spot) (done k) (λ o. R k (held_in o))
      (λ _. step room k t role.Used (codes "__class__") spot (still h k t r a)) (λ _. none k))

  pub throughout : Throughout Ok R
  throughout =
      record {
        one = step;
        list = run_list;
        each = run_each;
        target = run_target;
        imported = run_import;
        used = run_use;
      }

-- R goes from what was held to what an accepted entering leaves
pub from_accepted : (Ok : Held → ℕ → Type 0) (R : Held → Held → Type 0) → Throughout Ok R →
    (room : Room) (h : Held) (t : ℕ) (role : SymbolUsage) (text : List ℕ) (spot : Spot) → Ok h t → (k : Held) → enter room h t role text spot ≡ done k → R h k
from_accepted Ok R w room h t role text spot a k e = subst (R h) (ap held_in e) (w.one room h t role text spot a)

-- what follows from R is kept to as well
pub throughout_weaker : (Ok : Held → ℕ → Type 0) (R S : Held → Held → Type 0) → ((h k : Held) → R h k → S h k) → Throughout Ok R → Throughout Ok S
throughout_weaker Ok R S f w =
    record {
      one = λ room h t role text spot a. f h (held_in (enter room h t role text spot)) (w.one room h t role text spot a);
      list = λ room h es a. f h (held_in (enter_all room h es)) (w.list room h es a);
      each = λ room h ts role text spot a. f h (held_in (enter_each room h ts role text spot)) (w.each room h ts role text spot a);
      target = λ room h t text spot a b. f h (held_in (enter_target room h t text spot)) (w.target room h t text spot a b);
      imported = λ room h t class name spot a. f h (held_in (enter_import room h t class name spot)) (w.imported room h t class name spot a);
      used = λ room h t class name spot a. f h (held_in (enter_use room h t class name spot)) (w.used room h t class name spot a);
    }
