-- A named expression's target on its way outwards, over what is held.
use Rattle.std.proofs.Common.{◌≡◌, ℕ, Bool, true, false, not, ◌&&◌, List, [], ◌∷◌, ◌++◌, Some, None, Ok, Err, Result, sym, refl, ap, ◌∙◌, subst, append_assoc, append-nil}
use Rattle.std.specs.List.{slice_get}
use Rattle.symbols.specs.declared.fault.Fault.{Fault}
use Rattle.symbols.specs.declared.fault.ScanReason.TheVariants as reason
use Rattle.store.specs.declared.memory.Memory.{Memory}
use Rattle.symbols.specs.declared.usage.SymbolUsage.{SymbolUsage}
use Rattle.symbols.specs.declared.usage.SymbolUsage.TheVariants as role
use Rattle.store.specs.Enterings.{enter, kind_by, kind_of}
use Rattle.symbols.specs.Faults.{Spot, scan_fault}
use Rattle.store.specs.Held.{Held, Room, done, refused, and_then}
use Rattle.store.specs.Memory.{Keeps, Leaves, Does, held, room_of}
use Rattle.store.specs.Outward.{around_comprehension, way_out, is_class, is_empty, enter_each, enter_host, enter_target}
use Rattle.store.specs.Throughout.{held_in}
use Rattle.store.proofs.Doing.{leaves_done, does_then, does_stop, does_in, does_if, does_else, does_like, does_refuse}
use Rattle.store.proofs.Frames.{keeps_refl, keeps_trans}
use Rattle.store.proofs.Others.{tables_stay}
use Rattle.store.proofs.Ways.{way_step, way_stop}

-- one table after others
each_append : (room : Room) (h : Held) (ts us : List ℕ) (r : SymbolUsage) (text : List ℕ) (spot : Spot) →
    enter_each room h (ts ++ us) r text spot ≡ and_then (enter_each room h ts r text spot) (λ k. enter_each room k us r text spot)
each_append room h [] us r text spot = refl
each_append room h (t ∷ ts) us r text spot =
    elim (enter room h t r text spot) as
    (λ o. and_then o (λ k. enter_each room k (ts ++ us) r text spot) ≡ and_then (and_then o (λ k. enter_each room k ts r text spot)) (λ k. enter_each room k us r text spot)) [
      | done k ↦ each_append room k ts us r text spot
      | refused k f ↦ refl
    ]

some_more : (xs : List ℕ) (y : ℕ) (ys : List ℕ) → is_empty (xs ++ y ∷ ys) ≡ false
some_more [] y ys = refl
some_more (x ∷ xs) y ys = refl

-- the tables so far are passed, and the way goes on from table u
pub record Passed (m : Memory) (t : ℕ) (text : List ℕ) (spot : Spot) (m₁ : Memory) (u : ℕ) (some : Bool) : Type 0 where
  pub before : List ℕ
  pub through : (way_out (held m) t).through ≡ before ++ (way_out (held m) u).through
  pub host : (way_out (held m) t).host ≡ (way_out (held m) u).host
  pub ran : enter_each (room_of m) (held m) before role.AssignedNamedExprInComprehension text spot ≡ done (held m₁)
  pub tables : (held m₁).tables ≡ (held m).tables
  pub any : some ≡ not (is_empty before)
  pub keeps : Keeps m m₁

pub passed_none : (m : Memory) (t : ℕ) (text : List ℕ) (spot : Spot) → Passed m t text spot m t false
passed_none m t text spot = record { before = []; through = refl; host = refl; ran = refl; tables = refl; any = refl; keeps = keeps_refl m }

module _ {m m₁ : Memory} {t : ℕ} {text : List ℕ} {spot : Spot} {u : ℕ} {some : Bool} (p : Passed m t text spot m₁ u some) where
  abbrev each : SymbolUsage
  each = role.AssignedNamedExprInComprehension

  -- the way as it is seen from the tables that are held now
  around_then : (o : _) → o ≡ around_comprehension (held m₁).tables u → around_comprehension (held m).tables u ≡ o
  around_then o e = ap (λ ts. around_comprehension ts u) (sym p.tables) ∙ sym e

  ran_before : Does m (enter_each (room_of m) (held m) p.before each text spot) (Ok tt) m₁
  ran_before = record { leaves = subst (λ o. Leaves tt o (Ok tt) (held m₁)) (sym p.ran) (refl, refl); keeps = p.keeps }

  module _ (v : ℕ) (goes : Some v ≡ around_comprehension (held m₁).tables u) where
    step : way_out (held m) u ≡ record { through = u ∷ (way_out (held m) v).through; host = (way_out (held m) v).host }
    step = way_step (held m).tables u v (around_then (Some v) goes)

    pub passed_more : (m₂ : Memory) → Does m₁ (enter (room_of m₁) (held m₁) u each text spot) (Ok tt) m₂ → Passed m t text spot m₂ v true
    passed_more m₂ d =
        let e = does_in (λ room. enter room (held m₁) u each text spot) p.keeps d in
        let one : enter (room_of m) (held m₁) u each text spot ≡ done (held m₂) = leaves_done (enter (room_of m) (held m₁) u each text spot) (held m₂) e.leaves in
        let stays = tables_stay.one (room_of m) (held m₁) u each text spot tt in
        record {
          before = p.before ++ u ∷ [];
          through = p.through ∙ ap (λ w. p.before ++ w.through) step ∙ sym (append_assoc p.before (u ∷ []) (way_out (held m) v).through);
          host = p.host ∙ ap (λ w. w.host) step;
          ran = each_append (room_of m) (held m) p.before (u ∷ []) each text spot ∙ ap (λ o. and_then o (λ k. enter_each (room_of m) k (u ∷ []) each text spot)) p.ran ∙
              ap (λ o. and_then o (λ k. done k)) one;
          tables = sym (ap (λ o. (held_in o).tables) one) ∙ stays ∙ p.tables;
          any = sym (ap not (some_more p.before u []));
          keeps = keeps_trans p.keeps d.keeps;
        }

    pub passed_break : (m₂ : Memory) (f : Fault) → Does m₁ (enter (room_of m₁) (held m₁) u each text spot) (Err f) m₂ → Does m (enter_target (room_of m) (held m) t text spot) (Err f) m₂
    unfolding enter_target
    passed_break m₂ f d =
        let rest = (way_out (held m) v).through in
        let way : (way_out (held m) t).through ≡ p.before ++ u ∷ rest = p.through ∙ ap (λ w. p.before ++ w.through) step in
        does_stop (λ k. enter_host (room_of m) (held m) k (way_out (held m) t) text spot)
        (does_like (ap (λ ts. enter_each (room_of m) (held m) ts each text spot) way ∙ each_append (room_of m) (held m) p.before (u ∷ rest) each text spot)
        (does_then (λ k. enter_each (room_of m) k (u ∷ rest) each text spot) ran_before
        (does_stop (λ k. enter_each (room_of m) k rest each text spot) (does_in (λ room. enter room (held m₁) u each text spot) p.keeps d))))

  module _ (ends : None ≡ around_comprehension (held m₁).tables u) where
    stop : way_out (held m) u ≡ record { through = []; host = u }
    stop = way_stop (held m).tables u (around_then None ends)

    all : (way_out (held m) t).through ≡ p.before
    all = p.through ∙ ap (λ w. p.before ++ w.through) stop ∙ append-nil p.before

    reached : (way_out (held m) t).host ≡ u
    reached = p.host ∙ ap (λ w. w.host) stop

    -- the test of the host, as the code makes it
    tested : (some && is_class (kind_of (held m₁) u)) ≡ (not (is_empty (way_out (held m) t).through) && is_class (kind_of (held m) (way_out (held m) t).host))
    tested =
        ap (λ b. b && is_class (kind_of (held m₁) u)) (p.any ∙ ap (λ ts. not (is_empty ts)) (sym all)) ∙
        ap (λ ts. not (is_empty (way_out (held m) t).through) && is_class (kind_by (slice_get ts u))) p.tables ∙
        ap (λ x. not (is_empty (way_out (held m) t).through) && is_class (kind_of (held m) x)) (sym reached)

    ran_all : Does m (enter_each (room_of m) (held m) (way_out (held m) t).through each text spot) (Ok tt) m₁
    ran_all = does_like (ap (λ ts. enter_each (room_of m) (held m) ts each text spot) all) ran_before

    pub passed_class : (f : Fault) → f ≡ scan_fault reason.NamedInClass spot → true ≡ (some && is_class (kind_of (held m₁) u)) → Does m (enter_target (room_of m) (held m) t text spot) (Err f) m₁
    unfolding enter_target
    passed_class f e b = does_then _ ran_all (does_if _ _ _ (b ∙ tested) (does_refuse m₁ (scan_fault reason.NamedInClass spot) f e))

    pub passed_host : (m₂ : Memory) (r : Result (Unit {0}) Fault) → false ≡ (some && is_class (kind_of (held m₁) u)) → Does m₁ (enter (room_of m₁) (held m₁) u role.Assigned text spot) r m₂ →
        Does m (enter_target (room_of m) (held m) t text spot) r m₂
    unfolding enter_target
    passed_host m₂ r b d =
        does_then _ ran_all (does_else _ _ _ (b ∙ tested)
        (does_like (ap (λ x. enter (room_of m) (held m₁) x role.Assigned text spot) reached) (does_in (λ room. enter room (held m₁) u role.Assigned text spot) p.keeps d)))
