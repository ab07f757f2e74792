-- The way of a named expression goes outwards, so that its tables are there if the first is.
use Rattle.std.proofs.Common.{◌≡◌, ℕ, zero, suc, ◌<◌, ◌≤◌, ltb, List, length, Some, None, Option, sym, refl, arith}
use Rattle.std.specs.List.{slice_get, All}
use Rattle.std.proofs.lemmas.List.Elements.{All-cons, All-nil, All-weaker}
use Rattle.std.proofs.lemmas.Bool.{cond_both, ltb-true}
use Rattle.symbols.specs.declared.table.SymbolTable.{SymbolTable}
use Rattle.store.specs.Laws.{SoundStaysAtTarget}
use Rattle.store.specs.Outward.{Way, around_by, around_comprehension, below_by, further, is_comprehension, way_from, way_out}
use Rattle.store.proofs.Inversion.{not_some, one_some}
use Rattle.store.proofs.SoundStays.{sound_stays}

-- each table of a way is at most t
pub record UpTo (t : ℕ) (way : Way) : Type 0 where
  pub through : All (λ u. u ≤ t) way.through
  pub host : way.host ≤ t

-- no table around, or one below
abbrev Below : ℕ → Option ℕ → Type 0
Below t o = (p : ℕ) → o ≡ Some p → p < t

none_below : (t : ℕ) → Below t None
none_below t p e = not_some p (sym e)

below_by_lem : (t : ℕ) (o : Option ℕ) → Below t (below_by t o)
below_by_lem t None = none_below t
below_by_lem t (Some q) = cond_both (ltb q t) (Some q) None (Below t) (λ l p e. let s = one_some q p e in omega (arith, ltb-true q t l)) (λ l. none_below t)

around_below : (ts : List SymbolTable) (t : ℕ) → Below t (around_comprehension ts t)
around_below ts t = go (slice_get ts t)
  where
    go : (o : Option SymbolTable) → Below t (around_by t o)
    go None = none_below t
    go (Some x) = cond_both (is_comprehension x.typ) (below_by t x.parent) None (Below t) (λ _. below_by_lem t x.parent) (λ _. none_below t)

further_up_to : (t : ℕ) (o : Option ℕ) (next : ℕ → Way) → Below t o → ((p : ℕ) → UpTo p (next p)) → UpTo t (further o t next)
further_up_to t None next b w = record { through = All-nil (λ u. u ≤ t); host = omega arith }
further_up_to t (Some p) next b w =
    let l : p < t = b p refl in
    let r = w p in
    record { through = All-cons (λ u. u ≤ t) t (next p).through (omega arith) (All-weaker (λ u. u ≤ p) (λ u. u ≤ t) (λ u q. omega arith) (next p).through r.through); host = omega (arith, r.host) }

way_up_to : (ts : List SymbolTable) (n t : ℕ) → UpTo t (way_from ts n t)
way_up_to ts zero t = record { through = All-nil (λ u. u ≤ t); host = omega arith }
way_up_to ts (suc n) t = further_up_to t (around_comprehension ts t) (way_from ts n) (around_below ts t) (λ p. way_up_to ts n p)

-- what is sound stays sound when the target of a named expression is entered from a table that there is
pub target_sound : SoundStaysAtTarget
target_sound room h t text spot l s =
    let w = way_up_to h.tables t t in
    sound_stays.target room h t text spot (All-weaker (λ u. u ≤ t) (λ u. u < length h.tables) (λ u q. omega arith) (way_out h t).through w.through) (omega (arith, w.host)) s
