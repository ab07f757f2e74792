-- The way outwards from a comprehension, step by step.
use Rattle.std.proofs.Common.{◌≡◌, ℕ, zero, suc, ◌<◌, ◌≤◌, Bool, true, false, cond, ltb, List, [], ◌∷◌, Some, None, Option, sym, refl, ap, ◌∙◌, subst, arith}
use Rattle.std.specs.List.{slice_get}
use Rattle.std.proofs.lemmas.Bool.{ltb-true}
use Rattle.symbols.specs.declared.table.SymbolTable.{SymbolTable}
use Rattle.store.specs.Outward.{Way, is_comprehension, below_by, around_by, around_comprehension, further, way_from}
use Rattle.store.proofs.Never.{apart}

below_if : (t p q : ℕ) (b : Bool) → ltb q t ≡ b → cond b (Some q) None ≡ Some p → p < t
below_if t p q true e f = let g : q ≡ p = cc in let l = ltb-true q t e in omega (arith, g, l)
below_if t p q false e f = absurd (apart (cc))

below_by_lem : (t p : ℕ) (o : Option ℕ) → below_by t o ≡ Some p → p < t
below_by_lem t p (Some q) e = below_if t p q (ltb q t) refl e
below_by_lem t p None e = absurd (apart (cc))

around_if : (t p : ℕ) (b : Bool) (o : Option ℕ) → cond b (below_by t o) None ≡ Some p → p < t
around_if t p true o e = below_by_lem t p o e
around_if t p false o e = absurd (apart (cc))

around_by_lem : (t p : ℕ) (o : Option SymbolTable) → around_by t o ≡ Some p → p < t
around_by_lem t p (Some x) e = around_if t p (is_comprehension x.typ) x.parent e
around_by_lem t p None e = absurd (apart (cc))

-- each step goes to a table below
pub around_below : (ts : List SymbolTable) (t p : ℕ) → around_comprehension ts t ≡ Some p → p < t
around_below ts t p e = around_by_lem t p (slice_get ts t) e

module _ (ts : List SymbolTable) where
  module _ (t : ℕ) (next next' : ℕ → Way) (same : (p : ℕ) → p < t → next p ≡ next' p) where
    same_further : (o : Option ℕ) → around_comprehension ts t ≡ o → further o t next ≡ further o t next'
    same_further (Some p) e = ap (λ (w : Way). record { through = t ∷ w.through; host = w.host }) (same p (around_below ts t p e))
    same_further None e = refl

  no_further : (next : ℕ → Way) (o : Option ℕ) → around_comprehension ts 0 ≡ o → further o 0 next ≡ record { through = []; host = 0 }
  no_further next (Some p) e = absurd (let l = around_below ts 0 p e in omega arith)
  no_further next None e = refl

  -- as many steps as the table's number are enough
  pub way_enough : (n m t : ℕ) → t ≤ n → t ≤ m → way_from ts n t ≡ way_from ts m t
  way_enough zero zero t a b = refl
  way_enough zero (suc m) t a b = let e : t ≡ 0 = omega arith in subst (λ z. way_from ts 0 z ≡ way_from ts (suc m) z) (sym e) (sym (no_further (way_from ts m) (around_comprehension ts 0) refl))
  way_enough (suc n) zero t a b = let e : t ≡ 0 = omega arith in subst (λ z. way_from ts (suc n) z ≡ way_from ts 0 z) (sym e) (no_further (way_from ts n) (around_comprehension ts 0) refl)
  way_enough (suc n) (suc m) t a b =
      same_further t (way_from ts n) (way_from ts m) (λ p l. way_enough n m p (omega arith) (omega arith)) (around_comprehension ts t) refl

  -- a comprehension is passed
  pub way_step : (t p : ℕ) → around_comprehension ts t ≡ Some p → way_from ts t t ≡ record { through = t ∷ (way_from ts p p).through; host = (way_from ts p p).host }
  way_step zero p e = absurd (let l = around_below ts 0 p e in omega arith)
  way_step (suc n) p e =
      ap (λ o. further o (suc n) (way_from ts n)) e ∙
      ap (λ (w : Way). record { through = suc n ∷ w.through; host = w.host }) (way_enough n p p (let l = around_below ts (suc n) p e in omega arith) (omega arith))

  -- the host is reached
  pub way_stop : (t : ℕ) → around_comprehension ts t ≡ None → way_from ts t t ≡ record { through = []; host = t }
  way_stop zero e = refl
  way_stop (suc n) e = ap (λ o. further o (suc n) (way_from ts n)) e
