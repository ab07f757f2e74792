-- A table says that it is nested exactly where a function stands around it.
use Rattle.std.proofs.Common.{◌≡◌, ℕ, ◌<◌, true, false, ◌⊎◌, List, [], ◌∷◌, ◌++◌, length, Some, None, Decides, Option, sym, refl, ap, ◌∙◌, subst, inl, inr, arith}
use Rattle.std.specs.List.{slice_get}
use Rattle.std.proofs.lemmas.List.{length_push}
use Rattle.std.proofs.lemmas.Bool.{both_ways, cases_order, or_cases, or_left, or_right}
use Rattle.symbols.specs.Faults.{Spot}
use Rattle.symbols.specs.declared.table.SymbolTable.{SymbolTable}
use Rattle.symbols.specs.declared.table.SymbolTableType.{SymbolTableType}
use Rattle.store.specs.Enterings.{kind_by}
use Rattle.store.specs.Held.{Held}
use Rattle.store.specs.Laws.{NestedStaysRight}
use Rattle.store.specs.Nesting.{Around, NestedRight, further, nested_by, next}
use Rattle.store.specs.Opened.{OpensIn}
use Rattle.store.specs.Sound.{Sound, parent_by}
use Rattle.store.specs.Tables.{is_function, nests_by, new_table}
use Rattle.store.proofs.Inversion.{not_some, one_some}
use Rattle.store.proofs.TableOpens.{nth_before, nth_last, table_comes_last}

nests_cases : (o : Option SymbolTable) → nests_by o ≡ true → (nested_by o ≡ true) ⊎ (is_function (kind_by o) ≡ true)
nests_cases (Some x) e = or_cases x.is_nested (is_function x.typ) e
nests_cases None e = absurd (both_ways false refl e)

nests_nested : (o : Option SymbolTable) → nested_by o ≡ true → nests_by o ≡ true
nests_nested (Some x) e = or_left x.is_nested (is_function x.typ) e
nests_nested None e = e

nests_function : (o : Option SymbolTable) → is_function (kind_by o) ≡ true → nests_by o ≡ true
nests_function (Some x) e = or_right x.is_nested (is_function x.typ) e
nests_function None e = e

-- a function stands around table t
abbrev InFunction : List SymbolTable → ℕ → Type 0
InFunction ts t = (u : ℕ) × Around ts t u × (is_function (kind_by (slice_get ts u)) ≡ true)

-- tables of which each is around later ones only, and one more
module _ (ts : List SymbolTable) (x : SymbolTable) (outwards : (t p : ℕ) → parent_by (slice_get ts t) ≡ Some p → p < t) where
  around_below : (t u : ℕ) → Around ts t u → u < t
  around_below t u (next e) = outwards t u e
  around_below t u (further {p = p} e r) = let a = outwards t p e in let b = around_below p u r in omega arith

  around_more : (t u : ℕ) → t < length ts → Around ts t u → Around (ts ++ x ∷ []) t u
  around_more t u l (next e) = next (ap parent_by (nth_before ts x t l) ∙ e)
  around_more t u l (further {p = p} e r) = further (ap parent_by (nth_before ts x t l) ∙ e) (around_more p u (let a = outwards t p e in omega arith) r)

  around_less : (t u : ℕ) → t < length ts → Around (ts ++ x ∷ []) t u → Around ts t u
  around_less t u l (next e) = next (sym (ap parent_by (nth_before ts x t l)) ∙ e)
  around_less t u l (further {p = p} e r) =
      let q = sym (ap parent_by (nth_before ts x t l)) ∙ e in
      further q (around_less p u (let a = outwards t p q in omega arith) r)

  function_more : (t : ℕ) → t < length ts → InFunction ts t → InFunction (ts ++ x ∷ []) t
  function_more t l (u, a, f) = (u, around_more t u l a, ap (λ o. is_function (kind_by o)) (nth_before ts x u (let b = around_below t u a in omega arith)) ∙ f)

  function_less : (t : ℕ) → t < length ts → InFunction (ts ++ x ∷ []) t → InFunction ts t
  function_less t l (u, a, f) = let b = around_less t u l a in (u, b, sym (ap (λ o. is_function (kind_by o)) (nth_before ts x u (let c = around_below t u b in omega arith))) ∙ f)

  module _ (right : NestedRight ts) (below : (p : ℕ) → x.parent ≡ Some p → p < length ts) where
    old_right : (t : ℕ) → t < length ts → Decides (nested_by (slice_get (ts ++ x ∷ []) t)) (InFunction (ts ++ x ∷ []) t)
    old_right t l =
        let e = ap nested_by (nth_before ts x t l) in
        let d = right t l in
        (λ q. function_more t l (d.0 (sym e ∙ q)), λ w. e ∙ d.1 (function_less t l w))

    -- the last table, which stands in the table p
    module _ (t p : ℕ) (last : t ≡ length ts) (in_p : x.parent ≡ Some p) (says : x.is_nested ≡ nests_by (slice_get ts p)) where
      parent_last : parent_by (slice_get (ts ++ x ∷ []) t) ≡ Some p
      parent_last = ap parent_by (nth_last ts x t last) ∙ in_p

      function_last : (nested_by (slice_get ts p) ≡ true) ⊎ (is_function (kind_by (slice_get ts p)) ≡ true) → InFunction (ts ++ x ∷ []) t
      function_last (inl n) = let w = function_more p (below p in_p) ((right p (below p in_p)).0 n) in (w.0, further parent_last w.1, w.2)
      function_last (inr f) = (p, next parent_last, ap (λ o. is_function (kind_by o)) (nth_before ts x p (below p in_p)) ∙ f)

      nests_last : (u : ℕ) → Around (ts ++ x ∷ []) t u → is_function (kind_by (slice_get (ts ++ x ∷ []) u)) ≡ true → nests_by (slice_get ts p) ≡ true
      nests_last u (next e) f =
          let q = one_some p u (sym parent_last ∙ e) in
          nests_function (slice_get ts p) (sym (ap (λ o. is_function (kind_by o)) (nth_before ts x p (below p in_p))) ∙ ap (λ v. is_function (kind_by (slice_get (ts ++ x ∷ []) v))) q ∙ f)
      nests_last u (further {p = v} e r) f =
          let q = one_some p v (sym parent_last ∙ e) in
          nests_nested (slice_get ts p) ((right p (below p in_p)).1 (function_less p (below p in_p) (u, subst (λ z. Around (ts ++ x ∷ []) z u) (sym q) r, f)))

      last_right : Decides (nested_by (slice_get (ts ++ x ∷ []) t)) (InFunction (ts ++ x ∷ []) t)
      last_right =
          let e = ap nested_by (nth_last ts x t last) ∙ says in
          (λ q. function_last (nests_cases (slice_get ts p) (sym e ∙ q)), λ w. e ∙ nests_last w.0 w.1 w.2)

    -- the last table, which stands in none
    module _ (t : ℕ) (last : t ≡ length ts) (in-none : x.parent ≡ None) (says : x.is_nested ≡ false) where
      no_parent : parent_by (slice_get (ts ++ x ∷ []) t) ≡ None
      no_parent = ap parent_by (nth_last ts x t last) ∙ in-none

      nothing_around : (u : ℕ) → Around (ts ++ x ∷ []) t u → ⊥
      nothing_around u (next e) = not_some u (sym e ∙ no_parent)
      nothing_around u (further {p = p} e r) = not_some p (sym e ∙ no_parent)

      outermost_right : Decides (nested_by (slice_get (ts ++ x ∷ []) t)) (InFunction (ts ++ x ∷ []) t)
      outermost_right =
          (λ q. absurd (both_ways false refl (sym (ap nested_by (nth_last ts x t last) ∙ says) ∙ q)), λ w. absurd (nothing_around w.0 w.1))

-- the last table was opened in none, or in one that there is
module _ (h : Held) (kind : SymbolTableType) (n : ℕ) (spot : Spot) (s : Sound h) (right : NestedRight h.tables) where
  opened_right : (o : Option ℕ) → OpensIn h o → (t : ℕ) → t ≡ length h.tables →
      Decides (nested_by (slice_get (h.tables ++ new_table h o kind n spot ∷ []) t)) (InFunction (h.tables ++ new_table h o kind n spot ∷ []) t)
  opened_right (Some p) b t q = last_right h.tables (new_table h (Some p) kind n spot) s.outwards right b t p q refl refl
  opened_right None b t q = outermost_right h.tables (new_table h None kind n spot) s.outwards right b t q refl refl

  all_right : (o : Option ℕ) → OpensIn h o → NestedRight (h.tables ++ new_table h o kind n spot ∷ [])
  all_right o b t l =
      elim (cases_order t (length h.tables)) [
        | inl q ↦ opened_right o b t q
        | inr (inl m) ↦ old_right h.tables (new_table h o kind n spot) s.outwards right b t m
        | inr (inr m) ↦ absurd (let z = length_push h.tables (new_table h o kind n spot) in omega arith)
      ]

-- what tables say of nesting stays right when one is opened in none, or in one that there is
pub nested_stays_right : NestedStaysRight
nested_stays_right room h around kind name spot below s right k e =
    let w = table_comes_last room h around kind name spot s.inside k e in
    subst NestedRight (sym w.tables) (all_right h kind w.number spot s right around below)
