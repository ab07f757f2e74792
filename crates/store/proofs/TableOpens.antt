-- What opening a table leaves, and how it can be refused.
use Rattle.std.proofs.Common.{◌≡◌, ℕ, ◌<◌, ◌≤◌, ltb, List, [], ◌∷◌, ◌++◌, map, length, Some, None, Option, sym, refl, ap, ◌∙◌, subst, inl, inr, arith}
use Rattle.std.specs.List.{slice_get, All}
use Rattle.std.proofs.lemmas.List.Elements.{All-push}
use Rattle.std.proofs.lemmas.List.{get_or_append_left, get_or_push, length_push}
use Rattle.std.proofs.lemmas.Option.{slice_get-get_or, slice_get_past}
use Rattle.std.proofs.lemmas.Bool.{cases_order, cond_both, ltb-false, ltb-true}
use Rattle.ordered.specs.Keys.{Distinct}
use Rattle.symbols.specs.declared.fault.Fault.{Fault}
use Rattle.symbols.specs.declared.fault.MemoryReason.TheVariants as lack
use Rattle.symbols.specs.declared.table.SymbolTable.{SymbolTable}
use Rattle.symbols.specs.declared.table.SymbolTableType.{SymbolTableType}
use Rattle.store.specs.Enterings.{key_of}
use Rattle.symbols.specs.Faults.{Spot, memory_fault}
use Rattle.store.specs.Held.{Held, Room, Outcome, done, refused}
use Rattle.store.specs.Laws.{SoundStaysOpening}
use Rattle.store.specs.Opened.{Opened}
use Rattle.store.specs.Sound.{Inside, Sound, parent_by}
use Rattle.store.specs.Tables.{new_table, open_by, open_table, with_table}
use Rattle.store.specs.Texts.{Interned, interned}
use Rattle.store.proofs.Inversion.{not_both, not_some, one_done}
use Rattle.store.proofs.Others.{interned_keeps}
use Rattle.store.proofs.SoundStays.{named_more, number_below, placed_more, texts_more}
use Rattle.store.proofs.TextsStay.{interning, texts_kept}

-- why a table is refused, with the fault
pub data TableRefusal (room : Room) (h : Held) (name : List ℕ) (spot : Spot) : Fault → Type 0 where
  no_name : interned room h name ≡ None → TableRefusal room h name spot (memory_fault lack.Texts spot)
  no_table : (m : Interned) → interned room h name ≡ Some m → room.tables ≤ length h.tables → TableRefusal room h name spot (memory_fault lack.Tables spot)

module _ (room : Room) (h : Held) (around : Option ℕ) (kind : SymbolTableType) (name : List ℕ) (spot : Spot) where
  abbrev opened : Interned → Held
  opened m = with_table m.held (new_table h around kind m.number spot)

  module _ (P : Outcome → Type 0)
      (made : (m : Interned) → interned room h name ≡ Some m → length h.tables < room.tables → P (done (opened m)))
      (not : (f : Fault) → TableRefusal room h name spot f → P (refused h f)) where
    by_cases : (o : Option Interned) → interned room h name ≡ o → P (open_by room h around kind spot o)
    by_cases None e = not (memory_fault lack.Texts spot) (no_name e)
    by_cases (Some m) e =
        cond_both (ltb (length h.tables) room.tables) (done (opened m)) (refused h (memory_fault lack.Tables spot)) P
        (λ l. made m e (ltb-true (length h.tables) room.tables l))
        (λ l. not (memory_fault lack.Tables spot) (no_table m e (ltb-false (length h.tables) room.tables l)))

    pub open_cases : P (open_table room h around kind name spot)
    unfolding open_table
    open_cases = by_cases (interned room h name) refl

  pub open_accepted : (P : Held → Type 0) →
      ((m : Interned) → interned room h name ≡ Some m → length h.tables < room.tables → P (opened m)) → (k : Held) → open_table room h around kind name spot ≡ done k → P k
  open_accepted P made k = open_cases (λ o. o ≡ done k → P k) (λ m a l e. subst P (one_done (opened m) k e) (made m a l)) (λ f w e. not_both k h f e)

  pub open_refused : (k : Held) (f : Fault) → open_table room h around kind name spot ≡ refused k f → (k ≡ h) × TableRefusal room h name spot f
  open_refused k f =
      open_cases (λ o. o ≡ refused k f → (k ≡ h) × TableRefusal room h name spot f) (λ m a l e. not_both (opened m) k f (sym e))
      (λ g w e. let a : k ≡ h = cc in let b : g ≡ f = cc in (a, subst (TableRefusal room h name spot) b w))

  pub table_comes_last : Inside h → (k : Held) → open_table room h around kind name spot ≡ done k → Opened h k around kind name spot
  table_comes_last inside =
      open_accepted (λ k. Opened h k around kind name spot)
      (λ m e l.
      let g = interning room h name m inside e in
      let q = interned_keeps room h name m e in
      record {
        number = m.number;
        named = g.number;
        tables = ap (λ ts. ts ++ new_table h around kind m.number spot ∷ []) q.0;
        symbols = q.1;
        texts = texts_kept h (opened m) g.kept.inside g.kept.longer;
      })

-- one more stands last, and those before stand where they did
pub nth_before : {X : Type 0} (xs : List X) (x : X) (i : ℕ) → i < length xs → slice_get (xs ++ x ∷ []) i ≡ slice_get xs i
nth_before xs x i l = slice_get-get_or (xs ++ x ∷ []) i x (let n = length_push xs x in omega arith) ∙ ap Some (get_or_append_left xs (x ∷ []) x i l) ∙ sym (slice_get-get_or xs i x l)

pub nth_last : {X : Type 0} (xs : List X) (x : X) (i : ℕ) → i ≡ length xs → slice_get (xs ++ x ∷ []) i ≡ Some x
nth_last xs x i e = slice_get-get_or (xs ++ x ∷ []) i x (let n = length_push xs x in omega arith) ∙ ap Some (get_or_push xs x x i (sym e))

-- the table around each table comes before it, where that is so of all but the last and of the last
outwards_push : (ts : List SymbolTable) (x : SymbolTable) →
    ((u p : ℕ) → parent_by (slice_get ts u) ≡ Some p → p < u) → ((p : ℕ) → x.parent ≡ Some p → p < length ts) → (u p : ℕ) → parent_by (slice_get (ts ++ x ∷ []) u) ≡ Some p → p < u
outwards_push ts x before last u p e =
    let n = length_push ts x in
    elim (cases_order u (length ts)) [
      | inl q ↦ omega (arith, last p (sym (ap parent_by (nth_last ts x u q)) ∙ e))
      | inr (inl l) ↦ before u p (sym (ap parent_by (nth_before ts x u l)) ∙ e)
      | inr (inr l) ↦ not_some p (sym e ∙ ap parent_by (slice_get_past (ts ++ x ∷ []) u (omega arith)))
    ]

-- what is sound stays sound when a table is opened in none, or in one that there is
pub open_sound : SoundStaysOpening
open_sound room h around kind name spot below s =
    open_accepted room h around kind name spot Sound
    (λ m e l.
    let g = interning room h name m s.inside e in
    let q = interned_keeps room h name m e in
    let x = new_table h around kind m.number spot in
    let n : length m.held.tables ≡ length h.tables = ap length q.0 in
    let more = texts_more h name m g in
    let longer = length_push m.held.tables x in
    record {
      inside = g.kept.inside;
      apart = g.apart s.apart;
      placed = subst (All (λ z. (z.table < length (m.held.tables ++ x ∷ [])) × (z.name < length m.held.texts))) (sym q.1)
          (placed_more (length h.tables) (length (m.held.tables ++ x ∷ [])) (length h.texts) (length m.held.texts) h.symbols (omega arith) more s.placed);
      once = subst (λ ss. Distinct (map key_of ss)) (sym q.1) s.once;
      named =
          All-push (λ z. z.name < length m.held.texts) m.held.tables x
          (subst (All (λ z. z.name < length m.held.texts)) (sym q.0) (named_more (length h.texts) (length m.held.texts) h.tables more s.named))
          (number_below h name m g);
      outwards = outwards_push m.held.tables x (subst (λ ts. (u p : ℕ) → parent_by (slice_get ts u) ≡ Some p → p < u) (sym q.0) s.outwards) (λ p i. omega (arith, below p i));
    })
