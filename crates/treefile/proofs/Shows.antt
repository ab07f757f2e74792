-- What is read of a node of a checked file is what its record says and where its children stand.
use Rattle.std.proofs.Common.{◌≡◌, ℕ, zero, suc, ◌+◌, ◌<◌, ◌≤◌, Bool, true, false, cond, ◌&&◌, eqb, ltb, List, [], ◌∷◌, length, take, Some, None, sym, refl, ap, ◌∙◌, subst, ⊎_elim, arith}
use Rattle.std.proofs.lemmas.Bool.{and_parts, cases_eq, cond-true, cond-false, eq-eqb, ne_eqb, lt-ltb, ltb-true, true≢false}
use Rattle.std.proofs.lemmas.Bool.Decides.{nat_tests}
use Rattle.std.proofs.lemmas.List.{length-append}
use Rattle.treefile.specs.declared.kind.Naming.TheVariants.{Never, Always, Sometimes}
use Rattle.treefile.specs.declared.trailer.Trailer.{Trailer}
use Rattle.treefile.specs.Fits.{children}
use Rattle.treefile.specs.Kinds.{known, needs_name, may_have_name, naming_of}
use Rattle.treefile.specs.Names.{name_bytes}
use Rattle.treefile.specs.Records.{kind_at, form_at, name_number, row_at, form_ok, filler_ok, dots_ok, named_by, naming_ok, record_ok}
use Rattle.treefile.specs.Shown.{in_row, places_at, node_at, arity, after_place, places_after, slot_places, kind_name, said_of}
use Rattle.treefile.specs.Slots.{columns}
use Rattle.treefile.specs.Spelling.{StandsAt, RowAt}
use Rattle.treefile.specs.Trees.{Label, Tree, node, Trees, none, more, tree_records, trees_records, slotted, takes_tree, well_formed}
use Rattle.treefile.proofs.Checked.{formed_slots, spelled_stands}
use Rattle.treefile.proofs.Sound.{Sound}
use Rattle.treefile.proofs.Spelling.{spelling_rule}
use Rattle.treefile.proofs.Subtrees.{Rooted, tree_at_lem}
use Rattle.treefile.proofs.Table.{arity_columns}
use Rattle.treefile.proofs.Walking.{places, from_length, inside, row_first, children_places}

-- a record in order: its form, and its name by its kind
record_parts : (bs : List ℕ) (t : Trailer) (i : ℕ) → record_ok bs t i ≡ true → (form_ok (kind_at bs t i) (form_at bs t i) ≡ true) × (naming_ok bs t (kind_at bs t i) (name_number bs t i) ≡ true)
record_parts bs t i h =
    let a = and_parts (form_ok (kind_at bs t i) (form_at bs t i)) (filler_ok bs t i && (ltb 0 (row_at bs t i) && naming_ok bs t (kind_at bs t i) (name_number bs t i))) h in
    let b = and_parts (filler_ok bs t i) (ltb 0 (row_at bs t i) && naming_ok bs t (kind_at bs t i) (name_number bs t i)) a.1 in
    (a.0, (and_parts (ltb 0 (row_at bs t i)) (naming_ok bs t (kind_at bs t i) (name_number bs t i)) b.1).1)

needs_known : (k : ℕ) → needs_name k ≡ true → known k ≡ true
needs_known k e = grind (arith, nat_tests, e)

may_known : (k : ℕ) → may_have_name k ≡ true → known k ≡ true
may_known k e = grind (arith, nat_tests, e)

-- a kind whose name is in order is known
named_known : (k : ℕ) (empty good : Bool) → named_by (naming_of k) empty good ≡ true → known k ≡ true
named_known k empty good h = by (needs_name k) (may_have_name k) (known k) refl refl refl
  where
    by : (x y z : Bool) → needs_name k ≡ x → may_have_name k ≡ y → known k ≡ z → known k ≡ true
    by true y z ex ey ez = needs_known k ex
    by false true z ex ey ez = may_known k ey
    by false false true ex ey ez = ez
    by false false false ex ey ez =
        let n : naming_of k ≡ None = cond-false (needs_name k) _ _ ex ∙ cond-false (may_have_name k) _ _ ey ∙ cond-false (known k) _ _ ez in
        absurd (true≢false (sym h ∙ ap (λ o. named_by o empty good) n))

pub kind_known : (bs : List ℕ) (t : Trailer) (i : ℕ) → record_ok bs t i ≡ true → known (kind_at bs t i) ≡ true
kind_known bs t i h = named_known (kind_at bs t i) _ _ (record_parts bs t i h).1

-- the form that is read is the record's
form_shown : (k f : ℕ) → form_ok k f ≡ true → cond (eqb k 32) (cond (eqb f 1) 1 0) 0 ≡ f
form_shown k f h = grind (arith, nat_tests, h)

impossible : {X : Type 0} → ◌≡◌ {A = Bool} false true → X
impossible h = absurd (true≢false (sym h))

-- by the tests alone: whether a name is needed or allowed, the kind known, the number empty's, in the index, its dots in order
by_tests : (needs may is empty listed dots : Bool) (X : List ℕ) → (listed ≡ true → empty ≡ false) → named_by (cond needs (Some Always) (cond may (Some Sometimes) (cond is (Some Never) None))) empty (listed && dots) ≡ true → cond needs (Some (cond listed X [])) (cond may (cond empty None (Some (cond listed X []))) None) ≡ cond empty None (Some X)
by_tests true may is true true dots X f h = impossible (sym (f refl))
by_tests true may is false true dots X f h = refl
by_tests true may is empty false dots X f h = impossible h
by_tests false true is true listed dots X f h = refl
by_tests false true is false true dots X f h = refl
by_tests false true is false false dots X f h = impossible h
by_tests false false true true listed dots X f h = refl
by_tests false false true false listed dots X f h = impossible h
by_tests false false false empty listed dots X f h = impossible h

-- the name that is read is the record's
name_shown : (bs : List ℕ) (t : Trailer) (k n : ℕ) → t.name_count < 65536 → naming_ok bs t k n ≡ true → kind_name bs t k n ≡ cond (eqb n 0xffff_ffff) None (Some (name_bytes bs t n))
name_shown bs t k n few h =
    by_tests (needs_name k) (may_have_name k) (known k) (eqb n 0xffff_ffff) (ltb n t.name_count) (dots_ok k (name_bytes bs t n)) (name_bytes bs t n)
    (λ e. let l = ltb-true n t.name_count e in ne_eqb n 0xffff_ffff (λ (z : n ≡ 0xffff_ffff). omega arith))
    h

module _ (bs : List ℕ) (t : Trailer) where
  -- n places from pos on, each after the node at the one before
  abbrev next_places : ℕ → ℕ → List ℕ
  next_places zero pos = []
  next_places (suc n) pos = pos ∷ next_places n (after_place bs t pos)

  five : (n pos : ℕ) → n ≤ 5 → take n (pos ∷ after_place bs t pos ∷ after_place bs t (after_place bs t pos) ∷ after_place bs t (after_place bs t (after_place bs t pos)) ∷ after_place bs t (after_place bs t (after_place bs t (after_place bs t pos))) ∷ []) ≡ next_places n pos
  five zero pos h = refl
  five (suc zero) pos h = refl
  five (suc (suc zero)) pos h = refl
  five (suc (suc (suc zero))) pos h = refl
  five (suc (suc (suc (suc zero)))) pos h = refl
  five (suc (suc (suc (suc (suc zero))))) pos h = refl
  five (suc (suc (suc (suc (suc (suc n)))))) pos h = absurd (omega (arith, h))

  -- where trees stand for slots, their places come one after the other
  places_next : (letters : List ℕ) (ts : Trees) (pos : ℕ) → RowAt bs t pos ts → slotted letters ts ≡ true → pos + length (trees_records ts) ≤ t.record_count → next_places (length letters) pos ≡ places pos ts
  places_next [] none pos r s e = refl
  places_next [] (more x xs) pos r s e = impossible s
  places_next (a ∷ letters) none pos r s e = impossible s
  places_next (a ∷ letters) (more x xs) pos r s e =
      let f = row_first bs t pos x xs r in
      let both = and_parts (takes_tree a x) (slotted letters xs) s in
      let l : pos < t.record_count = omega (arith, e, f.ends, f.some) in
      let after : after_place bs t pos ≡ pos + length (tree_records x) =
      cond-true (ltb pos t.record_count) _ _ (lt-ltb pos t.record_count l) ∙ ap (λ (n : ℕ). pos + n) f.size in
      ap (λ (p : ℕ). pos ∷ next_places (length letters) p) after
      ∙ ap (λ (ps : List ℕ). pos ∷ ps) (places_next letters xs (pos + length (tree_records x)) f.next both.1 (omega (arith, e, length-append (tree_records x) (trees_records xs))))

  few_slots : (k : ℕ) → arity k ≤ 5
  few_slots k = grind (arith, nat_tests)

  -- the children of a node that is no List
  children_next : (i k : ℕ) → kind_at bs t i ≡ k → (k ≡ 1 → ⊥) → Rooted bs t i t.record_count → next_places (arity k) (i + 1) ≡ children bs t i
  children_next i k e n r = of r.tree r.stands r.formed r.ends
    where
      of : (x : Tree) → StandsAt bs t i x → well_formed x ≡ true → i + length (tree_records x) ≤ t.record_count → next_places (arity k) (i + 1) ≡ children bs t i
      of (node l ts) s f w =
          let p = inside bs t i l ts s in
          let same : k ≡ l.kind = sym e ∙ ap (λ (a : Label). a.kind) p.label in
          let slots = formed_slots l ts (λ (z : l.kind ≡ 1). n (same ∙ z)) f in
          ap (λ (m : ℕ). next_places m (i + 1)) (arity_columns k ∙ ap (λ (a : ℕ). length (columns a)) same)
          ∙ places_next (columns l.kind) ts (i + 1) p.row slots (omega (arith, w))
          ∙ sym (children_places bs t i l ts s)

  -- so each record of a file that passes shows its children
  rooted : Sound bs t → (i : ℕ) → i < t.record_count → Rooted bs t i t.record_count
  rooted s i h =
      let one = (spelling_rule bs t).passes s.framed.some s.tree in
      let long : t.record_count ≡ length (tree_records one.tree) = sym (from_length bs t 0 t.record_count) ∙ ap length one.spelled in
      let z : 0 + i ≡ i = omega arith in
      subst (λ (j : ℕ). Rooted bs t j t.record_count) z
      (tree_at_lem bs t one.tree 0 i t.record_count (spelled_stands bs t one.tree one.spelled) one.admitted.formed (omega (arith, long)) (omega (arith, long, h)))

  places_shown : Sound bs t → (i : ℕ) → i < t.record_count → slot_places (kind_at bs t i) (places_after bs t i) ≡ places_at bs t i
  places_shown s i h =
      ⊎_elim
      (λ (k : kind_at bs t i ≡ 1).
      let b = eq-eqb (kind_at bs t i) 1 k in
      cond-true (eqb (kind_at bs t i) 1) _ _ b ∙ sym (cond-true (eqb (kind_at bs t i) 1) _ _ b))
      (λ (n : kind_at bs t i ≡ 1 → ⊥).
      let b = ne_eqb (kind_at bs t i) 1 n in
      cond-false (eqb (kind_at bs t i) 1) _ _ b ∙ five (arity (kind_at bs t i)) (i + 1) (few_slots (kind_at bs t i))
      ∙ children_next i (kind_at bs t i) refl n (rooted s i h) ∙ sym (cond-false (eqb (kind_at bs t i) 1) _ _ b))
      (cases_eq (kind_at bs t i) 1)

  -- what is read of a node is what it shows
  pub node_shown : Sound bs t → (i : ℕ) → i < t.record_count → in_row (said_of bs t (kind_at bs t i) (form_at bs t i) (name_number bs t i) (places_after bs t i)) (row_at bs t i) ≡ node_at bs t i
  node_shown s i h =
      let r = record_parts bs t i (s.records i h) in
      let form = form_shown (kind_at bs t i) (form_at bs t i) r.0 in
      let name = name_shown bs t (kind_at bs t i) (name_number bs t i) s.framed.few_names r.1 in
      let at = places_shown s i h in
      λ j. record {
        label = record { kind = kind_at bs t i; form = form j; name = name j; row = row_at bs t i };
        places = at j;
      }
