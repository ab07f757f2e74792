-- What the check asks of a node by places is what the definitions ask of the tree that stands there.
use Rattle.std.proofs.Common.{◌≡◌, ℕ, ◌+◌, ◌≤◌, Bool, true, false, cond, not, ◌&&◌, ◌||◌, eqb, ltb, leb, List, [], ◌∷◌, length, refl, ap, ◌∙◌, arith}
use Rattle.std.proofs.lemmas.Bool.{lt-ltb, le-ltb, le-leb, and_from, and_left}
use Rattle.treefile.specs.declared.trailer.Trailer.{Trailer}
use Rattle.treefile.specs.Records.{kind_at, size_at}
use Rattle.treefile.specs.Slots.{V, G, asks_list, element, single, columns}
use Rattle.treefile.specs.Fits.{end_of, within, children, elements_fit, list_fits, second_absent, bare_arg, takes, slot_fits, slots_fit, fits}
use Rattle.treefile.specs.Trees.{Label, Tree, node, Trees, none, more, tree_records, trees_records, kind_of, some, all_elements, second_is_absent, takes_tree, slotted}
use Rattle.treefile.specs.Spelling.{StandsAt, RowAt}
use Rattle.treefile.proofs.Verdicts.{and_true}
use Rattle.treefile.proofs.Walking.{places, Inside, FirstOf, inside, row_first, children_places}

and_same : (a b c d : Bool) → a ≡ b → c ≡ d → (a && c) ≡ (b && d)
and_same a b c d e f = ap (λ (x : Bool). x && c) e ∙ ap (λ (x : Bool). b && x) f

or_same : (a b c d : Bool) → a ≡ b → c ≡ d → (a || c) ≡ (b || d)
or_same a b c d e f = ap (λ (x : Bool). x || c) e ∙ ap (λ (x : Bool). b || x) f

cond_same : (b x y u v : Bool) → x ≡ u → y ≡ v → cond b x y ≡ cond b u v
cond_same true x y u v e f = e
cond_same false x y u v e f = f

module _ (bs : List ℕ) (t : Trailer) where
  pub within_true : (end p : ℕ) → 1 ≤ size_at bs t p → end_of bs t p ≤ end → within bs t end p ≡ true
  within_true end p h k = and_from (leb 1 (size_at bs t p)) (leb (end_of bs t p) end) (le-leb 1 (size_at bs t p) h) (le-leb (end_of bs t p) end k)

  -- the first of a row lies within the row's end
  row_within :
      (pos end : ℕ) (x : Tree) (xs : Trees) → FirstOf bs t pos x xs →
      pos + length (trees_records (more x xs)) ≡ end → within bs t end pos ≡ true
  row_within pos end x xs f e = within_true end pos f.some (omega (arith, f.ends, e))

  next_end :
      (pos end : ℕ) (x : Tree) (xs : Trees) → FirstOf bs t pos x xs →
      pos + length (trees_records (more x xs)) ≡ end →
      pos + length (tree_records x) + length (trees_records xs) ≡ end
  next_end pos end x xs f e = omega (arith, f.ends, f.size, e)

  pub elements_agree :
      (letter pos end : ℕ) (xs : Trees) → RowAt bs t pos xs → pos + length (trees_records xs) ≡ end →
      elements_fit bs t letter end (places pos xs) ≡ all_elements letter xs
  elements_agree letter pos end none r e = refl
  elements_agree letter pos end (more x xs) r e =
      let f = row_first bs t pos x xs r in
      and_same (within bs t end pos && element letter (kind_at bs t pos)) (element letter (kind_of x))
      (elements_fit bs t letter end (places (pos + length (tree_records x)) xs)) (all_elements letter xs)
      (and_true (within bs t end pos) (element letter (kind_at bs t pos)) (row_within pos end x xs f e) ∙ ap (element letter) f.kind)
      (elements_agree letter (pos + length (tree_records x)) end xs f.next (next_end pos end x xs f e))

  some_agree : (n : ℕ) (ts : Trees) → n ≡ length (trees_records ts) + 1 → ltb 1 n ≡ some ts
  some_agree n none e = le-ltb 1 n (omega (arith, e))
  some_agree n (more (node l us) xs) e = lt-ltb 1 n (omega (arith, e))

  second_agree : (i : ℕ) (l : Label) (ts : Trees) → Inside bs t i l ts → second_absent bs t i ≡ second_is_absent ts
  second_agree i l none p = and_left (ltb (i + 1) (end_of bs t i)) _ (le-ltb (i + 1) (end_of bs t i) (omega (arith, p.size)))
  second_agree i l (more x none) p =
      let f = row_first bs t (i + 1) x none p.row in
      and_true (ltb (i + 1) (end_of bs t i)) _ (lt-ltb (i + 1) (end_of bs t i) (omega (arith, p.size, f.ends, f.some)))
      ∙ and_true (within bs t (end_of bs t i) (i + 1)) _ (within_true (end_of bs t i) (i + 1) f.some (omega (arith, p.size, f.ends)))
      ∙ and_left (ltb (end_of bs t (i + 1)) (end_of bs t i)) _ (le-ltb (end_of bs t (i + 1)) (end_of bs t i) (omega (arith, p.size, f.ends)))
  second_agree i l (more x (more y ys)) p =
      let f = row_first bs t (i + 1) x (more y ys) p.row in
      let g = row_first bs t (end_of bs t (i + 1)) y ys f.rest in
      and_true (ltb (i + 1) (end_of bs t i)) _ (lt-ltb (i + 1) (end_of bs t i) (omega (arith, p.size, f.ends, f.some)))
      ∙ and_true (within bs t (end_of bs t i) (i + 1)) _ (within_true (end_of bs t i) (i + 1) f.some (omega (arith, p.size, f.ends)))
      ∙ and_true (ltb (end_of bs t (i + 1)) (end_of bs t i)) _ (lt-ltb (end_of bs t (i + 1)) (end_of bs t i) (omega (arith, p.size, f.ends, g.ends, g.some)))
      ∙ ap (λ (k : ℕ). eqb k 0) g.kind

  list_agree :
      (letter i : ℕ) (l : Label) (ts : Trees) → StandsAt bs t i (node l ts) →
      list_fits bs t letter i ≡ (eqb l.kind 1 && ((not (eqb letter G) || some ts) && all_elements letter ts))
  list_agree letter i l ts s =
      let p = inside bs t i l ts s in
      and_same (eqb (kind_at bs t i) 1) (eqb l.kind 1) _ _ (ap (λ (a : Label). eqb a.kind 1) p.label)
      (and_same (not (eqb letter G) || ltb 1 (size_at bs t i)) (not (eqb letter G) || some ts) _ _
      (ap (λ (b : Bool). not (eqb letter G) || b) (some_agree (size_at bs t i) ts p.size))
      (ap (elements_fit bs t letter (end_of bs t i)) (children_places bs t i l ts s)
      ∙ elements_agree letter (i + 1) (end_of bs t i) ts p.row (omega (arith, p.size))))

  bare_agree :
      (i : ℕ) (l : Label) (ts : Trees) → Inside bs t i l ts →
      bare_arg bs t i ≡ (eqb l.kind 0 || (eqb l.kind 45 && second_is_absent ts))
  bare_agree i l ts p =
      or_same (eqb (kind_at bs t i) 0) (eqb l.kind 0) _ _ (ap (λ (a : Label). eqb a.kind 0) p.label)
      (and_same (eqb (kind_at bs t i) 45) (eqb l.kind 45) _ _ (ap (λ (a : Label). eqb a.kind 45) p.label) (second_agree i l ts p))

  -- a node may stand in a slot exactly where its tree may
  pub takes_agree : (letter i : ℕ) (x : Tree) → StandsAt bs t i x → takes bs t letter i ≡ takes_tree letter x
  takes_agree letter i (node l ts) s =
      let p = inside bs t i l ts s in
      cond_same (asks_list letter) _ _ _ _ (list_agree letter i l ts s)
      (cond_same (eqb letter V) _ _ _ _ (bare_agree i l ts p) (ap (λ (a : Label). single letter a.kind) p.label))

  pub slots_agree :
      (letters : List ℕ) (pos end : ℕ) (xs : Trees) → RowAt bs t pos xs → pos + length (trees_records xs) ≡ end →
      slots_fit bs t letters end (places pos xs) ≡ slotted letters xs
  slots_agree [] pos end none r e = refl
  slots_agree [] pos end (more x xs) r e = refl
  slots_agree (a ∷ letters) pos end none r e = refl
  slots_agree (a ∷ letters) pos end (more x xs) r e =
      let f = row_first bs t pos x xs r in
      and_same (slot_fits bs t a end pos) (takes_tree a x) _ _
      (and_true (within bs t end pos) (takes bs t a pos) (row_within pos end x xs f e) ∙ takes_agree a pos x f.first)
      (slots_agree letters (pos + length (tree_records x)) end xs f.next (next_end pos end x xs f e))

  -- the children of a node fit exactly where its subtrees do
  pub fits_agree :
      (i : ℕ) (l : Label) (ts : Trees) → StandsAt bs t i (node l ts) →
      fits bs t i ≡ cond (eqb l.kind 1) true (slotted (columns l.kind) ts)
  fits_agree i l ts s =
      let p = inside bs t i l ts s in
      let k : kind_at bs t i ≡ l.kind = ap (λ (a : Label). a.kind) p.label in
      ap (λ (n : ℕ). cond (eqb n 1) true (slots_fit bs t (columns n) (end_of bs t i) (children bs t i))) k
      ∙ ap (λ (ps : List ℕ). cond (eqb l.kind 1) true (slots_fit bs t (columns l.kind) (end_of bs t i) ps)) (children_places bs t i l ts s)
      ∙ ap (λ (b : Bool). cond (eqb l.kind 1) true b) (slots_agree (columns l.kind) (i + 1) (end_of bs t i) ts p.row (omega (arith, p.size)))
