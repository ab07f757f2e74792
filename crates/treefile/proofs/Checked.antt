-- What a checked tree gives at each of its nodes: its subtrees by slots, and the elements of its Lists.
use Rattle.std.proofs.Common.{◌≡◌, ℕ, zero, suc, ◌+◌, ◌<◌, ◌≤◌, Bool, true, false, cond, not, ◌&&◌, ◌||◌, eqb, List, [], ◌∷◌, length, get_or, Some, None, Option, sym, refl, ap, ◌∙◌, subst, arith}
use Rattle.std.proofs.lemmas.Bool.{both_ways, cond-true, cond-false, and_parts, eqb-true, eq-eqb, ne_eqb}
use Rattle.treefile.specs.declared.trailer.Trailer.{Trailer}
use Rattle.treefile.specs.Kinds.{expression}
use Rattle.treefile.specs.Slots.{X, B, V, G, asks_list, element, single, columns}
use Rattle.treefile.specs.Trees.{Label, Tree, node, Trees, none, more, tree_records, height, heights, kind_of, some, all_elements, takes_tree, slotted, well_formed, all_well_formed}
use Rattle.treefile.specs.Spelling.{StandsAt, RowAt, Spells, Admitted, records_from}
use Rattle.treefile.proofs.Walking.{places, row_first, from_length}
use Rattle.treefile.proofs.Sorts.{single_no_list, element_no_list}

-- the subtrees of a node that is no List stand in its slots, one for each
pub formed_slots :
    (l : Label) (ts : Trees) → (l.kind ≡ 1 → ⊥) → well_formed (node l ts) ≡ true →
    slotted (columns l.kind) ts ≡ true
formed_slots l ts other w =
    sym (cond-false (eqb l.kind 1) true (slotted (columns l.kind) ts) (ne_eqb l.kind 1 other))
    ∙ (and_parts (cond (eqb l.kind 1) true (slotted (columns l.kind) ts)) (all_well_formed ts) w).0

-- the subtrees of a node are well formed
pub formed_below : (l : Label) (ts : Trees) → well_formed (node l ts) ≡ true → all_well_formed ts ≡ true
formed_below l ts w =
    (and_parts (cond (eqb l.kind 1) true (slotted (columns l.kind) ts)) (all_well_formed ts) w).1

pub formed_more :
    (x : Tree) (xs : Trees) → all_well_formed (more x xs) ≡ true →
    (well_formed x ≡ true) × (all_well_formed xs ≡ true)
formed_more x xs w = and_parts (well_formed x) (all_well_formed xs) w

pub shallow_below : (l : Label) (ts : Trees) (levels : ℕ) → height (node l ts) ≤ levels → heights ts < levels
shallow_below l ts levels h = omega (arith, h)

pub shallow_more :
    (x : Tree) (xs : Trees) (levels : ℕ) → heights (more x xs) ≤ levels →
    (height x ≤ levels) × (heights xs ≤ levels)
shallow_more x xs levels h = (omega (arith, h), omega (arith, h))

-- no slot is left, and no tree
pub slotted_none : (ts : Trees) → slotted [] ts ≡ true → ts ≡ none
slotted_none none e = refl
slotted_none (more x xs) e = absurd (both_ways false refl e)

-- the tree in the first slot, and the trees in the slots after it
pub record Slot (a : ℕ) (letters : List ℕ) (ts : Trees) : Type 0 where
  pub tree : Tree
  pub rest : Trees
  pub is : ts ≡ more tree rest
  pub takes : takes_tree a tree ≡ true
  pub left : slotted letters rest ≡ true

pub slotted_more : (a : ℕ) (letters : List ℕ) (ts : Trees) → slotted (a ∷ letters) ts ≡ true → Slot a letters ts
slotted_more a letters none e = absurd (both_ways false refl e)
slotted_more a letters (more x xs) e =
    let both = and_parts (takes_tree a x) (slotted letters xs) e in
    record { tree = x; rest = xs; is = refl; takes = both.0; left = both.1 }

-- the tree at a number of a row of trees
abbrev pub tree_at : Trees → ℕ → Option Tree
tree_at none k = None
tree_at (more x xs) zero = Some x
tree_at (more x xs) (suc k) = tree_at xs k

none_there : {Q : Type 0} (x : Tree) → ◌≡◌ {A = Option Tree} None (Some x) → Q
none_there x e = let z : ◌≡◌ {A = ℕ} 0 1 = cc in absurd (omega arith)

-- the tree in a column is one that the column's letter takes
pub slotted_at :
    (letters : List ℕ) (ts : Trees) (k : ℕ) → slotted letters ts ≡ true → k < length letters →
    (x : Tree) × (tree_at ts k ≡ Some x) × (takes_tree (get_or letters k 0) x ≡ true)
slotted_at [] ts k e h = absurd (omega (arith, h))
slotted_at (a ∷ letters) none k e h = absurd (both_ways false refl e)
slotted_at (a ∷ letters) (more x xs) zero e h = (x, refl, (and_parts (takes_tree a x) (slotted letters xs) e).0)
slotted_at (a ∷ letters) (more x xs) (suc k) e h =
    slotted_at letters xs k (and_parts (takes_tree a x) (slotted letters xs) e).1 (omega (arith, h))

-- each tree of a row is well formed if the row is
pub formed_at : (ts : Trees) (k : ℕ) (x : Tree) → all_well_formed ts ≡ true → tree_at ts k ≡ Some x → well_formed x ≡ true
formed_at none k x w e = none_there x e
formed_at (more y ys) zero x w e =
    let same : y ≡ x = cc in
    ap well_formed (sym same) ∙ (formed_more y ys w).0
formed_at (more y ys) (suc k) x w e = formed_at ys k x (formed_more y ys w).1 e

-- each element of a List in a slot is of the letter's sort
pub element_at :
    (letter : ℕ) (ts : Trees) (k : ℕ) (x : Tree) → all_elements letter ts ≡ true → tree_at ts k ≡ Some x →
    element letter (kind_of x) ≡ true
element_at letter none k x w e = none_there x e
element_at letter (more y ys) zero x w e =
    let same : y ≡ x = cc in
    ap (λ (z : Tree). element letter (kind_of z)) (sym same) ∙ (and_parts (element letter (kind_of y)) (all_elements letter ys) w).0
element_at letter (more y ys) (suc k) x w e =
    element_at letter ys k x (and_parts (element letter (kind_of y)) (all_elements letter ys) w).1 e

pub elements_more :
    (letter : ℕ) (x : Tree) (xs : Trees) → all_elements letter (more x xs) ≡ true →
    (element letter (kind_of x) ≡ true) × (all_elements letter xs ≡ true)
elements_more letter x xs w = and_parts (element letter (kind_of x)) (all_elements letter xs) w

-- an element of a List is no List
pub element_other : (letter kind : ℕ) → element letter kind ≡ true → kind ≡ 1 → ⊥
element_other letter kind e k = both_ways (element letter kind) (ap (element letter) k ∙ element_no_list letter) e

-- the slots of letters that ask for a List hold one, with elements of the letter's sort, and under G with at least one
pub record Listed (letter : ℕ) (l : Label) (ts : Trees) : Type 0 where
  pub kind : l.kind ≡ 1
  pub elements : all_elements letter ts ≡ true
  pub some_under : letter ≡ G → some ts ≡ true

pub taken_elements :
    (letter : ℕ) (l : Label) (ts : Trees) → asks_list letter ≡ true → takes_tree letter (node l ts) ≡ true →
    Listed letter l ts
taken_elements letter l ts asks e =
    let whole : (eqb l.kind 1 && ((not (eqb letter G) || some ts) && all_elements letter ts)) ≡ true =
    sym (cond-true (asks_list letter) _ _ asks) ∙ e in
    let p = and_parts (eqb l.kind 1) ((not (eqb letter G) || some ts) && all_elements letter ts) whole in
    let q = and_parts (not (eqb letter G) || some ts) (all_elements letter ts) p.1 in
    record {
      kind = eqb-true l.kind 1 p.0;
      elements = q.1;
      some_under = λ g. sym (ap (λ (b : Bool). not b || some ts) (eq-eqb letter G g)) ∙ q.0;
    }

-- the other letters take a tree by its kind; V asks more of an Arg
pub taken_single :
    (letter : ℕ) (x : Tree) → asks_list letter ≡ false → (letter ≡ V → ⊥) → takes_tree letter x ≡ true →
    single letter (kind_of x) ≡ true
taken_single letter (node l ts) asks other e =
    sym (cond-false (asks_list letter) _ _ asks ∙ cond-false (eqb letter V) _ _ (ne_eqb letter V other)) ∙ e

-- such a tree is no List
pub single_other : (letter kind : ℕ) → single letter kind ≡ true → kind ≡ 1 → ⊥
single_other letter kind e k = both_ways (single letter kind) (ap (single letter) k ∙ single_no_list letter) e

-- a root that is a List is one of statements
pub root_list : (l : Label) (ts : Trees) → Admitted (node l ts) → l.kind ≡ 1 → Listed B l ts
root_list l ts a k =
    taken_elements B l ts refl
    (ap (λ (b : Bool). takes_tree (cond b B X) (node l ts)) (sym (eq-eqb l.kind 1 k)) ∙ a.root)

-- another root is an expression
pub root_expression : (x : Tree) → Admitted x → (kind_of x ≡ 1 → ⊥) → expression (kind_of x) ≡ true
root_expression (node l ts) a other =
    ap (λ (b : Bool). takes_tree (cond b B X) (node l ts)) (sym (ne_eqb l.kind 1 other)) ∙ a.root

module _ (bs : List ℕ) (t : Trailer) where
  -- a spelled tree stands at the root
  pub spelled_stands : (x : Tree) → Spells bs t x → StandsAt bs t 0 x
  spelled_stands x e =
      let long : length (tree_records x) ≡ t.record_count =
      sym (ap length e) ∙ from_length bs t 0 t.record_count in
      record { records = ap (records_from bs t 0) long ∙ e }

  -- each tree of a row stands at its place
  pub stands_at_lem :
      (pos : ℕ) (ts : Trees) (k : ℕ) (x : Tree) → RowAt bs t pos ts → tree_at ts k ≡ Some x →
      StandsAt bs t (get_or (places pos ts) k 0) x
  stands_at_lem pos none k x r e = none_there x e
  stands_at_lem pos (more y ys) zero x r e =
      let same : y ≡ x = cc in
      subst (StandsAt bs t pos) same (row_first bs t pos y ys r).first
  stands_at_lem pos (more y ys) (suc k) x r e =
      stands_at_lem (pos + length (tree_records y)) ys k x (row_first bs t pos y ys r).next e

-- a row in slots has as many trees as there are slots
pub slotted_long :
    (letters : List ℕ) (pos : ℕ) (ts : Trees) → slotted letters ts ≡ true →
    length (places pos ts) ≡ length letters
slotted_long [] pos none e = refl
slotted_long [] pos (more x xs) e = absurd (both_ways false refl e)
slotted_long (a ∷ letters) pos none e = absurd (both_ways false refl e)
slotted_long (a ∷ letters) pos (more x xs) e =
    ap suc (slotted_long letters (pos + length (tree_records x)) xs (and_parts (takes_tree a x) (slotted letters xs) e).1)
