-- The check of the tree passes exactly where the records spell one tree that a file may hold.
use Rattle.std.proofs.Common.{◌≡◌, ℕ, zero, suc, ◌+◌, ◌<◌, ◌≤◌, true, cond, eqb, List, length, Ok, Err, sym, refl, ap, ◌∙◌, subst, inl, inr, arith}
use Rattle.std.proofs.lemmas.Bool.{cases_lt, cond-true, and_parts, and_from, eqb-true, eq-eqb}
use Rattle.treefile.specs.declared.trailer.Trailer.{Trailer}
use Rattle.treefile.specs.Faults.{Verdict}
use Rattle.treefile.specs.First.{and_then, first_fault}
use Rattle.treefile.specs.Records.{kind_at, size_at}
use Rattle.treefile.specs.Slots.{X, B, columns}
use Rattle.treefile.specs.Fits.{end_of, kids, children, takes, fits, slots_fault, depth_fault, node_check, root_fits, tree_check, Tiled}
use Rattle.treefile.specs.Trees.{Tree, node, Trees, none, more, Entry, tree_records, trees_records, height, heights, kind_of, takes_tree, slotted, well_formed, all_well_formed}
use Rattle.treefile.specs.Spelling.{label_at, records_from, StandsAt, RowAt, Spells, Admitted, SpellsOne, SpellingRule}
use Rattle.treefile.proofs.Same.{one_tree}
use Rattle.treefile.proofs.Walking.{places, inside, stands_node, stands_size, stands_kind, from_length, row_first, row_more, children_places}
use Rattle.treefile.proofs.Children.{children_sorted}
use Rattle.treefile.proofs.Sorts.{AllSorted, tiled_by}
use Rattle.treefile.proofs.Steps.{kids_more, lies_within}
use Rattle.treefile.proofs.Verdicts.{never, then_ok, cond_ok}
use Rattle.treefile.proofs.Agree.{takes_agree, fits_agree}

-- a tree stands at a place, with the children that its nodes ask for and so many levels at most
pub record Formed (bs : List ℕ) (t : Trailer) (levels i : ℕ) : Type 0 where
  pub tree : Tree
  pub stands : StandsAt bs t i tree
  pub formed : well_formed tree ≡ true
  pub shallow : height tree ≤ levels

-- such trees stand one after the other from a place to an end
pub record FormedRow (bs : List ℕ) (t : Trailer) (levels pos end : ℕ) : Type 0 where
  pub trees : Trees
  pub row : RowAt bs t pos trees
  pub ends : pos + length (trees_records trees) ≡ end
  pub formed : all_well_formed trees ≡ true
  pub shallow : heights trees ≤ levels

module _ (bs : List ℕ) (t : Trailer) where
  no_more : (levels pos end : ℕ) → pos ≡ end → FormedRow bs t levels pos end
  no_more levels pos end e =
      record { trees = none; row = record { records = refl }; ends = omega (arith, e); formed = refl; shallow = omega arith }

  one_more :
      (levels pos end : ℕ) → Formed bs t levels pos → FormedRow bs t levels (end_of bs t pos) end →
      FormedRow bs t levels pos end
  one_more levels pos end x xs =
      let row = row_more bs t pos x.tree xs.trees x.stands xs.row in
      let f = row_first bs t pos x.tree xs.trees row in
      record {
        trees = more x.tree xs.trees;
        row = row;
        ends = f.ends ∙ xs.ends;
        formed = and_from (well_formed x.tree) (all_well_formed xs.trees) x.formed xs.formed;
        shallow = omega (arith, x.shallow, xs.shallow);
      }

  -- at so many levels, a node that passes, and that is held if it is a List, spells a tree
  abbrev EachFormed : ℕ → Type 0
  EachFormed levels =
      (i : ℕ) → node_check bs t levels i ≡ Ok tt → 1 ≤ size_at bs t i → (kind_at bs t i ≡ 1 → Tiled bs t i) → Formed bs t levels i

  -- nodes that pass and are held spell a row of trees, if a node that passes spells a tree
  row_formed :
      (levels : ℕ) → EachFormed levels → (n pos end : ℕ) → pos ≤ end → end ≤ pos + n →
      AllSorted bs t end (kids bs t n pos end) → first_fault (node_check bs t levels) (kids bs t n pos end) ≡ Ok tt →
      FormedRow bs t levels pos end
  row_formed levels each zero pos end h k held ok = no_more levels pos end (omega (arith, h, k))
  row_formed levels each (suc n) pos end h k held ok = elim (cases_lt pos end) [
    | inl less ↦
        let e = kids_more bs t n pos end less in
        let both = subst (AllSorted bs t end) e held in
        let oks = then_ok (node_check bs t levels pos) (first_fault (node_check bs t levels) (kids bs t n (end_of bs t pos) end))
        (sym (ap (first_fault (node_check bs t levels)) e) ∙ ok) in
        let sized = lies_within bs t end pos both.0.inside in
        one_more levels pos end (each pos oks.0 sized.0 both.0.tiled)
        (row_formed levels each n (end_of bs t pos) end sized.1 (omega (arith, k, sized.0)) both.1 oks.1)
    | inr over ↦ no_more levels pos end (omega (arith, h, over))
  ]

  -- a node that passes, and that is held if it is a List, spells a tree
  pub node_formed :
      (levels i : ℕ) → node_check bs t levels i ≡ Ok tt → 1 ≤ size_at bs t i →
      (kind_at bs t i ≡ 1 → Tiled bs t i) → Formed bs t levels i
  unfolding node_check
  node_formed zero i ok some els =
      never (depth_fault bs t i) tt (cond_ok (fits bs t i) (Err (depth_fault bs t i)) (slots_fault bs t i) ok).1
  node_formed (suc levels) i ok some els =
      let p = cond_ok (fits bs t i) (first_fault (node_check bs t levels) (children bs t i)) (slots_fault bs t i) ok in
      let r = row_formed levels (node_formed levels) (size_at bs t i) (i + 1) (end_of bs t i) (omega (arith, some)) (omega arith)
      (children_sorted bs t i p.0 els) p.1 in
      let size : size_at bs t i ≡ length (trees_records r.trees) + 1 = omega (arith, r.ends) in
      let s : StandsAt bs t i (node (label_at bs t i) r.trees) = stands_node bs t i (label_at bs t i) r.trees refl size r.row in
      record {
        tree = node (label_at bs t i) r.trees;
        stands = s;
        formed = and_from _ (all_well_formed r.trees) (sym (fits_agree bs t i (label_at bs t i) r.trees s) ∙ p.0) r.formed;
        shallow = omega (arith, r.shallow);
      }

mutual
  unfolding node_check

  -- a tree with the children that its nodes ask for passes where it stands
  pub node_passes :
      (bs : List ℕ) (t : Trailer) (x : Tree) (levels i : ℕ) → StandsAt bs t i x → well_formed x ≡ true →
      height x ≤ levels → node_check bs t levels i ≡ Ok tt
  node_passes bs t (node l ts) zero i s w h = absurd (omega (arith, h))
  node_passes bs t (node l ts) (suc levels) i s w h =
      let p = inside bs t i l ts s in
      let both = and_parts (cond (eqb l.kind 1) true (slotted (columns l.kind) ts)) (all_well_formed ts) w in
      cond-true (fits bs t i) _ _ (fits_agree bs t i l ts s ∙ both.0)
      ∙ ap (first_fault (node_check bs t levels)) (children_places bs t i l ts s)
      ∙ row_passes bs t ts levels (i + 1) p.row both.1 (omega (arith, h))

  -- and so do trees one after the other
  pub row_passes :
      (bs : List ℕ) (t : Trailer) (xs : Trees) (levels pos : ℕ) → RowAt bs t pos xs → all_well_formed xs ≡ true →
      heights xs ≤ levels → first_fault (node_check bs t levels) (places pos xs) ≡ Ok tt
  row_passes bs t none levels pos r w h = refl
  row_passes bs t (more x xs) levels pos r w h =
      let f = row_first bs t pos x xs r in
      let both = and_parts (well_formed x) (all_well_formed xs) w in
      ap (λ (v : Verdict). and_then v (first_fault (node_check bs t levels) (places (pos + length (tree_records x)) xs)))
      (node_passes bs t x levels pos f.first both.0 (omega (arith, h)))
      ∙ row_passes bs t xs levels (pos + length (tree_records x)) f.next both.1 (omega (arith, h))

module _ (bs : List ℕ) (t : Trailer) where
  -- the letter that the root is tested by, from its place or from its tree
  root_agree :
      (x : Tree) → StandsAt bs t 0 x →
      takes bs t (cond (eqb (kind_at bs t 0) 1) B X) 0 ≡ takes_tree (cond (eqb (kind_of x) 1) B X) x
  root_agree x s =
      takes_agree bs t (cond (eqb (kind_at bs t 0) 1) B X) 0 x s
      ∙ ap (λ (k : ℕ). takes_tree (cond (eqb k 1) B X) x) (stands_kind bs t 0 x s)

  -- a tree that stands at the root and has as many records as the file is the only one that the file spells
  spelled_one :
      (x : Formed bs t 200 0) → size_at bs t 0 ≡ t.record_count →
      takes bs t (cond (eqb (kind_at bs t 0) 1) B X) 0 ≡ true → SpellsOne bs t
  spelled_one x all root =
      let long : t.record_count ≡ length (tree_records x.tree) = sym all ∙ stands_size bs t 0 x.tree x.stands in
      let whole : Spells bs t x.tree = ap (records_from bs t 0) long ∙ x.stands.records in
      record {
        tree = x.tree;
        spelled = whole;
        only = λ y e. one_tree y x.tree (sym e ∙ whole);
        admitted = record {
          root = sym (root_agree x.tree x.stands) ∙ root;
          formed = x.formed;
          shallow = x.shallow;
        };
      }

  passes : 0 < t.record_count → tree_check bs t ≡ Ok tt → SpellsOne bs t
  passes some ok =
      let p = cond_ok (root_fits bs t) (node_check bs t 200 0) (slots_fault bs t 0) ok in
      let root = and_parts (eqb (size_at bs t 0) t.record_count) (takes bs t (cond (eqb (kind_at bs t 0) 1) B X) 0) p.0 in
      let all : size_at bs t 0 ≡ t.record_count = eqb-true (size_at bs t 0) t.record_count root.0 in
      spelled_one
      (node_formed bs t 200 0 p.1 (omega (arith, some, all)) (tiled_by bs t (cond (eqb (kind_at bs t 0) 1) B X) 0 root.1))
      all root.1

  accepts : (x : Tree) → Spells bs t x → Admitted x → tree_check bs t ≡ Ok tt
  accepts x e a =
      let long : length (tree_records x) ≡ t.record_count =
      sym (ap (λ (r : List Entry). length r) e) ∙ from_length bs t 0 t.record_count in
      let s : StandsAt bs t 0 x = record { records = ap (records_from bs t 0) long ∙ e } in
      let size : size_at bs t 0 ≡ t.record_count = stands_size bs t 0 x s ∙ long in
      cond-true (root_fits bs t) (node_check bs t 200 0) _
      (and_from (eqb (size_at bs t 0) t.record_count) (takes bs t (cond (eqb (kind_at bs t 0) 1) B X) 0)
      (eq-eqb (size_at bs t 0) t.record_count size) (root_agree x s ∙ a.root))
      ∙ node_passes bs t x 200 0 s a.formed a.shallow

  pub spelling_rule : SpellingRule bs t
  spelling_rule = record { passes = passes; accepts = accepts }
