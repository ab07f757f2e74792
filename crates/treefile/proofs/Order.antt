-- The nodes of a checked file in preorder are its records in their order.
use Rattle.std.proofs.Common.{◌≡◌, ℕ, zero, suc, ◌+◌, ◌≤◌, List, ◌∷◌, ◌++◌, map, length, sym, refl, ap, ◌∙◌, arith}
use Rattle.std.proofs.lemmas.List.{length-append, map-append}
use Rattle.std.specs.List.{range_with_len}
use Rattle.treefile.specs.declared.stand.Stand.{Stand}
use Rattle.treefile.specs.declared.trailer.Trailer.{Trailer}
use Rattle.treefile.specs.Preorder.{joined, preorder, AllInOrder}
use Rattle.treefile.specs.Spelling.{StandsAt, RowAt}
use Rattle.treefile.specs.Trees.{Tree, node, Trees, none, more, tree_records, trees_records, height, heights}
use Rattle.treefile.proofs.Checked.{shallow_more, spelled_stands}
use Rattle.treefile.proofs.Sound.{Sound}
use Rattle.treefile.proofs.Spelling.{spelling_rule}
use Rattle.treefile.proofs.Walking.{places, from_length, inside, row_first, children_places}

counting_++ : (a m n : ℕ) → range_with_len a m ++ range_with_len (a + m) n ≡ range_with_len a (m + n)
counting_++ a zero n =
    let e : a + zero ≡ a = omega arith in
    let f : n ≡ zero + n = omega arith in
    ap (λ (b : ℕ). range_with_len b n) e ∙ ap (range_with_len a) f
counting_++ a (suc m) n =
    let e : a + suc m ≡ a + 1 + m = omega arith in
    let f : suc (m + n) ≡ suc m + n = omega arith in
    ap (λ (b : ℕ). a ∷ (range_with_len (a + 1) m ++ range_with_len b n)) e
    ∙ ap (λ (l : List ℕ). a ∷ l) (counting_++ (a + 1) m n) ∙ ap (range_with_len a) f

module _ (bs : List ℕ) (t : Trailer) where
  mutual
    unfolding preorder

    tree_in_order : (x : Tree) (levels depth i : ℕ) → StandsAt bs t i x → height x ≤ levels → map (λ s. s.node) (preorder bs t levels depth i) ≡ range_with_len i (length (tree_records x))
    tree_in_order (node l ts) zero depth i s h = absurd (omega (arith, h))
    tree_in_order (node l ts) (suc levels) depth i s h =
        let p = inside bs t i l ts s in
        ap (λ (ps : List ℕ). i ∷ map (λ s. s.node) (joined (preorder bs t levels (depth + 1)) ps)) (children_places bs t i l ts s)
        ∙ ap (λ (ns : List ℕ). i ∷ ns) (row_in_order ts levels (depth + 1) (i + 1) p.row (omega (arith, h)))

    row_in_order : (xs : Trees) (levels depth pos : ℕ) → RowAt bs t pos xs → heights xs ≤ levels → map (λ s. s.node) (joined (preorder bs t levels depth) (places pos xs)) ≡ range_with_len pos (length (trees_records xs))
    row_in_order none levels depth pos r h = refl
    row_in_order (more x xs) levels depth pos r h =
        let f = row_first bs t pos x xs r in
        let both = shallow_more x xs levels h in
        map-append (λ (s : Stand). s.node) (preorder bs t levels depth pos) (joined (preorder bs t levels depth) (places (pos + length (tree_records x)) xs))
        ∙ ap (λ (ns : List ℕ). ns ++ map (λ s. s.node) (joined (preorder bs t levels depth) (places (pos + length (tree_records x)) xs))) (tree_in_order x levels depth pos f.first both.0)
        ∙ ap (λ (ns : List ℕ). range_with_len pos (length (tree_records x)) ++ ns) (row_in_order xs levels depth (pos + length (tree_records x)) f.next both.1)
        ∙ counting_++ pos (length (tree_records x)) (length (trees_records xs))
        ∙ ap (range_with_len pos) (sym (length-append (tree_records x) (trees_records xs)))

  pub all_in_order : Sound bs t → AllInOrder bs t
  all_in_order s =
      let one = (spelling_rule bs t).passes s.framed.some s.tree in
      let long : length (tree_records one.tree) ≡ t.record_count = sym (ap length one.spelled) ∙ from_length bs t 0 t.record_count in
      tree_in_order one.tree 200 1 0 (spelled_stands bs t one.tree one.spelled) one.admitted.shallow ∙ ap (range_with_len 0) long
