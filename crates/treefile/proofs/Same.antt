-- The records of a tree say which tree it is.
use Rattle.std.proofs.Common.{◌≡◌, ◌+◌, List, [], ◌∷◌, ◌++◌, length, sym, refl, ap, ◌∙◌, append_assoc, arith}
use Rattle.std.proofs.lemmas.List.{length-append}
use Rattle.treefile.specs.Trees.{Label, Tree, node, Trees, none, more, Entry, tree_records, trees_records}

entry_same : (a b : Entry) (xs ys : List Entry) → a ∷ xs ≡ b ∷ ys → (a ≡ b) × (xs ≡ ys)
entry_same a b xs ys e = (cc, cc)

mutual
  -- records that begin with those of a tree begin with those of no other
  pub tree_same : (x y : Tree) (r s : List Entry) → tree_records x ++ r ≡ tree_records y ++ s → (x ≡ y) × (r ≡ s)
  tree_same (node l ts) (node m us) r s e =
      let h = entry_same (record { label = l; size = length (trees_records ts) + 1 }) (record { label = m; size = length (trees_records us) + 1 })
      (trees_records ts ++ r) (trees_records us ++ s) e in
      let label : l ≡ m = ap (λ (a : Entry). a.label) h.0 in
      let size : length (trees_records ts) + 1 ≡ length (trees_records us) + 1 = ap (λ (a : Entry). a.size) h.0 in
      let below = row_same ts us r s (omega (arith, size)) h.1 in
      (ap (λ (a : Label). node a ts) label ∙ ap (node m) below.0, below.1)

  -- the same for trees one after the other, if both rows have as many records
  pub row_same :
      (xs ys : Trees) (r s : List Entry) → length (trees_records xs) ≡ length (trees_records ys) →
      trees_records xs ++ r ≡ trees_records ys ++ s → (xs ≡ ys) × (r ≡ s)
  row_same none none r s n e = (refl, e)
  row_same none (more (node l ts) ys) r s n e = absurd (omega (arith, n))
  row_same (more (node l ts) xs) none r s n e = absurd (omega (arith, n))
  row_same (more x xs) (more y ys) r s n e =
      let first = tree_same x y (trees_records xs ++ r) (trees_records ys ++ s)
      (sym (append_assoc (tree_records x) (trees_records xs) r) ∙ e ∙ append_assoc (tree_records y) (trees_records ys) s) in
      let long : length (tree_records x) ≡ length (tree_records y) = ap (λ (z : Tree). length (tree_records z)) first.0 in
      let a = length-append (tree_records x) (trees_records xs) in
      let b = length-append (tree_records y) (trees_records ys) in
      let rest = row_same xs ys r s (omega (arith, n, long, a, b)) first.1 in
      (ap (λ (z : Tree). more z xs) first.0 ∙ ap (more y) rest.0, rest.1)

-- trees with the same records are the same trees
pub trees_same : (xs ys : Trees) → trees_records xs ≡ trees_records ys → xs ≡ ys
trees_same xs ys e =
    (row_same xs ys [] [] (ap (λ (r : List Entry). length r) e) (ap (λ (r : List Entry). r ++ []) e)).0

-- a tree with the same records is the same tree
pub one_tree : (x y : Tree) → tree_records x ≡ tree_records y → x ≡ y
one_tree x y e = (tree_same x y [] [] (ap (λ (r : List Entry). r ++ []) e)).0
