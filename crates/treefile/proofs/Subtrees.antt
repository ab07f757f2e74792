-- Each record of a tree is the root of a subtree that stands there.
use Rattle.std.proofs.Common.{◌≡◌, ℕ, zero, suc, ◌+◌, ◌-◌, ◌<◌, ◌≤◌, true, List, length, subst, ⊎_elim, arith}
use Rattle.std.proofs.lemmas.List.{length-append}
use Rattle.std.proofs.lemmas.Bool.{cases_lt, and_parts}
use Rattle.treefile.specs.declared.trailer.Trailer.{Trailer}
use Rattle.treefile.specs.Spelling.{StandsAt, RowAt}
use Rattle.treefile.specs.Trees.{Tree, node, Trees, none, more, tree_records, trees_records, well_formed, all_well_formed}
use Rattle.treefile.proofs.Checked.{formed_below}
use Rattle.treefile.proofs.Walking.{inside, row_first}

-- a well-formed tree that stands at a place and ends at or before an end
pub record Rooted (bs : List ℕ) (t : Trailer) (i end : ℕ) : Type 0 where
  pub tree : Tree
  pub stands : StandsAt bs t i tree
  pub formed : well_formed tree ≡ true
  pub ends : i + length (tree_records tree) ≤ end

module _ (bs : List ℕ) (t : Trailer) where
  mutual
    pub tree_at_lem : (x : Tree) (i k end : ℕ) → StandsAt bs t i x → well_formed x ≡ true → i + length (tree_records x) ≤ end → k < length (tree_records x) → Rooted bs t (i + k) end
    tree_at_lem (node l ts) i zero end s f e h =
        let z : i ≡ i + zero = omega arith in
        subst (λ (j : ℕ). Rooted bs t j end) z (record { tree = node l ts; stands = s; formed = f; ends = e })
    tree_at_lem (node l ts) i (suc k) end s f e h =
        let z : i + 1 + k ≡ i + suc k = omega arith in
        subst (λ (j : ℕ). Rooted bs t j end) z
        (row_at_lem ts (i + 1) k end (inside bs t i l ts s).row (formed_below l ts f) (omega (arith, e)) (omega (arith, h)))

    pub row_at_lem : (xs : Trees) (pos k end : ℕ) → RowAt bs t pos xs → all_well_formed xs ≡ true → pos + length (trees_records xs) ≤ end → k < length (trees_records xs) → Rooted bs t (pos + k) end
    row_at_lem none pos k end r f e h = absurd (omega (arith, h))
    row_at_lem (more x xs) pos k end r f e h =
        let first = row_first bs t pos x xs r in
        let both = and_parts (well_formed x) (all_well_formed xs) f in
        let n : length (trees_records (more x xs)) ≡ length (tree_records x) + length (trees_records xs) = length-append (tree_records x) (trees_records xs) in
        ⊎_elim (λ (l : k < length (tree_records x)). tree_at_lem x pos k end first.first both.0 (omega (arith, e, n)) l)
        (λ (g : length (tree_records x) ≤ k).
        let z : pos + length (tree_records x) + (k - length (tree_records x)) ≡ pos + k = omega arith in
        subst (λ (j : ℕ). Rooted bs t j end) z
        (row_at_lem xs (pos + length (tree_records x)) (k - length (tree_records x)) end first.next both.1 (omega (arith, e, n)) (omega (arith, h, n))))
        (cases_lt k (length (tree_records x)))
