-- The tree check at a node: by its slots, and then by its children.
use Rattle.std.proofs.Common.{◌≡◌, ℕ, List, zero, suc, ◌-◌, ◌<◌, true, false, Err, ap, ◌∙◌, arith}
use Rattle.std.proofs.lemmas.Bool.{cond-true, cond-false}
use Rattle.treefile.specs.declared.trailer.Trailer.{Trailer}
use Rattle.treefile.specs.First.{first_fault}
use Rattle.treefile.specs.Fits.{children, fits, slots_fault, depth_fault, node_check}

module _ (bs : List ℕ) (t : Trailer) (i : ℕ) where
  -- a node that does not fit, however deep it stands
  pub node_misfit : (n : ℕ) → fits bs t i ≡ false → node_check bs t n i ≡ Err (slots_fault bs t i)
  unfolding node_check
  node_misfit zero f = cond-false (fits bs t i) _ _ f
  node_misfit (suc n) f = cond-false (fits bs t i) _ _ f

  -- a node that fits but has no level left
  pub node_deep : fits bs t i ≡ true → node_check bs t 0 i ≡ Err (depth_fault bs t i)
  unfolding node_check
  node_deep f = cond-true (fits bs t i) _ _ f

  -- a node that fits is as its children are
  pub node_down : (n : ℕ) → 0 < n → fits bs t i ≡ true → node_check bs t n i ≡ first_fault (node_check bs t (n - 1)) (children bs t i)
  unfolding node_check
  node_down n h f =
      let e : n ≡ suc (n - 1) = omega arith in
      ap (λ (m : ℕ). node_check bs t m i) e ∙ cond-true (fits bs t i) _ _ f
