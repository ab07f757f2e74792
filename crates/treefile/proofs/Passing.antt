-- What a recursion over a checked tree needs: the root passes, and so does each child of a node that passes, which is smaller.
use Rattle.std.proofs.Common.{◌≡◌, ℕ, zero, suc, ◌+◌, ◌-◌, ◌<◌, true, cond, eqb, List, [], ◌∷◌, ◌++◌, Ok, Err, sym, ap, ◌∙◌, subst, append_assoc, arith}
use Rattle.std.proofs.lemmas.Bool.{and_parts, eqb-true}
use Rattle.treefile.specs.declared.stand.Stand.{Stand}
use Rattle.treefile.specs.declared.trailer.Trailer.{Trailer}
use Rattle.treefile.specs.First.{first_fault}
use Rattle.treefile.specs.Records.{kind_at, size_at}
use Rattle.treefile.specs.Slots.{X, B}
use Rattle.treefile.specs.Fits.{Place, place, children, takes, fits, slots_fault, depth_fault, node_check, root_fits, Stands, Tiled}
use Rattle.treefile.specs.Passing.{Passes}
use Rattle.treefile.specs.Trailer.{Framed}
use Rattle.treefile.specs.Preorder.{joined, preorder}
use Rattle.treefile.proofs.Children.{AllUnder, children_under}
use Rattle.treefile.proofs.Sorts.{tiled_by}
use Rattle.treefile.proofs.Sound.{Sound}
use Rattle.treefile.proofs.Verdicts.{never, then_ok, cond_ok}

module _ (bs : List ℕ) (t : Trailer) where
  -- a root that fits stands among the records, and has its elements within it where it is a List
  pub root_stands : Framed bs t → root_fits bs t ≡ true → Stands bs t 0 × (kind_at bs t 0 ≡ 1 → Tiled bs t 0)
  root_stands f h =
      let q = and_parts (eqb (size_at bs t 0) t.record_count) (takes bs t (cond (eqb (kind_at bs t 0) 1) B X) 0) h in
      let z = eqb-true (size_at bs t 0) t.record_count q.0 in
      (record { framed = f; some = omega (arith, z, f.some); within = omega (arith, z) }, tiled_by bs t (cond (eqb (kind_at bs t 0) 1) B X) 0 q.1)

  -- the root of a file that passes
  pub root_passes : Sound bs t → Passes bs t 200 0
  root_passes s =
      let p = cond_ok _ _ _ s.tree in
      let r = root_stands s.framed p.0 in
      record { stands = r.0; tiled = r.1; clean = p.1 }

  module _ (i : ℕ) where
    -- a node that passes has a level, fits, and has children that pass
    pub passes_down : (levels : ℕ) → node_check bs t levels i ≡ Ok tt → (0 < levels) × (fits bs t i ≡ true) × (first_fault (node_check bs t (levels - 1)) (children bs t i) ≡ Ok tt)
    unfolding node_check
    passes_down zero h = never (depth_fault bs t i) tt (cond_ok (fits bs t i) (Err (depth_fault bs t i)) (slots_fault bs t i) h).1
    passes_down (suc n) h =
        let p = cond_ok (fits bs t i) _ _ h in
        let e : n ≡ suc n - 1 = omega arith in
        (omega arith, p.0, ap (λ (m : ℕ). first_fault (node_check bs t m) (children bs t i)) (sym e) ∙ p.1)

-- each node of a list stands under i, and passes with so many levels left
abbrev pub AllPass : List ℕ → Trailer → ℕ → ℕ → List ℕ → Type 0
AllPass bs t levels i [] = Unit {0}
AllPass bs t levels i (p ∷ ps) = (size_at bs t p < size_at bs t i × Passes bs t levels p) × AllPass bs t levels i ps

module _ (bs : List ℕ) (t : Trailer) (levels i : ℕ) where
  all_pass : (ps : List ℕ) → AllUnder bs t i ps → first_fault (node_check bs t levels) ps ≡ Ok tt → AllPass bs t levels i ps
  all_pass [] u e = tt
  all_pass (p ∷ ps) u e =
      let q = then_ok (node_check bs t levels p) (first_fault (node_check bs t levels) ps) e in
      ((u.0.smaller, record { stands = u.0.stands; tiled = u.0.tiled; clean = q.0 }), all_pass ps u.1 q.1)

  pub children_pass : (above : ℕ) → levels ≡ above - 1 → Passes bs t above i → AllPass bs t levels i (children bs t i)
  children_pass above e p =
      let d = passes_down bs t i above p.clean in
      all_pass (children bs t i) (children_under bs t i p.stands d.1 p.tiled)
      (ap (λ (n : ℕ). first_fault (node_check bs t n) (children bs t i)) e ∙ d.2)

-- the first of them, as a node of its file, and the rest
pub pass_next :
    (bs : List ℕ) (t : Trailer) (levels i : ℕ) {ps : List ℕ} {p : ℕ} {rest : List ℕ} {q : Place} → ps ≡ p ∷ rest → q ≡ place bs t p →
    AllPass bs t levels i ps → (size_at q.file q.trailer q.node < size_at bs t i × Passes q.file q.trailer levels q.node) × AllPass bs t levels i rest
pass_next bs t levels i {p = p} {rest = rest} split here all =
    let both : (size_at bs t p < size_at bs t i × Passes bs t levels p) × AllPass bs t levels i rest = subst (AllPass bs t levels i) split all in
    (subst (λ (q : Place). size_at q.file q.trailer q.node < size_at bs t i × Passes q.file q.trailer levels q.node) (sym here) both.0, both.1)

-- the nodes below a list, with its first node's moved to those that are listed
pub listed_more : (f : ℕ → List Stand) {ps : List ℕ} {p : ℕ} {rest : List ℕ} (before after w : List Stand) → ps ≡ p ∷ rest → after ≡ before ++ f p → before ++ joined f ps ≡ w → after ++ joined f rest ≡ w
listed_more f {p = p} {rest = rest} before after w split new all =
    ap (λ (l : List Stand). l ++ joined f rest) new ∙ append_assoc before (f p) (joined f rest)
    ∙ ap (λ (l : List ℕ). before ++ joined f l) (sym split) ∙ all

-- a node and what is below it are its subtree in preorder
pub listed_whole : (bs : List ℕ) (t : Trailer) (levels above depth i : ℕ) (before : List Stand) → above ≡ suc levels → (before ++ record { node = i; depth = depth } ∷ []) ++ joined (preorder bs t levels (depth + 1)) (children bs t i) ≡ before ++ preorder bs t above depth i
unfolding preorder
listed_whole bs t levels above depth i before e =
    append_assoc before (record { node = i; depth = depth } ∷ []) (joined (preorder bs t levels (depth + 1)) (children bs t i))
    ∙ ap (λ (n : ℕ). before ++ preorder bs t n depth i) (sym e)
