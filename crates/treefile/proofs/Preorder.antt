-- The check of the tree answers the first fault in preorder, each node tested alone.
use Rattle.std.proofs.Common.{◌≡◌, ℕ, zero, suc, ◌+◌, Bool, true, false, cond, leb, List, [], ◌∷◌, ◌++◌, Ok, Err, sym, refl, ap, ◌∙◌, arith}
use Rattle.std.proofs.lemmas.Bool.{le-leb, lt-leb}
use Rattle.treefile.specs.declared.fault.Refusal.{Refusal}
use Rattle.treefile.specs.declared.fault.TreeReason.{TreeReason}
use Rattle.treefile.specs.declared.stand.Stand.{Stand}
use Rattle.treefile.specs.declared.trailer.Trailer.{Trailer}
use Rattle.treefile.specs.Faults.{Verdict}
use Rattle.treefile.specs.First.{and_then, first_fault}
use Rattle.treefile.specs.Fits.{children, fits, slots_fault, depth_fault, root_fits, node_check}
use Rattle.treefile.specs.Preorder.{joined, preorder, alone, first_alone, FirstInPreorder}

then_assoc : (u v w : Verdict) → and_then u (and_then v w) ≡ and_then (and_then u v) w
then_assoc (Ok x) v w = refl
then_assoc (Err e) v w = refl

-- a node that stands too deep
deep :
    (b c : Bool) (d s : Refusal TreeReason) → c ≡ false →
    cond b (Err d) (Err s) ≡ and_then (cond b (cond c (Ok tt) (Err d)) (Err s)) (Ok tt)
deep true c d s e = ap (λ (x : Bool). and_then (cond x (Ok tt) (Err d)) (Ok tt)) (sym e)
deep false c d s e = refl

-- a node that does not
here :
    (b c : Bool) (d s : Refusal TreeReason) (v : Verdict) → c ≡ true →
    cond b v (Err s) ≡ and_then (cond b (cond c (Ok tt) (Err d)) (Err s)) v
here true c d s v e = ap (λ (x : Bool). and_then (cond x (Ok tt) (Err d)) v) (sym e)
here false c d s v e = refl

module _ (bs : List ℕ) (t : Trailer) where
  first_++ : (ps qs : List Stand) → first_alone bs t (ps ++ qs) ≡ and_then (first_alone bs t ps) (first_alone bs t qs)
  first_++ [] qs = refl
  first_++ (p ∷ ps) qs =
      ap (and_then (alone bs t p)) (first_++ ps qs) ∙ then_assoc (alone bs t p) (first_alone bs t ps) (first_alone bs t qs)

  first_joined :
      (f : ℕ → Verdict) (g : ℕ → List Stand) → ((p : ℕ) → f p ≡ first_alone bs t (g p)) → (ps : List ℕ) →
      first_fault f ps ≡ first_alone bs t (joined g ps)
  first_joined f g same [] = refl
  first_joined f g same (p ∷ ps) =
      ap (λ (v : Verdict). and_then v (first_fault f ps)) (same p)
      ∙ ap (and_then (first_alone bs t (g p))) (first_joined f g same ps)
      ∙ sym (first_++ (g p) (joined g ps))

  -- the same for a subtree; the levels left and the depth of its first node make 201
  pub first_below :
      (levels depth i : ℕ) → levels + depth ≡ 201 →
      node_check bs t levels i ≡ first_alone bs t (preorder bs t levels depth i)
  unfolding node_check preorder
  first_below zero depth i e =
      deep (fits bs t i) (leb depth 200) (depth_fault bs t i) (slots_fault bs t i) (lt-leb depth 200 (omega arith))
  first_below (suc levels) depth i e =
      let next : levels + (depth + 1) ≡ 201 = omega arith in
      here (fits bs t i) (leb depth 200) (depth_fault bs t i) (slots_fault bs t i) _ (le-leb depth 200 (omega arith))
      ∙ ap (and_then (alone bs t (record { node = i; depth = depth })))
      (first_joined (node_check bs t levels) (preorder bs t levels (depth + 1)) (λ p. first_below levels (depth + 1) p next) (children bs t i))

  pub first_in_preorder : FirstInPreorder bs t
  first_in_preorder =
      ap (λ (v : Verdict). cond (root_fits bs t) v (Err (slots_fault bs t 0))) (first_below 200 1 0 (omega arith))
