-- Verdicts and tests: what follows where one is passed.
use Rattle.std.proofs.Common.{◌≡◌, ℕ, Bool, true, false, cond, ◌&&◌, Ok, Err, Result, List, ◌∷◌, sym, refl, ap, ◌∙◌, arith}
use Rattle.treefile.specs.declared.fault.Refusal.{Refusal}
use Rattle.treefile.specs.declared.fault.TreeReason.{TreeReason}
use Rattle.treefile.specs.Faults.{Verdict}
use Rattle.treefile.specs.First.{and_then, first_fault}

-- a fault is no pass
pub never : {Q T E : Type 0} (e : E) (t : T) → ◌≡◌ {A = Result T E} (Err e) (Ok t) → Q
never e t h = let z : ◌≡◌ {A = ℕ} 0 1 = cc in absurd (omega arith)

-- both of two verdicts are passed
pub then_ok : (v w : Verdict) → and_then v w ≡ Ok tt → (v ≡ Ok tt) × (w ≡ Ok tt)
then_ok (Ok u) w h = (refl, h)
then_ok (Err e) w h = never e tt h

-- a test that is passed, and what is asked then
pub cond_ok : (b : Bool) (v : Verdict) (e : Refusal TreeReason) → cond b v (Err e) ≡ Ok tt → (b ≡ true) × (v ≡ Ok tt)
cond_ok true v e h = (refl, h)
cond_ok false v e h = never e tt h

pub and_true : (x y : Bool) → x ≡ true → (x && y) ≡ y
and_true x y e = ap (λ (b : Bool). b && y) e

-- two tests fail, and so does either
pub neither : (b x y : Bool) → x ≡ false → y ≡ false → cond b x y ≡ false
neither true x y e f = e
neither false x y e f = f

-- the first fault of a list: that of its first node, or, where that one has none, that of the rest
module _ (f : ℕ → Verdict) (ps : List ℕ) (p : ℕ) (rest : List ℕ) (w : Verdict) (split : ps ≡ p ∷ rest) (all : first_fault f ps ≡ w) where
  pub first_stop : (e : Refusal TreeReason) → f p ≡ Err e → Err e ≡ w
  first_stop e h = sym (ap (λ (v : Verdict). and_then v (first_fault f rest)) h) ∙ sym (ap (first_fault f) split) ∙ all

  pub first_more : f p ≡ Ok tt → first_fault f rest ≡ w
  first_more h = sym (ap (λ (v : Verdict). and_then v (first_fault f rest)) h) ∙ sym (ap (first_fault f) split) ∙ all
