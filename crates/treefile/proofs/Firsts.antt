-- What `first_bad` is, from what a loop knows of the places that it passed. Assumes nothing.
use Rattle.std.proofs.Common.{◌≡◌, ℕ, zero, suc, ◌+◌, ◌<◌, ◌≤◌, Bool, true, false, cond, Some, None, Option, sym, refl, ◌∙◌, subst, ⊎_elim, arith}
use Rattle.std.proofs.lemmas.Bool.{cond-true, cond-false, cases_eq}
use Rattle.treefile.specs.First.{first_bad}

-- all of n in a row pass
from_none : (ok : ℕ → Bool) (n from : ℕ) → ((k : ℕ) → from ≤ k → k < from + n → ok k ≡ true) → first_bad ok from n ≡ None
from_none ok zero from h = refl
from_none ok (suc n) from h =
    cond-true (ok from) _ _ (h from (omega arith) (omega arith))
    ∙ from_none ok n (from + 1) (λ k a b. h k (omega arith) (omega arith))

from_at : (ok : ℕ → Bool) (n from i : ℕ) → from ≤ i → i < from + n → ((k : ℕ) → from ≤ k → k < i → ok k ≡ true) → ok i ≡ false → first_bad ok from n ≡ Some i
from_at ok zero from i a b h e = absurd (omega arith)
from_at ok (suc n) from i a b h e =
    ⊎_elim
    (λ (p : from ≡ i). subst (λ (j : ℕ). first_bad ok from (suc n) ≡ Some j) p (cond-false (ok from) _ _ (subst (λ (j : ℕ). ok j ≡ false) (sym p) e)))
    (λ (q : from ≡ i → ⊥).
    let l : from < i = omega arith in
    cond-true (ok from) _ _ (h from (omega arith) l)
    ∙ from_at ok n (from + 1) i (omega arith) (omega arith) (λ k c d. h k (omega arith) d) e)
    (cases_eq from i)

pub none_bad : (ok : ℕ → Bool) (n : ℕ) → ((k : ℕ) → k < n → ok k ≡ true) → first_bad ok 0 n ≡ None
none_bad ok n h = from_none ok n 0 (λ k a b. h k (omega arith))

pub bad_at : (ok : ℕ → Bool) (n i : ℕ) → i < n → ((k : ℕ) → k < i → ok k ≡ true) → ok i ≡ false → first_bad ok 0 n ≡ Some i
bad_at ok n i l h e = from_at ok n 0 i (omega arith) (omega arith) (λ k a b. h k b) e

-- where none fails, each passes
some_absurd : {X : Type 0} (i : ℕ) → Some i ≡ None → X
some_absurd i e = let z : ◌≡◌ {A = ℕ} 0 1 = cc in absurd (omega arith)

cond_none : (b : Bool) (x : Option ℕ) (i : ℕ) → cond b x (Some i) ≡ None → (b ≡ true) × (x ≡ None)
cond_none true x i e = (refl, e)
cond_none false x i e = some_absurd i e

from_all : (ok : ℕ → Bool) (n from : ℕ) → first_bad ok from n ≡ None → (k : ℕ) → from ≤ k → k < from + n → ok k ≡ true
from_all ok zero from e k a b = absurd (omega arith)
from_all ok (suc n) from e k a b =
    let p = cond_none (ok from) (first_bad ok (from + 1) n) from e in
    ⊎_elim (λ (s : from ≡ k). subst (λ (j : ℕ). ok j ≡ true) s p.0) (λ (s : from ≡ k → ⊥). from_all ok n (from + 1) p.1 k (omega arith) (omega arith))
    (cases_eq from k)

pub all_ok : (ok : ℕ → Bool) (n : ℕ) → first_bad ok 0 n ≡ None → (k : ℕ) → k < n → ok k ≡ true
all_ok ok n e k h = from_all ok n 0 e k (omega arith) (omega arith)
