-- Filters and maps: what holds of each that is kept, and of which of a list's keys a filter speaks.
use Rattle.std.proofs.Common.{◌≡◌, ℕ, zero, suc, ◌<◌, Bool, true, false, cond, List, [], ◌∷◌, map, length, get_or, filter, sym, refl, ap, ◌∙◌, ap₂, subst, arith}
use Rattle.std.specs.List.{All}
use Rattle.std.proofs.lemmas.List.Elements.{All-cons, All-from_get_or, All-get_or, All-head, All-nil, All-tail}
use Rattle.std.proofs.lemmas.Bool.{cond_both, cond-true}
use Rattle.ordered.specs.Keys.{Absent, Distinct, First}

-- what holds of each that passes holds of each that is kept
pub all_kept_if : {X : Type 0} (p : X → Bool) (Q : X → Type 0) (xs : List X) → All (λ x. p x ≡ true → Q x) xs → All Q (filter p xs)
all_kept_if p Q [] a = All-nil Q
all_kept_if p Q (x ∷ xs) a =
    let rest = all_kept_if p Q xs (All-tail (λ y. p y ≡ true → Q y) x xs a) in
    cond_both (p x) (x ∷ filter p xs) (filter p xs) (All Q) (λ e. All-cons Q x (filter p xs) (All-head (λ y. p y ≡ true → Q y) x xs a e) rest) (λ e. rest)

-- and what holds of each that is kept holds of each that passes
pub kept_at : {X : Type 0} (p : X → Bool) (Q : X → Type 0) (xs : List X) (i : ℕ) (d : X) → All Q (filter p xs) → i < length xs → p (get_or xs i d) ≡ true → Q (get_or xs i d)
kept_at p Q [] i d a l e = absurd (omega arith)
kept_at p Q (x ∷ xs) zero d a l e = All-head Q x (filter p xs) (subst (All Q) (cond-true (p x) (x ∷ filter p xs) (filter p xs) e) a)
kept_at p Q (x ∷ xs) (suc i) d a l e =
    kept_at p Q xs i d (cond_both (p x) (x ∷ filter p xs) (filter p xs) (λ ys. All Q ys → All Q (filter p xs)) (λ _ b. All-tail Q x (filter p xs) b) (λ _ b. b) a) (omega arith) e

pub all_unmap : {X Y : Type 0} (P : Y → Type 0) (f : X → Y) (xs : List X) → All P (map f xs) → All (λ x. P (f x)) xs
all_unmap P f [] a = All-nil (λ x. P (f x))
all_unmap P f (x ∷ xs) a = All-cons (λ y. P (f y)) x xs (All-head P (f x) (map f xs) a) (all_unmap P f xs (All-tail P (f x) (map f xs) a))

-- two functions that agree on each element map a list alike
pub map_same : {X Y : Type 0} (f g : X → Y) (xs : List X) → All (λ x. f x ≡ g x) xs → map f xs ≡ map g xs
map_same f g [] a = refl
map_same f g (x ∷ xs) a = ap₂ (λ y ys. y ∷ ys) (All-head (λ y. f y ≡ g y) x xs a) (map_same f g xs (All-tail (λ y. f y ≡ g y) x xs a))

map_cond : {X Y : Type 0} (f : X → Y) (b : Bool) (x : X) (xs : List X) → cond b (f x ∷ map f xs) (map f xs) ≡ map f (cond b (x ∷ xs) xs)
map_cond f true x xs = refl
map_cond f false x xs = refl

-- to filter keys is to filter what has them
pub kept_by_map : {X Y : Type 0} (p : Y → Bool) (f : X → Y) (xs : List X) → filter p (map f xs) ≡ map f (filter (λ x. p (f x)) xs)
kept_by_map p f [] = refl
kept_by_map p f (x ∷ xs) = ap (λ ys. cond (p (f x)) (f x ∷ ys) ys) (kept_by_map p f xs) ∙ map_cond f (p (f x)) x (filter (λ z. p (f z)) xs)

-- a key is absent where each key is another
pub absent_all : (ks : List (List ℕ)) (k : List ℕ) → Absent ks k → All (λ x. x ≡ k → ⊥) ks
absent_all ks k a = All-from_get_or (λ x. x ≡ k → ⊥) ks [] (λ i l. a i l)

pub all_absent : (ks : List (List ℕ)) (k : List ℕ) → All (λ x. x ≡ k → ⊥) ks → Absent ks k
all_absent ks k a i l = All-get_or (λ x. x ≡ k → ⊥) ks i [] l a

-- where no key stands twice, a key stands nowhere before
pub distinct_first : (ks : List (List ℕ)) (k : List ℕ) (i : ℕ) → Distinct ks → i < length ks → get_or ks i [] ≡ k → First ks k i
distinct_first ks k i d l e = (l, e, λ j b q. let s = d j i (omega arith) l (q ∙ sym e) in omega arith)
