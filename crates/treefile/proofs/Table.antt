-- The rule of the slot table, by one test over its 96 rows, which is computed.
use Rattle.std.proofs.Common.{◌≡◌, ℕ, zero, suc, ◌+◌, ◌<◌, ◌≤◌, Bool, true, false, not, ◌&&◌, ◌||◌, eqb, ltb, leb, List, [], ◌∷◌, length, get_or, filter, sym, refl, ap, ◌∙◌, ⊎_elim, arith}
use Rattle.std.proofs.lemmas.List.{get_or_past}
use Rattle.std.proofs.lemmas.List.Elements.{All-get_or, filter_passes}
use Rattle.std.proofs.lemmas.Bool.{cases_lt, true≢false}
use Rattle.std.proofs.lemmas.Bool.Decides.{Decides-below_and, nat_tests}
use Rattle.treefile.specs.Kinds.{known}
use Rattle.treefile.specs.Shown.{arity}
use Rattle.treefile.specs.Slots.{table, slot, columns, TableRule}

-- below n, every one passes
abbrev every : (ℕ → Bool) → ℕ → Bool
every p zero = true
every p (suc n) = p n && every p n

every_at : (p : ℕ → Bool) (n : ℕ) → every p n ≡ true → (k : ℕ) → k < n → p k ≡ true
every_at p n = (Decides-below_and p (λ k. p k ≡ true) (every p) (λ k. ((λ h. h), (λ h. h))) refl (λ _. refl) n).0

-- what is tested of a column: it is empty only if the next is, empty in the row of no kind, and what the slots say
cell : ℕ → ℕ → Bool
cell k c =
    (leb 5 c || (not (eqb (slot k c) 0) || eqb (slot k (c + 1)) 0))
    && ((known k || eqb (slot k c) 0) && eqb (slot k c) (get_or (columns k) c 0))

row : ℕ → Bool
row k = (leb (length (columns k)) 6 && eqb (arity k) (length (columns k))) && every (cell k) 6

-- the one computed test
passes : every row 96 ≡ true
unfolding row cell slot table columns
passes = refl

row_at_lem : (k : ℕ) → k < 96 → (length (columns k) ≤ 6) × (every (cell k) 6 ≡ true) × (arity k ≡ length (columns k))
unfolding row
row_at_lem k h =
    let t = every_at row 96 passes k h in (grind (arith, nat_tests, t), grind (arith, nat_tests, t), grind (arith, nat_tests, t))

cell_at : (k c : ℕ) → k < 96 → c < 6 → cell k c ≡ true
cell_at k c h i = every_at (cell k) 6 (row_at_lem k h).1 c i

pub table_rule : TableRule
unfolding cell
table_rule =
    record {
      packed = λ k c h i e. let t = cell_at k c h (omega arith) in grind (arith, nat_tests, t);
      unused = λ k c h i e. let t = cell_at k c h i in grind (arith, nat_tests, t);
    }

-- within the table a column holds the slot of its number
pub in_table : (k c : ℕ) → k < 96 → c < 6 → slot k c ≡ get_or (columns k) c 0
unfolding cell
in_table k c h i = let t = cell_at k c h i in grind (arith, nat_tests, t)

-- outside it a kind has no slot
pub past_table : (k c : ℕ) → (k < 96 → 6 ≤ c) → length (columns k) ≤ c
unfolding columns table
past_table k c h =
    ⊎_elim (λ (l : k < 96). let s = (row_at_lem k l).0 in omega (arith, h l))
    (λ (g : 96 ≤ k).
    let e : columns k ≡ [] = ap (filter (λ a. ltb 0 a)) (get_or_past table k [] g) in omega (arith, ap length e))
    (cases_lt k 96)

-- in each slot something stands
stands : (k c : ℕ) → c < length (columns k) → ltb 0 (get_or (columns k) c 0) ≡ true
unfolding columns
stands k c h =
    All-get_or (λ x. ltb 0 x ≡ true) (columns k) c 0 h (filter_passes (λ x. ltb 0 x) (get_or table k []))

-- so an empty column comes after all slots
pub empty_ends : (k c : ℕ) → get_or (columns k) c 0 ≡ 0 → length (columns k) ≤ c
empty_ends k c e =
    ⊎_elim (λ (h : c < length (columns k)). let t = stands k c h in let z : ◌≡◌ {A = Bool} true false = grind (arith, nat_tests, t) in absurd (true≢false z)) (λ h. h)
    (cases_lt c (length (columns k)))

no_slots : (k : ℕ) → 96 ≤ k → arity k ≡ 0
no_slots k h = grind (arith, nat_tests, h)

-- a kind has as many slots as its row has columns in use
pub arity_columns : (k : ℕ) → arity k ≡ length (columns k)
arity_columns k =
    ⊎_elim (λ (l : k < 96). (row_at_lem k l).2)
    (λ (g : 96 ≤ k). let z = past_table k 0 (λ (l : k < 96). absurd (omega arith)) in omega (arith, no_slots k g, z))
    (cases_lt k 96)

-- a number that is no kind's has no slots
no_arity : (k : ℕ) → known k ≡ false → arity k ≡ 0
no_arity k h = grind (arith, nat_tests, h)

empty : (xs : List ℕ) → length xs ≡ 0 → xs ≡ []
empty [] e = refl
empty (x ∷ xs) e = absurd (omega (arith, e))

pub unknown_has_none : (k : ℕ) → known k ≡ false → columns k ≡ []
unknown_has_none k h = empty (columns k) (sym (arity_columns k) ∙ no_arity k h)
