-- Keys: where one stands in a list of them, and that none stands twice.
use Rattle.std.specs.Prelude.{◌≡◌, ℕ, ◌<◌, List, [], map, length, Some, None, Option, ◌≢◌, slice_index_or}

-- the keys of a list of records over the text bytes
abbrev pub keys : {R : Type 0} → (R → List ℕ → List ℕ) → List ℕ → List R → List (List ℕ)
keys key texts rs = map (λ x. key x texts) rs

-- the key k stands at i, and nowhere before
abbrev pub First : List (List ℕ) → List ℕ → ℕ → Type 0
First ks k i = (i < length ks) × (slice_index_or ks i [] ≡ k) × ((j : ℕ) → j < i → slice_index_or ks j [] ≢ k)

-- the key k stands nowhere
abbrev pub Absent : List (List ℕ) → List ℕ → Type 0
Absent ks k = (j : ℕ) → j < length ks → slice_index_or ks j [] ≢ k

-- the first index of the key k, or none
abbrev pub Found : List (List ℕ) → List ℕ → Option ℕ → Type 0
Found ks k (Some i) = First ks k i
Found ks k None = Absent ks k

-- no key stands twice
abbrev pub Distinct : List (List ℕ) → Type 0
Distinct ks = (i j : ℕ) → i < length ks → j < length ks → slice_index_or ks i [] ≡ slice_index_or ks j [] → i ≡ j
