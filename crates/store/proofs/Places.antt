-- The place of a key in a list of keys: what it says, and that it is the only answer to the search.
use Rattle.std.proofs.Common.{◌≡◌, ℕ, zero, suc, ◌+◌, ◌<◌, List, [], ◌∷◌, map, length, get_or, Some, None, Option, sym, refl, ap, subst, inl, inr, add-one, arith}
use Rattle.std.specs.Option.{option_map}
use Rattle.std.specs.Str.{bytes_eq}
use Rattle.std.proofs.lemmas.Slice.Eq.{bytes_eq-Decides}
use Rattle.std.proofs.lemmas.List.{length-map}
use Rattle.std.proofs.lemmas.Bool.{cases_order, cond_both}
use Rattle.std.proofs.lemmas.Bool.Decides.{not_from_Decides}
use Rattle.ordered.specs.Keys.{First, Absent, Found}
use Rattle.store.specs.Enterings.{key_of, stands_by, stands_at}
use Rattle.store.specs.Held.{Held}
use Rattle.store.specs.Texts.{place_of, number_of}

-- two answers to one search are one
pub found_one : (ks : List (List ℕ)) (k : List ℕ) (r s : Option ℕ) → Found ks k r → Found ks k s → r ≡ s
found_one ks k None None p q = refl
found_one ks k None (Some j) p q = absurd (p j q.0 q.1)
found_one ks k (Some i) None p q = absurd (q i p.0 p.1)
found_one ks k (Some i) (Some j) p q =
    elim (cases_order i j) [
      | inl e ↦ ap Some e
      | inr (inl l) ↦ absurd (q.2 i l p.1)
      | inr (inr l) ↦ absurd (p.2 j l q.1)
    ]

module _ (x k : List ℕ) (xs : List (List ℕ)) where
  found_now : x ≡ k → Found (x ∷ xs) k (Some 0)
  found_now e = (omega arith, e, λ j l. absurd (omega arith))

  -- what is found behind a key that is another stands one further on
  found_later : (x ≡ k → ⊥) → (r : Option ℕ) → Found xs k r → Found (x ∷ xs) k (option_map (λ i. i + 1) r)
  found_later other None p = λ j. elim j as (λ n. n < suc (length xs) → get_or (x ∷ xs) n [] ≡ k → ⊥) [
    | zero ↦ λ l e. other e
    | suc n ↦ λ l e. p n (omega arith) e
  ]
  found_later other (Some i) p =
      subst (First (x ∷ xs) k) (sym (add-one i)) (
        omega (arith, p.0),
        p.1,
        λ j. elim j as (λ n. n < suc i → get_or (x ∷ xs) n [] ≡ k → ⊥) [
          | zero ↦ λ l e. other e
          | suc n ↦ λ l e. p.2 n (omega arith) e
        ],
      )

-- the place is what a search finds
pub place_found : (ks : List (List ℕ)) (k : List ℕ) → Found ks k (place_of k ks)
place_found [] k = λ j l. absurd (omega arith)
place_found (x ∷ xs) k =
    let same = bytes_eq-Decides x k in
    cond_both (bytes_eq x k) (Some 0) (option_map (λ i. i + 1) (place_of k xs)) (Found (x ∷ xs) k)
    (λ e. found_now x k xs (same.0 e))
    (λ e. found_later x k xs (not_from_Decides (bytes_eq x k) same e) (place_of k xs) (place_found xs k))

-- what a search finds is the place
pub found_place : (ks : List (List ℕ)) (k : List ℕ) (r : Option ℕ) → Found ks k r → r ≡ place_of k ks
found_place ks k r p = found_one ks k r (place_of k ks) p (place_found ks k)

-- a place that is found has the key, and no place before it has
pub place_first : (ks : List (List ℕ)) (k : List ℕ) (i : ℕ) → place_of k ks ≡ Some i → First ks k i
place_first ks k i e = subst (Found ks k) e (place_found ks k)

-- where no place is found, the key is absent
pub place_absent : (ks : List (List ℕ)) (k : List ℕ) → place_of k ks ≡ None → Absent ks k
place_absent ks k e = subst (Found ks k) e (place_found ks k)

-- a place that is found is a symbol's
stands_by_lem : (h : Held) (t : ℕ) (o : Option ℕ) (i : ℕ) → stands_by h t o ≡ Some i → i < length h.symbols
stands_by_lem h t (Some x) i e =
    let k = t ∷ x ∷ [] in
    let f = subst (Found (map key_of h.symbols) k) e (place_found (map key_of h.symbols) k) in
    omega (arith, f.0, length-map h.symbols key_of)
stands_by_lem h t None i e = absurd (let z : ◌≡◌ {A = ℕ} 0 1 = cc in omega arith)

pub stands_within : (h : Held) (t : ℕ) (text : List ℕ) (i : ℕ) → stands_at h t text ≡ Some i → i < length h.symbols
stands_within h t text i e = stands_by_lem h t (number_of h text) i e
