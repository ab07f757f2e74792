-- What appending a record does to the keys.
use Rattle.std.proofs.Common.{◌≡◌, ℕ, ◌<◌, ◌≤◌, List, [], ◌∷◌, ◌++◌, length, get_or, Ok, Err, Result, sym, ap, ◌∙◌, subst, inl, inr, arith}
use Rattle.std.proofs.lemmas.List.{length_push, get_or_append_left, get_or_push, map_push}
use Rattle.std.proofs.lemmas.Bool.{cases_lt}
use Rattle.ordered.specs.declared.table.Ordered.{Ordered}
use Rattle.ordered.specs.Keys.{keys, Absent, Distinct}
use Rattle.ordered.specs.Records.{listed, Pushed}

-- an absent key can be added to distinct keys
pub distinct_push : (ks : List (List ℕ)) (k : List ℕ) → Distinct ks → Absent ks k → Distinct (ks ++ k ∷ [])
distinct_push ks k d a i j p q e =
    let n = length_push ks k in
    let before : (m : ℕ) → m < length ks → get_or (ks ++ k ∷ []) m [] ≡ get_or ks m [] = λ m l. get_or_append_left ks (k ∷ []) [] m l in
    let last : (m : ℕ) → length ks ≤ m → m < length (ks ++ k ∷ []) → get_or (ks ++ k ∷ []) m [] ≡ k = λ m l h. get_or_push ks k [] m (omega arith) in
    elim (cases_lt i (length ks)) [
      | inl l ↦ elim (cases_lt j (length ks)) [
        | inl m ↦ d i j l m (sym (before i l) ∙ e ∙ before j m)
        | inr m ↦ absurd (a i l (sym (before i l) ∙ e ∙ last j m q))
      ]
      | inr l ↦ elim (cases_lt j (length ks)) [
        | inl m ↦ absurd (a j m (sym (before j m) ∙ sym e ∙ last i l p))
        | inr m ↦ omega arith
      ]
    ]

-- the key of an appended record comes last
pub keys_push : {R : Type 0} (key : R → List ℕ → List ℕ) (texts : List ℕ) (rs rs' : List R) (x : R) → rs' ≡ rs ++ x ∷ [] → keys key texts rs' ≡ keys key texts rs ++ key x texts ∷ []
keys_push key texts rs rs' x e = ap (keys key texts) e ∙ map_push (λ y. key y texts) rs x

module _ {R : Type 0} (key : R → List ℕ → List ℕ) (texts : List ℕ) (t t' : Ordered R) (k : List ℕ) (x : R) (absent : Absent (keys key texts (listed t)) k) where
  pub entered_distinct : (r : Result ℕ R) → Pushed t t' x r → key x texts ≡ k → Distinct (keys key texts (listed t)) → Distinct (keys key texts (listed t'))
  entered_distinct (Ok i) p m d =
      subst Distinct (sym (keys_push key texts (listed t) (listed t') x p.2 ∙ ap (λ l. keys key texts (listed t) ++ l ∷ []) m))
      (distinct_push (keys key texts (listed t)) k d absent)
  entered_distinct (Err y) p m d = subst (λ u. Distinct (keys key texts (listed u))) (sym p.2) d
