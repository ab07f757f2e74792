-- A sound table has no name twice, and its names stay when another table is opened.
use Rattle.std.proofs.Common.{◌≡◌, ℕ, zero, suc, ◌<◌, Bool, true, eqb, List, [], ◌∷◌, map, length, get_or, filter, sym, ap, ◌∙◌, ap₂, arith}
use Rattle.std.specs.List.{All}
use Rattle.std.proofs.lemmas.List.Elements.{All-filter, All-from_get_or, All-get_or, All-head, All-map, All-tail, All-weaker}
use Rattle.std.proofs.lemmas.List.{length-map}
use Rattle.std.proofs.lemmas.Bool.{cond_both, eqb-true}
use Rattle.ordered.specs.Keys.{Distinct}
use Rattle.symbols.specs.declared.symbol.Symbol.{Symbol}
use Rattle.store.specs.Enterings.{key_of}
use Rattle.store.specs.Laws.{NamesOnce, NamesStayOpening}
use Rattle.store.specs.Names.{symbols_in}
use Rattle.store.specs.Texts.{spelled, spellings}
use Rattle.store.proofs.Filters.{all_kept_if, all_unmap}
use Rattle.store.proofs.TableNames.{names_by_keys, names_longer, names_of, texts_below}
use Rattle.store.proofs.TableOpens.{table_comes_last}
use Rattle.store.proofs.SoundStays.{PlacedIn}

-- R holds of each two, the earlier first
abbrev EachTwo : {X : Type 0} → (X → X → Type 0) → List X → Type 0
EachTwo R [] = Unit {0}
EachTwo R (x ∷ xs) = All (R x) xs × EachTwo R xs

-- f tells two apart
abbrev ApartBy : {X : Type 0} → (X → List ℕ) → X → X → Type 0
ApartBy f x y = f x ≡ f y → ⊥

distinct_head : (x : List ℕ) (ks : List (List ℕ)) → Distinct (x ∷ ks) → All (λ k. x ≡ k → ⊥) ks
distinct_head x ks a = All-from_get_or (λ k. x ≡ k → ⊥) ks [] (λ i l e. let q = a 0 (suc i) (omega arith) (omega arith) e in omega arith)

distinct_cons : (x : List ℕ) (ks : List (List ℕ)) → All (λ k. x ≡ k → ⊥) ks → Distinct ks → Distinct (x ∷ ks)
distinct_cons x ks a d zero zero l m e = omega arith
distinct_cons x ks a d zero (suc j) l m e = absurd (All-get_or (λ k. x ≡ k → ⊥) ks j [] (omega arith) a e)
distinct_cons x ks a d (suc i) zero l m e = absurd (All-get_or (λ k. x ≡ k → ⊥) ks i [] (omega arith) a (sym e))
distinct_cons x ks a d (suc i) (suc j) l m e = ap suc (d i j (omega arith) (omega arith) e)

module _ {X : Type 0} where
  two_from_distinct : (f : X → List ℕ) (xs : List X) → Distinct (map f xs) → EachTwo (ApartBy f) xs
  two_from_distinct f [] a = tt
  two_from_distinct f (x ∷ xs) a = (
    all_unmap (λ k. f x ≡ k → ⊥) f xs (distinct_head (f x) (map f xs) a),
    two_from_distinct f xs (λ i j l m e. let q = a (suc i) (suc j) (omega arith) (omega arith) e in omega arith),
  )

  distinct_from_two : (f : X → List ℕ) (xs : List X) → EachTwo (ApartBy f) xs → Distinct (map f xs)
  distinct_from_two f [] a = λ i j l m e. absurd (omega arith)
  distinct_from_two f (x ∷ xs) a = distinct_cons (f x) (map f xs) (All-map (λ k. f x ≡ k → ⊥) f xs a.0) (distinct_from_two f xs a.1)

  two_kept : (p : X → Bool) (R : X → X → Type 0) (xs : List X) → EachTwo R xs → EachTwo R (filter p xs)
  two_kept p R [] a = tt
  two_kept p R (x ∷ xs) a = cond_both (p x) (x ∷ filter p xs) (filter p xs) (EachTwo R) (λ e. (All-filter p (R x) xs a.0, two_kept p R xs a.1)) (λ e. two_kept p R xs a.1)

  -- what R says of each two of which P holds, S says
  two_weaker : (P : X → Type 0) (R S : X → X → Type 0) → ((x y : X) → P x → P y → R x y → S x y) → (xs : List X) → All P xs → EachTwo R xs → EachTwo S xs
  two_weaker P R S w [] a b = tt
  two_weaker P R S w (x ∷ xs) a b = (
    λ k d l. w x (get_or xs k d) (All-head P x xs a) (All-tail P x xs a k d l) (b.0 k d l),
    two_weaker P R S w xs (All-tail P x xs a) b.1,
  )

-- a sound table has no name twice
pub names_once : NamesOnce
names_once h u s =
    let spell : Symbol → List ℕ = λ z. get_or (spellings h) z.name [] in
    let n = length-map h.texts (spelled h.bytes) in
    distinct_from_two spell (symbols_in h u)
    (two_weaker (λ z. (z.table ≡ u) × (z.name < length (spellings h))) (ApartBy key_of) (ApartBy spell)
    (λ x y p q apart e. apart (ap₂ (λ a b. a ∷ b ∷ []) (p.0 ∙ sym q.0) (s.apart x.name y.name p.1 q.1 e)))
    (symbols_in h u)
    (all_kept_if (λ z. eqb z.table u) (λ z. (z.table ≡ u) × (z.name < length (spellings h))) h.symbols
    (All-weaker (PlacedIn (length h.tables) (length h.texts)) (λ z. eqb z.table u ≡ true → (z.table ≡ u) × (z.name < length (spellings h)))
    (λ z q e. (eqb-true z.table u e, omega (arith, q.1))) h.symbols s.placed))
    (two_kept (λ z. eqb z.table u) (ApartBy key_of) h.symbols (two_from_distinct key_of h.symbols s.once)))

-- the names of every table stay when a table is opened
pub names_stay_opening : NamesStayOpening
names_stay_opening room h around kind name spot s k e u =
    let w = table_comes_last room h around kind name spot s.inside k e in
    names_by_keys k u ∙ ap (λ ss. names_of (spellings k) u (map key_of ss)) w.symbols
    ∙ names_longer (spellings h) (spellings k) u (map key_of h.symbols) w.texts.longer (texts_below h s) ∙ sym (names_by_keys h u)
