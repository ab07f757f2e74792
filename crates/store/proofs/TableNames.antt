-- The names of a table are in the order of their first entering.
use Rattle.std.proofs.Common.{◌≡◌, ℕ, ◌<◌, Bool, true, false, cond, eqb, List, [], ◌∷◌, ◌++◌, map, length, get_or, Some, None, filter, Option, sym, refl, ap, ◌∙◌, subst, ap₂, arith}
use mathlib.Core.List.{map-map}
use Rattle.std.specs.List.{All}
use Rattle.std.proofs.lemmas.List.Elements.{filter-append}
use Rattle.std.proofs.lemmas.List.Elements.{All-from_get_or, All-get_or, All-filter, All-map, All-weaker}
use Rattle.std.proofs.lemmas.List.{append-nil, get_or-map, length-map, map-append}
use Rattle.std.proofs.lemmas.Bool.{cond_both, cond-false, cond-true, eq-eqb, eqb-true}
use Rattle.ordered.specs.Keys.{Absent}
use Rattle.symbols.specs.Faults.{Spot}
use Rattle.symbols.specs.declared.usage.SymbolUsage.{SymbolUsage}
use Rattle.store.specs.Enterings.{enter, key_of, no_symbol, stands_at, stands_by, symbol_of}
use Rattle.store.specs.Grown.{Longer}
use Rattle.store.specs.Held.{Held, Room, done}
use Rattle.store.specs.Names.{after_by, append_new, names_in, symbols_in}
use Rattle.store.specs.Sound.{Sound}
use Rattle.store.specs.Texts.{Interned, number_of, place_of, spelled, spellings}
use Rattle.store.proofs.Filters.{absent_all, all_absent, all_kept_if, all_unmap, distinct_first, kept_at, kept_by_map, map_same}
use Rattle.store.proofs.Inversion.{FirstTime, OnceMore, accepted, first_time, once_more}
use Rattle.store.proofs.Order.{keys_first_time, keys_once_more}
use Rattle.store.proofs.Others.{symbol_there}
use Rattle.store.proofs.Places.{found_place, place_absent, place_first}
use Rattle.store.proofs.SoundStays.{PlacedIn}
use Rattle.store.proofs.TextsStay.{interning, longer-get_or}

-- the names that keys of table u have among the texts
abbrev pub names_of : List (List ℕ) → ℕ → List (List ℕ) → List (List ℕ)
names_of texts u ks = map (λ k. get_or texts (get_or k 1 0) []) (filter (λ k. eqb (get_or k 0 0) u) ks)

pub names_by_keys : (h : Held) (u : ℕ) → names_in h u ≡ names_of (spellings h) u (map key_of h.symbols)
names_by_keys h u =
    sym (map-map (λ k. get_or (spellings h) (get_or k 1 0) []) key_of (symbols_in h u)) ∙ ap (map (λ k. get_or (spellings h) (get_or k 1 0) [])) (sym (kept_by_map (λ k. eqb (get_or k 0 0) u) key_of h.symbols))

-- more texts leave the names as they were
pub names_longer : (texts more : List (List ℕ)) (u : ℕ) (ks : List (List ℕ)) → Longer texts more → All (λ k. get_or k 1 0 < length texts) ks → names_of more u ks ≡ names_of texts u ks
names_longer texts more u ks p a =
    map_same (λ k. get_or more (get_or k 1 0) []) (λ k. get_or texts (get_or k 1 0) []) (filter (λ k. eqb (get_or k 0 0) u) ks)
    (All-filter (λ k. eqb (get_or k 0 0) u) (λ k. get_or more (get_or k 1 0) [] ≡ get_or texts (get_or k 1 0) []) ks
    (All-weaker (λ k. get_or k 1 0 < length texts) (λ k. get_or more (get_or k 1 0) [] ≡ get_or texts (get_or k 1 0) []) (λ k l. longer-get_or texts more (get_or k 1 0) [] p l) ks a))

-- the keys of what is sound have texts
pub texts_below : (h : Held) → Sound h → All (λ k. get_or k 1 0 < length (spellings h)) (map key_of h.symbols)
texts_below h s =
    All-map (λ k. get_or k 1 0 < length (spellings h)) key_of h.symbols
    (All-weaker (PlacedIn (length h.tables) (length h.texts)) (λ z. z.name < length (spellings h)) (λ z q. omega (arith, q.1, length-map h.texts (spelled h.bytes))) h.symbols s.placed)

-- one key more gives one name more to its table, and none to another
names_push : (texts : List (List ℕ)) (u t x : ℕ) (ks : List (List ℕ)) → names_of texts u (ks ++ (t ∷ x ∷ []) ∷ []) ≡ names_of texts u ks ++ cond (eqb t u) (get_or texts x [] ∷ []) []
names_push texts u t x ks =
    let f : List ℕ → List ℕ = λ k. get_or texts (get_or k 1 0) [] in
    let p : List ℕ → Bool = λ k. eqb (get_or k 0 0) u in
    ap (map f) (filter-append p ks ((t ∷ x ∷ []) ∷ [])) ∙ map-append f (filter p ks) (filter p ((t ∷ x ∷ []) ∷ []))
    ∙ ap (λ zs. map f (filter p ks) ++ zs) (at_cond f (eqb t u))
  where
    at_cond : (f : List ℕ → List ℕ) (b : Bool) → map f (cond b ((t ∷ x ∷ []) ∷ []) []) ≡ cond b (f (t ∷ x ∷ []) ∷ []) []
    at_cond f true = refl
    at_cond f false = refl

-- a table that has the symbol of a text has its name
module _ (h : Held) (t : ℕ) (text : List ℕ) where
  name_there : (x i : ℕ) → number_of h text ≡ Some x → symbol_of h t x ≡ Some i → Absent (names_in h t) text → ⊥
  name_there x i n s a =
      let f = symbol_there h t x i s in
      let w = place_first (spellings h) text x n in
      let no_name = all_unmap (λ y. y ≡ text → ⊥) (λ z. get_or (spellings h) z.name []) (symbols_in h t) (absent_all (names_in h t) text a) in
      kept_at (λ z. eqb z.table t) (λ z. get_or (spellings h) z.name [] ≡ text → ⊥) h.symbols i no_symbol no_name f.0 (eq-eqb (get_or h.symbols i no_symbol).table t f.1)
      (ap (λ y. get_or (spellings h) y []) f.2 ∙ w.1)

  -- and a table that has none of it does not
  name_not_there : Sound h → stands_at h t text ≡ None → Absent (names_in h t) text
  name_not_there s e =
      all_absent (names_in h t) text
      (All-map (λ y. y ≡ text → ⊥) (λ z. get_or (spellings h) z.name []) (symbols_in h t)
      (all_kept_if (λ z. eqb z.table t) (λ z. get_or (spellings h) z.name [] ≡ text → ⊥) h.symbols
      (All-from_get_or (λ z. eqb z.table t ≡ true → get_or (spellings h) z.name [] ≡ text → ⊥) h.symbols no_symbol
      (λ i l a b.
      let z = get_or h.symbols i no_symbol in
      let q = All-get_or (PlacedIn (length h.tables) (length h.texts)) h.symbols i no_symbol l s.placed in
      let n : z.name < length (spellings h) = omega (arith, q.1, length-map h.texts (spelled h.bytes)) in
      let number : Some z.name ≡ number_of h text = found_place (spellings h) text (Some z.name) (distinct_first (spellings h) text z.name s.apart n b) in
      let absent = place_absent (map key_of h.symbols) (t ∷ z.name ∷ []) (ap (stands_by h t) number ∙ e) in
      absent i (omega (arith, length-map h.symbols key_of)) (get_or-map key_of h.symbols i no_symbol [] l ∙ ap (λ y. y ∷ z.name ∷ []) (eqb-true z.table t a))))))

after_there : (names : List (List ℕ)) (text : List ℕ) → (Absent names text → ⊥) → after_by names text (place_of text names) ≡ names
after_there names text a = go (place_of text names) refl
  where
    go : (o : Option ℕ) → place_of text names ≡ o → after_by names text o ≡ names
    go (Some i) e = refl
    go None e = absurd (a (place_absent names text e))

after_not_there : (names : List (List ℕ)) (text : List ℕ) → Absent names text → after_by names text (place_of text names) ≡ names ++ text ∷ []
after_not_there names text a = ap (after_by names text) (sym (found_place names text None a))

-- the names of table u after a name was entered in table t
abbrev names_after : Held → ℕ → ℕ → List ℕ → List (List ℕ)
names_after h u t text = cond (eqb t u) (append_new (names_in h u) (text ∷ [])) (names_in h u)

names_once_more : (h : Held) (u t : ℕ) (role : SymbolUsage) (text : List ℕ) (x i : ℕ) → OnceMore h t role text x i → names_in (once_more h role i) u ≡ names_after h u t text
names_once_more h u t role text x i w =
    names_by_keys (once_more h role i) u ∙ ap (names_of (spellings h) u) (keys_once_more h role i) ∙ sym (names_by_keys h u)
    ∙ cond_both (eqb t u) (append_new (names_in h u) (text ∷ [])) (names_in h u) (λ ns. names_in h u ≡ ns)
    (λ e. subst (λ v. names_in h v ≡ append_new (names_in h v) (text ∷ [])) (eqb-true t u e) (sym (after_there (names_in h t) text (name_there h t text x i w.held w.stands)))) (λ e. refl)

names_first_time : (room : Room) (h : Held) (u t : ℕ) (role : SymbolUsage) (text : List ℕ) (spot : Spot) (m : Interned) →
    FirstTime room h t role text m → Sound h → names_in (first_time h t role spot m) u ≡ names_after h u t text
names_first_time room h u t role text spot m w s =
    let g = interning room h text m s.inside w.number in
    let ks = map key_of h.symbols in
    let texts = spellings m.held in
    names_by_keys (first_time h t role spot m) u ∙ ap (names_of texts u) (keys_first_time h t role spot m) ∙ names_push texts u t m.number ks
    ∙ ap₂ (λ ns x. ns ++ cond (eqb t u) (x ∷ []) []) (names_longer (spellings h) texts u ks g.kept.longer (texts_below h s) ∙ sym (names_by_keys h u)) (place_first texts text m.number g.number).1
    ∙ cond_both (eqb t u) (append_new (names_in h u) (text ∷ [])) (names_in h u) (λ ns. names_in h u ++ cond (eqb t u) (text ∷ []) [] ≡ ns)
    (λ e. ap (λ zs. names_in h u ++ zs) (cond-true (eqb t u) (text ∷ []) [] e) ∙ subst (λ v. names_in h v ++ text ∷ [] ≡ append_new (names_in h v) (text ∷ [])) (eqb-true t u e) (sym (after_not_there (names_in h t) text (name_not_there h t text s w.new))))
    (λ e. ap (λ zs. names_in h u ++ zs) (cond-false (eqb t u) (text ∷ []) [] e) ∙ append-nil (names_in h u))

pub names_after_lem : (room : Room) (h : Held) (u t : ℕ) (role : SymbolUsage) (text : List ℕ) (spot : Spot) →
    Sound h → (k : Held) → enter room h t role text spot ≡ done k → names_in k u ≡ names_after h u t text
names_after_lem room h u t role text spot s =
    accepted room h t role text spot (λ k. names_in k u ≡ names_after h u t text) (λ x i w. names_once_more h u t role text x i w) (λ m w. names_first_time room h u t role text spot m w s)
