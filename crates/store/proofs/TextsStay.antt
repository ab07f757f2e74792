-- Texts: one more is added after those before, which keep their spelling and their numbers.
use Rattle.std.proofs.Common.{◌≡◌, ℕ, ◌+◌, ◌<◌, ◌≤◌, ◌⊎◌, List, [], ◌∷◌, ◌++◌, map, length, get_or, take, drop, Some, None, sym, refl, ap, ◌∙◌, subst, ap₂, inl, inr, arith}
use Rattle.std.specs.List.{All}
use Rattle.std.proofs.lemmas.List.Elements.{All-head, All-push, All-tail, All-weaker}
use Rattle.std.proofs.lemmas.List.{append_assoc, append-nil, drop-append-le, drop_at, get_or_append_left, get_or_push, length-append, length-drop, length-map, length_push, map_push, take_all, take-append-le}
use Rattle.ordered.specs.Keys.{Absent, Distinct, First}
use Rattle.ordered.proofs.Enters.{distinct_push}
use Rattle.store.specs.declared.text.Text.{Text}
use Rattle.store.specs.Grown.{Longer, TextsKept}
use Rattle.store.specs.Held.{Held, Room}
use Rattle.store.specs.Sound.{Inside}
use Rattle.store.specs.Texts.{Interned, interned, number_of, place_of, spelled, spellings, with_text}
use Rattle.store.proofs.Inversion.{interned_cases, not_some, one_some}
use Rattle.store.proofs.Places.{found_place, place_absent, place_first}

pub longer_self : {X : Type 0} (xs : List X) → Longer xs xs
longer_self xs = record { rest = []; is = sym (append-nil xs) }

pub longer_on : {X : Type 0} (xs ys zs : List X) → Longer xs ys → Longer ys zs → Longer xs zs
longer_on xs ys zs p q = record { rest = p.rest ++ q.rest; is = q.is ∙ ap (λ l. l ++ q.rest) p.is ∙ append_assoc xs p.rest q.rest }

pub longer_length : {X : Type 0} (xs ys : List X) → Longer xs ys → length xs ≤ length ys
longer_length xs ys p = let n = length-append xs p.rest in let e = ap length p.is in omega arith

pub longer-get_or : {X : Type 0} (xs ys : List X) (i : ℕ) (d : X) → Longer xs ys → i < length xs → get_or ys i d ≡ get_or xs i d
longer-get_or xs ys i d p l = ap (λ zs. get_or zs i d) p.is ∙ get_or_append_left xs p.rest d i l

-- a key that is found stays where it is when more keys come after
pub longer_place : (ks ls : List (List ℕ)) (k : List ℕ) (i : ℕ) → Longer ks ls → place_of k ks ≡ Some i → place_of k ls ≡ Some i
longer_place ks ls k i p e =
    let f = place_first ks k i e in
    let n = longer_length ks ls p in
    let at' : (j : ℕ) → j < length ks → get_or ls j [] ≡ get_or ks j [] = λ j l. longer-get_or ks ls j [] p l in
    let w : First ls k i = (omega (arith, f.0), at' i f.0 ∙ f.1, λ j l q. f.2 j l (sym (at' j (omega (arith, f.0))) ∙ q)) in
    sym (found_place ls k (Some i) w)

-- a key that is absent is found last once it was added
pub place_push : (ks : List (List ℕ)) (k : List ℕ) → Absent ks k → place_of k (ks ++ k ∷ []) ≡ Some (length ks)
place_push ks k a =
    let n = length_push ks k in
    let w : First (ks ++ k ∷ []) k (length ks) = (omega arith, get_or_push ks k [] (length ks) refl, λ j l q. a j l (sym (get_or_append_left ks (k ∷ []) [] j l) ∙ q)) in
    sym (found_place (ks ++ k ∷ []) k (Some (length ks)) w)

-- more bytes do not change a text that lies inside those before
spelled_more : (bytes more : List ℕ) (x : Text) → x.start + x.len ≤ length bytes → spelled (bytes ++ more) x ≡ spelled bytes x
spelled_more bytes more x l =
    let n = length-drop x.start bytes in
    ap (take x.len) (drop-append-le x.start bytes more (omega arith)) ∙ take-append-le x.len (drop x.start bytes) more (omega arith)

spellings_more : (bytes more : List ℕ) (xs : List Text) → All (λ x. x.start + x.len ≤ length bytes) xs → map (spelled (bytes ++ more)) xs ≡ map (spelled bytes) xs
spellings_more bytes more [] a = refl
spellings_more bytes more (x ∷ xs) a = ap₂ (λ y ys. y ∷ ys) (spelled_more bytes more x (All-head (λ y. y.start + y.len ≤ length bytes) x xs a)) (spellings_more bytes more xs (All-tail (λ y. y.start + y.len ≤ length bytes) x xs a))

-- the text that was added is spelled by the bytes that were added
spelled_last : (bytes text : List ℕ) → spelled (bytes ++ text) (record { start = length bytes; len = length text }) ≡ text
spelled_last bytes text = ap (take (length text)) (drop_at bytes text (length bytes) refl) ∙ take_all (length text) text (omega arith)

module _ (h : Held) (text : List ℕ) (inside : Inside h) where
  pub spellings_push : spellings (with_text h text) ≡ spellings h ++ text ∷ []
  spellings_push =
      map_push (spelled (h.bytes ++ text)) h.texts (record { start = length h.bytes; len = length text })
      ∙ ap₂ (λ xs x. xs ++ x ∷ []) (spellings_more h.bytes text h.texts inside) (spelled_last h.bytes text)

  pub inside_push : Inside (with_text h text)
  inside_push =
      let n = length-append h.bytes text in
      All-push (λ x. x.start + x.len ≤ length (h.bytes ++ text)) h.texts (record { start = length h.bytes; len = length text })
      (All-weaker (λ x. x.start + x.len ≤ length h.bytes) (λ x. x.start + x.len ≤ length (h.bytes ++ text)) (λ x l. omega arith) h.texts inside)
      (omega arith)

  pub longer_push : Longer (spellings h) (spellings (with_text h text))
  longer_push = record { rest = text ∷ []; is = spellings_push }

  pub number_push : number_of h text ≡ None → number_of (with_text h text) text ≡ Some (length h.texts)
  number_push e =
      ap (place_of text) spellings_push ∙ place_push (spellings h) text (place_absent (spellings h) text e) ∙ ap Some (length-map h.texts (spelled h.bytes))

  pub apart_push : number_of h text ≡ None → Distinct (spellings h) → Distinct (spellings (with_text h text))
  apart_push e d = subst Distinct (sym spellings_push) (distinct_push (spellings h) text d (place_absent (spellings h) text e))

-- texts that come after those before leave these their numbers
pub texts_kept : (h k : Held) → Inside k → Longer (spellings h) (spellings k) → TextsKept h k
texts_kept h k a p = record { inside = a; longer = p; numbers = λ x i e. longer_place (spellings h) (spellings k) x i p e }

pub texts_kept_self : (h : Held) → Inside h → TextsKept h h
texts_kept_self h a = texts_kept h h a (longer_self (spellings h))

pub texts_kept_on : (h k l : Held) → TextsKept h k → TextsKept k l → TextsKept h l
texts_kept_on h k l p q = texts_kept h l q.inside (longer_on (spellings h) (spellings k) (spellings l) p.longer q.longer)

-- what interning a text leaves: the text has its number, as before or the next one, and texts are as they were, and apart if they were
pub record Interning (h : Held) (text : List ℕ) (m : Interned) : Type 0 where
  pub kept : TextsKept h m.held
  pub number : number_of m.held text ≡ Some m.number
  pub old_or_next : (number_of h text ≡ Some m.number) ⊎ (m.number ≡ length h.texts)
  pub apart : Distinct (spellings h) → Distinct (spellings m.held)

pub interning : (room : Room) (h : Held) (text : List ℕ) (m : Interned) → Inside h → interned room h text ≡ Some m → Interning h text m
interning room h text m inside =
    interned_cases room h text (λ o. o ≡ Some m → Interning h text m)
    (λ i a e. subst (Interning h text) (one_some _ m e) (record { kept = texts_kept_self h inside; number = a; old_or_next = inl a; apart = λ d. d }))
    (λ a b e.
    subst (Interning h text) (one_some _ m e)
    (record { kept = texts_kept h (with_text h text) (inside_push h text inside) (longer_push h text inside); number = number_push h text inside a; old_or_next = inr refl; apart = apart_push h text inside a }))
    (λ a b e. not_some m (sym e))
