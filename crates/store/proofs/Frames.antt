-- What a call leaves of the places: they are the same, and as many.
use Rattle.std.proofs.Common.{◌≡◌, ℕ, ◌+◌, min, List, [], ◌++◌, length, drop, set, Some, None, Option, Ok, Err, Result, sym, refl, ap, ◌∙◌, append_assoc, append-nil, arith}
use native.Mathlib.Nat.{min-le_right}
use Rattle.std.proofs.lemmas.List.{length-set, length-append, length-drop}
use Rattle.ordered.specs.declared.table.NoRoom.{NoRoom}
use Rattle.ordered.specs.declared.table.Ordered.{Ordered}
use Rattle.ordered.specs.Records.{listed, room, over, Extended, Replaced}
use Rattle.store.specs.declared.memory.Memory.{Memory}
use Rattle.store.specs.Grown.{Longer}
use Rattle.store.specs.Memory.{SamePlaces, Keeps, marks, room_of}

pub longer_refl : {X : Type 0} (xs : List X) → Longer xs xs
longer_refl xs = record { rest = []; is = sym (append-nil xs) }

pub longer_trans : {X : Type 0} {xs ys zs : List X} → Longer xs ys → Longer ys zs → Longer xs zs
longer_trans {xs = xs} a b = record { rest = a.rest ++ b.rest; is = b.is ∙ ap (λ l. l ++ b.rest) a.is ∙ append_assoc xs a.rest b.rest }

pub longer_is : {X : Type 0} (xs ys : List X) → ys ≡ xs → Longer xs ys
longer_is xs ys e = record { rest = []; is = e ∙ sym (append-nil xs) }

module _ {R : Type 0} where
  pub same_refl : (t : Ordered R) → SamePlaces t t
  same_refl t = record { named = refl; limit = refl; size = refl }

  pub same_trans : {t t₁ t₂ : Ordered R} → SamePlaces t t₁ → SamePlaces t₁ t₂ → SamePlaces t t₂
  same_trans a b = record { named = b.named ∙ a.named; limit = b.limit ∙ a.limit; size = b.size ∙ a.size }

  pub same_room : {t t' : Ordered R} → SamePlaces t t' → room t' ≡ room t
  same_room {t} {t'} s = ap (λ l. min l (length t'.places.now)) s.limit ∙ ap (λ n. min t.limit n) s.size

  pub same_is : (t t' : Ordered R) → t' ≡ t → SamePlaces t t'
  same_is t t' e = record { named = ap (λ u. u.places.ghost_name) e; limit = ap (λ u. u.limit) e; size = ap (λ u. length u.places.now) e }

  pub same_over : (t t' : Ordered R) (xs : List R) (n : ℕ) → t' ≡ over t xs n → length xs ≡ length t.places.now → SamePlaces t t'
  same_over t t' xs n e h = record {
    named = ap (λ u. u.places.ghost_name) e;
    limit = ap (λ u. u.limit) e;
    size = ap (λ u. length u.places.now) e ∙ h;
  }

  pub same_replaced : (t t' : Ordered R) (i : ℕ) (x : R) (r : Option R) → Replaced t t' i x r → SamePlaces t t'
  same_replaced t t' i x (Some y) p = same_over t t' (set t.places.now i x) t.count p.3 (length-set t.places.now i x)
  same_replaced t t' i x None p = same_is t t' p.1

  pub same_extended : (t t' : Ordered R) (xs : List R) (r : Result (Unit {0}) NoRoom) → Extended t t' xs r → SamePlaces t t'
  same_extended t t' xs (Ok _) p =
      let ls = listed t in
      let rest = drop (length ls + length xs) t.places.now in
      let w = min-le_right t.limit (length t.places.now) in
      let a = length-append ls (xs ++ rest) in
      let b = length-append xs rest in
      let d = length-drop (length ls + length xs) t.places.now in
      let f = p.0 in
      same_over t t' (ls ++ (xs ++ rest)) (length ls + length xs) p.2 (omega (arith, a, b, d, w, f))
  same_extended t t' xs (Err _) p = same_is t t' p.1

  pub same_truncated : (t t' : Ordered R) (n : ℕ) → t' ≡ over t t.places.now (min n t.count) → SamePlaces t t'
  same_truncated t t' n e = same_over t t' t.places.now (min n t.count) e refl

pub keeps_refl : (m : Memory) → Keeps m m
keeps_refl m = record {
  tables = same_refl m.tables;
  symbols = same_refl m.symbols;
  texts = same_refl m.texts;
  bytes = same_refl m.bytes;
  marked = longer_refl (marks m);
}

pub keeps_trans : {m m₁ m₂ : Memory} → Keeps m m₁ → Keeps m₁ m₂ → Keeps m m₂
keeps_trans a b = record {
  tables = same_trans a.tables b.tables;
  symbols = same_trans a.symbols b.symbols;
  texts = same_trans a.texts b.texts;
  bytes = same_trans a.bytes b.bytes;
  marked = longer_trans a.marked b.marked;
}

pub keeps_room : {m m' : Memory} → Keeps m m' → room_of m' ≡ room_of m
keeps_room k = λ i. record {
  tables = same_room k.tables i;
  symbols = same_room k.symbols i;
  texts = same_room k.texts i;
  bytes = same_room k.bytes i;
}
