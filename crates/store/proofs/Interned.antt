-- What interning leaves: nothing else, and the texts that were held.
use Rattle.std.proofs.Common.{◌≡◌, ℕ, Bool, true, false, cond, List, length, take, Some, None, Ok, Option, sym, refl, ap, ◌∙◌, subst}
use Rattle.std.proofs.lemmas.List.{take_at}
use Rattle.store.specs.Held.{Held, Room}
use Rattle.store.specs.Grown.{Longer}
use Rattle.store.specs.declared.memory.Counts.{Counts}
use Rattle.store.specs.declared.memory.Memory.{Memory}
use Rattle.store.specs.Memory.{Numbers, counts_of, held, room_of}
use Rattle.store.specs.Texts.{Interned, fits_in, with_text, number_of, interned_by, interned, with_first}
use Rattle.store.proofs.Frames.{longer_refl}
use Rattle.store.proofs.Never.{apart}

-- k holds what h holds, and maybe more texts
pub record MoreTexts (h k : Held) : Type 0 where
  pub tables : k.tables ≡ h.tables
  pub symbols : k.symbols ≡ h.symbols
  pub texts : Longer h.texts k.texts
  pub bytes : Longer h.bytes k.bytes

same_texts : (h : Held) → MoreTexts h h
same_texts h = record { tables = refl; symbols = refl; texts = longer_refl h.texts; bytes = longer_refl h.bytes }

one_text : (h : Held) (text : List ℕ) → MoreTexts h (with_text h text)
one_text h text = record { tables = refl; symbols = refl; texts = record { rest = _; is = refl }; bytes = record { rest = text; is = refl } }

module _ (room : Room) (h : Held) (text : List ℕ) where
  by_room : (b : Bool) (i : Interned) → cond b (Some (record { held = with_text h text; number = length h.texts })) None ≡ Some i → MoreTexts h i.held
  by_room true i e = let p : record { held = with_text h text; number = length h.texts } ≡ i = cc in subst (λ j. MoreTexts h j.held) p (one_text h text)
  by_room false i e = absurd (apart (cc))

  by_number : (o : Option ℕ) (i : Interned) → interned_by room h text o ≡ Some i → MoreTexts h i.held
  by_number (Some x) i e = let p : record { held = h; number = x } ≡ i = cc in subst (λ j. MoreTexts h j.held) p (same_texts h)
  by_number None i e = by_room (fits_in room h text) i e

  pub interned_more : (i : Interned) → interned room h text ≡ Some i → MoreTexts h i.held
  interned_more i e = by_number (number_of h text) i e

-- what a number that was answered says
pub record Answered (h : Held) (o : Option Interned) (x : ℕ) (k : Held) : Type 0 where
  pub one : Interned
  pub is : o ≡ Some one
  pub number : x ≡ one.number
  pub held : k ≡ one.held

pub numbers_some : (h : Held) (o : Option Interned) (x : ℕ) (k : Held) → Numbers h o (Ok x) k → Answered h o x k
numbers_some h (Some i) x k n = record { one = i; is = refl; number = (let e = n.0 in cc); held = n.1 }
numbers_some h None x k n = absurd (apart (let e = n.0 in cc))

-- texts that were added are cut off again
pub cut_longer : {X : Type 0} (xs ys : List X) (n : ℕ) → Longer xs ys → n ≡ length xs → take n ys ≡ xs
cut_longer xs ys n l e = ap (take n) l.is ∙ take_at xs l.rest n (sym e)

-- memory that took back the text that was interned holds what it held
pub taken_back : (m m₁ m₃ : Memory) (text : List ℕ) (x : ℕ) (n : Counts) → Numbers (held m) (interned (room_of m) (held m) text) (Ok x) (held m₁) → n ≡ counts_of m →
    held m₃ ≡ with_first (held m₁) n.texts n.bytes → held m₃ ≡ held m
taken_back m m₁ m₃ text x n numbers counts back =
    let a = numbers_some (held m) (interned (room_of m) (held m) text) x (held m₁) numbers in
    let more = subst (MoreTexts (held m)) (sym a.held) (interned_more (room_of m) (held m) text a.one a.is) in
    back ∙ (λ i. record {
      tables = more.tables i;
      symbols = more.symbols i;
      texts = cut_longer (held m).texts (held m₁).texts n.texts more.texts (ap (λ c. c.texts) counts) i;
      bytes = cut_longer (held m).bytes (held m₁).bytes n.bytes more.bytes (ap (λ c. c.bytes) counts) i;
    })
