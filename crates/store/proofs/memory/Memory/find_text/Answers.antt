-- What the search finds is the text's number.
use Rattle.std.proofs.Common.{◌≡◌, ℕ, List, Some, None, Option, ◌∙◌, subst}
use Rattle.ordered.specs.Keys.{keys, Found}
use Rattle.ordered.specs.Records.{listed}
use Rattle.store.specs.declared.memory.Memory.{Memory}
use Rattle.store.specs.Mangling.{text_of}
use Rattle.store.specs.Memory.{held}
use Rattle.store.specs.Texts.{spelled, spellings, number_of}
use Rattle.store.proofs.Places.{found_place}
use Rattle.store.proofs.memory.Memory.find_text.Goals as goal

-- what was found over the bytes that were lent is the number
number : (m : Memory) (bytes text : List ℕ) (r : Option ℕ) → bytes ≡ listed m.bytes → Found (keys (λ t xs. spelled xs t) bytes (listed m.texts)) text r → r ≡ number_of (held m) text
number m bytes text r e f =
    found_place (spellings (held m)) text r (subst (λ (bs : List ℕ). Found (keys (λ t xs. spelled xs t) bs (listed m.texts)) text r) e f)

pub returns : goal.returns
returns c =
    number c.args.self.now c.as_slice.result.now (text_of c.args.name.now) (Some c.in_ok-i.i) c.as_slice.ensures c.in_ok-i.ensures

pub returns-in_err-i : goal.returns-in_err-i
returns-in_err-i c =
    c.from_residual.ensures ∙
    number c.args.self.now c.as_slice.result.now (text_of c.args.name.now) None c.as_slice.ensures c.in_err-i.ensures
