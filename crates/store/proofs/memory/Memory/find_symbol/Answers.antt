-- What the search finds is the symbol's place.
use Rattle.std.proofs.Common.{ℕ, List, [], ◌∷◌, map, sym, subst}
use mathlib.Core.List.{map-map}
use Rattle.ordered.specs.Keys.{Found}
use Rattle.ordered.specs.Records.{listed}
use Rattle.store.specs.Enterings.{key_of}
use Rattle.store.specs.Memory.{symbol_in, held}
use Rattle.store.proofs.Places.{found_place}
use Rattle.store.proofs.memory.Memory.find_symbol.Goals as goal

pub returns : goal.returns
returns c =
    let m = c.args.self.now in
    let k = c.args.table ∷ c.args.text ∷ [] in
    let P : List (List ℕ) → Type 0 = λ ks. Found ks k c.find.result in
    found_place (map key_of (held m).symbols) k c.find.result (subst P (sym (map-map key_of symbol_in (listed m.symbols))) c.find.ensures)
