-- What `ends_with` tells of two underscores.
use Rattle.std.proofs.lemmas.Slice.Eq.{ends_is}
use Rattle.std.proofs.lemmas.Bool.Decides.{same_from_decides, Decides-eqb}
use Rattle.store.proofs.Names.{two, ends_decides}
use Rattle.store.proofs.mangle.ends_in_two.Goals as goal

pub returns : goal.returns
returns c =
    let xs = c.args.name.now in
    let tells = ends_is Decides-eqb xs two c.ends_with.result c.ends_with.ensures.value in
    same_from_decides _ _ ((λ e. (_, tells.0 e)), (λ p. tells.1 p.0 p.1)) (ends_decides xs)
