-- Where the names of a checked index lie.
use Rattle.std.proofs.Common.{◌≡◌, ℕ, ◌+◌, ◌≤◌, true, ◌&&◌, leb, List, length, arith}
use Rattle.std.proofs.lemmas.List.{length-drop, length-take}
use Rattle.std.proofs.lemmas.Bool.{and_parts, leb-true}
use Rattle.treefile.specs.declared.trailer.Trailer.{Trailer}
use Rattle.treefile.specs.Names.{Whole, name_bytes, name_length, name_ok, name_place}
use Rattle.treefile.specs.Trailer.{trailer_start}

module _ (bs : List ℕ) (t : Trailer) (n : ℕ) (h : name_ok bs t n ≡ true) where
  parts : (1 ≤ name_length bs t n) × (name_length bs t n ≤ 255) × (name_place bs t n + name_length bs t n ≤ trailer_start bs)
  parts =
      let a = and_parts (leb 1 (name_length bs t n)) (leb (name_length bs t n) 255 && leb (name_place bs t n + name_length bs t n) (trailer_start bs)) h in
      let b = and_parts (leb (name_length bs t n) 255) (leb (name_place bs t n + name_length bs t n) (trailer_start bs)) a.1 in
      (leb-true _ _ a.0, leb-true _ _ b.0, leb-true _ _ b.1)

  -- a name lies within the file
  pub name_within : name_place bs t n + name_length bs t n ≤ length bs
  name_within = omega (arith, parts.2)

  -- it has all the bytes that the index says
  pub name_length_lem : length (name_bytes bs t n) ≡ name_length bs t n
  name_length_lem =
      let d = length-drop (name_place bs t n) bs in
      simp length-take (omega (arith, d, name_within))

  -- at least one
  pub name_some : 1 ≤ length (name_bytes bs t n)
  name_some = omega (arith, name_length_lem, parts.0)

  -- so it is whole
  pub name_whole : Whole bs t n
  name_whole = record { some = parts.0; all = name_length_lem; within = parts.2 }
