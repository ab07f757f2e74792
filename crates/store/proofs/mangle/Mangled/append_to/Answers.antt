-- The parts are appended, or all are cut off again.
use Rattle.std.proofs.Common.{◌≡◌, ◌+◌, [], ◌∷◌, ◌++◌, length, Err, sym, ap, ◌∙◌, subst, arith}
use Rattle.std.proofs.lemmas.List.{length-append}
use Rattle.ordered.specs.Records.{no_room}
use Rattle.store.specs.Mangling.{under}
use Rattle.store.specs.Memory.{Appends}
use Rattle.store.proofs.Appending.{appends, appends_not, appends_more, appends_less, appends_none, under_some}
use Rattle.store.proofs.Frames.{same_truncated}
use Rattle.store.proofs.mangle.Mangled.append_to.Goals as goal
use Rattle.store.proofs.mangle.Mangled.append_to.Goals.{else-is_ok-via-then-is_ok+then-is_ok-2+else-is_ok-3, else-is_ok-via-then-is_ok+else-is_ok-2, else-is_ok-via-else-is_ok}

pub returns : goal.returns
returns c =
    let t = c.args.bytes.now in
    let t₁ = c.extend-2.new.self in
    let cut = c.truncate.new.self in
    let n = c.count-start.result in
    let prefix = c.args.self.now.prefix.now in
    let name = c.args.self.now.name.now in
    let e = under_some prefix name c.if-is_empty.ensures in
    let long : length (under prefix name) ≡ 1 + length (prefix ++ name) = ap length e ∙ length-append (95 ∷ []) (prefix ++ name) in
    let both = length-append prefix name in
    let last = c.else-is_ok.bytes in
    let shorter = c.truncate.ensures.list in
    let same = same_truncated last cut n c.truncate.ensures.whole in
    elim c.else-is_ok.branch [
      | else-is_ok-via-then-is_ok+then-is_ok-2+else-is_ok-3 w ↦
          let t₂ = w.extend-then-is_ok.new.self in
          let t₃ = w.extend-then-is_ok-2.new.self in
          let first = appends t t₁ (95 ∷ []) c.extend-2.result c.extend-2.ensures w.if-is_ok.ensures.value in
          let second = appends t₁ t₂ prefix w.extend-then-is_ok.result w.extend-then-is_ok.ensures w.if-is_ok-2.ensures.value in
          let third = appends_not t₂ t₃ name w.extend-then-is_ok-2.result w.extend-then-is_ok-2.ensures w.if-is_ok-3.ensures.value in
          appends_less t t₂ last cut ((95 ∷ []) ++ prefix) name (under prefix name) n c.count-start.ensures (appends_more t t₁ t₂ (95 ∷ []) prefix first second)
          (subst (λ z. Appends t₂ z name (Err no_room)) (sym w.bytes-is) third) shorter same
          (omega (arith, long, both, length-append (95 ∷ []) prefix))
      | else-is_ok-via-then-is_ok+else-is_ok-2 w ↦
          let t₂ = w.extend-then-is_ok.new.self in
          let first = appends t t₁ (95 ∷ []) c.extend-2.result c.extend-2.ensures w.if-is_ok.ensures.value in
          let second = appends_not t₁ t₂ prefix w.extend-then-is_ok.result w.extend-then-is_ok.ensures w.if-is_ok-2.ensures.value in
          appends_less t t₁ last cut (95 ∷ []) prefix (under prefix name) n c.count-start.ensures first
          (subst (λ z. Appends t₁ z prefix (Err no_room)) (sym w.bytes-is) second) shorter same
          (omega (arith, long, both))
      | else-is_ok-via-else-is_ok w ↦
          let first = appends_not t t₁ (95 ∷ []) c.extend-2.result c.extend-2.ensures w.if-is_ok.ensures.value in
          appends_none t last cut (95 ∷ []) (under prefix name) n c.count-start.ensures
          (subst (λ z. Appends t z (95 ∷ []) (Err no_room)) (sym w.bytes-is) first) shorter same
          (omega (arith, long))
    ]
