use Rattle.std.proofs.Common.{◌+◌, ℕ, List, [], ◌∷◌, ◌++◌, get_or, ap, ◌∙◌, arith}
use Rattle.std.proofs.lemmas.List.Elements.{Contains-get_or}
use Rattle.std.proofs.lemmas.Option.{slice_get-get_or}
use Rattle.pr_crew.proofs.Filling.{mapped_more}
use Rattle.pr_crew.proofs.room.shift.Goals as goal

pub behind-requires : goal.behind-requires
behind-requires c = c.requires.within _ (Contains-get_or c.args.merged.now c.loop-place.place-index (0, 0) c.loop-place-test.true)

pub loop-place-preserved : goal.loop-place-preserved
loop-place-preserved c =
    let i = c.loop-place.place-index in
    let p : ℕ × ℕ = get_or c.args.merged.now i (0, 0) in
    let put : ℕ × ℕ → ℕ × ℕ = λ q. (q.0, get_or c.args.opened.now q.0 0 + q.1) in
    let room = c.loop-place.invariant.room in
    let more = c.push.ensures.room in
    record {
      places = c.push.ensures.items ∙ ap (λ (q : ℕ × ℕ). c.loop-place.places.items ++ q ∷ []) c.behind.ensures ∙ ap (λ (l : List (ℕ × ℕ)). l ++ put p ∷ []) c.loop-place.invariant.places
          ∙ mapped_more put c.args.merged.now i p (slice_get-get_or c.args.merged.now i (0, 0) c.loop-place-test.true);
      room = omega (arith, room, more);
    }
