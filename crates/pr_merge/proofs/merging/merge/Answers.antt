use Rattle.std.proofs.Common.{arith, refl, ap, ℕ, List, [], ◌∷◌, length, length-set, length-append, ◌∙◌, ◌<◌, ◌+◌}
use Rattle.std.specs.Prelude.{slice_index}
use Rattle.pr_merge.proofs.Times.{left_all, left_less, left_none}
use Rattle.pr_merge.proofs.Tournament.{to_replay}
use Rattle.pr_merge.specs.Heads.{head}
use Rattle.pr_merge.proofs.Turns.{none_taken, taken_more, all_taken, zeros}
use Rattle.pr_merge.proofs.merging.merge.Goals as goal

pub loop-part-init : goal.loop-part-init
loop-part-init c = record {
  taken = none_taken c.args.parts.now _ c.args.out.now.items (zeros 32) c.requires.empty;
  played = c.tournament-winners.ensures;
  len = refl;
  count = omega (arith, left_all c.args.parts.now 32, ap (λ (l : List (ℕ × ℕ)). length l) c.requires.empty);
  room = omega (arith, c.requires.room, left_all c.args.parts.now 32);
}

pub push-requires : goal.push-requires
push-requires c =
    omega (arith, c.loop-part.invariant.room, left_less c.args.parts.now c.loop-part.next c.in-Some.part (omega (arith, c.in-Some.ensures.within, c.requires.most, c.loop-part.invariant.len)) c.in-Some.ensures.found.0)

pub loop-part-smaller : goal.loop-part-smaller
loop-part-smaller c =
    omega (arith, left_less c.args.parts.now c.loop-part.next c.in-Some.part (omega (arith, c.in-Some.ensures.within, c.requires.most, c.loop-part.invariant.len)) c.in-Some.ensures.found.0)

pub replay-requires-clause-played : goal.replay-requires-clause-played
replay-requires-clause-played c =
    to_replay c.args.parts.now c.loop-part.next c.loop-part.winners c.in-Some.part (omega (arith, c.in-Some.ensures.within, c.requires.most)) c.loop-part.invariant.played

pub loop-part-preserved : goal.loop-part-preserved
loop-part-preserved c =
    let known : c.in-Some.part < length c.loop-part.next = omega (arith, c.in-Some.ensures.within, c.requires.most, c.loop-part.invariant.len) in
    record {
      taken = rw c.push.ensures.items (taken_more c.args.parts.now c.loop-part.next c.loop-part.out.items c.in-Some.part known c.in-Some.ensures.found c.loop-part.invariant.taken c.requires.rising);
      played = c.replay.ensures;
      len = length-set c.loop-part.next c.in-Some.part (slice_index c.loop-part.next c.in-Some.part + 1) ∙ c.loop-part.invariant.len;
      count = omega (arith, left_less c.args.parts.now c.loop-part.next c.in-Some.part known c.in-Some.ensures.found.0, c.loop-part.invariant.count, ap (λ (l : List (ℕ × ℕ)). length l) c.push.ensures.items, length-append c.loop-part.out.items (head c.loop-part.next c.in-Some.part ∷ []));
      room = omega (arith, left_less c.args.parts.now c.loop-part.next c.in-Some.part known c.in-Some.ensures.found.0, c.loop-part.invariant.room, c.push.ensures.room);
    }

pub returns-clause-merged : goal.returns-clause-merged
returns-clause-merged c = all_taken c.args.parts.now c.loop-part.next c.loop-part.out.items c.loop-part.invariant.taken c.in_default.ensures.none

pub returns-clause-count : goal.returns-clause-count
returns-clause-count c = omega (arith, c.loop-part.invariant.count, left_none c.args.parts.now c.loop-part.next c.in_default.ensures.none)
