use Rattle.std.proofs.Common.{rules, ◌≡◌, ◌+◌, ◌++◌, ℕ, ap, ◌∙◌, refl, sym, subst, drop, length, arith}
use Rattle.std.specs.Prelude.{map, sum_by}
use Rattle.std.specs.Option.{option_to_list}
use Rattle.std.proofs.lemmas.List.Sums.{sum_by-cons}
use Rattle.pr_crew.specs.Crossing.{AreClosed}
use Rattle.pr_crew.specs.Starting.{HaveEnded}
use Rattle.pr_crew.specs.Tasks.{first_of_two, first_stop, stop_of, wires_of}
use Rattle.pr_crew.proofs.Ends.{can_end, first_of_three, first_of_went, none_ended, one_ended}
use Rattle.pr_crew.proofs.Places.{none_left, nothing_left, popped}
use Rattle.pr_crew.proofs.starting.end.Goals as goal

pub loop-task-init : goal.loop-task-init
loop-task-init g c = (
  0,
  search rules,
  omega arith,
  λ plan h count streams can. none_ended plan h count streams (g.H.Held.state c.args.held.now) c.args.sites.now c.args.tasks.items can,
  refl,
  refl,
  λ d h keeps. keeps,
  λ n has. has,
  refl,
  refl,
  refl,
  refl,
  λ now closed. closed,
)

pub end_one-next-requires-clause-can : goal.end_one-next-requires-clause-can
end_one-next-requires-clause-can g c κs within =
    let (plan, h, count, streams, can) = c.requires.can in
    let inv = c.loop-task.invariant in
    let last = popped c.args.tasks.items inv.0 c.pop.new.self.items c.in-Some.task (sym inv.1 ∙ c.pop.ensures.items ∙ ap (λ o. c.pop.new.self.items ++ option_to_list o) c.in-Some.is) in
    can_end plan h count streams (g.H.Held.state c.args.held.now) c.args.sites.now c.args.tasks.items can (g.H.Held.state c.loop-task.held) c.loop-task.sites inv.0 inv.4 (inv.3 plan h count streams can) c.in-Some.task last.0

pub end_one-next-requires-clause-out : goal.end_one-next-requires-clause-out
end_one-next-requires-clause-out g c =
    let inv = c.loop-task.invariant in
    let last = popped c.args.tasks.items inv.0 c.pop.new.self.items c.in-Some.task (sym inv.1 ∙ c.pop.ensures.items ∙ ap (λ o. c.pop.new.self.items ++ option_to_list o) c.in-Some.is) in
    let some = c.requires.out in
    let out = inv.8 in
    let next : sum_by wires_of (drop inv.0 c.args.tasks.items) ≡ wires_of c.in-Some.task + sum_by wires_of (drop (inv.0 + 1) c.args.tasks.items) =
    ap (λ ts. sum_by wires_of ts) last.3 ∙ sum_by-cons wires_of c.in-Some.task (drop (inv.0 + 1) c.args.tasks.items) in
    omega (arith, some, out, next)

pub loop-task-preserved : goal.loop-task-preserved
loop-task-preserved g c =
    let inv = c.loop-task.invariant in
    let i : ℕ = inv.0 in
    let ts = c.args.tasks.items in
    let task = c.in-Some.task in
    let last = popped ts i c.pop.new.self.items task (sym inv.1 ∙ c.pop.ensures.items ∙ ap (λ o. c.pop.new.self.items ++ option_to_list o) c.in-Some.is) in
    let more = last.2 in
    let out = inv.8 in
    let then = c.end_one-next.ensures.out in
    let next : sum_by wires_of (drop i ts) ≡ wires_of task + sum_by wires_of (drop (i + 1) ts) = ap (λ l. sum_by wires_of l) last.3 ∙ sum_by-cons wires_of task (drop (i + 1) ts) in
    let (plan, h, count, streams, can) = c.requires.can in (
      i + 1,
      last.1,
      omega (arith, more),
      λ plan h count streams can. (one_ended plan h count streams (g.H.Held.state c.args.held.now) c.args.sites.now ts can (g.H.Held.state c.loop-task.held) c.loop-task.sites i inv.4 (inv.3 plan h count streams can) task
          (g.H.Held.state c.end_one-next.new.held) c.end_one-next.new.sites last.0 c.end_one-next.ensures.ends).0,
      (one_ended plan h count streams (g.H.Held.state c.args.held.now) c.args.sites.now ts can (g.H.Held.state c.loop-task.held) c.loop-task.sites i inv.4 (inv.3 plan h count streams can) task
          (g.H.Held.state c.end_one-next.new.held) c.end_one-next.new.sites last.0 c.end_one-next.ensures.ends).1 ∙ inv.4,
      ap (λ r. first_of_two r (first_stop (map stop_of (drop (i + 1) ts)))) (c.first-stop.ensures ∙ ap (λ r. first_of_two c.loop-task.stop r) c.end_one-next.ensures.stop)
          ∙ first_of_three c.loop-task.stop (stop_of task) (first_stop (map stop_of (drop (i + 1) ts))) ∙ ap (λ l. first_of_two c.loop-task.stop (first_stop (map stop_of l))) (sym last.3) ∙ inv.5,
      λ d h keeps. c.end_one-next.ensures.records d h (inv.6 d h keeps),
      λ n has. c.end_one-next.ensures.room n (inv.7 n has),
      omega (arith, out, then, next),
      c.end_one-next.ensures.same.0 ∙ inv.9,
      c.end_one-next.ensures.same.1 ∙ inv.10,
      c.end_one-next.ensures.same.2 ∙ inv.11,
      λ now closed. inv.12 now (subst (λ l. AreClosed g.W.Wire.Wire.state l (g.W.Wires.carried c.loop-task.wires) now) (sym last.3)
          (g.W.Wires.carried c.end_one-next.new.wires, c.end_one-next.ensures.carried, closed)),
    )

pub returns-clause-ended : goal.returns-clause-ended
returns-clause-ended g c plan h count streams can =
    let inv = c.loop-task.invariant in
    let none : length c.loop-task.tasks.items ≡ 0 = search rules in
    let all = none_left c.args.tasks.items inv.0 (ap (λ ts. length ts) (sym inv.1) ∙ none) inv.2 in
    subst (λ i. HaveEnded plan h count streams (g.H.Held.state c.args.held.now) (g.H.Held.state c.loop-task.held) c.loop-task.sites c.args.tasks.items i) all (inv.3 plan h count streams can)

pub returns-clause-stop : goal.returns-clause-stop
returns-clause-stop g c =
    let inv = c.loop-task.invariant in
    let none : length c.loop-task.tasks.items ≡ 0 = search rules in
    let left = nothing_left (drop inv.0 c.args.tasks.items) (ap (λ ts. length ts) (sym inv.1) ∙ none) in
    sym (first_of_went c.loop-task.stop) ∙ ap (λ ts. first_of_two c.loop-task.stop (first_stop (map stop_of ts))) (sym left) ∙ inv.5

pub returns-clause-carried : goal.returns-clause-carried
returns-clause-carried g c =
    let inv = c.loop-task.invariant in
    let none : length c.loop-task.tasks.items ≡ 0 = search rules in
    let left = nothing_left (drop inv.0 c.args.tasks.items) (ap (λ ts. length ts) (sym inv.1) ∙ none) in
    inv.12 (g.W.Wires.carried c.loop-task.wires) (subst (λ ts. AreClosed g.W.Wire.Wire.state ts (g.W.Wires.carried c.loop-task.wires) (g.W.Wires.carried c.loop-task.wires)) (sym left) refl)
