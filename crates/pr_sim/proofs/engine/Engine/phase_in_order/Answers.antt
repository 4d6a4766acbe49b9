use Rattle.std.proofs.Common.{◌≡◌, ◌<◌, ◌≤◌, ◌+◌, List, [], ◌++◌, Result, Ok, refl, sym, ◌∙◌, ap, subst, length, get_or, take, drop, arith}
use Rattle.std.specs.Prelude.{map, reverse}
use Rattle.std.proofs.lemmas.List.{take_all}
use Rattle.std.proofs.lemmas.Result.{err_from_is_err_and}
use Rattle.std.specs.List.{flat_map}
use Rattle.pr_flow.specs.Downs.{IsUnsoundFor, flow_of}
use Rattle.pr_flow.specs.declared.stop.Stop.{Stop}
use Rattle.pr_flow.specs.declared.stop.Stop.TheVariants as stops
use Rattle.pr_script.specs.declared.owner.Owner.{Owner}
use Rattle.pr_script.specs.declared.owner.Owner.TheVariants as owner
use Rattle.pr_script.specs.Steps.{owners_of}
use Rattle.pr_stamps.specs.declared.no_memory.NoMemory.{NoMemory}
use Rattle.pr_story.specs.History.{NodeEntry}
use Rattle.pr_story.specs.Scripts.{Job, JobGives}
use Rattle.pr_story.proofs.JobAfterJob.{AreOfJobs}
use Rattle.pr_text.specs.Steps.{job_of, jobs_of}
use Rattle.pr_sim.specs.Phasing.{JobEnds}
use Rattle.pr_sim.specs.Running.{IsRunning}
use Rattle.pr_sim.proofs.JobParts.{ends_at_once, ends_there, ends_whole, goes_on, map_more, map_split, no_ok, ok_same, owners_can, still_owners, wires_more, wires_same, wires_stop}
use Rattle.pr_sim.proofs.JobsInOrder.{lines_can}
use Rattle.pr_sim.specs.Crossing.{JobAdds, JobsCarry}
use Rattle.pr_sim.proofs.Carrying.{other_stop, phase_more, phase_none}
use Rattle.pr_sim.proofs.Sound.{nothing_added}
use Rattle.pr_sim.specs.Sound.{AddsDownsOf}
use Rattle.pr_sim.proofs.WireDowns.{downs_next, flows_split, made_next, over_there, sound_adds}
use Rattle.pr_flow.proofs.Downs.{refused_over}
use Rattle.pr_sim.proofs.engine.Engine.phase_in_order.Goals as goal

pub returns-in_err-owners-clause-steps : goal.returns-in_err-owners-clause-steps
returns-in_err-owners-clause-steps g c d attached h k =
    let p = err_from_is_err_and c.from_residual.result c.from_residual.ensures.1 in
    ends_at_once d attached h c.args.self.now (jobs_of c.args.inside.now) c.from_residual.result p.0 p.1 k

pub loop-owner-init : goal.loop-owner-init
loop-owner-init g c = record {
  kept = c.requires.kept;
  lines = c.requires.can.lines;
  can = owners_can c.args.self.now c.args.inside.now c.requires.can.lines;
  given = λ d attached h k. ([], k, refl);
  carried = λ d attached h k. ([], k, (refl, refl));
  downs = λ d attached h k. sound_adds (λ x. IsUnsoundFor (g.W.Wires.sound c.args.wires.now) (g.W.Wires.made c.args.wires.now) [] x) d h c.args.self.now (nothing_added d attached h c.args.self.now k);
  made = omega arith;
  wires = wires_same g.W.Wires.faults g.W.Wires.made g.W.Wires.out g.W.Wires.sound c.args.wires.now;
}

pub returns-in_err-stop-clause-steps : goal.returns-in_err-stop-clause-steps
returns-in_err-stop-clause-steps g c d attached h k =
    let inside = c.args.inside.now in
    let os = owners_of inside in
    let i = c.loop-owner.owner-index in
    let l = c.loop-owner.invariant in
    let same = c.as_slice-owner-items.ensures ∙ c.in_ok-owners.ensures in
    let o = get_or c.as_slice-owner-items.result.now i (owner.Client 0) in
    let lt : i < length os = subst (λ (xs : List Owner). i < length xs) same c.loop-owner-test.true in
    let is : o ≡ get_or os i (owner.Client 0) = ap (λ (xs : List Owner). get_or xs i (owner.Client 0)) same in
    let first = l.given d attached h k in
    let p = err_from_is_err_and c.from_residual-in_err-stop.result c.from_residual-in_err-stop.ensures.1 in
    ends_there d attached h c.job.new.self first.0 (map (job_of inside) (take i os)) (job_of inside o) first.2 (map (job_of inside) (drop (i + 1) os)) (jobs_of inside) c.from_residual-in_err-stop.result
    (map_split (job_of inside) os i o (owner.Client 0) lt is) (no_ok stops.Went p.0 c.from_residual-in_err-stop.result p.1)
    (subst (λ (x : Result Stop NoMemory). JobEnds (job_of inside o) d attached (first.0 ++ h) c.job.new.self x) (sym p.1) (c.in_err-stop.ensures.ends d attached (first.0 ++ h) first.1))

pub returns-in_default : goal.returns-in_default
returns-in_default g c =
    let inside = c.args.inside.now in
    let os = owners_of inside in
    let i = c.loop-owner.owner-index in
    let l = c.loop-owner.invariant in
    let same = c.as_slice-owner-items.ensures ∙ c.in_ok-owners.ensures in
    let o = get_or c.as_slice-owner-items.result.now i (owner.Client 0) in
    let lt : i < length os = subst (λ (xs : List Owner). i < length xs) same c.loop-owner-test.true in
    let is : o ≡ get_or os i (owner.Client 0) = ap (λ (xs : List Owner). get_or xs i (owner.Client 0)) same in
    let made = g.W.Wires.made in
    let sound = g.W.Wires.sound in
    record {
      steps = λ d attached h k.
          let first = l.given d attached h k in
          ends_there d attached h c.job.new.self first.0 (map (job_of inside) (take i os)) (job_of inside o) first.2 (map (job_of inside) (drop (i + 1) os)) (jobs_of inside) (Ok c.in_ok-stop.stop)
          (map_split (job_of inside) os i o (owner.Client 0) lt is) (λ went. c.in_default.not-Went (ok_same c.in_ok-stop.stop stops.Went (Ok c.in_ok-stop.stop) refl went))
          (c.in_ok-stop.ensures.ends d attached (first.0 ++ h) first.1);
      carried = λ d attached h k. other_stop d attached h c.job.new.self (g.W.Wires.carried c.args.wires.now) (g.W.Wires.carried c.job.new.wires) (jobs_of inside) c.in_ok-stop.stop c.in_default.not-Went;
      wires = wires_stop g.W.Wires.faults g.W.Wires.made g.W.Wires.out g.W.Wires.sound i c.args.wires.now c.loop-owner.wires c.job.new.wires l.wires
          (let most = c.requires.can.jobs in omega (arith, most, lt)) c.in_ok-stop.ensures.wires;
      over = over_there made sound c.args.wires.now c.loop-owner.wires c.job.new.wires (flat_map flow_of (map (job_of inside) (take i os))) (flow_of (job_of inside o)) (flat_map flow_of (map (job_of inside) (drop (i + 1) os))) (flat_map flow_of (jobs_of inside)) l.wires.same_sound (flows_split (jobs_of inside) (map (job_of inside) (take i os)) (job_of inside o) (map (job_of inside) (drop (i + 1) os)) (map_split (job_of inside) os i o (owner.Client 0) lt is)) l.made
          (Ok c.in_ok-stop.stop) (λ went. c.in_default.not-Went (ok_same c.in_ok-stop.stop stops.Went (Ok c.in_ok-stop.stop) refl went)) c.in_ok-stop.ensures.over;
      downs = λ d attached h k. let first = l.given d attached h k in downs_next (sound c.args.wires.now) (sound c.loop-owner.wires) (made c.args.wires.now) (made c.loop-owner.wires) (flat_map flow_of (map (job_of inside) (take i os))) (flow_of (job_of inside o)) (flat_map flow_of (map (job_of inside) (drop (i + 1) os))) (flat_map flow_of (jobs_of inside)) l.wires.same_sound (flows_split (jobs_of inside) (map (job_of inside) (take i os)) (job_of inside o) (map (job_of inside) (drop (i + 1) os)) (map_split (job_of inside) os i o (owner.Client 0) lt is)) l.made d attached h first.0 c.loop-owner.self c.job.new.self first.1 (l.downs d attached h k) (c.job.ensures.downs d attached (first.0 ++ h) first.1);
    }

pub loop-owner-preserved : goal.loop-owner-preserved
loop-owner-preserved g c =
    let inside = c.args.inside.now in
    let os = owners_of inside in
    let i = c.loop-owner.owner-index in
    let l = c.loop-owner.invariant in
    let same = c.as_slice-owner-items.ensures ∙ c.in_ok-owners.ensures in
    let o = get_or c.as_slice-owner-items.result.now i (owner.Client 0) in
    let lt : i < length os = subst (λ (xs : List Owner). i < length xs) same c.loop-owner-test.true in
    let is : o ≡ get_or os i (owner.Client 0) = ap (λ (xs : List Owner). get_or xs i (owner.Client 0)) same in
    let made = g.W.Wires.made in
    let sound = g.W.Wires.sound in
    let k = l.kept in
    let then = subst (λ (x : Stop). JobEnds (job_of inside o) k.0 k.1 k.2 c.job.new.self (Ok x)) c.in-Went.is (c.in_ok-stop.ensures.ends k.0 k.1 k.2 k.3) in
    record {
      kept = (k.0, k.1, then.0 ++ k.2, then.1);
      lines = lines_can k.0 k.1 k.2 (then.0 ++ k.2) c.loop-owner.self c.job.new.self inside k.3 then.1 l.lines;
      can = still_owners k.0 k.1 k.2 (then.0 ++ k.2) c.loop-owner.self c.job.new.self os k.3 then.1 l.can;
      given = λ d attached h r.
          let first = l.given d attached h r in
          let on = goes_on d attached h c.job.new.self first.0 (map (job_of inside) (take i os)) (job_of inside o) first.2 c.in_ok-stop.stop c.in-Went.is (c.in_ok-stop.ensures.ends d attached (first.0 ++ h) first.1) in
          (on.0, on.1, subst (λ (js : List Job). AreOfJobs JobGives js (reverse on.0)) (sym (map_more (job_of inside) os i o (owner.Client 0) lt is)) on.2);
      carried = λ d attached h r.
          let first = l.carried d attached h r in
          let carried = g.W.Wires.carried in
          let on = phase_more d attached h first.0 c.job.new.self (map (job_of inside) (take i os)) (job_of inside o) (carried c.args.wires.now) (carried c.loop-owner.wires) (carried c.job.new.wires) first.2
          (subst (λ (x : Stop). JobAdds (job_of inside o) (carried c.loop-owner.wires) (carried c.job.new.wires) d attached (first.0 ++ h) c.job.new.self (Ok x)) c.in-Went.is (c.in_ok-stop.ensures.carried d attached (first.0 ++ h) first.1)) in
          (on.0, on.1, subst (λ (js : List Job). JobsCarry js (reverse on.0) (carried c.args.wires.now) (carried c.job.new.wires)) (sym (map_more (job_of inside) os i o (owner.Client 0) lt is)) on.2);
      downs = λ d attached h k. let first = l.given d attached h k in downs_next (sound c.args.wires.now) (sound c.loop-owner.wires) (made c.args.wires.now) (made c.loop-owner.wires) (flat_map flow_of (map (job_of inside) (take i os))) (flow_of (job_of inside o)) [] (flat_map flow_of (map (job_of inside) (take (i + 1) os))) l.wires.same_sound (flows_split (map (job_of inside) (take (i + 1) os)) (map (job_of inside) (take i os)) (job_of inside o) [] (map_more (job_of inside) os i o (owner.Client 0) lt is)) l.made d attached h first.0 c.loop-owner.self c.job.new.self first.1 (l.downs d attached h k) (c.job.ensures.downs d attached (first.0 ++ h) first.1);
      made = made_next made sound c.args.wires.now c.loop-owner.wires c.job.new.wires (flat_map flow_of (map (job_of inside) (take i os))) (flow_of (job_of inside o)) [] (flat_map flow_of (map (job_of inside) (take (i + 1) os))) l.wires.same_sound (flows_split (map (job_of inside) (take (i + 1) os)) (map (job_of inside) (take i os)) (job_of inside o) [] (map_more (job_of inside) os i o (owner.Client 0) lt is)) l.made refl (c.in_ok-stop.ensures.over.each_made (ap (λ (x : Stop). Ok x) c.in-Went.is));
      wires = wires_more g.W.Wires.faults g.W.Wires.made g.W.Wires.out g.W.Wires.sound i c.args.wires.now c.loop-owner.wires c.job.new.wires l.wires c.in_ok-stop.ensures.wires;
    }

pub returns-clause-steps : goal.returns-clause-steps
returns-clause-steps g c d attached h k =
    let past = subst (λ (os : List Owner). length os ≤ c.loop-owner.owner-index) (c.as_slice-owner-items.ensures ∙ c.in_ok-owners.ensures) c.loop-owner-test.false in
    ends_whole d attached h c.loop-owner.self (jobs_of c.args.inside.now)
    (subst (λ (os : List Owner). (new : List NodeEntry) × IsRunning d attached (new ++ h) c.loop-owner.self × AreOfJobs JobGives (map (job_of c.args.inside.now) os) (reverse new))
    (take_all c.loop-owner.owner-index (owners_of c.args.inside.now) past) (c.loop-owner.invariant.given d attached h k))

pub returns-in_err-owners-clause-carried : goal.returns-in_err-owners-clause-carried
returns-in_err-owners-clause-carried g c d attached h k =
    phase_none d attached h c.args.self.now (jobs_of c.args.inside.now) (g.W.Wires.carried c.args.wires.now) (g.W.Wires.carried c.args.wires.now) _ c.from_residual.result c.from_residual.ensures.1

pub returns-in_err-stop-clause-carried : goal.returns-in_err-stop-clause-carried
returns-in_err-stop-clause-carried g c d attached h k =
    phase_none d attached h c.job.new.self (jobs_of c.args.inside.now) (g.W.Wires.carried c.args.wires.now) (g.W.Wires.carried c.job.new.wires) _ c.from_residual-in_err-stop.result c.from_residual-in_err-stop.ensures.1

pub returns-clause-carried : goal.returns-clause-carried
returns-clause-carried g c d attached h k =
    let past = subst (λ (os : List Owner). length os ≤ c.loop-owner.owner-index) (c.as_slice-owner-items.ensures ∙ c.in_ok-owners.ensures) c.loop-owner-test.false in
    subst (λ (os : List Owner). (new : List NodeEntry) × IsRunning d attached (new ++ h) c.loop-owner.self × JobsCarry (map (job_of c.args.inside.now) os) (reverse new) (g.W.Wires.carried c.args.wires.now) (g.W.Wires.carried c.loop-owner.wires))
    (take_all c.loop-owner.owner-index (owners_of c.args.inside.now) past) (c.loop-owner.invariant.carried d attached h k)

pub returns-in_err-owners-clause-over : goal.returns-in_err-owners-clause-over
returns-in_err-owners-clause-over g c =
    let p = err_from_is_err_and c.from_residual.result c.from_residual.ensures.1 in
    refused_over g.W.Wires.made g.W.Wires.sound (flat_map flow_of (jobs_of c.args.inside.now)) c.args.wires.now c.args.wires.now p.0 c.from_residual.result p.1

pub returns-in_err-owners-clause-downs : goal.returns-in_err-owners-clause-downs
returns-in_err-owners-clause-downs g c d attached h k =
    sound_adds (λ x. IsUnsoundFor (g.W.Wires.sound c.args.wires.now) (g.W.Wires.made c.args.wires.now) (flat_map flow_of (jobs_of c.args.inside.now)) x) d h c.args.self.now (nothing_added d attached h c.args.self.now k)

pub returns-in_err-stop-clause-over : goal.returns-in_err-stop-clause-over
returns-in_err-stop-clause-over g c =
    let p = err_from_is_err_and c.from_residual-in_err-stop.result c.from_residual-in_err-stop.ensures.1 in
    refused_over g.W.Wires.made g.W.Wires.sound (flat_map flow_of (jobs_of c.args.inside.now)) c.args.wires.now c.job.new.wires p.0 c.from_residual-in_err-stop.result p.1

pub returns-in_err-stop-clause-downs : goal.returns-in_err-stop-clause-downs
returns-in_err-stop-clause-downs g c d attached h k =
    let inside = c.args.inside.now in
    let os = owners_of inside in
    let i = c.loop-owner.owner-index in
    let l = c.loop-owner.invariant in
    let same = c.as_slice-owner-items.ensures ∙ c.in_ok-owners.ensures in
    let o = get_or c.as_slice-owner-items.result.now i (owner.Client 0) in
    let lt : i < length os = subst (λ (xs : List Owner). i < length xs) same c.loop-owner-test.true in
    let is : o ≡ get_or os i (owner.Client 0) = ap (λ (xs : List Owner). get_or xs i (owner.Client 0)) same in
    let made = g.W.Wires.made in
    let sound = g.W.Wires.sound in
    let first = l.given d attached h k in
    downs_next (sound c.args.wires.now) (sound c.loop-owner.wires) (made c.args.wires.now) (made c.loop-owner.wires) (flat_map flow_of (map (job_of inside) (take i os))) (flow_of (job_of inside o)) (flat_map flow_of (map (job_of inside) (drop (i + 1) os))) (flat_map flow_of (jobs_of inside)) l.wires.same_sound (flows_split (jobs_of inside) (map (job_of inside) (take i os)) (job_of inside o) (map (job_of inside) (drop (i + 1) os)) (map_split (job_of inside) os i o (owner.Client 0) lt is)) l.made d attached h first.0 c.loop-owner.self c.job.new.self first.1 (l.downs d attached h k) (c.job.ensures.downs d attached (first.0 ++ h) first.1)

pub returns-clause-over : goal.returns-clause-over
returns-clause-over g c =
    let past = subst (λ (os : List Owner). length os ≤ c.loop-owner.owner-index) (c.as_slice-owner-items.ensures ∙ c.in_ok-owners.ensures) c.loop-owner-test.false in
    record {
      each_made = λ went. subst (λ (os : List Owner). g.W.Wires.made c.loop-owner.wires ≡ g.W.Wires.made c.args.wires.now + length (flat_map flow_of (map (job_of c.args.inside.now) os))) (take_all c.loop-owner.owner-index (owners_of c.args.inside.now) past) c.loop-owner.invariant.made;
      lie = tt;
    }

pub returns-clause-downs : goal.returns-clause-downs
returns-clause-downs g c d attached h k =
    let past = subst (λ (os : List Owner). length os ≤ c.loop-owner.owner-index) (c.as_slice-owner-items.ensures ∙ c.in_ok-owners.ensures) c.loop-owner-test.false in
    subst (λ (os : List Owner). AddsDownsOf (λ x. IsUnsoundFor (g.W.Wires.sound c.args.wires.now) (g.W.Wires.made c.args.wires.now) (flat_map flow_of (map (job_of c.args.inside.now) os)) x) d h c.loop-owner.self)
    (take_all c.loop-owner.owner-index (owners_of c.args.inside.now) past) (c.loop-owner.invariant.downs d attached h k)
