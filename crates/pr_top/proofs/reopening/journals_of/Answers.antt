use Rattle.std.proofs.Common.{◌<◌, ◌∙◌, ◌∷◌, ◌++◌, [], List, ap, arith, length, length-set, rules, subst, sym, ℕ}
use Rattle.std.specs.List.{AllByRecursion}
use Rattle.std.proofs.lemmas.Iterator.Adapters.{YieldsList-from_vec}
use Rattle.std.proofs.lemmas.Iterator.Consumers.{YieldsList-end, YieldsList-turn}
use Rattle.std.proofs.lemmas.List.{map-id}
use Rattle.pr_sim.proofs.JobsInOrder.{all_at}
use Rattle.pr_stamps.specs.Kept.{Kept}
use Rattle.pr_story.specs.declared.entry.Entry.{Entry}
use Rattle.pr_top.proofs.Journals.{all_taken, one_taken}
use Rattle.pr_top.proofs.reopening.journals_of.Goals as goal

pub index_mut-requires : goal.index_mut-requires
index_mut-requires c =
    let all = c.into_vec-node-items.result.items in
    let x : ℕ × Entry = (c.in-Some.node, c.in-Some.entry) in
    let turn = YieldsList-turn (YieldsList-from_vec {s = c.into_iter-node-iterator.result} all (search rules) (search rules))
    c.loop-node.yielded c.loop-node.node-iterator c.loop-node.yielded_by c.next.result c.next.new.self x c.in-Some.is c.next.ensures.steps in
    let declared = subst (λ (ps : List (ℕ × Entry)). AllByRecursion (λ (p : ℕ × Entry). p.0 < c.args.nodes) ps) (sym c.into_vec-node-items.ensures) c.requires in
    let here = all_at (λ (p : ℕ × Entry). p.0 < c.args.nodes) all (length c.loop-node.yielded) x declared turn.0 in
    let known : c.in-Some.node < c.args.nodes = subst (λ (p : ℕ × Entry). p.0 < c.args.nodes) (sym turn.1) here in
    omega (arith, known, c.loop-node.invariant.many, c.loop-node.journals.ok.0)

pub loop-node-preserved : goal.loop-node-preserved
loop-node-preserved c =
    let journals = c.loop-node.journals.items in
    let all = c.into_vec-node-items.result.items in
    let x : ℕ × Entry = (c.in-Some.node, c.in-Some.entry) in
    let turn = YieldsList-turn (YieldsList-from_vec {s = c.into_iter-node-iterator.result} all (search rules) (search rules))
    c.loop-node.yielded c.loop-node.node-iterator c.loop-node.yielded_by c.next.result c.next.new.self x c.in-Some.is c.next.ensures.steps in
    let declared = subst (λ (ps : List (ℕ × Entry)). AllByRecursion (λ (p : ℕ × Entry). p.0 < c.args.nodes) ps) (sym c.into_vec-node-items.ensures) c.requires in
    let here = all_at (λ (p : ℕ × Entry). p.0 < c.args.nodes) all (length c.loop-node.yielded) x declared turn.0 in
    let known : c.in-Some.node < c.args.nodes = subst (λ (p : ℕ × Entry). p.0 < c.args.nodes) (sym turn.1) here in
    let lt : c.in-Some.node < length journals = omega (arith, known, c.loop-node.invariant.many) in
    record {
      can_next = tt;
      is_finite = tt;
      many = length-set journals c.in-Some.node c.add.new.journal ∙ c.loop-node.invariant.many;
      taken = one_taken journals c.loop-node.yielded c.in-Some.node c.in-Some.entry c.add.new.journal c.index_mut.result.now c.loop-node.invariant.taken lt
          (c.in_ok-add.ensures ∙ ap (λ (j : Kept Entry). j.items ++ c.in-Some.entry ∷ []) c.index_mut.ensures.value);
    }

pub returns-clause-each : goal.returns-clause-each
returns-clause-each c = λ h is n d lt.
    let all = c.into_vec-node-items.result.items in
    let end = YieldsList-end (YieldsList-from_vec {s = c.into_iter-node-iterator.result} all (search rules) (search rules))
    c.loop-node.yielded c.loop-node.node-iterator c.loop-node.yielded_by c.next.result c.next.new.self c.in-None.is c.next.ensures.steps in
    all_taken c.loop-node.journals.items h c.loop-node.yielded c.loop-node.invariant.taken (sym (map-id c.loop-node.yielded) ∙ end.0 ∙ c.into_vec-node-items.ensures ∙ is) n d lt
