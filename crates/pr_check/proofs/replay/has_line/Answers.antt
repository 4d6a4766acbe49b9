use Rattle.std.proofs.Common.{◌∷◌, ◌∙◌, ◌<◌, ◌-◌, length, ap, arith}
use Rattle.pr_sim.specs.Making.{declared_of}
use Rattle.pr_story.specs.declared.entry.Entry.{Entry}
use Rattle.pr_story.specs.History.{NodeEntry}
use Rattle.pr_check.proofs.Compared.{last_is, many, one_sentence}
use Rattle.pr_check.proofs.replay.has_line.Goals as goal

pub overflow_sub-at : goal.overflow_sub-at
overflow_sub-at c = let m = many c.requires.0 c.requires.1 c.history.result.now (c.history.ensures (declared_of c.args.decls.now.list) (c.requires.1 ∷ c.requires.0) c.requires.2) in omega arith

pub node_of-requires : goal.node_of-requires
node_of-requires c = (
  declared_of c.args.decls.now.list,
  c.requires.1 ∷ c.requires.0,
  c.requires.2,
  let m = many c.requires.0 c.requires.1 c.history.result.now (c.history.ensures (declared_of c.args.decls.now.list) (c.requires.1 ∷ c.requires.0) c.requires.2) in omega arith,
)

pub entry-requires : goal.entry-requires
entry-requires c = (
  declared_of c.args.decls.now.list,
  c.requires.1 ∷ c.requires.0,
  c.requires.2,
  let m = many c.requires.0 c.requires.1 c.history.result.now (c.history.ensures (declared_of c.args.decls.now.list) (c.requires.1 ∷ c.requires.0) c.requires.2) in omega arith,
)

pub returns : goal.returns
returns c h e t =
    let d = declared_of c.args.decls.now.list in
    let lt : length c.history.result.now - 1 < length (e ∷ h) = let m = many h e c.history.result.now (c.history.ensures d (e ∷ h) t) in omega arith in
    let is = last_is h e c.history.result.now (c.history.ensures d (e ∷ h) t) e in
    one_sentence c.args.decls.now.list c.node_of.result e.node c.entry.result.now.event e.entry.event c.args.line.now c.is_printed.result
    (c.node_of.ensures d (e ∷ h) e t lt ∙ ap (λ (x : NodeEntry). x.node) is) (ap (λ (x : Entry). x.event) (c.entry.ensures d (e ∷ h) e t lt ∙ ap (λ (x : NodeEntry). x.entry) is)) c.is_printed.ensures
