use Rattle.std.proofs.Common.{◌-◌, None, Some, ap, cond, length, not, get_or, reverse, ◌∙◌}
use Rattle.pr_sim.specs.Making.{declared_of}
use Rattle.pr_sim.proofs.Story.{running_tells}
use Rattle.pr_story.specs.declared.entry.Entry.{Entry}
use Rattle.pr_text.specs.Histories.{first_of, is_met}
use Rattle.pr_top.specs.Runs.{all_sound}
use Rattle.pr_top.proofs.Steps.{behind_read, expect_steps, last_within, newest_at}
use Rattle.pr_top.proofs.stepping.Run.judge.Goals as goal

pub overflow_sub-last : goal.overflow_sub-last
overflow_sub-last c =
    let o = c.requires.0 in
    let k = c.requires.1 in
    let tells = running_tells (declared_of k.0.decls.list) k.2.attached k.1 c.args.self.now.engine k.2.running in
    (last_within o all_sound k.0 c.args.line c.args.want.now c.args.behind.now k.1 c.args.self.now.engine c.args.self.now.unmet k.2 c.history.result.now (c.history.ensures (declared_of k.0.decls.list) k.1 tells)).0

pub entry-requires : goal.entry-requires
entry-requires c =
    let o = c.requires.0 in
    let k = c.requires.1 in
    let tells = running_tells (declared_of k.0.decls.list) k.2.attached k.1 c.args.self.now.engine k.2.running in
    (declared_of k.0.decls.list, k.1, tells, (last_within o all_sound k.0 c.args.line c.args.want.now c.args.behind.now k.1 c.args.self.now.engine c.args.self.now.unmet k.2 c.history.result.now (c.history.ensures (declared_of k.0.decls.list) k.1 tells)).1)

pub returns : goal.returns
returns c = λ o s h k.
    let tells = running_tells (declared_of s.decls.list) k.attached h c.args.self.now.engine k.running in
    let within = last_within o all_sound s c.args.line c.args.want.now c.args.behind.now h c.args.self.now.engine c.args.self.now.unmet k c.history.result.now (c.history.ensures (declared_of s.decls.list) h tells) in
    let read = behind_read o all_sound s c.args.line c.args.want.now c.args.behind.now h c.args.self.now.engine c.args.self.now.unmet k in
    let last = length c.history.result.now - 1 in
    expect_steps o all_sound s c.args.line c.args.want.now c.args.behind.now h c.args.self.now.engine c.args.self.now.unmet k (get_or (reverse h) last read.entry) c.judged-unmet.result
    (newest_at read.entry h read.before read.entry last read.newest within.2)
    (c.judged-unmet.ensures ∙ ap (λ (y : Entry). first_of c.args.self.now.unmet (cond (not (is_met c.args.want.now y.event)) (Some c.args.line) None)) (c.entry.ensures (declared_of s.decls.list) h read.entry tells within.1))
