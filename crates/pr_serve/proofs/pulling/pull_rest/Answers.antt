use Rattle.std.proofs.Common.{◌≡◌, ℕ, subst, arith}
use Rattle.pr_serve.specs.Faults.{fault_at}
use Rattle.pr_node.specs.Stored.{means}
use Rattle.pr_serve.specs.declared.framing.Part.{Part}
use Rattle.pr_serve.specs.Frames.{HasFound}
use Rattle.pr_serve.specs.Inputs.{input}
use Rattle.pr_serve.proofs.FrameParts.{is_stop}
use Rattle.pr_serve.proofs.PullEnds.{few, one_ended, one_more, refused, stopped, takes_some}
use Rattle.pr_serve.proofs.pulling.pull_rest.Goals as goal

pub loop-msg-preserved-in-Ok-EndByte : goal.loop-msg-preserved-in-Ok-EndByte
loop-msg-preserved-in-Ok-EndByte g c =
    let left = g.S.Source.left in
    let faults = g.S.Source.faults in
    let l = c.loop-msg in
    let n = c.next_part.new in
    let x = input (left l.source) (faults l.source) l.window in
    let y = input (left n.source) (faults n.source) n.window in
    let taken = subst (λ (p : Part). HasFound c.args.nodes c.args.streams.now x y p) c.in-Ok-EndByte.field-0-is c.in-Ok-EndByte.ensures.so in
    record {
      sofar = one_ended c.args.nodes c.args.streams.now c.args.ahead.now (left c.args.source.now) (left l.source) (faults c.args.source.now) (faults l.source) l.window (means c.args.node.now) (means l.node) l.count l.invariant.sofar y taken;
      most = c.in-Ok-EndByte.ensures.most;
    }

pub returns-in-Err-clause-so : goal.returns-in-Err-clause-so
returns-in-Err-clause-so g c =
    let left = g.S.Source.left in
    let faults = g.S.Source.faults in
    let l = c.loop-msg in
    let n = c.next_part.new in
    let why = c.in-Err.ensures.so in
    stopped c.args.nodes c.args.streams.now c.args.ahead.now (left c.args.source.now) (left l.source) (faults c.args.source.now) (faults l.source) l.window (means c.args.node.now) (means l.node) l.count l.invariant.sofar
    (left n.source) (faults n.source) n.window why.0 c.in-Err.stop c.fault_of.result (subst (λ (at : ℕ). c.fault_of.result ≡ fault_at c.in-Err.stop at) c.taken-at.ensures.value c.fault_of.ensures) why.1 c.in-Err.ensures.most why.2

pub returns-in_err-take_in-clause-so : goal.returns-in_err-take_in-clause-so
returns-in_err-take_in-clause-so g c =
    let left = g.S.Source.left in
    let faults = g.S.Source.faults in
    let l = c.loop-msg in
    let n = c.next_part.new in
    let x = input (left l.source) (faults l.source) l.window in
    let y = input (left n.source) (faults n.source) n.window in
    let found = subst (λ (p : Part). HasFound c.args.nodes c.args.streams.now x y p) c.in-Ok-Message.field-0-is c.in-Ok-Message.ensures.so in
    let fault = c.in_err-take_in.field-0.0 in
    refused c.args.nodes c.args.streams.now c.args.ahead.now (left c.args.source.now) (left l.source) (faults c.args.source.now) (faults l.source) l.window (means c.args.node.now) (means l.node) l.count l.invariant.sofar
    (left n.source) (faults n.source) n.window (means c.take_in.new.node) found.0 c.in-Ok-Message.msg fault c.from_residual.result (is_stop c.from_residual.result _ fault c.from_residual.ensures (λ e p. p)) found.1 found.2 found.3 c.in_err-take_in.ensures

pub overflow_add-count : goal.overflow_add-count
overflow_add-count g c =
    let left = g.S.Source.left in
    let faults = g.S.Source.faults in
    let l = c.loop-msg in
    omega (arith, few c.args.nodes c.args.streams.now c.args.ahead.now (left c.args.source.now) (left l.source) (faults c.args.source.now) (faults l.source) l.window (means c.args.node.now) (means l.node) l.count l.invariant.sofar l.invariant.most)

pub loop-msg-smaller : goal.loop-msg-smaller
loop-msg-smaller g c =
    let left = g.S.Source.left in
    let faults = g.S.Source.faults in
    let l = c.loop-msg in
    let n = c.next_part.new in
    let x = input (left l.source) (faults l.source) l.window in
    let y = input (left n.source) (faults n.source) n.window in
    let found = subst (λ (p : Part). HasFound c.args.nodes c.args.streams.now x y p) c.in-Ok-Message.field-0-is c.in-Ok-Message.ensures.so in
    omega (arith, c.in-Ok-Message.ensures.most, l.invariant.most, takes_some x y found.0 c.in-Ok-Message.msg found.3)

pub loop-msg-preserved : goal.loop-msg-preserved
loop-msg-preserved g c =
    let left = g.S.Source.left in
    let faults = g.S.Source.faults in
    let l = c.loop-msg in
    let n = c.next_part.new in
    let x = input (left l.source) (faults l.source) l.window in
    let y = input (left n.source) (faults n.source) n.window in
    let found = subst (λ (p : Part). HasFound c.args.nodes c.args.streams.now x y p) c.in-Ok-Message.field-0-is c.in-Ok-Message.ensures.so in
    record {
      sofar = one_more c.args.nodes c.args.streams.now c.args.ahead.now (left c.args.source.now) (left l.source) (faults c.args.source.now) (faults l.source) l.window (means c.args.node.now) (means l.node) l.count l.invariant.sofar y (means c.take_in.new.node) found.0 c.in-Ok-Message.msg found.1 found.2 found.3 c.in_ok-take_in.ensures;
      most = c.in-Ok-Message.ensures.most;
    }
