use Rattle.pr_wire.proofs.OnlyMessage.{never, same_message}
use Rattle.pr_wire.proofs.feed.Feed.only_message.Goals as goal

pub unreachable-requires : goal.unreachable-requires
unreachable-requires c = never c.messages_are_never_bad.ensures c.args.self c.next.new.self c.requires.0 c.in_ok-msg.field-0 c.requires.1 c.next.ensures.fits c.in_ok-msg.ensures.answer c.in_default.not-Message

pub returns : goal.returns
returns c m is = same_message c.no_frame_begins_another.ensures c.args.self c.next.new.self m c.in-Message.msg c.in_ok-msg.field-0 is c.in_ok-msg.ensures.answer c.in-Message.is
