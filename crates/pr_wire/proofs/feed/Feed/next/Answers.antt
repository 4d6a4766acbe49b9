use Rattle.std.proofs.Common.{◌-◌, List, ℕ, take, drop, length, refl, subst}
use Rattle.pr_wire.specs.Frames.{IsBad}
use Rattle.pr_wire.specs.Reading.{message_at}
use Rattle.pr_wire.proofs.FeedLemmas.{given_from, is_rest}
use Rattle.pr_wire.proofs.FrameLemmas.{a_message, no_message}
use Rattle.pr_wire.proofs.Loops.{bad_fails}
use Rattle.pr_wire.proofs.feed.Feed.next.Goals as goal

pub returns-in-Ok-clause-answer : goal.returns-in-Ok-clause-answer
returns-in-Ok-clause-answer c =
    let items = c.deref.result.now in
    let rest : List ℕ = take (length items - c.self.inside.start) (drop c.self.inside.start items) in
    let is = is_rest c.self.inside.start items c.self.inside.bytes.items c.deref.ensures.value in
    let spelled = a_message c.self.inside.limit rest c.in-Whole.format c.in-Whole.len c.in-Ok.msg c.known_bytes.ensures c.in-Whole.ensures c.in-Ok.ensures in
    rw (← c.self.view_is) (c.in-Whole.format, given_from c.self.inside.limit c.self.inside.start c.self.inside.given c.in-Whole.len c.saturating_add-self-inside.result c.self.inside.bytes.items rest c.in-Whole.format c.in-Ok.msg is spelled c.saturating_add-self-inside.ensures)

pub returns-in-Err-Bad-clause-answer : goal.returns-in-Err-Bad-clause-answer
returns-in-Err-Bad-clause-answer c =
    let items = c.deref.result.now in
    let rest : List ℕ = take (length items - c.self.inside.start) (drop c.self.inside.start items) in
    let is = is_rest c.self.inside.start items c.self.inside.bytes.items c.deref.ensures.value in
    let none = no_message c.self.inside.limit rest c.in-Whole.format c.in-Whole.len c.in-Whole.ensures (bad_fails c.in-Err-Bad.field-0 (message_at c.in-Whole.format (take (c.in-Whole.len - 9) (drop 9 rest))) c.in-Err-Bad.field-0-is c.in-Err-Bad.ensures) in
    rw (← c.self.view_is) (refl, refl, subst (λ (t : List ℕ). IsBad c.self.inside.limit t) is none)
