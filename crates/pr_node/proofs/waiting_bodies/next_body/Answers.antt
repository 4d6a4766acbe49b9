use Rattle.std.proofs.Common.{ℕ, List, ◌∙◌, reverse, subst}
use Rattle.std.specs.Prelude.{IfSome, Option, Some}
use Rattle.pr_inval.specs.declared.kind.Kind.{Kind}
use Rattle.pr_inval.specs.Standing.{means}
use Rattle.pr_story.specs.declared.entry.Entry.{Entry}
use Rattle.pr_story.proofs.Withholding.{if_ok}
use Rattle.pr_node.specs.Scanning.{HasPassed}
use Rattle.pr_node.specs.Sending.{IsNextBodyOf}
use Rattle.pr_node.specs.Ties.{IsTied}
use Rattle.pr_node.proofs.Scanning.{none_waiting, passed_whole, scan_at}
use Rattle.pr_node.proofs.waiting_bodies.next_body.Goals as goal

pub returns-in_err-kind-clause-scan : goal.returns-in_err-kind-clause-scan
returns-in_err-kind-clause-scan c n f =
    scan_at c.waiting_body.new.scan (means c.args.session.now).standing c.args.journal.now.items (c.waiting_body.ensures.looked ∙ c.in_ok-catch_up.ensures.looked) c.waiting_body.ensures.waiting
    (c.waiting_body.ensures.passed n (reverse c.args.journal.now.items) f (passed_whole c.catch_up.new.scan (means c.args.session.now).standing c.args.journal.now.items c.in_ok-catch_up.ensures.looked c.catch_up.ensures.scan))

pub returns-in-Some-clause-next : goal.returns-in-Some-clause-next
returns-in-Some-clause-next c n f =
    subst (λ (kind : Option Kind). IfSome kind (λ k. (n : ℕ) (j : List Entry) → IsTied n j c.args.stores.now → HasPassed c.catch_up.new.scan (means c.args.session.now).standing j → IsNextBodyOf j (means c.args.session.now).standing (Some k)))
    c.in-Some.is c.in_ok-kind.ensures.next n (reverse c.args.journal.now.items) f
    (passed_whole c.catch_up.new.scan (means c.args.session.now).standing c.args.journal.now.items c.in_ok-catch_up.ensures.looked c.catch_up.ensures.scan)

pub returns-in-Some-clause-scan : goal.returns-in-Some-clause-scan
returns-in-Some-clause-scan c n f =
    scan_at c.waiting_body.new.scan (means c.args.session.now).standing c.args.journal.now.items (c.waiting_body.ensures.looked ∙ c.in_ok-catch_up.ensures.looked) c.waiting_body.ensures.waiting
    (c.waiting_body.ensures.passed n (reverse c.args.journal.now.items) f (passed_whole c.catch_up.new.scan (means c.args.session.now).standing c.args.journal.now.items c.in_ok-catch_up.ensures.looked c.catch_up.ensures.scan))

pub returns-clause-next : goal.returns-clause-next
returns-clause-next c =
    let N : Option Kind → Type 0 = λ kind. (n : ℕ) (j : List Entry) → IsTied n j c.args.stores.now → HasPassed c.waiting_body.new.scan (means c.args.session.now).standing j → IsNextBodyOf j (means c.args.session.now).standing kind in
    let K : Option Kind → Type 0 = λ kind. (n : ℕ) → IsTied n (reverse c.args.journal.now.items) c.args.stores.now → IsNextBodyOf (reverse c.args.journal.now.items) (means c.args.session.now).standing kind in
    if_ok c.body_past.result N K
    (λ kind so n f. so n (reverse c.args.journal.now.items) f
    (c.waiting_body.ensures.passed n (reverse c.args.journal.now.items) f (passed_whole c.catch_up.new.scan (means c.args.session.now).standing c.args.journal.now.items c.in_ok-catch_up.ensures.looked c.catch_up.ensures.scan)))
    c.body_past.ensures.next

pub returns-clause-scan : goal.returns-clause-scan
returns-clause-scan c n f =
    scan_at c.body_past.new.scan (means c.args.session.now).standing c.args.journal.now.items (c.body_past.ensures.looked ∙ c.waiting_body.ensures.looked ∙ c.in_ok-catch_up.ensures.looked)
    (none_waiting c.body_past.new.scan (means c.args.session.now).standing c.body_past.ensures.none)
    (c.body_past.ensures.passed n (reverse c.args.journal.now.items) f
    (c.waiting_body.ensures.passed n (reverse c.args.journal.now.items) f (passed_whole c.catch_up.new.scan (means c.args.session.now).standing c.args.journal.now.items c.in_ok-catch_up.ensures.looked c.catch_up.ensures.scan)))
