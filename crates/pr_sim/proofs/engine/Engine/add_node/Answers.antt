use Rattle.std.proofs.Common.{◌≡◌, ℕ, List, [], refl, sym, ◌∙◌, ap, subst}
use Rattle.std.specs.Prelude.{false, Some}
use Rattle.pr_names.specs.Span.{Span}
use Rattle.pr_node.specs.Stored.{means}
use Rattle.pr_sets.specs.Sets.{AreApart}
use Rattle.pr_script.specs.declared.decl.Decl.TheVariants as decls
use Rattle.pr_script.specs.declared.kind.Kind.TheVariants as kinds
use Rattle.pr_sim.specs.Making.{HasLookedAtNothing, HasSeenNothing, HasSentNothing, IsHome, IsNew, IsNewNode, IsRoute}
use Rattle.pr_sim.proofs.Makings.{each_same, each_then}
use Rattle.pr_sim.proofs.engine.Engine.add_node.Goals as goal

pub new-requires-clause-apart : goal.new-requires-clause-apart
new-requires-clause-apart c = subst (λ (sets : List (List Span)). AreApart sets) (sym c.in_ok-sets.ensures) c.requires.apart

pub returns : goal.returns
returns c ds label k =
    let d = decls.Node label c.args.sets.now in
    let is : means c.in_ok-node.node ≡ record { id = c.len.result; sets = c.args.sets.now; journal = []; spent = false } =
    c.in_ok-node.ensures ∙ ap (λ (sets : List (List Span)). record { id = c.len.result; sets = sets; journal = []; spent = false }) c.in_ok-sets.ensures in
    record {
      nodes = each_then IsNewNode kinds.Node ds d c.args.self.now.nodes.items _ (Some c.in_ok-node.node) refl c.in_ok-push.ensures.items k.nodes
          (c.in_ok-node.node, refl, subst (λ (i : ℕ). means c.in_ok-node.node ≡ record { id = i; sets = c.args.sets.now; journal = []; spent = false }) (c.len.ensures ∙ c.args.self.now.nodes.ok.0) is);
      homes = each_same IsHome kinds.Client ds d _ refl k.homes;
      seen = each_same HasSeenNothing kinds.Client ds d _ refl k.seen;
      sessions = each_same IsNew kinds.Stream ds d _ refl k.sessions;
      routes = each_same IsRoute kinds.Stream ds d _ refl k.routes;
      sent = each_same HasSentNothing kinds.Stream ds d _ refl k.sent;
      scans = each_same HasLookedAtNothing kinds.Stream ds d _ refl k.scans;
      history = k.history;
    }
