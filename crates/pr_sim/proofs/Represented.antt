-- An engine that runs is one that represents a history.
use Rattle.std.proofs.Common.{ℕ, List}
use Rattle.std.specs.Prelude.{Bool}
use Rattle.pr_story.specs.Counts.{Declared}
use Rattle.pr_story.specs.History.{NodeEntry}
use Rattle.pr_sim.specs.Holding.{CanGoOn, RepresentsIn}
use Rattle.pr_sim.specs.Running.{IsRunning}
use Rattle.pr_sim.specs.declared.engine.Engine.{Engine}
use Rattle.pr_sim.proofs.Step.{is_node_of, within_of}

module _ (d : Declared) (attached : ℕ → Bool) (h : List NodeEntry) (e : Engine) where
  pub represents : IsRunning d attached h e → RepresentsIn e d h × CanGoOn attached e
  represents k =
      let s = k.stands in (
        record {
          valid = s.valid;
          speaks = k.speaks;
          grammar = s.grammar;
          places = s.places_are;
          nodes = λ n lt. let m = s.nodes.each n lt in (m.0, m.1, record { number_is = m.2.id; sets_are = m.2.sets; journal_is = m.2.journal_is });
          sessions = s.sessions;
          many_nodes = k.nodes;
          many_streams = k.streams;
          many_clients = k.clients;
          records_are = record { clients = s.clients; routes = s.routes; sent = s.sent; scans = s.scans; many = s.many; many_sent = s.many_sent; many_scans = s.many_scans };
        },
        record {
          few = s.nodes.few;
          works = λ n m is. (is_node_of d.plan h e.nodes.items n m s.nodes (within_of e.nodes.items n m is) is).works;
          attached_are = k.attached_are;
        },
      )

  pub runs : RepresentsIn e d h × CanGoOn attached e → IsRunning d attached h e
  runs (r, o) = record {
    stands = record {
      valid = r.valid;
      grammar = r.grammar;
      places_are = r.places;
      nodes = record {
        few = o.few;
        each = λ n lt. let m = r.nodes n lt in (m.0, m.1, record { id = m.2.number_is; sets = m.2.sets_are; journal_is = m.2.journal_is; works = o.works n m.0 m.1 });
      };
      sessions = r.sessions;
      clients = r.records_are.clients;
      routes = r.records_are.routes;
      sent = r.records_are.sent;
      scans = r.records_are.scans;
      many = r.records_are.many;
      many_sent = r.records_are.many_sent;
      many_scans = r.records_are.many_scans;
    };
    speaks = r.speaks;
    nodes = r.many_nodes;
    clients = r.many_clients;
    streams = r.many_streams;
    attached_are = o.attached_are;
  }
