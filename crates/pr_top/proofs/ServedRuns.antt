-- A node serves what is behind a script.
use Rattle.std.proofs.Common.{◌≡◌, ◌⊎◌, ℕ, ◌≤◌, List, [], Option, Result, Ok, Err, inl, inr, subst, sym, refl}
use Rattle.std.specs.Io.KnownBytes.{Appends}
use Rattle.pr_node.specs.Stored.{NodeMeaning, Stored, means}
use Rattle.pr_script.specs.declared.script.Script.{Script}
use Rattle.pr_serve.specs.Serving.{BreaksBy, HasServed as Served, Server, ServesSo}
use Rattle.pr_serve.specs.Sinks.{Sink}
use Rattle.pr_serve.specs.declared.ask.Ask.{Ask}
use Rattle.pr_serve.specs.declared.serve_fault.ServeFault.{ServeFault}
use Rattle.pr_serve.specs.declared.serve_fault.ServeFault.TheVariants as faults
use Rattle.pr_story.specs.History.{NodeEntry}
use Rattle.pr_story.specs.Scripts.{JobAfterJob}
use Rattle.pr_text.specs.Histories.{HasBegun, IsHistoryOf}
use Rattle.pr_text.specs.Numbers.{counts_of}
use Rattle.pr_text.specs.Transcripts.{plan_of}
use Rattle.pr_top.specs.Downs.{flows_in}
use Rattle.pr_flow.proofs.Downs.{none_unsound}
use Rattle.pr_top.specs.Runs.{all_sound}
use Rattle.pr_top.specs.Served.{HasLeft, HasServed, IsStop, Serves, node_after, server_at, status_of, stop_of}
use Rattle.pr_top.specs.Progress.{IsHalt}
use Rattle.pr_top.specs.declared.status.Status.{Status}
use Rattle.pr_top.specs.declared.stepping.Halt.{Halt}
use Rattle.pr_top.specs.declared.stepping.Halt.TheVariants as halts
use Rattle.pr_top.proofs.Promised.{headline}
use Rattle.pr_top.proofs.Written.{appends_none, risen_then}

-- ---- the source's faults, counted from before

served_from : (left : Option (List ℕ)) (out : Sink) (node : NodeMeaning) (x y : ℕ) (c : Server) (qs : List Ask) (rest : List ℕ) → x ≤ y → Served (server_at left y out node) c qs rest → Served (server_at left x out node) c qs rest
served_from left out node x y c qs rest le k = record {
  asks = k.asks;
  read = k.read;
  text = k.text;
  outputs = k.outputs;
  wrote = k.wrote;
  same_id = k.same_id;
  same_sets = k.same_sets;
}

module _ (left : Option (List ℕ)) (out : Sink) (node : NodeMeaning) (x y : ℕ) (le : x ≤ y) (b : Server) where
  breaks_from : (fault : ServeFault) → BreaksBy (server_at left y out node) b fault → BreaksBy (server_at left x out node) b fault
  breaks_from fault (qs, q, more, c, k, is, same, broken) = (qs, q, more, c, served_from left out node x y c _ _ le k, is, same, broken)

  pub serves_from : (r : Result ℕ ServeFault) → ServesSo (server_at left y out node) b r → ServesSo (server_at left x out node) b r
  serves_from (Ok count) (qs, k, is, few, end) = (qs, served_from left out node x y b qs [] le k, is, few, end)
  serves_from (Err (faults.BadBytes at)) (qs, rest, k, place, below, some, why) = (qs, rest, served_from left out node x y b qs rest le k, place, below, some, why)
  serves_from (Err faults.ReadFault) (risen, (qs, rest, k, none)) = (risen_then x y b.faults le risen, (qs, rest, served_from left out node x y b qs rest le k, none))
  serves_from (Err faults.WriteFault) broken = breaks_from faults.WriteFault broken
  serves_from (Err faults.TooLarge) (qs, rest, more, k, full, some, under, none) = (qs, rest, more, served_from left out node x y b qs _ le k, full, some, under, none)
  serves_from (Err (faults.Worn at)) broken = breaks_from (faults.Worn at) broken
  serves_from (Err faults.NoMemory) (inl broken) = inl (breaks_from faults.NoMemory broken)
  serves_from (Err faults.NoMemory) (inr (qs, rest, k)) = inr (qs, rest, served_from left out node x y b qs rest le k)

abbrev Ends : Status → Script → List NodeEntry → ℕ → Option (List ℕ) → ℕ → Sink → Option (List ℕ) → ℕ → Sink → Type 0
Ends result s h n left from out left_now now out_now =
    (IsHistoryOf JobAfterJob s h × Serves result (node_after (plan_of s.decls.list) h n) left from out left_now now out_now)
    ⊎ (HasBegun JobAfterJob s h × IsStop result h × Appends out.text out_now.text [])

ends_from : (result : Status) (s : Script) (h : List NodeEntry) (n : ℕ) (left : Option (List ℕ)) (x y : ℕ) (out : Sink) (left_now : Option (List ℕ)) (now : ℕ) (out_now : Sink) → x ≤ y
    → Ends result s h n left y out left_now now out_now → Ends result s h n left x out left_now now out_now
ends_from result s h n left x y out left_now now out_now le (inl (whole, serves)) = inl (
  whole,
  record {
    then = serves.then;
    end = serves.end;
    serves = serves_from left out (node_after (plan_of s.decls.list) h n) x y le (server_at left_now now out_now serves.then) serves.end serves.serves;
    status = serves.status;
  },
)
ends_from result s h n left x y out left_now now out_now le (inr stopped) = inr stopped

pub has_served_from : (result : Status) (s : Script) (n : ℕ) (left : Option (List ℕ)) (x y : ℕ) (out : Sink) (left_now : Option (List ℕ)) (now : ℕ) (out_now : Sink) → x ≤ y
    → HasServed result s n left y out left_now now out_now → HasServed result s n left x out left_now now out_now
has_served_from result s n left x y out left_now now out_now le k = record {
  h = k.h;
  headline = k.headline;
  ends = ends_from result s k.h n left x y out left_now now out_now le k.ends;
}

-- ---- the call

pub asks_served : (s : Script) (n : ℕ) (left : Option (List ℕ)) (from : ℕ) (out : Sink) (left_now : Option (List ℕ)) (now : ℕ) (out_now : Sink) (m : Stored) (then : NodeMeaning) (end : Result ℕ ServeFault) (result : Status)
    → HasLeft s n (Ok m) → ServesSo (server_at left from out (means m)) (server_at left_now now out_now then) end → result ≡ status_of end → HasServed result s n left from out left_now now out_now
asks_served s n left from out left_now now out_now m then end result (h, is, whole, same) serves ended = record {
  h = h;
  headline = headline (plan_of s.decls.list) (counts_of s.decls.list) h is;
  ends = inl (
    whole,
    record {
      then = then;
      end = end;
      serves = subst (λ (x : NodeMeaning). ServesSo (server_at left from out x) (server_at left_now now out_now then) end) same serves;
      status = ended;
    },
  );
}

pub asks_stopped : (s : Script) (n : ℕ) (left : Option (List ℕ)) (from : ℕ) (out : Sink) (left_now : Option (List ℕ)) (now : ℕ) (halt : Halt) (result : Status) → HasLeft s n (Err halt) → result ≡ stop_of halt → HasServed result s n left from out left_now now out
asks_stopped s n left from out left_now now halt result (h, is, begun, cause) ended = record {
  h = h;
  headline = headline (plan_of s.decls.list) (counts_of s.decls.list) h is;
  ends = inr (begun, subst (λ (r : Status). IsStop r h) (sym ended) (by halt cause), appends_none out.text);
}
  where
    by : (x : Halt) → IsHalt JobAfterJob all_sound s h x → IsStop (stop_of x) h
    by (halts.Worn at) cause = (cause.0, cause.1)
    by (halts.Lied stream number sent got) cause = absurd (none_unsound all_sound (λ i. refl) 0 (flows_in s.commands) stream cause.0)
    by halts.NoMemory cause = tt
    by halts.WriteFault cause = absurd cause
