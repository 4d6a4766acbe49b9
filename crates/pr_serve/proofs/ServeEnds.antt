-- How a server goes on, and how it ends.
use Rattle.std.proofs.Common.{◌≡◌, ◌≤◌, ◌+◌, ℕ, List, [], ◌∷◌, ◌++◌, length, Option, Result, Err, refl, sym, ap, subst, ◌∙◌, append_assoc, arith, inl, inr}
use Rattle.std.specs.Io.KnownBytes.{Consumes, prepend_known}
use Rattle.std.proofs.lemmas.List.{append-nil, length-append}
use Rattle.pr_names.specs.Span.{Span}
use Rattle.pr_node.specs.Stored.{NodeMeaning}
use Rattle.pr_story.specs.declared.entry.Entry.{Entry}
use Rattle.pr_serve.specs.declared.ask.Ask.{Ask}
use Rattle.pr_serve.specs.declared.serve_fault.ServeFault.{ServeFault}
use Rattle.pr_serve.specs.declared.serve_fault.ServeFault.TheVariants as faults
use Rattle.pr_serve.specs.declared.stop.Stop.{Stop}
use Rattle.pr_serve.specs.declared.stop.Stop.TheVariants as stops
use Rattle.pr_serve.specs.Answers.{HasAnswered, HasBroken}
use Rattle.pr_serve.specs.Asking.{IsAskText, IsAskUnderWay}
use Rattle.pr_serve.specs.Asks.{IsAsk, AreAsks, ask_text, asks_text}
use Rattle.pr_serve.specs.Faults.{fault_at}
use Rattle.pr_serve.specs.Inputs.{Held, Input, IsOver, NoneBegins, NoneStands, Stops, Takes, input}
use Rattle.pr_serve.specs.Output.{AreOutputs, IsOutput, begun}
use Rattle.pr_serve.specs.Serving.{BreaksBy, HasServed, ServedAll, Server, ServesSo}
use Rattle.pr_serve.specs.Sinks.{Sink, Wrote}
use Rattle.pr_serve.proofs.PullEnds.{read_ahead}
use Rattle.pr_serve.proofs.Taking.{read_so_far, risen_then, takes_none, takes_then}
use Rattle.pr_serve.proofs.Written.{wrote_none, wrote_then}

-- ---- one ask more

text_more : (qs : List Ask) (q : Ask) → asks_text (qs ++ q ∷ []) ≡ asks_text qs ++ ask_text q
text_more [] q = append-nil (ask_text q)
text_more (p ∷ qs) q = ap (λ (t : List ℕ). ask_text p ++ t) (text_more qs q) ∙ sym (append_assoc (ask_text p) (asks_text qs) (ask_text q))

asks_more : (qs : List Ask) (q : Ask) → AreAsks qs → IsAsk q → AreAsks (qs ++ q ∷ [])
asks_more [] q all is = (is, tt)
asks_more (p ∷ qs) q all is = (all.0, asks_more qs q all.1 is)

outputs_more : (sets : List (List Span)) (n : ℕ) (j i k : List Entry) (qs : List Ask) (q : Ask) (text more : List ℕ) → AreOutputs sets n j qs text i → IsOutput sets n i q more k → AreOutputs sets n j (qs ++ q ∷ []) (text ++ more) k
outputs_more sets n j i k [] q text more (none, same) out =
    (more, [], k, ap (λ (t : List ℕ). t ++ more) none ∙ sym (append-nil more), subst (λ (l : List Entry). IsOutput sets n l q more k) same out, (refl, refl))
outputs_more sets n j i k (p ∷ qs) q text more (front, rest, mid, is, first, others) out =
    (front, rest ++ more, mid, ap (λ (t : List ℕ). t ++ more) is ∙ append_assoc front rest more, first, outputs_more sets n mid i k qs q rest more others out)

few_asks : (qs : List Ask) → length qs ≤ length (asks_text qs)
unfolding ask_text
few_asks [] = omega arith
few_asks (q ∷ qs) = omega (arith, few_asks qs, length-append (ask_text q) (asks_text qs))

pub ask_has_bytes : (q : Ask) → 1 ≤ length (ask_text q)
unfolding ask_text
ask_has_bytes q = omega arith

-- so much was served until now
pub record Sofar (x y : Input) (a b : NodeMeaning) (u v : Sink) (count : ℕ) : Type 0 where
  pub asks : List Ask
  pub all : AreAsks asks
  pub taken : Takes x y (asks_text asks)
  pub text : List ℕ
  pub outputs : AreOutputs a.sets a.id a.journal asks text b.journal
  pub wrote : Wrote u v text
  pub same_id : b.id ≡ a.id
  pub same_sets : b.sets ≡ a.sets
  pub is_count : count ≡ length asks

pub nothing_served : (x : Input) (a : NodeMeaning) (u : Sink) → Sofar x x a a u u 0
nothing_served x a u = record { asks = []; all = tt; taken = takes_none x; text = []; outputs = (refl, refl); wrote = wrote_none u; same_id = refl; same_sets = refl; is_count = refl }

module _ (first : List ℕ) (left left_now : Option (List ℕ)) (fault fault_now : ℕ) (held : Held) (a b : NodeMeaning) (u v : Sink) (count : ℕ) where
  abbrev at_start : Input
  at_start = input left fault (read_ahead first)

  abbrev here : Input
  here = input left_now fault_now held

  module _ (sofar : Sofar at_start here a b u v count) where
    pub one_more : (y : Input) (c : NodeMeaning) (w : Sink) (q : Ask) → IsAsk q → Takes here y (ask_text q) → HasAnswered q b c v w → Sofar at_start y a c u w (count + 1)
    one_more y c w q is taken answer =
        let by_sets : IsOutput a.sets b.id b.journal q answer.text c.journal = subst (λ (k : List (List Span)). IsOutput k b.id b.journal q answer.text c.journal) sofar.same_sets answer.output in
        let by_id : IsOutput a.sets a.id b.journal q answer.text c.journal = subst (λ (k : ℕ). IsOutput a.sets k b.journal q answer.text c.journal) sofar.same_id by_sets in
        record {
          asks = sofar.asks ++ q ∷ [];
          all = asks_more sofar.asks q sofar.all is;
          taken = subst (λ (t : List ℕ). Takes at_start y t) (sym (text_more sofar.asks q)) (takes_then at_start here y (asks_text sofar.asks) (ask_text q) sofar.taken taken);
          text = sofar.text ++ answer.text;
          outputs = outputs_more a.sets a.id a.journal b.journal c.journal sofar.asks q sofar.text answer.text sofar.outputs by_id;
          wrote = wrote_then u v w sofar.text answer.text sofar.wrote answer.wrote;
          same_id = answer.same_id ∙ sofar.same_id;
          same_sets = answer.same_sets ∙ sofar.same_sets;
          is_count = ap (λ (n : ℕ). n + 1) sofar.is_count ∙ sym (length-append sofar.asks (q ∷ []));
        }

    pub few : (most : held.taken ≤ 67108864) → count ≤ 67108864
    few most = omega (arith, most, sofar.is_count, sofar.taken.count, few_asks sofar.asks)

    -- ---- the end

    module _ (left_end : Option (List ℕ)) (fault_end : ℕ) (held_end : Held) where
      abbrev at_end : Input
      at_end = input left_end fault_end held_end

      read_with : (bytes : List ℕ) → Takes here at_end bytes → Consumes (prepend_known first left) left_end (asks_text sofar.asks ++ (bytes ++ held_end.bytes))
      read_with bytes taken =
          subst (λ (t : List ℕ). Consumes (prepend_known first left) left_end t) (append_assoc (asks_text sofar.asks) bytes held_end.bytes)
          (read_so_far (prepend_known first left) left_end held_end.bytes (asks_text sofar.asks ++ bytes) (takes_then at_start here at_end (asks_text sofar.asks) bytes sofar.taken taken).ahead)

      abbrev server_of : Option (List ℕ) → ℕ → Sink → NodeMeaning → Server
      server_of l f s node = record { left = l; faults = f; sink = s; node = node }

      abbrev before : Server
      before = server_of (prepend_known first left) fault u a

      served : (bytes : List ℕ) → Takes here at_end bytes → HasServed before (server_of left_end fault_end v b) sofar.asks (bytes ++ held_end.bytes)
      served bytes taken = record {
        asks = sofar.all;
        read = read_with bytes taken;
        text = sofar.text;
        outputs = sofar.outputs;
        wrote = sofar.wrote;
        same_id = sofar.same_id;
        same_sets = sofar.same_sets;
      }

      pub served_all : Takes here at_end [] → IsOver at_end → held_end.taken ≤ 67108864 → ServedAll before (server_of left_end fault_end v b) count
      served_all taken over most = (
        sofar.asks,
        subst (λ (t : List ℕ). HasServed before (server_of left_end fault_end v b) sofar.asks t) over.held (served [] taken),
        sofar.is_count,
        omega (arith, most, taken.count, sofar.taken.count),
        over.left,
      )

      begins_with : (bytes : List ℕ) → NoneBegins IsAskText bytes → NoneBegins IsAskText (bytes ++ held_end.bytes)
      begins_with bytes none text x y is e = none text x (held_end.bytes ++ y) is (e ∙ append_assoc bytes held_end.bytes y)

      just : (bytes : List ℕ) → held_end.bytes ≡ [] → bytes ≡ bytes ++ held_end.bytes
      just bytes none = sym (append-nil bytes) ∙ ap (λ (t : List ℕ). bytes ++ t) (sym none)

      stopped_at : (bytes : List ℕ) (stop : Stop) → Takes here at_end bytes → held_end.taken ≤ 67108864 → Stops IsAskText IsAskUnderWay here at_end bytes stop → ServesSo before (server_of left_end fault_end v b) (Err (fault_at stop held.taken))
      stopped_at bytes stops.Bad taken most (some, inl none) =
          (sofar.asks, bytes ++ held_end.bytes, served bytes taken, sofar.taken.count ∙ omega arith, omega (arith, some, most, taken.count), omega (arith, some, length-append bytes held_end.bytes), inl (begins_with bytes none))
      stopped_at bytes stops.Bad taken most (some, inr over) =
          (sofar.asks, bytes ++ held_end.bytes, served bytes taken, sofar.taken.count ∙ omega arith, omega (arith, some, most, taken.count), omega (arith, some, length-append bytes held_end.bytes), inr (subst (λ (t : List ℕ). NoneStands IsAskText t) (just bytes over.1.held) over.0, over.1.left))
      stopped_at bytes stops.Failed taken most (none, failed) =
          (risen_then fault fault_now fault_end sofar.taken.rises failed.rises, (sofar.asks, bytes ++ held_end.bytes, served bytes taken, subst (λ (t : List ℕ). NoneStands IsAskText t) (just bytes failed.held) none))
      stopped_at bytes stops.TooLarge taken most (under, none, full) =
          (sofar.asks, bytes, held_end.bytes, served bytes taken, omega (arith, full.taken, taken.count, sofar.taken.count), full.held, under, none)
      stopped_at bytes stops.NoMemory taken most why = inr (sofar.asks, bytes ++ held_end.bytes, served bytes taken)

      pub stopped : (bytes : List ℕ) (stop : Stop) (answer : ServeFault) → answer ≡ fault_at stop held.taken → Takes here at_end bytes → held_end.taken ≤ 67108864 → Stops IsAskText IsAskUnderWay here at_end bytes stop → ServesSo before (server_of left_end fault_end v b) (Err answer)
      stopped bytes stop answer is taken most why = subst (λ (x : ServeFault). ServesSo before (server_of left_end fault_end v b) (Err x)) (sym is) (stopped_at bytes stop taken most why)

      breaks : (c : NodeMeaning) (w : Sink) (q : Ask) (answer : ServeFault) → IsAsk q → Takes here at_end (ask_text q) → HasBroken b c q.stream (begun b.journal q) v w answer → BreaksBy before (server_of left_end fault_end w c) answer
      breaks c w q answer is taken broken = (sofar.asks, q, held_end.bytes, server_of left_end fault_end v b, served (ask_text q) taken, is, refl, broken)

      broken_so : (c : NodeMeaning) (w : Sink) (q : Ask) (answer : ServeFault) → IsAsk q → Takes here at_end (ask_text q) → HasBroken b c q.stream (begun b.journal q) v w answer → ServesSo before (server_of left_end fault_end w c) (Err answer)
      broken_so c w q faults.WriteFault is taken broken = breaks c w q faults.WriteFault is taken broken
      broken_so c w q (faults.Worn at) is taken broken = breaks c w q (faults.Worn at) is taken broken
      broken_so c w q faults.NoMemory is taken broken = inl (breaks c w q faults.NoMemory is taken broken)
      broken_so c w q (faults.BadBytes at) is taken broken = absurd broken.ends
      broken_so c w q faults.ReadFault is taken broken = absurd broken.ends
      broken_so c w q faults.TooLarge is taken broken = absurd broken.ends

      pub broken_off : (c : NodeMeaning) (w : Sink) (q : Ask) (fault_was : ServeFault) (answer : Result ℕ ServeFault) → answer ≡ Err fault_was → IsAsk q → Takes here at_end (ask_text q) → HasBroken b c q.stream (begun b.journal q) v w fault_was → ServesSo before (server_of left_end fault_end w c) answer
      broken_off c w q fault_was answer is good taken broken = subst (λ (x : Result ℕ ServeFault). ServesSo before (server_of left_end fault_end w c) x) (sym is) (broken_so c w q fault_was good taken broken)
