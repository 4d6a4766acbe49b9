-- How a pull goes on, and how it ends.
use Rattle.std.proofs.Common.{◌≡◌, ◌<◌, ◌≤◌, ◌+◌, max, ℕ, List, [], ◌∷◌, ◌++◌, length, Option, Result, Ok, Err, refl, sym, ap, subst, ◌∙◌, append_assoc, arith, inl, inr}
use Rattle.std.specs.Io.KnownBytes.{Consumes, prepend_known}
use Rattle.std.proofs.lemmas.List.{append-nil, length-append}
use Rattle.pr_inval.specs.declared.msg.Msg.{Msg}
use Rattle.pr_node.specs.Stored.{NodeMeaning}
use Rattle.pr_story.specs.Lawful.{last_time}
use Rattle.pr_wire.specs.declared.format.Format.{Format}
use Rattle.pr_wire.specs.Spelling.{spelling}
use Rattle.pr_wire.proofs.FrameLemmas.{length-spelling}
use Rattle.pr_serve.specs.declared.serve_fault.ServeFault.{ServeFault}
use Rattle.pr_serve.specs.declared.serve_fault.ServeFault.TheVariants as faults
use Rattle.pr_serve.specs.declared.stop.Stop.{Stop}
use Rattle.pr_serve.specs.declared.stop.Stop.TheVariants as stops
use Rattle.pr_serve.specs.Faults.{fault_at}
use Rattle.pr_serve.specs.Frames.{IsFrameUnderWay, IsFramed, IsPart, IsWanted}
use Rattle.pr_serve.specs.Inputs.{Held, Input, IsOver, NoneBegins, NoneStands, Stops, Takes, input}
use Rattle.pr_serve.specs.Pulling.{AreWanted, EndByte, Frame, HasPulled, Pull, Pulled, PulledAll, PullsSo, TakesOne, TookIn, messages, pulled_text}
use Rattle.pr_serve.proofs.Taking.{read_so_far, risen_then, takes_then}
use Rattle.pr_serve.proofs.TakenIn.{few_messages, messages_ended, messages_more, text_ended, text_more, took_more, took_same, wanted_ended, wanted_more}

-- these were read ahead, and none was taken
abbrev pub read_ahead : List ℕ → Held
read_ahead first = record { bytes = first; taken = 0 }

-- so much was pulled until now
pub record Sofar (nodes : ℕ) (streams : List ℕ) (x y : Input) (a b : NodeMeaning) (count : ℕ) : Type 0 where
  pub parts : List Pulled
  pub wanted : AreWanted nodes streams parts
  pub taken : Takes x y (pulled_text parts)
  pub node : TookIn a b (messages parts)
  pub is_count : count ≡ length (messages parts)

module _ (nodes : ℕ) (streams first : List ℕ) (left left_now : Option (List ℕ)) (fault fault_now : ℕ) (held : Held) (a b : NodeMeaning) (count : ℕ) where
  abbrev at_start : Input
  at_start = input left fault (read_ahead first)

  abbrev here : Input
  here = input left_now fault_now held

  module _ (sofar : Sofar nodes streams at_start here a b count) where
    -- ---- one part more

    pub one_more : (y : Input) (c : NodeMeaning) (f : Format) (m : Msg) → IsFramed f m → IsWanted nodes streams m → Takes here y (spelling f m) → TakesOne b c m (Ok tt) → Sofar nodes streams at_start y a c (count + 1)
    one_more y c f m framed wanted taken one = record {
      parts = sofar.parts ++ Frame f m ∷ [];
      wanted = wanted_more nodes streams sofar.parts f m sofar.wanted framed wanted;
      taken = subst (λ (t : List ℕ). Takes at_start y t) (sym (text_more sofar.parts f m)) (takes_then at_start here y (pulled_text sofar.parts) (spelling f m) sofar.taken taken);
      node = subst (λ (ms : List Msg). TookIn a c ms) (sym (messages_more sofar.parts f m)) (took_more a b c (messages sofar.parts) m sofar.node one);
      is_count = ap (λ (n : ℕ). n + 1) sofar.is_count ∙ sym (length-append (messages sofar.parts) (m ∷ [])) ∙ ap (λ (ms : List Msg). length ms) (sym (messages_more sofar.parts f m));
    }

    pub one_ended : (y : Input) → Takes here y (0 ∷ []) → Sofar nodes streams at_start y a b count
    one_ended y taken = record {
      parts = sofar.parts ++ EndByte ∷ [];
      wanted = wanted_ended nodes streams sofar.parts sofar.wanted;
      taken = subst (λ (t : List ℕ). Takes at_start y t) (sym (text_ended sofar.parts)) (takes_then at_start here y (pulled_text sofar.parts) (0 ∷ []) sofar.taken taken);
      node = subst (λ (ms : List Msg). TookIn a b ms) (sym (messages_ended sofar.parts)) sofar.node;
      is_count = sofar.is_count ∙ ap (λ (ms : List Msg). length ms) (sym (messages_ended sofar.parts));
    }

    pub few : (most : held.taken ≤ 67108864) → count ≤ 67108864
    few most = omega (arith, most, sofar.is_count, sofar.taken.count, few_messages nodes streams sofar.parts)

    -- ---- the end

    module _ (left_end : Option (List ℕ)) (fault_end : ℕ) (held_end : Held) where
      abbrev at_end : Input
      at_end = input left_end fault_end held_end

      -- what was read, where these bytes were taken last
      read_with : (bytes : List ℕ) → Takes here at_end bytes → Consumes (prepend_known first left) left_end (pulled_text sofar.parts ++ (bytes ++ held_end.bytes))
      read_with bytes taken =
          subst (λ (t : List ℕ). Consumes (prepend_known first left) left_end t) (append_assoc (pulled_text sofar.parts) bytes held_end.bytes)
          (read_so_far (prepend_known first left) left_end held_end.bytes (pulled_text sofar.parts ++ bytes) (takes_then at_start here at_end (pulled_text sofar.parts) bytes sofar.taken taken).ahead)

      abbrev pull_of : Option (List ℕ) → ℕ → NodeMeaning → Pull
      pull_of l f node = record { left = l; faults = f; node = node }

      pulled : (bytes : List ℕ) (c : NodeMeaning) → Takes here at_end bytes → c.journal ≡ b.journal → c.id ≡ b.id → c.sets ≡ b.sets → HasPulled nodes streams (pull_of (prepend_known first left) fault a) (pull_of left_end fault_end c) sofar.parts (bytes ++ held_end.bytes)
      pulled bytes c taken journal id sets = record {
        wanted = sofar.wanted;
        read = read_with bytes taken;
        node = took_same a b c (messages sofar.parts) sofar.node journal id sets;
      }

      pub pulled_all : Takes here at_end [] → IsOver at_end → held_end.taken ≤ 67108864 → PulledAll nodes streams (pull_of (prepend_known first left) fault a) (pull_of left_end fault_end b) count
      pulled_all taken over most = (
        sofar.parts,
        subst (λ (t : List ℕ). HasPulled nodes streams (pull_of (prepend_known first left) fault a) (pull_of left_end fault_end b) sofar.parts t) over.held (pulled [] b taken refl refl refl),
        sofar.is_count,
        omega (arith, most, taken.count, sofar.taken.count),
        over.left,
      )

      begins_with : (bytes : List ℕ) → NoneBegins (IsPart nodes streams) bytes → NoneBegins (IsPart nodes streams) (bytes ++ held_end.bytes)
      begins_with bytes none text x y is e = none text x (held_end.bytes ++ y) is (e ∙ append_assoc bytes held_end.bytes y)

      just : (bytes : List ℕ) → held_end.bytes ≡ [] → bytes ≡ bytes ++ held_end.bytes
      just bytes none = sym (append-nil bytes) ∙ ap (λ (t : List ℕ). bytes ++ t) (sym none)

      stopped_at : (bytes : List ℕ) (stop : Stop) → Takes here at_end bytes → held_end.taken ≤ 67108864 → Stops (IsPart nodes streams) IsFrameUnderWay here at_end bytes stop → PullsSo nodes streams (pull_of (prepend_known first left) fault a) (pull_of left_end fault_end b) (Err (fault_at stop held.taken))
      stopped_at bytes stops.Bad taken most (some, inl none) =
          (sofar.parts, bytes ++ held_end.bytes, pulled bytes b taken refl refl refl, sofar.taken.count ∙ omega arith, omega (arith, some, most, taken.count), omega (arith, some, length-append bytes held_end.bytes), inl (begins_with bytes none))
      stopped_at bytes stops.Bad taken most (some, inr over) =
          (sofar.parts, bytes ++ held_end.bytes, pulled bytes b taken refl refl refl, sofar.taken.count ∙ omega arith, omega (arith, some, most, taken.count), omega (arith, some, length-append bytes held_end.bytes), inr (subst (λ (t : List ℕ). NoneStands (IsPart nodes streams) t) (just bytes over.1.held) over.0, over.1.left))
      stopped_at bytes stops.Failed taken most (none, failed) =
          (risen_then fault fault_now fault_end sofar.taken.rises failed.rises, (sofar.parts, bytes ++ held_end.bytes, pulled bytes b taken refl refl refl, subst (λ (t : List ℕ). NoneStands (IsPart nodes streams) t) (just bytes failed.held) none))
      stopped_at bytes stops.TooLarge taken most (under, none, full) =
          (sofar.parts, bytes, held_end.bytes, pulled bytes b taken refl refl refl, omega (arith, full.taken, taken.count, sofar.taken.count), full.held, under, none)
      stopped_at bytes stops.NoMemory taken most why = (sofar.parts, bytes ++ held_end.bytes, pulled bytes b taken refl refl refl)

      pub stopped : (bytes : List ℕ) (stop : Stop) (answer : ServeFault) → answer ≡ fault_at stop held.taken → Takes here at_end bytes → held_end.taken ≤ 67108864 → Stops (IsPart nodes streams) IsFrameUnderWay here at_end bytes stop → PullsSo nodes streams (pull_of (prepend_known first left) fault a) (pull_of left_end fault_end b) (Err answer)
      stopped bytes stop answer is taken most why = subst (λ (x : ServeFault). PullsSo nodes streams (pull_of (prepend_known first left) fault a) (pull_of left_end fault_end b) (Err x)) (sym is) (stopped_at bytes stop taken most why)

      refused_so : (c : NodeMeaning) (f : Format) (m : Msg) (answer : ServeFault) → IsFramed f m → IsWanted nodes streams m → Takes here at_end (spelling f m) → TakesOne b c m (Err answer) → PullsSo nodes streams (pull_of (prepend_known first left) fault a) (pull_of left_end fault_end c) (Err answer)
      refused_so c f m (faults.Worn at) framed wanted taken (is, same, worn) =
          let same_journal = ap (λ (x : NodeMeaning). x.journal) same in
          (is, (sofar.parts, f, m, held_end.bytes, framed, wanted, pulled (spelling f m) c taken same_journal (ap (λ (x : NodeMeaning). x.id) same) (ap (λ (x : NodeMeaning). x.sets) same), ap (λ j. max (last_time j) m.time) same_journal ∙ worn))
      refused_so c f m faults.NoMemory framed wanted taken (journal, id, sets) = (sofar.parts, spelling f m ++ held_end.bytes, pulled (spelling f m) c taken journal id sets)
      refused_so c f m (faults.BadBytes at) framed wanted taken one = absurd one
      refused_so c f m faults.ReadFault framed wanted taken one = absurd one
      refused_so c f m faults.WriteFault framed wanted taken one = absurd one
      refused_so c f m faults.TooLarge framed wanted taken one = absurd one

      pub refused : (c : NodeMeaning) (f : Format) (m : Msg) (fault_was : ServeFault) (answer : Result ℕ ServeFault) → answer ≡ Err fault_was → IsFramed f m → IsWanted nodes streams m → Takes here at_end (spelling f m) → TakesOne b c m (Err fault_was) → PullsSo nodes streams (pull_of (prepend_known first left) fault a) (pull_of left_end fault_end c) answer
      refused c f m fault_was answer is framed wanted taken one = subst (λ (x : Result ℕ ServeFault). PullsSo nodes streams (pull_of (prepend_known first left) fault a) (pull_of left_end fault_end c) x) (sym is) (refused_so c f m fault_was framed wanted taken one)

-- a frame has bytes
pub takes_some : (x y : Input) (f : Format) (m : Msg) → Takes x y (spelling f m) → x.held.taken < y.held.taken
takes_some x y f m taken = omega (arith, taken.count, length-spelling f m)
