-- Messages that a node takes in, one after the other.
use Rattle.std.proofs.Common.{◌≡◌, ◌≤◌, ℕ, List, [], ◌∷◌, ◌++◌, length, reverse, Ok, false, refl, sym, ap, subst, ◌∙◌, append_assoc, arith}
use Rattle.std.proofs.lemmas.List.{append-nil, length-append, reverse-append}
use Rattle.pr_names.specs.Span.{Span}
use Rattle.pr_inval.specs.declared.msg.Msg.{Msg}
use Rattle.pr_inval.specs.declared.taken.Taken.{Taken}
use Rattle.pr_inval.specs.declared.taken.Taken.TheVariants as takens
use Rattle.pr_inval.specs.Standing.{Standing}
use Rattle.pr_node.specs.Calls.{Adds, AddsAlone, IsTaken}
use Rattle.pr_node.specs.Stored.{NodeMeaning}
use Rattle.pr_story.specs.declared.entry.Entry.{Entry}
use Rattle.pr_story.specs.declared.event.Event.{Event}
use Rattle.pr_story.specs.Lawful.{IsOwnLawful}
use Rattle.pr_wire.specs.declared.format.Format.{Format}
use Rattle.pr_wire.specs.Spelling.{spelling}
use Rattle.pr_serve.specs.Frames.{IsFramed, IsWanted}
use Rattle.pr_serve.specs.Pulling.{AreTakenBy, AreWanted, EndByte, Frame, IsTakenBy, Pulled, TakesIn, TakesOne, TookIn, after, messages, pulled_text}

-- ---- one message

first_is : (a b : Entry) (x y : List Entry) → a ∷ x ≡ b ∷ y → a ≡ b
first_is a b x y e = cc

takes_in : (m : Msg) (taken : Taken) (e : Entry) → IsTaken m taken e → TakesIn m e.event
takes_in m (takens.Accepted time) e is = subst (λ (event : Event). TakesIn m event) (sym is.0.1) refl
takes_in m (takens.Gap needs has time) e is = subst (λ (event : Event). TakesIn m event) (sym is.0) refl

abbrev pub nobody : ℕ → Standing
nobody s = record { names = []; bodies = false; position = []; number = 0; time = 0; sent = λ o t. false }

-- a call that adds one entry for a message, whoever stands and whatever is needed
pub took_one : (a b : NodeMeaning) (m : Msg) (taken : Taken) → AddsAlone a b 0 (IsTaken m taken) → TakesOne a b m (Ok tt)
took_one a b m taken adds =
    let one : Adds a b nobody (λ c. []) 0 (IsTaken m taken) = adds nobody (λ c. []) in (
      one.entry,
      record {
        lawful = λ sessions needs.
            let other : Adds a b sessions needs 0 (IsTaken m taken) = adds sessions needs in
            subst (λ (e : Entry). IsOwnLawful sessions needs a.sets a.id a.journal e) (first_is other.entry one.entry a.journal a.journal (sym other.follows ∙ one.follows)) other.lawful;
        event = takes_in m taken one.entry one.is;
        caller = one.by;
        early = one.early;
      },
      one.follows,
      one.same_id,
      one.same_sets,
    )

-- ---- one message more

pub text_more : (parts : List Pulled) (f : Format) (m : Msg) → pulled_text (parts ++ Frame f m ∷ []) ≡ pulled_text parts ++ spelling f m
text_more [] f m = append-nil (spelling f m)
text_more (Frame g n ∷ parts) f m = ap (λ (t : List ℕ). spelling g n ++ t) (text_more parts f m) ∙ sym (append_assoc (spelling g n) (pulled_text parts) (spelling f m))
text_more (EndByte ∷ parts) f m = ap (λ (t : List ℕ). 0 ∷ t) (text_more parts f m)

pub text_ended : (parts : List Pulled) → pulled_text (parts ++ EndByte ∷ []) ≡ pulled_text parts ++ 0 ∷ []
text_ended [] = refl
text_ended (Frame g n ∷ parts) = ap (λ (t : List ℕ). spelling g n ++ t) (text_ended parts) ∙ sym (append_assoc (spelling g n) (pulled_text parts) (0 ∷ []))
text_ended (EndByte ∷ parts) = ap (λ (t : List ℕ). 0 ∷ t) (text_ended parts)

pub messages_more : (parts : List Pulled) (f : Format) (m : Msg) → messages (parts ++ Frame f m ∷ []) ≡ messages parts ++ m ∷ []
messages_more [] f m = refl
messages_more (Frame g n ∷ parts) f m = ap (λ (ms : List Msg). n ∷ ms) (messages_more parts f m)
messages_more (EndByte ∷ parts) f m = messages_more parts f m

pub messages_ended : (parts : List Pulled) → messages (parts ++ EndByte ∷ []) ≡ messages parts
messages_ended [] = refl
messages_ended (Frame g n ∷ parts) = ap (λ (ms : List Msg). n ∷ ms) (messages_ended parts)
messages_ended (EndByte ∷ parts) = messages_ended parts

pub wanted_more : (nodes : ℕ) (streams : List ℕ) (parts : List Pulled) (f : Format) (m : Msg) → AreWanted nodes streams parts → IsFramed f m → IsWanted nodes streams m → AreWanted nodes streams (parts ++ Frame f m ∷ [])
wanted_more nodes streams [] f m all framed wanted = ((framed, wanted), tt)
wanted_more nodes streams (Frame g n ∷ parts) f m all framed wanted = (all.0, wanted_more nodes streams parts f m all.1 framed wanted)
wanted_more nodes streams (EndByte ∷ parts) f m all framed wanted = wanted_more nodes streams parts f m all framed wanted

pub wanted_ended : (nodes : ℕ) (streams : List ℕ) (parts : List Pulled) → AreWanted nodes streams parts → AreWanted nodes streams (parts ++ EndByte ∷ [])
wanted_ended nodes streams [] all = tt
wanted_ended nodes streams (Frame g n ∷ parts) all = (all.0, wanted_ended nodes streams parts all.1)
wanted_ended nodes streams (EndByte ∷ parts) all = wanted_ended nodes streams parts all

after_more : (es j : List Entry) (e : Entry) → after (es ++ e ∷ []) j ≡ e ∷ after es j
after_more [] j e = refl
after_more (d ∷ es) j e = after_more es (d ∷ j) e

pub after_reversed : (es j : List Entry) → reverse (after es j) ≡ reverse j ++ es
after_reversed [] j = sym (append-nil (reverse j))
after_reversed (e ∷ es) j = after_reversed es (e ∷ j) ∙ ap (λ (t : List Entry). t ++ es) (reverse-append (e ∷ []) j) ∙ append_assoc (reverse j) (e ∷ []) es

taken_more : (sets : List (List Span)) (n : ℕ) (j : List Entry) (ms : List Msg) (es : List Entry) (m : Msg) (e : Entry) → AreTakenBy sets n j ms es → IsTakenBy sets n (after es j) m e → AreTakenBy sets n j (ms ++ m ∷ []) (es ++ e ∷ [])
taken_more sets n j [] [] m e all one = (one, tt)
taken_more sets n j [] (d ∷ es) m e all one = absurd all
taken_more sets n j (x ∷ ms) [] m e all one = absurd all
taken_more sets n j (x ∷ ms) (d ∷ es) m e all one = (all.0, taken_more sets n (d ∷ j) ms es m e all.1 one)

pub took_none : (a : NodeMeaning) → TookIn a a []
took_none a = record { entries = []; taken = tt; journal = refl; same_id = refl; same_sets = refl }

pub took_more : (a b c : NodeMeaning) (ms : List Msg) (m : Msg) → TookIn a b ms → TakesOne b c m (Ok tt) → TookIn a c (ms ++ m ∷ [])
took_more a b c ms m t (e, one, follows, same_id, same_sets) =
    let by_sets : IsTakenBy a.sets b.id b.journal m e = subst (λ (sets : List (List Span)). IsTakenBy sets b.id b.journal m e) t.same_sets one in
    let by_id : IsTakenBy a.sets a.id b.journal m e = subst (λ (n : ℕ). IsTakenBy a.sets n b.journal m e) t.same_id by_sets in
    let by_journal : IsTakenBy a.sets a.id (after t.entries a.journal) m e = subst (λ (j : List Entry). IsTakenBy a.sets a.id j m e) t.journal by_id in
    record {
      entries = t.entries ++ e ∷ [];
      taken = taken_more a.sets a.id a.journal ms t.entries m e t.taken by_journal;
      journal = follows ∙ ap (λ (j : List Entry). e ∷ j) t.journal ∙ sym (after_more t.entries a.journal e);
      same_id = same_id ∙ t.same_id;
      same_sets = same_sets ∙ t.same_sets;
    }

-- a node whose journal, number and sets stay took in no more
pub took_same : (a b c : NodeMeaning) (ms : List Msg) → TookIn a b ms → c.journal ≡ b.journal → c.id ≡ b.id → c.sets ≡ b.sets → TookIn a c ms
took_same a b c ms t journal id sets = record {
  entries = t.entries;
  taken = t.taken;
  journal = journal ∙ t.journal;
  same_id = id ∙ t.same_id;
  same_sets = sets ∙ t.same_sets;
}

-- ---- how many

pub few_messages : (nodes : ℕ) (streams : List ℕ) (parts : List Pulled) → length (messages parts) ≤ length (pulled_text parts)
unfolding spelling
few_messages nodes streams [] = omega arith
few_messages nodes streams (Frame f m ∷ parts) = omega (arith, few_messages nodes streams parts, length-append (spelling f m) (pulled_text parts))
few_messages nodes streams (EndByte ∷ parts) = omega (arith, few_messages nodes streams parts)
