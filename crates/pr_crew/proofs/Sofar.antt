-- A client's job, line by line.
use Rattle.std.proofs.Common.{◌≡◌, ℕ, ◌<◌, ◌≤◌, ◌+◌, List, [], ◌∷◌, ◌++◌, Result, Ok, Err, refl, sym, ap, ◌∙◌, subst, cond, length, get_or, drop, append_assoc, append-nil}
use Rattle.std.specs.Prelude.{Bool, true, false, IsTrue, nat_eq, reverse}
use Rattle.std.specs.List.{flat_map}
use Rattle.std.proofs.lemmas.List.{drop_all, drop_more, reverse-append}
use Rattle.std.proofs.lemmas.List.Elements.{All-push}
use Rattle.std.proofs.lemmas.Bool.Decides.{Decides-eqb}
use Rattle.pr_inval.specs.declared.node_fault.NodeFault.{NodeFault}
use Rattle.pr_inval.specs.declared.node_fault.NodeFault.TheVariants.{NoMemory, Worn}
use Rattle.pr_inval.specs.Standing.{Standing}
use Rattle.pr_node.specs.Calls.{IsWriteWorn}
use Rattle.pr_node.specs.Stored.{NodeMeaning}
use Rattle.pr_node.proofs.OfClients.{IsOfClient, done_is, seen_is_of}
use Rattle.pr_script.specs.declared.command.Command.{Command as Said}
use Rattle.pr_script.specs.declared.command.Command.TheVariants as commands
use Rattle.pr_script.specs.declared.owner.Owner.TheVariants as owner
use Rattle.pr_script.specs.Steps.{Numbered, owner_of}
use Rattle.pr_story.specs.declared.entry.Entry.{Entry}
use Rattle.pr_story.specs.Clients.{client_node, client_vector, is_of_client, seen_after}
use Rattle.pr_story.specs.Commands.{Command, ToRead, ToWrite}
use Rattle.pr_story.specs.History.{NodeEntry, Plan}
use Rattle.pr_story.specs.Merging.{IsJobRun, New, plain}
use Rattle.pr_story.specs.Scripts.{AreOfCommands, JobGives}
use Rattle.pr_story.specs.Turns.{is_of_stream, is_with_session}
use Rattle.pr_story.proofs.Begun.{nothing_begins}
use Rattle.pr_story.proofs.Merging.{session_of}
use Rattle.pr_text.specs.Steps.{is_owned_by, job_of, line_of, lines_by, single_of}
use Rattle.pr_crew.specs.Asking.{IsLineOf}
use Rattle.pr_crew.specs.Clients.{CallsLine, EndsLine, EndsLines, IsSofar, LeadsTo}
use Rattle.pr_crew.specs.Jobs.{ClientDone, ClientFailed, IsWornAt}
use Rattle.pr_crew.specs.Making.{HasFailed, HasMade, IsFaultFor, Makes, NodePass, node_with}
use Rattle.pr_crew.specs.Acting.{nowhere}
use Rattle.pr_crew.proofs.MadeMore.{made_more, made_still}
use Rattle.pr_crew.proofs.Plain.{plain_append}

-- ---- one line

-- what a line of the client is: its command, and the event
record OfLine (client n : ℕ) (c : Said) (needs after : List ℕ) (e : Entry) : Type 0 where
  command : Command
  single : single_of (line_of c) ≡ command ∷ []
  is : IsOfClient client command n e.event
  seen : after ≡ seen_after e.event client needs

same_client : (own client : ℕ) → nat_eq own client ≡ true → client ≡ own
same_client own client is = sym ((Decides-eqb own client).0 is)

of_line : (client n : ℕ) (c : Said) (needs after : List ℕ) (e : Entry) → is_owned_by (owner.Client client) (owner_of c) ≡ true → IsLineOf client c needs after e → OfLine client n c needs after e
of_line client n (commands.Write own name body) needs after e mine (done, is, seen) = record {
  command = ToWrite client name body false;
  single = ap (λ (j : ℕ). ToWrite j name body false ∷ []) (sym (same_client own client mine));
  is = done_is client name body false n done e is;
  seen = seen;
}
of_line client n (commands.Delete own name) needs after e mine (done, is, seen) = record {
  command = ToWrite client name [] true;
  single = ap (λ (j : ℕ). ToWrite j name [] true ∷ []) (sym (same_client own client mine));
  is = done_is client name [] true n done e is;
  seen = seen;
}
of_line client n (commands.Read own name) needs after e mine (read, is, seen) = record {
  command = ToRead client name;
  single = ap (λ (j : ℕ). ToRead j name ∷ []) (sym (same_client own client mine));
  is = seen_is_of client name n read e is;
  seen = seen;
}
of_line client n c needs after e mine is = absurd is

-- ---- one entry more

pub news : (xs : List New) (x : New) → plain (reverse (xs ++ x ∷ [])) ≡ x.made ∷ plain (reverse xs)
news xs x = ap plain (reverse-append xs (x ∷ []))

module _ (plan : Plan) (h : List NodeEntry) (n client k : ℕ) (p q : NodePass) (seen after : List ℕ) (xs : List New) (P : Entry → Type 0) (s : IsSofar plan h n client k p seen xs)
    (f : HasMade plan h n nowhere (λ c. seen) P p q) (command : Command) (is : IsOfClient client command n f.entry.event) (then : after ≡ seen_after f.entry.event client seen) (few : n < 32) where
  abbrev next : New
  next = record { job = k; session = nowhere 0; needs = seen; made = record { node = n; entry = f.entry } }

  no_session : (t : ℕ) → IsTrue (is_with_session f.entry.event t) → ⊥
  no_session t on =
      let yes : is_of_stream f.entry.event t ≡ true = session_of f.entry.event t on in
      let not : is_of_stream f.entry.event t ≡ false = is.no_stream t in
      absurd (cc)

  run_more : IsJobRun plan h (next ∷ reverse xs)
  run_more = (
    (
      few,
      is.placed plan (plain (reverse xs) ++ h) s.at,
      is.cause (plain (reverse xs) ++ h),
      (λ t on. absurd (no_session t on)),
      (λ c on. s.needs ∙ ap (λ (j : ℕ). client_vector (plain (reverse xs) ++ h) j) (is.needs_of c on)),
    ),
    s.run.run,
  )

  sofar_more : IsSofar plan h n client k q after (xs ++ next ∷ [])
  sofar_more = record {
    run = record {
      job = All-push (λ x. x.job ≡ k) xs next s.run.job refl;
      run = subst (λ (ys : List New). IsJobRun plan h ys) (sym (reverse-append xs (next ∷ []))) run_more;
    };
    made = made_more plan h n p q xs next P f refl s.made;
    of_client = All-push (λ x. IsTrue (is_of_client x.made.entry.event client)) xs next s.of_client is.own;
    at = s.at ∙ sym (is.stays client (client_node plan (plain (reverse xs) ++ h) client)) ∙ ap (λ (es : List NodeEntry). client_node plan (es ++ h) client) (sym (news xs next));
    needs = then ∙ ap (λ (v : List ℕ). seen_after f.entry.event client v) s.needs ∙ ap (λ (es : List NodeEntry). client_vector (es ++ h) client) (sym (news xs next));
  }

sofar_still : (plan : Plan) (h : List NodeEntry) (n client k : ℕ) (Cause : NodeMeaning → Type 0) (fault : NodeFault) (p q : NodePass) (seen : List ℕ) (xs : List New) → HasFailed plan h n Cause fault p q
    → IsSofar plan h n client k p seen xs → IsSofar plan h n client k q seen xs
sofar_still plan h n client k Cause fault p q seen xs f s = record {
  run = s.run;
  made = made_still plan h n Cause fault p q xs f s.made;
  of_client = s.of_client;
  at = s.at;
  needs = s.needs;
}

failed_for : (plan : Plan) (h : List NodeEntry) (n : ℕ) (Cause : NodeMeaning → Type 0) (fault : NodeFault) (p q : NodePass) → HasFailed plan h n Cause fault p q → IsFaultFor (IsWornAt plan h n Cause q) fault
failed_for plan h n Cause NoMemory p q f = tt
failed_for plan h n Cause (Worn at) p q f = (f.cause.0, (f.before ++ f.others, f.now, f.cause.1))

-- ---- a line's end

leads_one : (client n : ℕ) (line : Numbered) (x : New) (command : Command) → is_owned_by (owner.Client client) (owner_of line.1) ≡ true → single_of (line_of line.1) ≡ command ∷ []
    → IsOfClient client command n x.made.entry.event → x.made.node ≡ n → (rest : List Numbered) → LeadsTo client (line ∷ rest) rest (x ∷ [])
leads_one client n line x command mine single is at rest es gives =
    let later = flat_map (λ (c : Numbered). single_of (line_of c.1)) (lines_by (owner.Client client) rest) in
    subst (λ (b : Bool). AreOfCommands (flat_map (λ (c : Numbered). single_of (line_of c.1)) (cond b (line ∷ lines_by (owner.Client client) rest) (lines_by (owner.Client client) rest))) (x.made ∷ es)) (sym mine)
    (subst (λ (cs : List Command). AreOfCommands (cs ++ later) (x.made ∷ es)) (sym single)
    (subst (λ (m : ℕ). Rattle.pr_story.specs.Commands.Gives command m x.made.entry.event) (sym at) is.gives, gives))

-- the line was called
pub called_line : (plan : Plan) (h : List NodeEntry) (n client k : ℕ) (line : Numbered) (p q : NodePass) (seen after : List ℕ) (xs : List New) → n < 32 → is_owned_by (owner.Client client) (owner_of line.1) ≡ true
    → IsSofar plan h n client k p seen xs → CallsLine plan h n nowhere client line.1 seen p q (Ok after) → EndsLine plan h n client k line xs q after (Ok tt)
called_line plan h n client k line p q seen after xs few mine s f =
    let o = of_line client n line.1 seen after f.entry mine f.is in
    let x = next plan h n client k p q seen after xs (IsLineOf client line.1 seen after) s f o.command o.is o.seen few in (
      x ∷ [],
      sofar_more plan h n client k p q seen after xs (IsLineOf client line.1 seen after) s f o.command o.is o.seen few,
      leads_one client n line x o.command mine o.single o.is refl,
    )

-- the line was refused
pub refused_line : (plan : Plan) (h : List NodeEntry) (n client k : ℕ) (line : Numbered) (p q : NodePass) (seen : List ℕ) (xs : List New) (fault : NodeFault)
    → IsSofar plan h n client k p seen xs → CallsLine plan h n nowhere client line.1 seen p q (Err fault) → EndsLine plan h n client k line xs q seen (Err fault)
refused_line plan h n client k line p q seen xs fault s f =
    (sofar_still plan h n client k (λ a. IsWriteWorn a seen) fault p q seen xs f s, failed_for plan h n (λ a. IsWriteWorn a seen) fault p q f)

-- it is not the client's
pub other_line : (plan : Plan) (h : List NodeEntry) (n client k : ℕ) (line : Numbered) (p : NodePass) (seen : List ℕ) (xs : List New) → is_owned_by (owner.Client client) (owner_of line.1) ≡ false
    → IsSofar plan h n client k p seen xs → EndsLine plan h n client k line xs p seen (Ok tt)
other_line plan h n client k line p seen xs other s = (
  [],
  subst (λ (ys : List New). IsSofar plan h n client k p seen ys) (sym (append-nil xs)) s,
  λ rest es gives. subst (λ (b : Bool). AreOfCommands (flat_map (λ (c : Numbered). single_of (line_of c.1)) (cond b (line ∷ lines_by (owner.Client client) rest) (lines_by (owner.Client client) rest))) es) (sym other) gives,
)

-- ---- all lines

drop_one : (lines : List Numbered) (i : ℕ) (line : Numbered) → i < length lines → line ≡ get_or lines i line → drop i lines ≡ line ∷ drop (i + 1) lines
drop_one lines i line lt is = drop_more lines i line lt ∙ ap (λ (x : Numbered). x ∷ drop (i + 1) lines) (sym is)

pub lines_more : (plan : Plan) (h : List NodeEntry) (n client k : ℕ) (lines : List Numbered) (i : ℕ) (line : Numbered) (q : NodePass) (seen : List ℕ) (xs : List New) → i < length lines → line ≡ get_or lines i line
    → LeadsTo client lines (drop i lines) xs → EndsLine plan h n client k line xs q seen (Ok tt) → EndsLines plan h n client k lines (i + 1) q seen
lines_more plan h n client k lines i line q seen xs lt is leads (new, sofar, one) = (
  xs ++ new,
  sofar,
  λ es gives. subst (λ (all : List NodeEntry). JobGives (job_of lines (owner.Client client)) all) (sym (ap (λ (ys : List NodeEntry). ys ++ es) (plain_append xs new) ∙ append_assoc (plain xs) (plain new) es))
      (leads (plain new ++ es) (subst (λ (rest : List Numbered). JobGives (job_of rest (owner.Client client)) (plain new ++ es)) (sym (drop_one lines i line lt is)) (one (drop (i + 1) lines) es gives))),
)

pub lines_refused : (plan : Plan) (h : List NodeEntry) (n client k : ℕ) (lines : List Numbered) (i : ℕ) (line : Numbered) (q : NodePass) (seen : List ℕ) (xs : List New) (fault : NodeFault)
    → LeadsTo client lines (drop i lines) xs → EndsLine plan h n client k line xs q seen (Err fault) → ClientDone plan h n client k (job_of lines (owner.Client client)) q (Err fault) xs
lines_refused plan h n client k lines i line q seen xs fault leads (sofar, failed) =
    let rest = nothing_begins.job (job_of (drop i lines) (owner.Client client)) in
    record {
      run = sofar.run;
      made = sofar.made;
      gives = (rest.0, leads rest.0 rest.1);
      of_client = sofar.of_client;
      failed = subst (λ (v : List ℕ). ClientFailed plan h n v q (Err fault)) sofar.needs failed;
    }

pub lines_done : (plan : Plan) (h : List NodeEntry) (n client k : ℕ) (lines : List Numbered) (i : ℕ) (q : NodePass) (seen : List ℕ) → length lines ≤ i → EndsLines plan h n client k lines i q seen
    → (xs : List New) × ClientDone plan h n client k (job_of lines (owner.Client client)) q (Ok tt) xs
lines_done plan h n client k lines i q seen le (xs, sofar, leads) = (
  xs,
  record {
    run = sofar.run;
    made = sofar.made;
    gives = subst (λ (es : List NodeEntry). JobGives (job_of lines (owner.Client client)) es) (append-nil (plain xs))
        (leads [] (subst (λ (rest : List Numbered). JobGives (job_of rest (owner.Client client)) []) (sym (drop_all i lines le)) refl));
    of_client = sofar.of_client;
    failed = tt;
  },
)

pub no_lines : (plan : Plan) (h : List NodeEntry) (n client k : ℕ) (lines : List Numbered) (p : NodePass) (seen : List ℕ) → IsSofar plan h n client k p seen [] → EndsLines plan h n client k lines 0 p seen
no_lines plan h n client k lines p seen s = ([], s, λ es gives. gives)

pub cause_weaker : {X : Type 0} (plan : Plan) (h : List NodeEntry) (n : ℕ) (sessions : ℕ → Standing) (needs : ℕ → List ℕ) (P : X → Entry → Type 0) (C D : NodeMeaning → Type 0) (p q : NodePass) (r : Result X NodeFault)
    → ((a : NodeMeaning) → C a → D a) → Makes plan h n sessions needs P C p q r → Makes plan h n sessions needs P D p q r
cause_weaker plan h n sessions needs P C D p q (Ok x) more m = m
cause_weaker plan h n sessions needs P C D p q (Err fault) more f = record {
  before = f.before;
  others = f.others;
  was = f.was;
  now = f.now;
  apart = f.apart;
  same = f.same;
  cause = by fault f.cause;
}
  where
    by : (fault : NodeFault) → IsFaultFor (C (node_with plan h n (f.before ++ f.others))) fault → IsFaultFor (D (node_with plan h n (f.before ++ f.others))) fault
    by NoMemory c = tt
    by (Worn at) c = (c.0, more (node_with plan h n (f.before ++ f.others)) c.1)
