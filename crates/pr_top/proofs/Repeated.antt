-- Two runs of one script, in one thread and each to its end, write one transcript.
use Rattle.std.proofs.Common.{◌≡◌, ℕ, Bool, false, not, cond, zero, suc, List, [], ◌∷◌, ◌++◌, ◌+◌, Option, Some, None, Ok, IfSome, append_assoc, map, length, take, drop, reverse, refl, sym, ◌∙◌, ap, subst}
use Rattle.std.proofs.lemmas.List.{append-nil, append_cancel_left, reverse-append, reverse-reverse}
use Rattle.std.specs.Io.KnownBytes.{Appends}
use Rattle.pr_ports.specs.Faults.{HasRisen}
use Rattle.pr_flow.specs.Sound.{AreSoundEvents}
use Rattle.pr_flow.proofs.Downs.{downs_sound, none_unsound}
use Rattle.pr_top.specs.Downs.{HasTrueDowns, IsUnsoundIn, flows_in}
use Rattle.pr_script.specs.declared.command.Command.{Command}
use Rattle.pr_script.specs.declared.command.Command.TheVariants as commands
use Rattle.pr_script.specs.declared.decl.Decl.{Decl}
use Rattle.pr_script.specs.declared.script.Script.{Script}
use Rattle.pr_script.specs.declared.want.Want.{Want}
use Rattle.pr_script.specs.Reading.{Means}
use Rattle.pr_script.specs.Steps as script
use Rattle.pr_script.specs.Steps.{Step, steps_of}
use Rattle.pr_script.proofs.OneCut.{one_meaning}
use Rattle.pr_story.specs.History.{NodeEntry, Plan}
use Rattle.pr_story.specs.Lawful.{Valid}
use Rattle.pr_story.specs.Lines.{without_callers}
use Rattle.pr_story.specs.Scripts.{JobAfterJob, Line, AreOfLines, attached_after}
use Rattle.pr_text.specs.Endings.{ok_line}
use Rattle.pr_text.specs.Heads.{heads_text}
use Rattle.pr_text.specs.Histories.{EachGives, IsRunOf, first_of, is_met_by, is_unmet, joined, streams_of, transcript_text, unmet_at, unmet_from}
use Rattle.pr_text.specs.Lines.{line_text}
use Rattle.pr_text.specs.Steps.{lines_of}
use Rattle.pr_text.specs.Transcripts.{lines_text, plan_of}
use Rattle.pr_text.proofs.Runs.{runs_give}
use Rattle.pr_check.proofs.Determined.{bare_append, bare_reverse, sound_histories_agree}
use Rattle.pr_top.specs.Answers.{IsOfRun, Ports, RunsScript}
use Rattle.pr_top.specs.Reading.{HasScript}
use Rattle.pr_top.specs.Repeating.{RunsRepeat, WritesTranscript}
use Rattle.pr_top.specs.Runs.{HasRun, IsEnd, IsToEnd, IsWritten, all_sound}
use Rattle.pr_top.specs.declared.status.Status.{Status}
use Rattle.pr_top.specs.declared.status.Status.TheVariants as status

-- ---- no line tells a caller's number

lines_bare : (ds : List Decl) (h : List NodeEntry) → lines_text ds (without_callers h) ≡ lines_text ds h
lines_bare ds [] = refl
lines_bare ds (e ∷ h) = λ i. lines_bare ds h i ++ line_text ds e.node e.entry.event

length_bare : (h : List NodeEntry) → length (without_callers h) ≡ length h
length_bare [] = refl
length_bare (e ∷ h) = ap suc (length_bare h)

one_transcript : (ds : List Decl) (h g : List NodeEntry) → without_callers h ≡ without_callers g → transcript_text ds h ≡ transcript_text ds g
one_transcript ds h g same =
    let lines : lines_text ds h ≡ lines_text ds g = sym (lines_bare ds h) ∙ ap (λ (z : List NodeEntry). lines_text ds z) same ∙ lines_bare ds g in
    let many : length h ≡ length g = sym (length_bare h) ∙ ap (λ (z : List NodeEntry). length z) same ∙ length_bare g in
    λ i. heads_text ds ++ (lines i ++ ok_line (length ds + many i))

-- ---- nor does an expectation look at one

met_bare : (want : Want) (es : List NodeEntry) → is_met_by want (without_callers es) ≡ is_met_by want es
met_bare want [] = refl
met_bare want (e ∷ []) = refl
met_bare want (e ∷ (f ∷ es)) = refl

unmet_bare : (c : Command) (es : List NodeEntry) → is_unmet c (without_callers es) ≡ is_unmet c es
unmet_bare (commands.Expect want) es = λ i. not (met_bare want es i)
unmet_bare _ es = refl

step_bare : (step : Step) (es : List NodeEntry) → unmet_at step (without_callers es) ≡ unmet_at step es
step_bare (script.Alone c) es = λ i. cond (unmet_bare c.1 es i) (Some c.0) None
step_bare (script.Phase inside) es = refl

from_bare : (es : List NodeEntry) (steps : List Step) (parts : List (List NodeEntry)) → unmet_from (without_callers es) steps (map without_callers parts) ≡ unmet_from es steps parts
from_bare es [] parts = refl
from_bare es (step ∷ steps) [] = refl
from_bare es (step ∷ steps) (part ∷ parts) = λ i. first_of (step_bare step es i) (from_bare part steps parts i)

-- ---- the first lines of a script have one history too

older_valid : (plan : Plan) (later h : List NodeEntry) → Valid plan (later ++ h) → Valid plan h
older_valid plan [] h v = v
older_valid plan (e ∷ later) h v = older_valid plan later h v.1

older_sound : (later h : List NodeEntry) → AreSoundEvents (later ++ h) → AreSoundEvents h
older_sound [] h sound = sound
older_sound (e ∷ later) h sound = older_sound later h sound.1

-- the history, newest first, of the first lines alone
abbrev first_lines : ℕ → List (List NodeEntry) → List NodeEntry
first_lines k parts = reverse (joined (take k parts))

cut_joined : (k : ℕ) (parts : List (List NodeEntry)) → joined parts ≡ joined (take k parts) ++ joined (drop k parts)
cut_joined zero parts = refl
cut_joined (suc k) [] = refl
cut_joined (suc k) (part ∷ parts) = ap (λ (z : List NodeEntry). part ++ z) (cut_joined k parts) ∙ sym (append_assoc part (joined (take k parts)) (joined (drop k parts)))

cut_history : (k : ℕ) (parts : List (List NodeEntry)) → reverse (joined parts) ≡ reverse (joined (drop k parts)) ++ first_lines k parts
cut_history k parts = ap (λ (z : List NodeEntry). reverse z) (cut_joined k parts) ∙ reverse-append (joined (take k parts)) (joined (drop k parts))

first_give : (k : ℕ) (streams : List ℕ) (attached : ℕ → Bool) (lines : List Line) (parts : List (List NodeEntry)) → EachGives JobAfterJob streams attached lines parts
    → AreOfLines JobAfterJob streams attached (take k lines) (joined (take k parts))
first_give zero streams attached lines parts each = refl
first_give (suc k) streams attached [] [] each = refl
first_give (suc k) streams attached [] (part ∷ parts) each = absurd each
first_give (suc k) streams attached (line ∷ lines) [] each = absurd each
first_give (suc k) streams attached (line ∷ lines) (part ∷ parts) each =
    (part, joined (take k parts), refl, each.0, first_give k streams (attached_after line attached) lines parts each.1)

module _ (plan : Plan) (streams : List ℕ) (lines : List Line) where
  -- the parts are those of a whole script, and sound
  record AreParts (parts : List (List NodeEntry)) : Type 0 where
    valid : Valid plan (reverse (joined parts))
    sound : AreSoundEvents (reverse (joined parts))
    each : EachGives JobAfterJob streams (λ s. false) lines parts

  first_given : (k : ℕ) (parts : List (List NodeEntry)) → AreParts parts → AreOfLines JobAfterJob streams (λ s. false) (take k lines) (reverse (first_lines k parts))
  first_given k parts are =
      subst (λ (es : List NodeEntry). AreOfLines JobAfterJob streams (λ s. false) (take k lines) es) (sym (reverse-reverse (joined (take k parts))))
      (first_give k streams (λ s. false) lines parts are.each)

  first_valid : (k : ℕ) (parts : List (List NodeEntry)) → AreParts parts → Valid plan (first_lines k parts)
  first_valid k parts are = older_valid plan (reverse (joined (drop k parts))) (first_lines k parts) (subst (λ (z : List NodeEntry). Valid plan z) (cut_history k parts) are.valid)

  first_sound : (k : ℕ) (parts : List (List NodeEntry)) → AreParts parts → AreSoundEvents (first_lines k parts)
  first_sound k parts are = older_sound (reverse (joined (drop k parts))) (first_lines k parts) (subst (λ (z : List NodeEntry). AreSoundEvents z) (cut_history k parts) are.sound)

  first_same : (k : ℕ) (ps qs : List (List NodeEntry)) → AreParts ps → AreParts qs → without_callers (joined (take k ps)) ≡ without_callers (joined (take k qs))
  first_same k ps qs p q =
      let same : without_callers (first_lines k ps) ≡ without_callers (first_lines k qs) =
      sound_histories_agree plan streams (take k lines) (first_lines k ps) (first_lines k qs) (first_valid k ps p) (first_valid k qs q) (first_sound k ps p) (first_sound k qs q) (first_given k ps p) (first_given k qs q)
      in
      turned (joined (take k ps)) ∙ ap (λ (z : List NodeEntry). reverse z) same ∙ sym (turned (joined (take k qs)))
    where
      turned : (es : List NodeEntry) → without_callers es ≡ reverse (without_callers (reverse es))
      turned es = sym (reverse-reverse (without_callers es)) ∙ ap (λ (z : List NodeEntry). reverse z) (sym (bare_reverse es))

-- lists of parts with the same beginnings are the same
parts_same : (streams : List ℕ) (attached : ℕ → Bool) (lines : List Line) (ps qs : List (List NodeEntry)) → EachGives JobAfterJob streams attached lines ps → EachGives JobAfterJob streams attached lines qs
    → ((k : ℕ) → without_callers (joined (take k ps)) ≡ without_callers (joined (take k qs))) → map without_callers ps ≡ map without_callers qs
parts_same streams attached [] [] [] a b same = refl
parts_same streams attached [] [] (q ∷ qs) a b same = absurd b
parts_same streams attached [] (p ∷ ps) qs a b same = absurd a
parts_same streams attached (line ∷ lines) [] qs a b same = absurd a
parts_same streams attached (line ∷ lines) (p ∷ ps) [] a b same = absurd b
parts_same streams attached (line ∷ lines) (p ∷ ps) (q ∷ qs) a b same =
    let head : without_callers p ≡ without_callers q = ap (λ (z : List NodeEntry). without_callers z) (sym (append-nil p)) ∙ same 1 ∙ ap (λ (z : List NodeEntry). without_callers z) (append-nil q) in
    let tails : map without_callers ps ≡ map without_callers qs =
    parts_same streams (attached_after line attached) lines ps qs a.1 b.1 (λ k. append_cancel_left (without_callers p) (without_callers (joined (take k ps))) (without_callers (joined (take k qs)))
    (sym (bare_append p (joined (take k ps))) ∙ same (suc k) ∙ bare_append q (joined (take k qs)) ∙ ap (λ (z : List NodeEntry). z ++ without_callers (joined (take k qs))) (sym head)))
    in
    λ i. head i ∷ tails i

-- ---- two runs

module _ (s : Script) (h g : List NodeEntry) (x y : Option ℕ) (v : Valid (plan_of s.decls.list) h) (w : Valid (plan_of s.decls.list) g) (a : AreSoundEvents h) (b : AreSoundEvents g) (p : IsRunOf JobAfterJob s h x) (q : IsRunOf JobAfterJob s g y) where
  same_histories : without_callers h ≡ without_callers g
  same_histories = sound_histories_agree (plan_of s.decls.list) (streams_of s.decls.list) (lines_of s.commands) h g v w a b (runs_give JobAfterJob s h x p) (runs_give JobAfterJob s g y q)

  same_unmet : x ≡ y
  same_unmet =
      let ps : AreParts (plan_of s.decls.list) (streams_of s.decls.list) (lines_of s.commands) p.parts = record {
        valid = subst (λ (z : List NodeEntry). Valid (plan_of s.decls.list) z) p.whole v;
        sound = subst (λ (z : List NodeEntry). AreSoundEvents z) p.whole a;
        each = p.each;
      } in
      let qs : AreParts (plan_of s.decls.list) (streams_of s.decls.list) (lines_of s.commands) q.parts = record {
        valid = subst (λ (z : List NodeEntry). Valid (plan_of s.decls.list) z) q.whole w;
        sound = subst (λ (z : List NodeEntry). AreSoundEvents z) q.whole b;
        each = q.each;
      } in
      let parts : map without_callers p.parts ≡ map without_callers q.parts =
      parts_same (streams_of s.decls.list) (λ stream. false) (lines_of s.commands) p.parts q.parts p.each q.each
      (λ k. first_same (plan_of s.decls.list) (streams_of s.decls.list) (lines_of s.commands) k p.parts q.parts ps qs)
      in
      p.first
      ∙ sym (from_bare [] (steps_of s.commands) p.parts)
      ∙ ap (λ (z : List (List NodeEntry)). unmet_from [] (steps_of s.commands) z) parts
      ∙ from_bare [] (steps_of s.commands) q.parts
      ∙ sym q.first

-- the line of the expectation that was not met
abbrev unmet_of : Status → Option ℕ
unmet_of (status.Unmet line) = Some line
unmet_of result = None

run_of : (result : Status) (s : Script) (h : List NodeEntry) → IsToEnd result → IsEnd JobAfterJob all_sound result s h → IsRunOf JobAfterJob s h (unmet_of result)
run_of status.Ok s h to_end ends = ends
run_of (status.Unmet line) s h to_end ends = ends
run_of _ s h to_end ends = absurd to_end

same_status : (one other : Status) → IsToEnd one → IsToEnd other → unmet_of one ≡ unmet_of other → one ≡ other
same_status status.Ok status.Ok a b same = refl
same_status status.Ok (status.Unmet line) a b same = absurd (cc)
same_status (status.Unmet line) status.Ok a b same = absurd (cc)
same_status (status.Unmet line) (status.Unmet other) a b same = let lines : line ≡ other = cc in ap (λ (z : ℕ). status.Unmet z) lines
same_status status.Ok _ a b same = absurd b
same_status (status.Unmet line) _ a b same = absurd b
same_status _ other a b same = absurd a

of_run : (result : Status) → IsToEnd result → IsOfRun result
of_run status.Ok to_end = tt
of_run (status.Unmet line) to_end = tt
of_run _ to_end = absurd to_end

-- what was written is the transcript of the run's history
writes : (a b : Ports) (result : Status) (s : Script) (h : List NodeEntry) (text : List ℕ) → IsToEnd result → IsWritten JobAfterJob result (HasRisen a.write_faults b.write_faults) s h text → Appends a.text b.text text
    → WritesTranscript a b result (transcript_text s.decls.list h)
writes a b status.Ok s h text to_end written told = subst (λ (z : List ℕ). Appends a.text b.text z) written told
writes a b (status.Unmet line) s h text to_end written told = (written.0, written.1, subst (λ (z : List ℕ). Appends a.text b.text z) written.2 told)
writes a b _ s h text to_end written told = absurd to_end

-- over sound connections no entry says that a wire failed or ended
all_true : (s : Script) (h : List NodeEntry) → HasTrueDowns all_sound s h → AreSoundEvents h
all_true s h downs = downs_sound (λ x. IsUnsoundIn all_sound s x) (λ x at. none_unsound all_sound (λ k. refl) 0 (flows_in s.commands) x at) h downs

means : (bytes : List ℕ) (left now : Option (List ℕ)) (s : Script) → left ≡ Some bytes → HasScript left now s → Means bytes (Ok s)
means bytes left now s is has =
    let known : IfSome (Some bytes) (λ z. z ≡ has.bytes) = subst (λ (o : Option (List ℕ)). IfSome o (λ z. z ≡ has.bytes)) is has.read.all in
    subst (λ (z : List ℕ). Means z (Ok s)) (sym known) has.means

one_script : (bytes : List ℕ) (s t : Script) → Means bytes (Ok s) → Means bytes (Ok t) → s ≡ t
one_script bytes s t m n = let both = one_meaning bytes (Ok s) (Ok t) m n in cc

module _ (a b c d : Ports) (one other : Status) (s : Script) (e : IsToEnd one) (f : IsToEnd other)
    (p : HasRun JobAfterJob all_sound one s (HasRisen a.write_faults b.write_faults) a.text b.text)
    (q : HasRun JobAfterJob all_sound other s (HasRisen c.write_faults d.write_faults) c.text d.text) where
  repeated : (one ≡ other) × ((text : List ℕ) × WritesTranscript a b one text × WritesTranscript c d one text)
  repeated =
      let sound : AreSoundEvents p.h = all_true s p.h p.downs in
      let other_sound : AreSoundEvents q.h = all_true s q.h q.downs in
      let run : IsRunOf JobAfterJob s p.h (unmet_of one) = run_of one s p.h e p.ends in
      let other_run : IsRunOf JobAfterJob s q.h (unmet_of other) = run_of other s q.h f q.ends in
      let unmet : unmet_of one ≡ unmet_of other = same_unmet s p.h q.h (unmet_of one) (unmet_of other) p.headline.history.valid q.headline.history.valid sound other_sound run other_run in
      let bare : without_callers p.h ≡ without_callers q.h = same_histories s p.h q.h (unmet_of one) (unmet_of other) p.headline.history.valid q.headline.history.valid sound other_sound run other_run in
      let result : one ≡ other = same_status one other e f unmet in
      let text : transcript_text s.decls.list p.h ≡ transcript_text s.decls.list q.h = one_transcript s.decls.list p.h q.h bare in
      let first : WritesTranscript a b one (transcript_text s.decls.list p.h) = writes a b one s p.h p.text e p.written p.told in
      let second : WritesTranscript c d other (transcript_text s.decls.list q.h) = writes c d other s q.h q.text f q.written q.told in
      let third : WritesTranscript c d one (transcript_text s.decls.list q.h) = subst (λ (z : Status). WritesTranscript c d z (transcript_text s.decls.list q.h)) (sym result) second in
      (result, (transcript_text s.decls.list p.h, first, subst (λ (z : List ℕ). WritesTranscript c d one z) (sym text) third))

pub runs_repeat : RunsRepeat
runs_repeat bytes a b c d one other left other_left e f p q =
    let run : RunsScript a b one = p.run (of_run one e) in
    let other_run : RunsScript c d other = q.run (of_run other f) in
    let same : run.0 ≡ other_run.0 = one_script bytes run.0 other_run.0 (means bytes a.left b.left run.0 left run.1) (means bytes c.left d.left other_run.0 other_left other_run.1) in
    repeated a b c d one other run.0 e f run.2
    (subst (λ (s : Script). HasRun JobAfterJob all_sound other s (HasRisen c.write_faults d.write_faults) c.text d.text) (sym same) other_run.2)
