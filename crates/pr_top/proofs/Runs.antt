-- What comes of running a script's commands, and of writing their lines.
use Rattle.std.proofs.Common.{◌≡◌, ◌⊎◌, ℕ, ◌+◌, ◌-◌, ◌<◌, ◌≤◌, List, [], ◌∷◌, ◌++◌, Option, Some, None, Result, Ok, Err, inl, inr, refl, sym, ◌∙◌, ap, subst, append_assoc, codes, drop, get_or, length, length-drop, reverse, take, arith}
use Rattle.std.specs.Prelude.{false, Bool, IfOk}
use Rattle.std.specs.Io.KnownBytes.{Appends}
use Rattle.std.proofs.lemmas.List.{drop-drop, drop_all, drop_more, length-append, take_all, take_rest}
use Rattle.pr_script.specs.declared.script.Script.{Script}
use Rattle.pr_script.specs.Steps.{Numbered}
use Rattle.pr_sim.specs.Making.{declared_of}
use Rattle.pr_sim.specs.declared.engine.Engine.{Engine}
use Rattle.pr_sim.proofs.Story.{running_tells}
use Rattle.pr_story.specs.History.{NodeEntry}
use Rattle.pr_story.specs.Scripts.{Order}
use Rattle.pr_story.proofs.Begun.{nothing_begins}
use Rattle.pr_text.specs.Endings.{error_line, lied_cause, ok_line, unmet_line}
use Rattle.pr_text.specs.Heads.{heads_text}
use Rattle.pr_text.specs.Histories.{HasBegun, IsRunOf, streams_of, transcript_text}
use Rattle.pr_text.specs.Steps.{lines_of}
use Rattle.pr_text.specs.Transcripts.{lines_text, plan_of}
use Rattle.pr_text.specs.Numbers.{counts_of}
use Rattle.pr_text.proofs.Runs.{runs_give}
use Rattle.pr_top.specs.Downs.{AddsTrueDowns, HasTrueDowns, IsWithin, TellsTrueDowns}
use Rattle.pr_top.specs.Progress.{HasCome, HasRunAll, HasStepped, HasStopped, HasTold, IsExpected, IsHistoryOfDecls, IsHistoryOver, IsMadeBy, Writes, entry_lines}
use Rattle.pr_top.specs.Runs.{HasRunTo, IsLine, WritesLine, told_text}
use Rattle.pr_top.specs.declared.running.Expected.{Expected}
use Rattle.pr_top.specs.declared.status.Status.{Status}
use Rattle.pr_top.specs.declared.status.Status.TheVariants as status
use Rattle.pr_top.specs.declared.stepping.Halt.{Halt}
use Rattle.pr_top.specs.declared.stepping.Halt.TheVariants as halts
use Rattle.pr_top.specs.declared.stepping.Run.{Run}
use Rattle.pr_top.specs.Unended.{HasBegunWell, HasRunUnended, HasRunUnendedTo, TellsEnd, TellsHalt}
use Rattle.pr_top.proofs.Coming.{begun, ended}
use Rattle.pr_top.proofs.Downs.{downs_of, next_downs, within_over}
use Rattle.pr_top.proofs.Lines.{lines_split}
use Rattle.pr_top.proofs.Promised.{headline}
use Rattle.pr_top.proofs.Written.{appends_then, front_of, lines_are, writes_then}

pub told_within : (new h : List NodeEntry) (told : ℕ) → told ≡ length h → told ≤ length (new ++ h)
told_within new h told is = let l = length-append new h in omega arith

pub told_is : (s : Script) (h : List NodeEntry) → heads_text s.decls.list ++ entry_lines s.decls.list (reverse h) ≡ told_text s h
told_is s h = ap (λ (t : List ℕ). heads_text s.decls.list ++ t) (sym (lines_are s.decls.list h))

-- what was told, and a last line
pub line_then : (failed now : Type 0) (a b c : Option (List ℕ)) (xs line : List ℕ) → (failed → now) → Appends a b xs → WritesLine failed line b c → (last : List ℕ) × IsLine now line last × Appends a c (xs ++ last)
line_then failed now a b c xs line f p (last, is, q) = (last, by is, appends_then a b c xs last p q)
  where
    by : IsLine failed line last → IsLine now line last
    by (inl same) = inl same
    by (inr (bad, cut)) = inr (f bad, cut)

-- a step over connections of which the same are sound as when the run began
pub stepped_so : (order : Order) (now was : ℕ → Bool) → now ≡ was → (s : Script) (c : Numbered) (cs : List Numbered) (e : Engine) (u : Option ℕ) (f : Engine) (v : Option ℕ) (r : Result ℕ Halt)
    → ((h : List NodeEntry) → HasCome order s (c ∷ cs) h e u → HasStepped order now s (c ∷ cs) h f v r)
    → (h : List NodeEntry) → HasCome order s (c ∷ cs) h e u → HasStepped order was s (c ∷ cs) h f v r
stepped_so order now was same s c cs e u f v r stepped h come = subst (λ (sound : ℕ → Bool). HasStepped order sound s (c ∷ cs) h f v r) same (stepped h come)

-- the command at some place of the list, and those behind it
pub rest_at : (all list : List Numbered) (first : Numbered) (at : ℕ) → list ≡ all → at < length list → first ≡ get_or list at first → drop at all ≡ first ∷ take (length list - (at + 1)) (drop (at + 1) list)
rest_at all list first at same lt is =
    ap (λ (xs : List Numbered). drop at xs) (sym same) ∙ drop_more list at first lt
    ∙ ap (λ (x : Numbered). x ∷ drop (at + 1) list) (sym is) ∙ ap (λ (xs : List Numbered). first ∷ xs) (sym (take_rest list (at + 1)))

-- the head lines alone were written
pub heads_whole : (failed : Type 0) (s : Script) (a b : Option (List ℕ)) → Appends a b (heads_text s.decls.list) → HasBegunWell s failed a b (Err halts.NoMemory)
heads_whole failed s a b p =
    let text : List ℕ = heads_text s.decls.list in
    (length text, subst (λ (t : List ℕ). Appends a b t) (sym (take_all (length text) text (omega arith))) p)

-- over which connections the commands go that are left
module _ (sound now : ℕ → Bool) (made : ℕ) (s : Script) (list : List Numbered) (first : Numbered) (at : ℕ) where
  pub within_turn : list ≡ s.commands → at < length list → first ≡ get_or list at first → now ≡ sound → IsWithin sound made (drop at s.commands) s
      → IsWithin now made (first ∷ take (length list - (at + 1)) (drop (at + 1) list)) s
  within_turn same lt is over within =
      within_over now sound made (first ∷ take (length list - (at + 1)) (drop (at + 1) list)) s over (subst (λ (xs : List Numbered). IsWithin sound made xs s) (rest_at s.commands list first at same lt is) within)

  -- and behind the step
  pub within_more : (n : ℕ) → list ≡ s.commands → at < length list → first ≡ get_or list at first → now ≡ sound → (r : Result ℕ Halt) → r ≡ Ok n
      → IfOk r (λ m. IsWithin now made (drop (m + 1) (first ∷ take (length list - (at + 1)) (drop (at + 1) list))) s) → IsWithin sound made (drop (at + (n + 1)) s.commands) s
  within_more n same lt is over r done within =
      let here : IsWithin now made (drop (n + 1) (first ∷ take (length list - (at + 1)) (drop (at + 1) list))) s =
      subst (λ (x : Result ℕ Halt). IfOk x (λ m. IsWithin now made (drop (m + 1) (first ∷ take (length list - (at + 1)) (drop (at + 1) list))) s)) done within in
      let left : IsWithin now made (drop (n + 1) (drop at s.commands)) s = subst (λ (xs : List Numbered). IsWithin now made (drop (n + 1) xs) s) (sym (rest_at s.commands list first at same lt is)) here in
      within_over sound now made (drop (at + (n + 1)) s.commands) s (sym over) (subst (λ (xs : List Numbered). IsWithin now made xs s) (drop-drop (n + 1) at s.commands ∙ ap (λ (i : ℕ). drop i s.commands) (omega arith)) left)

module _ (order : Order) (sound : ℕ → Bool) where
  -- ---- one step

  -- a run that has come somewhere may stop there for want of memory
  pub stop_here : (s : Script) (rest : List Numbered) (h : List NodeEntry) (e : Engine) (unmet : Option ℕ) → HasCome order s rest h e unmet → HasStopped order sound s h e halts.NoMemory
  stop_here s rest h e unmet k = record {
    tells = running_tells (declared_of s.decls.list) k.attached h e k.running;
    begun = begun order s rest h e unmet k;
    cause = tt;
  }

  -- and so may one behind a step
  pub stepped_stops : (s : Script) (rest : List Numbered) (h : List NodeEntry) (e : Engine) (unmet : Option ℕ) (r : Result ℕ Halt) → HasStepped order sound s rest h e unmet r → (new : List NodeEntry) × HasStopped order sound s (new ++ h) e halts.NoMemory
  stepped_stops s rest h e unmet (Ok n) stepped = (stepped.1.0, stop_here s (drop (n + 1) rest) (stepped.1.0 ++ h) e unmet stepped.1.1)
  stepped_stops s rest h e unmet (Err halt) (new, stopped, made) = (new, record { tells = stopped.tells; begun = stopped.begun; cause = tt })

  -- ---- all commands

  -- what was written, where the lines of a step were cut off
  pub cut_run : (failed : Type 0) (s : Script) (h new : List NodeEntry) (e : Engine) (unmet : Option ℕ) (told : ℕ) (a b c : Option (List ℕ)) (halt : Halt)
      → HasStopped order sound s (new ++ h) e halts.NoMemory → told ≡ length h → Appends a b (entry_lines s.decls.list (reverse h))
      → Writes {X = ℕ} (entry_lines s.decls.list (drop told (reverse (new ++ h)))) failed b c (Err halt) → HasRunAll order sound s failed a c e unmet (Err halt)
  cut_run failed s h new e unmet told a b c halt stopped is before now = by halt
      (subst (λ (t : List ℕ). Writes {X = ℕ} t failed a c (Err halt)) (lines_split s.decls.list h new told is)
      (writes_then ℕ failed a b c (entry_lines s.decls.list (reverse h)) (entry_lines s.decls.list (drop told (reverse (new ++ h)))) (Err halt) before now))
    where
      by : (x : Halt) → Writes {X = ℕ} (entry_lines s.decls.list (reverse (new ++ h))) failed a c (Err x) → HasRunAll order sound s failed a c e unmet (Err x)
      by halts.NoMemory cut = (new ++ h, stopped, cut)
      by halts.WriteFault (bad, cut) = (bad, (new ++ h, stopped, cut))
      by (halts.Worn at) cut = absurd cut
      by (halts.Lied stream number sent got) cut = absurd cut

  -- where the step itself stopped, behind its lines
  pub stop_run : (failed : Type 0) (s : Script) (h new : List NodeEntry) (e : Engine) (unmet : Option ℕ) (told : ℕ) (a b c : Option (List ℕ)) (halt : Halt)
      → HasStopped order sound s (new ++ h) e halt → told ≡ length h → Appends a b (entry_lines s.decls.list (reverse h))
      → Appends b c (entry_lines s.decls.list (drop told (reverse (new ++ h)))) → HasRunAll order sound s failed a c e unmet (Err halt)
  stop_run failed s h new e unmet told a b c halt stopped is before now = by halt stopped
    where
      all : Appends a c (entry_lines s.decls.list (reverse (new ++ h)))
      all = subst (λ (t : List ℕ). Appends a c t) (lines_split s.decls.list h new told is) (appends_then a b c (entry_lines s.decls.list (reverse h)) (entry_lines s.decls.list (drop told (reverse (new ++ h)))) before now)

      by : (x : Halt) → HasStopped order sound s (new ++ h) e x → HasRunAll order sound s failed a c e unmet (Err x)
      by halts.NoMemory stopped =
          let lines : List ℕ = entry_lines s.decls.list (reverse (new ++ h)) in
          (new ++ h, stopped, (length lines, subst (λ (t : List ℕ). Appends a c t) (sym (take_all (length lines) lines (omega arith))) all))
      by halts.WriteFault stopped = absurd stopped.cause
      by (halts.Worn at) stopped = (new ++ h, stopped, all)
      by (halts.Lied stream number sent got) stopped = (new ++ h, stopped, all)

  -- what a run of the commands holds at each turn
  pub record IsUnderWay (s : Script) (at told : ℕ) (e : Engine) (unmet : Option ℕ) (a b : Option (List ℕ)) : Type 0 where
    pub h : List NodeEntry
    pub come : HasCome order s (drop at s.commands) h e unmet
    pub all_told : told ≡ length h
    pub written : Appends a b (entry_lines s.decls.list (reverse h))

  pub next_turn : (s : Script) (at told n m : ℕ) (e f : Engine) (unmet now : Option ℕ) (a b c : Option (List ℕ)) (u : IsUnderWay s at told e unmet a b) (new : List NodeEntry)
      → HasCome order s (drop (n + 1) (drop at s.commands)) (new ++ u.h) f now → m ≡ length (new ++ u.h) → Appends b c (entry_lines s.decls.list (drop told (reverse (new ++ u.h)))) → IsUnderWay s (at + (n + 1)) m f now a c
  next_turn s at told n m e f unmet now a b c u new come is written = record {
    h = new ++ u.h;
    come = subst (λ (rest : List Numbered). HasCome order s rest (new ++ u.h) f now) (drop-drop (n + 1) at s.commands ∙ ap (λ (i : ℕ). drop i s.commands) (omega arith)) come;
    all_told = is;
    written = subst (λ (t : List ℕ). Appends a c t) (lines_split s.decls.list u.h new told u.all_told) (appends_then a b c (entry_lines s.decls.list (reverse u.h)) (entry_lines s.decls.list (drop told (reverse (new ++ u.h)))) u.written written);
  }

  pub last_turn : (failed : Type 0) (s : Script) (at told : ℕ) (e : Engine) (unmet : Option ℕ) (a b : Option (List ℕ)) → IsUnderWay s at told e unmet a b → length s.commands ≤ at → HasRunAll order sound s failed a b e unmet (Ok tt)
  last_turn failed s at told e unmet a b u past = (u.h, subst (λ (rest : List Numbered). HasCome order s rest u.h e unmet) (drop_all at s.commands past) u.come, u.written)

  -- ---- the transcript

  pub history_of : (s : Script) (h : List NodeEntry) (e : Engine) (halt : Halt) → HasStopped order sound s h e halt → IsHistoryOfDecls s h
  history_of s h e halt k = record { valid = k.tells.told.valid; declared = k.tells.speaks }

  pub over_of : (s : Script) (h : List NodeEntry) (e : Engine) (halt : Halt) → HasStopped order sound s h e halt → TellsTrueDowns sound s e → IsHistoryOver sound s h
  over_of s h e halt k downs = (history_of s h e halt k, downs_of sound s h e k.tells downs)

  -- nothing was run
  pub no_run : (s : Script) → HasBegun order s []
  no_run s = nothing_begins.lines order (streams_of s.decls.list) (λ t. false) (lines_of s.commands)

  -- the head lines were cut off
  pub heads_cut : (X : Type 0) (failed : Type 0) (s : Script) (a b : Option (List ℕ)) (halt : Halt) → Writes {X = X} (heads_text s.decls.list) failed a b (Err halt) → HasRunUnended order sound s failed a b (Err halt)
  heads_cut X failed s a b halts.NoMemory (n, p) =
      let m = front_of n (heads_text s.decls.list) [] in
      ([], ((record { valid = tt; declared = tt }, tt), no_run s, (m.0, subst (λ (t : List ℕ). Appends a b t) m.1 p)))
  heads_cut X failed s a b halts.WriteFault (bad, (n, p)) =
      let m = front_of n (heads_text s.decls.list) [] in
      ([], ((record { valid = tt; declared = tt }, tt), no_run s, (bad, (m.0, subst (λ (t : List ℕ). Appends a b t) m.1 p))))
  heads_cut X failed s a b (halts.Worn at) p = absurd p
  heads_cut X failed s a b (halts.Lied stream number sent got) p = absurd p

  -- the engine was not made, or the head lines were not written
  pub none_ran : (failed : Type 0) (s : Script) (a b : Option (List ℕ)) (halt : Halt) → HasBegunWell s failed a b (Err halt) → HasRunUnended order sound s failed a b (Err halt)
  none_ran failed s a b halt told = heads_cut ℕ failed s a b halt told

  -- a run that came to its end has come so far
  pub ends_well : (failed : Type 0) (s : Script) (a b : Option (List ℕ)) (r : Result Run Halt) → HasRunUnended order sound s failed a b r
      → IfOk r (λ (run : Run). (o : Order) × (h : List NodeEntry) × HasCome o s [] h run.engine run.unmet)
  ends_well failed s a b (Ok run) (h, (come, downs, told)) = (order, h, come)
  ends_well failed s a b (Err halt) told = tt

  pub run_cut : (failed now : Type 0) (s : Script) (e : Engine) (unmet : Option ℕ) (a b c : Option (List ℕ)) (halt : Halt) → (failed → now)
      → Appends a b (heads_text s.decls.list) → TellsTrueDowns sound s e → HasRunAll order sound s failed b c e unmet (Err halt) → HasRunUnended order sound s now a c (Err halt)
  run_cut failed now s e unmet a b c (halts.Worn at) f p downs (h, stopped, q) =
      (h, (over_of s h e (halts.Worn at) stopped downs, stopped.begun, (stopped.cause, subst (λ (t : List ℕ). Appends a c t) (told_is s h) (appends_then a b c (heads_text s.decls.list) (entry_lines s.decls.list (reverse h)) p q))))
  run_cut failed now s e unmet a b c (halts.Lied stream number sent got) f p downs (h, stopped, q) =
      (h, (over_of s h e (halts.Lied stream number sent got) stopped downs, stopped.begun, (stopped.cause, subst (λ (t : List ℕ). Appends a c t) (told_is s h) (appends_then a b c (heads_text s.decls.list) (entry_lines s.decls.list (reverse h)) p q))))
  run_cut failed now s e unmet a b c halts.NoMemory f p downs (h, stopped, cut) = (
    h,
    (
      over_of s h e halts.NoMemory stopped downs,
      stopped.begun,
      subst (λ (t : List ℕ). Writes {X = ℕ} t now a c (Err halts.NoMemory)) (told_is s h)
          (writes_then ℕ now a b c (heads_text s.decls.list) (entry_lines s.decls.list (reverse h)) (Err halts.NoMemory) p cut),
    ),
  )
  run_cut failed now s e unmet a b c halts.WriteFault f p downs (bad, (h, stopped, cut)) =
      let all = subst (λ (t : List ℕ). Writes {X = ℕ} t now a c (Err halts.WriteFault)) (told_is s h)
      (writes_then ℕ now a b c (heads_text s.decls.list) (entry_lines s.decls.list (reverse h)) (Err halts.WriteFault) p (f bad, cut)) in
      (h, (over_of s h e halts.NoMemory stopped downs, stopped.begun, all))

  -- all commands were run
  pub run_whole : (failed : Type 0) (s : Script) (h : List NodeEntry) (run : Run) (a b c : Option (List ℕ)) → HasCome order s [] h run.engine run.unmet → HasTrueDowns sound s h
      → Appends a b (heads_text s.decls.list) → Appends b c (entry_lines s.decls.list (reverse h)) → HasRunUnendedTo order sound s h failed a c (Ok run)
  run_whole failed s h run a b c k downs p q =
      (k, downs, subst (λ (t : List ℕ). Appends a c t) (told_is s h) (appends_then a b c (heads_text s.decls.list) (entry_lines s.decls.list (reverse h)) p q))

  -- a run that stopped has no `ok` line
  pub unended_stops : (failed : Type 0) (s : Script) (h : List NodeEntry) (a b : Option (List ℕ)) (halt : Halt) → HasRunUnendedTo order sound s h failed a b (Err halt) → HasTold order sound s h failed a b (Err halt)
  unended_stops failed s h a b (halts.Worn at) (is, part, (cause, told)) = (is, part, cause, told)
  unended_stops failed s h a b (halts.Lied stream number sent got) (is, part, (cause, told)) = (is, part, cause, told)
  unended_stops failed s h a b halts.NoMemory stopped = stopped
  unended_stops failed s h a b halts.WriteFault (is, part, (bad, (n, told))) = (is, part, (take n (told_text s h), (bad, (n, inl refl)), told))

  -- the `ok` line follows
  module _ (s : Script) (h : List NodeEntry) (e : Engine) (unmet : Option ℕ) (k : HasCome order s [] h e unmet) (downs : HasTrueDowns sound s h) (a c : Option (List ℕ)) (told : Appends a c (told_text s h)) where
    stopped : HasStopped order sound s h e halts.NoMemory
    stopped = stop_here s [] h e unmet k

    is_over : IsHistoryOver sound s h
    is_over = (history_of s h e halts.NoMemory stopped, downs)

    whole : told_text s h ++ ok_line (length s.decls.list + length h) ≡ transcript_text s.decls.list h
    whole = append_assoc (heads_text s.decls.list) (lines_text s.decls.list h) (ok_line (length s.decls.list + length h))

    pub end_told : (failed : Type 0) (d : Option (List ℕ)) (r : Result (Option Expected) Halt) → Writes (ok_line (length s.decls.list + length h)) failed c d r
        → IfOk r (IsExpected unmet) → (r ≡ Err halts.NoMemory → d ≡ c) → HasTold order sound s h failed a d r
    end_told failed d (Ok x) written expected kept = by x unmet (ended order s h e unmet k) expected
      where
        all : Appends a d (transcript_text s.decls.list h)
        all = subst (λ (t : List ℕ). Appends a d t) whole (appends_then a c d (told_text s h) (ok_line (length s.decls.list + length h)) told written)

        by : (y : Option Expected) (o : Option ℕ) → IsRunOf order s h o → IsExpected o y → HasTold order sound s h failed a d (Ok y)
        by None None runs is = (is_over, runs, all)
        by None (Some line) runs is = absurd is
        by (Some y) None runs is = absurd is
        by (Some y) (Some line) runs (same, text) =
            (is_over, subst (λ (l : ℕ). IsRunOf order s h (Some l)) (sym same) runs, text ∙ ap (λ (l : ℕ). unmet_line l) (sym same), all)
    end_told failed d (Err halts.NoMemory) written expected kept =
        let text : List ℕ = told_text s h in
        (is_over, stopped.begun, (length text, subst (λ (o : Option (List ℕ)). Appends a o (take (length text) text)) (sym (kept refl)) (subst (λ (t : List ℕ). Appends a c t) (sym (take_all (length text) text (omega arith))) told)))
    end_told failed d (Err halts.WriteFault) written expected kept =
        let cut = subst (λ (t : List ℕ). Writes {X = ℕ} t failed a d (Err halts.WriteFault)) whole (writes_then ℕ failed a c d (told_text s h) (ok_line (length s.decls.list + length h)) (Err halts.WriteFault) told written) in (
          is_over,
          stopped.begun,
          (take cut.1.0 (transcript_text s.decls.list h), (cut.0, (cut.1.0, inr (runs_give order s h unmet (ended order s h e unmet k), refl))), cut.1.1),
        )
    end_told failed d (Err (halts.Worn at)) written expected kept = absurd written
    end_told failed d (Err (halts.Lied stream number sent got)) written expected kept = absurd written

  -- ---- the status

  pub run_ok : (failed : Type 0) (s : Script) (h : List NodeEntry) (a b : Option (List ℕ)) → HasTold order sound s h failed a b (Ok None) → HasRunTo order sound status.Ok s h failed a b
  run_ok failed s h a b (is, runs, told) = (
    record {
      h = h;
      headline = headline (plan_of s.decls.list) (counts_of s.decls.list) h is.0;
      ends = runs;
      downs = is.1;
      text = transcript_text s.decls.list h;
      written = refl;
      told = told;
    },
    refl,
  )

  pub run_unmet : (failed later now : Type 0) (s : Script) (h : List NodeEntry) (x : Expected) (a b c : Option (List ℕ)) → (later → now) → HasTold order sound s h failed a b (Ok (Some x)) → WritesLine later x.text b c → HasRunTo order sound (status.Unmet x.line) s h now a c
  run_unmet failed later now s h x a b c f (is, runs, text, told) line =
      let all = line_then later now a b c (transcript_text s.decls.list h) (unmet_line x.line) f told (subst (λ (t : List ℕ). WritesLine later t b c) text line) in (
        record {
          h = h;
          headline = headline (plan_of s.decls.list) (counts_of s.decls.list) h is.0;
          ends = runs;
          downs = is.1;
          text = transcript_text s.decls.list h ++ all.0;
          written = (all.0, all.1, refl);
          told = all.2;
        },
        refl,
      )

  -- one that came to its end
  pub run_ended : (failed later now : Type 0) (s : Script) (h : List NodeEntry) (x : Option Expected) (result : Status) (a b c : Option (List ℕ)) → (later → now) → HasTold order sound s h failed a b (Ok x)
      → TellsEnd x result later b c → HasRunTo order sound result s h now a c
  run_ended failed later now s h None result a b c f told (is, same) =
      subst (λ (r : Status). HasRunTo order sound r s h now a c) (sym is) (subst (λ (o : Option (List ℕ)). HasRunTo order sound status.Ok s h now a o) (sym same) (run_ok now s h a b told))
  run_ended failed later now s h (Some x) result a b c f told (is, line) =
      subst (λ (r : Status). HasRunTo order sound r s h now a c) (sym is) (run_unmet failed later now s h x a b c f told line)

  pub run_fault : (failed : Type 0) (s : Script) (h : List NodeEntry) (a b : Option (List ℕ)) → HasTold order sound s h failed a b (Err halts.WriteFault) → HasRunTo order sound status.WriteFault s h failed a b
  run_fault failed s h a b (is, begun, (text, written, told)) = (
    record {
      h = h;
      headline = headline (plan_of s.decls.list) (counts_of s.decls.list) h is.0;
      ends = begun;
      downs = is.1;
      text = text;
      written = written;
      told = told;
    },
    refl,
  )

  pub run_worn : (failed later now : Type 0) (s : Script) (h : List NodeEntry) (at : ℕ) (a b c : Option (List ℕ)) → (later → now) → HasTold order sound s h failed a b (Err (halts.Worn at)) → WritesLine later (error_line (codes "worn")) b c → HasRunTo order sound (status.Worn at) s h now a c
  run_worn failed later now s h at a b c f (is, begun, cause, told) line =
      let all = line_then later now a b c (told_text s h) (error_line (codes "worn")) f told line in (
        record {
          h = h;
          headline = headline (plan_of s.decls.list) (counts_of s.decls.list) h is.0;
          ends = (begun, cause);
          downs = is.1;
          text = told_text s h ++ all.0;
          written = (all.0, all.1, refl);
          told = all.2;
        },
        refl,
      )

  pub run_short : (failed later now : Type 0) (s : Script) (h : List NodeEntry) (a b c : Option (List ℕ)) → (later → now) → HasTold order sound s h failed a b (Err halts.NoMemory) → WritesLine later (error_line (codes "no memory")) b c → HasRunTo order sound status.NoMemory s h now a c
  run_short failed later now s h a b c f (is, begun, (n, told)) line =
      let all = line_then later now a b c (take n (told_text s h)) (error_line (codes "no memory")) f told line in (
        record {
          h = h;
          headline = headline (plan_of s.decls.list) (counts_of s.decls.list) h is.0;
          ends = begun;
          downs = is.1;
          text = take n (told_text s h) ++ all.0;
          written = (all.0, all.1, (n, refl));
          told = all.2;
        },
        refl,
      )

  pub run_lied : (failed later now : Type 0) (s : Script) (h : List NodeEntry) (stream number : ℕ) (sent got : List ℕ) (a b c : Option (List ℕ)) → (later → now) → HasTold order sound s h failed a b (Err (halts.Lied stream number sent got))
      → WritesLine later (error_line (lied_cause s.decls.list stream number sent got)) b c → HasRunTo order sound (status.Lied stream number sent got) s h now a c
  run_lied failed later now s h stream number sent got a b c f (is, begun, cause, told) line =
      let all = line_then later now a b c (told_text s h) (error_line (lied_cause s.decls.list stream number sent got)) f told line in (
        record {
          h = h;
          headline = headline (plan_of s.decls.list) (counts_of s.decls.list) h is.0;
          ends = (begun, cause);
          downs = is.1;
          text = told_text s h ++ all.0;
          written = (all.0, all.1, refl);
          told = all.2;
        },
        refl,
      )

  -- a lie for whose line there is no memory
  lie_short : (failed : Type 0) (s : Script) (h : List NodeEntry) (stream number : ℕ) (sent got : List ℕ) (a b : Option (List ℕ)) → HasTold order sound s h failed a b (Err (halts.Lied stream number sent got)) → HasTold order sound s h failed a b (Err halts.NoMemory)
  lie_short failed s h stream number sent got a b (is, begun, cause, told) =
      let text : List ℕ = told_text s h in
      (is, begun, (length text, subst (λ (t : List ℕ). Appends a b t) (sym (take_all (length text) text (omega arith))) told))

  -- whatever it stopped for
  pub run_halted : (failed later now : Type 0) (s : Script) (h : List NodeEntry) (halt : Halt) (result : Status) (a b c : Option (List ℕ)) → (failed → now) → (later → now) → HasTold order sound s h failed a b (Err halt)
      → TellsHalt s.decls.list halt result later b c → HasRunTo order sound result s h now a c
  run_halted failed later now s h halts.WriteFault result a b c g f (is, begun, (text, (bad, written), told)) (ended, same) =
      subst (λ (r : Status). HasRunTo order sound r s h now a c) (sym ended)
      (subst (λ (o : Option (List ℕ)). HasRunTo order sound status.WriteFault s h now a o) (sym same) (run_fault now s h a b (is, begun, (text, (g bad, written), told))))
  run_halted failed later now s h (halts.Worn at) result a b c g f stopped (ended, line) =
      subst (λ (r : Status). HasRunTo order sound r s h now a c) (sym ended) (run_worn failed later now s h at a b c f stopped line)
  run_halted failed later now s h (halts.Lied stream number sent got) result a b c g f stopped told = elim told [
    | inl t ↦ subst (λ (r : Status). HasRunTo order sound r s h now a c) (sym t.0) (run_lied failed later now s h stream number sent got a b c f stopped t.1)
    | inr t ↦ subst (λ (r : Status). HasRunTo order sound r s h now a c) (sym t.0) (run_short failed later now s h a b c f (lie_short failed s h stream number sent got a b stopped) t.1)
  ]
  run_halted failed later now s h halts.NoMemory result a b c g f stopped (ended, line) =
      subst (λ (r : Status). HasRunTo order sound r s h now a c) (sym ended) (run_short failed later now s h a b c f stopped line)

  -- ---- a turn of the loop over the commands

  module _ (s : Script) (list : List Numbered) (first : Numbered) (at told : ℕ) (e : Engine) (u : Option ℕ) (a b : Option (List ℕ)) (w : IsUnderWay s at told e u a b)
      (same : list ≡ s.commands) (lt : at < length list) (is : first ≡ get_or list at first) (f : Engine) (v : Option ℕ) (r : Result ℕ Halt)
      (stepped : (h : List NodeEntry) → HasCome order s (first ∷ take (length list - (at + 1)) (drop (at + 1) list)) h e u → HasStepped order sound s (first ∷ take (length list - (at + 1)) (drop (at + 1) list)) h f v r) where
    rest_is : drop at s.commands ≡ first ∷ take (length list - (at + 1)) (drop (at + 1) list)
    rest_is = rest_at s.commands list first at same lt is

    stepped_now : HasStepped order sound s (first ∷ take (length list - (at + 1)) (drop (at + 1) list)) w.h f v r
    stepped_now = stepped w.h (subst (λ (xs : List Numbered). HasCome order s xs w.h e u) rest_is w.come)

    pub stops_now : (new : List NodeEntry) × HasStopped order sound s (new ++ w.h) f halts.NoMemory
    stops_now = stepped_stops s (first ∷ take (length list - (at + 1)) (drop (at + 1) list)) w.h f v r stepped_now

    pub made_now : (new : List NodeEntry) × HasStopped order sound s (new ++ w.h) f halts.NoMemory × ((new ≡ []) ⊎ IsMadeBy order s w.h new v)
    made_now = by r stepped_now
      where
        by : (x : Result ℕ Halt) → HasStepped order sound s (first ∷ take (length list - (at + 1)) (drop (at + 1) list)) w.h f v x → (new : List NodeEntry) × HasStopped order sound s (new ++ w.h) f halts.NoMemory × ((new ≡ []) ⊎ IsMadeBy order s w.h new v)
        by (Ok n) went = (went.1.0, stop_here s (drop (n + 1) (first ∷ take (length list - (at + 1)) (drop (at + 1) list))) (went.1.0 ++ w.h) f v went.1.1, went.1.2)
        by (Err halt) (new, stopped, made) = (new, record { tells = stopped.tells; begun = stopped.begun; cause = tt }, inr made)

    -- each down so far has its true cause
    pub downs_now : (now : ℕ → Bool) → now ≡ sound → ((h : List NodeEntry) → HasCome order s (first ∷ take (length list - (at + 1)) (drop (at + 1) list)) h e u → AddsTrueDowns now s h f)
        → TellsTrueDowns sound s e → TellsTrueDowns sound s f
    downs_now now over adds sofar = next_downs order s sound now at (first ∷ take (length list - (at + 1)) (drop (at + 1) list)) w.h e f u over w.come rest_is adds sofar

    pub halted_now : (halt : Halt) → r ≡ Err halt → (new : List NodeEntry) × HasStopped order sound s (new ++ w.h) f halt
    halted_now halt ended =
        let halted = subst (λ (x : Result ℕ Halt). HasStepped order sound s (first ∷ take (length list - (at + 1)) (drop (at + 1) list)) w.h f v x) ended stepped_now in
        (halted.0, halted.1)

    pub went_now : (n : ℕ) → r ≡ Ok n → (at + (n + 1) ≤ length list) × ((new : List NodeEntry) × HasCome order s (drop (n + 1) (drop at s.commands)) (new ++ w.h) f v)
    went_now n ended =
        let went = subst (λ (x : Result ℕ Halt). HasStepped order sound s (first ∷ take (length list - (at + 1)) (drop (at + 1) list)) w.h f v x) ended stepped_now in
        let left : length (take (length list - (at + 1)) (drop (at + 1) list)) ≡ length list - (at + 1) =
        ap (λ (xs : List Numbered). length xs) (take_rest list (at + 1)) ∙ length-drop (at + 1) list in
        let all : length (first ∷ take (length list - (at + 1)) (drop (at + 1) list)) ≡ length (take (length list - (at + 1)) (drop (at + 1) list)) + 1 = omega arith in
        let few : n < length (first ∷ take (length list - (at + 1)) (drop (at + 1) list)) = went.0 in (
          omega (arith, few, all, left, lt),
          (went.1.0, subst (λ (xs : List Numbered). HasCome order s (drop (n + 1) xs) (went.1.0 ++ w.h) f v) (sym rest_is) went.1.1),
        )
