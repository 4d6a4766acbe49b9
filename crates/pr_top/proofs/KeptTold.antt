-- The transcript of a run where each entry is kept.
use Rattle.std.proofs.Common.{◌≡◌, ◌+◌, inl, inr, ℕ, List, [], ◌++◌, Option, Some, None, Ok, Err, refl, sym, ◌∙◌, ap, subst, append_assoc, arith, codes, length, reverse, take}
use Rattle.std.specs.Io.KnownBytes.{Appends}
use Rattle.std.proofs.lemmas.List.{take_all}
use Rattle.pr_keep.specs.Disk.{State}
use Rattle.pr_keep.specs.declared.keep.Keep.{Keep}
use Rattle.pr_script.specs.declared.script.Script.{Script}
use Rattle.pr_sim.specs.declared.engine.Engine.{Engine}
use Rattle.pr_story.specs.History.{NodeEntry}
use Rattle.pr_story.specs.Scripts.{JobAfterJob}
use Rattle.pr_text.specs.Endings.{error_line, ok_line, unmet_line}
use Rattle.pr_text.specs.Heads.{heads_text}
use Rattle.pr_text.specs.Histories.{IsRunOf, transcript_text}
use Rattle.pr_text.specs.Numbers.{counts_of}
use Rattle.pr_text.specs.Transcripts.{lines_text, plan_of}
use Rattle.pr_text.proofs.Runs.{runs_give}
use Rattle.pr_top.specs.Downs.{HasTrueDowns}
use Rattle.pr_top.specs.Kept.{KeepsOn, placed}
use Rattle.pr_top.specs.KeptProgress.{EndsHalted, HasEndedSo, HasHalted, HasKeptAll, HasKeptTold, IsHalted, KeepsEnded, KeepsHalted, TellsHalted, WritesHalted}
use Rattle.pr_top.specs.Progress.{HasCome, IsExpected, IsHistoryOver, Writes, entry_lines}
use Rattle.pr_top.specs.Runs.{all_sound, HasRun, WritesLine, told_text}
use Rattle.pr_top.specs.Unended.{TellsEnd}
use Rattle.pr_top.specs.declared.keeping.Break.{Break}
use Rattle.pr_top.specs.declared.keeping.Break.TheVariants as breaks
use Rattle.pr_top.specs.declared.keeping.KeptEnd.{KeptEnd}
use Rattle.pr_top.specs.declared.keeping.KeptEnd.TheVariants as ends
use Rattle.pr_top.specs.declared.running.Expected.{Expected}
use Rattle.pr_top.specs.declared.status.Status.{Status}
use Rattle.pr_top.specs.declared.status.Status.TheVariants as status
use Rattle.pr_top.specs.declared.stepping.Halt.{Halt}
use Rattle.pr_top.specs.declared.stepping.Halt.TheVariants as halts
use Rattle.pr_top.proofs.Coming.{begun, ended}
use Rattle.pr_top.proofs.Promised.{headline}
use Rattle.pr_top.proofs.Runs.{history_of, line_then, no_run, stop_here}
use Rattle.pr_top.proofs.Written.{appends_none, appends_then, front_of, lines_are, writes_then}

told_is : (s : Script) (h : List NodeEntry) → heads_text s.decls.list ++ entry_lines s.decls.list (reverse h) ≡ told_text s h
told_is s h = ap (λ (t : List ℕ). heads_text s.decls.list ++ t) (sym (lines_are s.decls.list h))

-- the whole transcript
whole_is : (s : Script) (h : List NodeEntry) → told_text s h ++ ok_line (length s.decls.list + length h) ≡ transcript_text s.decls.list h
whole_is s h = append_assoc (heads_text s.decls.list) (lines_text s.decls.list h) (ok_line (length s.decls.list + length h))

-- lines behind the head lines
lines_told : (failed : Type 0) (s : Script) (h : List NodeEntry) (a b c : Option (List ℕ)) (halt : Halt) → Appends a b (heads_text s.decls.list) → WritesHalted failed (entry_lines s.decls.list (reverse h)) b c halt → TellsHalted s failed h a c halt
lines_told failed s h a b c (halts.Worn at) p q = subst (λ (t : List ℕ). Appends a c t) (told_is s h) (appends_then a b c (heads_text s.decls.list) (entry_lines s.decls.list (reverse h)) p q)
lines_told failed s h a b c (halts.Lied stream number sent got) p q = absurd q
lines_told failed s h a b c halts.NoMemory p q =
    subst (λ (t : List ℕ). Writes {X = ℕ} t failed a c (Err halts.NoMemory)) (told_is s h)
    (writes_then ℕ failed a b c (heads_text s.decls.list) (entry_lines s.decls.list (reverse h)) (Err halts.NoMemory) p q)
lines_told failed s h a b c halts.WriteFault p q =
    let all = subst (λ (t : List ℕ). Writes {X = ℕ} t failed a c (Err halts.WriteFault)) (told_is s h)
    (writes_then ℕ failed a b c (heads_text s.decls.list) (entry_lines s.decls.list (reverse h)) (Err halts.WriteFault) p q) in
    (take all.1.0 (told_text s h), (all.0, (all.1.0, inl refl)), all.1.1)

writes_more : (failed now : Type 0) (lines : List ℕ) (a b : Option (List ℕ)) (halt : Halt) → (failed → now) → WritesHalted failed lines a b halt → WritesHalted now lines a b halt
writes_more failed now lines a b (halts.Worn at) f q = q
writes_more failed now lines a b (halts.Lied stream number sent got) f q = absurd q
writes_more failed now lines a b halts.NoMemory f q = q
writes_more failed now lines a b halts.WriteFault f (bad, q) = (f bad, q)

module _ {D : Type 0} (state : D → State) (images : D → List ℕ → Type 0) (moment : D → ℕ) (images_since : D → ℕ → List ℕ → Type 0) where
  -- ---- the head lines

  nothing_halted : (s : Script) (keep : Keep D) (halt : Halt) → IsHalted [] halt → KeepsOn state images moment images_since keep keep [] 0 0 → HasHalted state images moment images_since keep keep s [] halt
  nothing_halted s keep halt cause none = record { is = (record { valid = tt; declared = tt }, tt); begun = no_run JobAfterJob all_sound s; cause = cause; kept = inl none }

  pub heads_broke : (failed : Type 0) (s : Script) (a b : Option (List ℕ)) (halt : Halt) (keep : Keep D) → KeepsOn state images moment images_since keep keep [] 0 0
      → Writes {X = ℕ} (heads_text s.decls.list) failed a b (Err halt) → HasKeptTold state images moment images_since keep keep s failed a b (Err (breaks.Halted halt))
  heads_broke failed s a b halts.NoMemory keep none (n, p) =
      let m = front_of n (heads_text s.decls.list) [] in
      ([], nothing_halted s keep halts.NoMemory tt none, (m.0, subst (λ (t : List ℕ). Appends a b t) m.1 p))
  heads_broke failed s a b halts.WriteFault keep none (bad, (n, p)) =
      let m = front_of n (heads_text s.decls.list) [] in
      ([], nothing_halted s keep halts.WriteFault tt none, (take n (heads_text s.decls.list), (bad, (m.0, inl m.1)), p))
  heads_broke failed s a b (halts.Worn at) keep none p = absurd p
  heads_broke failed s a b (halts.Lied stream number sent got) keep none p = absurd p

  -- ---- the commands

  pub commands_broke : (failed now : Type 0) (s : Script) (e : Engine) (unmet : Option ℕ) (a b c : Option (List ℕ)) (old new : Keep D) (broke : Break) → (failed → now) → Appends a b (heads_text s.decls.list)
      → HasKeptAll state images moment images_since old new s failed b c e unmet (Err broke) → HasKeptTold state images moment images_since old new s now a c (Err broke)
  commands_broke failed now s e unmet a b c old new (breaks.Halted halt) f p (h, halted, written) =
      (h, halted, lines_told now s h a b c halt p (writes_more failed now (entry_lines s.decls.list (reverse h)) b c halt f written))
  commands_broke failed now s e unmet a b c old new (breaks.Stopped told line) f p (kept, at, written) =
      (kept, at, appends_then a b c (heads_text s.decls.list) (entry_lines s.decls.list (take told (reverse kept))) p written)

  -- ---- the `ok` line

  module _ (s : Script) (h : List NodeEntry) (e : Engine) (unmet : Option ℕ) (k : HasCome JobAfterJob s [] h e unmet) (downs : HasTrueDowns all_sound s h) (a b c d : Option (List ℕ)) (p : Appends a b (heads_text s.decls.list)) (q : Appends b c (entry_lines s.decls.list (reverse h)))
      (old new : Keep D) (kept : KeepsOn state images moment images_since old new (placed (reverse h)) 0 (length h)) (failed : Type 0) where
    told_all : Appends a c (told_text s h)
    told_all = subst (λ (t : List ℕ). Appends a c t) (told_is s h) (appends_then a b c (heads_text s.decls.list) (entry_lines s.decls.list (reverse h)) p q)

    is_over : IsHistoryOver all_sound s h
    is_over = (history_of JobAfterJob all_sound s h e halts.NoMemory (stop_here JobAfterJob all_sound s [] h e unmet k), downs)

    halted_here : (halt : Halt) → IsHalted h halt → HasHalted state images moment images_since old new s h halt
    halted_here halt cause = record { is = is_over; begun = begun JobAfterJob s [] h e unmet k; cause = cause; kept = inl kept }

    pub end_broke : (X : Type 0) (halt : Halt) → Writes {X = X} (ok_line (length s.decls.list + length h)) failed c d (Err halt) → (halt ≡ halts.NoMemory → d ≡ c) → HasKeptTold state images moment images_since old new s failed a d (Err (breaks.Halted halt))
    end_broke X halts.NoMemory w same =
        let text : List ℕ = told_text s h in
        (h, halted_here halts.NoMemory tt, (length text, subst (λ (o : Option (List ℕ)). Appends a o (take (length text) text)) (sym (same refl)) (subst (λ (t : List ℕ). Appends a c t) (sym (take_all (length text) text (omega arith))) told_all)))
    end_broke X halts.WriteFault w same =
        let cut = subst (λ (t : List ℕ). Writes {X = ℕ} t failed a d (Err halts.WriteFault)) (whole_is s h) (writes_then ℕ failed a c d (told_text s h) (ok_line (length s.decls.list + length h)) (Err halts.WriteFault) told_all w) in
        (h, halted_here halts.WriteFault tt, (take cut.1.0 (transcript_text s.decls.list h), (cut.0, (cut.1.0, inr (runs_give JobAfterJob s h unmet (ended JobAfterJob s h e unmet k), refl))), cut.1.1))
    end_broke X (halts.Worn at) w same = absurd w
    end_broke X (halts.Lied stream number sent got) w same = absurd w

    pub end_told : (x : Option Expected) → Appends c d (ok_line (length s.decls.list + length h)) → IsExpected unmet x → HasKeptTold state images moment images_since old new s failed a d (Ok x)
    end_told x w expected = by x unmet (ended JobAfterJob s h e unmet k) expected
      where
        all : Appends a d (transcript_text s.decls.list h)
        all = subst (λ (t : List ℕ). Appends a d t) (whole_is s h) (appends_then a c d (told_text s h) (ok_line (length s.decls.list + length h)) told_all w)

        by : (y : Option Expected) (o : Option ℕ) → IsRunOf JobAfterJob s h o → IsExpected o y → HasKeptTold state images moment images_since old new s failed a d (Ok y)
        by None None runs is = (h, is_over, runs, all, kept)
        by None (Some line) runs is = absurd is
        by (Some y) None runs is = absurd is
        by (Some y) (Some line) runs (same, text) =
            (h, is_over, subst (λ (l : ℕ). IsRunOf JobAfterJob s h (Some l)) (sym same) runs, text ∙ ap (λ (l : ℕ). unmet_line l) (sym same), all, kept)

  -- ---- the end

  pub ends_ok : (failed : Type 0) (s : Script) (a b : Option (List ℕ)) (old new : Keep D) → HasKeptTold state images moment images_since old new s failed a b (Ok None) → HasEndedSo state images moment images_since old new s failed a b (ends.Ended status.Ok)
  ends_ok failed s a b old new (h, is, runs, told, kept) = (
    record {
      h = h;
      headline = headline (plan_of s.decls.list) (counts_of s.decls.list) h is.0;
      ends = runs;
      downs = is.1;
      text = transcript_text s.decls.list h;
      written = refl;
      told = told;
    },
    inl kept,
  )

  pub ends_unmet : (failed later now : Type 0) (s : Script) (x : Expected) (a b c : Option (List ℕ)) (old new : Keep D) → (later → now) → HasKeptTold state images moment images_since old new s failed a b (Ok (Some x))
      → WritesLine later x.text b c → HasEndedSo state images moment images_since old new s now a c (ends.Ended (status.Unmet x.line))
  ends_unmet failed later now s x a b c old new f (h, is, runs, text, told, kept) line =
      let all = line_then later now a b c (transcript_text s.decls.list h) (unmet_line x.line) f told (subst (λ (t : List ℕ). WritesLine later t b c) text line) in (
        record {
          h = h;
          headline = headline (plan_of s.decls.list) (counts_of s.decls.list) h is.0;
          ends = runs;
          downs = is.1;
          text = transcript_text s.decls.list h ++ all.0;
          written = (all.0, all.1, refl);
          told = all.2;
        },
        inl kept,
      )

  pub ends_told : (failed later now : Type 0) (s : Script) (x : Option Expected) (result : Status) (a b c : Option (List ℕ)) (old new : Keep D) → (later → now) → HasKeptTold state images moment images_since old new s failed a b (Ok x)
      → TellsEnd x result later b c → HasEndedSo state images moment images_since old new s now a c (ends.Ended result)
  ends_told failed later now s None result a b c old new f told (is, same) =
      subst (λ (r : Status). HasEndedSo state images moment images_since old new s now a c (ends.Ended r)) (sym is)
      (subst (λ (o : Option (List ℕ)). HasEndedSo state images moment images_since old new s now a o (ends.Ended status.Ok)) (sym same) (ends_ok now s a b old new told))
  ends_told failed later now s (Some x) result a b c old new f told (is, line) =
      subst (λ (r : Status). HasEndedSo state images moment images_since old new s now a c (ends.Ended r)) (sym is) (ends_unmet failed later now s x a b c old new f told line)

  -- what was kept of a run that halted
  ends_kept : (old new : Keep D) (h : List NodeEntry) (halt : Halt) (result : Status) → (halt ≡ halts.NoMemory → result ≡ status.NoMemory) → KeepsHalted state images moment images_since old new h halt → KeepsEnded state images moment images_since old new result h
  ends_kept old new h halt result f (inl all) = inl all
  ends_kept old new h halt result f (inr (is, rest)) = inr (f is, rest)

  pub ends_halted : (failed later now : Type 0) (s : Script) (halt : Halt) (a b c : Option (List ℕ)) (old new : Keep D) (end : KeptEnd) → (failed → now) → (later → now) → HasKeptTold state images moment images_since old new s failed a b (Err (breaks.Halted halt))
      → EndsHalted s.decls.list later halt b c end → HasEndedSo state images moment images_since old new s now a c end
  ends_halted failed later now s halts.WriteFault a b c old new end g f (h, halted, (text, (bad, written), told)) (result, ended, (status_is, same)) =
      let is : end ≡ ends.Ended status.WriteFault = ended ∙ ap (λ (r : Status). ends.Ended r) status_is in
      subst (λ (x : KeptEnd). HasEndedSo state images moment images_since old new s now a c x) (sym is)
      (subst (λ (o : Option (List ℕ)). HasEndedSo state images moment images_since old new s now a o (ends.Ended status.WriteFault)) (sym same) (
        record {
          h = h;
          headline = headline (plan_of s.decls.list) (counts_of s.decls.list) h halted.is.0;
          ends = halted.begun;
          downs = halted.is.1;
          text = text;
          written = (g bad, written);
          told = told;
        },
        ends_kept old new h halts.WriteFault status.WriteFault (λ no. absurd (cc)) halted.kept,
      ))
  ends_halted failed later now s (halts.Worn at) a b c old new end g f (h, halted, told) (result, ended, (status_is, line)) =
      let is : end ≡ ends.Ended (status.Worn at) = ended ∙ ap (λ (r : Status). ends.Ended r) status_is in
      let all = line_then later now a b c (told_text s h) (error_line (codes "worn")) f told line in
      subst (λ (x : KeptEnd). HasEndedSo state images moment images_since old new s now a c x) (sym is) (
        record {
          h = h;
          headline = headline (plan_of s.decls.list) (counts_of s.decls.list) h halted.is.0;
          ends = (halted.begun, (halted.cause.0, halted.cause.1, tt));
          downs = halted.is.1;
          text = told_text s h ++ all.0;
          written = (all.0, all.1, refl);
          told = all.2;
        },
        ends_kept old new h (halts.Worn at) (status.Worn at) (λ no. absurd (cc)) halted.kept,
      )
  ends_halted failed later now s (halts.Lied stream number sent got) a b c old new end g f (h, halted, told) ended = absurd told
  ends_halted failed later now s halts.NoMemory a b c old new end g f (h, halted, (n, told)) (result, ended, (status_is, line)) =
      let is : end ≡ ends.Ended status.NoMemory = ended ∙ ap (λ (r : Status). ends.Ended r) status_is in
      let all = line_then later now a b c (take n (told_text s h)) (error_line (codes "no memory")) f told line in
      subst (λ (x : KeptEnd). HasEndedSo state images moment images_since old new s now a c x) (sym is) (
        record {
          h = h;
          headline = headline (plan_of s.decls.list) (counts_of s.decls.list) h halted.is.0;
          ends = halted.begun;
          downs = halted.is.1;
          text = take n (told_text s h) ++ all.0;
          written = (all.0, all.1, (n, refl));
          told = all.2;
        },
        ends_kept old new h halts.NoMemory status.NoMemory (λ same. refl) halted.kept,
      )

  -- memory ran out before anything was made
  pub none_halted : (later now : Type 0) (s : Script) (a b : Option (List ℕ)) → (later → now) → WritesLine later (error_line (codes "no memory")) a b → (run : HasRun JobAfterJob all_sound status.NoMemory s now a b) × (run.h ≡ [])
  none_halted later now s a b f line =
      let all = line_then later now a a b (take 0 (told_text s [])) (error_line (codes "no memory")) f (appends_none a) line in (
        record {
          h = [];
          headline = headline (plan_of s.decls.list) (counts_of s.decls.list) [] (record { valid = tt; declared = tt });
          ends = no_run JobAfterJob all_sound s;
          downs = tt;
          text = take 0 (told_text s []) ++ all.0;
          written = (all.0, all.1, (0, refl));
          told = all.2;
        },
        refl,
      )
