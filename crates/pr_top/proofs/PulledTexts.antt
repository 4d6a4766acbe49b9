-- The transcript of a pull.
use Rattle.std.proofs.Common.{◌≡◌, ℕ, ◌+◌, ◌<◌, List, [], ◌∷◌, ◌++◌, Option, Result, Ok, Err, inl, inr, refl, sym, ◌∙◌, ap, subst, append_assoc, codes, get_or, length, reverse, take, arith}
use Rattle.std.specs.Prelude.{IfOk, OnOk, decimal}
use Rattle.std.specs.Io.KnownBytes.{Appends}
use Rattle.std.proofs.lemmas.List.{append-nil, get_or-map, reverse-append, take_all}
use Rattle.std.proofs.Math.Seq.{take-append-add}
use Rattle.pr_script.specs.declared.script.Script.{Script}
use Rattle.pr_serve.specs.Laws.{with_entries}
use Rattle.pr_serve.specs.declared.serve_fault.ServeFault.{ServeFault}
use Rattle.pr_sim.proofs.Telling.{some_entry}
use Rattle.pr_story.specs.declared.entry.Entry.{Entry}
use Rattle.pr_story.specs.History.{NodeEntry}
use Rattle.pr_text.specs.Endings.{error_line, ok_line}
use Rattle.pr_text.specs.Heads.{heads_text}
use Rattle.pr_text.specs.Histories.{transcript_text}
use Rattle.pr_text.specs.Numbers.{counts_of}
use Rattle.pr_text.specs.Transcripts.{lines_text, plan_of}
use Rattle.pr_story.specs.Scripts.{JobAfterJob}
use Rattle.pr_top.specs.Downs.{flows_in}
use Rattle.pr_flow.proofs.Downs.{none_unsound}
use Rattle.pr_top.specs.Progress.{Writes, entry_lines}
use Rattle.pr_top.specs.Pulled.{HasStoppedShort, IsClosed, IsLastLine, IsPulled, IsPulledText, bytes_cause, cause_of, entries_at}
use Rattle.pr_top.specs.Runs.{all_sound, IsLine, WritesLine, told_text}
use Rattle.pr_top.specs.Served.{status_of}
use Rattle.pr_top.specs.Unended.{HasRunUnended, TellsHalt}
use Rattle.pr_top.specs.declared.status.Status.{Status}
use Rattle.pr_top.specs.declared.status.Status.TheVariants as status
use Rattle.pr_top.specs.declared.stepping.Halt.{Halt}
use Rattle.pr_top.specs.declared.stepping.Halt.TheVariants as halts
use Rattle.pr_top.proofs.Promised.{headline}
use Rattle.pr_top.proofs.Runs.{line_then, told_is}
use Rattle.pr_top.proofs.Written.{appends_then, lines_append}

-- ---- the run of the script stopped

short_worn : (later now : Type 0) (failed : Type 0) (s : Script) (at : ℕ) (a b c : Option (List ℕ)) → (later → now) → HasRunUnended JobAfterJob all_sound s failed a b (Err (halts.Worn at)) → WritesLine later (error_line (codes "worn")) b c
    → HasStoppedShort (status.Worn at) s now a c
short_worn later now failed s at a b c f (h, (is, begun, (cause, told))) line =
    let all = line_then later now a b c (told_text s h) (error_line (codes "worn")) f told line in record {
      h = h;
      headline = headline (plan_of s.decls.list) (counts_of s.decls.list) h is.0;
      begun = begun;
      text = told_text s h ++ all.0;
      written = (cause.0, cause.1, (all.0, all.1, refl));
      told = all.2;
    }

short_memory : (later now : Type 0) (failed : Type 0) (s : Script) (a b c : Option (List ℕ)) → (later → now) → HasRunUnended JobAfterJob all_sound s failed a b (Err halts.NoMemory) → WritesLine later (error_line (codes "no memory")) b c
    → HasStoppedShort status.NoMemory s now a c
short_memory later now failed s a b c f (h, (is, begun, (n, told))) line =
    let all = line_then later now a b c (take n (told_text s h)) (error_line (codes "no memory")) f told line in record {
      h = h;
      headline = headline (plan_of s.decls.list) (counts_of s.decls.list) h is.0;
      begun = begun;
      text = take n (told_text s h) ++ all.0;
      written = (all.0, all.1, (n, refl));
      told = all.2;
    }

short_fault : (failed : Type 0) (s : Script) (a b : Option (List ℕ)) → HasRunUnended JobAfterJob all_sound s failed a b (Err halts.WriteFault) → HasStoppedShort status.WriteFault s failed a b
short_fault failed s a b (h, (is, begun, (bad, (n, told)))) = record {
  h = h;
  headline = headline (plan_of s.decls.list) (counts_of s.decls.list) h is.0;
  begun = begun;
  text = take n (told_text s h);
  written = (bad, (n, refl));
  told = told;
}

pub short_so : (failed later now : Type 0) (s : Script) (halt : Halt) (result : Status) (a b c : Option (List ℕ)) → (failed → now) → (later → now) → HasRunUnended JobAfterJob all_sound s failed a b (Err halt) → TellsHalt s.decls.list halt result later b c → HasStoppedShort result s now a c
short_so failed later now s halts.WriteFault result a b c f k (h, (is, begun, (bad, (n, told)))) (ended, same) =
    subst (λ (r : Status). HasStoppedShort r s now a c) (sym ended)
    (subst (λ (o : Option (List ℕ)). HasStoppedShort status.WriteFault s now a o) (sym same) (short_fault now s a b (h, (is, begun, (f bad, (n, told))))))
short_so failed later now s (halts.Worn at) result a b c f k stopped (ended, line) = subst (λ (r : Status). HasStoppedShort r s now a c) (sym ended) (short_worn later now failed s at a b c k stopped line)
short_so failed later now s (halts.Lied stream number sent got) result a b c f k (h, (is, begun, (cause, told))) ended = absurd (none_unsound all_sound (λ i. refl) 0 (flows_in s.commands) stream cause.0)
short_so failed later now s halts.NoMemory result a b c f k stopped (ended, line) = subst (λ (r : Status). HasStoppedShort r s now a c) (sym ended) (short_memory later now failed s a b c k stopped line)

-- ---- entries of a node

pub entry_there : (n : ℕ) (es : List Entry) (i : ℕ) (e : Entry) → i < length es → e ≡ get_or es i e → get_or (entries_at n es) i some_entry ≡ record { node = n; entry = e }
entry_there n es i e lt is =
    get_or-map (λ (x : Entry). record { node = n; entry = x }) es i e some_entry lt ∙ ap (λ (x : Entry). record { node = n; entry = x }) (sym is)

-- ---- the history with what was pulled

with_reversed : (n : ℕ) (es : List Entry) (h : List NodeEntry) → reverse (with_entries n es h) ≡ reverse h ++ entries_at n es
with_reversed n [] h = sym (append-nil (reverse h))
with_reversed n (e ∷ es) h =
    let x : NodeEntry = record { node = n; entry = e } in
    with_reversed n es (x ∷ h) ∙ ap (λ (t : List NodeEntry). t ++ entries_at n es) (reverse-append (x ∷ []) h) ∙ append_assoc (reverse h) (x ∷ []) (entries_at n es)

with_length : (n : ℕ) (es : List Entry) (h : List NodeEntry) → length (with_entries n es h) ≡ length h + length es
with_length n [] h = omega arith
with_length n (e ∷ es) h = let l = with_length n es (record { node = n; entry = e } ∷ h) in omega (arith, l)

module _ (s : Script) (h : List NodeEntry) (n : ℕ) (es : List Entry) where
  abbrev grown : List NodeEntry
  grown = with_entries n es h

  abbrev lines : List ℕ
  lines = entry_lines s.decls.list (entries_at n es)

  told_grown : told_text s h ++ lines ≡ told_text s grown
  told_grown =
      ap (λ (t : List ℕ). t ++ lines) (sym (told_is s h))
      ∙ append_assoc (heads_text s.decls.list) (entry_lines s.decls.list (reverse h)) lines
      ∙ ap (λ (t : List ℕ). heads_text s.decls.list ++ t) (sym (lines_append s.decls.list (reverse h) (entries_at n es)) ∙ ap (λ (xs : List NodeEntry). entry_lines s.decls.list xs) (sym (with_reversed n es h)))
      ∙ told_is s grown

  abbrev all_lines : ℕ
  all_lines = length s.decls.list + length h

  whole : (count : ℕ) → count ≡ length es → told_text s grown ++ ok_line (all_lines + count) ≡ transcript_text s.decls.list grown
  whole count is =
      let l = with_length n es h in
      let many : all_lines + count ≡ length s.decls.list + length grown = omega (arith, l, is) in
      append_assoc (heads_text s.decls.list) (lines_text s.decls.list grown) (ok_line (all_lines + count)) ∙ ap (λ (k : ℕ). heads_text s.decls.list ++ (lines_text s.decls.list grown ++ ok_line k)) many

  -- ---- what is written

  module _ (a b : Option (List ℕ)) (before : Appends a b (told_text s h)) where
    -- the lines of what was pulled were cut off
    pub lines_cut : (failed now : Type 0) (end : Result ℕ ServeFault) (c : Option (List ℕ)) → (failed → now) → Writes {X = Unit {0}} lines failed b c (Err halts.WriteFault)
        → (text : List ℕ) × IsPulled status.WriteFault end now s grown text × Appends a c text
    lines_cut failed now end c f (bad, (k, told)) =
        let m = length (told_text s h) + k in
        let is : told_text s h ++ take k lines ≡ take m (told_text s grown) = sym (take-append-add (told_text s h) lines k) ∙ ap (λ (t : List ℕ). take m t) told_grown in
        (told_text s h ++ take k lines, (f bad, (m, inl is)), appends_then a b c (told_text s h) (take k lines) before told)

    pub lines_short : (failed later now : Type 0) (end : Result ℕ ServeFault) (halt : Halt) (c d : Option (List ℕ)) → (later → now) → Writes {X = Unit {0}} lines failed b c (Err halt) → WritesLine later (error_line (codes "no memory")) c d
        → (text : List ℕ) × IsPulled status.NoMemory end now s grown text × Appends a d text
    lines_short failed later now end halt c d f cut line =
        let k = some_cut halt cut in
        let m = length (told_text s h) + k.0 in
        let is : told_text s h ++ take k.0 lines ≡ take m (told_text s grown) = sym (take-append-add (told_text s h) lines k.0) ∙ ap (λ (t : List ℕ). take m t) told_grown in
        let all = line_then later now a c d (told_text s h ++ take k.0 lines) (error_line (codes "no memory")) f (appends_then a b c (told_text s h) (take k.0 lines) before k.1) line in
        ((told_text s h ++ take k.0 lines) ++ all.0, (all.0, all.1, (m, ap (λ (t : List ℕ). t ++ all.0) is)), all.2)
      where
        some_cut : (x : Halt) → Writes {X = Unit {0}} lines failed b c (Err x) → (k : ℕ) × Appends b c (take k lines)
        some_cut halts.NoMemory w = w
        some_cut halts.WriteFault w = w.1
        some_cut (halts.Worn at) w = absurd w
        some_cut (halts.Lied stream number sent got) w = absurd w

    -- they were written, and a last line
    module _ (c : Option (List ℕ)) (told : Appends b c lines) where
      so_far : Appends a c (told_text s grown)
      so_far = subst (λ (t : List ℕ). Appends a c t) told_grown (appends_then a b c (told_text s h) lines before told)

      last_as : (failed now : Type 0) (last : List ℕ) (line : List ℕ) → (failed → now) → IsLine failed line last → IsLine now line last
      last_as failed now last line f (inl same) = inl same
      last_as failed now last line f (inr (bad, cut)) = inr (f bad, cut)

      module _ (failed now : Type 0) (end : Result ℕ ServeFault) (f : failed → now) (d : Option (List ℕ)) where
        ended_text : (r : Result ℕ ServeFault) (last : List ℕ) → IfOk r (λ count. count ≡ length es) → IsLastLine r failed all_lines last → IsPulledText r now s grown (told_text s grown ++ last)
        ended_text (Ok k) last is line = ap (λ (t : List ℕ). told_text s grown ++ t) line ∙ whole k is
        ended_text (Err fault) last is line = (last, last_as failed now last (error_line (cause_of fault)) f line, refl)

        other : (r : Status) → IfOk end (λ count. count ≡ length es) → (r ≡ status_of end) × ((last : List ℕ) × IsLastLine end failed all_lines last × Appends c d last)
            → (text : List ℕ) × ((r ≡ status_of end) × IsPulledText end now s grown text) × Appends a d text
        other r is (same, (last, line, more)) = (told_text s grown ++ last, (same, ended_text end last is line), appends_then a c d (told_text s grown) last so_far more)

        pub closed_text : (result : Status) → IfOk end (λ count. count ≡ length es) → IsClosed result end failed all_lines c d → (text : List ℕ) × IsPulled result end now s grown text × Appends a d text
        closed_text status.WriteFault is (k, ended, (bad, (count, more))) =
            let full : k ≡ length es = subst (λ (r : Result ℕ ServeFault). IfOk r (λ count. count ≡ length es)) ended is in
            let m = length (told_text s grown) + count in
            let same = sym (take-append-add (told_text s grown) (ok_line (all_lines + k)) count) ∙ ap (λ (t : List ℕ). take m t) (whole k full) in
            (told_text s grown ++ take count (ok_line (all_lines + k)), (f bad, (m, inr same)), appends_then a c d (told_text s grown) (take count (ok_line (all_lines + k))) so_far more)
        closed_text status.NoMemory is line =
            let all = line_then failed now a c d (told_text s grown) (error_line (codes "no memory")) f so_far line in
            let m = length (told_text s grown) in
            (told_text s grown ++ all.0, (all.0, all.1, (m, ap (λ (t : List ℕ). t ++ all.0) (sym (take_all m (told_text s grown) (omega arith))))), all.2)
        closed_text status.Ok is k = other status.Ok is k
        closed_text status.Usage is k = other status.Usage is k
        closed_text (status.BadScript line why) is k = other (status.BadScript line why) is k
        closed_text status.ReadFault is k = other status.ReadFault is k
        closed_text status.TooLarge is k = other status.TooLarge is k
        closed_text (status.Lied stream number sent got) is k = other (status.Lied stream number sent got) is k
        closed_text (status.Unmet line) is k = other (status.Unmet line) is k
        closed_text (status.Worn at) is k = other (status.Worn at) is k
        closed_text (status.BadBytes at) is k = other (status.BadBytes at) is k
        closed_text status.NoNode is k = other status.NoNode is k
        closed_text (status.No line why) is k = other (status.No line why) is k

-- ---- the line of a bad byte

pub bytes_line : (out : List ℕ) (at : ℕ) → ((out ++ codes "error bytes") ++ 32 ∷ decimal at) ++ 10 ∷ [] ≡ out ++ error_line (bytes_cause at)
bytes_line out at =
    append_assoc (out ++ codes "error bytes") (32 ∷ decimal at) (10 ∷ []) ∙ append_assoc out (codes "error bytes") (32 ∷ (decimal at ++ 10 ∷ []))

pub if_pushed : {X E : Type 0} (r : Result X E) (P Q : Type 0) → OnOk r P → (P → Q) → OnOk r Q
if_pushed (Ok x) P Q p f = f p
if_pushed (Err e) P Q p f = tt
