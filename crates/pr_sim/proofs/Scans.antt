-- The scans stay right for their streams.
use Rattle.std.proofs.Common.{◌≡◌, ℕ, ◌<◌, ◌⊎◌, inl, inr, List, ◌∷◌, cond, nat_eq, get_or, set, length, refl, sym, ◌∙◌, ap, subst, arith}
use Rattle.std.specs.Prelude.{Bool, true, false, IsTrue, ◌||◌, ◌&&◌}
use Rattle.std.proofs.lemmas.Bool.{cases_eq}
use Rattle.std.proofs.lemmas.Bool.Decides.{Decides-eqb}
use Rattle.std.proofs.lemmas.List.{get_or-set_same, get_or-set_other, length-set}
use Rattle.pr_stamps.specs.Point.{Point}
use Rattle.pr_inval.specs.Standing.{Standing}
use Rattle.pr_node.specs.Scanning.{IsScanOf, Scanned, fresh}
use Rattle.pr_node.proofs.Scanning.{scan_fresh, scan_kept, scan_onward}
use Rattle.pr_story.specs.declared.entry.Entry.{Entry}
use Rattle.pr_story.specs.declared.event.Event.{Event}
use Rattle.pr_story.specs.declared.event.Event.TheVariants.{Attached, Sent}
use Rattle.pr_story.specs.History.{NodeEntry, Plan, journal}
use Rattle.pr_story.specs.Laws.{StandsFor}
use Rattle.pr_story.specs.Turns.{Attaches, has_sent, is_body, is_of_stream, is_with_session, sent_after, standing}
use Rattle.pr_story.proofs.OfStreams.{IsOfNoStream}
use Rattle.pr_sim.specs.Running.{AreScans}

-- ---- one entry more

both_false : (b c : Bool) → (b || c) ≡ false → c ≡ false
both_false true c e = absurd (let bad : true ≡ false = e in cc)
both_false false c e = e

not_new : (b : Bool) (before : Bool) → (b ≡ true → ⊥) → cond b false before ≡ false → before ≡ false
not_new true before isnt e = absurd (isnt refl)
not_new false before isnt e = e

-- what was not sent after an event that does not attach the stream, was not sent before it
unsent : (event : Event) (s : ℕ) (o : List ℕ) (t : Point) (before : Bool) → (Attaches event s → ⊥) → sent_after event s o t before ≡ false → before ≡ false
unsent (Attached stream at) s o t before isnt e = not_new (nat_eq stream s) before (λ is. isnt ((Decides-eqb stream s).0 is)) e
unsent (Sent msg) s o t before isnt e = both_false (nat_eq msg.stream s && is_body msg.kind o t) before e
unsent _ s o t before isnt e = e

journal_kept : (x : Scanned) (st : Standing) (e : NodeEntry) (h : List NodeEntry) (n : ℕ) (b : Bool) → IsScanOf x st (journal h n) → IsScanOf x st (cond b (e.entry ∷ journal h n) (journal h n))
journal_kept x st e h n true so = scan_kept x st e.entry (journal h n) so
journal_kept x st e h n false so = so

-- over an entry that does not attach its stream
scan_more : (plan : Plan) (e : NodeEntry) (h : List NodeEntry) (s n : ℕ) (x : Scanned) → (Attaches e.entry.event s → ⊥) → IsScanOf x (standing plan h s) (journal h n) → IsScanOf x (standing plan (e ∷ h) s) (journal (e ∷ h) n)
scan_more plan e h s n x isnt so =
    scan_onward x (standing plan h s) (standing plan (e ∷ h) s) (journal (e ∷ h) n) refl (λ o t new. unsent e.entry.event s o t (has_sent h s o t) isnt new)
    (journal_kept x (standing plan h s) e h n (nat_eq e.node n) so)

pub scans_more : (plan : Plan) (e : NodeEntry) (h : List NodeEntry) (scans : List Scanned) → ((s : ℕ) → Attaches e.entry.event s → ⊥) → AreScans plan h scans → AreScans plan (e ∷ h) scans
scans_more plan e h scans isnt are s d lt = scan_more plan e h s (plan.stream s).source (get_or scans s d) (isnt s) (are s d lt)

-- over an entry that attaches a stream, whose scan begins anew
pub scans_anew : (plan : Plan) (e : NodeEntry) (h : List NodeEntry) (before now : List Scanned) (a : ℕ) → ((s : ℕ) → (s ≡ a → ⊥) → Attaches e.entry.event s → ⊥) → now ≡ set before a fresh → AreScans plan h before → AreScans plan (e ∷ h) now
scans_anew plan e h before now a others is are = subst (λ (xs : List Scanned). AreScans plan (e ∷ h) xs) (sym is) (λ s d lt. by s d (let l : length (set before a fresh) ≡ length before = length-set before a fresh in omega (arith, l, lt)) (cases_eq s a))
  where
    by : (s : ℕ) (d : Scanned) → s < length before → (s ≡ a) ⊎ (s ≡ a → ⊥) → IsScanOf (get_or (set before a fresh) s d) (standing plan (e ∷ h) s) (journal (e ∷ h) (plan.stream s).source)
    by s d within (inl same) = subst (λ (x : Scanned). IsScanOf x (standing plan (e ∷ h) s) (journal (e ∷ h) (plan.stream s).source))
        (sym (ap (λ (k : ℕ). get_or (set before a fresh) k d) same ∙ get_or-set_same before a fresh d (let eq : s ≡ a = same in omega (arith, eq, within))))
        (scan_fresh (standing plan (e ∷ h) s) (journal (e ∷ h) (plan.stream s).source))
    by s d within (inr other) = subst (λ (x : Scanned). IsScanOf x (standing plan (e ∷ h) s) (journal (e ∷ h) (plan.stream s).source))
        (sym (get_or-set_other before a s fresh d other))
        (scan_more plan e h s (plan.stream s).source (get_or before s d) (others s other) (are s d within))

-- the scan of one stream was changed, and is right
pub scans_put : (plan : Plan) (h : List NodeEntry) (before now : List Scanned) (a : ℕ) (x : Scanned) → now ≡ set before a x → IsScanOf x (standing plan h a) (journal h (plan.stream a).source) → AreScans plan h before → AreScans plan h now
scans_put plan h before now a x is so are = subst (λ (xs : List Scanned). AreScans plan h xs) (sym is) (λ s d lt. by s d (let l : length (set before a x) ≡ length before = length-set before a x in omega (arith, l, lt)) (cases_eq s a))
  where
    by : (s : ℕ) (d : Scanned) → s < length before → (s ≡ a) ⊎ (s ≡ a → ⊥) → IsScanOf (get_or (set before a x) s d) (standing plan h s) (journal h (plan.stream s).source)
    by s d within (inl same) = subst (λ (k : ℕ). IsScanOf (get_or (set before a x) k d) (standing plan h k) (journal h (plan.stream k).source)) (sym same)
        (subst (λ (y : Scanned). IsScanOf y (standing plan h a) (journal h (plan.stream a).source)) (sym (get_or-set_same before a x d (let eq : s ≡ a = same in omega (arith, eq, within)))) so)
    by s d within (inr other) = subst (λ (y : Scanned). IsScanOf y (standing plan h s) (journal h (plan.stream s).source)) (sym (get_or-set_other before a s x d other)) (are s d within)

-- a scan that is right for a session is right for the stream that it stands for, and the other way round
pub scan_of_stream : (plan : Plan) (h : List NodeEntry) (s : ℕ) (st : Standing) (x : Scanned) (j : List Entry) → StandsFor plan h s st → IsScanOf x st j → IsScanOf x (standing plan h s) j
scan_of_stream plan h s st x j for so = scan_onward x st (standing plan h s) j (sym for.names) (λ o t new. for.sent o t ∙ new) so

pub scan_of_session : (plan : Plan) (h : List NodeEntry) (s : ℕ) (st : Standing) (x : Scanned) (j : List Entry) → StandsFor plan h s st → IsScanOf x (standing plan h s) j → IsScanOf x st j
scan_of_session plan h s st x j for so = scan_onward x (standing plan h s) st j for.names (λ o t new. sym (for.sent o t) ∙ new) so

-- ---- events that attach no stream

attaches_of : (event : Event) (s : ℕ) → Attaches event s → is_of_stream event s ≡ true
attaches_of (Attached stream at) s to = (Decides-eqb stream s).1 to
attaches_of _ s to = absurd to

pub attaches_none : (event : Event) → IsOfNoStream event → (s : ℕ) → Attaches event s → ⊥
attaches_none event none s to = let bad : false ≡ true = sym (none s) ∙ attaches_of event s to in absurd (cc)

pub attaches_with : (event : Event) (s : ℕ) → Attaches event s → IsTrue (is_with_session event s)
attaches_with (Attached stream at) s to = (Decides-eqb stream s).1 to
attaches_with _ s to = absurd to

none_attached : (event : Event) → ((stream : ℕ) (at : List ℕ) → event ≡ Attached stream at → ⊥) → (s : ℕ) → Attaches event s → ⊥
none_attached (Attached stream at) not s to = not stream at refl
none_attached _ not s to = absurd to

-- ---- an entry is noted

pub attach_noted : (plan : Plan) (node : ℕ) (h : List NodeEntry) (entry : Entry) (before now : List Scanned) (stream : ℕ) (at : List ℕ) → entry.event ≡ Attached stream at → now ≡ set before stream fresh
    → AreScans plan h before → AreScans plan (record { node = node; entry = entry } ∷ h) now
attach_noted plan node h entry before now stream at is anew are =
    scans_anew plan (record { node = node; entry = entry }) h before now stream (λ s other to. other (sym (subst (λ (v : Event). Attaches v s) is to))) anew are

pub none_noted : (plan : Plan) (node : ℕ) (h : List NodeEntry) (entry : Entry) (scans : List Scanned) → ((stream : ℕ) (at : List ℕ) → entry.event ≡ Attached stream at → ⊥)
    → AreScans plan h scans → AreScans plan (record { node = node; entry = entry } ∷ h) scans
none_noted plan node h entry scans not are = scans_more plan (record { node = node; entry = entry }) h scans (none_attached entry.event not) are
