-- The entries of a history, as a disk is given them.
use Rattle.std.proofs.Common.{◌≡◌, ◌<◌, ◌-◌, inl, inr, ℕ, zero, suc, List, [], ◌∷◌, ◌++◌, refl, sym, ◌∙◌, ap, subst, arith, drop, get_or, length, reverse, take}
use Rattle.std.specs.List.{AllByRecursion}
use Rattle.std.proofs.lemmas.List.{drop-map, get_or-map, get_or-reverse, length-map, length-reverse, reverse-append, take_rest}
use Rattle.std.proofs.Math.Seq.{take-append_seam}
use Rattle.pr_inval.specs.Messages.{IsMessage}
use Rattle.pr_inval.specs.declared.msg.Msg.{Msg}
use Rattle.pr_keep.specs.Entries.{HasMessage}
use Rattle.pr_sim.specs.Running.{Tells}
use Rattle.pr_sim.specs.declared.engine.Engine.{Engine}
use Rattle.pr_keep.proofs.KeepLemmas.{each_more}
use Rattle.pr_story.specs.Counts.{AreDeclared, Counts, Declared}
use Rattle.pr_story.specs.History.{NodeEntry, Plan, Sends, WasSent}
use Rattle.pr_story.specs.Lawful.{HasCause, Valid}
use Rattle.pr_story.specs.declared.entry.Entry.{Entry}
use Rattle.pr_story.specs.declared.event.Event.{Event}
use Rattle.pr_story.specs.declared.event.Event.TheVariants.{Accepted, Gapped, Sent}
use Rattle.pr_top.specs.Kept.{placed}
use Rattle.pr_top.specs.Resuming.{unplaced}

-- ---- each can be kept

message_of : (event : Event) (h : List NodeEntry) (n : ℕ) → HasCause h n event → ((msg : Msg) → Sends event msg → IsMessage msg) → ((msg : Msg) → WasSent h msg → IsMessage msg) → HasMessage event
message_of (Sent msg) h n cause now old = now msg refl
message_of (Accepted msg at) h n cause now old = old msg cause
message_of (Gapped msg has) h n cause now old = old msg cause
message_of _ h n cause now old = tt

good_at : (plan : Plan) (h : List NodeEntry) → Valid plan h → ((msg : Msg) → WasSent h msg → IsMessage msg) → (i : ℕ) (d : NodeEntry) → i < length h → ((get_or h i d).node < 32) × HasMessage (get_or h i d).entry.event
good_at plan [] valid grammar i d lt = absurd (omega arith)
good_at plan (e ∷ h) valid grammar zero d lt = (valid.0.node, message_of e.entry.event h e.node valid.0.cause (λ msg sends. grammar msg (inl sends)) (λ msg sent. grammar msg (inr sent)))
good_at plan (e ∷ h) valid grammar (suc i) d lt = good_at plan h valid.1 (λ msg sent. grammar msg (inr sent)) i d (omega (arith, lt))

-- an entry that the engine tells is at a node below 32, and a message in it is one of the grammar
pub can_keep : (d : Declared) (h : List NodeEntry) (e : Engine) → Tells d h e → (i : ℕ) (x : NodeEntry) → i < length h → ((get_or (reverse h) i x).node < 32) × HasMessage (get_or (reverse h) i x).entry.event
can_keep d h e tells i x lt =
    subst (λ (y : NodeEntry). (y.node < 32) × HasMessage y.entry.event) (sym (get_or-reverse h i x lt))
    (good_at d.plan h tells.told.valid tells.told.grammar (length h - 1 - i) x (omega (arith, lt)))

-- ---- places

pub placed_at : (xs : List NodeEntry) (i : ℕ) (x : NodeEntry) (n : ℕ) (e : Entry) → i < length xs → n ≡ (get_or xs i x).node → e ≡ (get_or xs i x).entry → (n, e) ≡ get_or (placed xs) i (n, e)
placed_at xs i x n e lt node entry =
    ap (λ (m : ℕ). let p : ℕ × Entry = (m, e) in p) node ∙ ap (λ (y : Entry). let p : ℕ × Entry = ((get_or xs i x).node, y) in p) entry
    ∙ sym (get_or-map (λ (y : NodeEntry). let p : ℕ × Entry = (y.node, y.entry) in p) xs i x (n, e) lt)

pub placed_long : (h : List NodeEntry) → length (placed (reverse h)) ≡ length h
placed_long h = length-map (reverse h) (λ (y : NodeEntry). let p : ℕ × Entry = (y.node, y.entry) in p) ∙ length-reverse h

pub placed_append : (xs ys : List NodeEntry) → placed (xs ++ ys) ≡ placed xs ++ placed ys
placed_append [] ys = refl
placed_append (x ∷ xs) ys = ap (λ (es : List (ℕ × Entry)). (x.node, x.entry) ∷ es) (placed_append xs ys)

-- what came before stands in front
pub placed_front : (new h : List NodeEntry) → placed (reverse h) ≡ take (length h) (placed (reverse (new ++ h)))
placed_front new h =
    sym (take-append_seam (placed (reverse h)) (placed (reverse new)))
    ∙ ap (λ (n : ℕ). take n (placed (reverse h) ++ placed (reverse new))) (placed_long h)
    ∙ ap (λ (es : List (ℕ × Entry)). take (length h) es) (sym (placed_append (reverse h) (reverse new)) ∙ ap placed (sym (reverse-append new h)))

-- and back
pub unplaced_placed : (es : List NodeEntry) → unplaced (placed es) ≡ es
unplaced_placed [] = refl
unplaced_placed (e ∷ es) = ap (λ (xs : List NodeEntry). e ∷ xs) (unplaced_placed es)

-- those behind so many
pub placed_behind : (ps : List (ℕ × Entry)) (es : List NodeEntry) (n : ℕ) → ps ≡ placed es → unplaced (drop n ps) ≡ drop n es
placed_behind ps es n is =
    ap (λ (qs : List (ℕ × Entry)). unplaced (drop n qs)) is
    ∙ ap unplaced (drop-map (λ (y : NodeEntry). let p : ℕ × Entry = (y.node, y.entry) in p) n es) ∙ unplaced_placed (drop n es)

pub unplaced_at : (ps : List (ℕ × Entry)) (i : ℕ) (p : ℕ × Entry) (d : NodeEntry) → i < length ps → p ≡ get_or ps i p → get_or (unplaced ps) i d ≡ record { node = p.0; entry = p.1 }
unplaced_at ps i p d lt is =
    get_or-map (λ (x : ℕ × Entry). record { node = x.0; entry = x.1 }) ps i p d lt ∙ ap (λ (x : ℕ × Entry). record { node = x.0; entry = x.1 }) (sym is)

pub unplaced_long : (ps : List (ℕ × Entry)) → length (unplaced ps) ≡ length ps
unplaced_long ps = length-map ps (λ (x : ℕ × Entry). record { node = x.0; entry = x.1 })

-- the rest of a slice of them, as `&s[n..]` is seen
pub unplaced_rest : (ps : List (ℕ × Entry)) (es : List NodeEntry) (n m : ℕ) → ps ≡ placed es → n ≡ m → unplaced (take (length ps - n) (drop n ps)) ≡ drop m es
unplaced_rest ps es n m is at = ap unplaced (take_rest ps n) ∙ placed_behind ps es n is ∙ ap (λ (i : ℕ). drop i es) at

-- each is at a declared node
pub placed_declared : (k : Counts) (h : List NodeEntry) → AreDeclared k h → AllByRecursion (λ (p : ℕ × Entry). p.0 < k.nodes) (placed (reverse h))
placed_declared k [] are = tt
placed_declared k (e ∷ h) are =
    subst (λ (es : List NodeEntry). AllByRecursion (λ (p : ℕ × Entry). p.0 < k.nodes) (placed es)) (sym (reverse-append (e ∷ []) h))
    (subst (λ (ps : List (ℕ × Entry)). AllByRecursion (λ (p : ℕ × Entry). p.0 < k.nodes) ps) (sym (placed_append (reverse h) (e ∷ [])))
    (each_more (λ (p : ℕ × Entry). p.0 < k.nodes) (placed (reverse h)) (e.node, e.entry) (placed_declared k h are.1) are.0.0))
