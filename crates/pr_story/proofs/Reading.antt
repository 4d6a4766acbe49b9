-- What reads say.
use Rattle.std.proofs.Common.{◌≡◌, ℕ, ◌<◌, ◌≤◌, ◌⊎◌, inl, inr, List, [], ◌∷◌, zero, suc, refl, sym, subst, arith}
use Rattle.std.specs.Prelude.{Some, Bool, true, false}
use Rattle.std.proofs.lemmas.Bool.Decides.{nat_tests}
use Rattle.pr_stamps.specs.Point.{Point}
use Rattle.pr_vectors.specs.Vector.{clock_of, Le}
use Rattle.pr_story.specs.declared.event.Event.{Event}
use Rattle.pr_story.specs.declared.event.Event.TheVariants.{Answered, Behind}
use Rattle.pr_story.specs.declared.reply.Reply.{Reply}
use Rattle.pr_story.specs.declared.reply.Reply.TheVariants as reply
use Rattle.pr_story.specs.History.{Plan, NodeEntry, journal, current_vector}
use Rattle.pr_story.specs.Knowledge.{IsNewest, IsGone}
use Rattle.pr_story.specs.Lawful.{IsLawful}
use Rattle.pr_story.specs.Laws.{IsAnswerOf}
use Rattle.pr_story.specs.Reading.{IsWriteTo, IsLastCovered, SaysOf, ReadsSo}
use Rattle.pr_story.proofs.World.{World}
use Rattle.pr_story.proofs.Known.{held_written}
use Rattle.pr_story.proofs.Steps.{valid_world, entry_at}
use Rattle.pr_story.specs.Statements.{ReadsAreSo}

upto_or : (a b k n : ℕ) → n < suc k → (n < k) ⊎ (n ≡ k)
upto_or a b k n lt = grind (arith, nat_tests)

le_or : (a b : ℕ) → (a ≤ b) ⊎ (b < a)
le_or a b = grind (arith, nat_tests)

-- one vector is at most the other, or some node says not
some_less : (v w : List ℕ) (k : ℕ) → ((n : ℕ) → n < k → clock_of v n ≤ clock_of w n) ⊎ ((n : ℕ) × (n < k) × (clock_of w n < clock_of v n))
some_less v w zero = inl (λ n lt. absurd (omega arith))
some_less v w (suc k) = elim (some_less v w k) [
  | inl le ↦ elim (le_or (clock_of v k) (clock_of w k)) [
    | inl here ↦ inl (λ n lt. elim (upto_or 0 0 k n lt) [ inl old ↦ le n old | inr now ↦ subst (λ (m : ℕ). clock_of v m ≤ clock_of w m) (sym now) here ])
    | inr less ↦ inr (k, omega arith, less)
  ]
  | inr less ↦ inr (less.0, let lt : less.0 < k = less.1 in omega arith, less.2)
]

pub lesser : (v w : List ℕ) → (Le v w → ⊥) → (n : ℕ) × (n < 32) × (clock_of w n < clock_of v n)
lesser v w not = elim (some_less v w 32) [ inl le ↦ absurd (not le) | inr less ↦ less ]

newest_last : (h : List NodeEntry) (v : List ℕ) (o : List ℕ) (t : Point) → IsNewest h v o (Some t) → IsLastCovered h v o t
newest_last h v o t n = (n.0.6, λ x body dep w name c. n.1 x.stamp (x, body, dep, w, name, refl, c))

gone_write : (h : List NodeEntry) (o : List ℕ) (t : Point) (gone : Bool) → IsGone h o t gone → (bytes : List ℕ) × IsWriteTo h o t bytes gone
gone_write h o t gone g = (g.1, (g.0, g.2, g.3, g.4, g.5, g.6))

says : (plan : Plan) (h : List NodeEntry) → World h → (n : ℕ) (o : List ℕ) (answer : Reply) → IsAnswerOf plan h n o answer → SaysOf plan h n (current_vector (journal h n)) o answer
says plan h f n o reply.Never a = λ x body dep w name c. a.1 x.stamp (x, body, dep, w, name, refl, c)
says plan h f n o (reply.Value t bytes) a = (newest_last h (current_vector (journal h n)) o t a.1, held_written h f n o t bytes a.3)
says plan h f n o (reply.Gone t) a = (newest_last h (current_vector (journal h n)) o t a.1, gone_write h o t true a.2)
says plan h f n o (reply.Body t) a = (newest_last h (current_vector (journal h n)) o t a.1, gone_write h o t false a.2, a.3)
says plan h f n o (reply.Imprecise p) a = a

read_so : (plan : Plan) (h : List NodeEntry) (n time caller : ℕ) (event : Event) → World h → IsLawful plan h (entry_at n time caller event) → ReadsSo plan h n event
read_so plan h n time caller (Answered client o answer at) f l =
    (l.placed, l.may_come.1, subst (λ (v : List ℕ). SaysOf plan h n v o answer) (sym l.may_come.1) (says plan h f n o answer l.may_come.0))
read_so plan h n time caller (Behind client needs has) f l =
    (l.placed, l.may_come.0, l.may_come.2, subst (λ (v : List ℕ). (w : ℕ) × (w < 32) × (clock_of v w < clock_of needs w)) (sym l.may_come.2) (lesser needs (current_vector (journal h n)) l.may_come.1))
read_so plan h n time caller event f l = tt

pub reads_are_so : ReadsAreSo
reads_are_so plan [] v = tt
reads_are_so plan (e ∷ h) v = (read_so plan h e.node e.entry.time e.entry.caller e.entry.event (valid_world plan h v.1) v.0, reads_are_so plan h v.1)
