-- Vectors, and what holds of every list of entries.
use Rattle.std.proofs.Common.{◌≡◌, ℕ, ◌<◌, ◌≤◌, ◌⊎◌, inl, inr, List, [], ◌∷◌, max, cond, nat_eq, refl, sym, ◌∙◌, ap, arith, get_or, map, zero, suc}
use Rattle.std.specs.Prelude.{Bool, true, false}
use Rattle.std.specs.List.{range_with_len}
use Rattle.std.proofs.lemmas.Bool.Decides.{Decides-eqb}
use Rattle.pr_vectors.specs.Vector.{clock_of, vector_of, zero_vector}
use Rattle.pr_vectors.proofs.Vectors.{clock_of-vector_of}
use Rattle.pr_inval.specs.declared.kind.Kind.{Kind}
use Rattle.pr_story.specs.declared.event.Event.{Event}
use Rattle.pr_story.specs.declared.event.Event.TheVariants.{Accepted}
use Rattle.pr_inval.specs.Points.{to_of}
use Rattle.pr_story.specs.History.{NodeEntry, SomeEvent, journal, Accepts, HasAccepted, clock_brought, current_clock, current_vector}
use Rattle.pr_story.specs.declared.entry.Entry.{Entry}

zeros : (xs : List ℕ) (n : ℕ) → ◌≡◌ {A = ℕ} (get_or (map (λ _. 0) xs) n 0) 0
zeros [] n = refl
zeros (x ∷ xs) zero = refl
zeros (x ∷ xs) (suc n) = zeros xs n

pub clock_zero : (n : ℕ) → ◌≡◌ {A = ℕ} (clock_of zero_vector n) 0
unfolding vector_of
clock_zero n = zeros (range_with_len 0 32) n

-- the clock of w at node n, by the whole history
abbrev pub clock_at : List NodeEntry → ℕ → ℕ → ℕ
clock_at [] n w = 0
clock_at (e ∷ h) n w = max (clock_at h n w) (cond (nat_eq e.node n) (clock_brought e.entry.event w) 0)

clock_step : (b : Bool) (e : Entry) (j : List Entry) (w : ℕ) → current_clock (cond b (e ∷ j) j) w ≡ max (current_clock j w) (cond b (clock_brought e.event w) 0)
clock_step true e j w = refl
clock_step false e j w = omega arith

pub clock_is : (h : List NodeEntry) (n w : ℕ) → current_clock (journal h n) w ≡ clock_at h n w
clock_is [] n w = refl
clock_is (e ∷ h) n w = clock_step (nat_eq e.node n) e.entry (journal h n) w ∙ ap (λ (k : ℕ). max k (cond (nat_eq e.node n) (clock_brought e.entry.event w) 0)) (clock_is h n w)

pub vector_clock : (h : List NodeEntry) (n w : ℕ) → w < 32 → clock_of (current_vector (journal h n)) w ≡ clock_at h n w
vector_clock h n w lt = clock_of-vector_of (current_clock (journal h n)) w lt ∙ clock_is h n w

-- an event of a longer journal is the new one or an older one
split_cond : (P : Event → Type 0) (b : Bool) (e : Entry) (j : List Entry) → SomeEvent P (cond b (e ∷ j) j) → ((b ≡ true) × P e.event) ⊎ SomeEvent P j
split_cond P true e j s = elim s [ inl now ↦ inl (refl, now) | inr old ↦ inr old ]
split_cond P false e j s = inr s

pub split : (P : Event → Type 0) (e : NodeEntry) (h : List NodeEntry) (n : ℕ) → SomeEvent P (journal (e ∷ h) n) → ((e.node ≡ n) × P e.entry.event) ⊎ SomeEvent P (journal h n)
split P e h n s = elim (split_cond P (nat_eq e.node n) e.entry (journal h n) s) [ inl now ↦ inl ((Decides-eqb e.node n).0 now.0, now.1) | inr old ↦ inr old ]

older_cond : (P : Event → Type 0) (b : Bool) (e : Entry) (j : List Entry) → SomeEvent P j → SomeEvent P (cond b (e ∷ j) j)
older_cond P true e j s = inr s
older_cond P false e j s = s

pub older_event : (P : Event → Type 0) (e : NodeEntry) (h : List NodeEntry) (n : ℕ) → SomeEvent P (journal h n) → SomeEvent P (journal (e ∷ h) n)
older_event P e h n s = older_cond P (nat_eq e.node n) e.entry (journal h n) s

newer_cond : (P : Event → Type 0) (b : Bool) (e : Entry) (j : List Entry) → b ≡ true → P e.event → SomeEvent P (cond b (e ∷ j) j)
newer_cond P true e j is p = inl p
newer_cond P false e j is p = cc

pub newer_event : (P : Event → Type 0) (e : NodeEntry) (h : List NodeEntry) (n : ℕ) → e.node ≡ n → P e.entry.event → SomeEvent P (journal (e ∷ h) n)
newer_event P e h n is p = newer_cond P (nat_eq e.node n) e.entry (journal h n) ((Decides-eqb e.node n).1 is) p

-- what a message that was accepted brings
brings : (event : Event) (k : Kind) (w : ℕ) → Accepts event k → clock_of (to_of k) w ≡ clock_brought event w
brings (Accepted msg at) k w a = ap (λ (j : Kind). clock_of (to_of j) w) (sym a)
brings _ k w a = absurd a

pub accepted_reached : (j : List Entry) (k : Kind) (w : ℕ) → HasAccepted j k → clock_of (to_of k) w ≤ current_clock j w
accepted_reached [] k w a = absurd a
accepted_reached (e ∷ j) k w a = elim a [
  | inl now ↦ let b : clock_of (to_of k) w ≡ clock_brought e.event w = brings e.event k w now in omega arith
  | inr old ↦ let b : clock_of (to_of k) w ≤ current_clock j w = accepted_reached j k w old in omega arith
]
