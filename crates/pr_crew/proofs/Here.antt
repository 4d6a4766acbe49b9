-- Nodes that are here.
use Rattle.std.proofs.Common.{◌≡◌, ℕ, ◌<◌, List, refl, sym, ◌∙◌, ap, length, get_or}
use Rattle.std.specs.Prelude.{Bool, IsTrue, Option, Some, None, nat_lt, slice_set, true, false}
use Rattle.std.proofs.lemmas.Bool.Decides.{Decides-ltb}
use Rattle.pr_merge.specs.Holding.{AreAllHere, HeldState}
use Rattle.pr_crew.proofs.Slots.{put_again}

pub not_here : {X : Type 0} (slots : List (Option X)) (n : ℕ) → AreAllHere slots → n < length slots → get_or slots n None ≡ None → ⊥
not_here slots n here lt none = let (x, is) = here n lt in let e : Some x ≡ None = sym is ∙ none in cc

pub none_here : {X : Type 0} (slots : List (Option X)) (n : ℕ) → AreAllHere slots → get_or slots n None ≡ None → false ≡ nat_lt n (length slots)
none_here slots n here none = by (nat_lt n (length slots)) (Decides-ltb n (length slots)).0
  where
    by : (b : Bool) → (IsTrue b → n < length slots) → false ≡ b
    by true lt = absurd (not_here slots n here (lt refl) none)
    by false lt = refl

-- a node that was taken and given back
pub given_back : {N : Type 0} (s t u : HeldState N) (n : ℕ) (m : N) → get_or s.nodes n None ≡ Some m
    → t ≡ record { nodes = slice_set s.nodes n None; sessions = s.sessions; clients = s.clients; places = s.places }
    → u ≡ record { nodes = slice_set t.nodes n (Some m); sessions = t.sessions; clients = t.clients; places = t.places } → u ≡ s
given_back {N} s t u n m is taken given =
    given ∙ ap (λ (x : HeldState N). record { nodes = slice_set x.nodes n (Some m); sessions = x.sessions; clients = x.clients; places = x.places }) taken
    ∙ ap (λ (l : List (Option N)). record { nodes = l; sessions = s.sessions; clients = s.clients; places = s.places }) (put_again s.nodes n m is)
