-- What each job works on, one job after the other.
use Rattle.std.proofs.Common.{◌≡◌, ℕ, ◌+◌, ◌<◌, List, [], ◌∷◌, ◌++◌, All, refl, subst, sym, get_or, length, take}
use Rattle.std.proofs.lemmas.List.Elements.{All-append, All-cons, All-nil}
use Rattle.std.proofs.lemmas.Option.{slice_get-get_or}
use Rattle.pr_script.specs.declared.owner.Owner.{Owner}
use Rattle.pr_script.specs.Steps.{Numbered}
use Rattle.pr_story.specs.History.{NodeEntry, Plan}
use Rattle.pr_crew.specs.declared.work.Work.{Work}
use Rattle.pr_crew.specs.Works.{AreWorks, IsSmall, IsWork}
use Rattle.pr_crew.proofs.Places.{take_push}

works_push : (plan : Plan) (h : List NodeEntry) (count : ℕ) (inside : List Numbered) (os : List Owner) (ws : List Work) (o : Owner) (w : Work) → AreWorks plan h count inside os ws → IsWork plan h count inside o w
    → AreWorks plan h count inside (os ++ o ∷ []) (ws ++ w ∷ [])
works_push plan h count inside [] [] o w are is = (is, refl)
works_push plan h count inside [] (v ∷ ws) o w are is = let bad : v ∷ ws ≡ [] = are in absurd (cc)
works_push plan h count inside (p ∷ os) [] o w are is = absurd are
works_push plan h count inside (p ∷ os) (v ∷ ws) o w are is = (are.0, works_push plan h count inside os ws o w are.1 is)

-- one job more
pub more_works : (plan : Plan) (h : List NodeEntry) (count : ℕ) (inside : List Numbered) (os : List Owner) (i : ℕ) (ws then : List Work) (any : Owner) (w : Work) → i < length os
    → AreWorks plan h count inside (take i os) ws → IsWork plan h count inside (get_or os i any) w → then ≡ ws ++ w ∷ [] → AreWorks plan h count inside (take (i + 1) os) then
more_works plan h count inside os i ws then any w lt are is then_is =
    subst (λ (l : List Work). AreWorks plan h count inside (take (i + 1) os) l) (sym then_is)
    (subst (λ (l : List Owner). AreWorks plan h count inside l (ws ++ w ∷ [])) (sym (take_push os i (get_or os i any) (slice_get-get_or os i any lt))) (works_push plan h count inside (take i os) ws (get_or os i any) w are is))

pub more_small : (ws then : List Work) (w : Work) → All IsSmall ws → IsSmall w → then ≡ ws ++ w ∷ [] → All IsSmall then
more_small ws then w all small is = subst (λ (l : List Work). All IsSmall l) (sym is) (All-append IsSmall ws (w ∷ []) all (All-cons IsSmall w [] small (All-nil IsSmall)))
