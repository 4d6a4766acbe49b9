-- What a feed gives, and its runs.
use Rattle.std.proofs.Common.{◌≡◌, ℕ, ◌+◌, ◌≤◌, ◌-◌, List, [], ◌∷◌, ◌++◌, length, take, drop, refl, sym, ap, ◌∙◌, append_assoc, arith}
use Rattle.std.proofs.lemmas.List.{append-nil, drop-drop, length-append}
use Rattle.pr_inval.specs.declared.msg.Msg.{Msg}
use Rattle.pr_wire.specs.declared.format.Format.{Format}
use Rattle.pr_wire.specs.Fronts.{IsSpelled}
use Rattle.pr_wire.proofs.WriteLemmas.{slice_from}
use Rattle.pr_wire.specs.Feeding.{Event, Took, Gave, Fed, HasGiven, Runs, bytes_given, bytes_taken, counted}
use Rattle.pr_wire.specs.Spelling.{spelling}

-- a feed's rest is its bytes from the first that was not given
pub is_rest : (start : ℕ) (items bytes : List ℕ) → items ≡ bytes → take (length items - start) (drop start items) ≡ drop start bytes
is_rest start items bytes is = slice_from start items ∙ ap (λ (t : List ℕ). drop start t) is

-- a message at the front of the rest is given
pub given_from : (limit start given len counts : ℕ) (bytes rest : List ℕ) (f : Format) (m : Msg) → rest ≡ drop start bytes → IsSpelled limit rest m len f → counts ≡ counted given len
    → HasGiven (record { limit = limit; rest = drop start bytes; given = given }) (record { limit = limit; rest = drop (start + len) bytes; given = counts }) f m
given_from limit start given len counts bytes rest f m is spelled count =
    let behind : drop len rest ≡ drop (start + len) bytes = ap (λ (t : List ℕ). drop len t) is ∙ drop-drop len start bytes ∙ ap (λ (k : ℕ). drop k bytes) (let e : start + len ≡ start + len = refl in e) in
    record {
      spelled = spelled.spelled;
      short = spelled.short;
      front = sym is ∙ spelled.front ∙ ap (λ (t : List ℕ). spelling f m ++ t) behind;
      given = count ∙ ap (λ (k : ℕ). counted given k) spelled.size;
      limit = refl;
    }

pub run_gives : (events : List Event) (a b : Fed) → Runs a events b → a.rest ++ bytes_taken events ≡ bytes_given events ++ b.rest
run_gives [] a b run = append-nil a.rest ∙ ap (λ (x : Fed). x.rest) (sym run)
run_gives (Took piece ∷ events) a b run =
    let c = run.0 in
    sym (append_assoc a.rest piece (bytes_taken events))
    ∙ ap (λ (x : Fed). x.rest ++ bytes_taken events) (sym run.1)
    ∙ run_gives events c b run.2
run_gives (Gave f m ∷ events) a b run =
    let c = run.0 in
    ap (λ (x : List ℕ). x ++ bytes_taken events) run.1.front
    ∙ append_assoc (spelling f m) c.rest (bytes_taken events)
    ∙ ap (λ (x : List ℕ). spelling f m ++ x) (run_gives events c b run.2)
    ∙ sym (append_assoc (spelling f m) (bytes_given events) b.rest)

count_more : (a x y : ℕ) → counted (counted a x) y ≡ counted a (x + y)
count_more a x y = omega arith

pub run_counts : (events : List Event) (a b : Fed) → a.given ≤ 18446744073709551615 → Runs a events b → b.given ≡ counted a.given (length (bytes_given events))
run_counts [] a b most run = ap (λ (x : Fed). x.given) run ∙ omega arith
run_counts (Took piece ∷ events) a b most run =
    let c = run.0 in
    let same : c.given ≡ a.given = ap (λ (x : Fed). x.given) run.1 in
    run_counts events c b (omega arith) run.2 ∙ ap (λ (k : ℕ). counted k (length (bytes_given events))) same
run_counts (Gave f m ∷ events) a b most run =
    let c = run.0 in
    let here : c.given ≡ counted a.given (length (spelling f m)) = run.1.given in
    run_counts events c b (omega (arith, here)) run.2
    ∙ ap (λ (k : ℕ). counted k (length (bytes_given events))) here
    ∙ count_more a.given (length (spelling f m)) (length (bytes_given events))
    ∙ ap (λ (k : ℕ). counted a.given k) (sym (length-append (spelling f m) (bytes_given events)))
