-- A feed that holds just the frame of a message gives it.
use Rattle.std.proofs.Common.{◌≡◌, ◌≤◌, ◌<◌, ◌^◌, ℕ, List, [], ◌++◌, length, refl, sym, ap, ◌∙◌, subst, arith}
use Rattle.std.proofs.lemmas.List.{append-nil, length-append}
use Rattle.pr_inval.specs.declared.msg.Msg.{Msg}
use Rattle.pr_wire.specs.declared.format.Format.{Format}
use Rattle.pr_wire.specs.declared.format.Format.TheVariants.{Two}
use Rattle.pr_wire.specs.declared.next.Next.{Next}
use Rattle.pr_wire.specs.declared.next.Next.TheVariants.{Message, More, Bad}
use Rattle.pr_wire.specs.Feeding.{Fed, HasAnswered, HoldsJust}
use Rattle.pr_wire.specs.Frames.{IsBad, IsPartial}
use Rattle.pr_wire.specs.Messages.{HasSpelling}
use Rattle.pr_wire.specs.Spelling.{content, eight, spelling}

content_fits : (m : Msg) → length (content Two m) ≤ length (spelling Two m)
unfolding spelling
content_fits m = omega (arith, length-append (eight (length (content Two m))) (content Two m))

-- the laws of frames, in the words of their contracts
abbrev pub FramesAreGood : Type 0
FramesAreGood = (limit : ℕ) (f : Format) (m : Msg) (x : List ℕ) → HasSpelling f m → limit < 2 ^ 64 → length (content f m) ≤ limit → ¬ IsBad limit (spelling f m ++ x) × ¬ IsPartial limit (spelling f m ++ x)

abbrev pub FramesAreApart : Type 0
FramesAreApart = (f g : Format) (m n : Msg) (x y : List ℕ) → HasSpelling f m → HasSpelling g n → spelling f m ++ x ≡ spelling g n ++ y → (f ≡ g) × (m ≡ n) × (x ≡ y)

good : FramesAreGood → (feed : Fed) (m : Msg) → HoldsJust feed m → length feed.rest < 2 ^ 64 → ¬ IsBad feed.limit feed.rest × ¬ IsPartial feed.limit feed.rest
good law feed m is fits =
    let rest : feed.rest ≡ spelling Two m ++ [] = is.frame.1 ∙ sym (append-nil (spelling Two m)) in
    let size : length feed.rest ≡ length (spelling Two m) = ap (λ (t : List ℕ). length t) is.frame.1 in
    subst (λ (t : List ℕ). ¬ IsBad feed.limit t × ¬ IsPartial feed.limit t) (sym rest)
    (law feed.limit Two m [] is.frame.0 (omega (arith, is.limit)) (omega (arith, is.limit, fits, size, content_fits m)))

pub never : FramesAreGood → (feed after : Fed) (m : Msg) (next : Next) → HoldsJust feed m → length feed.rest < 2 ^ 64 → HasAnswered feed after next → ((n : Msg) → next ≡ Message n → ⊥) → ⊥
never law feed after m (Message n) is fits answer none = none n refl
never law feed after m More is fits answer none = (good law feed m is fits).1 answer.1
never law feed after m (Bad at) is fits answer none = (good law feed m is fits).0 answer.2

pub same_message : FramesAreApart → (feed after : Fed) (m n : Msg) (next : Next) → HoldsJust feed m → HasAnswered feed after next → next ≡ Message n → n ≡ m
same_message law feed after m n next is answer was =
    let here : HasAnswered feed after (Message n) = subst (λ (x : Next). HasAnswered feed after x) was answer in
    let given = here.1 in
    (law here.0 Two n m after.rest [] given.spelled is.frame.0 (sym given.front ∙ is.frame.1 ∙ sym (append-nil (spelling Two m)))).1
