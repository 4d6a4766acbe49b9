-- Which flows may go down for their wires.
use Rattle.std.proofs.Common.{◌≡◌, ◌⊎◌, ℕ, ◌+◌, List, [], ◌∷◌, ◌++◌, Result, Ok, Err, inl, inr, refl, sym, ◌∙◌, ap, subst, length, reverse, arith}
use Rattle.std.specs.Prelude.{Bool, true, false, IsTrue}
use Rattle.std.proofs.lemmas.Bool.Decides.{Decides-eqb}
use Rattle.std.proofs.lemmas.List.{length-append, reverse-append, reverse-reverse}
use Rattle.pr_story.specs.declared.cause.Cause.TheVariants.{Failed, Ended}
use Rattle.pr_story.specs.declared.event.Event.{Event}
use Rattle.pr_story.specs.declared.event.Event.TheVariants.{Down}
use Rattle.pr_story.specs.History.{NodeEntry}
use Rattle.pr_story.specs.Turns.{is_of_stream}
use Rattle.pr_flow.specs.declared.stop.Stop.{Stop}
use Rattle.pr_flow.specs.declared.stop.Stop.TheVariants as stops
use Rattle.pr_stamps.specs.declared.no_memory.NoMemory.{NoMemory}
use Rattle.pr_flow.specs.Downs.{AreDownsOf, GoesOver, IsDownOf, IsLieAt, IsUnsoundFor}
use Rattle.pr_flow.specs.Lies.{IsNoLie}
use Rattle.pr_flow.specs.Sound.{AreSoundEvents, IsSoundEvent}

-- ---- one event

module _ (P : ℕ → Type 0) where
  pub sound_down : (event : Event) → IsSoundEvent event → IsDownOf P event
  sound_down (Down s Failed) a = absurd a
  sound_down (Down s Ended) a = absurd a
  sound_down event a = tt

  pub down_sound : ((s : ℕ) → P s → ⊥) → (event : Event) → IsDownOf P event → IsSoundEvent event
  down_sound none (Down s Failed) a = none s a
  down_sound none (Down s Ended) a = none s a
  down_sound none event a = tt

pub down_more : (P Q : ℕ → Type 0) → ((s : ℕ) → P s → Q s) → (event : Event) → IsDownOf P event → IsDownOf Q event
down_more P Q more (Down s Failed) a = more s a
down_more P Q more (Down s Ended) a = more s a
down_more P Q more event a = tt

-- an event of a stream is so where the stream is
pub of_stream : (P : ℕ → Type 0) (s : ℕ) → P s → (event : Event) → IsTrue (is_of_stream event s) → IsDownOf P event
of_stream P s at (Down t Failed) is = subst (λ (x : ℕ). P x) (sym ((Decides-eqb t s).0 is)) at
of_stream P s at (Down t Ended) is = subst (λ (x : ℕ). P x) (sym ((Decides-eqb t s).0 is)) at
of_stream P s at event is = tt

-- ---- lists

module _ (P : ℕ → Type 0) where
  pub downs_both : (es fs : List NodeEntry) → AreDownsOf P es → AreDownsOf P fs → AreDownsOf P (es ++ fs)
  downs_both [] fs a b = b
  downs_both (e ∷ es) fs a b = (a.0, downs_both es fs a.1 b)

  pub downs_front : (es rest : List NodeEntry) → AreDownsOf P (es ++ rest) → AreDownsOf P es
  downs_front [] rest a = tt
  downs_front (e ∷ es) rest a = (a.0, downs_front es rest a.1)

  downs_back : (es : List NodeEntry) → AreDownsOf P es → AreDownsOf P (reverse es)
  downs_back [] a = tt
  downs_back (e ∷ es) a = subst (λ (l : List NodeEntry). AreDownsOf P l) (sym (reverse-append (e ∷ []) es)) (downs_both (reverse es) (e ∷ []) (downs_back es a.1) (a.0, tt))

  pub downs_reversed : (es : List NodeEntry) → AreDownsOf P (reverse es) → AreDownsOf P es
  downs_reversed es a = subst (λ (l : List NodeEntry). AreDownsOf P l) (reverse-reverse es) (downs_back (reverse es) a)

  -- sound entries are so whichever the streams
  pub sound_downs : (es : List NodeEntry) → AreSoundEvents es → AreDownsOf P es
  sound_downs [] a = tt
  sound_downs (e ∷ es) a = (sound_down P e.entry.event a.0, sound_downs es a.1)

  -- where there is no such stream they are sound
  pub downs_sound : ((s : ℕ) → P s → ⊥) → (es : List NodeEntry) → AreDownsOf P es → AreSoundEvents es
  downs_sound none [] a = tt
  downs_sound none (e ∷ es) a = (down_sound P none e.entry.event a.0, downs_sound none es a.1)

  pub no_lie_at : {E : Type 0} → (q : Result Stop E) → IsNoLie q → IsLieAt P q
  no_lie_at (Ok (stops.Lied stream number sent got)) none = absurd none
  no_lie_at _ none = tt

pub downs_more : (P Q : ℕ → Type 0) → ((s : ℕ) → P s → Q s) → (es : List NodeEntry) → AreDownsOf P es → AreDownsOf Q es
downs_more P Q more [] a = tt
downs_more P Q more (e ∷ es) a = (down_more P Q more e.entry.event a.0, downs_more P Q more es a.1)

pub lie_more : {E : Type 0} → (P Q : ℕ → Type 0) → ((s : ℕ) → P s → Q s) → (q : Result Stop E) → IsLieAt P q → IsLieAt Q q
lie_more P Q more (Ok (stops.Lied stream number sent got)) at = more stream at
lie_more P Q more _ at = tt

-- ---- connections

module _ (sound : ℕ → Bool) where
  pub unsound_more : (made : ℕ) (fs gs : List ℕ) (x : ℕ) → IsUnsoundFor sound made fs x → IsUnsoundFor sound made (fs ++ gs) x
  unsound_more made [] gs x a = absurd a
  unsound_more made (s ∷ fs) gs x (inl here) = inl here
  unsound_more made (s ∷ fs) gs x (inr later) = inr (unsound_more (made + 1) fs gs x later)

  -- the same of flows behind others, each with a connection
  pub unsound_behind : (made next : ℕ) (fs gs : List ℕ) (x : ℕ) → next ≡ made + length fs → IsUnsoundFor sound next gs x → IsUnsoundFor sound made (fs ++ gs) x
  unsound_behind made next [] gs x is a = let same : next ≡ made = omega (arith, is) in subst (λ (n : ℕ). IsUnsoundFor sound n gs x) same a
  unsound_behind made next (s ∷ fs) gs x is a = inr (unsound_behind (made + 1) next fs gs x (omega (arith, is)) a)

  pub none_unsound : ((k : ℕ) → IsTrue (sound k)) → (made : ℕ) (fs : List ℕ) (x : ℕ) → IsUnsoundFor sound made fs x → ⊥
  none_unsound all made [] x a = a
  none_unsound all made (s ∷ fs) x (inl here) = let bad : true ≡ false = sym (all (made + 1)) ∙ here.1 in absurd (cc)
  none_unsound all made (s ∷ fs) x (inr later) = none_unsound all (made + 1) fs x later

  -- a connection is sound, or the flow that it is for is one of these
  pub sound_or : (made s : ℕ) → IsTrue (sound (made + 1)) ⊎ IsUnsoundFor sound made (s ∷ []) s
  sound_or made s = by (sound (made + 1)) refl
    where
      by : (b : Bool) → sound (made + 1) ≡ b → IsTrue b ⊎ IsUnsoundFor sound made (s ∷ []) s
      by true is = inl refl
      by false is = inr (inl (refl, is))

-- ---- flows one after the other

-- those so far, the next ones and the others are all
module _ (sound later : ℕ → Bool) (made next : ℕ) (fs gs rest all : List ℕ) (same : later ≡ sound) (is : all ≡ fs ++ (gs ++ rest)) where
  pub so_far_here : (x : ℕ) → IsUnsoundFor sound made fs x → IsUnsoundFor sound made all x
  so_far_here x a = subst (λ (l : List ℕ). IsUnsoundFor sound made l x) (sym is) (unsound_more sound made fs (gs ++ rest) x a)

  pub next_here : next ≡ made + length fs → (x : ℕ) → IsUnsoundFor later next gs x → IsUnsoundFor sound made all x
  next_here many x a =
      let here : IsUnsoundFor sound next gs x = subst (λ (f : ℕ → Bool). IsUnsoundFor f next gs x) same a in
      subst (λ (l : List ℕ). IsUnsoundFor sound made l x) (sym is) (unsound_behind sound made next fs (gs ++ rest) x many (unsound_more sound next gs rest x here))

-- where the next ones are the last
pub made_on : (a b c : ℕ) (fs gs rest all : List ℕ) → all ≡ fs ++ (gs ++ rest) → rest ≡ [] → b ≡ a + length fs → c ≡ b + length gs → c ≡ a + length all
made_on a b c fs gs rest all is last many now =
    let long : length all ≡ length (fs ++ (gs ++ rest)) = ap (λ (l : List ℕ). length l) is in
    let none : length rest ≡ 0 = ap (λ (l : List ℕ). length l) last in
    omega (arith, long, none, length-append fs (gs ++ rest), length-append gs rest, now, many)

module _ {W : Type 0} (made : W → ℕ) (sound : W → ℕ → Bool) where
  -- what did not end is no lie
  pub refused_over : (flows : List ℕ) (a b : W) (refused : NoMemory) (q : Result Stop NoMemory) → q ≡ Err refused → GoesOver made sound flows a b q
  refused_over flows a b refused q is = record {
    each_made = λ went. absurd (cc);
    lie = subst (λ (x : Result Stop NoMemory). IsLieAt (IsUnsoundFor (sound a) (made a) flows) x) (sym is) tt;
  }
