-- An ask that comes byte by byte.
use Rattle.std.proofs.Common.{◌≡◌, ◌≢◌, ◌≤◌, ℕ, List, [], ◌∷◌, ◌++◌, length, Bool, IsTrue, true, false, Option, Some, None, Result, Ok, Err, refl, sym, ap, subst, ◌∙◌, arith, inl}
use Rattle.pr_serve.specs.declared.ask.Ask.{Ask}
use Rattle.pr_serve.specs.declared.coming.Coming.{Coming}
use Rattle.pr_serve.specs.declared.coming.Coming.TheVariants.{Front, Nothing}
use Rattle.pr_serve.specs.declared.stop.Stop.{Stop}
use Rattle.pr_serve.specs.declared.stop.Stop.TheVariants as stops
use Rattle.pr_serve.specs.Asking.{IsAskBytes, IsAskText, IsAskUnderWay, IsNextAsk, IsReadAsk}
use Rattle.pr_serve.specs.Extents.{behind, coming_after}
use Rattle.pr_serve.specs.Inputs.{Input, IsNextByte, NoneStands, Takes}
use Rattle.pr_serve.proofs.AskExtent.{Extends, ask_is_all, extends_more, no_ask_begins, nothing_stands, part_of_ask}
use Rattle.pr_serve.proofs.Taking.{stopped_before, stopped_next, takes_none, takes_then}

pub bytes_stop : (a b c : Input) (bytes : List ℕ) (stop : Stop) (r : Result (List ℕ) Stop) → r ≡ Err stop → Takes a b bytes → IsAskUnderWay (81 ∷ bytes) → NoneStands IsAskText (81 ∷ bytes) → IsNextByte b c (Err stop) → IsAskBytes a c r
bytes_stop a b c bytes stop r is taken under none next = subst (λ (x : Result (List ℕ) Stop). IsAskBytes a c x) (sym is) (let r = stopped_next IsAskText IsAskUnderWay a b c bytes (81 ∷ bytes) stop taken under none next in (bytes, r.0, r.1))

pub first_stops : (a b : Input) (stop : Stop) (r : Result (Option Ask) Stop) → r ≡ Err stop → IsNextByte a b (Err stop) → IsNextAsk a b r
first_stops a b stop r is next = subst (λ (x : Result (Option Ask) Stop). IsNextAsk a b x) (sym is) (let r = stopped_next IsAskText IsAskUnderWay a a b [] [] stop (takes_none a) tt nothing_stands next in ([], r.0, r.1))

pub rest_stops : (first : ℕ) (a b c : Input) (stop : Stop) (r : Result (Option Ask) Stop) → r ≡ Err stop → first ≡ 81 → Takes a b (first ∷ []) → IsAskBytes b c (Err stop) → IsNextAsk a c r
rest_stops first a b c stop r is mark taken (bytes, more, why) =
    subst (λ (x : Result (Option Ask) Stop). IsNextAsk a c x) (sym is)
    (81 ∷ bytes, takes_then a b c (81 ∷ []) bytes (subst (λ (k : ℕ). Takes a b (k ∷ [])) mark taken) more, stopped_before IsAskText IsAskUnderWay a b c (81 ∷ bytes) stop taken.rises why)

module _ (a b c : Input) (first : ℕ) (all : List ℕ) (mark : first ≡ 81) (taken : Takes a b (first ∷ [])) (is : IsAskBytes b c (Ok all)) where
  took_all : Takes a c all
  took_all = subst (λ (t : List ℕ). Takes a c t) (sym is.1) (takes_then a b c (81 ∷ []) is.0 (subst (λ (k : ℕ). Takes a b (k ∷ [])) mark taken) is.2)

  some_bytes : 1 ≤ length all
  some_bytes = omega (arith, ap (λ (t : List ℕ). length t) is.1)

  pub read_so : (r : Result (Option Ask) Stop) → IsReadAsk all r → IsNextAsk a c r
  read_so (Ok (Some q)) (rest, good, spelled) = (good, subst (λ (t : List ℕ). Takes a c t) (ask_is_all all rest q is.3 good spelled) took_all)
  read_so (Ok None) read = absurd read
  read_so (Err stops.Bad) none = (all, took_all, (some_bytes, inl (no_ask_begins all is.3 none)))
  read_so (Err stops.NoMemory) read = (all, took_all, tt)
  read_so (Err stops.Failed) read = absurd read
  read_so (Err stops.TooLarge) read = absurd read

-- ---- a byte more of an ask

pub so_far : (bytes now : List ℕ) (coming after : Coming) (byte : ℕ) → Extends bytes coming → coming ≢ Nothing → now ≡ bytes ++ byte ∷ [] → after ≡ coming_after coming byte → Extends now after
so_far bytes now coming after byte extends more is next =
    subst (λ (k : Coming). Extends now k) (sym next) (subst (λ (t : List ℕ). Extends t (coming_after coming byte)) (sym is) (extends_more bytes coming byte extends more))

pub under_way : (bytes more : List ℕ) (coming : Coming) → bytes ≡ 81 ∷ more → Extends bytes coming → coming ≢ Nothing → IsAskUnderWay (81 ∷ more)
under_way bytes more coming is extends rest = (refl, subst (λ (t : List ℕ). behind t (Front 5) ≡ None) is (part_of_ask bytes coming extends rest))

pub stands_as : (bytes all : List ℕ) → bytes ≡ all → NoneStands IsAskText bytes → NoneStands IsAskText all
stands_as bytes all is none = subst (λ (t : List ℕ). NoneStands IsAskText t) is none

pub more_comes : (b : Bool) (coming : Coming) → (coming ≡ Nothing → IsTrue b) → b ≡ false → coming ≢ Nothing
more_comes b coming tells test is = let bad : false ≡ true = sym test ∙ tells is in absurd cc
