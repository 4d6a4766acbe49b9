-- What a server finds at a place of its input.
use Rattle.std.specs.Prelude.{◌≡◌, ℕ, List, [], ◌∷◌, ◌++◌, Option, Some, None, Result, Ok, Err}
use Rattle.pr_serve.specs.declared.ask.Ask.{Ask}
use Rattle.pr_serve.specs.declared.coming.Coming.TheVariants.{Front}
use Rattle.pr_serve.specs.declared.stop.Stop.{Stop}
use Rattle.pr_serve.specs.declared.stop.Stop.TheVariants as stops
use Rattle.pr_serve.specs.Asks.{IsAsk, ask_at, ask_text}
use Rattle.pr_serve.specs.Extents.{behind}
use Rattle.pr_serve.specs.Inputs.{Input, IsOver, Stops, Takes}

-- what may stand at a place
abbrev pub IsAskText : List ℕ → Type 0
IsAskText text = (q : Ask) × IsAsk q × (text ≡ ask_text q)

-- what is in of an ask that is not in: by its counts and lengths more bytes belong to it
abbrev pub IsAskUnderWay : List ℕ → Type 0
IsAskUnderWay [] = Unit {0}
IsAskUnderWay (b ∷ bytes) = (b ≡ 81) × (behind (b ∷ bytes) (Front 5) ≡ None)

-- an ask was found, or the input's end
abbrev pub IsNextAsk : Input → Input → Result (Option Ask) Stop → Type 0
IsNextAsk a b (Ok (Some q)) = IsAsk q × Takes a b (ask_text q)
IsNextAsk a b (Ok None) = Takes a b [] × IsOver b
IsNextAsk a b (Err stop) = (bytes : List ℕ) × Takes a b bytes × Stops IsAskText IsAskUnderWay a b bytes stop

-- what comes of taking the bytes of an ask whose mark was taken: by its counts and lengths, it ends with them
abbrev pub IsAskBytes : Input → Input → Result (List ℕ) Stop → Type 0
IsAskBytes a b (Ok all) =
    (bytes : List ℕ) × (all ≡ 81 ∷ bytes) × Takes a b bytes × ((rest : List ℕ) → behind (all ++ rest) (Front 5) ≡ Some rest)
IsAskBytes a b (Err stop) = (bytes : List ℕ) × Takes a b bytes × Stops IsAskText IsAskUnderWay a b (81 ∷ bytes) stop

-- what comes of reading such bytes
abbrev pub IsReadAsk : List ℕ → Result (Option Ask) Stop → Type 0
IsReadAsk bytes (Ok (Some q)) = (rest : List ℕ) × IsAsk q × (bytes ≡ ask_text q ++ rest)
IsReadAsk bytes (Ok None) = ⊥
IsReadAsk bytes (Err stops.Bad) = ask_at bytes ≡ None
IsReadAsk bytes (Err stops.NoMemory) = Unit {0}
IsReadAsk bytes (Err _) = ⊥
