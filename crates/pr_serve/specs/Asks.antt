-- Asks for a stream, and their one spelling (docs/WIRE.md).
use Rattle.std.specs.Prelude.{◌≤◌, ◌<◌, ◌^◌, ℕ, Bool, nat_le, ◌==◌, ◌&&◌, List, [], ◌∷◌, ◌++◌, length, Option}
use Rattle.pr_sets.specs.Spans.{IsSet}
use Rattle.pr_vectors.specs.Vector.{IsVector}
use Rattle.pr_wire.specs.declared.format.Format.TheVariants.{Two}
use Rattle.pr_wire.specs.Reading.{◌>>=◌, byte_at, eight_at, four_at, given, gone_at, target_at, vector_at}
use Rattle.pr_wire.specs.Spelling.{eight, four, gone_text, list_text, span_text, vector_text}
use Rattle.pr_serve.specs.declared.ask.Ask.{Ask}

-- for at least one name, and for 1 to 1,000,000 turns
pub record IsAsk (q : Ask) : Type 0 where
  pub stream : q.stream < 2 ^ 32
  pub start : IsVector q.start
  pub set : IsSet q.sub
  pub few : length q.sub < 2 ^ 64
  pub some : 1 ≤ length q.sub
  pub from_one : 1 ≤ q.turns
  pub most : q.turns ≤ 1000000

-- whether bodies are asked for is spelled as format 2 spells whether a write is a delete
abbrev pub flag_text : Bool → List ℕ
flag_text b = gone_text Two b

unfoldable pub ask_text : Ask → List ℕ
ask_text q = 81 ∷ (four q.stream ++ (vector_text q.start ++ (list_text span_text q.sub ++ (flag_text q.bodies ++ eight q.turns))))

-- the spellings of asks, one behind the other
abbrev pub asks_text : List Ask → List ℕ
asks_text [] = []
asks_text (q ∷ qs) = ask_text q ++ asks_text qs

abbrev pub AreAsks : List Ask → Type 0
AreAsks [] = Unit {0}
AreAsks (q ∷ qs) = IsAsk q × AreAsks qs

-- ---- reading

-- some name is asked for, and a number of turns that can be asked for
abbrev pub is_asking : ℕ → ℕ → Bool
is_asking spans turns = nat_le 1 spans && (nat_le 1 turns && nat_le turns 1000000)

-- an ask from the front of bytes, with the bytes after it
unfoldable pub ask_at : List ℕ → Option (Ask × List ℕ)
ask_at bytes = do
  mark ← byte_at bytes
  ours ← given (mark.0 == 81) mark
  stream ← four_at ours.1
  start ← vector_at stream.1
  sub ← target_at start.1
  flag ← gone_at Two sub.1
  turns ← eight_at flag.1
  given (is_asking (length sub.0) turns.0) (record { stream = stream.0; start = start.0; sub = sub.0; bodies = flag.0; turns = turns.0 }, turns.1)
