-- The parts that lines have in common. Rules stand in rising order, and each is looked at only where those before it
-- hold.
use Rattle.std.specs.Prelude.{[], ◌∷◌, ℕ, List, Option, Some, None, is_some, Result, Ok, Err, Bool, ◌&&◌, if◌then◌else◌}
use Rattle.pr_script.specs.declared.kind.Kind.{Kind}
use Rattle.pr_script.specs.declared.kind.Kind.TheVariants as kinds
use Rattle.pr_script.specs.declared.known.Known.{Known}
use Rattle.pr_script.specs.declared.parts.Written.{Written}
use Rattle.pr_script.specs.Fields.{◌>>=◌, or_zero, or_none, field_at, last_field, number_in, name_of}
use Rattle.pr_script.specs.Texts.{last_text}
use Rattle.pr_script.specs.Labels.{is_label, number_among}

-- the least rule that is broken, of rules that stand in rising order, each with whether it holds
abbrev pub least_broken : List (ℕ × Bool) → Option ℕ
least_broken [] = None
least_broken (r ∷ rs) = if r.1 then least_broken rs else Some r.0

abbrev pub judged : {A : Type 0} → Option ℕ → A → Result A ℕ
judged None item = Ok item
judged (Some why) item = Err why

abbrev pub is_used : Kind → Known → List ℕ → Bool
is_used kind k label = is_some (number_among kind k.decls label)

abbrev pub number : Kind → Known → List ℕ → ℕ
number kind k label = or_zero (number_among kind k.decls label)

-- a label alone
unfoldable pub label_at : Kind → Known → List ℕ → Result ℕ ℕ
label_at kind k rest = do
  label ← last_field rest
  judged (least_broken (
      (4, is_label label)
      ∷ (9, is_used kind k label)
      ∷ [])) (number kind k label)

-- a label and a name
unfoldable pub name_at : Kind → Known → List ℕ → Result (ℕ × List ℕ) ℕ
name_at kind k rest = do
  label ← field_at rest
  name ← last_field label.1
  judged (least_broken (
      (4, is_label label.0)
      ∷ (5, is_some (name_of name))
      ∷ (9, is_used kind k label.0)
      ∷ [])) (number kind k label.0, or_none (name_of name))

-- a stream and a number
unfoldable pub turns_at : ℕ → Known → List ℕ → Result (ℕ × ℕ) ℕ
turns_at most k rest = do
  stream ← field_at rest
  turns ← last_field stream.1
  judged (least_broken (
      (4, is_label stream.0)
      ∷ (7, is_some (number_in 1 most turns))
      ∷ (9, is_used kinds.Stream k stream.0)
      ∷ [])) (number kinds.Stream k stream.0, or_zero (number_in 1 most turns))

-- a client and a node
unfoldable pub home_at : Known → List ℕ → Result (ℕ × ℕ) ℕ
home_at k rest = do
  client ← field_at rest
  node ← last_field client.1
  judged (least_broken (
      (4, is_label client.0 && is_label node)
      ∷ (9, is_used kinds.Client k client.0 && is_used kinds.Node k node)
      ∷ [])) (number kinds.Client k client.0, number kinds.Node k node)

-- a client, a name and a text
unfoldable pub written_at : Known → List ℕ → Result Written ℕ
written_at k rest = do
  client ← field_at rest
  name ← field_at client.1
  text ← last_text name.1
  judged (least_broken (
      (4, is_label client.0)
      ∷ (5, is_some (name_of name.0))
      ∷ (9, is_used kinds.Client k client.0)
      ∷ [])) (record { client = number kinds.Client k client.0; name = or_none (name_of name.0); text = text })
