-- What a line says, or the least rule that it breaks.
use Rattle.std.specs.Prelude.{[], ◌∷◌, ℕ, ◌+◌, List, Option, Some, None, Result, Ok, Err, Bool, true, false, not, ◌&&◌, ◌||◌, nat_lt, nat_le, nat_eq, length, codes, if◌then◌else◌}
use Rattle.std.specs.List.{list_all}
use Rattle.std.specs.Str.{bytes_eq}
use Rattle.pr_script.specs.declared.decl.Decl.TheVariants as decls
use Rattle.pr_script.specs.declared.want.Want.{Want}
use Rattle.pr_script.specs.declared.want.Want.TheVariants as wants
use Rattle.pr_script.specs.declared.command.Command.TheVariants as commands
use Rattle.pr_script.specs.declared.item.Item.{Item}
use Rattle.pr_script.specs.declared.item.Item.TheVariants as items
use Rattle.pr_script.specs.declared.known.Known.{Known}
use Rattle.pr_script.specs.declared.kind.Kind.TheVariants as kinds
use Rattle.pr_script.specs.declared.word.Word.{Word}
use Rattle.pr_script.specs.declared.word.Word.TheVariants as words
use Rattle.pr_script.specs.Fields.{◌>>=◌, demand, wanted, field_at, last_field, is_blank, is_plain, fields_of}
use Rattle.pr_script.specs.Texts.{last_text}
use Rattle.pr_script.specs.Sets.{set_of, sets_of, are_apart}
use Rattle.pr_script.specs.Labels.{is_label, is_declared, count_of}
use Rattle.pr_script.specs.Known.{has_number, with_number}
use Rattle.pr_script.specs.Parts.{least_broken, judged, is_used, number, label_at, name_at, turns_at, home_at, written_at}

-- ---- declarations

unfoldable pub node_line : Known → List ℕ → Result Item ℕ
node_line k rest = do
  label ← field_at rest
  _ ← demand 4 (is_label label.0)
  sets ← sets_of (fields_of label.1)
  judged (least_broken (
      (8, not (is_declared k.decls label.0))
      ∷ (10, nat_lt (count_of kinds.Node k.decls) 32 && nat_le (length sets) 16)
      ∷ (11, are_apart sets)
      ∷ (12, not k.begun)
      ∷ [])) (items.Decl (decls.Node label.0 sets))

unfoldable pub client_line : Known → List ℕ → Result Item ℕ
client_line k rest = do
  label ← field_at rest
  node ← last_field label.1
  judged (least_broken (
      (4, is_label label.0 && is_label node)
      ∷ (8, not (is_declared k.decls label.0))
      ∷ (9, is_used kinds.Node k node)
      ∷ (10, nat_lt (count_of kinds.Client k.decls) 256)
      ∷ (12, not k.begun)
      ∷ [])) (items.Decl (decls.Client label.0 (number kinds.Node k node)))

-- a stream's fields
pub record Stream : Type 0 where
  pub label : List ℕ
  pub source : List ℕ
  pub dest : List ℕ
  pub sub : List ℕ
  pub bodies : Bool

-- nothing, or the word bodies
unfoldable pub bodies_at : List ℕ → Result Bool ℕ
bodies_at rest = if is_blank rest then Ok false else do
  word ← last_field rest
  if bytes_eq word (codes "bodies") then Ok true else Err 3

unfoldable pub stream_at : List ℕ → Result Stream ℕ
stream_at rest = do
  label ← field_at rest
  source ← field_at label.1
  dest ← field_at source.1
  sub ← field_at dest.1
  bodies ← bodies_at sub.1
  Ok (record { label = label.0; source = source.0; dest = dest.0; sub = sub.0; bodies = bodies })

unfoldable pub stream_line : Known → List ℕ → Result Item ℕ
stream_line k rest = do
  s ← stream_at rest
  _ ← demand 4 (is_label s.label && is_label s.source && is_label s.dest)
  sub ← wanted 6 (set_of s.sub)
  judged (least_broken (
      (8, not (is_declared k.decls s.label))
      ∷ (9, is_used kinds.Node k s.source && is_used kinds.Node k s.dest)
      ∷ (10, nat_lt (count_of kinds.Stream k.decls) 64)
      ∷ (12, not k.begun && not (nat_eq (number kinds.Node k s.source) (number kinds.Node k s.dest)))
      ∷ [])) (items.Decl (decls.Stream s.label (number kinds.Node k s.source) (number kinds.Node k s.dest) sub s.bodies))

-- ---- commands on streams

unfoldable pub attach_line : Known → List ℕ → Result Item ℕ
attach_line k rest = do
  stream ← label_at kinds.Stream k rest
  judged (least_broken ((12, not k.in_phase) ∷ [])) (items.Command (commands.Attach stream))

-- the stream is attached, and no phase is open
abbrev pub is_ready : Known → ℕ → Bool
is_ready k stream = not k.in_phase && has_number k.attached stream

unfoldable pub detach_line : Known → List ℕ → Result Item ℕ
detach_line k rest = do
  stream ← label_at kinds.Stream k rest
  judged (least_broken ((12, is_ready k stream) ∷ [])) (items.Command (commands.Detach stream))

unfoldable pub send_line : Known → List ℕ → Result Item ℕ
send_line k rest = do
  stream ← label_at kinds.Stream k rest
  judged (least_broken ((12, is_ready k stream) ∷ [])) (items.Command (commands.Send stream))

unfoldable pub checkpoint_line : Known → List ℕ → Result Item ℕ
checkpoint_line k rest = do
  stream ← label_at kinds.Stream k rest
  judged (least_broken ((12, is_ready k stream) ∷ [])) (items.Command (commands.Checkpoint stream))

unfoldable pub deliver_line : Known → List ℕ → Result Item ℕ
deliver_line k rest = do
  d ← turns_at 4611686018427387903 k rest
  judged (least_broken ((12, not k.in_phase) ∷ [])) (items.Command (commands.Deliver d.0 d.1))

-- outside a phase, or with a place for one job more
abbrev pub flow_fits : Known → Bool
flow_fits k = not k.in_phase || nat_lt (length k.clients + length k.flows) 64

-- the stream is attached, and flows in the phase for the first time
abbrev pub may_flow : Known → ℕ → Bool
may_flow k stream = has_number k.attached stream && not (k.in_phase && has_number k.flows stream)

unfoldable pub flow_line : Known → List ℕ → Result Item ℕ
flow_line k rest = do
  f ← turns_at 1000000 k rest
  judged (least_broken (
      (10, nat_le (k.turns + f.1) 1000000 && flow_fits k)
      ∷ (12, may_flow k f.0)
      ∷ [])) (items.Command (commands.Flow f.0 f.1))

-- ---- commands of clients

-- outside a phase, or in a job of a phase that has at most 64
abbrev pub client_fits : Known → ℕ → Bool
client_fits k client = not k.in_phase || nat_le (length (with_number k.clients client) + length k.flows) 64

unfoldable pub write_line : Known → List ℕ → Result Item ℕ
write_line k rest = do
  w ← written_at k rest
  judged (least_broken (
      (10, nat_le (length w.text) 1024 && client_fits k w.client)
      ∷ [])) (items.Command (commands.Write w.client w.name w.text))

unfoldable pub delete_line : Known → List ℕ → Result Item ℕ
delete_line k rest = do
  d ← name_at kinds.Client k rest
  judged (least_broken ((10, client_fits k d.0) ∷ [])) (items.Command (commands.Delete d.0 d.1))

unfoldable pub read_line : Known → List ℕ → Result Item ℕ
read_line k rest = do
  r ← name_at kinds.Client k rest
  judged (least_broken ((10, client_fits k r.0) ∷ [])) (items.Command (commands.Read r.0 r.1))

unfoldable pub move_line : Known → List ℕ → Result Item ℕ
move_line k rest = do
  m ← home_at k rest
  judged (least_broken ((12, not k.in_phase) ∷ [])) (items.Command (commands.Move m.0 m.1))

-- what is expected
unfoldable pub want_of : List ℕ → Result Want ℕ
want_of word =
    if bytes_eq word (codes "never") then Ok wants.Never
    else if bytes_eq word (codes "imprecise") then Ok wants.Imprecise
    else if bytes_eq word (codes "body") then Ok wants.Body
    else if bytes_eq word (codes "gone") then Ok wants.Gone
    else if bytes_eq word (codes "behind") then Ok wants.Behind
    else Err 3

unfoldable pub want_at : List ℕ → Result Want ℕ
want_at rest = do
  word ← field_at rest
  if bytes_eq word.0 (codes "value") then (last_text word.1 >>= λ text. Ok (wants.Value text))
      else if is_blank word.1 then want_of word.0
      else Err 3

abbrev pub want_fits : Want → Bool
want_fits (wants.Value text) = nat_le (length text) 1024
want_fits w = true

unfoldable pub expect_line : Known → List ℕ → Result Item ℕ
expect_line k rest = do
  want ← want_at rest
  judged (least_broken (
      (10, want_fits want)
      ∷ (12, k.after_read && not k.in_phase)
      ∷ [])) (items.Command (commands.Expect want))

-- ---- commands on nodes

unfoldable pub cut_line : Known → List ℕ → Result Item ℕ
cut_line k rest = do
  node ← label_at kinds.Node k rest
  judged (least_broken ((12, not k.in_phase) ∷ [])) (items.Command (commands.Cut node))

unfoldable pub state_line : Known → List ℕ → Result Item ℕ
state_line k rest = do
  node ← label_at kinds.Node k rest
  judged (least_broken ((12, not k.in_phase) ∷ [])) (items.Command (commands.State node))

unfoldable pub drop_line : Known → List ℕ → Result Item ℕ
drop_line k rest = do
  d ← name_at kinds.Node k rest
  judged (least_broken ((12, not k.in_phase) ∷ [])) (items.Command (commands.Drop d.0 d.1))

unfoldable pub conflicts_line : Known → List ℕ → Result Item ℕ
conflicts_line k rest = do
  c ← name_at kinds.Node k rest
  judged (least_broken ((12, not k.in_phase) ∷ [])) (items.Command (commands.Conflicts c.0 c.1))

-- ---- words alone

unfoldable pub settle_line : Known → List ℕ → Result Item ℕ
settle_line k rest = judged (least_broken ((3, is_blank rest) ∷ (12, not k.in_phase) ∷ [])) (items.Command commands.Settle)

unfoldable pub phase_line : Known → List ℕ → Result Item ℕ
phase_line k rest = judged (least_broken ((3, is_blank rest) ∷ (12, not k.in_phase) ∷ [])) (items.Command commands.Phase)

unfoldable pub end_line : Known → List ℕ → Result Item ℕ
end_line k rest = judged (least_broken ((3, is_blank rest) ∷ (12, k.in_phase) ∷ [])) (items.Command commands.End)

-- ---- lines

unfoldable pub declaration_word : List ℕ → Option Word
declaration_word f =
    if bytes_eq f (codes "node") then Some words.Node
    else if bytes_eq f (codes "client") then Some words.Client
    else if bytes_eq f (codes "stream") then Some words.Stream
    else None

unfoldable pub stream_word : List ℕ → Option Word
stream_word f =
    if bytes_eq f (codes "attach") then Some words.Attach
    else if bytes_eq f (codes "detach") then Some words.Detach
    else if bytes_eq f (codes "send") then Some words.Send
    else if bytes_eq f (codes "checkpoint") then Some words.Checkpoint
    else if bytes_eq f (codes "deliver") then Some words.Deliver
    else if bytes_eq f (codes "flow") then Some words.Flow
    else None

unfoldable pub client_word : List ℕ → Option Word
client_word f =
    if bytes_eq f (codes "write") then Some words.Write
    else if bytes_eq f (codes "delete") then Some words.Delete
    else if bytes_eq f (codes "read") then Some words.Read
    else if bytes_eq f (codes "move") then Some words.Move
    else if bytes_eq f (codes "expect") then Some words.Expect
    else None

unfoldable pub node_word : List ℕ → Option Word
node_word f =
    if bytes_eq f (codes "cut") then Some words.Cut
    else if bytes_eq f (codes "state") then Some words.State
    else if bytes_eq f (codes "drop") then Some words.Drop
    else if bytes_eq f (codes "conflicts") then Some words.Conflicts
    else None

unfoldable pub lone_word : List ℕ → Option Word
lone_word f =
    if bytes_eq f (codes "settle") then Some words.Settle
    else if bytes_eq f (codes "phase") then Some words.Phase
    else if bytes_eq f (codes "end") then Some words.End
    else None

abbrev pub first_word : Option Word → Option Word → Option Word
first_word (Some w) o = Some w
first_word None o = o

unfoldable pub word_of : List ℕ → Option Word
word_of f = first_word (declaration_word f) (first_word (stream_word f) (first_word (client_word f) (first_word (node_word f) (lone_word f))))

unfoldable pub word_line : Word → Known → List ℕ → Result Item ℕ
word_line words.Node k rest = node_line k rest
word_line words.Client k rest = client_line k rest
word_line words.Stream k rest = stream_line k rest
word_line words.Attach k rest = attach_line k rest
word_line words.Detach k rest = detach_line k rest
word_line words.Send k rest = send_line k rest
word_line words.Checkpoint k rest = checkpoint_line k rest
word_line words.Deliver k rest = deliver_line k rest
word_line words.Flow k rest = flow_line k rest
word_line words.Write k rest = write_line k rest
word_line words.Delete k rest = delete_line k rest
word_line words.Read k rest = read_line k rest
word_line words.Move k rest = move_line k rest
word_line words.Expect k rest = expect_line k rest
word_line words.Cut k rest = cut_line k rest
word_line words.State k rest = state_line k rest
word_line words.Drop k rest = drop_line k rest
word_line words.Conflicts k rest = conflicts_line k rest
word_line words.Settle k rest = settle_line k rest
word_line words.Phase k rest = phase_line k rest
word_line words.End k rest = end_line k rest

-- what a line says after the lines before
unfoldable pub line_item : Known → List ℕ → Result Item ℕ
line_item k line = do
  _ ← demand 1 (list_all is_plain line)
  first ← field_at line
  word ← wanted 2 (word_of first.0)
  word_line word k first.1
