-- The one spelling of a script.
use Rattle.std.specs.Prelude.{◌≡◌, ℕ, ◌+◌, ◌/◌, ◌%◌, List, [], ◌∷◌, ◌++◌, Bool, true, false, nat_lt, get_or, map, take, length, codes, decimal, if◌then◌else◌}
use Rattle.std.specs.List.{flat_map}
use Rattle.pr_names.specs.Span.{Span}
use Rattle.pr_sets.specs.Text.{set_text}
use Rattle.pr_script.specs.declared.decl.Decl.{Decl}
use Rattle.pr_script.specs.declared.decl.Decl.TheVariants as decls
use Rattle.pr_script.specs.declared.command.Command.{Command}
use Rattle.pr_script.specs.declared.command.Command.TheVariants as commands
use Rattle.pr_script.specs.declared.want.Want.{Want}
use Rattle.pr_script.specs.declared.want.Want.TheVariants as wants
use Rattle.pr_script.specs.declared.kind.Kind.{Kind}
use Rattle.pr_script.specs.declared.kind.Kind.TheVariants as kinds
use Rattle.pr_script.specs.declared.item.Item.{Item}
use Rattle.pr_script.specs.declared.item.Item.TheVariants as items
use Rattle.pr_script.specs.declared.script.Script.{Script}
use Rattle.pr_script.specs.Texts.{is_bare}
use Rattle.pr_script.specs.Labels.{labels_of}
use Rattle.pr_script.specs.Reading.{ended}

-- ---- texts

abbrev pub hex_digit : ℕ → ℕ
hex_digit n = if nat_lt n 10 then 48 + n else 87 + n

-- how a byte stands in a text
unfoldable pub spell : ℕ → List ℕ
spell b = if is_bare b then b ∷ [] else 92 ∷ hex_digit (b / 16) ∷ hex_digit (b % 16) ∷ []

abbrev pub quoted : List ℕ → List ℕ
quoted text = 34 ∷ flat_map spell text ++ 34 ∷ []

-- ---- fields, each behind a space

-- the label with this number of its kind
unfoldable pub label_text : Kind → List Decl → ℕ → List ℕ
label_text k ds n = get_or (labels_of k ds) n []

abbrev pub label_field : Kind → List Decl → ℕ → List ℕ
label_field k ds n = 32 ∷ label_text k ds n

unfoldable pub sets_text : List (List Span) → List ℕ
sets_text [] = []
sets_text (s ∷ ss) = 32 ∷ (set_text s ++ sets_text ss)

abbrev pub bodies_text : Bool → List ℕ
bodies_text true = codes " bodies"
bodies_text false = []

unfoldable pub want_text : Want → List ℕ
want_text (wants.Value text) = codes "value" ++ (32 ∷ quoted text)
want_text wants.Never = codes "never"
want_text wants.Imprecise = codes "imprecise"
want_text wants.Body = codes "body"
want_text wants.Gone = codes "gone"
want_text wants.Behind = codes "behind"

-- ---- lines

-- a declaration, behind those before it
unfoldable pub decl_text : List Decl → Decl → List ℕ
decl_text ds (decls.Node label sets) = codes "node" ++ (32 ∷ (label ++ sets_text sets))
decl_text ds (decls.Client label node) = codes "client" ++ (32 ∷ (label ++ label_field kinds.Node ds node))
decl_text ds (decls.Stream label source dest sub bodies) =
    codes "stream" ++ (32 ∷ (label ++ (label_field kinds.Node ds source ++ (label_field kinds.Node ds dest ++ (32 ∷ (set_text sub ++ bodies_text bodies))))))

unfoldable pub command_text : List Decl → Command → List ℕ
command_text ds (commands.Attach stream) = codes "attach" ++ label_field kinds.Stream ds stream
command_text ds (commands.Detach stream) = codes "detach" ++ label_field kinds.Stream ds stream
command_text ds (commands.Send stream) = codes "send" ++ label_field kinds.Stream ds stream
command_text ds (commands.Checkpoint stream) = codes "checkpoint" ++ label_field kinds.Stream ds stream
command_text ds (commands.Deliver stream number) = codes "deliver" ++ (label_field kinds.Stream ds stream ++ (32 ∷ decimal number))
command_text ds (commands.Flow stream turns) = codes "flow" ++ (label_field kinds.Stream ds stream ++ (32 ∷ decimal turns))
command_text ds (commands.Write client name body) = codes "write" ++ (label_field kinds.Client ds client ++ (32 ∷ (name ++ (32 ∷ quoted body))))
command_text ds (commands.Delete client name) = codes "delete" ++ (label_field kinds.Client ds client ++ (32 ∷ name))
command_text ds (commands.Read client name) = codes "read" ++ (label_field kinds.Client ds client ++ (32 ∷ name))
command_text ds (commands.Move client node) = codes "move" ++ (label_field kinds.Client ds client ++ label_field kinds.Node ds node)
command_text ds (commands.Expect want) = codes "expect" ++ (32 ∷ want_text want)
command_text ds (commands.Cut node) = codes "cut" ++ label_field kinds.Node ds node
command_text ds (commands.State node) = codes "state" ++ label_field kinds.Node ds node
command_text ds (commands.Drop node name) = codes "drop" ++ (label_field kinds.Node ds node ++ (32 ∷ name))
command_text ds (commands.Conflicts node name) = codes "conflicts" ++ (label_field kinds.Node ds node ++ (32 ∷ name))
command_text ds commands.Settle = codes "settle"
command_text ds commands.Phase = codes "phase"
command_text ds commands.End = codes "end"

abbrev pub item_text : List Decl → Item → List ℕ
item_text ds (items.Decl d) = decl_text ds d
item_text ds (items.Command c) = command_text ds c

-- each declaration's line, which may speak of those before it
unfoldable pub decl_lines : List Decl → List Decl → List (List ℕ)
decl_lines front [] = []
decl_lines front (d ∷ ds) = decl_text front d ∷ decl_lines (front ++ d ∷ []) ds

abbrev pub command_lines : List Decl → List (ℕ × Command) → List (List ℕ)
command_lines ds cs = map (λ c. command_text ds c.1) cs

abbrev pub script_lines : Script → List (List ℕ)
script_lines s = decl_lines [] s.decls.list ++ command_lines s.decls.list s.commands

-- a script as it is printed
abbrev pub script_text : Script → List ℕ
script_text s = flat_map ended (script_lines s)

-- ---- what a refusal leaves

-- the list begins with the bytes that it had
abbrev pub Begins : List ℕ → List ℕ → Type 0
Begins old new = take (length old) new ≡ old
