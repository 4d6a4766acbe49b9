-- A line is its word and what follows it.
use Rattle.std.proofs.Common.{◌≡◌, ℕ, List, [], ◌∷◌, ◌++◌, Some, Ok, refl}
use Rattle.std.specs.Prelude.{codes}
use Rattle.pr_script.specs.declared.item.Item.{Item}
use Rattle.pr_script.specs.declared.known.Known.{Known}
use Rattle.pr_script.specs.declared.word.Word.{Word}
use Rattle.pr_script.specs.declared.word.Word.TheVariants as words
use Rattle.pr_script.specs.Fields.{field_at}
use Rattle.pr_script.specs.Lines.{declaration_word, stream_word, client_word, node_word, lone_word, word_of, word_line, line_item}
use Rattle.pr_script.proofs.Visible.{Plain, plain_append}

abbrev pub word_text : Word → List ℕ
word_text words.Node = codes "node"
word_text words.Client = codes "client"
word_text words.Stream = codes "stream"
word_text words.Attach = codes "attach"
word_text words.Detach = codes "detach"
word_text words.Send = codes "send"
word_text words.Checkpoint = codes "checkpoint"
word_text words.Deliver = codes "deliver"
word_text words.Flow = codes "flow"
word_text words.Write = codes "write"
word_text words.Delete = codes "delete"
word_text words.Read = codes "read"
word_text words.Move = codes "move"
word_text words.Expect = codes "expect"
word_text words.Cut = codes "cut"
word_text words.State = codes "state"
word_text words.Drop = codes "drop"
word_text words.Conflicts = codes "conflicts"
word_text words.Settle = codes "settle"
word_text words.Phase = codes "phase"
word_text words.End = codes "end"

word_plain : (w : Word) → Plain (word_text w)
word_plain words.Node = refl
word_plain words.Client = refl
word_plain words.Stream = refl
word_plain words.Attach = refl
word_plain words.Detach = refl
word_plain words.Send = refl
word_plain words.Checkpoint = refl
word_plain words.Deliver = refl
word_plain words.Flow = refl
word_plain words.Write = refl
word_plain words.Delete = refl
word_plain words.Read = refl
word_plain words.Move = refl
word_plain words.Expect = refl
word_plain words.Cut = refl
word_plain words.State = refl
word_plain words.Drop = refl
word_plain words.Conflicts = refl
word_plain words.Settle = refl
word_plain words.Phase = refl
word_plain words.End = refl

word_is : (w : Word) → word_of (word_text w) ≡ Some w
unfolding word_of declaration_word stream_word client_word node_word lone_word
word_is words.Node = refl
word_is words.Client = refl
word_is words.Stream = refl
word_is words.Attach = refl
word_is words.Detach = refl
word_is words.Send = refl
word_is words.Checkpoint = refl
word_is words.Deliver = refl
word_is words.Flow = refl
word_is words.Write = refl
word_is words.Delete = refl
word_is words.Read = refl
word_is words.Move = refl
word_is words.Expect = refl
word_is words.Cut = refl
word_is words.State = refl
word_is words.Drop = refl
word_is words.Conflicts = refl
word_is words.Settle = refl
word_is words.Phase = refl
word_is words.End = refl

word_first : (w : Word) (rest : List ℕ) → field_at (word_text w ++ (32 ∷ rest)) ≡ Ok (word_text w, 32 ∷ rest)
unfolding field_at
word_first words.Node rest = refl
word_first words.Client rest = refl
word_first words.Stream rest = refl
word_first words.Attach rest = refl
word_first words.Detach rest = refl
word_first words.Send rest = refl
word_first words.Checkpoint rest = refl
word_first words.Deliver rest = refl
word_first words.Flow rest = refl
word_first words.Write rest = refl
word_first words.Delete rest = refl
word_first words.Read rest = refl
word_first words.Move rest = refl
word_first words.Expect rest = refl
word_first words.Cut rest = refl
word_first words.State rest = refl
word_first words.Drop rest = refl
word_first words.Conflicts rest = refl
word_first words.Settle rest = refl
word_first words.Phase rest = refl
word_first words.End rest = refl

word_alone : (w : Word) → field_at (word_text w) ≡ Ok (word_text w, [])
unfolding field_at
word_alone words.Node = refl
word_alone words.Client = refl
word_alone words.Stream = refl
word_alone words.Attach = refl
word_alone words.Detach = refl
word_alone words.Send = refl
word_alone words.Checkpoint = refl
word_alone words.Deliver = refl
word_alone words.Flow = refl
word_alone words.Write = refl
word_alone words.Delete = refl
word_alone words.Read = refl
word_alone words.Move = refl
word_alone words.Expect = refl
word_alone words.Cut = refl
word_alone words.State = refl
word_alone words.Drop = refl
word_alone words.Conflicts = refl
word_alone words.Settle = refl
word_alone words.Phase = refl
word_alone words.End = refl

-- a word and its fields
pub line_with : (k : Known) (w : Word) (rest : List ℕ) (item : Item) → Plain (32 ∷ rest) → word_line w k (32 ∷ rest) ≡ Ok item → line_item k (word_text w ++ (32 ∷ rest)) ≡ Ok item
unfolding line_item
line_with k w rest item plain said =
    let p : Plain (word_text w ++ (32 ∷ rest)) = plain_append (word_text w) (32 ∷ rest) (word_plain w) plain in
    rw (p, word_first w rest, word_is w) said

-- a word alone
pub line_alone : (k : Known) (w : Word) (item : Item) → word_line w k [] ≡ Ok item → line_item k (word_text w) ≡ Ok item
unfolding line_item
line_alone k w item said = rw (word_plain w, word_alone w, word_is w) said
