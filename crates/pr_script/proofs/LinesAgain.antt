-- An accepted line, printed, is accepted again and says the same.
use Rattle.std.proofs.Common.{◌≡◌, ℕ, ◌+◌, ◌<◌, Bool, true, false, not, ◌&&◌, cond, List, [], ◌∷◌, ◌++◌, length, Result, Ok, Err, refl, sym, ap, subst, ◌∙◌, arith}
use Rattle.std.specs.Prelude.{nat_le, nat_lt, nat_eq, codes, decimal}
use Rattle.std.specs.List.{AllByRecursion, list_all}
use Rattle.std.specs.Str.{bytes_eq}
use Rattle.pr_names.specs.Span.{Span}
use Rattle.pr_sets.specs.Text.{set_text}
use Rattle.pr_script.specs.declared.decl.Decl.{Decl}
use Rattle.pr_script.specs.declared.decl.Decl.TheVariants as decls
use Rattle.pr_script.specs.declared.command.Command.TheVariants as commands
use Rattle.pr_script.specs.declared.want.Want.{Want}
use Rattle.pr_script.specs.declared.want.Want.TheVariants as wants
use Rattle.pr_script.specs.declared.item.Item.{Item}
use Rattle.pr_script.specs.declared.item.Item.TheVariants as items
use Rattle.pr_script.specs.declared.kind.Kind.TheVariants as kinds
use Rattle.pr_script.specs.declared.known.Known.{Known}
use Rattle.pr_script.specs.declared.word.Word.{Word}
use Rattle.pr_script.specs.declared.word.Word.TheVariants as words
use Rattle.pr_script.specs.Fields.{◌>>=◌, demand, wanted, is_plain, is_blank, field_at, last_field, fields_of}
use Rattle.pr_script.specs.Texts.{last_text}
use Rattle.pr_script.specs.Sets.{set_of, sets_of, are_apart}
use Rattle.pr_script.specs.Labels.{is_label, is_declared, count_of, kind_of, label_of, most_of}
use Rattle.pr_script.specs.Parts.{least_broken, judged, is_used, number, label_at, name_at, turns_at, home_at, written_at}
use Rattle.pr_script.specs.Lines.{node_line, client_line, Stream, bodies_at, stream_at, stream_line, attach_line, is_ready, detach_line, send_line, checkpoint_line, deliver_line, flow_fits, may_flow, flow_line, client_fits, write_line, delete_line, read_line, move_line, want_of, want_at, want_fits, expect_line, cut_line, state_line, drop_line, conflicts_line, settle_line, phase_line, end_line, word_of, word_line, line_item}
use Rattle.pr_script.specs.Printing.{quoted, label_text, label_field, sets_text, bodies_text, want_text, decl_text, command_text, item_text}
use Rattle.pr_script.proofs.FieldsAgain.{IsField, bind_ok, demand_ok, wanted_ok, ok_is, field_again, field_alone, last_again, field_is_field, last_is_field}
use Rattle.pr_script.proofs.Positions.{both}
use Rattle.pr_script.proofs.Visible.{Plain, plain_more, plain_append, visible_plain, label_visible, quoted_plain}
use Rattle.pr_script.proofs.SpansRead.{IsShort, set_short}
use Rattle.pr_script.proofs.SetsAgain.{AreShort, sets_short, sets_again, sets_plain, set_again, set_field, set_plain}
use Rattle.pr_script.proofs.TextAgain.{quoted_again, last_are_bytes}
use Rattle.pr_script.proofs.Shapes.{judged_ok, holds, label_is, label_again, name_again, turns_again, home_again, written_again}
use Rattle.pr_script.proofs.WordsAgain.{word_text, line_with, line_alone}

-- a declaration comes before all commands, and its label is a new one of a kind that has not the most
pub record IsAdded (k : Known) (d : Decl) : Type 0 where
  pub first : k.begun ≡ false
  pub label : is_label (label_of d) ≡ true
  pub undeclared : is_declared k.decls (label_of d) ≡ false
  pub few : nat_lt (count_of (kind_of d) k.decls) (most_of (kind_of d)) ≡ true

abbrev pub IsFirst : Known → Item → Type 0
IsFirst k (items.Decl d) = IsAdded k d
IsFirst k (items.Command c) = Unit {0}

abbrev pub Again : Known → Item → Type 0
Again k item = (line_item k (item_text k.decls item) ≡ Ok item) × IsFirst k item

-- ---- lines whose parts are read and then judged

module _ {X : Type 0} (k : Known) (w : Word) (parts : List ℕ → Result X ℕ) (rules : X → List (ℕ × Bool)) (make : X → Item) (shown : X → List ℕ) where
  family : ((x : List ℕ) → word_line w k x ≡ (parts x >>= λ p. judged (least_broken (rules p)) (make p)))
      → ((x : X) → item_text k.decls (make x) ≡ word_text w ++ (32 ∷ shown x))
      → ((rest : List ℕ) (x : X) → parts rest ≡ Ok x → (parts (32 ∷ shown x) ≡ Ok x) × Plain (32 ∷ shown x))
      → ((x : X) → IsFirst k (make x))
      → (rest : List ℕ) (item : Item) → word_line w k rest ≡ Ok item → Again k item
  family line text again first rest item e =
      let f : X → Result Item ℕ = λ p. judged (least_broken (rules p)) (make p) in
      let a = bind_ok (parts rest) f item (sym (line rest) ∙ e) in
      let j = judged_ok (least_broken (rules a.0)) (make a.0) item a.2 in
      let s = again rest a.0 a.1 in
      let said : word_line w k (32 ∷ shown a.0) ≡ Ok item = line (32 ∷ shown a.0) ∙ ap (λ (r : Result X ℕ). r >>= f) s.0 ∙ a.2 in
      let whole : line_item k (word_text w ++ (32 ∷ shown a.0)) ≡ Ok item = line_with k w (shown a.0) item s.1 said in
      (subst (λ (x : Item). line_item k (item_text k.decls x) ≡ Ok item) j.1 (ap (line_item k) (text a.0) ∙ whole), subst (λ (x : Item). IsFirst k x) j.1 (first a.0))

attach_again : (k : Known) (rest : List ℕ) (item : Item) → word_line words.Attach k rest ≡ Ok item → Again k item
unfolding word_line attach_line command_text
attach_again k rest item e = family k words.Attach (label_at kinds.Stream k) (λ n. (12, not k.in_phase) ∷ []) (λ n. items.Command (commands.Attach n)) (λ n. label_text kinds.Stream k.decls n) (λ x. refl) (λ n. refl) (label_again kinds.Stream k) (λ n. tt) rest item e

detach_again : (k : Known) (rest : List ℕ) (item : Item) → word_line words.Detach k rest ≡ Ok item → Again k item
unfolding word_line detach_line command_text
detach_again k rest item e = family k words.Detach (label_at kinds.Stream k) (λ n. (12, is_ready k n) ∷ []) (λ n. items.Command (commands.Detach n)) (λ n. label_text kinds.Stream k.decls n) (λ x. refl) (λ n. refl) (label_again kinds.Stream k) (λ n. tt) rest item e

send_again : (k : Known) (rest : List ℕ) (item : Item) → word_line words.Send k rest ≡ Ok item → Again k item
unfolding word_line send_line command_text
send_again k rest item e = family k words.Send (label_at kinds.Stream k) (λ n. (12, is_ready k n) ∷ []) (λ n. items.Command (commands.Send n)) (λ n. label_text kinds.Stream k.decls n) (λ x. refl) (λ n. refl) (label_again kinds.Stream k) (λ n. tt) rest item e

checkpoint_again : (k : Known) (rest : List ℕ) (item : Item) → word_line words.Checkpoint k rest ≡ Ok item → Again k item
unfolding word_line checkpoint_line command_text
checkpoint_again k rest item e = family k words.Checkpoint (label_at kinds.Stream k) (λ n. (12, is_ready k n) ∷ []) (λ n. items.Command (commands.Checkpoint n)) (λ n. label_text kinds.Stream k.decls n) (λ x. refl) (λ n. refl) (label_again kinds.Stream k) (λ n. tt) rest item e

cut_again : (k : Known) (rest : List ℕ) (item : Item) → word_line words.Cut k rest ≡ Ok item → Again k item
unfolding word_line cut_line command_text
cut_again k rest item e = family k words.Cut (label_at kinds.Node k) (λ n. (12, not k.in_phase) ∷ []) (λ n. items.Command (commands.Cut n)) (λ n. label_text kinds.Node k.decls n) (λ x. refl) (λ n. refl) (label_again kinds.Node k) (λ n. tt) rest item e

state_again : (k : Known) (rest : List ℕ) (item : Item) → word_line words.State k rest ≡ Ok item → Again k item
unfolding word_line state_line command_text
state_again k rest item e = family k words.State (label_at kinds.Node k) (λ n. (12, not k.in_phase) ∷ []) (λ n. items.Command (commands.State n)) (λ n. label_text kinds.Node k.decls n) (λ x. refl) (λ n. refl) (label_again kinds.Node k) (λ n. tt) rest item e

delete_again : (k : Known) (rest : List ℕ) (item : Item) → word_line words.Delete k rest ≡ Ok item → Again k item
unfolding word_line delete_line command_text
delete_again k rest item e = family k words.Delete (name_at kinds.Client k) (λ n. (10, client_fits k n.0) ∷ []) (λ n. items.Command (commands.Delete n.0 n.1)) (λ n. label_text kinds.Client k.decls n.0 ++ (32 ∷ n.1)) (λ x. refl) (λ n. refl) (name_again kinds.Client k) (λ n. tt) rest item e

read_again : (k : Known) (rest : List ℕ) (item : Item) → word_line words.Read k rest ≡ Ok item → Again k item
unfolding word_line read_line command_text
read_again k rest item e = family k words.Read (name_at kinds.Client k) (λ n. (10, client_fits k n.0) ∷ []) (λ n. items.Command (commands.Read n.0 n.1)) (λ n. label_text kinds.Client k.decls n.0 ++ (32 ∷ n.1)) (λ x. refl) (λ n. refl) (name_again kinds.Client k) (λ n. tt) rest item e

drop_again : (k : Known) (rest : List ℕ) (item : Item) → word_line words.Drop k rest ≡ Ok item → Again k item
unfolding word_line drop_line command_text
drop_again k rest item e = family k words.Drop (name_at kinds.Node k) (λ n. (12, not k.in_phase) ∷ []) (λ n. items.Command (commands.Drop n.0 n.1)) (λ n. label_text kinds.Node k.decls n.0 ++ (32 ∷ n.1)) (λ x. refl) (λ n. refl) (name_again kinds.Node k) (λ n. tt) rest item e

conflicts_again : (k : Known) (rest : List ℕ) (item : Item) → word_line words.Conflicts k rest ≡ Ok item → Again k item
unfolding word_line conflicts_line command_text
conflicts_again k rest item e = family k words.Conflicts (name_at kinds.Node k) (λ n. (12, not k.in_phase) ∷ []) (λ n. items.Command (commands.Conflicts n.0 n.1)) (λ n. label_text kinds.Node k.decls n.0 ++ (32 ∷ n.1)) (λ x. refl) (λ n. refl) (name_again kinds.Node k) (λ n. tt) rest item e

deliver_again : (k : Known) (rest : List ℕ) (item : Item) → word_line words.Deliver k rest ≡ Ok item → Again k item
unfolding word_line deliver_line command_text
deliver_again k rest item e = family k words.Deliver (turns_at 4611686018427387903 k) (λ n. (12, not k.in_phase) ∷ []) (λ n. items.Command (commands.Deliver n.0 n.1)) (λ n. label_text kinds.Stream k.decls n.0 ++ (32 ∷ decimal n.1)) (λ x. refl) (λ n. refl) (λ r n h. turns_again 4611686018427387903 k r n (omega arith) h) (λ n. tt) rest item e

flow_again : (k : Known) (rest : List ℕ) (item : Item) → word_line words.Flow k rest ≡ Ok item → Again k item
unfolding word_line flow_line command_text
flow_again k rest item e = family k words.Flow (turns_at 1000000 k) (λ n. (10, nat_le (k.turns + n.1) 1000000 && flow_fits k) ∷ (12, may_flow k n.0) ∷ []) (λ n. items.Command (commands.Flow n.0 n.1)) (λ n. label_text kinds.Stream k.decls n.0 ++ (32 ∷ decimal n.1)) (λ x. refl) (λ n. refl) (λ r n h. turns_again 1000000 k r n (omega arith) h) (λ n. tt) rest item e

move_again : (k : Known) (rest : List ℕ) (item : Item) → word_line words.Move k rest ≡ Ok item → Again k item
unfolding word_line move_line command_text
move_again k rest item e = family k words.Move (home_at k) (λ n. (12, not k.in_phase) ∷ []) (λ n. items.Command (commands.Move n.0 n.1)) (λ n. label_text kinds.Client k.decls n.0 ++ label_field kinds.Node k.decls n.1) (λ x. refl) (λ n. refl) (home_again k) (λ n. tt) rest item e

write_again : (k : Known) (rest : List ℕ) (item : Item) → word_line words.Write k rest ≡ Ok item → Again k item
unfolding word_line write_line command_text
write_again k rest item e = family k words.Write (written_at k) (λ n. (10, nat_le (length n.text) 1024 && client_fits k n.client) ∷ []) (λ n. items.Command (commands.Write n.client n.name n.text)) (λ n. label_text kinds.Client k.decls n.client ++ (32 ∷ (n.name ++ (32 ∷ quoted n.text)))) (λ x. refl) (λ n. refl) (written_again k) (λ n. tt) rest item e

-- ---- what is expected

-- a value's text is one of bytes
abbrev IsSmall : Want → Type 0
IsSmall (wants.Value text) = AllByRecursion (λ b. b < 256) text
IsSmall w = Unit {0}

abbrev none_wanted : Result Want ℕ
none_wanted = Err 3

lone_if : (a b c d e : Bool) (w : Want) → cond a (Ok wants.Never) (cond b (Ok wants.Imprecise) (cond c (Ok wants.Body) (cond d (Ok wants.Gone) (cond e (Ok wants.Behind) none_wanted)))) ≡ Ok w → IsSmall w
lone_if true b c d e w h = subst (λ (x : Want). IsSmall x) (ok_is wants.Never w h) tt
lone_if false true c d e w h = subst (λ (x : Want). IsSmall x) (ok_is wants.Imprecise w h) tt
lone_if false false true d e w h = subst (λ (x : Want). IsSmall x) (ok_is wants.Body w h) tt
lone_if false false false true e w h = subst (λ (x : Want). IsSmall x) (ok_is wants.Gone w h) tt
lone_if false false false false true w h = subst (λ (x : Want). IsSmall x) (ok_is wants.Behind w h) tt
lone_if false false false false false w h = absurd cc

lone_small : (word : List ℕ) (w : Want) → want_of word ≡ Ok w → IsSmall w
unfolding want_of
lone_small word w h = lone_if (bytes_eq word (codes "never")) (bytes_eq word (codes "imprecise")) (bytes_eq word (codes "body")) (bytes_eq word (codes "gone")) (bytes_eq word (codes "behind")) w h

want_if : (t u : Bool) (word rest : List ℕ) (w : Want) → cond t (last_text rest >>= λ text. Ok (wants.Value text)) (cond u (want_of word) none_wanted) ≡ Ok w → IsSmall w
want_if true u word rest w h =
    let a = bind_ok (last_text rest) (λ text. Ok (wants.Value text)) w h in
    subst (λ (x : Want). IsSmall x) (ok_is (wants.Value a.0) w a.2) (last_are_bytes rest a.0 a.1)
want_if false true word rest w h = lone_small word w h
want_if false false word rest w h = absurd cc

want_small : (rest : List ℕ) (w : Want) → want_at rest ≡ Ok w → IsSmall w
unfolding want_at
want_small rest w h =
    let a = bind_ok (field_at rest) (λ word. cond (bytes_eq word.0 (codes "value")) (last_text word.1 >>= λ text. Ok (wants.Value text)) (cond (is_blank word.1) (want_of word.0) (Err 3))) w h in
    want_if (bytes_eq a.0.0 (codes "value")) (is_blank a.0.1) a.0.0 a.0.1 w a.2

want_read : (w : Want) → IsSmall w → (want_at (32 ∷ want_text w) ≡ Ok w) × Plain (32 ∷ want_text w)
unfolding want_at want_of want_text field_at
want_read (wants.Value text) h = (ap (λ (r : Result (List ℕ) ℕ). r >>= λ text. Ok (wants.Value text)) (quoted_again text h), plain_append (codes " value ") (quoted text) refl (quoted_plain text h))
want_read wants.Never h = (refl, refl)
want_read wants.Imprecise h = (refl, refl)
want_read wants.Body h = (refl, refl)
want_read wants.Gone h = (refl, refl)
want_read wants.Behind h = (refl, refl)

expect_again : (k : Known) (rest : List ℕ) (item : Item) → word_line words.Expect k rest ≡ Ok item → Again k item
unfolding word_line expect_line command_text
expect_again k rest item e = family k words.Expect want_at (λ w. (10, want_fits w) ∷ (12, k.after_read && not k.in_phase) ∷ []) (λ w. items.Command (commands.Expect w)) want_text (λ x. refl) (λ w. refl) (λ r w h. want_read w (want_small r w h)) (λ n. tt) rest item e

-- ---- words alone

settle_again : (k : Known) (rest : List ℕ) (item : Item) → word_line words.Settle k rest ≡ Ok item → Again k item
unfolding word_line settle_line command_text
settle_again k rest item e =
    let j = judged_ok (least_broken ((3, is_blank rest) ∷ (12, not k.in_phase) ∷ [])) (items.Command commands.Settle) item e in
    let three = holds 3 (is_blank rest) ((12, not k.in_phase) ∷ []) j.0 in
    let twelve = holds 12 (not k.in_phase) [] three.1 in
    let said : word_line words.Settle k [] ≡ Ok item = rw twelve.0 (ap (λ (x : Item). Ok x) j.1) in
    (subst (λ (x : Item). line_item k (item_text k.decls x) ≡ Ok item) j.1 (line_alone k words.Settle item said), subst (λ (x : Item). IsFirst k x) j.1 tt)

phase_again : (k : Known) (rest : List ℕ) (item : Item) → word_line words.Phase k rest ≡ Ok item → Again k item
unfolding word_line phase_line command_text
phase_again k rest item e =
    let j = judged_ok (least_broken ((3, is_blank rest) ∷ (12, not k.in_phase) ∷ [])) (items.Command commands.Phase) item e in
    let three = holds 3 (is_blank rest) ((12, not k.in_phase) ∷ []) j.0 in
    let twelve = holds 12 (not k.in_phase) [] three.1 in
    let said : word_line words.Phase k [] ≡ Ok item = rw twelve.0 (ap (λ (x : Item). Ok x) j.1) in
    (subst (λ (x : Item). line_item k (item_text k.decls x) ≡ Ok item) j.1 (line_alone k words.Phase item said), subst (λ (x : Item). IsFirst k x) j.1 tt)

end_again : (k : Known) (rest : List ℕ) (item : Item) → word_line words.End k rest ≡ Ok item → Again k item
unfolding word_line end_line command_text
end_again k rest item e =
    let j = judged_ok (least_broken ((3, is_blank rest) ∷ (12, k.in_phase) ∷ [])) (items.Command commands.End) item e in
    let three = holds 3 (is_blank rest) ((12, k.in_phase) ∷ []) j.0 in
    let twelve = holds 12 (k.in_phase) [] three.1 in
    let said : word_line words.End k [] ≡ Ok item = rw twelve.0 (ap (λ (x : Item). Ok x) j.1) in
    (subst (λ (x : Item). line_item k (item_text k.decls x) ≡ Ok item) j.1 (line_alone k words.End item said), subst (λ (x : Item). IsFirst k x) j.1 tt)

-- ---- declarations

label_then_sets : (label : List ℕ) (sets : List (List Span)) → IsField label → field_at (32 ∷ (label ++ sets_text sets)) ≡ Ok (label, sets_text sets)
unfolding sets_text
label_then_sets label [] h = field_alone label h
label_then_sets label (s ∷ ss) h = field_again label (set_text s ++ sets_text ss) h

not_true : (b : Bool) → not b ≡ true → b ≡ false
not_true true h = absurd cc
not_true false h = refl

abbrev node_rules : Known → List ℕ → List (List Span) → List (ℕ × Bool)
node_rules k label sets =
    (8, not (is_declared k.decls label))
    ∷ (10, nat_lt (count_of kinds.Node k.decls) 32 && nat_le (length sets) 16)
    ∷ (11, are_apart sets)
    ∷ (12, not k.begun)
    ∷ []

node_said : (k : Known) (label : List ℕ) (sets : List (List Span)) (item : Item) → IsField label → is_label label ≡ true → AreShort sets
    → judged (least_broken (node_rules k label sets)) (items.Decl (decls.Node label sets)) ≡ Ok item → word_line words.Node k (32 ∷ (label ++ sets_text sets)) ≡ Ok item
unfolding word_line node_line
node_said k label sets item h four short j = rw (label_then_sets label sets h, four, sets_again sets short) j

node_again : (k : Known) (rest : List ℕ) (item : Item) → word_line words.Node k rest ≡ Ok item → Again k item
unfolding word_line node_line decl_text
node_again k rest item e =
    let judge : List ℕ → List (List Span) → Result Item ℕ = λ label sets. judged (least_broken (node_rules k label sets)) (items.Decl (decls.Node label sets)) in
    let a = bind_ok (field_at rest) (λ label. demand 4 (is_label label.0) >>= λ _. sets_of (fields_of label.1) >>= λ sets. judge label.0 sets) item e in
    let label = a.0.0 in
    let b = demand_ok 4 (is_label label) (λ _. sets_of (fields_of a.0.1) >>= λ sets. judge label sets) item a.2 in
    let c = bind_ok (sets_of (fields_of a.0.1)) (λ sets. judge label sets) item b.1 in
    let sets = c.0 in
    let j = judged_ok (least_broken (node_rules k label sets)) (items.Decl (decls.Node label sets)) item c.2 in
    let eight = holds 8 (not (is_declared k.decls label)) ((10, nat_lt (count_of kinds.Node k.decls) 32 && nat_le (length sets) 16) ∷ (11, are_apart sets) ∷ (12, not k.begun) ∷ []) j.0 in
    let ten = holds 10 (nat_lt (count_of kinds.Node k.decls) 32 && nat_le (length sets) 16) ((11, are_apart sets) ∷ (12, not k.begun) ∷ []) eight.1 in
    let eleven = holds 11 (are_apart sets) ((12, not k.begun) ∷ []) ten.1 in
    let twelve = holds 12 (not k.begun) [] eleven.1 in
    let short = sets_short (fields_of a.0.1) sets c.1 in
    let said = node_said k label sets item (field_is_field rest a.0 a.1) b.0 short c.2 in
    let plain : Plain (32 ∷ (label ++ sets_text sets)) = plain_more 32 (label ++ sets_text sets) refl (plain_append label (sets_text sets) (visible_plain label (label_visible label b.0)) (sets_plain sets short)) in (
      subst (λ (x : Item). line_item k (item_text k.decls x) ≡ Ok item) j.1 (line_with k words.Node (label ++ sets_text sets) item plain said),
      subst (λ (x : Item). IsFirst k x) j.1 (record {
        first = not_true k.begun twelve.0;
        label = b.0;
        undeclared = not_true (is_declared k.decls label) eight.0;
        few = (both (nat_lt (count_of kinds.Node k.decls) 32) (nat_le (length sets) 16) ten.0).0;
      }),
    )

abbrev client_rules : Known → List ℕ → List ℕ → List (ℕ × Bool)
client_rules k label node =
    (4, is_label label && is_label node)
    ∷ (8, not (is_declared k.decls label))
    ∷ (9, is_used kinds.Node k node)
    ∷ (10, nat_lt (count_of kinds.Client k.decls) 256)
    ∷ (12, not k.begun)
    ∷ []

client_said : (k : Known) (label node : List ℕ) (item : Item) → IsField label → IsField node
    → judged (least_broken (client_rules k label node)) (items.Decl (decls.Client label (number kinds.Node k node))) ≡ Ok item → word_line words.Client k (32 ∷ (label ++ (32 ∷ node))) ≡ Ok item
unfolding word_line client_line
client_said k label node item h g j = rw (field_again label node h, last_again node g) j

client_again : (k : Known) (rest : List ℕ) (item : Item) → word_line words.Client k rest ≡ Ok item → Again k item
unfolding word_line client_line decl_text
client_again k rest item e =
    let judge : List ℕ → List ℕ → Result Item ℕ = λ label node. judged (least_broken (client_rules k label node)) (items.Decl (decls.Client label (number kinds.Node k node))) in
    let a = bind_ok (field_at rest) (λ label. last_field label.1 >>= λ node. judge label.0 node) item e in
    let label = a.0.0 in
    let b = bind_ok (last_field a.0.1) (λ node. judge label node) item a.2 in
    let node = b.0 in
    let n = number kinds.Node k node in
    let j = judged_ok (least_broken (client_rules k label node)) (items.Decl (decls.Client label (number kinds.Node k node))) item b.2 in
    let four = holds 4 (is_label label && is_label node) ((8, not (is_declared k.decls label)) ∷ (9, is_used kinds.Node k node) ∷ (10, nat_lt (count_of kinds.Client k.decls) 256) ∷ (12, not k.begun) ∷ []) j.0 in
    let eight = holds 8 (not (is_declared k.decls label)) ((9, is_used kinds.Node k node) ∷ (10, nat_lt (count_of kinds.Client k.decls) 256) ∷ (12, not k.begun) ∷ []) four.1 in
    let nine = holds 9 (is_used kinds.Node k node) ((10, nat_lt (count_of kinds.Client k.decls) 256) ∷ (12, not k.begun) ∷ []) eight.1 in
    let ten = holds 10 (nat_lt (count_of kinds.Client k.decls) 256) ((12, not k.begun) ∷ []) nine.1 in
    let twelve = holds 12 (not k.begun) [] ten.1 in
    let labels = both (is_label label) (is_label node) four.0 in
    let l = label_is kinds.Node k node nine.0 in
    let said = client_said k label node item (field_is_field rest a.0 a.1) (last_is_field a.0.1 node b.1) b.2 in
    let plain : Plain (32 ∷ (label ++ (32 ∷ node))) =
    plain_more 32 (label ++ (32 ∷ node)) refl (plain_append label (32 ∷ node) (visible_plain label (label_visible label labels.0)) (plain_more 32 node refl (visible_plain node (label_visible node labels.1)))) in
    let whole : line_item k (word_text words.Client ++ (32 ∷ (label ++ (32 ∷ node)))) ≡ Ok item = line_with k words.Client (label ++ (32 ∷ node)) item plain said in
    let shown : line_item k (word_text words.Client ++ (32 ∷ (label ++ (32 ∷ label_text kinds.Node k.decls (number kinds.Node k node))))) ≡ Ok item =
    subst (λ (x : List ℕ). line_item k (word_text words.Client ++ (32 ∷ (label ++ (32 ∷ x)))) ≡ Ok item) (sym l) whole in (
      subst (λ (x : Item). line_item k (item_text k.decls x) ≡ Ok item) j.1 shown,
      subst (λ (x : Item). IsFirst k x) j.1 (record {
        first = not_true k.begun twelve.0;
        label = labels.0;
        undeclared = not_true (is_declared k.decls label) eight.0;
        few = ten.0;
      }),
    )

-- a stream's fields
pub record AreFields (s : Stream) : Type 0 where
  pub label : IsField s.label
  pub source : IsField s.source
  pub dest : IsField s.dest

stream_fields : (rest : List ℕ) (s : Stream) → stream_at rest ≡ Ok s → AreFields s
unfolding stream_at
stream_fields rest s e =
    let made : List ℕ → List ℕ → List ℕ → List ℕ → Bool → Stream = λ label source dest sub bodies. record { label = label; source = source; dest = dest; sub = sub; bodies = bodies } in
    let a = bind_ok (field_at rest) (λ label. field_at label.1 >>= λ source. field_at source.1 >>= λ dest. field_at dest.1 >>= λ sub. bodies_at sub.1 >>= λ bodies. Ok (made label.0 source.0 dest.0 sub.0 bodies)) s e in
    let b = bind_ok (field_at a.0.1) (λ source. field_at source.1 >>= λ dest. field_at dest.1 >>= λ sub. bodies_at sub.1 >>= λ bodies. Ok (made a.0.0 source.0 dest.0 sub.0 bodies)) s a.2 in
    let c = bind_ok (field_at b.0.1) (λ dest. field_at dest.1 >>= λ sub. bodies_at sub.1 >>= λ bodies. Ok (made a.0.0 b.0.0 dest.0 sub.0 bodies)) s b.2 in
    let d = bind_ok (field_at c.0.1) (λ sub. bodies_at sub.1 >>= λ bodies. Ok (made a.0.0 b.0.0 c.0.0 sub.0 bodies)) s c.2 in
    let f = bind_ok (bodies_at d.0.1) (λ bodies. Ok (made a.0.0 b.0.0 c.0.0 d.0.0 bodies)) s d.2 in
    subst (λ (x : Stream). AreFields x) (ok_is (made a.0.0 b.0.0 c.0.0 d.0.0 f.0) s f.2)
    (record { label = field_is_field rest a.0 a.1; source = field_is_field a.0.1 b.0 b.1; dest = field_is_field b.0.1 c.0 c.1 })

set_then_bodies : (sub : List ℕ) (bodies : Bool) → IsField sub → field_at (32 ∷ (sub ++ bodies_text bodies)) ≡ Ok (sub, bodies_text bodies)
set_then_bodies sub true h = field_again sub (codes "bodies") h
set_then_bodies sub false h = field_alone sub h

bodies_again : (bodies : Bool) → bodies_at (bodies_text bodies) ≡ Ok bodies
unfolding bodies_at last_field field_at
bodies_again true = refl
bodies_again false = refl

bodies_plain : (bodies : Bool) → Plain (bodies_text bodies)
bodies_plain true = refl
bodies_plain false = refl

abbrev stream_args : List ℕ → List ℕ → List ℕ → List ℕ → Bool → List ℕ
stream_args label source dest sub bodies = label ++ (32 ∷ (source ++ (32 ∷ (dest ++ (32 ∷ (sub ++ bodies_text bodies))))))

stream_shape : (label source dest sub : List ℕ) (bodies : Bool) → IsField label → IsField source → IsField dest → IsField sub
    → stream_at (32 ∷ stream_args label source dest sub bodies) ≡ Ok (record { label = label; source = source; dest = dest; sub = sub; bodies = bodies })
unfolding stream_at
stream_shape label source dest sub bodies hl hs hd hu =
    let a = field_again label (source ++ (32 ∷ (dest ++ (32 ∷ (sub ++ bodies_text bodies))))) hl in
    let b = field_again source (dest ++ (32 ∷ (sub ++ bodies_text bodies))) hs in
    let c = field_again dest (sub ++ bodies_text bodies) hd in
    rw (a, b, c, set_then_bodies sub bodies hu, bodies_again bodies) refl

abbrev stream_rules : Known → List ℕ → List ℕ → List ℕ → List (ℕ × Bool)
stream_rules k label source dest =
    (8, not (is_declared k.decls label))
    ∷ (9, is_used kinds.Node k source && is_used kinds.Node k dest)
    ∷ (10, nat_lt (count_of kinds.Stream k.decls) 64)
    ∷ (12, not k.begun && not (nat_eq (number kinds.Node k source) (number kinds.Node k dest)))
    ∷ []

abbrev stream_item : Known → List ℕ → List ℕ → List ℕ → List Span → Bool → Item
stream_item k label source dest sub bodies = items.Decl (decls.Stream label (number kinds.Node k source) (number kinds.Node k dest) sub bodies)

stream_said : (k : Known) (label source dest : List ℕ) (sub : List Span) (bodies : Bool) (item : Item) → IsField label → IsField source → IsField dest → IsShort sub
    → (is_label label && is_label source && is_label dest) ≡ true
    → judged (least_broken (stream_rules k label source dest)) (stream_item k label source dest sub bodies) ≡ Ok item
    → word_line words.Stream k (32 ∷ stream_args label source dest (set_text sub) bodies) ≡ Ok item
unfolding word_line stream_line
stream_said k label source dest sub bodies item hl hs hd short four j =
    rw (stream_shape label source dest (set_text sub) bodies hl hs hd (set_field sub short), four, set_again sub short) j

stream_again : (k : Known) (rest : List ℕ) (item : Item) → word_line words.Stream k rest ≡ Ok item → Again k item
unfolding word_line stream_line decl_text
stream_again k rest item e =
    let make : Stream → List Span → Item = λ s sub. stream_item k s.label s.source s.dest sub s.bodies in
    let judge : Stream → List Span → Result Item ℕ = λ s sub. judged (least_broken (stream_rules k s.label s.source s.dest)) (make s sub) in
    let a = bind_ok (stream_at rest) (λ s. demand 4 (is_label s.label && is_label s.source && is_label s.dest) >>= λ _. wanted 6 (set_of s.sub) >>= λ sub. judge s sub) item e in
    let s = a.0 in
    let b = demand_ok 4 (is_label s.label && is_label s.source && is_label s.dest) (λ _. wanted 6 (set_of s.sub) >>= λ sub. judge s sub) item a.2 in
    let c = wanted_ok 6 (set_of s.sub) (λ sub. judge s sub) item b.1 in
    let sub = c.0 in
    let j = judged_ok (least_broken (stream_rules k s.label s.source s.dest)) (make s sub) item c.2 in
    let eight = holds 8 (not (is_declared k.decls s.label)) ((9, is_used kinds.Node k s.source && is_used kinds.Node k s.dest) ∷ (10, nat_lt (count_of kinds.Stream k.decls) 64) ∷ (12, not k.begun && not (nat_eq (number kinds.Node k s.source) (number kinds.Node k s.dest))) ∷ []) j.0 in
    let nine = holds 9 (is_used kinds.Node k s.source && is_used kinds.Node k s.dest) ((10, nat_lt (count_of kinds.Stream k.decls) 64) ∷ (12, not k.begun && not (nat_eq (number kinds.Node k s.source) (number kinds.Node k s.dest))) ∷ []) eight.1 in
    let ten = holds 10 (nat_lt (count_of kinds.Stream k.decls) 64) ((12, not k.begun && not (nat_eq (number kinds.Node k s.source) (number kinds.Node k s.dest))) ∷ []) nine.1 in
    let twelve = holds 12 (not k.begun && not (nat_eq (number kinds.Node k s.source) (number kinds.Node k s.dest))) [] ten.1 in
    let used = both (is_used kinds.Node k s.source) (is_used kinds.Node k s.dest) nine.0 in
    let first = both (not k.begun) (not (nat_eq (number kinds.Node k s.source) (number kinds.Node k s.dest))) twelve.0 in
    let labels = both (is_label s.label && is_label s.source) (is_label s.dest) b.0 in
    let ends = both (is_label s.label) (is_label s.source) labels.0 in
    let l = label_is kinds.Node k s.source used.0 in
    let m = label_is kinds.Node k s.dest used.1 in
    let fields = stream_fields rest s a.1 in
    let short = set_short s.sub sub c.1 in
    let said = stream_said k s.label s.source s.dest sub s.bodies item fields.label fields.source fields.dest short b.0 c.2 in
    let end_plain : Plain (32 ∷ (set_text sub ++ bodies_text s.bodies)) = plain_more 32 (set_text sub ++ bodies_text s.bodies) refl (plain_append (set_text sub) (bodies_text s.bodies) (set_plain sub short) (bodies_plain s.bodies)) in
    let dest_plain : Plain (32 ∷ (s.dest ++ (32 ∷ (set_text sub ++ bodies_text s.bodies)))) =
    plain_more 32 (s.dest ++ (32 ∷ (set_text sub ++ bodies_text s.bodies))) refl (plain_append s.dest (32 ∷ (set_text sub ++ bodies_text s.bodies)) (visible_plain s.dest (label_visible s.dest labels.1)) end_plain) in
    let source_plain : Plain (32 ∷ (s.source ++ (32 ∷ (s.dest ++ (32 ∷ (set_text sub ++ bodies_text s.bodies)))))) =
    plain_more 32 (s.source ++ (32 ∷ (s.dest ++ (32 ∷ (set_text sub ++ bodies_text s.bodies))))) refl (plain_append s.source (32 ∷ (s.dest ++ (32 ∷ (set_text sub ++ bodies_text s.bodies)))) (visible_plain s.source (label_visible s.source ends.1)) dest_plain) in
    let plain : Plain (32 ∷ stream_args s.label s.source s.dest (set_text sub) s.bodies) =
    plain_more 32 (stream_args s.label s.source s.dest (set_text sub) s.bodies) refl
    (plain_append s.label (32 ∷ (s.source ++ (32 ∷ (s.dest ++ (32 ∷ (set_text sub ++ bodies_text s.bodies)))))) (visible_plain s.label (label_visible s.label ends.0)) source_plain) in
    let whole : line_item k (word_text words.Stream ++ (32 ∷ stream_args s.label s.source s.dest (set_text sub) s.bodies)) ≡ Ok item =
    line_with k words.Stream (stream_args s.label s.source s.dest (set_text sub) s.bodies) item plain said in
    let shown : line_item k (word_text words.Stream ++ (32 ∷ stream_args s.label (label_text kinds.Node k.decls (number kinds.Node k s.source)) (label_text kinds.Node k.decls (number kinds.Node k s.dest)) (set_text sub) s.bodies)) ≡ Ok item =
    subst (λ (x : List ℕ). line_item k (word_text words.Stream ++ (32 ∷ stream_args s.label x (label_text kinds.Node k.decls (number kinds.Node k s.dest)) (set_text sub) s.bodies)) ≡ Ok item) (sym l)
    (subst (λ (y : List ℕ). line_item k (word_text words.Stream ++ (32 ∷ stream_args s.label s.source y (set_text sub) s.bodies)) ≡ Ok item) (sym m) whole) in (
      subst (λ (x : Item). line_item k (item_text k.decls x) ≡ Ok item) j.1 shown,
      subst (λ (x : Item). IsFirst k x) j.1 (record {
        first = not_true k.begun first.0;
        label = ends.0;
        undeclared = not_true (is_declared k.decls s.label) eight.0;
        few = ten.0;
      }),
    )

-- ---- every line

word_again : (w : Word) (k : Known) (rest : List ℕ) (item : Item) → word_line w k rest ≡ Ok item → Again k item
word_again words.Node k rest item e = node_again k rest item e
word_again words.Client k rest item e = client_again k rest item e
word_again words.Stream k rest item e = stream_again k rest item e
word_again words.Attach k rest item e = attach_again k rest item e
word_again words.Detach k rest item e = detach_again k rest item e
word_again words.Send k rest item e = send_again k rest item e
word_again words.Checkpoint k rest item e = checkpoint_again k rest item e
word_again words.Deliver k rest item e = deliver_again k rest item e
word_again words.Flow k rest item e = flow_again k rest item e
word_again words.Write k rest item e = write_again k rest item e
word_again words.Delete k rest item e = delete_again k rest item e
word_again words.Read k rest item e = read_again k rest item e
word_again words.Move k rest item e = move_again k rest item e
word_again words.Expect k rest item e = expect_again k rest item e
word_again words.Cut k rest item e = cut_again k rest item e
word_again words.State k rest item e = state_again k rest item e
word_again words.Drop k rest item e = drop_again k rest item e
word_again words.Conflicts k rest item e = conflicts_again k rest item e
word_again words.Settle k rest item e = settle_again k rest item e
word_again words.Phase k rest item e = phase_again k rest item e
word_again words.End k rest item e = end_again k rest item e

pub item_again : (k : Known) (line : List ℕ) (item : Item) → line_item k line ≡ Ok item → Again k item
unfolding line_item
item_again k line item e =
    let a = demand_ok 1 (list_all is_plain line) (λ _. field_at line >>= λ first. wanted 2 (word_of first.0) >>= λ word. word_line word k first.1) item e in
    let b = bind_ok (field_at line) (λ first. wanted 2 (word_of first.0) >>= λ word. word_line word k first.1) item a.1 in
    let c = wanted_ok 2 (word_of b.0.0) (λ word. word_line word k b.0.1) item b.2 in
    word_again c.0 k b.0.1 item c.2

pub item_plain : (k : Known) (line : List ℕ) (item : Item) → line_item k line ≡ Ok item → Plain line
unfolding line_item
item_plain k line item e = (demand_ok 1 (list_all is_plain line) (λ _. field_at line >>= λ first. wanted 2 (word_of first.0) >>= λ word. word_line word k first.1) item e).0
