-- The printed text of a workload is one that the reader accepts: its lines, one after the other.
use Rattle.std.proofs.Common.{◌≡◌, ℕ, zero, suc, ◌+◌, ◌<◌, ◌≤◌, Bool, true, false, List, [], ◌∷◌, ◌++◌, length, None, Some, Ok, refl, ap, arith}
use Rattle.std.specs.Prelude.{decimal, nat_le, ◌==◌}
use Rattle.std.specs.List.{AllByRecursion, list_all, list_any}
use Rattle.std.proofs.lemmas.Bool.Decides.{nat_tests}
use Rattle.pr_names.specs.Name.{IsName}
use Rattle.pr_names.specs.Order.{name_lt}
use Rattle.pr_names.specs.Text.{ends_read, star_read, single_read, interval_read, end_text, interval_text}
use Rattle.pr_names.proofs.Texts.{name_read_ok}
use Rattle.pr_sets.specs.Ends.{joined}
use Rattle.pr_sets.specs.Text.{with_part, list_of, items_read, set_read, more_text, set_text}
use Rattle.pr_script.specs.declared.command.Command.{Command}
use Rattle.pr_script.specs.declared.command.Command.TheVariants as commands
use Rattle.pr_script.specs.declared.item.Item.TheVariants as items
use Rattle.pr_script.specs.declared.kind.Kind.{Kind}
use Rattle.pr_script.specs.declared.kind.Kind.TheVariants as kinds
use Rattle.pr_script.specs.declared.known.Known.{Known}
use Rattle.pr_script.specs.declared.word.Word.TheVariants as words
use Rattle.pr_script.specs.Fields.{field_at, last_field, fields_of, is_plain, name_of, value_of}
use Rattle.pr_script.specs.Known.{is_read, known_after, turns_after}
use Rattle.pr_script.specs.Labels.{is_label, labels_of, number_among}
use Rattle.pr_script.specs.Lines.{node_line, client_line, bodies_at, stream_at, stream_line, attach_line, flow_line, write_line, read_line, settle_line, declaration_word, stream_word, client_word, node_word, lone_word, word_of, word_line, line_item}
use Rattle.pr_script.specs.Parts.{label_at, name_at, turns_at, written_at}
use Rattle.pr_script.specs.Printing.{label_text, sets_text, decl_text, command_text, decl_lines, command_lines, quoted}
use Rattle.pr_script.specs.Reading.{after, is_skipped, next, start}
use Rattle.pr_script.specs.Sets.{sets_of, are_apart}
use Rattle.pr_script.proofs.DecimalAgain.{number_again}
use Rattle.pr_script.proofs.FieldsAgain.{IsField, is_field, field_again, last_again}
use Rattle.pr_script.proofs.TextAgain.{quoted_again}
use Rattle.pr_script.proofs.Visible.{Plain, plain_more, plain_append, visible_plain, all_allowed, field_of, decimal_visible, decimal_field, quoted_plain}
use Rattle.pr_script.proofs.WordsAgain.{line_with, line_alone}
use Rattle.pr_gen.specs.Topology.{declared, each}
use Rattle.pr_gen.specs.Workload.{numbered}
use Rattle.pr_gen.proofs.Runs.{sixteen, is_attached, attached_stays}

-- what is known where all is declared and attached
abbrev pub known_at : ℕ → Bool → Known
known_at turns after_read = record { decls = declared; begun = true; turns = turns; after_read = after_read; attached = sixteen; in_phase = false; clients = []; flows = [] }

-- the lines before the steps
abbrev pub opening : List (List ℕ)
opening = decl_lines [] declared ++ command_lines declared (numbered 33 (each 16 commands.Attach))

pub opened : after start opening ≡ record { lines = 48; known = known_at 0 false; commands = numbered 33 (each 16 commands.Attach); fault = None }
unfolding name_lt ends_read star_read single_read interval_read end_text interval_text joined with_part list_of items_read set_read more_text set_text field_at last_field fields_of labels_of node_line client_line bodies_at stream_at stream_line attach_line declaration_word stream_word client_word node_word lone_word word_of word_line line_item label_at label_text sets_text decl_text command_text decl_lines next sets_of are_apart declared each numbered sixteen
opened = refl

pub opening_plain : list_all (λ l. list_all is_plain l) opening ≡ true
unfolding name_lt ends_read star_read single_read interval_read end_text interval_text joined with_part list_of items_read set_read more_text set_text field_at last_field fields_of labels_of node_line client_line bodies_at stream_at stream_line attach_line declaration_word stream_word client_word node_word lone_word word_of word_line line_item label_at label_text sets_text decl_text command_text decl_lines next sets_of are_apart declared each numbered sixteen
opening_plain = refl

-- ---- labels

record IsCalled (kind : Kind) (n : ℕ) : Type 0 where
  label : is_label (label_text kind declared n) ≡ true
  among : number_among kind declared (label_text kind declared n) ≡ Some n
  field : IsField (label_text kind declared n)
  plain : Plain (label_text kind declared n)

client_called : (n : ℕ) → n < 8 → IsCalled kinds.Client n
unfolding declared each labels_of label_text
client_called zero h = record { label = refl; among = refl; field = is_field 67 _ refl (refl, tt); plain = refl }
client_called (suc zero) h = record { label = refl; among = refl; field = is_field 67 _ refl (refl, tt); plain = refl }
client_called (suc (suc zero)) h = record { label = refl; among = refl; field = is_field 67 _ refl (refl, tt); plain = refl }
client_called (suc (suc (suc zero))) h = record { label = refl; among = refl; field = is_field 67 _ refl (refl, tt); plain = refl }
client_called (suc (suc (suc (suc zero)))) h = record { label = refl; among = refl; field = is_field 67 _ refl (refl, tt); plain = refl }
client_called (suc (suc (suc (suc (suc zero))))) h = record { label = refl; among = refl; field = is_field 67 _ refl (refl, tt); plain = refl }
client_called (suc (suc (suc (suc (suc (suc zero)))))) h = record { label = refl; among = refl; field = is_field 67 _ refl (refl, tt); plain = refl }
client_called (suc (suc (suc (suc (suc (suc (suc zero))))))) h = record { label = refl; among = refl; field = is_field 67 _ refl (refl, tt); plain = refl }
client_called (suc (suc (suc (suc (suc (suc (suc (suc n)))))))) h = absurd (omega arith)

stream_called : (n : ℕ) → n < 16 → IsCalled kinds.Stream n
unfolding declared each labels_of label_text
stream_called zero h = record { label = refl; among = refl; field = is_field 83 _ refl (refl, tt); plain = refl }
stream_called (suc zero) h = record { label = refl; among = refl; field = is_field 83 _ refl (refl, tt); plain = refl }
stream_called (suc (suc zero)) h = record { label = refl; among = refl; field = is_field 83 _ refl (refl, tt); plain = refl }
stream_called (suc (suc (suc zero))) h = record { label = refl; among = refl; field = is_field 83 _ refl (refl, tt); plain = refl }
stream_called (suc (suc (suc (suc zero)))) h = record { label = refl; among = refl; field = is_field 83 _ refl (refl, tt); plain = refl }
stream_called (suc (suc (suc (suc (suc zero))))) h = record { label = refl; among = refl; field = is_field 83 _ refl (refl, tt); plain = refl }
stream_called (suc (suc (suc (suc (suc (suc zero)))))) h = record { label = refl; among = refl; field = is_field 83 _ refl (refl, tt); plain = refl }
stream_called (suc (suc (suc (suc (suc (suc (suc zero))))))) h = record { label = refl; among = refl; field = is_field 83 _ refl (refl, tt); plain = refl }
stream_called (suc (suc (suc (suc (suc (suc (suc (suc zero)))))))) h = record { label = refl; among = refl; field = is_field 84 _ refl (refl, tt); plain = refl }
stream_called (suc (suc (suc (suc (suc (suc (suc (suc (suc zero))))))))) h = record { label = refl; among = refl; field = is_field 84 _ refl (refl, tt); plain = refl }
stream_called (suc (suc (suc (suc (suc (suc (suc (suc (suc (suc zero)))))))))) h = record { label = refl; among = refl; field = is_field 84 _ refl (refl, tt); plain = refl }
stream_called (suc (suc (suc (suc (suc (suc (suc (suc (suc (suc (suc zero))))))))))) h = record { label = refl; among = refl; field = is_field 84 _ refl (refl, tt); plain = refl }
stream_called (suc (suc (suc (suc (suc (suc (suc (suc (suc (suc (suc (suc zero)))))))))))) h = record { label = refl; among = refl; field = is_field 84 _ refl (refl, tt); plain = refl }
stream_called (suc (suc (suc (suc (suc (suc (suc (suc (suc (suc (suc (suc (suc zero))))))))))))) h = record { label = refl; among = refl; field = is_field 84 _ refl (refl, tt); plain = refl }
stream_called (suc (suc (suc (suc (suc (suc (suc (suc (suc (suc (suc (suc (suc (suc zero)))))))))))))) h = record { label = refl; among = refl; field = is_field 84 _ refl (refl, tt); plain = refl }
stream_called (suc (suc (suc (suc (suc (suc (suc (suc (suc (suc (suc (suc (suc (suc (suc zero))))))))))))))) h = record { label = refl; among = refl; field = is_field 84 _ refl (refl, tt); plain = refl }
stream_called (suc (suc (suc (suc (suc (suc (suc (suc (suc (suc (suc (suc (suc (suc (suc (suc n)))))))))))))))) h = absurd (omega arith)

-- ---- the lines of commands

-- the command's line says the command, and leaves the streams attached
pub record IsSaid (c : Command) : Type 0 where
  pub said : (turns : ℕ) (after_read : Bool) → turns_after c turns ≤ 1000000 → line_item (known_at turns after_read) (command_text declared c) ≡ Ok (items.Command c)
  pub shown : is_skipped (command_text declared c) ≡ false
  pub known : (turns : ℕ) (after_read : Bool) → known_after (known_at turns after_read) (items.Command c) ≡ known_at (turns_after c turns) (is_read c)

pub settle_said : IsSaid commands.Settle
unfolding command_text word_line settle_line
settle_said = record { said = λ turns after_read few. line_alone (known_at turns after_read) words.Settle (items.Command commands.Settle) refl; shown = refl; known = λ turns after_read. refl }

pub attach_said : (n : ℕ) → n < 16 → IsSaid (commands.Attach n)
unfolding command_text word_line attach_line label_at
attach_said n h =
    let l = label_text kinds.Stream declared n in
    let called = stream_called n h in
    record {
      said = λ turns after_read few. line_with (known_at turns after_read) words.Attach l (items.Command (commands.Attach n)) (plain_more 32 l refl called.plain) (rw (last_again l called.field, called.label, called.among) refl);
      shown = refl;
      known = λ turns after_read. ap (λ (ns : List ℕ). record (known_at turns false) { attached = ns }) (attached_stays n h);
    }

name_field : (o : List ℕ) → IsName o → IsField o
name_field o h = field_of o (omega (arith, h.some)) (all_allowed o h.each)

name_plain : (o : List ℕ) → IsName o → Plain o
name_plain o h = visible_plain o (all_allowed o h.each)

named : (o : List ℕ) → IsName o → name_of o ≡ Some o
named o h = ap value_of (name_read_ok o h)

read_line_said : (k : Known) (l o : List ℕ) (n : ℕ) → k.in_phase ≡ false → IsField l → IsField o → is_label l ≡ true → number_among kinds.Client k.decls l ≡ Some n → name_of o ≡ Some o
    → read_line k (32 ∷ (l ++ (32 ∷ o))) ≡ Ok (items.Command (commands.Read n o))
unfolding read_line name_at
read_line_said k l o n out fl fo il among name = rw (field_again l o fl, last_again o fo, il, name, among, out) refl

pub read_said : (n : ℕ) (o : List ℕ) → n < 8 → IsName o → IsSaid (commands.Read n o)
unfolding command_text word_line
read_said n o h name =
    let l = label_text kinds.Client declared n in
    let called = client_called n h in
    let plain = plain_more 32 (l ++ (32 ∷ o)) refl (plain_append l (32 ∷ o) called.plain (plain_more 32 o refl (name_plain o name))) in
    record {
      said = λ turns after_read few. line_with (known_at turns after_read) words.Read (l ++ (32 ∷ o)) (items.Command (commands.Read n o)) plain
          (read_line_said (known_at turns after_read) l o n refl called.field (name_field o name) called.label called.among (named o name));
      shown = refl;
      known = λ turns after_read. refl;
    }

write_line_said : (k : Known) (l o t : List ℕ) (n : ℕ) → k.in_phase ≡ false → IsField l → IsField o → is_label l ≡ true → number_among kinds.Client k.decls l ≡ Some n → name_of o ≡ Some o
    → AllByRecursion (λ b. b < 256) t → nat_le (length t) 1024 ≡ true → write_line k (32 ∷ (l ++ (32 ∷ (o ++ (32 ∷ quoted t))))) ≡ Ok (items.Command (commands.Write n o t))
unfolding write_line written_at
write_line_said k l o t n out fl fo il among name bytes short = rw (field_again l (o ++ (32 ∷ quoted t)) fl, field_again o (quoted t) fo, quoted_again t bytes, il, name, among, short, out) refl

fits : (n : ℕ) → n ≤ 1024 → nat_le n 1024 ≡ true
fits n h = grind (arith, nat_tests)

pub write_said : (n : ℕ) (o t : List ℕ) → n < 8 → IsName o → AllByRecursion (λ b. b < 256) t → length t ≤ 1024 → IsSaid (commands.Write n o t)
unfolding command_text word_line
write_said n o t h name bytes short =
    let l = label_text kinds.Client declared n in
    let called = client_called n h in
    let rest = plain_more 32 (quoted t) refl (quoted_plain t bytes) in
    let plain = plain_more 32 (l ++ (32 ∷ (o ++ (32 ∷ quoted t)))) refl (plain_append l (32 ∷ (o ++ (32 ∷ quoted t))) called.plain (plain_more 32 (o ++ (32 ∷ quoted t)) refl (plain_append o (32 ∷ quoted t) (name_plain o name) rest))) in
    record {
      said = λ turns after_read few. line_with (known_at turns after_read) words.Write (l ++ (32 ∷ (o ++ (32 ∷ quoted t)))) (items.Command (commands.Write n o t)) plain
          (write_line_said (known_at turns after_read) l o t n refl called.field (name_field o name) called.label called.among (named o name) bytes (fits (length t) short));
      shown = refl;
      known = λ turns after_read. refl;
    }

flow_line_said : (k : Known) (l : List ℕ) (n m : ℕ) → k.in_phase ≡ false → IsField l → is_label l ≡ true → number_among kinds.Stream k.decls l ≡ Some n → 1 ≤ m → m ≤ 1000000
    → nat_le (k.turns + m) 1000000 ≡ true → list_any (λ s. s == n) k.attached ≡ true → flow_line k (32 ∷ (l ++ (32 ∷ decimal m))) ≡ Ok (items.Command (commands.Flow n m))
unfolding flow_line turns_at
flow_line_said k l n m out fl il among lo hi few ready =
    rw (field_again l (decimal m) fl, last_again (decimal m) (decimal_field m (omega arith)), number_again 1 1000000 m lo hi (omega arith), il, among, out, few, ready) refl

few_turns : (n : ℕ) → n ≤ 1000000 → nat_le n 1000000 ≡ true
few_turns n h = grind (arith, nat_tests)

pub flow_said : (n m : ℕ) → n < 16 → 1 ≤ m → m ≤ 1000000 → IsSaid (commands.Flow n m)
unfolding command_text word_line
flow_said n m h lo hi =
    let l = label_text kinds.Stream declared n in
    let called = stream_called n h in
    let rest = plain_more 32 (decimal m) refl (visible_plain (decimal m) (decimal_visible m (omega arith))) in
    let plain = plain_more 32 (l ++ (32 ∷ decimal m)) refl (plain_append l (32 ∷ decimal m) called.plain rest) in
    record {
      said = λ turns after_read few. line_with (known_at turns after_read) words.Flow (l ++ (32 ∷ decimal m)) (items.Command (commands.Flow n m)) plain
          (flow_line_said (known_at turns after_read) l n m refl called.field called.label called.among lo hi (few_turns (turns + m) few) (is_attached n h));
      shown = refl;
      known = λ turns after_read. refl;
    }
