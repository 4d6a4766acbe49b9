-- What an accepted line says is good where it stands.
use Rattle.std.proofs.Common.{◌≡◌, ℕ, ◌+◌, ◌<◌, ◌≤◌, Bool, true, false, cond, List, [], ◌∷◌, ◌++◌, length, Option, Some, None, Result, Ok, refl, sym, subst, ◌∙◌, arith, length-append}
use Rattle.std.specs.Prelude.{◌≢◌, not, ◌&&◌, ◌||◌, nat_le, nat_lt, nat_eq, is_some, AllPairs}
use Rattle.std.specs.List.{AllByRecursion, list_all, list_any, position}
use Rattle.std.specs.Str.{bytes_eq}
use Rattle.std.proofs.lemmas.Bool.Decides.{nat_tests}
use Rattle.std.proofs.lemmas.List.Elements.{All-from_recursion}
use Rattle.std.proofs.lemmas.List.Kept.{AllPairs-cons}
use Rattle.std.proofs.lemmas.List.Quantifiers.{position-Some}
use Rattle.pr_names.specs.Span.{Span}
use Rattle.pr_sets.specs.Spans.{has, Meet}
use Rattle.pr_script.specs.declared.decl.Decl.TheVariants as decls
use Rattle.pr_script.specs.declared.command.Command.{Command}
use Rattle.pr_script.specs.declared.command.Command.TheVariants as commands
use Rattle.pr_script.specs.declared.want.Want.{Want}
use Rattle.pr_script.specs.declared.want.Want.TheVariants as wants
use Rattle.pr_script.specs.declared.item.Item.{Item}
use Rattle.pr_script.specs.declared.item.Item.TheVariants as items
use Rattle.pr_script.specs.declared.kind.Kind.{Kind}
use Rattle.pr_script.specs.declared.kind.Kind.TheVariants as kinds
use Rattle.pr_script.specs.declared.known.Known.{Known}
use Rattle.pr_script.specs.declared.parts.Written.{Written}
use Rattle.pr_script.specs.declared.word.Word.{Word}
use Rattle.pr_script.specs.declared.word.Word.TheVariants as words
use Rattle.pr_script.specs.Fields.{◌>>=◌, demand, wanted, is_plain, is_blank, field_at, last_field, fields_of, number_in, name_of, or_zero, or_none}
use Rattle.pr_script.specs.Texts.{last_text}
use Rattle.pr_script.specs.Sets.{share, set_of, sets_of, are_apart}
use Rattle.pr_script.specs.Labels.{is_label, labels_of, number_among, is_declared, count_of}
use Rattle.pr_script.specs.Known.{has_number, with_number, turns_after, clients_after, flows_after}
use Rattle.pr_script.specs.Parts.{least_broken, judged, is_used, number, label_at, name_at, turns_at, home_at, written_at}
use Rattle.pr_script.specs.Lines.{node_line, client_line, Stream, stream_at, stream_line, attach_line, is_ready, detach_line, send_line, checkpoint_line, deliver_line, flow_fits, may_flow, flow_line, client_fits, write_line, delete_line, read_line, move_line, want_at, want_fits, expect_line, cut_line, state_line, drop_line, conflicts_line, settle_line, phase_line, end_line, word_of, word_line, line_item}
use Rattle.pr_script.specs.Steps.{is_phase, is_end, flow_of}
use Rattle.pr_script.specs.Good.{IsShortWant, IsGoodDecl, IsGoodCommand, IsGoodJobLine}
use Rattle.pr_script.proofs.FieldsAgain.{bind_ok, demand_ok, wanted_ok}
use Rattle.pr_script.proofs.Positions.{both}
use Rattle.pr_script.proofs.DecimalAgain.{number_range}
use Rattle.pr_script.proofs.Shapes.{judged_ok, holds}
use Rattle.pr_script.proofs.Sharing.{shares}
use Rattle.pr_script.proofs.SpansRead.{IsShort, set_short}
use Rattle.pr_script.proofs.SetsAgain.{AreShort, sets_short}

-- ---- what the parts of a line name is declared

at_number : (a : List ℕ) (ls : List (List ℕ)) (o : Option ℕ) → position (bytes_eq a) ls ≡ o → is_some o ≡ true → or_zero o < length ls
at_number a ls None e h = absurd cc
at_number a ls (Some n) e h = (position-Some (bytes_eq a) ls n [] e).0

used : (kind : Kind) (k : Known) (label : List ℕ) → is_used kind k label ≡ true → number kind k label < count_of kind k.decls
used kind k label h = at_number label (labels_of kind k.decls) (number_among kind k.decls label) refl h

label_declared : (kind : Kind) (k : Known) (rest : List ℕ) (n : ℕ) → label_at kind k rest ≡ Ok n → n < count_of kind k.decls
unfolding label_at
label_declared kind k rest n e =
    let a = bind_ok (last_field rest) (λ label. judged (least_broken ((4, is_label label) ∷ (9, is_used kind k label) ∷ [])) (number kind k label)) n e in
    let j = judged_ok (least_broken ((4, is_label a.0) ∷ (9, is_used kind k a.0) ∷ [])) (number kind k a.0) n a.2 in
    let four = holds 4 (is_label a.0) ((9, is_used kind k a.0) ∷ []) j.0 in
    let nine = holds 9 (is_used kind k a.0) [] four.1 in
    subst (λ (m : ℕ). m < count_of kind k.decls) j.1 (used kind k a.0 nine.0)

name_declared : (kind : Kind) (k : Known) (rest : List ℕ) (n : ℕ × List ℕ) → name_at kind k rest ≡ Ok n → n.0 < count_of kind k.decls
unfolding name_at
name_declared kind k rest n e =
    let judge : List ℕ → List ℕ → Result (ℕ × List ℕ) ℕ = λ label name. judged (least_broken ((4, is_label label) ∷ (5, is_some (name_of name)) ∷ (9, is_used kind k label) ∷ [])) (number kind k label, or_none (name_of name)) in
    let a = bind_ok (field_at rest) (λ label. last_field label.1 >>= λ name. judge label.0 name) n e in
    let b = bind_ok (last_field a.0.1) (λ name. judge a.0.0 name) n a.2 in
    let j = judged_ok (least_broken ((4, is_label a.0.0) ∷ (5, is_some (name_of b.0)) ∷ (9, is_used kind k a.0.0) ∷ [])) (number kind k a.0.0, or_none (name_of b.0)) n b.2 in
    let four = holds 4 (is_label a.0.0) ((5, is_some (name_of b.0)) ∷ (9, is_used kind k a.0.0) ∷ []) j.0 in
    let five = holds 5 (is_some (name_of b.0)) ((9, is_used kind k a.0.0) ∷ []) four.1 in
    let nine = holds 9 (is_used kind k a.0.0) [] five.1 in
    subst (λ (m : ℕ × List ℕ). m.0 < count_of kind k.decls) j.1 (used kind k a.0.0 nine.0)

turns_declared : (most : ℕ) (k : Known) (rest : List ℕ) (n : ℕ × ℕ) → turns_at most k rest ≡ Ok n → (n.0 < count_of kinds.Stream k.decls) × (1 ≤ n.1) × (n.1 ≤ most)
unfolding turns_at
turns_declared most k rest n e =
    let judge : List ℕ → List ℕ → Result (ℕ × ℕ) ℕ = λ stream turns. judged (least_broken ((4, is_label stream) ∷ (7, is_some (number_in 1 most turns)) ∷ (9, is_used kinds.Stream k stream) ∷ [])) (number kinds.Stream k stream, or_zero (number_in 1 most turns)) in
    let a = bind_ok (field_at rest) (λ stream. last_field stream.1 >>= λ turns. judge stream.0 turns) n e in
    let b = bind_ok (last_field a.0.1) (λ turns. judge a.0.0 turns) n a.2 in
    let j = judged_ok (least_broken ((4, is_label a.0.0) ∷ (7, is_some (number_in 1 most b.0)) ∷ (9, is_used kinds.Stream k a.0.0) ∷ [])) (number kinds.Stream k a.0.0, or_zero (number_in 1 most b.0)) n b.2 in
    let four = holds 4 (is_label a.0.0) ((7, is_some (number_in 1 most b.0)) ∷ (9, is_used kinds.Stream k a.0.0) ∷ []) j.0 in
    let seven = holds 7 (is_some (number_in 1 most b.0)) ((9, is_used kinds.Stream k a.0.0) ∷ []) four.1 in
    let nine = holds 9 (is_used kinds.Stream k a.0.0) [] seven.1 in
    let range = number_range 1 most b.0 seven.0 in
    subst (λ (m : ℕ × ℕ). (m.0 < count_of kinds.Stream k.decls) × (1 ≤ m.1) × (m.1 ≤ most)) j.1 (used kinds.Stream k a.0.0 nine.0, range.0, range.1)

home_declared : (k : Known) (rest : List ℕ) (n : ℕ × ℕ) → home_at k rest ≡ Ok n → (n.0 < count_of kinds.Client k.decls) × (n.1 < count_of kinds.Node k.decls)
unfolding home_at
home_declared k rest n e =
    let judge : List ℕ → List ℕ → Result (ℕ × ℕ) ℕ = λ client node. judged (least_broken ((4, is_label client && is_label node) ∷ (9, is_used kinds.Client k client && is_used kinds.Node k node) ∷ [])) (number kinds.Client k client, number kinds.Node k node) in
    let a = bind_ok (field_at rest) (λ client. last_field client.1 >>= λ node. judge client.0 node) n e in
    let b = bind_ok (last_field a.0.1) (λ node. judge a.0.0 node) n a.2 in
    let j = judged_ok (least_broken ((4, is_label a.0.0 && is_label b.0) ∷ (9, is_used kinds.Client k a.0.0 && is_used kinds.Node k b.0) ∷ [])) (number kinds.Client k a.0.0, number kinds.Node k b.0) n b.2 in
    let four = holds 4 (is_label a.0.0 && is_label b.0) ((9, is_used kinds.Client k a.0.0 && is_used kinds.Node k b.0) ∷ []) j.0 in
    let nine = holds 9 (is_used kinds.Client k a.0.0 && is_used kinds.Node k b.0) [] four.1 in
    let u = both (is_used kinds.Client k a.0.0) (is_used kinds.Node k b.0) nine.0 in
    subst (λ (m : ℕ × ℕ). (m.0 < count_of kinds.Client k.decls) × (m.1 < count_of kinds.Node k.decls)) j.1 (used kinds.Client k a.0.0 u.0, used kinds.Node k b.0 u.1)

written_declared : (k : Known) (rest : List ℕ) (w : Written) → written_at k rest ≡ Ok w → w.client < count_of kinds.Client k.decls
unfolding written_at
written_declared k rest w e =
    let made : List ℕ → List ℕ → List ℕ → Written = λ client name text. record { client = number kinds.Client k client; name = or_none (name_of name); text = text } in
    let judge : List ℕ → List ℕ → List ℕ → Result Written ℕ = λ client name text. judged (least_broken ((4, is_label client) ∷ (5, is_some (name_of name)) ∷ (9, is_used kinds.Client k client) ∷ [])) (made client name text) in
    let a = bind_ok (field_at rest) (λ client. field_at client.1 >>= λ name. last_text name.1 >>= λ text. judge client.0 name.0 text) w e in
    let b = bind_ok (field_at a.0.1) (λ name. last_text name.1 >>= λ text. judge a.0.0 name.0 text) w a.2 in
    let c = bind_ok (last_text b.0.1) (λ text. judge a.0.0 b.0.0 text) w b.2 in
    let j = judged_ok (least_broken ((4, is_label a.0.0) ∷ (5, is_some (name_of b.0.0)) ∷ (9, is_used kinds.Client k a.0.0) ∷ [])) (made a.0.0 b.0.0 c.0) w c.2 in
    let four = holds 4 (is_label a.0.0) ((5, is_some (name_of b.0.0)) ∷ (9, is_used kinds.Client k a.0.0) ∷ []) j.0 in
    let five = holds 5 (is_some (name_of b.0.0)) ((9, is_used kinds.Client k a.0.0) ∷ []) four.1 in
    let nine = holds 9 (is_used kinds.Client k a.0.0) [] five.1 in
    subst (λ (m : Written). m.client < count_of kinds.Client k.decls) j.1 (used kinds.Client k a.0.0 nine.0)

-- ---- what is taken as a command

-- a line of an open phase, whose job is there or is one of few, and whose stream does not flow yet
pub record IsInJob (k : Known) (c : Command) : Type 0 where
  pub line : IsGoodJobLine k.decls k.attached c
  pub few : length (clients_after c true k.clients) + length (flows_after c true k.flows) ≤ 64
  pub new : AllByRecursion (λ s. has_number k.flows s ≡ false) (flow_of c)

-- what is known lets the command stand behind the lines before
pub record IsTaken (k : Known) (c : Command) : Type 0 where
  pub outside : k.in_phase ≡ false → is_phase c ≡ false → IsGoodCommand k.decls k.attached k.after_read c
  pub inside : k.in_phase ≡ true → is_end c ≡ false → IsInJob k c
  pub turns : k.turns ≤ 1000000 → turns_after c k.turns ≤ 1000000

abbrev pub IsGoodItem : Known → Item → Type 0
IsGoodItem k (items.Decl d) = IsGoodDecl k.decls d
IsGoodItem k (items.Command c) = IsTaken k c

clash : (b : Bool) → not b ≡ true → b ≡ true → ⊥
clash true n h = absurd cc
clash false n h = absurd cc

-- a command that stands outside phases alone, and has no turns
alone : (k : Known) (c : Command) → not k.in_phase ≡ true → IsGoodCommand k.decls k.attached k.after_read c → turns_after c k.turns ≡ k.turns → IsTaken k c
alone k c n good same = record {
  outside = λ i p. good;
  inside = λ i e. absurd (clash k.in_phase n i);
  turns = λ h. subst (λ (x : ℕ). x ≤ 1000000) (sym same) h;
}

module _ {X : Type 0} (k : Known) (w : Word) (parts : List ℕ → Result X ℕ) (rules : X → List (ℕ × Bool)) (make : X → Item) where
  taken : ((x : List ℕ) → word_line w k x ≡ (parts x >>= λ p. judged (least_broken (rules p)) (make p)))
      → ((rest : List ℕ) (x : X) → parts rest ≡ Ok x → least_broken (rules x) ≡ None → IsGoodItem k (make x))
      → (rest : List ℕ) (item : Item) → word_line w k rest ≡ Ok item → IsGoodItem k item
  taken line good rest item e =
      let f : X → Result Item ℕ = λ p. judged (least_broken (rules p)) (make p) in
      let a = bind_ok (parts rest) f item (sym (line rest) ∙ e) in
      let j = judged_ok (least_broken (rules a.0)) (make a.0) item a.2 in
      subst (λ (x : Item). IsGoodItem k x) j.1 (good rest a.0 a.1 j.0)

-- ---- commands on streams

attach_good : (k : Known) (rest : List ℕ) (item : Item) → word_line words.Attach k rest ≡ Ok item → IsGoodItem k item
unfolding word_line attach_line
attach_good k rest item e = taken k words.Attach (label_at kinds.Stream k) (λ n. (12, not k.in_phase) ∷ []) (λ n. items.Command (commands.Attach n)) (λ x. refl)
    (λ r n p b. alone k (commands.Attach n) ((holds 12 (not k.in_phase) [] b).0) (label_declared kinds.Stream k r n p) refl) rest item e

ready_good : (k : Known) (rest : List ℕ) (n : ℕ) → label_at kinds.Stream k rest ≡ Ok n → least_broken ((12, is_ready k n) ∷ []) ≡ None
    → (not k.in_phase ≡ true) × (n < count_of kinds.Stream k.decls) × (has_number k.attached n ≡ true)
ready_good k rest n p b =
    let r = both (not k.in_phase) (has_number k.attached n) ((holds 12 (is_ready k n) [] b).0) in
    (r.0, label_declared kinds.Stream k rest n p, r.1)

detach_good : (k : Known) (rest : List ℕ) (item : Item) → word_line words.Detach k rest ≡ Ok item → IsGoodItem k item
unfolding word_line detach_line
detach_good k rest item e = taken k words.Detach (label_at kinds.Stream k) (λ n. (12, is_ready k n) ∷ []) (λ n. items.Command (commands.Detach n)) (λ x. refl)
    (λ r n p b. let g = ready_good k r n p b in alone k (commands.Detach n) g.0 (g.1, g.2) refl) rest item e

send_good : (k : Known) (rest : List ℕ) (item : Item) → word_line words.Send k rest ≡ Ok item → IsGoodItem k item
unfolding word_line send_line
send_good k rest item e = taken k words.Send (label_at kinds.Stream k) (λ n. (12, is_ready k n) ∷ []) (λ n. items.Command (commands.Send n)) (λ x. refl)
    (λ r n p b. let g = ready_good k r n p b in alone k (commands.Send n) g.0 (g.1, g.2) refl) rest item e

checkpoint_good : (k : Known) (rest : List ℕ) (item : Item) → word_line words.Checkpoint k rest ≡ Ok item → IsGoodItem k item
unfolding word_line checkpoint_line
checkpoint_good k rest item e = taken k words.Checkpoint (label_at kinds.Stream k) (λ n. (12, is_ready k n) ∷ []) (λ n. items.Command (commands.Checkpoint n)) (λ x. refl)
    (λ r n p b. let g = ready_good k r n p b in alone k (commands.Checkpoint n) g.0 (g.1, g.2) refl) rest item e

deliver_good : (k : Known) (rest : List ℕ) (item : Item) → word_line words.Deliver k rest ≡ Ok item → IsGoodItem k item
unfolding word_line deliver_line
deliver_good k rest item e = taken k words.Deliver (turns_at 4611686018427387903 k) (λ n. (12, not k.in_phase) ∷ []) (λ n. items.Command (commands.Deliver n.0 n.1)) (λ x. refl)
    (λ r n p b. alone k (commands.Deliver n.0 n.1) ((holds 12 (not k.in_phase) [] b).0) (turns_declared 4611686018427387903 k r n p) refl) rest item e

at_most : (a b : ℕ) → nat_le a b ≡ true → a ≤ b
at_most a b h = grind (arith, nat_tests)

-- a number more, or one that is there
one_number : (b : Bool) (ns : List ℕ) (n : ℕ) → length (cond b ns (ns ++ n ∷ [])) ≤ length ns + 1
one_number true ns n = omega arith
one_number false ns n = let l = length-append ns (n ∷ []) in omega (arith, l)

fits_inside : (b : Bool) (m : ℕ) → (not b || nat_lt m 64) ≡ true → b ≡ true → m + 1 ≤ 64
fits_inside true m h i = grind (arith, nat_tests)
fits_inside false m h i = absurd cc

new_inside : (b c : Bool) → not (b && c) ≡ true → b ≡ true → c ≡ false
new_inside true true h i = absurd cc
new_inside true false h i = refl
new_inside false c h i = absurd cc

flow_taken : (k : Known) (rest : List ℕ) (n : ℕ × ℕ) → turns_at 1000000 k rest ≡ Ok n
    → least_broken ((10, nat_le (k.turns + n.1) 1000000 && flow_fits k) ∷ (12, may_flow k n.0) ∷ []) ≡ None → IsTaken k (commands.Flow n.0 n.1)
flow_taken k rest n p b =
    let d = turns_declared 1000000 k rest n p in
    let ten = holds 10 (nat_le (k.turns + n.1) 1000000 && flow_fits k) ((12, may_flow k n.0) ∷ []) b in
    let twelve = holds 12 (may_flow k n.0) [] ten.1 in
    let sum = both (nat_le (k.turns + n.1) 1000000) (flow_fits k) ten.0 in
    let may = both (has_number k.attached n.0) (not (k.in_phase && has_number k.flows n.0)) twelve.0 in
    let good : IsGoodCommand k.decls k.attached false (commands.Flow n.0 n.1) = ((d.0, may.0), d.1, d.2) in
    record {
      outside = λ i q. good;
      inside = λ i q. record {
        line = (refl, good);
        few = let f = fits_inside k.in_phase (length k.clients + length k.flows) sum.1 i in let o = one_number (has_number k.flows n.0) k.flows n.0 in omega (arith, f, o);
        new = (new_inside k.in_phase (has_number k.flows n.0) may.1 i, tt);
      };
      turns = λ h. at_most (k.turns + n.1) 1000000 sum.0;
    }

flow_good : (k : Known) (rest : List ℕ) (item : Item) → word_line words.Flow k rest ≡ Ok item → IsGoodItem k item
unfolding word_line flow_line
flow_good k rest item e = taken k words.Flow (turns_at 1000000 k) (λ n. (10, nat_le (k.turns + n.1) 1000000 && flow_fits k) ∷ (12, may_flow k n.0) ∷ []) (λ n. items.Command (commands.Flow n.0 n.1)) (λ x. refl)
    (flow_taken k) rest item e

-- ---- commands of clients

client_inside : (b : Bool) (m : ℕ) → (not b || nat_le m 64) ≡ true → b ≡ true → m ≤ 64
client_inside true m h i = at_most m 64 h
client_inside false m h i = absurd cc

write_good : (k : Known) (rest : List ℕ) (item : Item) → word_line words.Write k rest ≡ Ok item → IsGoodItem k item
unfolding word_line write_line
write_good k rest item e = taken k words.Write (written_at k) (λ n. (10, nat_le (length n.text) 1024 && client_fits k n.client) ∷ []) (λ n. items.Command (commands.Write n.client n.name n.text)) (λ x. refl) made rest item e
  where
    made : (r : List ℕ) (n : Written) → written_at k r ≡ Ok n → least_broken ((10, nat_le (length n.text) 1024 && client_fits k n.client) ∷ []) ≡ None → IsTaken k (commands.Write n.client n.name n.text)
    made r n p b =
        let ten = both (nat_le (length n.text) 1024) (client_fits k n.client) ((holds 10 (nat_le (length n.text) 1024 && client_fits k n.client) [] b).0) in
        let d = written_declared k r n p in
        record {
          outside = λ i q. (d, at_most (length n.text) 1024 ten.0);
          inside = λ i q. record {
            line = (refl, (d, at_most (length n.text) 1024 ten.0));
            few = client_inside k.in_phase (length (with_number k.clients n.client) + length k.flows) ten.1 i;
            new = tt;
          };
          turns = λ h. h;
        }

delete_good : (k : Known) (rest : List ℕ) (item : Item) → word_line words.Delete k rest ≡ Ok item → IsGoodItem k item
unfolding word_line delete_line
delete_good k rest item e = taken k words.Delete (name_at kinds.Client k) (λ n. (10, client_fits k n.0) ∷ []) (λ n. items.Command (commands.Delete n.0 n.1)) (λ x. refl) made rest item e
  where
    made : (r : List ℕ) (n : ℕ × List ℕ) → name_at kinds.Client k r ≡ Ok n → least_broken ((10, client_fits k n.0) ∷ []) ≡ None → IsTaken k (commands.Delete n.0 n.1)
    made r n p b =
        let ten = holds 10 (client_fits k n.0) [] b in
        let d = name_declared kinds.Client k r n p in
        record {
          outside = λ i q. d;
          inside = λ i q. record { line = (refl, d); few = client_inside k.in_phase (length (with_number k.clients n.0) + length k.flows) ten.0 i; new = tt };
          turns = λ h. h;
        }

read_good : (k : Known) (rest : List ℕ) (item : Item) → word_line words.Read k rest ≡ Ok item → IsGoodItem k item
unfolding word_line read_line
read_good k rest item e = taken k words.Read (name_at kinds.Client k) (λ n. (10, client_fits k n.0) ∷ []) (λ n. items.Command (commands.Read n.0 n.1)) (λ x. refl) made rest item e
  where
    made : (r : List ℕ) (n : ℕ × List ℕ) → name_at kinds.Client k r ≡ Ok n → least_broken ((10, client_fits k n.0) ∷ []) ≡ None → IsTaken k (commands.Read n.0 n.1)
    made r n p b =
        let ten = holds 10 (client_fits k n.0) [] b in
        let d = name_declared kinds.Client k r n p in
        record {
          outside = λ i q. d;
          inside = λ i q. record { line = (refl, d); few = client_inside k.in_phase (length (with_number k.clients n.0) + length k.flows) ten.0 i; new = tt };
          turns = λ h. h;
        }

move_good : (k : Known) (rest : List ℕ) (item : Item) → word_line words.Move k rest ≡ Ok item → IsGoodItem k item
unfolding word_line move_line
move_good k rest item e = taken k words.Move (home_at k) (λ n. (12, not k.in_phase) ∷ []) (λ n. items.Command (commands.Move n.0 n.1)) (λ x. refl)
    (λ r n p b. alone k (commands.Move n.0 n.1) ((holds 12 (not k.in_phase) [] b).0) (home_declared k r n p) refl) rest item e

short_want : (w : Want) → want_fits w ≡ true → IsShortWant w
short_want (wants.Value text) h = at_most (length text) 1024 h
short_want wants.Never h = tt
short_want wants.Imprecise h = tt
short_want wants.Body h = tt
short_want wants.Gone h = tt
short_want wants.Behind h = tt

expect_good : (k : Known) (rest : List ℕ) (item : Item) → word_line words.Expect k rest ≡ Ok item → IsGoodItem k item
unfolding word_line expect_line
expect_good k rest item e = taken k words.Expect want_at (λ w. (10, want_fits w) ∷ (12, k.after_read && not k.in_phase) ∷ []) (λ w. items.Command (commands.Expect w)) (λ x. refl)
    (λ r w p b.
    let ten = holds 10 (want_fits w) ((12, k.after_read && not k.in_phase) ∷ []) b in
    let twelve = both k.after_read (not k.in_phase) ((holds 12 (k.after_read && not k.in_phase) [] ten.1).0) in
    alone k (commands.Expect w) twelve.1 (twelve.0, short_want w ten.0) refl) rest item e

-- ---- commands on nodes

cut_good : (k : Known) (rest : List ℕ) (item : Item) → word_line words.Cut k rest ≡ Ok item → IsGoodItem k item
unfolding word_line cut_line
cut_good k rest item e = taken k words.Cut (label_at kinds.Node k) (λ n. (12, not k.in_phase) ∷ []) (λ n. items.Command (commands.Cut n)) (λ x. refl)
    (λ r n p b. alone k (commands.Cut n) ((holds 12 (not k.in_phase) [] b).0) (label_declared kinds.Node k r n p) refl) rest item e

state_good : (k : Known) (rest : List ℕ) (item : Item) → word_line words.State k rest ≡ Ok item → IsGoodItem k item
unfolding word_line state_line
state_good k rest item e = taken k words.State (label_at kinds.Node k) (λ n. (12, not k.in_phase) ∷ []) (λ n. items.Command (commands.State n)) (λ x. refl)
    (λ r n p b. alone k (commands.State n) ((holds 12 (not k.in_phase) [] b).0) (label_declared kinds.Node k r n p) refl) rest item e

drop_good : (k : Known) (rest : List ℕ) (item : Item) → word_line words.Drop k rest ≡ Ok item → IsGoodItem k item
unfolding word_line drop_line
drop_good k rest item e = taken k words.Drop (name_at kinds.Node k) (λ n. (12, not k.in_phase) ∷ []) (λ n. items.Command (commands.Drop n.0 n.1)) (λ x. refl)
    (λ r n p b. alone k (commands.Drop n.0 n.1) ((holds 12 (not k.in_phase) [] b).0) (name_declared kinds.Node k r n p) refl) rest item e

conflicts_good : (k : Known) (rest : List ℕ) (item : Item) → word_line words.Conflicts k rest ≡ Ok item → IsGoodItem k item
unfolding word_line conflicts_line
conflicts_good k rest item e = taken k words.Conflicts (name_at kinds.Node k) (λ n. (12, not k.in_phase) ∷ []) (λ n. items.Command (commands.Conflicts n.0 n.1)) (λ x. refl)
    (λ r n p b. alone k (commands.Conflicts n.0 n.1) ((holds 12 (not k.in_phase) [] b).0) (name_declared kinds.Node k r n p) refl) rest item e

-- ---- words alone

settle_good : (k : Known) (rest : List ℕ) (item : Item) → word_line words.Settle k rest ≡ Ok item → IsGoodItem k item
unfolding word_line settle_line
settle_good k rest item e =
    let j = judged_ok (least_broken ((3, is_blank rest) ∷ (12, not k.in_phase) ∷ [])) (items.Command commands.Settle) item e in
    let three = holds 3 (is_blank rest) ((12, not k.in_phase) ∷ []) j.0 in
    let twelve = holds 12 (not k.in_phase) [] three.1 in
    subst (λ (x : Item). IsGoodItem k x) j.1 (alone k commands.Settle twelve.0 tt refl)

phase_taken : (k : Known) → not k.in_phase ≡ true → IsTaken k commands.Phase
phase_taken k n = record { outside = λ i p. absurd cc; inside = λ i e. absurd (clash k.in_phase n i); turns = λ h. h }

phase_good : (k : Known) (rest : List ℕ) (item : Item) → word_line words.Phase k rest ≡ Ok item → IsGoodItem k item
unfolding word_line phase_line
phase_good k rest item e =
    let j = judged_ok (least_broken ((3, is_blank rest) ∷ (12, not k.in_phase) ∷ [])) (items.Command commands.Phase) item e in
    let three = holds 3 (is_blank rest) ((12, not k.in_phase) ∷ []) j.0 in
    let twelve = holds 12 (not k.in_phase) [] three.1 in
    subst (λ (x : Item). IsGoodItem k x) j.1 (phase_taken k twelve.0)

end_taken : (k : Known) → k.in_phase ≡ true → IsTaken k commands.End
end_taken k n = record { outside = λ i p. absurd (let t = sym n ∙ i in cc); inside = λ i e. absurd cc; turns = λ h. h }

end_good : (k : Known) (rest : List ℕ) (item : Item) → word_line words.End k rest ≡ Ok item → IsGoodItem k item
unfolding word_line end_line
end_good k rest item e =
    let j = judged_ok (least_broken ((3, is_blank rest) ∷ (12, k.in_phase) ∷ [])) (items.Command commands.End) item e in
    let three = holds 3 (is_blank rest) ((12, k.in_phase) ∷ []) j.0 in
    let twelve = holds 12 k.in_phase [] three.1 in
    subst (λ (x : Item). IsGoodItem k x) j.1 (end_taken k twelve.0)

-- ---- declarations

either : (b c : Bool) → (b || c) ≡ false → (b ≡ false) × (c ≡ false)
either false c h = (refl, h)
either true c h = absurd cc

-- the set meets none of those with which it shares no name by the grammar's test
meets_none : (a : List Span) (ss : List (List Span)) → IsShort a → AreShort ss → list_any (λ b. share a b) ss ≡ false
    → AllByRecursion (λ (b : List Span). ¬ Meet (has a) (has b)) ss
meets_none a [] h hs n = tt
meets_none a (b ∷ ss) h hs n =
    let p = either (share a b) (list_any (λ b. share a b) ss) n in
    (λ m. absurd (let t = sym ((shares a b h.set hs.0.set).1 m) ∙ p.0 in cc), meets_none a ss h hs.1 p.1)

not_true : (b : Bool) → not b ≡ true → b ≡ false
not_true true h = absurd cc
not_true false h = refl

none_meet : (ss : List (List Span)) → AreShort ss → are_apart ss ≡ true → AllPairs (λ (a : List Span) (b : List Span). ¬ Meet (has a) (has b)) ss
unfolding are_apart
none_meet [] hs e = λ i j d lt within. absurd (omega arith)
none_meet (a ∷ ss) hs e =
    let p = both (not (list_any (λ b. share a b) ss)) (are_apart ss) e in
    AllPairs-cons (λ (x : List Span) (y : List Span). ¬ Meet (has x) (has y)) a ss
    (All-from_recursion (λ (b : List Span). ¬ Meet (has a) (has b)) ss (meets_none a ss hs.0 hs.1 (not_true (list_any (λ b. share a b) ss) p.0)))
    (none_meet ss hs.1 p.1)

all_some : (ss : List (List Span)) → AreShort ss → AllByRecursion (λ (s : List Span). 0 < length s) ss
all_some [] h = tt
all_some (s ∷ ss) h = (h.0.some, all_some ss h.1)

node_good : (k : Known) (rest : List ℕ) (item : Item) → word_line words.Node k rest ≡ Ok item → IsGoodItem k item
unfolding word_line node_line
node_good k rest item e =
    let rules : List ℕ → List (List Span) → List (ℕ × Bool) = λ label sets. (8, not (is_declared k.decls label)) ∷ (10, nat_lt (count_of kinds.Node k.decls) 32 && nat_le (length sets) 16) ∷ (11, are_apart sets) ∷ (12, not k.begun) ∷ [] in
    let judge : List ℕ → List (List Span) → Result Item ℕ = λ label sets. judged (least_broken (rules label sets)) (items.Decl (decls.Node label sets)) in
    let a = bind_ok (field_at rest) (λ label. demand 4 (is_label label.0) >>= λ _. sets_of (fields_of label.1) >>= λ sets. judge label.0 sets) item e in
    let b = demand_ok 4 (is_label a.0.0) (λ _. sets_of (fields_of a.0.1) >>= λ sets. judge a.0.0 sets) item a.2 in
    let c = bind_ok (sets_of (fields_of a.0.1)) (λ sets. judge a.0.0 sets) item b.1 in
    let j = judged_ok (least_broken (rules a.0.0 c.0)) (items.Decl (decls.Node a.0.0 c.0)) item c.2 in
    let eight = holds 8 (not (is_declared k.decls a.0.0)) ((10, nat_lt (count_of kinds.Node k.decls) 32 && nat_le (length c.0) 16) ∷ (11, are_apart c.0) ∷ (12, not k.begun) ∷ []) j.0 in
    let ten = holds 10 (nat_lt (count_of kinds.Node k.decls) 32 && nat_le (length c.0) 16) ((11, are_apart c.0) ∷ (12, not k.begun) ∷ []) eight.1 in
    let eleven = holds 11 (are_apart c.0) ((12, not k.begun) ∷ []) ten.1 in
    let few = both (nat_lt (count_of kinds.Node k.decls) 32) (nat_le (length c.0) 16) ten.0 in
    let short = sets_short (fields_of a.0.1) c.0 c.1 in
    subst (λ (x : Item). IsGoodItem k x) j.1 (at_most (length c.0) 16 few.1, all_some c.0 short, none_meet c.0 short eleven.0)

client_good : (k : Known) (rest : List ℕ) (item : Item) → word_line words.Client k rest ≡ Ok item → IsGoodItem k item
unfolding word_line client_line
client_good k rest item e =
    let rules : List ℕ → List ℕ → List (ℕ × Bool) = λ label node. (4, is_label label && is_label node) ∷ (8, not (is_declared k.decls label)) ∷ (9, is_used kinds.Node k node) ∷ (10, nat_lt (count_of kinds.Client k.decls) 256) ∷ (12, not k.begun) ∷ [] in
    let judge : List ℕ → List ℕ → Result Item ℕ = λ label node. judged (least_broken (rules label node)) (items.Decl (decls.Client label (number kinds.Node k node))) in
    let a = bind_ok (field_at rest) (λ label. last_field label.1 >>= λ node. judge label.0 node) item e in
    let b = bind_ok (last_field a.0.1) (λ node. judge a.0.0 node) item a.2 in
    let j = judged_ok (least_broken (rules a.0.0 b.0)) (items.Decl (decls.Client a.0.0 (number kinds.Node k b.0))) item b.2 in
    let four = holds 4 (is_label a.0.0 && is_label b.0) ((8, not (is_declared k.decls a.0.0)) ∷ (9, is_used kinds.Node k b.0) ∷ (10, nat_lt (count_of kinds.Client k.decls) 256) ∷ (12, not k.begun) ∷ []) j.0 in
    let eight = holds 8 (not (is_declared k.decls a.0.0)) ((9, is_used kinds.Node k b.0) ∷ (10, nat_lt (count_of kinds.Client k.decls) 256) ∷ (12, not k.begun) ∷ []) four.1 in
    let nine = holds 9 (is_used kinds.Node k b.0) ((10, nat_lt (count_of kinds.Client k.decls) 256) ∷ (12, not k.begun) ∷ []) eight.1 in
    subst (λ (x : Item). IsGoodItem k x) j.1 (used kinds.Node k b.0 nine.0)

differ : (a b : ℕ) → not (nat_eq a b) ≡ true → a ≢ b
differ a b h e = absurd (grind (arith, nat_tests))

stream_good : (k : Known) (rest : List ℕ) (item : Item) → word_line words.Stream k rest ≡ Ok item → IsGoodItem k item
unfolding word_line stream_line
stream_good k rest item e =
    let rules : Stream → List (ℕ × Bool) = λ s. (8, not (is_declared k.decls s.label)) ∷ (9, is_used kinds.Node k s.source && is_used kinds.Node k s.dest) ∷ (10, nat_lt (count_of kinds.Stream k.decls) 64) ∷ (12, not k.begun && not (nat_eq (number kinds.Node k s.source) (number kinds.Node k s.dest))) ∷ [] in
    let make : Stream → List Span → Item = λ s sub. items.Decl (decls.Stream s.label (number kinds.Node k s.source) (number kinds.Node k s.dest) sub s.bodies) in
    let judge : Stream → List Span → Result Item ℕ = λ s sub. judged (least_broken (rules s)) (make s sub) in
    let a = bind_ok (stream_at rest) (λ s. demand 4 (is_label s.label && is_label s.source && is_label s.dest) >>= λ _. wanted 6 (set_of s.sub) >>= λ sub. judge s sub) item e in
    let s = a.0 in
    let b = demand_ok 4 (is_label s.label && is_label s.source && is_label s.dest) (λ _. wanted 6 (set_of s.sub) >>= λ sub. judge s sub) item a.2 in
    let c = wanted_ok 6 (set_of s.sub) (λ sub. judge s sub) item b.1 in
    let j = judged_ok (least_broken (rules s)) (make s c.0) item c.2 in
    let eight = holds 8 (not (is_declared k.decls s.label)) ((9, is_used kinds.Node k s.source && is_used kinds.Node k s.dest) ∷ (10, nat_lt (count_of kinds.Stream k.decls) 64) ∷ (12, not k.begun && not (nat_eq (number kinds.Node k s.source) (number kinds.Node k s.dest))) ∷ []) j.0 in
    let nine = holds 9 (is_used kinds.Node k s.source && is_used kinds.Node k s.dest) ((10, nat_lt (count_of kinds.Stream k.decls) 64) ∷ (12, not k.begun && not (nat_eq (number kinds.Node k s.source) (number kinds.Node k s.dest))) ∷ []) eight.1 in
    let ten = holds 10 (nat_lt (count_of kinds.Stream k.decls) 64) ((12, not k.begun && not (nat_eq (number kinds.Node k s.source) (number kinds.Node k s.dest))) ∷ []) nine.1 in
    let twelve = holds 12 (not k.begun && not (nat_eq (number kinds.Node k s.source) (number kinds.Node k s.dest))) [] ten.1 in
    let both_used = both (is_used kinds.Node k s.source) (is_used kinds.Node k s.dest) nine.0 in
    let apart = both (not k.begun) (not (nat_eq (number kinds.Node k s.source) (number kinds.Node k s.dest))) twelve.0 in
    subst (λ (x : Item). IsGoodItem k x) j.1
    (used kinds.Node k s.source both_used.0, used kinds.Node k s.dest both_used.1, differ (number kinds.Node k s.source) (number kinds.Node k s.dest) apart.1, (set_short s.sub c.0 c.1).some)

-- ---- every line

word_good : (w : Word) (k : Known) (rest : List ℕ) (item : Item) → word_line w k rest ≡ Ok item → IsGoodItem k item
word_good words.Node k rest item e = node_good k rest item e
word_good words.Client k rest item e = client_good k rest item e
word_good words.Stream k rest item e = stream_good k rest item e
word_good words.Attach k rest item e = attach_good k rest item e
word_good words.Detach k rest item e = detach_good k rest item e
word_good words.Send k rest item e = send_good k rest item e
word_good words.Checkpoint k rest item e = checkpoint_good k rest item e
word_good words.Deliver k rest item e = deliver_good k rest item e
word_good words.Flow k rest item e = flow_good k rest item e
word_good words.Write k rest item e = write_good k rest item e
word_good words.Delete k rest item e = delete_good k rest item e
word_good words.Read k rest item e = read_good k rest item e
word_good words.Move k rest item e = move_good k rest item e
word_good words.Expect k rest item e = expect_good k rest item e
word_good words.Cut k rest item e = cut_good k rest item e
word_good words.State k rest item e = state_good k rest item e
word_good words.Drop k rest item e = drop_good k rest item e
word_good words.Conflicts k rest item e = conflicts_good k rest item e
word_good words.Settle k rest item e = settle_good k rest item e
word_good words.Phase k rest item e = phase_good k rest item e
word_good words.End k rest item e = end_good k rest item e

pub item_good : (k : Known) (line : List ℕ) (item : Item) → line_item k line ≡ Ok item → IsGoodItem k item
unfolding line_item
item_good k line item e =
    let a = demand_ok 1 (list_all is_plain line) (λ _. field_at line >>= λ first. wanted 2 (word_of first.0) >>= λ word. word_line word k first.1) item e in
    let b = bind_ok (field_at line) (λ first. wanted 2 (word_of first.0) >>= λ word. word_line word k first.1) item a.1 in
    let c = wanted_ok 2 (word_of b.0.0) (λ word. word_line word k b.0.1) item b.2 in
    word_good c.0 k b.0.1 item c.2
