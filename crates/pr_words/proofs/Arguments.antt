-- The arguments of the command, as `clap` builds them.
use Rattle.std.proofs.Common.{◌≡◌, true, List, [], ◌∷◌, Some, refl}
use Rattle.std.specs.Prelude.{codes}
use Rattle.clap.specs.Walk.{Rule, Text}
use Rattle.clap.specs.Simple.{Shape, built, is_simple, new_rule}
use Rattle.clap.specs.Faults.{is_simple_and_free}
use Rattle.clap.specs.declared.builder.action.ArgAction.TheVariants.{Set}
use Rattle.clap.specs.declared.builder.value_parser.ValueParser.TheVariants as vp
use Rattle.clap.proofs.OnLiterals.{clap_on_literals}
use Rattle.pr_words.specs.Command.{practi}
use Rattle.pr_words.specs.Words.{Key, Seed, Size, Stop, Node}

-- an argument
pub data Slot : Type 0 where
  at_mode : Slot
  at_key : Key → Slot

abbrev pub key_name : Key → Text
key_name Seed = codes "seed"
key_name Size = codes "size"
key_name Stop = codes "stop"
key_name Node = codes "node"

abbrev pub name : Slot → Text
name at_mode = codes "mode"
name (at_key k) = key_name k

-- the argument, built
unfoldable pub rule : Slot → Rule
rule at_mode = record (new_rule (codes "mode")) {
  required = true;
  index = Some 1;
  action = Some Set;
  range = Some (record { start_inclusive = 1; end_inclusive = 1 });
  parser = Some vp.String;
}
rule (at_key k) = record (new_rule (key_name k)) {
  long = Some (key_name k);
  action = Some Set;
  range = Some (record { start_inclusive = 1; end_inclusive = 1 });
  parser = Some vp.String;
}

abbrev pub rules : List Rule
rules = rule at_mode ∷ rule (at_key Seed) ∷ rule (at_key Size) ∷ rule (at_key Stop) ∷ rule (at_key Node) ∷ []

-- the command, built
abbrev pub shape : Shape
shape = record (built practi).top { rules = rules }

pub simple : is_simple practi ≡ true
unfolding clap_on_literals
simple = refl

pub free : is_simple_and_free practi ≡ true
unfolding clap_on_literals
free = refl

pub top_is : (built practi).top ≡ shape
unfolding rule
top_is = refl
