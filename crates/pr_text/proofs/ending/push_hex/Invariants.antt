use Rattle.std.proofs.Common.{◌≡◌, ◌++◌, drop}
use Rattle.std.specs.List.{flat_map}
use Rattle.pr_script.specs.Printing.{Begins}
use Rattle.pr_text.specs.Endings.{hex_byte}
use Rattle.pr_text.proofs.ending.push_hex.Given as goal

-- what is written, then what is still to be written, is all; and it begins with what there was
abbrev pub invariant-loop-byte : goal.invariant-loop-byte
invariant-loop-byte l = record {
  text : l.out ++ flat_map hex_byte (drop l.byte-index l.fn.bytes) ≡ l.fn.out ++ flat_map hex_byte l.fn.bytes;
  begins : Begins l.fn.out l.out;
}
