use Rattle.std.proofs.Common.{◌≡◌, ℕ, ◌^◌, ◌<◌, List, ◌++◌, length, ap, arith}
use Rattle.std.proofs.lemmas.List.{length-append}
use Rattle.pr_inval.specs.declared.msg.Msg.{Msg}
use Rattle.pr_wire.specs.Spelling.{content, eight, spelling}
use Rattle.pr_wire.specs.declared.format.Format.TheVariants.{Two}
use Rattle.pr_keep.proofs.spelling.entries.append_message.Goals as goal

fits : (m : Msg) (old new : List ℕ) → new ≡ old ++ spelling Two m → length new < 2 ^ 64 → length (content Two m) < 2 ^ 64
unfolding spelling
fits m old new is short =
    omega (arith, short, ap length is, length-append old (spelling Two m), length-append (eight (length (content Two m))) (content Two m))

pub returns-clause-range : goal.returns-clause-range
returns-clause-range c = record {
  spelled = record { message = c.requires; width = c.encode.ensures.width; format = tt };
  short = fits c.args.msg.now c.args.out.now c.encode.new.out c.in_ok-encode.ensures.ok (omega arith);
}
