use Rattle.std.proofs.Common.{List, Err, Ok, Result, ap, arith, length}
use Rattle.std.specs.Prelude.{OnOk}
use Rattle.pr_names.specs.Span.{Span}
use Rattle.pr_script.specs.declared.decl.Decl.{Decl}
use Rattle.pr_text.specs.Transcripts.{stream_of}
use Rattle.pr_top.proofs.asker.Asker.add.Goals as goal

pub write-requires-clause-some : goal.write-requires-clause-some
write-requires-clause-some c =
    let k = c.in_ok-ask-in-Stream.ensures (stream_of c.args.decl.now) (ap (λ (d : Decl). (stream_of d).names) c.in-Stream.is) (ap (λ (d : Decl). (stream_of d).bodies) c.in-Stream.is) in
    let many = ap (λ (s : List Span). length s) k.names in
    let some = c.requires.some in
    omega (arith, many, some)

pub write-requires-clause-from_one : goal.write-requires-clause-from_one
write-requires-clause-from_one c =
    let k = c.in_ok-ask-in-Stream.ensures (stream_of c.args.decl.now) (ap (λ (d : Decl). (stream_of d).names) c.in-Stream.is) (ap (λ (d : Decl). (stream_of d).bodies) c.in-Stream.is) in
    let million = k.turns in
    omega (arith, million)

pub write-requires-clause-most : goal.write-requires-clause-most
write-requires-clause-most c =
    let k = c.in_ok-ask-in-Stream.ensures (stream_of c.args.decl.now) (ap (λ (d : Decl). (stream_of d).names) c.in-Stream.is) (ap (λ (d : Decl). (stream_of d).bodies) c.in-Stream.is) in
    let million = k.turns in
    omega (arith, million)

pub returns-in_ok-ask-in-Stream-clause-to : goal.returns-in_ok-ask-in-Stream-clause-to
returns-in_ok-ask-in-Stream-clause-to c =
    let k = c.in_ok-ask-in-Stream.ensures (stream_of c.args.decl.now) (ap (λ (d : Decl). (stream_of d).names) c.in-Stream.is) (ap (λ (d : Decl). (stream_of d).bodies) c.in-Stream.is) in
    written c.write.result c.write.ensures.ok (λ same to. (c.in_ok-ask-in-Stream.field-0, k, same))
  where
    written : {X E P Q : Type 0} (r : Result X E) → OnOk r P → (P → Q) → OnOk r Q
    written (Ok x) p f = f p
    written (Err e) p f = tt
