use Rattle.std.proofs.Common.{[], Err, Ok, ◌∙◌}
use Rattle.std.specs.Prelude.{IfOk, OnErr}
use Rattle.std.specs.declared.result.Result.{Result}
use Rattle.practi_bench.proofs.source.Source.turn.Goals as goal

-- what holds behind either answer
behind : {S E Q X : Type 0} {P : S → Type 0} (r : Result S E) → IfOk r P → OnErr r Q → ((s : S) → P s → X) → (Q → X) → X
behind (Ok s) ok err f g = f s ok
behind (Err e) ok err f g = g err

pub invariant_of-self : goal.invariant_of-self
invariant_of-self c = (
  behind c.turn_from.result c.turn_from.ensures.ok c.turn_from.ensures.session (λ step so. (so (λ _. [])).is.1.is_attached) (λ same. same.attached ∙ c.self.invariant.0),
  c.turn_from.ensures.scan,
)
