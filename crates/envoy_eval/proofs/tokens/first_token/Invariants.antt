-- The places that are passed show no token.
use Rattle.std.proofs.Common.{◌≡◌, drop}
use Rattle.mesh_policy.specs.Lists.{first_answer}
use Rattle.mesh_policy.specs.Token.{token_at}
use Rattle.envoy_eval.proofs.tokens.first_token.Given as goal

abbrev pub invariant-loop-place : goal.invariant-loop-place
invariant-loop-place l = first_answer (λ place. token_at place l.request) l.places
    ≡ first_answer (λ place. token_at place l.request) (drop l.place-index l.places)
