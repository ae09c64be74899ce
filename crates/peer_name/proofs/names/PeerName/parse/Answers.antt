-- A text is read part by part, and is no name where a part is missing or not sound.
use Rattle.std.proofs.Common.{◌≡◌, ◌∙◌, List, ℕ, Option, None, option_map, ap, arith}
use Rattle.mesh_policy.specs.PeerNames.{peer_of}
use Rattle.peer_name.specs.Names.{parts_at}
use Rattle.peer_name.specs.declared.names.PeerName.{PeerName}
use Rattle.peer_name.proofs.ReadLemmas.{no-scheme, no-ns-behind, no-sa-behind, not-sound-behind}
use Rattle.peer_name.proofs.ReadLemmas.{one-segment, sound-name, three-segments}
use Rattle.peer_name.proofs.names.PeerName.parse.Goals as goal

nothing : (s : List ℕ) (found : Option PeerName) → found ≡ None → None ≡ peer_of s → option_map (parts_at s) found ≡ peer_of s
nothing s found e h = ap (option_map (parts_at s)) e ∙ h

pub returns-in_err-rest-clause-parts : goal.returns-in_err-rest-clause-parts
returns-in_err-rest-clause-parts c = nothing c.args.s.now _ c.from_residual.ensures (no-scheme c.args.s.now c.in_err-rest.ensures.cases)

pub returns-in_err-trust-clause-parts : goal.returns-in_err-trust-clause-parts
returns-in_err-trust-clause-parts c =
    nothing c.args.s.now _ c.from_residual-in_err-trust.ensures
    (one-segment c.args.s.now c.in_ok-rest.rest.now c.in_ok-rest.ensures.cases c.in_err-trust.ensures.cases)

pub returns-in_err-rest-2-clause-parts : goal.returns-in_err-rest-2-clause-parts
returns-in_err-rest-2-clause-parts c =
    nothing c.args.s.now _ c.from_residual-in_err-rest-2.ensures
    (no-ns-behind c.args.s.now c.in_ok-rest.rest.now c.in_ok-rest.ensures.cases
    c.in_ok-trust.trust c.in_ok-trust.rest c.in_ok-trust.ensures.cases c.in_err-rest-2.ensures.cases)

pub returns-in_err-namespace-clause-parts : goal.returns-in_err-namespace-clause-parts
returns-in_err-namespace-clause-parts c =
    nothing c.args.s.now _ c.from_residual-in_err-namespace.ensures
    (three-segments c.args.s.now c.in_ok-rest.rest.now c.in_ok-rest.ensures.cases
    c.in_ok-trust.trust c.in_ok-trust.rest c.in_ok-trust.ensures.cases
    c.in_ok-rest-2.rest.now c.in_ok-rest-2.ensures.cases c.in_err-namespace.ensures.cases)

pub returns-in_err-account-clause-parts : goal.returns-in_err-account-clause-parts
returns-in_err-account-clause-parts c =
    nothing c.args.s.now _ c.from_residual-in_err-account.ensures
    (no-sa-behind c.args.s.now c.in_ok-rest.rest.now c.in_ok-rest.ensures.cases
    c.in_ok-trust.trust c.in_ok-trust.rest c.in_ok-trust.ensures.cases
    c.in_ok-rest-2.rest.now c.in_ok-rest-2.ensures.cases
    c.in_ok-namespace.namespace c.in_ok-namespace.rest c.in_ok-namespace.ensures.cases c.in_err-account.ensures.cases)

pub returns-then-not-is_peer-clause-parts : goal.returns-then-not-is_peer-clause-parts
returns-then-not-is_peer-clause-parts c =
    not-sound-behind c.args.s.now c.in_ok-rest.rest.now c.in_ok-rest.ensures.cases
    c.in_ok-trust.trust c.in_ok-trust.rest c.in_ok-trust.ensures.cases
    c.in_ok-rest-2.rest.now c.in_ok-rest-2.ensures.cases
    c.in_ok-namespace.namespace c.in_ok-namespace.rest c.in_ok-namespace.ensures.cases
    c.in_ok-account.account.now c.in_ok-account.ensures.cases (cc)

pub returns-clause-parts : goal.returns-clause-parts
returns-clause-parts c =
    let spans = c.spans_of.result in
    let is = c.spans_of.ensures in
    sound-name c.args.s.now c.in_ok-rest.rest.now c.in_ok-rest.ensures.cases
    c.in_ok-trust.trust c.in_ok-trust.rest c.in_ok-trust.ensures.cases
    c.in_ok-rest-2.rest.now c.in_ok-rest-2.ensures.cases
    c.in_ok-namespace.namespace c.in_ok-namespace.rest c.in_ok-namespace.ensures.cases
    c.in_ok-account.account.now c.in_ok-account.ensures.cases (cc)
    spans.trust.start spans.trust.end spans.namespace.start spans.namespace.end spans.account.start spans.account.end is.trust_start
    (omega arith) is.namespace_start (omega arith) is.account_start (omega arith)
