-- The places of a token where a rule names none (RFC 6750, sections 2.1 and 2.3).
use Rattle.std.specs.Prelude.{List, [], ◌∷◌}
use Rattle.mesh_policy.specs.declared.jwt.TokenPlace.{TokenPlace}
use Rattle.mesh_policy.specs.declared.jwt.TokenPlace.TheVariants as place
use Rattle.mesh_policy.specs.declared.names.TheConstants.{ACCESS_TOKEN, AUTHORIZATION, BEARER}

-- the places of a bearer token
abbrev pub default_places : List TokenPlace
default_places = place.Header AUTHORIZATION.now BEARER.now ∷ place.Param ACCESS_TOKEN.now ∷ []

-- the places that are written, or those of a bearer token
abbrev pub or_default : List TokenPlace → List TokenPlace
or_default [] = default_places
or_default (first ∷ more) = first ∷ more
