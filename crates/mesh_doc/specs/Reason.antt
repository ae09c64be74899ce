-- The names of the reasons, as refusals print them.
use Rattle.std.specs.Prelude.{ℕ, List, codes}
use Rattle.mesh_doc.specs.declared.reason.Reason.{Reason}
use Rattle.mesh_doc.specs.declared.reason.Reason.TheVariants as reason

-- the word that a refusal ends with
abbrev pub name_of : Reason → List ℕ
name_of reason.NotAList = codes "NotAList"
name_of reason.WrongKind = codes "WrongKind"
name_of reason.UnknownField = codes "UnknownField"
name_of reason.WrongType = codes "WrongType"
name_of reason.MissingField = codes "MissingField"
name_of reason.BadName = codes "BadName"
name_of reason.BadTime = codes "BadTime"
name_of reason.DuplicateItem = codes "DuplicateItem"
name_of reason.BadEnum = codes "BadEnum"
name_of reason.BadValue = codes "BadValue"
name_of reason.BadPort = codes "BadPort"
name_of reason.BadCidr = codes "BadCidr"
name_of reason.BadKey = codes "BadKey"
name_of reason.EmptyCondition = codes "EmptyCondition"
name_of reason.BadTemplate = codes "BadTemplate"
name_of reason.TooManySlashes = codes "TooManySlashes"
name_of reason.ProviderRule = codes "ProviderRule"
name_of reason.TargetRefs = codes "TargetRefs"
name_of reason.DryRun = codes "DryRun"
name_of reason.JwtKeys = codes "JwtKeys"
name_of reason.TooMany = codes "TooMany"
name_of reason.BadPeer = codes "BadPeer"
name_of reason.BadPath = codes "BadPath"
name_of reason.BadAddress = codes "BadAddress"
name_of reason.BadVerdict = codes "BadVerdict"
name_of reason.BadForm = codes "BadForm"
name_of reason.DuplicateMatch = codes "DuplicateMatch"
