-- The cluster of an external authorizer. Istio makes its name of direction, port, subset and host, parted by bars.
use Rattle.std.specs.Prelude.{ℕ, List, ◌++◌, codes}
use Rattle.std.specs.Fmt.{decimal}
use Rattle.mesh_policy.specs.declared.provider.Provider.{Provider}

-- the cluster of the whole Service, with no subset, at the authorizer's port
abbrev pub cluster_of : Provider → List ℕ
cluster_of p = codes "outbound|" ++ decimal p.port ++ codes "||" ++ p.service
