use Rattle.std.proofs.Common.{◌≡◌, ap, ◌∙◌, rules}
use Rattle.mesh_net.specs.declared.address.IpAddr.TheVariants.{V4}
use Rattle.mesh_net.specs.Address.{ip_of}
use Rattle.mesh_net.specs.Written.{ip_text}
use Rattle.mesh_net.proofs.WrittenLemmas.{v4_back}
use Rattle.mesh_net.proofs.written.dotted.Goals as goal

pub returns-clause-read_back : goal.returns-clause-read_back
returns-clause-read_back c =
    let text : c.from_string.result ≡ ip_text (V4 c.args.number) = search rules in
    ap ip_of text ∙ v4_back c.args.number c.ranges.number.fits
