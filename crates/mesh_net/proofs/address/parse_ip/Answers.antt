use Rattle.std.proofs.Common.{sym}
use Rattle.mesh_net.proofs.AddressLemmas.{reads, one_address, nothing_read, nothing_spelled}
use Rattle.mesh_net.proofs.address.parse_ip.Goals as goal

pub returns-in-Ok-V4-clause-value : goal.returns-in-Ok-V4-clause-value
returns-in-Ok-V4-clause-value c =
    let dotted = rw c.in-Ok-V4.field-0-is at c.in-Ok-V4.ensures.value in
    sym (reads c.args.s.now _ (c.in-Ok-V4.ip.octets, dotted, c.v4_number.ensures))

pub returns-in-Ok-V4-clause-only : goal.returns-in-Ok-V4-clause-only
returns-in-Ok-V4-clause-only c ip spelled =
    let dotted = rw c.in-Ok-V4.field-0-is at c.in-Ok-V4.ensures.value in
    one_address c.args.s.now _ ip (c.in-Ok-V4.ip.octets, dotted, c.v4_number.ensures) spelled

pub returns-in-Ok-V6-clause-value : goal.returns-in-Ok-V6-clause-value
returns-in-Ok-V6-clause-value c =
    let colons = rw c.in-Ok-V6.field-0-is at c.in-Ok-V6.ensures.value in
    sym (reads c.args.s.now _ (c.in-Ok-V6.ip.segments, colons, c.v6_number.ensures))

pub returns-in-Ok-V6-clause-only : goal.returns-in-Ok-V6-clause-only
returns-in-Ok-V6-clause-only c ip spelled =
    let colons = rw c.in-Ok-V6.field-0-is at c.in-Ok-V6.ensures.value in
    one_address c.args.s.now _ ip (c.in-Ok-V6.ip.segments, colons, c.v6_number.ensures) spelled

pub returns-in-Err-clause-value : goal.returns-in-Err-clause-value
returns-in-Err-clause-value c = nothing_read c.args.s.now c.in-Err.ensures.value

pub returns-in-Err-clause-only : goal.returns-in-Err-clause-only
returns-in-Err-clause-only c ip spelled = nothing_spelled c.args.s.now c.in-Err.ensures.value ip spelled
