-- A request that is read is whole.
use Rattle.std.proofs.Common.{◌≡◌, Ok, sym, ap, ◌∙◌, List}
use Rattle.request.specs.declared.fields.Field.{Field}
use Rattle.request.specs.Decoded.{decode_as}
use Rattle.request.specs.Fields.{fields_of}
use Rattle.trace_bytes.specs.NextRequest.{request_layout, request_numbers}
use Rattle.trace_bytes.proofs.Wholes.{read_takes}
use Rattle.trace_bytes.proofs.requests.next.Goals as goal

pub returns-in-Ok-clause-takes : goal.returns-in-Ok-clause-takes
returns-in-Ok-clause-takes c =
    let layout : c.of-layout.result ≡ request_layout (fields_of c.of-kind.result) =
    c.of-layout.ensures.value ∙ ap (λ (fs : List Field). request_layout fs) c.fields_of.ensures.table in
    let read : decode_as c.of-kind.result (request_numbers c.of-kind.result c.args.bytes.now) ≡ Ok c.in-Ok.request =
    sym (rw (c.read.ensures, layout) at c.decode_as.ensures) ∙ c.in-Ok.is in
    rw (c.size-length.ensures, layout) (read_takes c.of-kind.result c.args.bytes.now c.in-Ok.request read)
