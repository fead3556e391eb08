use Rattle.std.proofs.Common.{take, map}
use Rattle.httparse.specs.Spans.{header_bytes}
use Rattle.ns_http.specs.Fields.{AreFieldsOf}
use Rattle.ns_http.proofs.header.Fields.read.Given as goal

abbrev pub invariant-loop-header : goal.invariant-loop-header
invariant-loop-header l = AreFieldsOf l.fields (map (header_bytes l.buf) (take l.header-index l.headers))
