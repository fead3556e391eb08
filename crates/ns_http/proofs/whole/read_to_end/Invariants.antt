use Rattle.std.proofs.Common.{◌≡◌, vec_len}
use Rattle.ns_http.proofs.WholeLemmas.{HasRead}
use Rattle.ns_http.proofs.whole.read_to_end.Given as goal

abbrev pub invariant-loop : goal.invariant-loop
invariant-loop g l = record {
  room : vec_len l.room ≡ 65536;
  has_read : HasRead (g.R.Read.remaining l.fn.reader.inner) (g.R.Read.remaining l.reader.inner) l.bytes.items l.counter
      l.fn.reader.counts l.reader.counts;
}
