use Rattle.ns_live_index.proofs.live.Live.reserve.Goals as goal

pub returns-in_err-reserve_at-clause-same : goal.returns-in_err-reserve_at-clause-same
returns-in_err-reserve_at-clause-same c = record {
  keys = λ pool node key. c.reserve_at.ensures.same.held (pool, (node, key));
  loads = c.reserve_at.ensures.loads;
}

pub returns-in_err-reserve_at-clause-room : goal.returns-in_err-reserve_at-clause-room
returns-in_err-reserve_at-clause-room c pool node key = c.reserve_at.ensures.same.room (pool, (node, key))

pub returns-in_ok-reserve_at-clause-same : goal.returns-in_ok-reserve_at-clause-same
returns-in_ok-reserve_at-clause-same c = record {
  keys = λ pool node key. c.reserve_at.ensures.same.held (pool, (node, key));
  loads = c.reserve_at.ensures.loads;
}

pub returns-in_ok-reserve_at-clause-room : goal.returns-in_ok-reserve_at-clause-room
returns-in_ok-reserve_at-clause-room c pool node key = c.reserve_at.ensures.same.room (pool, (node, key))
