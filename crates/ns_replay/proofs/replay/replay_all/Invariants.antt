use Rattle.std.proofs.Common.{◌≡◌, take}
use Rattle.ns_replay.specs.Abreast.{IsReplayedBy, its_part}
use Rattle.ns_replay.specs.Replay.{own_entries, replies_of}
use Rattle.ns_replay.proofs.replay.replay_all.Given as goal

abbrev pub invariant-loop-place : goal.invariant-loop-place
invariant-loop-place l = record {
  replayed : IsReplayedBy l.claim l.base (take l.place l.entries) l.whole l.alone;
  told : l.replies.items ≡ replies_of (own_entries (its_part l.claim) (take l.place l.entries));
}
