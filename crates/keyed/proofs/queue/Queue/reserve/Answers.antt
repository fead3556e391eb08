use Rattle.std.specs.Prelude.{◌≡◌, ℕ, ◌+◌, ◌<◌, ◌^◌, List}
use Rattle.std.proofs.Common.{arith, subst, sym, take, ◌∙◌}
use Rattle.keyed.proofs.Mapped.{take_all}
use Rattle.keyed.specs.Queue.{HasRoomFrom}
use Rattle.keyed.proofs.Queued.{keeps_then}
use Rattle.keyed.proofs.RoomLeft.{reserved_next}
use Rattle.keyed.proofs.queue.Queue.reserve.Goals as goal

pub loop-row-preserved : goal.loop-row-preserved
loop-row-preserved g c =
    let next : c.reserve_at.new.self.next ≡ c.loop-row.self.next = c.reserve_at.ensures.places.next in
    let at : c.loop-row.place ≡ c.loop-row.self.next + c.loop-row.row-index = c.loop-row.invariant.0 in
    let bound : c.loop-row.place + 1 < 2 ^ 64 = omega arith in (
      omega arith,
      c.reserve_at.ensures.items ∙ c.loop-row.invariant.1,
      keeps_then _ _ _ c.loop-row.invariant.2 c.reserve_at.ensures.places,
      subst (λ (n : ℕ). HasRoomFrom g.R.Keyed.key_of n (take (c.loop-row.row-index + 1) c.args.rows.now) c.reserve_at.new.self.placed) (sym next)
          (reserved_next g.R.Keyed.key_of c.loop-row.self.placed c.reserve_at.new.self.placed c.loop-row.self.next c.loop-row.row-index
          c.loop-row.place c.args.rows.now c.row-item.result c.loop-row-test.true c.row-item.is at bound c.reserve_at.ensures.room
          c.in_ok-reserve_at.ensures.ok c.loop-row.invariant.3),
    )

pub returns-in_err-reserve_at-clause-places : goal.returns-in_err-reserve_at-clause-places
returns-in_err-reserve_at-clause-places g c = keeps_then _ _ _ c.loop-row.invariant.2 c.reserve_at.ensures.places

pub returns-clause-ok : goal.returns-clause-ok
returns-clause-ok g c = subst (λ (rows : List g.row.R.Denot). HasRoomFrom g.R.Keyed.key_of c.loop-row.self.next rows c.loop-row.self.placed)
    (take_all c.args.rows.now c.loop-row.row-index c.loop-row-test.false) c.loop-row.invariant.3
