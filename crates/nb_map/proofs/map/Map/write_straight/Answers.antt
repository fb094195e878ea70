use Rattle.std.proofs.Common.{ℕ, ◌+◌, ◌-◌, ◌≤◌, arith, refl, subst₂, sym}
use Rattle.nb_core.specs.Meaning.{net_of_call}
use Rattle.nb_core.specs.declared.calls.Call.TheVariants as call
use Rattle.nb_map.proofs.Away.{away_straight, made_straight, stopped_straight}
use Rattle.nb_map.proofs.Logged.{uncounted}
use Rattle.nb_map.specs.Maps.{IsMine, SeatOf}
use Rattle.nb_map.specs.Progress.{Limit, Tries, Unlimited, within}
use Rattle.nb_map.specs.Promises.{HasWritten, Refused, Replied}
use Rattle.nb_map.specs.declared.faults.PutFault.TheVariants.{ValueRange}
use Rattle.nb_map.specs.inside.Waiting.{HasYetToWrite, LeavesTries}
use Rattle.nb_map.proofs.map.Map.write_straight.Goals as goal
use Rattle.nb_map.proofs.map.Map.write_straight.Goals.{After-count, In-Left, In-Overflow, In-GoesOn}

-- ---- an exchange is won

made :
    (c : After-count) (limit : Limit) → ((passed : ℕ) → 1 ≤ within limit (passed + 1))
    → HasWritten c.args.self.now (call.Write c.args.key c.args.want c.args.change) c.args.seat.now
    (record { chain = c.write_home-home.new.seat; count = c.count.new.seat }) limit
    (Replied c.in-Made.reply)
made c limit some =
    let after : SeatOf = record { chain = c.write_home-home.new.seat; count = c.count.new.seat } in
    subst₂ (λ map before. HasWritten map (call.Write c.args.key c.args.want c.args.change) before after
    limit (Replied c.in-Made.reply)) c.self.view_is c.seat.view_is
    (made_straight {after = after} limit some
    (subst₂ IsMine (sym c.self.view_is) (sym c.seat.view_is) c.requires.own) c.in-Made.reply
    (c.in-Made.ensures _ _ _ _ _ c.write_home-home.ensures.tried) c.count.ensures)

pub returns-after-left-eq0-clause-tries : goal.returns-after-left-eq0-clause-tries
returns-after-left-eq0-clause-tries c =
    made (goal.at.returns-after-left-eq0-clause-tries c).After-count (Tries c.args.tries.now)
    (λ passed. omega (arith, c.requires.some))

pub returns-after-left-eq0-clause-waits : goal.returns-after-left-eq0-clause-waits
returns-after-left-eq0-clause-waits c =
    made (goal.at.returns-after-left-eq0-clause-waits c).After-count Unlimited (λ passed. omega arith)

-- ---- what is there is left as it is

left-alone :
    (c : In-Left) (limit : Limit) → ((passed : ℕ) → 1 ≤ within limit (passed + 1))
    → HasWritten c.args.self.now (call.Write c.args.key c.args.want c.args.change) c.args.seat.now
    (record { chain = c.write_home-home.new.seat; count = c.seat.inside.count }) limit
    (Replied c.in-Left.reply)
left-alone c limit some =
    let count = c.seat.inside.count in
    let after : SeatOf = record { chain = c.write_home-home.new.seat; count = count } in
    let write = call.Write c.args.key c.args.want c.args.change in
    let left = c.in-Left.ensures _ _ _ _ _ c.write_home-home.ensures.tried in
    subst₂ (λ map before. HasWritten map write before after limit (Replied c.in-Left.reply))
    c.self.view_is c.seat.view_is
    (made_straight {after = after} limit some
    (subst₂ IsMine (sym c.self.view_is) (sym c.seat.view_is) c.requires.own) c.in-Left.reply
    left.0 (uncounted (net_of_call write c.in-Left.reply) count count left.1 refl))

pub returns-after-left-eq0-2-clause-tries : goal.returns-after-left-eq0-2-clause-tries
returns-after-left-eq0-2-clause-tries c =
    left-alone (goal.at.returns-after-left-eq0-2-clause-tries c).In-Left (Tries c.args.tries.now)
    (λ passed. omega (arith, c.requires.some))

pub returns-after-left-eq0-2-clause-waits : goal.returns-after-left-eq0-2-clause-waits
returns-after-left-eq0-2-clause-waits c =
    left-alone (goal.at.returns-after-left-eq0-2-clause-waits c).In-Left Unlimited
    (λ passed. omega arith)

-- ---- it is refused

stopped :
    (c : In-Overflow) (limit : Limit) → ((passed : ℕ) → 1 ≤ within limit (passed + 1))
    → HasWritten c.args.self.now (call.Write c.args.key c.args.want c.args.change) c.args.seat.now
    (record { chain = c.write_home-home.new.seat; count = c.seat.inside.count }) limit
    (Refused ValueRange)
stopped c limit some =
    let after : SeatOf = record { chain = c.write_home-home.new.seat; count = c.seat.inside.count } in
    subst₂ (λ map before. HasWritten map (call.Write c.args.key c.args.want c.args.change) before after
    limit (Refused ValueRange)) c.self.view_is c.seat.view_is
    (stopped_straight {after = after} limit some
    (subst₂ IsMine (sym c.self.view_is) (sym c.seat.view_is) c.requires.own)
    (c.in-Overflow.ensures _ _ _ _ _ c.write_home-home.ensures.tried) refl)

pub returns-in-Overflow-clause-tries : goal.returns-in-Overflow-clause-tries
returns-in-Overflow-clause-tries c =
    stopped (goal.at.returns-in-Overflow-clause-tries c).In-Overflow (Tries c.args.tries.now)
    (λ passed. omega (arith, c.requires.some))

pub returns-in-Overflow-clause-waits : goal.returns-in-Overflow-clause-waits
returns-in-Overflow-clause-waits c =
    stopped (goal.at.returns-in-Overflow-clause-waits c).In-Overflow Unlimited
    (λ passed. omega arith)

-- ---- it has looked in vain

goes-on :
    (c : In-GoesOn) (limit left : Limit) → LeavesTries limit (1 - c.write_home-home.new.left) left
    → HasYetToWrite c.args.self.now (call.Write c.args.key c.args.want c.args.change) c.args.seat.now
    (record { chain = c.write_home-home.new.seat; count = c.seat.inside.count }) limit left
goes-on c limit left rest =
    let after : SeatOf = record { chain = c.write_home-home.new.seat; count = c.seat.inside.count } in
    subst₂ (λ map before. HasYetToWrite map (call.Write c.args.key c.args.want c.args.change) before
    after limit left) c.self.view_is c.seat.view_is
    (away_straight {after = after} limit left
    (subst₂ IsMine (sym c.self.view_is) (sym c.seat.view_is) c.requires.own)
    (c.in-GoesOn.ensures _ _ _ _ _ c.write_home-home.ensures.tried) rest refl)

pub returns-in-GoesOn-clause-tries : goal.returns-in-GoesOn-clause-tries
returns-in-GoesOn-clause-tries c =
    goes-on (goal.at.returns-in-GoesOn-clause-tries c).In-GoesOn (Tries c.args.tries.now)
    (Tries (c.args.tries.now - (1 - c.write_home-home.new.left)))
    (omega (arith, c.requires.some, c.write_home-home.ensures.left))

pub returns-in-GoesOn-clause-waits : goal.returns-in-GoesOn-clause-waits
returns-in-GoesOn-clause-waits c =
    goes-on (goal.at.returns-in-GoesOn-clause-waits c).In-GoesOn Unlimited Unlimited tt
