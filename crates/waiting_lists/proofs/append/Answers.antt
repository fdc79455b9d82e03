-- The place after those that wait, or there is no room.
use Rattle.waiting_lists.proofs.Appends.{appends_full, appends_room}
use Rattle.waiting_lists.proofs.append.Goals as goal

pub returns-then-list-ge16-clause-appends : goal.returns-then-list-ge16-clause-appends
returns-then-list-ge16-clause-appends c = appends_full c.args.list.now c.if-list-ge16.true

pub returns-clause-appends : goal.returns-clause-appends
returns-clause-appends c = rw c.place_in.ensures.0 (appends_room c.args.list.now c.if-list-ge16.false)
