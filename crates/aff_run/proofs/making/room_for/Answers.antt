use Rattle.aff_run.proofs.making.room_for.Goals as goal

pub returns-clause-none : goal.returns-clause-none
returns-clause-none g c = (c.in_ok-vec_for.ensures.none, c.in_ok-vec_for-2.ensures.none, c.in_ok-vec_for-3.ensures.none, c.in_ok-vec_for-4.ensures.none, c.in_ok-vec_for-5.ensures.none, c.in_ok-vec_for-6.ensures.none)

pub returns-clause-room : goal.returns-clause-room
returns-clause-room g c = (c.in_ok-vec_for.ensures.room, c.in_ok-vec_for-2.ensures.room, c.in_ok-vec_for-3.ensures.room, c.in_ok-vec_for-4.ensures.room, c.in_ok-vec_for-5.ensures.room, c.in_ok-vec_for-6.ensures.room)
