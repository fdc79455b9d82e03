-- The nodes are seated, with as many places as these want.
use Rattle.gateway.proofs.Seats.{most, ready, ready_rows}
use Rattle.gateway.proofs.run_in_rows.Goals as goal

pub run_by_need-requires : goal.run_by_need-requires
run_by_need-requires c =
    let q = c.places_for in
    let all = c.seat_made.ensures q.new.places c.seat_nodes.ensures in
    record {
      most = most _ _ _ _ _ all _ _ c.list_start-l.ensures.begins c.made_start-m.ensures _ _ q.ensures;
      ready = (_, q.new.places, ready _ _ _ _ _ all _ _ c.list_start-l.ensures.begins c.made_start-m.ensures _ _ q.ensures);
      noticed = c.requires.1;
    }

pub returns : goal.returns
returns c =
    let q = c.places_for in
    let all = c.seat_made.ensures q.new.places c.seat_nodes.ensures in
    λ plan same rows. c.run_by_need.ensures plan q.new.places same (ready_rows _ _ _ _ _ all _ _ c.list_start-l.ensures.begins c.made_start-m.ensures _ _ q.ensures _ rows)
