-- What is lent is enough where `fits` says so.
use Rattle.detector.proofs.Running.{ready_in}
use native.Mathlib.Omega.{arith}
use Rattle.gateway.proofs.run_by_need.Goals as goal

pub run_in_places-requires-then-fits-2-clause-ready : goal.run_in_places-requires-then-fits-2-clause-ready
run_in_places-requires-then-fits-2-clause-ready c =
    let (nodes, places, ready) = c.requires.ready in
    let enough = c.fits-2.ensures.0 c.if-fits-2.true in
    (nodes, places, ready_in ready _ _ (omega (arith, enough.0)) (omega (arith, enough.1)))

pub run_in_places-requires-then-fits-3-clause-ready : goal.run_in_places-requires-then-fits-3-clause-ready
run_in_places-requires-then-fits-3-clause-ready c =
    let (nodes, places, ready) = c.requires.ready in
    let enough = c.fits-3.ensures.0 c.if-fits-3.true in
    (nodes, places, ready_in ready _ _ (omega (arith, enough.0)) (omega (arith, enough.1)))

pub run_in_places-requires-then-fits-5-clause-ready : goal.run_in_places-requires-then-fits-5-clause-ready
run_in_places-requires-then-fits-5-clause-ready c =
    let (nodes, places, ready) = c.requires.ready in
    let enough = c.fits-5.ensures.0 c.if-fits-5.true in
    (nodes, places, ready_in ready _ _ (omega (arith, enough.0)) (omega (arith, enough.1)))
