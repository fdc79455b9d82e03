-- Full, or one more.
use Prim.Native.Nat.{◌<◌, ◌≤◌}
use Rattle.arrivals.proofs.Waiting.{full_limit_lem, room-limit}
use Rattle.waiting_lists.proofs.Appends.{appended_full}
use Rattle.waiting_lists.proofs.Waits.{read_length, waits-length}
use Rattle.waiting_lists.specs.Lists.{Roomy, Waits}
use lib.ListN.{length}
use mathlib.Core.Path.{subst, sym}
use native.Mathlib.Omega.{arith}
use Rattle.arrivals.proofs.wait.Goals as goal

pub list_of-waiting-requires : goal.list_of-waiting-requires
list_of-waiting-requires c = c.requires.0

pub returns-then-waiting-ge16 : goal.returns-then-waiting-ge16
returns-then-waiting-ge16 c =
    let read = c in
    let list = read.args.list.now in
    λ ticks globals t l x h p.
    let k : 16 ≤ length l = omega (arith, read_length t list l h read.list_of-waiting.result read.list_of-waiting.ensures, c.if-waiting-ge16.true) in
    (subst (Waits t _) (sym (appended_full l x k).1) h, full_limit_lem l x k)

pub append_to-requires : goal.append_to-requires
append_to-requires c = c.requires.0

pub returns : goal.returns
returns c =
    let more = c in
    let few = more in
    let read = few in
    let start = read in
    let list = start.args.list.now in
    λ ticks globals t l x h p.
    let k : length l < 16 = omega (arith, read_length t list l h read.list_of-waiting.result read.list_of-waiting.ensures, few.if-waiting-ge16.false) in
    let room : Roomy list l 1 = rw (← waits-length t list l h) start.requires.1 in
    (more.append_to.ensures ticks globals t l x h room p, room-limit l x k)
