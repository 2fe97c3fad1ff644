use Rattle.std.proofs.lemmas.Result.{err_from_is_err_and}
use Rattle.endpoint.proofs.RpcCalling.{found_attached, found_place, spent_tests, unattached_tests}
use Rattle.endpoint.proofs.endpoint.Endpoint.check_saying.Goals as goal

pub returns-in_err-place-clause-test : goal.returns-in_err-place-clause-test
returns-in_err-place-clause-test c = λ items at rest s.
    let p = err_from_is_err_and c.from_residual.result c.from_residual.ensures.1 in
    rw (p.1, p.2) (unattached_tests c.args.self.now items at rest c.args.key c.in_err-place.field-0.0 s c.in_err-place.ensures)

pub returns-in_err-check_room-clause-test : goal.returns-in_err-check_room-clause-test
returns-in_err-check_room-clause-test c = λ items at rest s.
    let old = c.args.self.now in
    let p = err_from_is_err_and c.from_residual-in_err-check_room.result c.from_residual-in_err-check_room.ensures.1 in
    let was = found_attached old items at rest c.in_ok-place.place c.args.key s (found_place old.state _ c.in_ok-place.place c.in_ok-place.ensures) in
    rw (p.1, p.2) (spent_tests old.mux.version c.args.key items c.in_err-check_room.field-0.0 was (c.in_err-check_room.ensures items at rest s was))

pub returns-clause-test : goal.returns-clause-test
returns-clause-test c = λ items at rest s.
    let old = c.args.self.now in
    let was = found_attached old items at rest c.in_ok-place.place c.args.key s (found_place old.state _ c.in_ok-place.place c.in_ok-place.ensures) in
    rw was (c.in_ok-check_room.ensures items at rest s was)

pub returns-clause-found : goal.returns-clause-found
returns-clause-found c = found_place c.args.self.now.state _ c.in_ok-place.place c.in_ok-place.ensures
