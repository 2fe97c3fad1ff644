use Rattle.mux_run.proofs.Between.{turned_between, between_called, between_hello, between_next, between_end}
use Rattle.mux_run.proofs.Moments.{through_between, moments_between}
use Rattle.mux_run.proofs.laws.moments_are_between.Goals as goal

pub returns : goal.returns
returns c = record {
  moment = moments_between;
  through = through_between;
  turned = turned_between;
  call = between_called;
  handshake = between_hello;
  frame = between_next;
  «end» = between_end;
}
