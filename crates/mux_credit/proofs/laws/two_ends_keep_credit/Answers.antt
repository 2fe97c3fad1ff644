use Rattle.mux_run.proofs.Between.{between_next}
use Rattle.mux_credit.proofs.Credit.{has_credit}
use Rattle.mux_credit.proofs.Next.{takes_next}
use Rattle.mux_credit.proofs.laws.two_ends_keep_credit.Goals as goal

pub returns : goal.returns
returns c = record {
  credit = has_credit;
  takes = takes_next;
  keeps = λ v place x y f rest b runs ready e. (between_next v place x y f rest b (record { ready = ready; running = runs; unrefused = takes_next v x y b f rest e }) e).0;
}
