use Rattle.mux_items.proofs.Taking.{read_bytes-is}
use Rattle.mux_items.proofs.laws.reads_answer_what_was_taken.Goals as goal

pub returns : goal.returns
returns c = read_bytes-is
