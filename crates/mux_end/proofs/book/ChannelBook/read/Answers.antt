use Rattle.mux_items.specs.Items.{DidRead}
use Rattle.mux_state.specs.Next.{next_state}
use Rattle.mux_state.specs.Tests.{read_test}
use Rattle.mux_end.proofs.Booking.{read_leaves}
use Rattle.mux_end.proofs.book.ChannelBook.read.Goals as goal

pub returns-clause-leaves : goal.returns-clause-leaves
returns-clause-leaves c = read_leaves _ c.args.self.now c.args.key c.read.new.self read_test (next_state (DidRead c.args.key c.args.max)) c.read.result c.self.view_is c.read.ensures.leaves
