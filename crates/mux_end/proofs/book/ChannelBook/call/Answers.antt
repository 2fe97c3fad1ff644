use Rattle.mux_end.proofs.Booking.{call_output_by, called_leaves}
use Rattle.mux_end.proofs.book.ChannelBook.call.Goals as goal

pub returns-in-None-clause-leaves : goal.returns-in-None-clause-leaves
returns-in-None-clause-leaves c = called_leaves _ c.args.self.now c.args.key c.args.call c.call.new.self c.call.result c.self.view_is c.in-None.is c.call.ensures.leaves

pub returns-in-None-clause-output : goal.returns-in-None-clause-output
returns-in-None-clause-output c = call_output_by _ c.args.self.now c.args.key c.args.call c.args.out.now.items c.call.new.out.items c.call.result c.self.view_is c.call.ensures.output
