use Rattle.std.proofs.Common.{sym, ◌∙◌, ap}
use Rattle.mux_items.specs.Bodies.{body_of}
use Rattle.mux_end.specs.Known.{entry_in, heeds}
use Rattle.mux_end.proofs.Keeping.{untaken, taken_whole, taken_starved, taken_output, take_stays}
use Rattle.mux_end.proofs.known.KnownChannel.take.Goals as goal

pub returns-in-Err-clause-takes : goal.returns-in-Err-clause-takes
returns-in-Err-clause-takes c =
    let body = body_of c.args.frame.now.code c.args.frame.now.payload in
    untaken _ c.args.self.now c.self.inside.key c.in-Kept.channel _ c.heed.new.channel body (heeds body) c.in-Err.fault
    (ap (entry_in c.self.inside.key) (sym c.in-Kept.is) ∙ c.self.view_is) c.in-Err.ensures

pub returns-in-Err-clause-stays : goal.returns-in-Err-clause-stays
returns-in-Err-clause-stays c =
    take_stays c.args.version c.args.self.now c.self.inside.key c.in-Kept.channel c.heed.new.channel (body_of c.args.frame.now.code c.args.frame.now.payload) _ c.heed.result
    (ap (entry_in c.self.inside.key) (sym c.in-Kept.is) ∙ c.self.view_is) c.heed.ensures c.requires.of

pub returns-in-Ok-settle-clause-takes : goal.returns-in-Ok-settle-clause-takes
returns-in-Ok-settle-clause-takes c =
    taken_whole c.args.self.now c.self.inside.key c.in-Kept.channel c.heed.new.channel c.settle.new.self (body_of c.args.frame.now.code c.args.frame.now.payload) c.event_on-event.result _
    (ap (entry_in c.self.inside.key) (sym c.in-Kept.is) ∙ c.self.view_is) c.in-Ok.ensures c.in-Ok-settle.ensures.state

pub returns-in-Ok-settle-clause-output : goal.returns-in-Ok-settle-clause-output
returns-in-Ok-settle-clause-output c =
    taken_output c.args.version c.args.self.now c.self.inside.key c.in-Kept.channel c.heed.new.channel _ (body_of c.args.frame.now.code c.args.frame.now.payload) c.args.out.now.items c.settle.new.out.items _
    (ap (entry_in c.self.inside.key) (sym c.in-Kept.is) ∙ c.self.view_is) c.in-Ok.ensures c.in-Ok-settle.ensures.output

pub returns-in-Err-settle-clause-takes : goal.returns-in-Err-settle-clause-takes
returns-in-Err-settle-clause-takes c =
    let body = body_of c.args.frame.now.code c.args.frame.now.payload in
    taken_starved _ c.args.self.now c.self.inside.key c.in-Kept.channel _ c.heed.new.channel c.settle.new.self body (heeds body) _
    (ap (entry_in c.self.inside.key) (sym c.in-Kept.is) ∙ c.self.view_is) c.in-Ok.ensures
