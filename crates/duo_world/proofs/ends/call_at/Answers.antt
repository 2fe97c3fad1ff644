use Rattle.std.proofs.Common.{length, sym, ◌∙◌}
use Rattle.endpoint_items.specs.Asked.{made_by}
use Rattle.endpoint_run.specs.Run.{mux_side}
use Rattle.duo_world.specs.Stepping.{called_by}
use Rattle.duo_world.proofs.Answering.{called_mid, called_settled, question_steps}
use Rattle.duo_world.proofs.ends.call_at.Goals.{then-not-is_question+in_ok-settle, else-not-is_question}
use Rattle.duo_world.proofs.ends.call_at.Goals as goal

pub returns : goal.returns
returns c = λ w side peer x y r.
    let call = c.args.call.now in
    let own = c.args.own.now in
    let new = c.make_call.new.own in
    let reply = c.in_ok-reply.reply in
    let made = c.in_ok-reply.ensures w x (mux_side w.version y) r.stand.at_own in
    elim c.if-not-is_question.branch [
      | then-not-is_question+in_ok-settle s ↦
          let mid = called_mid w (made_by call) own new peer c.new-events.result x y r c.new-events.ensures made.1 in
          rw (s.own-is, s.events-is)
          (called_settled w call side own s.settle.new.own peer reply s.settle.new.events x y (sym c.is_question.ensures ∙ s.if-not-is_question.true) r made.0
          (s.in_ok-settle.ensures w x.delivered (length x.items) (called_by w.version (made_by call) x.items) (mux_side w.version y) mid))
      | else-not-is_question s ↦ rw (s.own-is, s.events-is) (question_steps w call side own new peer reply c.new-events.result x y (sym c.is_question.ensures ∙ s.if-not-is_question.false) r c.new-events.ensures made)
    ]
