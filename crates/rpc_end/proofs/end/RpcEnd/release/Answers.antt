use Rattle.std.proofs.Common.{[], ◌∷◌, refl}
use Rattle.call_messages.specs.Messages.{release_message}
use Rattle.marshalled_handles.specs.Both.{end_in}
use Rattle.marshalled_handles.specs.Replies.{seen_refusal}
use Rattle.rpc_items.specs.Items.{Release}
use Rattle.rpc_end.specs.Calls.{with_released}
use Rattle.rpc_end.proofs.Answering.{call_answers, calls_terms}
use Rattle.rpc_end.proofs.Asking.{release_early, release_keeps}
use Rattle.rpc_end.proofs.end.RpcEnd.release.Goals as goal

pub returns-clause-answers : goal.returns-clause-answers
returns-clause-answers c = λ items at rest s.
    let old = c.args.self.now in
    let key = c.args.key in
    call_answers old c.let_go-released.new.self (with_released key old) c.finish.new.self (Release key) items at rest tt (λ _. Unit {0})
    (seen_refusal (end_in key old.owner old.holder)) (release_message key ∷ []) c.let_go-released.result c.finish.result s c.in_ok-check_running.ensures refl refl
    (release_early old items at rest s key) refl c.let_go-released.ensures.said
    (λ _. release_keeps old items at rest s key) tt c.let_go-released.ensures.calls c.finish.ensures.answer c.finish.ensures.state

pub returns-clause-terms : goal.returns-clause-terms
returns-clause-terms c =
    let old = c.args.self.now in
    calls_terms old c.let_go-released.new.self (with_released c.args.key old) c.finish.new.self tt c.let_go-released.result
    (seen_refusal (end_in c.args.key old.owner old.holder)) (release_message c.args.key ∷ []) c.let_go-released.ensures.calls c.finish.ensures.state
