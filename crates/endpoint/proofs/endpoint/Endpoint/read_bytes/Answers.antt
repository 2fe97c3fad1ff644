use Rattle.std.specs.Prelude.{ℕ, List, ◌++◌, length, min, take, Ok, Err}
use Rattle.std.proofs.Common.{◌≡◌, ◌∙◌, refl, ap}
use Rattle.std.proofs.lemmas.Result.{err_from_is_err_and}
use Rattle.mux_items.specs.declared.call.Call.TheVariants as mux_call
use Rattle.mux_items.specs.Lists.{unread}
use Rattle.endpoint_items.specs.declared.call.Call.TheVariants as call
use Rattle.endpoint_items.specs.declared.reply.Reply.TheVariants as reply
use Rattle.endpoint_items.specs.Calls.{OfMux}
use Rattle.endpoint_items.specs.Layers.{mux_of}
use Rattle.endpoint.proofs.Applied.{applied, starves}
use Rattle.endpoint.specs.Value.{EndpointValue}
use Rattle.endpoint.proofs.endpoint.Endpoint.read_bytes.Goals as goal

pub returns-in_err-read-clause-applies : goal.returns-in_err-read-clause-applies
returns-in_err-read-clause-applies c = λ items at rest s.
    let p = err_from_is_err_and c.from_residual.result c.from_residual.ensures.1 in
    let old = c.args.self.now in
    let m = mux_call.Read c.args.key c.args.max in
    let bytes = take c.args.max (unread old.mux.version c.args.key (mux_of old.mux.version items)) in
    rw (p.1, p.2) (applied old c.read.new.self items at rest (call.Mux m) (OfMux m) (λ n. n ≡ min c.args.max (length (unread old.mux.version c.args.key (mux_of old.mux.version items)))) (λ _. reply.Bytes bytes) (reply.Bytes bytes) refl refl
    (λ n e. refl) (λ n. refl) (Err c.in_err-read.field-0.0) (Err c.in_err-read.field-0.0) refl (c.in_err-read.ensures.answers items at rest s))

pub returns-in-Ok-clause-applies : goal.returns-in-Ok-clause-applies
returns-in-Ok-clause-applies c = λ items at rest s.
    let old = c.args.self.now in
    let m = mux_call.Read c.args.key c.args.max in
    let bytes = take c.args.max (unread old.mux.version c.args.key (mux_of old.mux.version items)) in
    let read : c.in-Ok.read ≡ bytes = c.in-Ok.ensures ∙ c.as_slice.ensures.value ∙ c.in_ok-read.ensures.bytes items at rest s ∙ ap (λ (b : List ℕ). b ++ bytes) c.new-bytes.ensures.items in
    applied old c.read.new.self items at rest (call.Mux m) (OfMux m) (λ n. n ≡ min c.args.max (length (unread old.mux.version c.args.key (mux_of old.mux.version items)))) (λ _. reply.Bytes bytes) (reply.Bytes bytes) refl refl
    (λ n e. refl) (λ n. refl) (Ok c.in_ok-read.field-0) (Ok (reply.Bytes c.in-Ok.read)) (ap reply.Bytes read) (c.in_ok-read.ensures.answers items at rest s)

pub returns-clause-applies : goal.returns-clause-applies
returns-clause-applies c = λ items at rest s.
    let old = c.args.self.now in
    rw c.finish.ensures.answer (starves old c.read.new.self c.finish.new.self items at rest (mux_call.Read c.args.key c.args.max) (λ n. n ≡ min c.args.max (length (unread old.mux.version c.args.key (mux_of old.mux.version items)))) c.in_ok-read.field-0
    (c.in_ok-read.ensures.answers items at rest s) (ap (λ (e : EndpointValue). e.state) c.finish.ensures.state))
