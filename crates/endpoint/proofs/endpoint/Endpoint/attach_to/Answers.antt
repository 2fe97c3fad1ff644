use Rattle.std.proofs.Common.{◌≡◌, ◌∙◌, None, ap, subst}
use Rattle.mux_items.specs.Lists.{is_completed}
use Rattle.rpc_end.specs.declared.terms.Terms.{Terms}
use Rattle.endpoint_items.specs.Calls.{attach_refusal}
use Rattle.endpoint_items.specs.Items.{Attach}
use Rattle.endpoint_items.specs.Layers.{mux_of}
use Rattle.endpoint_items.proofs.Attaching.{attachable}
use Rattle.endpoint_items.proofs.Usable.{read_none}
use Rattle.endpoint.specs.Changes.{inserted}
use Rattle.endpoint.specs.Replies.{Adds}
use Rattle.endpoint.specs.Stands.{Stands}
use Rattle.endpoint.specs.Value.{EndpointValue, connection_at, value_in}
use Rattle.endpoint.proofs.Beginning.{attaches_by, readable, where_ok}
use Rattle.endpoint.proofs.endpoint.Endpoint.attach_to.Goals as goal

pub returns-clause-adds : goal.returns-clause-adds
returns-clause-adds c = λ items at rest s free done.
    let mux = c.self.inside.mux in
    let xs = c.self.inside.connections.items in
    let stopped = c.self.inside.stopped in
    let key = c.args.key in
    let terms : Terms = record { framing = c.args.framing; encoding = c.args.encoding } in
    let now = c.answer_completion.new.mux in
    let made : EndpointValue = inserted key c.answer_completion.new.end (value_in now xs stopped) in
    let none : connection_at key xs ≡ None = ap (λ (e : EndpointValue). connection_at key e.connections) c.self.view_is ∙ c.requires in
    where_ok c.insert.result (c.insert.new.self ≡ made) (Adds c.args.self.now c.insert.new.self items at rest (Attach key terms)) (λ is.
    subst (λ (e : EndpointValue). Stands e items at rest → attach_refusal e.mux.version key items ≡ None → c.args.completed ≡ is_completed e.mux.version key (mux_of e.mux.version items) → Adds e c.insert.new.self items at rest (Attach key terms)) c.self.view_is
    (λ own permits ready.
    let m = mux_of mux.version items in
    attaches_by mux c.begin.new.mux now xs stopped c.insert.new.self items at rest key terms c.args.completed c.in_ok-end.end c.answer_completion.new.end own permits ready none
    (c.in_ok-end.ensures.begins m at rest own.mux (read_none mux.version key m (attachable mux.version key items permits).usable) (readable (value_in mux xs stopped) items at rest key own))
    (λ m' stands. c.in_ok-answer_completion.ensures.moves m' at rest stands) (λ place bytes h. c.answer_completion.ensures.ends terms place bytes h) is) s free done) c.insert.ensures.ok
