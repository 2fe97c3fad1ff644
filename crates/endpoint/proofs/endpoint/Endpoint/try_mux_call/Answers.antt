use Rattle.std.specs.Prelude.{ℕ, List}
use Rattle.std.proofs.Common.{◌≡◌, refl, subst, ap}
use Rattle.mux_items.specs.declared.call.Call.TheVariants as mux_call
use Rattle.mux_items.specs.Kept.{next_key}
use Rattle.endpoint_items.specs.declared.call.Call.TheVariants as call
use Rattle.endpoint_items.specs.declared.reply.Reply.TheVariants as reply
use Rattle.endpoint_items.specs.Calls.{OfMux}
use Rattle.endpoint_items.specs.Layers.{mux_of}
use Rattle.endpoint.specs.Applied.{Applies, as_reply}
use Rattle.endpoint.proofs.Applied.{applied, done_applied}
use Rattle.endpoint.proofs.endpoint.Endpoint.try_mux_call.Goals as goal

pub returns-in-Offer-clause-applies : goal.returns-in-Offer-clause-applies
returns-in-Offer-clause-applies c = λ items at rest s.
    let old = c.args.self.now in
    let m = mux_call.Offer c.in-Offer.name c.in-Offer.window in
    rw c.in-Offer.is (applied old c.offer.new.self items at rest (call.Mux m) (OfMux m) (λ key. key ≡ next_key (mux_of old.mux.version items)) reply.Made (reply.Made (next_key (mux_of old.mux.version items))) refl refl
    (λ key e. ap reply.Made e) (λ key. refl) c.offer.result c.map.result c.map.ensures.cases (c.offer.ensures.answers items at rest s))

pub returns-in-Accept-clause-applies : goal.returns-in-Accept-clause-applies
returns-in-Accept-clause-applies c = λ items at rest s.
    let m = mux_call.Accept c.in-Accept.key c.in-Accept.window in
    rw c.in-Accept.is (done_applied c.args.self.now c.accept.new.self items at rest (call.Mux m) (OfMux m) refl refl c.accept.result c.done.result c.done.ensures (c.accept.ensures.answers items at rest s))

pub returns-in-Write-clause-applies : goal.returns-in-Write-clause-applies
returns-in-Write-clause-applies c = λ items at rest s.
    let m = mux_call.Write c.in-Write.key c.as_bytes.result.now in
    rw c.in-Write.is (subst (λ (b : List ℕ). Applies c.args.self.now c.write.new.self items at rest (call.Mux (mux_call.Write c.in-Write.key b)) (as_reply c.done-in-Write.result)) c.as_bytes.ensures (done_applied c.args.self.now c.write.new.self items at rest (call.Mux m) (OfMux m) refl refl c.write.result c.done-in-Write.result c.done-in-Write.ensures (c.write.ensures.answers items at rest s)))

pub returns-in-Complete-clause-applies : goal.returns-in-Complete-clause-applies
returns-in-Complete-clause-applies c = λ items at rest s.
    let m = mux_call.Complete c.in-Complete.key in
    rw c.in-Complete.is (done_applied c.args.self.now c.complete.new.self items at rest (call.Mux m) (OfMux m) refl refl c.complete.result c.done-in-Complete.result c.done-in-Complete.ensures (c.complete.ensures.answers items at rest s))

pub returns-in-Terminate-clause-applies : goal.returns-in-Terminate-clause-applies
returns-in-Terminate-clause-applies c = λ items at rest s.
    let m = mux_call.Terminate c.in-Terminate.key in
    rw c.in-Terminate.is (done_applied c.args.self.now c.terminate.new.self items at rest (call.Mux m) (OfMux m) refl refl c.terminate.result c.done-in-Terminate.result c.done-in-Terminate.ensures (c.terminate.ensures.answers items at rest s))

pub returns-in-Read-clause-applies : goal.returns-in-Read-clause-applies
returns-in-Read-clause-applies c = λ items at rest s. rw c.in-Read.is (c.read_bytes.ensures.applies items at rest s)
