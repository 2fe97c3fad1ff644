use Rattle.std.specs.Prelude.{◌+◌, slice_get}
use Rattle.std.proofs.Common.{◌≡◌, refl, ap}
use Rattle.rpc_items.specs.Drawn.{drawn}
use Rattle.rpc_items.specs.Items.{Abort, Ask, Cancel, Forget, Invoke, Next, Release, Report, Respond, TakeReport, Tell}
use Rattle.rpc_items.specs.Reports.{reports}
use Rattle.endpoint_items.specs.declared.call.Call.TheVariants as call
use Rattle.endpoint_items.specs.declared.reply.Reply.TheVariants as reply
use Rattle.endpoint_items.specs.Calls.{Attaches, OfConnection}
use Rattle.endpoint_items.specs.Connections.{items_of}
use Rattle.endpoint_items.specs.Layers.{rpc_of}
use Rattle.endpoint.proofs.Applied.{applied, done_applied}
use Rattle.endpoint.proofs.endpoint.Endpoint.try_call.Goals as goal

pub returns-in-Request-clause-applies : goal.returns-in-Request-clause-applies
returns-in-Request-clause-applies c = λ items at rest s.
    let old = c.args.self.now in
    let a = c.in-Request in
    let number = drawn (items_of (rpc_of old.mux.version a.key items)) + 1 in
    rw a.is (applied old c.request.new.self items at rest (call.Request a.key a.method a.args a.expect) (OfConnection a.key (Ask a.method a.args a.expect)) (λ n. n ≡ number) reply.Number (reply.Number number) refl refl
    (λ n e. ap reply.Number e) (λ n. refl) c.request.result c.map.result c.map.ensures.cases (c.request.ensures.answers items at rest s))

pub returns-in-Attach-clause-applies : goal.returns-in-Attach-clause-applies
returns-in-Attach-clause-applies c = λ items at rest s.
    let a = c.in-Attach in
    rw a.is (done_applied c.args.self.now c.attach.new.self items at rest (call.Attach a.key a.terms) (Attaches a.key a.terms) refl refl c.attach.result c.done.result c.done.ensures (c.attach.ensures.answers items at rest s))

pub returns-in-Notify-clause-applies : goal.returns-in-Notify-clause-applies
returns-in-Notify-clause-applies c = λ items at rest s.
    let a = c.in-Notify in
    rw a.is (done_applied c.args.self.now c.notify.new.self items at rest (call.Notify a.key a.method a.args) (OfConnection a.key (Tell a.method a.args)) refl refl c.notify.result c.done-in-Notify.result c.done-in-Notify.ensures (c.notify.ensures.answers items at rest s))

pub returns-in-Respond-clause-applies : goal.returns-in-Respond-clause-applies
returns-in-Respond-clause-applies c = λ items at rest s.
    let a = c.in-Respond in
    rw a.is (done_applied c.args.self.now c.respond.new.self items at rest (call.Respond a.key a.id a.answer) (OfConnection a.key (Respond a.id a.answer)) refl refl c.respond.result c.done-in-Respond.result c.done-in-Respond.ensures (c.respond.ensures.answers items at rest s))

pub returns-in-Cancel-clause-applies : goal.returns-in-Cancel-clause-applies
returns-in-Cancel-clause-applies c = λ items at rest s.
    let a = c.in-Cancel in
    rw a.is (done_applied c.args.self.now c.cancel.new.self items at rest (call.Cancel a.key a.n) (OfConnection a.key (Cancel a.n)) refl refl c.cancel.result c.done-in-Cancel.result c.done-in-Cancel.ensures (c.cancel.ensures.answers items at rest s))

pub returns-in-Report-clause-applies : goal.returns-in-Report-clause-applies
returns-in-Report-clause-applies c = λ items at rest s.
    let a = c.in-Report in
    rw a.is (done_applied c.args.self.now c.report.new.self items at rest (call.Report a.key a.id a.token a.value) (OfConnection a.key (Report a.id a.token a.value)) refl refl c.report.result c.done-in-Report.result c.done-in-Report.ensures (c.report.ensures.answers items at rest s))

pub returns-in-TakeReport-clause-applies : goal.returns-in-TakeReport-clause-applies
returns-in-TakeReport-clause-applies c = λ items at rest s.
    let old = c.args.self.now in
    let a = c.in-TakeReport in
    let next = slice_get (reports a.n (items_of (rpc_of old.mux.version a.key items))) 0 in
    rw a.is (applied old c.take_report.new.self items at rest (call.TakeReport a.key a.n) (OfConnection a.key (TakeReport a.n)) (λ r. r ≡ next) reply.Report (reply.Report next) refl refl
    (λ r e. ap reply.Report e) (λ r. refl) c.take_report.result c.map-in-TakeReport.result c.map-in-TakeReport.ensures.cases (c.take_report.ensures.answers items at rest s))

pub returns-in-Next-clause-applies : goal.returns-in-Next-clause-applies
returns-in-Next-clause-applies c = λ items at rest s.
    let old = c.args.self.now in
    let a = c.in-Next in
    let number = drawn (items_of (rpc_of old.mux.version a.key items)) + 1 in
    rw a.is (applied old c.next.new.self items at rest (call.Next a.key a.n) (OfConnection a.key (Next a.n)) (λ m. m ≡ number) reply.Number (reply.Number number) refl refl
    (λ m e. ap reply.Number e) (λ m. refl) c.next.result c.map-in-Next.result c.map-in-Next.ensures.cases (c.next.ensures.answers items at rest s))

pub returns-in-Abort-clause-applies : goal.returns-in-Abort-clause-applies
returns-in-Abort-clause-applies c = λ items at rest s.
    let a = c.in-Abort in
    rw a.is (done_applied c.args.self.now c.abort.new.self items at rest (call.Abort a.key a.n) (OfConnection a.key (Abort a.n)) refl refl c.abort.result c.done-in-Abort.result c.done-in-Abort.ensures (c.abort.ensures.answers items at rest s))

pub returns-in-Invoke-clause-applies : goal.returns-in-Invoke-clause-applies
returns-in-Invoke-clause-applies c = λ items at rest s.
    let old = c.args.self.now in
    let a = c.in-Invoke in
    let number = drawn (items_of (rpc_of old.mux.version a.key items)) + 1 in
    rw a.is (applied old c.invoke.new.self items at rest (call.Invoke a.key a.handle a.method a.args a.expect) (OfConnection a.key (Invoke a.handle a.method a.args a.expect)) (λ m. m ≡ number) reply.Number (reply.Number number) refl refl
    (λ m e. ap reply.Number e) (λ m. refl) c.invoke.result c.map-in-Invoke.result c.map-in-Invoke.ensures.cases (c.invoke.ensures.answers items at rest s))

pub returns-in-Release-clause-applies : goal.returns-in-Release-clause-applies
returns-in-Release-clause-applies c = λ items at rest s.
    let a = c.in-Release in
    rw a.is (done_applied c.args.self.now c.release.new.self items at rest (call.Release a.key a.handle) (OfConnection a.key (Release a.handle)) refl refl c.release.result c.done-in-Release.result c.done-in-Release.ensures (c.release.ensures.answers items at rest s))

pub returns-in-Forget-clause-applies : goal.returns-in-Forget-clause-applies
returns-in-Forget-clause-applies c = λ items at rest s.
    let a = c.in-Forget in
    rw a.is (done_applied c.args.self.now c.forget.new.self items at rest (call.Forget a.key a.n) (OfConnection a.key (Forget a.n)) refl refl c.forget.result c.done-in-Forget.result c.done-in-Forget.ensures (c.forget.ensures.answers items at rest s))

pub returns-in-Mux-clause-applies : goal.returns-in-Mux-clause-applies
returns-in-Mux-clause-applies c = λ items at rest s. rw c.in-Mux.is (c.try_mux_call.ensures.applies items at rest s)

pub returns-in-Outcome-clause-applies : goal.returns-in-Outcome-clause-applies
returns-in-Outcome-clause-applies c = λ items at rest s. rw c.in-Outcome.is (c.tell.ensures.applies items at rest s)
