use Rattle.std.proofs.Common.{◌≡◌, ◌∙◌, ap, sym, take}
use Rattle.std.specs.Io.KnownBytes.{append_known}
use Rattle.stream_view.specs.Answers.{refusal_of}
use Rattle.stream_view.specs.View.{view_text, view_refusal}
use Rattle.muxrpc_app.proofs.Captures.{view_done}
use Rattle.muxrpc_app.proofs.view.view.Goals as goal

pub returns-in-Ok-write_output : goal.returns-in-Ok-write_output
returns-in-Ok-write_output g c =
    let v = c.args.version in
    let e = c.in-Ok.ensures in
    let told = c.in-Ok-view_of.ensures in
    let text : c.deref-2.result.now ≡ view_text v c.in-Ok.bytes.items = c.deref-2.ensures.value ∙ (told.text ∙ ap (view_text v) c.deref.ensures.value) in
    record {
      outcome = view_done v _ _ _ _ (refusal_of c.in-Ok-view_of.view.1) c.view_status.result c.view_status.ensures (record {
        capture = record { bytes = c.in-Ok.bytes.items; was_read = e.bytes; within = e.within; ended = e.ended; at_end = e.at_end };
        written = c.in-Ok-write_output.ensures.written ∙ ap (append_known (g.K.Sink.given c.args.output.now)) text;
        flushed = c.in-Ok-write_output.ensures.flushed;
        refusal = sym (told.refusal ∙ ap (view_refusal v) c.deref.ensures.value);
      });
    }

pub returns : goal.returns
returns g c =
    let v = c.args.version in
    let e = c.in-Ok.ensures in
    let text : c.deref-2.result.now ≡ view_text v c.in-Ok.bytes.items = c.deref-2.ensures.value ∙ (c.in-Ok-view_of.ensures.text ∙ ap (view_text v) c.deref.ensures.value) in
    let front = c.in-Err-write_output.ensures.front in
    record {
      outcome = record {
        capture = record { bytes = c.in-Ok.bytes.items; was_read = e.bytes; within = e.within; ended = e.ended; at_end = e.at_end };
        cause = c.in-Err-write_output.ensures.cause;
        front = (front.0, front.1 ∙ ap (λ bs. append_known (g.K.Sink.given c.args.output.now) (take front.0 bs)) text);
      };
    }
