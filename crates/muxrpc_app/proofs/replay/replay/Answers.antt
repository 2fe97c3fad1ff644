use Rattle.std.proofs.Common.{◌≡◌, ◌∙◌, ap, sym, take}
use Rattle.std.specs.Io.KnownBytes.{append_known}
use Rattle.script.specs.Found.{script_in}
use Rattle.transcript.specs.Report.{report_text}
use Rattle.mux_run.specs.Run.{terms_of}
use Rattle.muxrpc_app.proofs.Scripts.{script_read}
use Rattle.muxrpc_app.proofs.replay.replay.Goals as goal

pub returns-in-Ok-write_output : goal.returns-in-Ok-write_output
returns-in-Ok-write_output g c =
    let s = c.in-Ok-read_script.script in
    let e = c.in-Ok.ensures in
    let text : c.deref-2.result.now ≡ report_text (terms_of s.version s.nonces) s.steps = c.deref-2.ensures.value ∙ c.in-Ok-report_of.ensures.text in
    record {
      outcome = record {
        script = script_read c.in-Ok.bytes.items s e.bytes e.within e.ended e.at_end (ap script_in (sym c.deref.ensures.value) ∙ c.in-Ok-read_script.ensures.exact);
        written = c.in-Ok-write_output.ensures.written ∙ ap (append_known (g.K.Sink.given c.args.output.now)) text;
        flushed = c.in-Ok-write_output.ensures.flushed;
        holds = c.in-Ok-report_of.ensures.holds;
      };
    }

pub returns : goal.returns
returns g c =
    let s = c.in-Ok-read_script.script in
    let e = c.in-Ok.ensures in
    let text : c.deref-2.result.now ≡ report_text (terms_of s.version s.nonces) s.steps = c.deref-2.ensures.value ∙ c.in-Ok-report_of.ensures.text in
    let front = c.in-Err-write_output.ensures.front in
    record {
      outcome = record {
        script = script_read c.in-Ok.bytes.items s e.bytes e.within e.ended e.at_end (ap script_in (sym c.deref.ensures.value) ∙ c.in-Ok-read_script.ensures.exact);
        cause = c.in-Err-write_output.ensures.cause;
        front = (front.0, front.1 ∙ ap (λ bs. append_known (g.K.Sink.given c.args.output.now) (take front.0 bs)) text);
      };
    }
