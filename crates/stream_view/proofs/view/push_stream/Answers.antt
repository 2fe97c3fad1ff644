use Rattle.std.proofs.Common.{◌≤◌, ◌∙◌, ℕ, List, length, ap, subst, ◌++◌}
use Rattle.std.proofs.lemmas.List.{take_rest}
use Rattle.stream_view.specs.Lines.{rest_line}
use Rattle.stream_view.proofs.Told.{front_told, told_next, told_short, told_broken, stream_cut}
use Rattle.stream_view.proofs.view.push_stream.Goals as goal

pub frames-preserved : goal.frames-preserved
frames-preserved c =
    let inv = c.frames.invariant in
    let rest = take_rest c.args.bytes.now c.frames.at in
    record {
      codec = inv.codec;
      told = told_next c.args.version c.args.size c.args.bytes.now c.args.out.now.items c.frames.out.items c.push_frame.new.out.items c.frames.at c.in-Got.size c.in-Got.frame inv.told
          (front_told _ _ c.args.bytes.now _ c.frames.at _ inv.codec rest c.in-Got.ensures.0) c.in-Got.ensures.1 (subst (λ (bs : List ℕ). c.in-Got.size ≤ length bs) rest c.in-Got.ensures.2) c.in_ok-push_frame-in-Got.ensures.ok;
    }

pub returns-in_err-push_frame-in-Got-clause-cut : goal.returns-in_err-push_frame-in-Got-clause-cut
returns-in_err-push_frame-in-Got-clause-cut c =
    stream_cut c.from_residual.result c.args.version c.args.size c.args.bytes.now c.args.out.now.items c.frames.out.items c.push_frame.new.out.items c.frames.at c.frames.invariant.told c.in_err-push_frame-in-Got.ensures.err

pub returns-in_err-push_rest-in-Short-clause-cut : goal.returns-in_err-push_rest-in-Short-clause-cut
returns-in_err-push_rest-in-Short-clause-cut c =
    stream_cut c.from_residual-in_err-push_rest-in-Short.result c.args.version c.args.size c.args.bytes.now c.args.out.now.items c.frames.out.items c.push_rest.new.out.items c.frames.at c.frames.invariant.told c.in_err-push_rest-in-Short.ensures.err

pub returns-in-Short-clause-text : goal.returns-in-Short-clause-text
returns-in-Short-clause-text c =
    let rest = take_rest c.args.bytes.now c.frames.at in
    (told_short c.args.version c.args.size c.args.bytes.now c.args.out.now.items c.frames.out.items c.push_rest.new.out.items c.frames.at c.frames.invariant.told
    (front_told _ _ c.args.bytes.now _ c.frames.at _ c.frames.invariant.codec rest c.in-Short.ensures)
    (c.in_ok-push_rest-in-Short.ensures.ok ∙ ap (λ (bs : List ℕ). c.frames.out.items ++ rest_line c.frames.at (length bs)) rest)).text

pub returns-in-Short-clause-refusal : goal.returns-in-Short-clause-refusal
returns-in-Short-clause-refusal c =
    let rest = take_rest c.args.bytes.now c.frames.at in
    (told_short c.args.version c.args.size c.args.bytes.now c.args.out.now.items c.frames.out.items c.push_rest.new.out.items c.frames.at c.frames.invariant.told
    (front_told _ _ c.args.bytes.now _ c.frames.at _ c.frames.invariant.codec rest c.in-Short.ensures)
    (c.in_ok-push_rest-in-Short.ensures.ok ∙ ap (λ (bs : List ℕ). c.frames.out.items ++ rest_line c.frames.at (length bs)) rest)).refusal

pub returns-in_err-push_refused-in-Refused-clause-cut : goal.returns-in_err-push_refused-in-Refused-clause-cut
returns-in_err-push_refused-in-Refused-clause-cut c =
    stream_cut c.from_residual-in_err-push_refused-in-Refused.result c.args.version c.args.size c.args.bytes.now c.args.out.now.items c.frames.out.items c.push_refused.new.out.items c.frames.at c.frames.invariant.told c.in_err-push_refused-in-Refused.ensures.err

pub returns-in-Refused-clause-text : goal.returns-in-Refused-clause-text
returns-in-Refused-clause-text c =
    let b = c.in-Refused.ensures in
    (told_broken c.args.version c.args.size c.args.bytes.now c.args.out.now.items c.frames.out.items c.push_refused.new.out.items c.frames.at b.offset c.in-Refused.place.0 c.in-Refused.reason c.frames.invariant.told
    (front_told _ _ c.args.bytes.now _ c.frames.at _ c.frames.invariant.codec (take_rest c.args.bytes.now c.frames.at) b.broken) b.place_is c.in_ok-push_refused-in-Refused.ensures.ok).text

pub returns-in-Refused-clause-refusal : goal.returns-in-Refused-clause-refusal
returns-in-Refused-clause-refusal c =
    let b = c.in-Refused.ensures in
    (told_broken c.args.version c.args.size c.args.bytes.now c.args.out.now.items c.frames.out.items c.push_refused.new.out.items c.frames.at b.offset c.in-Refused.place.0 c.in-Refused.reason c.frames.invariant.told
    (front_told _ _ c.args.bytes.now _ c.frames.at _ c.frames.invariant.codec (take_rest c.args.bytes.now c.frames.at) b.broken) b.place_is c.in_ok-push_refused-in-Refused.ensures.ok).refusal
