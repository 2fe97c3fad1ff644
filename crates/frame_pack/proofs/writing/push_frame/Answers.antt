use Rattle.std.proofs.Common.{◌≡◌, ◌+◌, ◌<◌, ◌++◌, length, ap, ◌∙◌, arith}
use Rattle.std.proofs.lemmas.Result.{err_from_is_err_and, on_err_weaker}
use Rattle.wire_base.specs.Shortest.{bin_head}
use Rattle.frame_text.specs.Frames.{payload_text}
use Rattle.wire_base.proofs.AppendsLemmas.{appends_none, appends_first, appends_second, appends_both}
use Rattle.frame_pack.specs.Parts.{front_text}
use Rattle.frame_pack.proofs.FrameTexts.{text-parts, text-full}
use Rattle.frame_pack.proofs.writing.push_frame.Goals as goal

pub returns-in_err-push_front-clause-err : goal.returns-in_err-push_front-clause-err
returns-in_err-push_front-clause-err c =
    let frame = c.args.frame.now in
    let bytes = payload_text frame.payload in
    let n = c.least_elements-elements.result in
    let some : 0 < length bytes = omega (arith, c.payload_len-len.ensures, c.if-len-eq0.false) in
    let is = text-parts c.args.version frame n c.requires.packed c.least_elements-elements.ensures.exact some in
    rw ((err_from_is_err_and c.from_residual.result c.from_residual.ensures.1).1, ← is)
    (appends_first c.args.out.now.items c.push_front-2.new.out.items (front_text (n + 1) frame) (bin_head (length bytes) ++ bytes) c.in_err-push_front.ensures.err)

pub returns-in_err-push_bin_head-clause-err : goal.returns-in_err-push_bin_head-clause-err
returns-in_err-push_bin_head-clause-err c =
    let frame = c.args.frame.now in
    let bytes = payload_text frame.payload in
    let n = c.least_elements-elements.result in
    let mid = c.push_front-2.new.out.items in
    let new = c.push_bin_head.new.out.items in
    let some : 0 < length bytes = omega (arith, c.payload_len-len.ensures, c.if-len-eq0.false) in
    let is = text-parts c.args.version frame n c.requires.packed c.least_elements-elements.ensures.exact some in
    rw ((err_from_is_err_and c.from_residual-in_err-push_bin_head.result c.from_residual-in_err-push_bin_head.ensures.1).1, ← is)
    (appends_second c.args.out.now.items mid new (front_text (n + 1) frame) (bin_head (length bytes) ++ bytes) c.in_ok-push_front.ensures.ok
    (appends_none mid new (bin_head (length bytes) ++ bytes) c.in_err-push_bin_head.ensures.err))

pub returns-clause-err : goal.returns-clause-err
returns-clause-err c =
    let frame = c.args.frame.now in
    let bytes = payload_text frame.payload in
    let n = c.least_elements-elements.result in
    let old = c.args.out.now.items in
    let front = c.push_front-2.new.out.items in
    let head = c.push_bin_head.new.out.items in
    let new = c.push_payload.new.out.items in
    let some : 0 < length bytes = omega (arith, c.payload_len-len.ensures, c.if-len-eq0.false) in
    let is = text-full c.args.version frame n c.requires.packed c.least_elements-elements.ensures.exact some in
    let headed : head ≡ front ++ bin_head (length bytes) = c.in_ok-push_bin_head.ensures.ok ∙ ap (λ k. front ++ bin_head k) c.payload_len-len.ensures in
    rw (← is) (on_err_weaker c.push_payload.result
    (appends_second old head new (front_text (n + 1) frame ++ bin_head (length bytes)) bytes (appends_both old front head (front_text (n + 1) frame) (bin_head (length bytes)) c.in_ok-push_front.ensures.ok headed))
    c.push_payload.ensures.err)
