use Rattle.std.proofs.Common.{◌≡◌, rules, Some, None}
use Rattle.std.proofs.lemmas.Result.{err_from_is_err_and, on_err_weaker}
use Rattle.wire_base.specs.declared.frame.Payload.TheVariants as payload
use Rattle.frame_pack.proofs.FrameTexts.{name-cut, name-cut_before_window, window-missing}
use Rattle.frame_pack.proofs.writing.push_payload.Goals as goal

pub returns-in_err-push_str-in-Offer-default-Some-clause-err : goal.returns-in_err-push_str-in-Offer-default-Some-clause-err
returns-in_err-push_str-in-Offer-default-Some-clause-err c =
    let name = c.in-Offer-default-Some.name in
    let window = c.in-Offer-default-Some.window in
    let is : c.args.payload.now ≡ payload.Offer name (Some window) = search rules in
    rw (err_from_is_err_and c.from_residual-in_err-push_str-in-Offer-default-Some.result c.from_residual-in_err-push_str-in-Offer-default-Some.ensures.1).1
    (name-cut_before_window c.args.payload.now name c.args.out.now.items c.push_array_head-in-Offer-default-Some.new.out.items c.push_str-in-Offer-default-Some.new.out.items
    window is c.in_ok-push_array_head-in-Offer-default-Some.ensures.ok c.in_err-push_str-in-Offer-default-Some.ensures.err)

pub returns-in_ok-push_array_head-in-Offer-default-None-clause-err : goal.returns-in_ok-push_array_head-in-Offer-default-None-clause-err
returns-in_ok-push_array_head-in-Offer-default-None-clause-err c =
    let name = c.in-Offer-default-None.name in
    let is : c.args.payload.now ≡ payload.Offer name None = search rules in
    on_err_weaker c.push_str.result
    (name-cut c.args.payload.now name c.args.out.now.items c.push_array_head.new.out.items c.push_str.new.out.items is c.in_ok-push_array_head-in-Offer-default-None.ensures.ok)
    c.push_str.ensures.err

pub returns-in_ok-push_str-in-Offer-default-Some-clause-err : goal.returns-in_ok-push_str-in-Offer-default-Some-clause-err
returns-in_ok-push_str-in-Offer-default-Some-clause-err c =
    let name = c.in-Offer-default-Some.name in
    let window = c.in-Offer-default-Some.window in
    let mid = c.push_str-in-Offer-default-Some.new.out.items in
    let is : c.args.payload.now ≡ payload.Offer name (Some window) = search rules in
    on_err_weaker c.push_unsigned.result
    (window-missing c.args.payload.now name c.args.out.now.items c.push_array_head-in-Offer-default-Some.new.out.items c.push_unsigned.new.out.items
    window mid is c.in_ok-push_array_head-in-Offer-default-Some.ensures.ok c.in_ok-push_str-in-Offer-default-Some.ensures.ok)
    c.push_unsigned.ensures.err
