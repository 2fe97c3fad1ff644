use Rattle.std.proofs.Common.{◌≡◌, ◌++◌, ap, ◌∙◌}
use Rattle.std.proofs.lemmas.Result.{err_from_is_err_and}
use Rattle.wire_base.specs.Shortest.{array_head, unsigned_text}
use Rattle.frame_text.specs.Frames.{code_number, origin_text}
use Rattle.wire_base.proofs.AppendsLemmas.{appends_none, appends_first, appends_second, appends_both}
use Rattle.frame_pack.proofs.writing.push_front.Goals as goal

pub returns-in_err-push_unsigned-clause-err : goal.returns-in_err-push_unsigned-clause-err
returns-in_err-push_unsigned-clause-err c =
    let old = c.args.out.now.items in
    let head = c.push_array_head.new.out.items in
    let new = c.push_unsigned.new.out.items in
    let a = array_head c.args.elements in
    let u = unsigned_text (code_number c.args.frame.now.code) in
    let v = unsigned_text c.args.frame.now.id in
    rw (err_from_is_err_and c.from_residual-in_err-push_unsigned.result c.from_residual-in_err-push_unsigned.ensures.1).1
    (appends_first old new ((a ++ u) ++ v) (origin_text c.args.frame.now.origin) (appends_first old new (a ++ u) v
    (appends_second old head new a u c.in_ok-push_array_head.ensures.ok (appends_none head new u c.in_err-push_unsigned.ensures.err))))

pub returns-in_err-push_unsigned-2-clause-err : goal.returns-in_err-push_unsigned-2-clause-err
returns-in_err-push_unsigned-2-clause-err c =
    let old = c.args.out.now.items in
    let head = c.push_array_head.new.out.items in
    let mid = c.push_unsigned.new.out.items in
    let new = c.push_unsigned-2.new.out.items in
    let a = array_head c.args.elements in
    let u = unsigned_text (code_number c.args.frame.now.code) in
    let v = unsigned_text c.args.frame.now.id in
    let coded : mid ≡ head ++ u = c.in_ok-push_unsigned.ensures.ok ∙ ap (λ n. head ++ unsigned_text n) (c.into.ensures ∙ c.number.ensures) in
    rw (err_from_is_err_and c.from_residual-in_err-push_unsigned-2.result c.from_residual-in_err-push_unsigned-2.ensures.1).1
    (appends_first old new ((a ++ u) ++ v) (origin_text c.args.frame.now.origin)
    (appends_second old mid new (a ++ u) v (appends_both old head mid a u c.in_ok-push_array_head.ensures.ok coded) (appends_none mid new v c.in_err-push_unsigned-2.ensures.err)))

pub returns-in_err-push_origin-clause-err : goal.returns-in_err-push_origin-clause-err
returns-in_err-push_origin-clause-err c =
    let old = c.args.out.now.items in
    let head = c.push_array_head.new.out.items in
    let mid = c.push_unsigned.new.out.items in
    let last = c.push_unsigned-2.new.out.items in
    let new = c.push_origin.new.out.items in
    let a = array_head c.args.elements in
    let u = unsigned_text (code_number c.args.frame.now.code) in
    let v = unsigned_text c.args.frame.now.id in
    let coded : mid ≡ head ++ u = c.in_ok-push_unsigned.ensures.ok ∙ ap (λ n. head ++ unsigned_text n) (c.into.ensures ∙ c.number.ensures) in
    let both = appends_both old head mid a u c.in_ok-push_array_head.ensures.ok coded in
    rw (err_from_is_err_and c.from_residual-in_err-push_origin.result c.from_residual-in_err-push_origin.ensures.1).1
    (appends_second old last new ((a ++ u) ++ v) (origin_text c.args.frame.now.origin) (appends_both old mid last (a ++ u) v both c.in_ok-push_unsigned-2.ensures.ok) c.in_err-push_origin.ensures.err)
