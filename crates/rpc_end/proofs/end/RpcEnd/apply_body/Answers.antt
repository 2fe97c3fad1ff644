-- What a body breaks, it breaks within the rest.
use Rattle.std.proofs.Common.{◌≡◌, ◌+◌, ◌≤◌, ℕ, List, Err, arith, take, drop, length, length-drop}
use Rattle.std.proofs.lemmas.List.{length-take-le}
use Rattle.wire_base.specs.declared.reason.Reason.{Reason}
use Rattle.message_body.specs.declared.encoding.Encoding.{Encoding}
use Rattle.message_body.specs.Found.{body_in}
use Rattle.message_body.proofs.Within.{broken_within}
use Rattle.message_framing.specs.declared.framing.Framing.{Framing}
use Rattle.message_framing.specs.declared.front.Front.TheVariants.{Whole}
use Rattle.message_framing.specs.Front.{front}
use Rattle.message_framing.proofs.FrontLemmas.{whole_within}
use Rattle.rpc_end.proofs.end.RpcEnd.apply_body.Goals as goal

offset_within : (f : Framing) (e : Encoding) (b : List ℕ) (start size k : ℕ) (r : Reason) → front f b ≡ Whole start size → body_in e (take size (drop start b)) ≡ Err (k, r) → start + k ≤ length b
offset_within f e b start size k r whole broken =
    let within = whole_within f b start size whole in
    let inside = broken_within e (take size (drop start b)) k r broken in
    let left : size ≤ length (drop start b) = omega (arith, within.1, length-drop start b) in
    omega (arith, within.1, inside, length-take-le size (drop start b) left, length-drop start b)

pub overflow_add-start : goal.overflow_add-start
overflow_add-start c =
    let found : body_in c.args.self.now.terms.encoding (take c.args.size (drop c.args.start c.args.self.now.rest)) ≡ Err (c.in-Err-Refused.offset, c.in-Err-Refused.reason) = rw c.in-Err-Refused.field-0-is at c.in-Err-Refused.ensures.reads in
    let within = offset_within c.args.self.now.terms.framing c.args.self.now.terms.encoding c.args.self.now.rest c.args.start c.args.size c.in-Err-Refused.offset c.in-Err-Refused.reason c.requires.whole found in
    omega (arith, within, c.read_body.ensures.bound)

pub refuse-requires-clause-within : goal.refuse-requires-clause-within
refuse-requires-clause-within c =
    let found : body_in c.args.self.now.terms.encoding (take c.args.size (drop c.args.start c.args.self.now.rest)) ≡ Err (c.in-Err-Refused.offset, c.in-Err-Refused.reason) = rw c.in-Err-Refused.field-0-is at c.in-Err-Refused.ensures.reads in
    offset_within c.args.self.now.terms.framing c.args.self.now.terms.encoding c.args.self.now.rest c.args.start c.args.size c.in-Err-Refused.offset c.in-Err-Refused.reason c.requires.whole found
