-- The request's method is the one that is made of the handle.
use Rattle.std.specs.Prelude.{IfOk, None, OnOk}
use Rattle.std.proofs.Common.{◌≡◌, ℕ, List, subst}
use Rattle.message_body.specs.AsRead.{AreMessages}
use Rattle.message_body.specs.Written.{encoder}
use Rattle.rpc_items.specs.Bodies.{first_refusal}
use Rattle.rpc_items.specs.Methods.{proxy_method}
use Rattle.rpc_end.specs.Calls.{Prepares, invoking_refusal, next_request}
use Rattle.rpc_end.specs.Texts.{message_texts}
use Rattle.rpc_end.proofs.Texts.{prepared_after}
use Rattle.rpc_end.proofs.end.RpcEnd.invocation_text.Goals as goal

pub returns : goal.returns
returns c =
    let self = c.args.self.now in
    let args = c.args.args.now in
    let name = proxy_method c.args.handle c.args.method.now in
    let given = c.numbered_text.result in
    record {
      ok = subst (λ (m : List ℕ). IfOk given (λ text. text.items ≡ message_texts self.terms (next_request m args self))) c.in-Ok.ensures c.numbered_text.ensures.ok;
      answer = prepared_after (invoking_refusal c.args.handle args self) (first_refusal (encoder self.terms.encoding) (next_request name args self)) given c.in_ok-number.ensures.answer
          (subst (λ (m : List ℕ). Prepares None (first_refusal (encoder self.terms.encoding) (next_request m args self)) given) c.in-Ok.ensures c.numbered_text.ensures.answer);
      said = subst (λ (m : List ℕ). OnOk given (AreMessages (next_request m args self))) c.in-Ok.ensures c.numbered_text.ensures.said;
    }
