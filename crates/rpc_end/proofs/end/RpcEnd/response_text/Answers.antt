-- A response is a message of the code, if its id is one that a value can tell.
use Rattle.std.specs.Prelude.{Option}
use Rattle.std.proofs.Common.{[], ◌∷◌, ◌∙◌, refl, subst, sym}
use Rattle.wire_base.specs.declared.refusal.Refusal.{Refusal}
use Rattle.rpc_items.specs.Fitting.{IsNamed}
use Rattle.rpc_end.specs.Calls.{Prepares, responding_refusal, response_by}
use Rattle.rpc_end.proofs.Texts.{made_text, plain_named, plain_response, plain_unwritten}
use Rattle.rpc_end.proofs.end.RpcEnd.response_text.Goals as goal

pub returns : goal.returns
returns c =
    let self = c.args.self.now in
    let id = c.args.id.now in
    let given = c.args.answer in
    let m = response_by id given self in
    let early = responding_refusal id given self in
    let text = made_text (IsNamed id) c.text_of.result (λ t. t.items) self.terms early c.in-Ok.message m (m ∷ []) (c.in-Ok.ensures ∙ sym (plain_response id given self c.requires)) refl
    c.in_ok-check_answer.ensures (plain_named id given self c.requires) c.text_of.ensures.ok c.text_of.ensures.answer c.text_of.ensures.message in
    record {
      ok = text.ok;
      answer = subst (λ (late : Option Refusal). Prepares early late c.text_of.result) (plain_unwritten id given self c.requires) text.answer;
      said = text.said;
    }
