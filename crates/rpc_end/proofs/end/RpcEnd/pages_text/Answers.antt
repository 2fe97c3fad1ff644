-- A sequence is refused for its values first, then for its response, then for its later pages.
use Rattle.std.specs.Prelude.{List, Option, Err, ◌==◌, false, length, drop}
use Rattle.std.proofs.Common.{◌≡◌, ◌∙◌, ℕ, ap, subst, sym}
use Rattle.std.proofs.lemmas.Result.{err_from_is_err_and}
use Rattle.wire_base.specs.Tree.{Tree}
use Rattle.wire_base.specs.declared.refusal.Refusal.{Refusal}
use Rattle.wire_base.specs.declared.text.Id.{Id}
use Rattle.wire_base.specs.Options.{or_else}
use Rattle.message_body.specs.Replies.{Writes}
use Rattle.message_body.specs.Written.{encoder}
use Rattle.rpc_items.specs.declared.calls.Answer.TheVariants as answer
use Rattle.rpc_items.specs.Bodies.{body_refusal}
use Rattle.rpc_items.specs.Pages.{page_values}
use Rattle.rpc_items.specs.Writing.{message_value}
use Rattle.sequence_limits.specs.Limits.{pages_refusal, values_refusal}
use Rattle.rpc_end.specs.declared.terms.Terms.{Terms}
use Rattle.rpc_end.specs.Calls.{responding_refusal, response_by, unwritten}
use Rattle.rpc_end.specs.Stands.{RpcValue}
use Rattle.rpc_end.proofs.Texts.{passed, refused_last, refused_so, refused_then, unwritten_in_order}
use Rattle.rpc_end.proofs.end.RpcEnd.pages_text.Goals as goal

abbrev early : RpcValue → Id → List Tree → (page first : ℕ) → Option Refusal
early self id values page first = responding_refusal id (answer.Sequence values page first) self

abbrev late : RpcValue → Id → List Tree → (page first : ℕ) → Option Refusal
late self id values page first = unwritten id (answer.Sequence values page first) self

abbrev by_values : RpcValue → List Tree → Option Refusal
by_values self values = values_refusal (encoder self.terms.encoding) values

abbrev by_response : RpcValue → Id → List Tree → (page first : ℕ) → Option Refusal
by_response self id values page first = body_refusal (encoder self.terms.encoding) (message_value (response_by id (answer.Sequence values page first) self))

abbrev by_pages : RpcValue → List Tree → (page first : ℕ) → Option Refusal
by_pages self values page first = pages_refusal (encoder self.terms.encoding) (page_values (length values) page (drop first values))

-- the values are those that are passed on, and the end's terms are those of its fields
values_so : (inside : Terms) (given : List Tree) (self : RpcValue) (values : List Tree) → inside ≡ self.terms → given ≡ values → values_refusal (encoder inside.encoding) given ≡ by_values self values
values_so inside given self values terms same = λ i. values_refusal (encoder (terms i).encoding) (same i)

pages_so : (inside : Terms) (given : List Tree) (self : RpcValue) (values : List Tree) (page first : ℕ) → inside ≡ self.terms → given ≡ values → pages_refusal (encoder inside.encoding) (page_values (length given) page (drop first given)) ≡ by_pages self values page first
pages_so inside given self values page first terms same = λ i. pages_refusal (encoder (terms i).encoding) (page_values (length (same i)) page (drop first (same i)))

order : (self : RpcValue) (id : Id) (values : List Tree) (page first : ℕ) → (page == 0) ≡ false → late self id values page first ≡ or_else (by_values self values) (or_else (by_response self id values page first) (by_pages self values page first))
order self id values page first some = unwritten_in_order id values page first self some

pub returns-in-Err-clause-answer : goal.returns-in-Err-clause-answer
returns-in-Err-clause-answer c =
    let self = c.args.self.now in
    let id = c.args.id.now in
    let values = c.args.values.now in
    let page = c.args.page in
    let first = c.args.first in
    let by = values_so c.self.inside.terms c.as_slice.result.now self values (ap (λ (e : RpcValue). e.terms) c.self.view_is) c.as_slice.ensures in
    refused_so (early self id values page first) (late self id values page first) (by_values self values) (or_else (by_response self id values page first) (by_pages self values page first)) c.in-Err.refusal
    c.in_ok-check_sequence_answer.ensures.answer (order self id values page first c.in_ok-check_sequence_answer.ensures.page) (sym by ∙ c.in-Err.ensures)

pub returns-in_err-text-clause-answer : goal.returns-in_err-text-clause-answer
returns-in_err-text-clause-answer c =
    let self = c.args.self.now in
    let id = c.args.id.now in
    let values = c.args.values.now in
    let page = c.args.page in
    let first = c.args.first in
    let by = values_so c.self.inside.terms c.as_slice.result.now self values (ap (λ (e : RpcValue). e.terms) c.self.view_is) c.as_slice.ensures in
    let p = err_from_is_err_and c.from_residual-in_err-text.result c.from_residual-in_err-text.ensures.1 in
    rw (p.1, p.2)
    (refused_then (early self id values page first) (late self id values page first) (by_values self values) (by_response self id values page first) (by_pages self values page first) c.in_err-text.field-0.0
    c.in_ok-check_sequence_answer.ensures.answer (order self id values page first c.in_ok-check_sequence_answer.ensures.page) (sym by ∙ c.in_default.ensures) c.in_err-text.ensures.answer)

pub returns-in_err-check_pages-clause-answer : goal.returns-in_err-check_pages-clause-answer
returns-in_err-check_pages-clause-answer c =
    let self = c.args.self.now in
    let id = c.args.id.now in
    let values = c.args.values.now in
    let page = c.args.page in
    let first = c.args.first in
    let terms = ap (λ (e : RpcValue). e.terms) c.self.view_is in
    let by = values_so c.self.inside.terms c.as_slice.result.now self values terms c.as_slice.ensures in
    let by_page = pages_so c.self.inside.terms c.as_slice-2.result.now self values page first terms c.as_slice-2.ensures in
    let p = err_from_is_err_and c.from_residual-in_err-check_pages.result c.from_residual-in_err-check_pages.ensures.1 in
    rw (p.1, p.2)
    (refused_last (early self id values page first) (late self id values page first) (by_values self values) (by_response self id values page first) (by_pages self values page first) c.in_err-check_pages.field-0.0
    c.in_ok-check_sequence_answer.ensures.answer (order self id values page first c.in_ok-check_sequence_answer.ensures.page) (sym by ∙ c.in_default.ensures) c.in_ok-text.ensures.answer
    (subst (λ (o : Option Refusal). Writes {A = Unit {0}} o (Err c.in_err-check_pages.field-0.0)) by_page c.in_err-check_pages.ensures))

pub returns-clause-answer : goal.returns-clause-answer
returns-clause-answer c =
    let self = c.args.self.now in
    let id = c.args.id.now in
    let values = c.args.values.now in
    let page = c.args.page in
    let first = c.args.first in
    let terms = ap (λ (e : RpcValue). e.terms) c.self.view_is in
    let by = values_so c.self.inside.terms c.as_slice.result.now self values terms c.as_slice.ensures in
    let by_page = pages_so c.self.inside.terms c.as_slice-2.result.now self values page first terms c.as_slice-2.ensures in (
      c.in_ok-check_sequence_answer.ensures.answer,
      passed (late self id values page first) (by_values self values) (by_response self id values page first) (by_pages self values page first) (order self id values page first c.in_ok-check_sequence_answer.ensures.page)
          (sym by ∙ c.in_default.ensures) c.in_ok-text.ensures.answer (sym by_page ∙ c.in_ok-check_pages.ensures),
    )
