-- Each page of what is kept can be written.
use Rattle.std.specs.Prelude.{ℕ, List, Result, Ok, Err, None, OnOk, ◌==◌, false, is_err, length, drop}
use Rattle.std.proofs.Common.{◌≡◌, ◌∙◌, sym, subst}
use Rattle.wire_base.specs.Tree.{Tree}
use Rattle.enumerables.specs.declared.sequence.Sequence.{Sequence}
use Rattle.enumerables.specs.Producer.{with_sequence}
use Rattle.message_body.specs.Written.{encoder}
use Rattle.message_framing.specs.Unread.{Unread}
use Rattle.rpc_items.specs.Pages.{page_values}
use Rattle.sequence_limits.specs.Fitting.{PagesFit}
use Rattle.sequence_limits.specs.Limits.{pages_refusal, values_refusal}
use Rattle.sequence_limits.proofs.Kept.{kept_fit}
use Rattle.rpc_end.specs.declared.terms.Terms.{Terms}
use Rattle.rpc_end.specs.Sound.{IsSound}
use Rattle.rpc_end.specs.Stands.{RpcValue}
use Rattle.rpc_end.proofs.end.RpcEnd.reply_in_pages.Goals as goal

no_error : {A E : Type 0} (P : Type 0) (made : Result A E) → is_err made ≡ false → OnOk made P → P
no_error P (Ok x) e p = p
no_error P (Err x) e p = absurd (cc e)

kept_sound : (terms : Terms) (old new : List Sequence) (reader : Unread) (values : List Tree) (page first : ℕ) → (page == 0) ≡ false → values_refusal (encoder terms.encoding) values ≡ None
    → pages_refusal (encoder terms.encoding) (page_values (length values) page (drop first values)) ≡ None → new ≡ with_sequence values page first old → IsSound terms old reader → IsSound terms new reader
kept_sound terms old new reader values page first some fine pages is sound = record {
  framing = sound.framing;
  fed_all = sound.fed_all;
  fed_within = sound.fed_within;
  pages = subst (λ (sequences : List Sequence). PagesFit (encoder terms.encoding) sequences) (sym is) (kept_fit (encoder terms.encoding) values page first old some fine pages sound.pages);
}

pub invariant_of-self-2 : goal.invariant_of-self-2
invariant_of-self-2 c =
    let values = c.args.values in
    let page = c.args.page in
    let first = c.args.first in
    kept_sound c.self.inside.terms c.self.inside.producer c.produce.new.self c.self.inside.reader values page first c.requires.page
    (subst (λ (e : RpcValue). values_refusal (encoder e.terms.encoding) values ≡ None) (sym c.self.view_is) c.requires.values)
    (subst (λ (e : RpcValue). pages_refusal (encoder e.terms.encoding) (page_values (length values) page (drop first values)) ≡ None) (sym c.self.view_is) c.requires.pages)
    (no_error (c.produce.new.self ≡ with_sequence values page first c.self.inside.producer) c.produce.result (sym c.is_err.ensures.value ∙ c.if-is_err.false) c.produce.ensures.ok) c.self.invariant
