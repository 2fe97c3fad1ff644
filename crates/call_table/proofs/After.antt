-- What stands after a call, by what the call made of the table.
use Rattle.std.specs.Prelude.{Bool, true, false}
use Rattle.std.proofs.Common.{◌≡◌, ℕ, List, [], ◌∷◌, refl, sym, ◌∙◌, ap, subst, Option, Some, None}
use Rattle.wire_base.specs.Tree.{Tree}
use Rattle.wire_base.specs.declared.state.Cause.{Cause}
use Rattle.wire_base.specs.declared.text.Id.{Id}
use Rattle.rpc_items.specs.declared.calls.Answer.{Answer}
use Rattle.rpc_items.specs.declared.calls.Expect.{Expect}
use Rattle.rpc_items.specs.declared.calls.Outcome.{Outcome}
use Rattle.rpc_items.specs.declared.messages.Message.{Message}
use Rattle.rpc_items.specs.declared.messages.Message.TheVariants.{Request}
use Rattle.rpc_items.specs.declared.messages.Message.TheVariants as message
use Rattle.rpc_items.specs.declared.messages.Params.{Params}
use Rattle.rpc_items.specs.declared.calls.Outcome.TheVariants.{Replied, Failed, Lost, Starved}
use Rattle.rpc_items.specs.Items.{RpcItem, Did, Got, End, Respond, Cancel, TakeReport, Forget, RpcCall}
use Rattle.rpc_items.specs.Drawn.{asked_by}
use Rattle.rpc_items.specs.Outcomes.{is_known}
use Rattle.rpc_items.specs.Meanings.{meaning}
use Rattle.rpc_items.specs.Waiting.{asks}
use Rattle.call_table.specs.Replies.{cancel_refusal, take_refusal}
use Rattle.call_table.specs.Table.{TableValue, begun, settled, settled_in, heard, answered, reported, reported_in, with_cancelled, with_forgotten, with_taken, look_in, over}
use Rattle.call_table.specs.Stands.{TableStands, IsReport, asked_as, response_of}
use Rattle.call_table.proofs.Standing.{begun_stands}
use Rattle.call_table.proofs.Answering.{heard_stands, answered_stands, settled_stands, forgotten_stands, cancelled_stands, reported_stands, taken_stands, lost_stands, starved_stands}

pub lost_after : (old new : TableValue) (items : List RpcItem) (cause : Cause) → new ≡ over Lost old → TableStands false old items → TableStands false new (End cause ∷ items)
lost_after old new items cause e s = subst (λ (t : TableValue). TableStands false t (End cause ∷ items)) (sym e) (lost_stands cause old items s)

pub starved_after : (old new : TableValue) (items : List RpcItem) → new ≡ over Starved old → TableStands false old items → TableStands true new items
starved_after old new items e s = subst (λ (t : TableValue). TableStands true t items) (sym e) (starved_stands old items s)

pub begun_after : (expect : Expect) (progress : Bool) (page : Option ℕ) (call : RpcCall) (old new : TableValue) (items : List RpcItem) → new ≡ begun expect progress old → TableStands false old items → asked_by (Did call) ≡ asked_as expect progress page ∷ [] → TableStands false new (Did call ∷ items)
begun_after expect progress page call old new items e s by = subst (λ (t : TableValue). TableStands false t (Did call ∷ items)) (sym e) (begun_stands (asked_as expect progress page) call old items by s)

pub settled_after : (id : Id) (o : Outcome) (old new : TableValue) (place : ℕ) (said : Message) (items : List RpcItem) → new ≡ settled (settled_in id old) o old → TableStands false old items → response_of id o ≡ Some said → TableStands false new (Got place said ∷ items)
settled_after id o old new place said items e s is = subst (λ (t : TableValue). TableStands false t (Got place said ∷ items)) (sym e) (by o is)
  where
    by : (outcome : Outcome) → response_of id outcome ≡ Some said → TableStands false (settled (settled_in id old) outcome old) (Got place said ∷ items)
    by (Replied value) r = subst (λ (m : Message). TableStands false (settled (settled_in id old) (Replied value) old) (Got place m ∷ items)) (let same : message.Result id value ≡ said = cc r in same) (settled_stands place id (Replied value) (message.Result id value) old items (λ m. refl) (λ n. refl) (λ x. refl) s)
    by (Failed code text more) r = subst (λ (m : Message). TableStands false (settled (settled_in id old) (Failed code text more) old) (Got place m ∷ items)) (let same : message.Error (Some id) code text more ≡ said = cc r in same) (settled_stands place id (Failed code text more) (message.Error (Some id) code text more) old items (λ m. refl) (λ n. refl) (λ x. refl) s)
    by Lost r = absurd (cc r)
    by Starved r = absurd (cc r)

pub heard_after : (id : Id) (old new : TableValue) (place : ℕ) (method : List ℕ) (params : Params) (items : List RpcItem) → new ≡ heard id old → TableStands false old items → asks (meaning method params) items ≡ true → TableStands false new (Got place (Request id method params) ∷ items)
heard_after id old new place method params items e s asked = subst (λ (t : TableValue). TableStands false t (Got place (Request id method params) ∷ items)) (sym e) (heard_stands place id method params old items asked s)

pub answered_after : (id : Id) (answer : Answer) (old new : TableValue) (items : List RpcItem) → new ≡ answered id old → TableStands false old items → TableStands false new (Did (Respond id answer) ∷ items)
answered_after id answer old new items e s = subst (λ (t : TableValue). TableStands false t (Did (Respond id answer) ∷ items)) (sym e) (answered_stands id answer old items s)

pub forgotten_after : (n : ℕ) (old new : TableValue) (items : List RpcItem) → new ≡ with_forgotten n old → is_known (look_in n old) ≡ true → TableStands false old items → TableStands false new (Did (Forget n) ∷ items)
forgotten_after n old new items e known s = subst (λ (t : TableValue). TableStands false t (Did (Forget n) ∷ items)) (sym e) (forgotten_stands n old items known s)

pub cancelled_after : (n : ℕ) (old new : TableValue) (items : List RpcItem) → new ≡ with_cancelled n old → cancel_refusal n old ≡ None → TableStands false old items → TableStands false new (Did (Cancel n) ∷ items)
cancelled_after n old new items e accepted s = subst (λ (t : TableValue). TableStands false t (Did (Cancel n) ∷ items)) (sym e) (cancelled_stands n old items accepted s)

pub taken_after : (n : ℕ) (old new : TableValue) (items : List RpcItem) → new ≡ with_taken n old → take_refusal n old ≡ None → TableStands false old items → TableStands false new (Did (TakeReport n) ∷ items)
taken_after n old new items e accepted s = subst (λ (t : TableValue). TableStands false t (Did (TakeReport n) ∷ items)) (sym e) (taken_stands n old items accepted s)

pub reported_after : (token : Id) (value : Tree) (o : Option ℕ) (old new : TableValue) (place : ℕ) (said : Message) (items : List RpcItem) → reported_in token old ≡ o → new ≡ reported o value old → IsReport token value said items → TableStands false old items → TableStands false new (Got place said ∷ items)
reported_after token value o old new place said items is e reports s =
    subst (λ (t : TableValue). TableStands false t (Got place said ∷ items)) (sym (e ∙ ap (λ (r : Option ℕ). reported r value old) (sym is)))
    (reported_stands token value place said old items reports s)
