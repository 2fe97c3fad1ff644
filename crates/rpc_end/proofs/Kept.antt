-- What is kept of requests and of handles stands for the items again after a message.
use Rattle.std.specs.Prelude.{ℕ, List, [], ◌∷◌, Bool, true, false, is_some, if◌then◌else◌, Option, Some, None}
use Rattle.std.proofs.Common.{◌≡◌, refl, sym, ◌∙◌, ap, subst}
use Rattle.wire_base.specs.Tree.{Tree}
use Rattle.wire_base.specs.declared.reason.Reason.TheVariants.{DuplicateRequest}
use Rattle.wire_base.specs.declared.text.Id.{Id}
use Rattle.rpc_items.specs.declared.calls.HandleKey.{HandleKey}
use Rattle.rpc_items.specs.declared.calls.Outcome.{Outcome}
use Rattle.rpc_items.specs.declared.calls.Outcome.TheVariants.{Replied, Failed}
use Rattle.rpc_items.specs.declared.messages.Message.{Message}
use Rattle.rpc_items.specs.declared.messages.Message.TheVariants.{Request, Notification}
use Rattle.rpc_items.specs.declared.messages.Message.TheVariants as message
use Rattle.rpc_items.specs.declared.messages.Params.{Params}
use Rattle.rpc_items.specs.declared.methods.Meaning.{Meaning}
use Rattle.rpc_items.specs.declared.methods.Meaning.TheVariants.{Serves, Reports, Releases}
use Rattle.rpc_items.specs.Items.{RpcItem, Got}
use Rattle.rpc_items.specs.Meanings.{meaning}
use Rattle.rpc_items.specs.Objects.{whole_arguments}
use Rattle.rpc_items.specs.OwnHandles.{is_release, releases}
use Rattle.rpc_items.specs.PeerHandles.{is_service}
use Rattle.rpc_items.specs.Refusals.{message_refusal}
use Rattle.rpc_items.specs.Reports.{report_by}
use Rattle.rpc_items.specs.Waiting.{asks, is_waiting}
use Rattle.rpc_items.proofs.Settling.{IsResponse, named_parts}
use Rattle.call_table.specs.declared.answers.Settled.{Settled}
use Rattle.call_table.specs.Stands.{TableStands}
use Rattle.call_table.specs.Table.{heard, settled, settled_in}
use Rattle.call_table.proofs.After.{heard_after, settled_after}
use Rattle.call_table.proofs.Answering.{reported_stands}
use Rattle.call_table.proofs.Passing.{nameless_error_leaves, notification_leaves, unasked_leaves}
use Rattle.marshalled_handles.specs.Both.{holder_released, owner_released}
use Rattle.marshalled_handles.specs.Holder.{adopting_all}
use Rattle.marshalled_handles.specs.Owner.{answered}
use Rattle.marshalled_handles.specs.Stands.{HolderStands, OwnerStands}
use Rattle.marshalled_handles.proofs.After.{all_adopted_after, answered_after}
use Rattle.marshalled_handles.proofs.Holding.{notification_offers, request_offers, result_offers}
use Rattle.marshalled_handles.proofs.Passing.{error_leaves_holder, nameless_error_leaves_owner, notification_leaves_holder, notification_leaves_owner, request_leaves_owner, stray_leaves_holder, stray_leaves_owner, unasked_leaves_holder}
use Rattle.marshalled_handles.proofs.Sides.{holder_released_after, owner_released_after}
use Rattle.rpc_end.specs.Heeding.{adopted_by, answered_by, extended_by, holder_by, holder_released_by, owner_by, owner_released_by, table_by, told_by}
use Rattle.rpc_end.specs.Stands.{RpcStands, RpcValue}
use Rattle.rpc_end.proofs.Heeded.{asks_is}
use Rattle.rpc_end.proofs.Settling.{answers_it, by_response}

module _ (end : RpcValue) (items : List RpcItem) (at : ℕ) (rest : List ℕ) (s : RpcStands end items at rest) (place : ℕ) where
  -- requests

  request_waits : (id : Id) (m : Meaning) (method : List ℕ) (params : Params) (asked : Bool) → meaning method params ≡ m → asks m items ≡ asked → is_waiting id items ≡ false
      → TableStands false (if asked then heard id end.table else extended_by m end.table) (Got place (Request id method params) ∷ items)
  request_waits id m method params true is e free = heard_after id end.table (heard id end.table) place method params items refl s.table (ap (λ (m : Meaning). asks m items) is ∙ e)
  request_waits id (Reports token value) method params false is e free = reported_stands token value place (Request id method params) end.table items (is, free) s.table
  request_waits id m method params false is e free = unasked_leaves false end.table place id method params items (ap (λ (m : Meaning). asks m items) is ∙ e) (λ n. ap (report_by n) is) free s.table

  notification_passes : (m : Meaning) (method : List ℕ) (params : Params) → meaning method params ≡ m → TableStands false (extended_by m end.table) (Got place (Notification method params) ∷ items)
  notification_passes (Reports token value) method params is = reported_stands token value place (Notification method params) end.table items is s.table
  notification_passes m method params is = notification_leaves false end.table place method params items (λ n. ap (report_by n) is) s.table

  unduplicated : (b : Bool) → (if b then Some DuplicateRequest else None) ≡ None → b ≡ false
  unduplicated true e = absurd (cc e)
  unduplicated false e = refl

  pub table_stands : (m : Message) → message_refusal m items ≡ None → TableStands false (table_by m end) (Got place m ∷ items)
  table_stands (Request id method params) ok =
      let m = meaning method params in
      subst (λ (asked : Bool). TableStands false (if asked then heard id end.table else extended_by m end.table) (Got place (Request id method params) ∷ items)) (sym (asks_is end items at rest s m))
      (request_waits id m method params (asks m items) refl refl (unduplicated (is_waiting id items) ok))
  table_stands (Notification method params) ok = notification_passes (meaning method params) method params refl
  table_stands (message.Result id value) ok = settled_after id (Replied value) end.table (settled (settled_in id end.table) (Replied value) end.table) place (message.Result id value) items refl s.table refl
  table_stands (message.Error (Some id) code text more) ok = settled_after id (Failed code text more) end.table (settled (settled_in id end.table) (Failed code text more) end.table) place (message.Error (Some id) code text more) items refl s.table refl
  table_stands (message.Error None code text more) ok = nameless_error_leaves false end.table place code text more items s.table

  -- own handles

  request_releases : (id : Id) (m : Meaning) (method : List ℕ) (params : Params) → meaning method params ≡ m → OwnerStands (owner_released_by m end.owner) (Got place (Request id method params) ∷ items)
  request_releases id (Releases key) method params is = owner_released_after key place (Request id method params) end.owner (owner_released key end.owner) items refl is s.owner
  request_releases id m method params is = request_leaves_owner end.owner place id method params items (λ key. ap (is_release key) is) s.owner

  notification_releases : (m : Meaning) (method : List ℕ) (params : Params) → meaning method params ≡ m → OwnerStands (owner_released_by m end.owner) (Got place (Notification method params) ∷ items)
  notification_releases (Releases key) method params is = owner_released_after key place (Notification method params) end.owner (owner_released key end.owner) items refl is s.owner
  notification_releases m method params is = notification_leaves_owner end.owner place method params items (λ key. ap (is_release key) is) s.owner

  response_answers : (id : Id) (o : Outcome) (m : Message) → IsResponse id o m → ((key : HandleKey) → releases key m ≡ false) → OwnerStands (answered_by (settled_in id end.table) end.owner) (Got place m ∷ items)
  response_answers id o m is keeps =
      by_response end.table items s.table id (λ (x : Settled). OwnerStands (answered_by x end.owner) (Got place m ∷ items))
      (λ n asked named e. answered_after n place m o end.owner (answered n end.owner) items refl (is n ∙ answers_it id n o (named_parts id items n named).1) s.owner)
      (λ stray. stray_leaves_owner end.owner place id o m items is keeps stray s.owner)

  pub owner_stands : (m : Message) → OwnerStands (owner_by m end) (Got place m ∷ items)
  owner_stands (Request id method params) = request_releases id (meaning method params) method params refl
  owner_stands (Notification method params) = notification_releases (meaning method params) method params refl
  owner_stands (message.Result id value) = response_answers id (Replied value) (message.Result id value) (λ n. refl) (λ key. refl)
  owner_stands (message.Error (Some id) code text more) = response_answers id (Failed code text more) (message.Error (Some id) code text more) (λ n. refl) (λ key. refl)
  owner_stands (message.Error None code text more) = nameless_error_leaves_owner end.owner place code text more items s.owner

  -- handles of the peer

  request_adopts : (id : Id) (m : Meaning) (method : List ℕ) (params : Params) (asked : Bool) → meaning method params ≡ m → asks m items ≡ asked
      → HolderStands (if asked then adopting_all (Some id) (whole_arguments params) end.holder else holder_released_by m end.holder) (Got place (Request id method params) ∷ items)
  request_adopts id m method params true is e =
      all_adopted_after (Some id) (whole_arguments params) place (Request id method params) end.holder (adopting_all (Some id) (whole_arguments params) end.holder) items refl
      (request_offers id method params items (ap (λ (m : Meaning). asks m items) is ∙ e)) s.holder
  request_adopts id (Releases key) method params false is e = holder_released_after key place (Request id method params) end.holder (holder_released key end.holder) items refl is s.holder
  request_adopts id m method params false is e = unasked_leaves_holder end.holder place id method params items (ap (λ (m : Meaning). asks m items) is ∙ e) (λ key. ap (is_release key) is) s.holder

  notification_adopts : (m : Meaning) (method : List ℕ) (params : Params) → meaning method params ≡ m → HolderStands (told_by m params end.holder) (Got place (Notification method params) ∷ items)
  notification_adopts Serves method params is =
      all_adopted_after None (whole_arguments params) place (Notification method params) end.holder (adopting_all None (whole_arguments params) end.holder) items refl
      (notification_offers method params items (ap is_service is)) s.holder
  notification_adopts (Releases key) method params is = holder_released_after key place (Notification method params) end.holder (holder_released key end.holder) items refl is s.holder
  notification_adopts m method params is = notification_leaves_holder end.holder place method params items (ap is_service is) (λ key. ap (is_release key) is) s.holder

  result_adopts : (id : Id) (value : Tree) → HolderStands (adopted_by (settled_in id end.table) value end.holder) (Got place (message.Result id value) ∷ items)
  result_adopts id value =
      by_response end.table items s.table id (λ (x : Settled). HolderStands (adopted_by x value end.holder) (Got place (message.Result id value) ∷ items))
      (λ n asked named e.
      all_adopted_after None (value ∷ []) place (message.Result id value) end.holder (adopting_all None (value ∷ []) end.holder) items refl
      (result_offers id value items (ap (λ (o : Option ℕ). is_some o) named)) s.holder)
      (λ stray. stray_leaves_holder end.holder place id value items stray s.holder)

  pub holder_stands : (m : Message) → HolderStands (holder_by m end) (Got place m ∷ items)
  holder_stands (Request id method params) =
      let m = meaning method params in
      subst (λ (asked : Bool). HolderStands (if asked then adopting_all (Some id) (whole_arguments params) end.holder else holder_released_by m end.holder) (Got place (Request id method params) ∷ items)) (sym (asks_is end items at rest s m))
      (request_adopts id m method params (asks m items) refl refl)
  holder_stands (Notification method params) = notification_adopts (meaning method params) method params refl
  holder_stands (message.Result id value) = result_adopts id value
  holder_stands (message.Error id code text more) = error_leaves_holder end.holder place id code text more items s.holder
