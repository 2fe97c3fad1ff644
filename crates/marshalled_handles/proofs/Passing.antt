-- Items that leave what is kept of handles as it is.
use Rattle.std.specs.Prelude.{Bool, true, false, ◌||◌, is_some, if◌then◌else◌, pos, negsuc, ℤ, Option}
use Rattle.std.proofs.Common.{◌≡◌, ℕ, ◌+◌, List, [], ◌∷◌, refl, sym, ◌∙◌, ap, ap₂, subst, Some, None}
use Rattle.wire_base.specs.Tree.{Tree}
use Rattle.wire_base.specs.declared.text.Id.{Id}
use Rattle.wire_base.specs.declared.text.Id.TheVariants.{Number, Name}
use Rattle.rpc_items.specs.declared.calls.HandleKey.{HandleKey}
use Rattle.rpc_items.specs.declared.calls.Outcome.{Outcome}
use Rattle.rpc_items.specs.declared.messages.Message.{Message}
use Rattle.rpc_items.specs.declared.messages.Message.TheVariants.{Request, Notification}
use Rattle.rpc_items.specs.declared.messages.Message.TheVariants as message
use Rattle.rpc_items.specs.declared.messages.Params.{Params}
use Rattle.rpc_items.specs.Drawn.{drawn}
use Rattle.rpc_items.specs.Ids.{numbered_id, same_id}
use Rattle.rpc_items.specs.Items.{RpcCall, RpcItem, Did, Got, Respond, Release}
use Rattle.rpc_items.specs.Keys.{own_key, peer_key}
use Rattle.rpc_items.specs.Made.{made_by}
use Rattle.rpc_items.specs.Meanings.{meaning}
use Rattle.rpc_items.specs.Objects.{offered_in, whole_arguments}
use Rattle.rpc_items.specs.Outcomes.{is_unanswered, request_named, response_in}
use Rattle.rpc_items.specs.OwnHandles.{is_release, releases}
use Rattle.rpc_items.specs.PeerHandles.{adopted_by, adopted_in, adoption, ends_peer, is_service}
use Rattle.rpc_items.specs.Waiting.{asks}
use Rattle.rpc_items.proofs.Settling.{IsResponse}
use Rattle.rpc_items.proofs.SameIds.{same_id_refl}
use Rattle.marshalled_handles.specs.declared.own_handle.OwnHandle.{OwnHandle}
use Rattle.marshalled_handles.specs.declared.peer_handle.PeerHandle.{PeerHandle}
use Rattle.marshalled_handles.specs.Stands.{HolderStands, IsRelease, OwnerStands}
use Rattle.marshalled_handles.proofs.Holding.{all_hold, release_adopts}
use Rattle.marshalled_handles.proofs.Holding as holding
use Rattle.marshalled_handles.proofs.Owned.{message_waits, no_carrier, not_waiting, own_is_not_peer, peer_is_not_own, release_answers, release_releases}
use Rattle.marshalled_handles.proofs.Owning.{answered_stands, is_release_call}
use Rattle.marshalled_handles.proofs.Owning as owning

-- own handles

-- a call that makes no handle and releases none
pub call_leaves_owner : (handles : List OwnHandle) (call : RpcCall) (items : List RpcItem) → made_by (drawn items + 1) (Did call) ≡ [] → is_release_call call ≡ false → OwnerStands handles items → OwnerStands handles (Did call ∷ items)
call_leaves_owner handles call items none keeps s = owning.passed handles (Did call) items none (owning.call_ends_none call keeps) (λ n. not_waiting n call items) s

-- a release of a handle of the peer
pub let_go_leaves_owner : (number : ℕ) (handles : List OwnHandle) (items : List RpcItem) → OwnerStands handles items → OwnerStands handles (Did (Release (peer_key number)) ∷ items)
let_go_leaves_owner number handles items s = owning.passed handles (Did (Release (peer_key number))) items refl (λ k until. peer_is_not_own number k) (λ n. not_waiting n (Release (peer_key number)) items) s

-- a message that neither releases an own handle nor answers a request
pub message_leaves_owner : (handles : List OwnHandle) (place : ℕ) (m : Message) (items : List RpcItem) → ((number : ℕ) → releases (own_key number) m ≡ false) → ((n : ℕ) → response_in n m ≡ None) → OwnerStands handles items → OwnerStands handles (Got place m ∷ items)
message_leaves_owner handles place m items keeps none s =
    owning.passed handles (Got place m) items refl (λ number until. ap₂ (λ (a b : Bool). a || b) (keeps number) (no_carrier until m none)) (λ n e. sym (message_waits n place m items (none n)) ∙ e) s

-- a message that releases a handle of the peer
pub release_leaves_owner : (number place : ℕ) (m : Message) (handles : List OwnHandle) (items : List RpcItem) → IsRelease (peer_key number) m → OwnerStands handles items → OwnerStands handles (Got place m ∷ items)
release_leaves_owner number place m handles items is s =
    message_leaves_owner handles place m items (λ k. release_releases (peer_key number) (own_key k) m is ∙ peer_is_not_own number k) (release_answers (peer_key number) m is) s

-- a request or a notification that releases nothing

pub request_leaves_owner : (handles : List OwnHandle) (place : ℕ) (id : Id) (method : List ℕ) (params : Params) (items : List RpcItem) → ((key : HandleKey) → is_release key (meaning method params) ≡ false) → OwnerStands handles items → OwnerStands handles (Got place (Request id method params) ∷ items)
request_leaves_owner handles place id method params items keeps s = message_leaves_owner handles place (Request id method params) items (λ number. keeps (own_key number)) (λ n. refl) s

pub notification_leaves_owner : (handles : List OwnHandle) (place : ℕ) (method : List ℕ) (params : Params) (items : List RpcItem) → ((key : HandleKey) → is_release key (meaning method params) ≡ false) → OwnerStands handles items → OwnerStands handles (Got place (Notification method params) ∷ items)
notification_leaves_owner handles place method params items keeps s = message_leaves_owner handles place (Notification method params) items (λ number. keeps (own_key number)) (λ n. refl) s

-- a response whose id names no unanswered request

if_not : {A : Type 0} (b : Bool) (n : A) → (if b then Some n else None) ≡ None → b ≡ false
if_not true n e = absurd (cc e)
if_not false n e = refl

response_releases : (id : Id) (o : Outcome) (m : Message) → IsResponse id o m → (k : ℕ) → same_id id (numbered_id k) ≡ true → response_in k m ≡ Some o
response_releases id o m is k e = is k ∙ ap (λ (b : Bool). if b then Some o else None) e

pub stray_leaves_owner : (handles : List OwnHandle) (place : ℕ) (id : Id) (o : Outcome) (m : Message) (items : List RpcItem) → IsResponse id o m → ((key : HandleKey) → releases key m ≡ false) → request_named id items ≡ None → OwnerStands handles items → OwnerStands handles (Got place m ∷ items)
stray_leaves_owner handles place (Number (pos k)) o m items is keeps stray s =
    subst (λ (hs : List OwnHandle). OwnerStands hs (Got place m ∷ items)) (s.late k (if_not (is_unanswered k items) k stray))
    (answered_stands k place m o handles items (response_releases (numbered_id k) o m is k (same_id_refl (numbered_id k))) s)
stray_leaves_owner handles place (Number (negsuc k)) o m items is keeps stray s = message_leaves_owner handles place m items (λ number. keeps (own_key number)) (λ n. is n) s
stray_leaves_owner handles place (Name t) o m items is keeps stray s = message_leaves_owner handles place m items (λ number. keeps (own_key number)) (λ n. is n) s

-- an error without an id
pub nameless_error_leaves_owner : (handles : List OwnHandle) (place : ℕ) (code : ℤ) (text : List ℕ) (more : Option Tree) (items : List RpcItem) → OwnerStands handles items → OwnerStands handles (Got place (message.Error None code text more) ∷ items)
nameless_error_leaves_owner handles place code text more items s = message_leaves_owner handles place (message.Error None code text more) items (λ number. refl) (λ n. refl) s

-- handles of the peer

-- a call that answers no request and releases no handle
abbrev pub is_end_call : RpcCall → Bool
is_end_call (Respond id response) = true
is_end_call (Release key) = true
is_end_call call = false

call_ends_none : (call : RpcCall) → is_end_call call ≡ false → (number : ℕ) (until : Option Id) → ends_peer number until (Did call) ≡ false
call_ends_none (Respond id response) e number until = absurd (cc e)
call_ends_none (Release key) e number until = absurd (cc e)
call_ends_none call e number until = refl

pub call_leaves_holder : (held : List PeerHandle) (call : RpcCall) (items : List RpcItem) → is_end_call call ≡ false → HolderStands held items → HolderStands held (Did call ∷ items)
call_leaves_holder held call items keeps s = holding.passed held (Did call) items (λ number. refl) (call_ends_none call keeps) s

-- a release of an own handle
pub let_go_leaves_holder : (number : ℕ) (held : List PeerHandle) (items : List RpcItem) → HolderStands held items → HolderStands held (Did (Release (own_key number)) ∷ items)
let_go_leaves_holder number held items s = holding.passed held (Did (Release (own_key number))) items (λ k. refl) (λ k until. own_is_not_peer number k) s

-- a message that neither offers a handle nor releases one of the peer
pub message_leaves_holder : (held : List PeerHandle) (place : ℕ) (m : Message) (items : List RpcItem) → ((number : ℕ) → adoption number m items ≡ None) → ((number : ℕ) → releases (peer_key number) m ≡ false) → HolderStands held items → HolderStands held (Got place m ∷ items)
message_leaves_holder held place m items none keeps s = all_hold None [] place m held items (record { adopts = none; keeps = keeps }) s

-- a message that releases an own handle
pub release_leaves_holder : (number place : ℕ) (m : Message) (held : List PeerHandle) (items : List RpcItem) → IsRelease (own_key number) m → HolderStands held items → HolderStands held (Got place m ∷ items)
release_leaves_holder number place m held items is s =
    holding.passed held (Got place m) items (λ k. release_adopts (own_key number) k place m items is) (λ k until. release_releases (own_key number) (peer_key k) m is ∙ own_is_not_peer number k) s

-- a request that isn't asked, and releases nothing
pub unasked_leaves_holder : (held : List PeerHandle) (place : ℕ) (id : Id) (method : List ℕ) (params : Params) (items : List RpcItem) → asks (meaning method params) items ≡ false → ((key : HandleKey) → is_release key (meaning method params) ≡ false) → HolderStands held items → HolderStands held (Got place (Request id method params) ∷ items)
unasked_leaves_holder held place id method params items e keeps s =
    message_leaves_holder held place (Request id method params) items (λ number. ap (λ (b : Bool). if b then adopted_in number (Some id) (whole_arguments params) else None) e) (λ number. keeps (peer_key number)) s

-- a notification of an extension that releases nothing
pub notification_leaves_holder : (held : List PeerHandle) (place : ℕ) (method : List ℕ) (params : Params) (items : List RpcItem) → is_service (meaning method params) ≡ false → ((key : HandleKey) → is_release key (meaning method params) ≡ false) → HolderStands held items → HolderStands held (Got place (Notification method params) ∷ items)
notification_leaves_holder held place method params items e keeps s =
    message_leaves_holder held place (Notification method params) items (λ number. ap (λ (b : Bool). if b then adopted_in number None (whole_arguments params) else None) e) (λ number. keeps (peer_key number)) s

-- a result whose id names no unanswered request
pub stray_leaves_holder : (held : List PeerHandle) (place : ℕ) (id : Id) (value : Tree) (items : List RpcItem) → request_named id items ≡ None → HolderStands held items → HolderStands held (Got place (message.Result id value) ∷ items)
stray_leaves_holder held place id value items e s =
    message_leaves_holder held place (message.Result id value) items (λ number. ap (λ (r : Option ℕ). if is_some r then adopted_by number None (offered_in value) else None) e) (λ number. refl) s

-- an error
pub error_leaves_holder : (held : List PeerHandle) (place : ℕ) (id : Option Id) (code : ℤ) (text : List ℕ) (more : Option Tree) (items : List RpcItem) → HolderStands held items → HolderStands held (Got place (message.Error id code text more) ∷ items)
error_leaves_holder held place id code text more items s = message_leaves_holder held place (message.Error id code text more) items (λ number. refl) (λ number. refl) s
