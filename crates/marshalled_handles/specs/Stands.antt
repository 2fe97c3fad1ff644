-- When what is kept of handles stands for a list of items.
use Rattle.std.specs.Prelude.{◌≡◌, ℕ, ◌+◌, List, ◌==◌, length, Bool, false, slice_get, option_map, nat_lt, if◌then◌else◌, Option, Some, None}
use Rattle.wire_base.specs.Tree.{Tree}
use Rattle.wire_base.specs.declared.refusal.Refusal.{Refusal}
use Rattle.wire_base.specs.declared.refusal.Refusal.TheVariants as refusal
use Rattle.wire_base.specs.declared.text.Id.{Id}
use Rattle.rpc_items.specs.declared.calls.HandleKey.{HandleKey}
use Rattle.rpc_items.specs.declared.messages.Message.{Message}
use Rattle.rpc_items.specs.declared.messages.Message.TheVariants.{Request, Notification}
use Rattle.rpc_items.specs.declared.methods.Meaning.TheVariants.{Releases}
use Rattle.rpc_items.specs.Arguments.{most_drawn}
use Rattle.rpc_items.specs.Handles.{has_ended, is_live, is_made}
use Rattle.rpc_items.specs.Items.{RpcItem}
use Rattle.rpc_items.specs.Keys.{peer_key}
use Rattle.rpc_items.specs.Made.{Made, last_handle, made}
use Rattle.rpc_items.specs.Meanings.{meaning}
use Rattle.rpc_items.specs.Outcomes.{is_unanswered}
use Rattle.rpc_items.specs.OwnHandles.{own_ended, own_live, own_made, releases}
use Rattle.rpc_items.specs.PeerHandles.{Adopted, adopted, adopted_in, adoption, peer_ended}
use Rattle.marshalled_handles.specs.declared.own_handle.OwnHandle.{OwnHandle}
use Rattle.marshalled_handles.specs.declared.peer_handle.PeerHandle.{PeerHandle}
use Rattle.marshalled_handles.specs.Holder.{AreRising, found}
use Rattle.marshalled_handles.specs.Owner.{answered}
use Rattle.marshalled_handles.specs.Replies.{seen}

-- handles that this end made

-- what is kept of own handle n, by the object that was offered by it
abbrev pub own_after : ℕ → List RpcItem → Made → OwnHandle
own_after number items made = record { object = made.object; until = made.until; ended = own_ended number items }

-- the handle at a place, where handle 1 stands at 0
abbrev pub own_at : (place : ℕ) → List RpcItem → Option OwnHandle
own_at place items = option_map (own_after (place + 1) items) (slice_get (made items) place)

-- the handles are as these items leave them
pub record OwnerStands (handles : List OwnHandle) (items : List RpcItem) : Type 0 where
  pub count : length handles ≡ last_handle items
  pub each : (place : ℕ) → slice_get handles place ≡ own_at place items
  -- none that lives ends with a response that can't come
  pub late : (n : ℕ) → is_unanswered n items ≡ false → answered n handles ≡ handles

-- the object of own handle n, while it lives
abbrev pub own_object : ℕ → List RpcItem → Option ℕ
own_object number items = if own_live number items then option_map (λ made. made.object) (own_made number items) else None

-- why so many more handles can't be made
abbrev pub many_refusal : (count : ℕ) → List RpcItem → Option Refusal
many_refusal count items = if nat_lt most_drawn (last_handle items + count) then Some refusal.TooManyHandles else None

-- handles that the peer made

-- what is kept of peer handle n, by its adoption
abbrev pub held_after : ℕ → List RpcItem → Adopted → PeerHandle
held_after number items adopted = record { number = number; until = adopted.until; ended = peer_ended number items }

-- the handles of the peer are as these items leave them
pub record HolderStands (held : List PeerHandle) (items : List RpcItem) : Type 0 where
  pub each : (number : ℕ) → found number held ≡ option_map (held_after number items) (adopted number items)
  pub rising : AreRising held

-- after these items a message offers what these values do, and releases no handle of the peer
pub record Offers (request : Option Id) (values : List Tree) (message : Message) (items : List RpcItem) : Type 0 where
  pub adopts : (number : ℕ) → adoption number message items ≡ adopted_in number request values
  pub keeps : (number : ℕ) → releases (peer_key number) message ≡ false

-- after these items a message offers this handle alone, and releases none of the peer
pub record OffersOne (number : ℕ) (until : Option Id) (message : Message) (items : List RpcItem) : Type 0 where
  pub adopts : (n : ℕ) → adoption n message items ≡ (if number == n then Some (record { until = until }) else None)
  pub keeps : (n : ℕ) → releases (peer_key n) message ≡ false

-- handles of both sides

-- whether a handle has ended, where it was made or adopted
abbrev pub end_after : HandleKey → List RpcItem → Option Bool
end_after key items = seen (is_made key items) (has_ended key items)

-- a message that releases this handle
abbrev pub IsRelease : HandleKey → Message → Type 0
IsRelease key (Request id method params) = meaning method params ≡ Releases key
IsRelease key (Notification method params) = meaning method params ≡ Releases key
IsRelease key message = ⊥

-- whether a handle lives, where it was made or adopted
abbrev pub standing : HandleKey → List RpcItem → Option Bool
standing key items = if is_made key items then Some (is_live key items) else None
