-- What laws say of handles.
use Rattle.std.specs.Prelude.{◌≡◌, ℕ, ◌+◌, List, [], ◌∷◌, Bool, true, false, ◌||◌, if◌then◌else◌}
use Rattle.rpc_items.specs.declared.calls.HandleKey.{HandleKey}
use Rattle.rpc_items.specs.declared.calls.RpcEvent.{RpcEvent}
use Rattle.rpc_items.specs.declared.calls.Target.{Target}
use Rattle.rpc_items.specs.declared.calls.RpcEvent.TheVariants as event
use Rattle.rpc_items.specs.declared.calls.Target.TheVariants as target
use Rattle.rpc_items.specs.Keys.{same_key, own_key, peer_key}
use Rattle.rpc_items.specs.Items.{Invoke, Release, RpcItem, Did, Got}
use Rattle.rpc_items.specs.Handles.{has_ended}
use Rattle.rpc_items.specs.Events.{event_of}

-- whether an event tells that this handle is released
abbrev pub event_releases : HandleKey → RpcEvent → Bool
event_releases key (event.Released released) = same_key released key
event_releases key event = false

-- a release of a handle: a call, or a message that tells the service to drop its object
abbrev pub is_released_by : HandleKey → RpcItem → List RpcItem → Bool
is_released_by key (Did (Release released)) items = same_key released key
is_released_by key (Got place message) items = event_releases key (event_of message items)
is_released_by key item items = false

-- whether a target is the object of this handle
abbrev pub is_target : HandleKey → Target → Bool
is_target key target.Root = false
is_target key (target.Object object handle) = same_key (own_key handle) key

-- whether an event tells of a call on this handle
abbrev pub event_calls : HandleKey → RpcEvent → Bool
event_calls key (event.Asked id target method params) = is_target key target
event_calls key event = false

-- a call on a handle: by its holder, or of the peer on an object here
abbrev pub is_invoked_by : HandleKey → RpcItem → List RpcItem → Bool
is_invoked_by key (Did (Invoke handle method args expect)) items = same_key (peer_key handle) key
is_invoked_by key (Got place message) items = event_calls key (event_of message items)
is_invoked_by key item items = false

-- none of these items, where it came, released or invoked a handle that had ended
abbrev pub RestsAfterEnd : HandleKey → List RpcItem → Type 0
RestsAfterEnd key [] = Unit {0}
RestsAfterEnd key (item ∷ items) = (has_ended key items ≡ true → (is_released_by key item items || is_invoked_by key item items) ≡ false) × RestsAfterEnd key items

-- how often a handle was released
abbrev pub releases_of : HandleKey → List RpcItem → ℕ
releases_of key [] = 0
releases_of key (item ∷ items) = if is_released_by key item items then releases_of key items + 1 else releases_of key items
