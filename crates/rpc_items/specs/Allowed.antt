-- Lists of items in which every item was allowed where it stands.
use Rattle.std.specs.Prelude.{◌≡◌, List, [], ◌∷◌, true, None}
use Rattle.rpc_items.specs.Items.{RpcItem, Did, Got, End, is_running}
use Rattle.rpc_items.specs.Bodies.{Encoder}
use Rattle.rpc_items.specs.Refusals.{call_refusal, message_refusal}

-- a call was accepted, a message is one that no rule refuses, and the end comes once
abbrev pub IsAllowed : Encoder → RpcItem → List RpcItem → Type 0
IsAllowed k (Did call) items = call_refusal k call items ≡ None
IsAllowed k (Got place message) items = (is_running items ≡ true) × (message_refusal message items ≡ None)
IsAllowed k (End cause) items = is_running items ≡ true

-- every item was allowed where it stands
abbrev pub AreAllowed : Encoder → List RpcItem → Type 0
AreAllowed k [] = Unit {0}
AreAllowed k (item ∷ items) = IsAllowed k item items × AreAllowed k items
