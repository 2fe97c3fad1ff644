-- Messages that a value can tell.
use Rattle.std.specs.Prelude.{◌≡◌, true, Option, Some, None}
use Rattle.wire_base.specs.declared.text.Id.{Id}
use Rattle.rpc_items.specs.declared.messages.Message.{Message}
use Rattle.rpc_items.specs.declared.messages.Message.TheVariants.{Request, Notification}
use Rattle.rpc_items.specs.declared.messages.Message.TheVariants as message
use Rattle.rpc_items.specs.Ids.{is_id_number}
use Rattle.rpc_items.specs.Fitting.{IsNamed}

-- an id, where there is one, that a value can tell
abbrev pub IsNamedIf : Option Id → Type 0
IsNamedIf (Some id) = IsNamed id
IsNamedIf None = Unit {0}

-- the id of a message, where it has one, is one that a value can tell
abbrev pub HasNamedId : Message → Type 0
HasNamedId (Request id method params) = IsNamed id
HasNamedId (Notification method params) = Unit {0}
HasNamedId (message.Result id value) = IsNamed id
HasNamedId (message.Error id code text more) = IsNamedIf id

-- a message whose id and code a value can tell
abbrev pub CanBeTold : Message → Type 0
CanBeTold (Request id method params) = IsNamed id
CanBeTold (Notification method params) = Unit {0}
CanBeTold (message.Result id value) = IsNamed id
CanBeTold (message.Error id code text more) = IsNamedIf id × (is_id_number code ≡ true)
